-- The empty frames that an end sends while no response is owed: each grants nearly all its receives.
use Rattle.std.proofs.Common.{◌≡◌, ℕ, ◌+◌, ◌-◌, ◌*◌, ◌≤◌, ◌<◌, ◌==◌, nat_le, Bool, true, false, not, ◌&&◌, ◌||◌, cond, List, [], ◌∷◌, length, refl, ap, sym, ◌∙◌, arith}
use Rattle.std.proofs.lemmas.Bool.Decides.{nat_tests}
use Rattle.smbd_base.specs.declared.end_id.EndId.{EndId}
use Rattle.smbd_base.specs.declared.event.Event.{Event}
use Rattle.smbd_base.specs.declared.event.Event.TheVariants.{Post, Submit, Emit, Take, Cut}
use Rattle.smbd_base.specs.Limits.{Limits, IsLawful}
use Rattle.smbd_base.specs.Balance.{receives_due}
use Rattle.smbd_base.specs.Grant.{credits_in}
use Rattle.smbd_base.specs.Pieces.{Piece}
use Rattle.smbd_base.specs.Counts.{frames_taken, credits_granted, credits_held, receives_outstanding, receives_grantable, is_silent, is_out_of_turn}
use Rattle.smbd_base.specs.DataFrame.{data_frame_of}
use Rattle.smbd_base.specs.History.{is_agreed, is_response_owed, pieces_waiting, sends, IsLegal}
use Rattle.smbd_base.proofs.BalanceLemmas.{balanced, granted-data_frame_due}
use Rattle.smbd_base.proofs.Counting.{is_empty}
use Rattle.smbd_base.proofs.Inversion.{Emits, emits, both, from_not}
use Rattle.empty_frames.specs.EmptyFrames.{is_empty_message, is_sent_empty, empty_grants_sent}
use Rattle.empty_frames.proofs.Reading.{sends_data}

-- ---- one frame

few_by : (held outstanding grantable : ℕ) (waits owes : Bool) → sends held outstanding grantable waits owes ≡ true → waits ≡ false → owes ≡ false → outstanding ≤ 1
few_by held outstanding grantable true owes e none free = absurd cc
few_by held outstanding grantable false true e none free = absurd cc
few_by held outstanding grantable false false e none free =
    let parts = both (nat_le 1 held && (false || false || (nat_le outstanding 1 && nat_le 1 grantable))) (not (held == 1) || nat_le 1 grantable) e in
    let later = both (nat_le 1 held) (false || false || (nat_le outstanding 1 && nat_le 1 grantable)) parts.0 in
    let few : nat_le outstanding 1 ≡ true = (both (nat_le outstanding 1) (nat_le 1 grantable) later.1).0 in
    grind (arith, nat_tests)

none_waits : (waiting : List Piece) → is_empty waiting ≡ true → not (length waiting == 0) ≡ false
none_waits [] e = refl
none_waits (p ∷ later) e = absurd cc

-- a data transfer message grants all that can be granted
pub grants_all : (side : EndId) (limits : Limits) (past : List Event) (frame : List ℕ) → IsLawful limits → IsLegal side limits past → Emits side limits past frame
    → is_silent past ≡ false → credits_in side false frame + receives_outstanding side past ≡ limits.credits
grants_all side limits past frame lawful legal e spoken =
    let b = balanced side limits past lawful legal e.going.opened in
    let s = sends_data side limits past frame lawful legal e spoken in
    let small : receives_grantable side past < 65536 = omega (arith, b.posted, b.taken, lawful.credits.1) in
    let grant : credits_in side false frame ≡ receives_grantable side past =
    ap (λ (f : List ℕ). credits_in side false f) (sym s.is)
    ∙ granted-data_frame_due side limits (credits_held side past) (receives_grantable side past) (pieces_waiting side limits past) small in
    let nothing_due : receives_due past ≡ 0 = rw e.post_due refl in
    omega (arith, grant, nothing_due, b.reposted e.going.cut e.going.closed, b.granted, b.taken)

-- an empty one that answers nothing goes out when the peer has few credits left
pub few_left : (side : EndId) (limits : Limits) (past : List Event) (frame : List ℕ) → IsLawful limits → IsLegal side limits past → Emits side limits past frame
    → is_silent past ≡ false → is_empty_message (data_frame_of frame) ≡ true → is_response_owed past ≡ false → receives_outstanding side past ≤ 1
few_left side limits past frame lawful legal e spoken empty free =
    let s = sends_data side limits past frame lawful legal e spoken in
    few_by (credits_held side past) (receives_outstanding side past) (receives_grantable side past) (not (length (pieces_waiting side limits past) == 0))
    (is_response_owed past) (both (is_agreed side limits past) _ s.sending).1 (none_waits (pieces_waiting side limits past) (sym s.read.empty ∙ empty)) free

-- ---- all of them

-- such a frame grants at least so many credits, and before it the peer had at most one left
record GrantsMany (k grant granted taken : ℕ) : Type 0 where
  many : k ≤ grant
  few : granted ≤ taken + 1

-- so many credits were granted by them, and nearly as many frames were taken
record AreCounted (k grants granted taken : ℕ) : Type 0 where
  by_grants : k * grants + 1 ≤ granted
  by_frames : k * grants ≤ taken + k

emit_by : (counted : Bool) (k grants granted taken grant : ℕ) → (counted ≡ true → GrantsMany k grant granted taken) → AreCounted k grants granted taken
    → AreCounted k (cond counted (grants + 1) grants) (granted + grant) taken
emit_by true k grants granted taken grant many h =
    let m = many refl in
    record { by_grants = omega (arith, m.many, h.by_grants); by_frames = omega (arith, m.few, h.by_grants) }
emit_by false k grants granted taken grant many h = record { by_grants = omega (arith, h.by_grants); by_frames = h.by_frames }

take_by : (turn : Bool) (k grants granted taken : ℕ) → AreCounted k grants granted taken → AreCounted k grants granted (cond turn taken (taken + 1))
take_by true k grants granted taken h = h
take_by false k grants granted taken h = record { by_grants = h.by_grants; by_frames = omega (arith, h.by_frames) }

counted_emit : (side : EndId) (limits : Limits) (past : List Event) (f : List ℕ) (k : ℕ) → IsLawful limits → IsLegal side limits past → Emits side limits past f
    → k + 1 ≤ limits.credits → (is_sent_empty past f && not (is_response_owed past)) ≡ true
    → GrantsMany k (credits_in side (is_silent past) f) (credits_granted side past) (frames_taken side past)
counted_emit side limits past f k lawful legal e least counted =
    let parts = both (is_sent_empty past f) (not (is_response_owed past)) counted in
    let kind = both (not (is_silent past)) (is_empty_message (data_frame_of f)) parts.0 in
    let spoken : is_silent past ≡ false = from_not (is_silent past) kind.0 in
    let few = few_left side limits past f lawful legal e spoken kind.1 (from_not (is_response_owed past) parts.1) in
    let all = grants_all side limits past f lawful legal e spoken in
    let b = balanced side limits past lawful legal e.going.opened in
    record { many = rw spoken (omega (arith, few, all)); few = omega (arith, few, b.taken) }

counted : (side : EndId) (limits : Limits) (past : List Event) (k : ℕ) → IsLawful limits → IsLegal side limits past → k + 1 ≤ limits.credits
    → AreCounted k (empty_grants_sent past) (credits_granted side past) (frames_taken side past)
counted side limits [] k lawful legal least = record { by_grants = omega arith; by_frames = omega arith }
counted side limits (Post n ∷ past) k lawful legal least = counted side limits past k lawful legal.1 least
counted side limits (Submit m ∷ past) k lawful legal least = counted side limits past k lawful legal.1 least
counted side limits (Emit f ∷ past) k lawful legal least =
    emit_by (is_sent_empty past f && not (is_response_owed past)) k (empty_grants_sent past) (credits_granted side past) (frames_taken side past)
    (credits_in side (is_silent past) f)
    (counted_emit side limits past f k lawful legal.1 (emits side limits past f legal.0) least) (counted side limits past k lawful legal.1 least)
counted side limits (Take f ∷ past) k lawful legal least =
    take_by (is_out_of_turn side past) k (empty_grants_sent past) (credits_granted side past) (frames_taken side past) (counted side limits past k lawful legal.1 least)
counted side limits (Cut ∷ past) k lawful legal least = counted side limits past k lawful legal.1 least

pub grants_taken : (side : EndId) (limits : Limits) (past : List Event) (least : ℕ) → IsLawful limits → IsLegal side limits past → least ≤ limits.credits
    → (least - 1) * empty_grants_sent past ≤ frames_taken side past + (least - 1)
grants_taken side limits past least lawful legal within =
    (counted side limits past (least - 1) lawful legal (omega (arith, lawful.credits.0))).by_frames
