-- The empty frames of two ends together.
use Rattle.std.proofs.Common.{◌≡◌, ℕ, zero, suc, ◌+◌, ◌-◌, ◌*◌, ◌≤◌, Bool, true, false, not, ◌&&◌, cond, List, [], ◌∷◌, ◌++◌, refl, subst, arith}
use Rattle.std.proofs.Math.Nat.{mul-le-mul_left}
use mathlib.Core.List.{IsPrefix}
use Rattle.smbd_base.specs.declared.end_id.EndId.TheVariants.{Client, Server}
use Rattle.smbd_base.specs.declared.event.Event.{Event}
use Rattle.smbd_base.specs.declared.event.Event.TheVariants.{Post, Submit, Emit, Take, Cut}
use Rattle.smbd_base.specs.Limits.{Limits, IsLawful}
use Rattle.smbd_base.specs.Counts.{frames_sent, frames_taken}
use Rattle.smbd_base.specs.DataFrame.{data_frame_of}
use Rattle.smbd_base.specs.History.{asks, pieces_sent}
use Rattle.smbd_base.specs.Joint.{AreJoint, emitted_frames, taken_frames}
use Rattle.smbd_base.proofs.Counting.{is_empty, silent_is, unheard_is}
use Rattle.empty_frames.specs.EmptyFrames.{empty_frames_sent, empty_answers_sent, empty_grants_sent, asking_frames_sent, asking_frames_taken, empty_frames_of_both, filled_frames_of_both, SendFewEmpty}
use Rattle.empty_frames.proofs.Answering.{answers_asked, answers_or_grants, sent_most, asking_sent}
use Rattle.empty_frames.proofs.Granting.{grants_taken}

-- ---- the frames that ask, as lists

-- the later frames that ask for a response
abbrev later_asking : List (List ℕ) → ℕ
later_asking [] = 0
later_asking (f ∷ frames) = cond (asks (data_frame_of f)) 1 0 + later_asking frames

-- the frames of an end that ask, from its second one on
abbrev asking_in : List (List ℕ) → ℕ
asking_in [] = 0
asking_in (f ∷ frames) = later_asking frames

later_asking-append : (frames more : List (List ℕ)) → later_asking (frames ++ more) ≡ later_asking frames + later_asking more
later_asking-append [] more = omega arith
later_asking-append (f ∷ frames) more = omega (arith, later_asking-append frames more)

asking_in-front : (frames more : List (List ℕ)) → asking_in frames ≤ asking_in (frames ++ more)
asking_in-front [] more = omega arith
asking_in-front (first ∷ frames) more = omega (arith, later_asking-append frames more)

more_by : (asked : Bool) (n : ℕ) → n + (cond asked 1 0 + 0) ≡ cond asked (n + 1) n
more_by true n = omega arith
more_by false n = omega arith

asking_in-more : (frames : List (List ℕ)) (f : List ℕ) → asking_in (frames ++ f ∷ []) ≡ cond (not (is_empty frames) && asks (data_frame_of f)) (asking_in frames + 1) (asking_in frames)
asking_in-more [] f = refl
asking_in-more (first ∷ frames) f = rw (later_asking-append frames (f ∷ [])) (more_by (asks (data_frame_of f)) (later_asking frames))

asking_sent_is : (past : List Event) → asking_frames_sent past ≡ asking_in (emitted_frames past)
asking_sent_is [] = refl
asking_sent_is (Post n ∷ past) = asking_sent_is past
asking_sent_is (Submit m ∷ past) = asking_sent_is past
asking_sent_is (Emit f ∷ past) = rw (asking_in-more (emitted_frames past) f, ← silent_is past, ← asking_sent_is past) refl
asking_sent_is (Take f ∷ past) = asking_sent_is past
asking_sent_is (Cut ∷ past) = asking_sent_is past

asking_taken_is : (past : List Event) → asking_frames_taken past ≡ asking_in (taken_frames past)
asking_taken_is [] = refl
asking_taken_is (Post n ∷ past) = asking_taken_is past
asking_taken_is (Submit m ∷ past) = asking_taken_is past
asking_taken_is (Emit f ∷ past) = asking_taken_is past
asking_taken_is (Take f ∷ past) = rw (asking_in-more (taken_frames past) f, ← unheard_is past, ← asking_taken_is past) refl
asking_taken_is (Cut ∷ past) = asking_taken_is past

-- an end took no more of them than its peer sent
taken_sent : (own peer : List Event) → IsPrefix (taken_frames own) (emitted_frames peer) → asking_frames_taken own ≤ asking_frames_sent peer
taken_sent own peer front =
    let part : asking_in (taken_frames own) ≤ asking_in (emitted_frames peer) =
    subst (λ (fs : List (List ℕ)). asking_in (taken_frames own) ≤ asking_in fs) front.1 (asking_in-front (taken_frames own) front.0) in
    omega (arith, part, asking_taken_is own, asking_sent_is peer)

-- ---- the sum

-- what is known of the empty frames of one end, and what its peer sent
record AreFew (least empty answers grants filled_there empty_there : ℕ) : Type 0 where
  all : empty ≡ answers + grants
  by_asking : answers ≤ filled_there
  by_frames : (least - 1) * grants ≤ empty_there + filled_there + 1 + (least - 1)

sum_by : (least e a g d e' a' g' d' : ℕ) → AreFew least e a g d' e' → AreFew least e' a' g' d e → (least - 2) * (e + e') ≤ least * (d + d') + 2 * least
sum_by zero e a g d e' a' g' d' h h' = omega arith
sum_by (suc zero) e a g d e' a' g' d' h h' = omega arith
sum_by (suc (suc j)) e a g d e' a' g' d' h h' =
    let one : suc (suc j) - 1 ≡ j + 1 = omega arith in
    let two : suc (suc j) - 2 ≡ j = omega arith in
    let few : (j + 1) * g ≤ e' + d' + 1 + (j + 1) = rw one at h.by_frames in
    let few' : (j + 1) * g' ≤ e + d + 1 + (j + 1) = rw one at h'.by_frames in
    let most : (j + 1) * (a + a') ≤ (j + 1) * (d + d') = mul-le-mul_left (j + 1) (omega (arith, h.by_asking, h'.by_asking)) in
    let all : (j + 1) * (e + e') ≡ (j + 1) * (a + a') + (j + 1) * g + (j + 1) * g' = rw (h.all, h'.all) (omega arith) in
    rw two (omega arith)

few_one : (least taken sent empty answers grants asked filled_there empty_there : ℕ) → empty ≡ answers + grants → answers ≤ asked → asked ≤ filled_there
    → (least - 1) * grants ≤ taken + (least - 1) → taken ≤ sent → sent ≤ empty_there + filled_there + 1 → AreFew least empty answers grants filled_there empty_there
few_one least taken sent empty answers grants asked filled_there empty_there all one two three four five =
    record { all = all; by_asking = omega arith; by_frames = omega arith }

pub bounded : (client_limits server_limits : Limits) (client server : List Event) (least : ℕ) → IsLawful client_limits → IsLawful server_limits
    → AreJoint client_limits server_limits client server → least ≤ client_limits.credits → least ≤ server_limits.credits
    → (least - 2) * empty_frames_of_both client server ≤ least * filled_frames_of_both client server + 2 * least
bounded client_limits server_limits client server least lawful lawful' j within within' =
    let l = j.linked in
    sum_by least (empty_frames_sent client) (empty_answers_sent client) (empty_grants_sent client) (pieces_sent client)
    (empty_frames_sent server) (empty_answers_sent server) (empty_grants_sent server) (pieces_sent server)
    (few_one least (frames_taken Client client) (frames_sent server) (empty_frames_sent client) (empty_answers_sent client) (empty_grants_sent client)
    (asking_frames_taken client) (pieces_sent server) (empty_frames_sent server)
    (answers_or_grants client) (answers_asked client) (omega (arith, taken_sent client server l.to_client, asking_sent Server server_limits server lawful' l.server_legal))
    (grants_taken Client client_limits client least lawful l.client_legal within) j.client_credits.flight (sent_most Server server_limits server lawful' l.server_legal))
    (few_one least (frames_taken Server server) (frames_sent client) (empty_frames_sent server) (empty_answers_sent server) (empty_grants_sent server)
    (asking_frames_taken server) (pieces_sent client) (empty_frames_sent client)
    (answers_or_grants server) (answers_asked server) (omega (arith, taken_sent server client l.to_server, asking_sent Client client_limits client lawful l.client_legal))
    (grants_taken Server server_limits server least lawful' l.server_legal within') j.server_credits.flight (sent_most Client client_limits client lawful l.client_legal))

-- lawful limits have 3 credits
pub bounded_lawful : (client_limits server_limits : Limits) (client server : List Event) → IsLawful client_limits → IsLawful server_limits
    → AreJoint client_limits server_limits client server → empty_frames_of_both client server ≤ 3 * filled_frames_of_both client server + 6
bounded_lawful client_limits server_limits client server lawful lawful' j =
    omega (arith, bounded client_limits server_limits client server 3 lawful lawful' j lawful.credits.0 lawful'.credits.0)

pub few_empty : (client_limits server_limits : Limits) (client server : List Event) → IsLawful client_limits → IsLawful server_limits
    → AreJoint client_limits server_limits client server → SendFewEmpty client_limits server_limits client server
few_empty client_limits server_limits client server lawful lawful' j = record {
  any = λ least within within'. bounded client_limits server_limits client server least lawful lawful' j within within';
  lawful = bounded_lawful client_limits server_limits client server lawful lawful' j;
}
