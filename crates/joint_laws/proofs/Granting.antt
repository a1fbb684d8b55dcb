-- A frame that spends a credit grants one, or leaves one.
use Rattle.std.proofs.Common.{◌≡◌, ◌⊎◌, inl, inr, ℕ, ◌+◌, ◌≤◌, ◌<◌, ◌==◌, nat_le, min, Bool, true, false, not, ◌||◌, cond, List, length, refl, ap, subst, sym, ◌∙◌, arith}
use Rattle.std.proofs.lemmas.Bool.Decides.{nat_tests}
use mathlib.Core.List.{IsPrefix}
use Rattle.smbd_base.specs.declared.end_id.EndId.{EndId}
use Rattle.smbd_base.specs.declared.end_id.EndId.TheVariants.{Client, Server}
use Rattle.smbd_base.specs.declared.event.Event.{Event}
use Rattle.smbd_base.specs.Limits.{Limits, IsLawful}
use Rattle.smbd_base.specs.Balance.{IsBalanced, receives_due}
use Rattle.smbd_base.specs.Grant.{credits_in}
use Rattle.smbd_base.specs.NegotiateMessages.{Request, request_fields, response_bytes, answer_to, refusing_response}
use Rattle.smbd_base.specs.Counts.{credits_held, receives_outstanding, receives_grantable, is_silent, is_unheard, peer_of}
use Rattle.smbd_base.specs.History.{negotiation_frame, frame_due, peer_negotiation, pieces_waiting, is_response_owed, is_agreed, is_closed, is_negotiating, is_sending, is_version_refused, sends, IsLegal}
use Rattle.smbd_base.specs.Joint.{AreAccepted, emitted_frames, taken_frames}
use Rattle.smbd_base.proofs.BalanceLemmas.{granted-data_frame_due}
use Rattle.smbd_base.proofs.Inversion.{Emits, both, from_not, sending_parts}
use Rattle.smbd_base.proofs.NegotiationLaws.{credits_in-response_bytes, fits-answer}
use Rattle.joint_laws.proofs.Speaking.{both_silent, no_version_refused, request_taken}

-- The frame grants a credit, or a credit is left at one of the ends once it has spent its own.
pub record LeavesOne (grant held held_there : ℕ) : Type 0 where
  pub why : (1 ≤ grant) ⊎ (2 ≤ held + held_there)

-- ---- a data transfer message

-- the last credit is kept for a frame that grants some
keeps_last : (held outstanding grantable there : ℕ) (waits owes : Bool) → sends held outstanding grantable waits owes ≡ true → LeavesOne grantable held there
keeps_last held outstanding grantable there waits owes e =
    let parts = both _ _ e in
    let one : nat_le 1 held ≡ true = (both _ _ parts.0).0 in
    by_test (held == 1) refl parts.1 (grind (arith, nat_tests)) where
      by_test : (last : Bool) → (held == 1) ≡ last → (not last || nat_le 1 grantable) ≡ true → 1 ≤ held → LeavesOne grantable held there
      by_test true is may some = record { why = inl (grind (arith, nat_tests)) }
      by_test false is may some = record { why = inr (grind (arith, nat_tests)) }

-- ---- the negotiation response

-- a server that has taken a request can grant a credit
can_grant : (limits : Limits) (past : List Event) (f : List ℕ) → IsLawful limits → IsBalanced Server limits past → Emits Server limits past f → is_silent past ≡ true
    → 1 ≤ receives_grantable Server past
can_grant limits past f lawful b e silent =
    let none : receives_due past ≡ 0 = ap (λ (t : Bool). cond t 1 0) e.post_due in
    omega (arith, none, b.reposted e.going.cut e.going.closed, b.silent_granted silent, lawful.credits.0)

response_is : (version : Bool) (first second : List ℕ) → version ≡ false → cond version first second ≡ second
response_is version first second is = rw is refl

grants_one : (limits : Limits) (past : List Event) (f : List ℕ) → IsLawful limits → IsBalanced Server limits past → AreAccepted Server limits past
    → Emits Server limits past f → is_silent past ≡ true → is_unheard past ≡ false → 1 ≤ credits_in Server true (negotiation_frame Server limits past)
grants_one limits past f lawful b accepted e silent heard =
    let request : Request = request_fields (peer_negotiation past) in
    let grantable : ℕ = receives_grantable Server past in
    let some : 1 ≤ receives_grantable Server past = can_grant limits past f lawful b e silent in
    let small : receives_grantable Server past < 65536 = omega (arith, b.posted, b.taken, lawful.credits.1) in
    let asked : 1 ≤ (request_fields (peer_negotiation past)).credits_requested = (request_taken limits past accepted heard).credits_requested in
    let granted : credits_in Server true (response_bytes (answer_to (request_fields (peer_negotiation past)) limits (receives_grantable Server past)))
    ≡ min (request_fields (peer_negotiation past)).credits_requested (receives_grantable Server past) =
    credits_in-response_bytes (answer_to (request_fields (peer_negotiation past)) limits (receives_grantable Server past))
    (fits-answer limits (request_fields (peer_negotiation past)) (receives_grantable Server past) lawful small) in
    let is = response_is (is_version_refused Server limits past) (response_bytes refusing_response)
    (response_bytes (answer_to (request_fields (peer_negotiation past)) limits (receives_grantable Server past))) (no_version_refused Server limits past accepted) in
    let one : 1 ≤ credits_in Server true (response_bytes (answer_to (request_fields (peer_negotiation past)) limits (receives_grantable Server past))) = omega (arith, granted, some, asked) in
    subst (λ (g : List ℕ). 1 ≤ credits_in Server true g) (sym is) one

-- ---- any frame

-- the opening frame: with a request the client spends a credit, and leaves that of the server, which is silent
leaves_first : (side : EndId) (limits peer_limits : Limits) (own peer : List Event) (f : List ℕ) → IsLawful limits → IsBalanced side limits own → IsBalanced (peer_of side) peer_limits peer
    → AreAccepted side limits own → IsLegal (peer_of side) peer_limits peer → IsPrefix (taken_frames peer) (emitted_frames own) → Emits side limits own f → is_negotiating side own ≡ true
    → LeavesOne (credits_in side (is_silent own) (negotiation_frame side limits own)) (credits_held side own) (credits_held (peer_of side) peer)
leaves_first Client limits peer_limits own peer f lawful b b' accepted legal to_peer e opening =
    record { why = inr (omega (arith, b.silent_held opening, b'.silent_held (both_silent peer_limits own peer legal to_peer opening))) }
leaves_first Server limits peer_limits own peer f lawful b b' accepted legal to_peer e opening =
    let parts = both (is_silent own) _ opening in
    let one = grants_one limits own f lawful b accepted e parts.0 (from_not (is_unheard own) parts.1) in
    record { why = inl (subst (λ (t : Bool). 1 ≤ credits_in Server t (negotiation_frame Server limits own)) (sym parts.0) one) }

leaves_later : (side : EndId) (limits : Limits) (own : List Event) (there : ℕ) → IsLawful limits → IsBalanced side limits own → is_closed side limits own ≡ false
    → is_sending side limits own ≡ true → LeavesOne (credits_in side (is_silent own) (frame_due side limits own)) (credits_held side own) there
leaves_later side limits own there lawful b going sending =
    let small : receives_grantable side own < 65536 = omega (arith, b.posted, b.taken, lawful.credits.1) in
    let spoken : is_silent own ≡ false = (sending_parts side limits own going sending).spoken in
    let is : credits_in side (is_silent own) (frame_due side limits own) ≡ receives_grantable side own =
    ap (λ (t : Bool). credits_in side t (frame_due side limits own)) spoken
    ∙ granted-data_frame_due side limits (credits_held side own) (receives_grantable side own) (pieces_waiting side limits own) small in
    subst (λ (n : ℕ). LeavesOne n (credits_held side own) there) (sym is)
    (keeps_last (credits_held side own) (receives_outstanding side own) (receives_grantable side own) there
    (not (length (pieces_waiting side limits own) == 0)) (is_response_owed own) (both (is_agreed side limits own) _ sending).1)

pub leaves : (side : EndId) (limits peer_limits : Limits) (own peer : List Event) (f : List ℕ) → IsLawful limits → IsBalanced side limits own → IsBalanced (peer_of side) peer_limits peer
    → AreAccepted side limits own → IsLegal (peer_of side) peer_limits peer → IsPrefix (taken_frames peer) (emitted_frames own) → Emits side limits own f
    → LeavesOne (credits_in side (is_silent own) f) (credits_held side own) (credits_held (peer_of side) peer)
leaves side limits peer_limits own peer f lawful b b' accepted legal to_peer e =
    elim e.chosen.why as (λ _. LeavesOne (credits_in side (is_silent own) f) (credits_held side own) (credits_held (peer_of side) peer)) [
      | inl first ↦
          subst (λ (g : List ℕ). LeavesOne (credits_in side (is_silent own) g) (credits_held side own) (credits_held (peer_of side) peer)) first.1
          (leaves_first side limits peer_limits own peer f lawful b b' accepted legal to_peer e first.0)
      | inr later ↦
          subst (λ (g : List ℕ). LeavesOne (credits_in side (is_silent own) g) (credits_held side own) (credits_held (peer_of side) peer)) later.2
          (leaves_later side limits own (credits_held (peer_of side) peer) lawful b e.going.closed later.1)
    ]
