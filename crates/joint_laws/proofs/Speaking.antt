-- Who has spoken, and what a past says in which no frame was refused.
use Rattle.std.proofs.Common.{◌≡◌, ℕ, ◌+◌, nat_lt, Bool, true, false, ◌&&◌, cond, List, [], ◌∷◌, ◌++◌, length, Option, None, Some, is_some, refl, ap, sym, ◌∙◌, arith}
use Rattle.std.proofs.lemmas.List.{length-append}
use mathlib.Core.List.{IsPrefix}
use Rattle.smbd_base.specs.declared.end_id.EndId.{EndId}
use Rattle.smbd_base.specs.declared.end_id.EndId.TheVariants.{Server}
use Rattle.smbd_base.specs.declared.event.Event.{Event}
use Rattle.smbd_base.specs.declared.event.Event.TheVariants.{Post, Submit, Emit, Take, Cut}
use Rattle.smbd_base.specs.declared.faults.TakeFault.{TakeFault}
use Rattle.smbd_base.specs.declared.faults.TakeFault.TheVariants as faults
use Rattle.smbd_base.specs.declared.faults.NegotiateFault.{NegotiateFault}
use Rattle.smbd_base.specs.declared.faults.NegotiateFault.TheVariants.{Short}
use Rattle.smbd_base.specs.Limits.{Limits}
use Rattle.smbd_base.specs.NegotiateMessages.{request_fields, request_fault, fault_in_request, IsLawfulRequest}
use Rattle.smbd_base.specs.DataFrame.{data_frame_of}
use Rattle.smbd_base.specs.Counts.{frames_taken, is_silent, is_unheard, is_out_of_turn}
use Rattle.smbd_base.specs.History.{take_fault, fault_expecting, negotiate_fault, data_fault, bytes_expected, peer_negotiation, is_version_fault, is_server, is_version_refused, IsLegal}
use Rattle.smbd_base.specs.Joint.{AreAccepted, emitted_frames, taken_frames}
use Rattle.smbd_base.proofs.Hearing.{spoken_heard}
use Rattle.smbd_base.proofs.Inversion.{in_turn}
use Rattle.smbd_base.proofs.NegotiationLaws.{lawful_request}
use Rattle.smbd_base.proofs.Counting.{is_empty, silent_is, unheard_is}

is_empty-front : {A : Type 0} (xs ys : List A) → is_empty (xs ++ ys) ≡ true → is_empty xs ≡ true
is_empty-front [] ys none = refl
is_empty-front (x ∷ xs) ys none = absurd cc

-- a server is silent as long as the client is
pub both_silent : (limits : Limits) (client server : List Event) → IsLegal Server limits server → IsPrefix (taken_frames server) (emitted_frames client)
    → is_silent client ≡ true → is_silent server ≡ true
both_silent limits client server legal front silent = by_test (is_silent server) refl where
  unheard : is_unheard server ≡ true
  unheard = unheard_is server
      ∙ is_empty-front (taken_frames server) front.0 (ap (λ (fs : List (List ℕ)). is_empty fs) front.1 ∙ sym (silent_is client) ∙ silent)

  by_test : (t : Bool) → is_silent server ≡ t → is_silent server ≡ true
  by_test true is = is
  by_test false is = let h = spoken_heard limits server legal is in let u = unheard in absurd (let b : ⊥ = cc in b)

-- ---- no frame was refused

accepted_turn : (side : EndId) (limits : Limits) (past : List Event) (f : List ℕ) → take_fault side limits past f ≡ None → is_out_of_turn side past ≡ false
accepted_turn side limits past f accepted = in_turn side limits past f (ap (λ (o : Option TakeFault). is_some o) accepted)

-- each frame that was taken counts
pub taken_is : (side : EndId) (limits : Limits) (past : List Event) → AreAccepted side limits past → frames_taken side past ≡ length (taken_frames past)
taken_is side limits [] accepted = refl
taken_is side limits (Post n ∷ past) accepted = taken_is side limits past accepted
taken_is side limits (Submit m ∷ past) accepted = taken_is side limits past accepted
taken_is side limits (Emit f ∷ past) accepted = taken_is side limits past accepted
taken_is side limits (Take f ∷ past) accepted =
    let here : frames_taken side (Take f ∷ past) ≡ frames_taken side past + 1 =
    ap (λ (t : Bool). cond t (frames_taken side past) (frames_taken side past + 1)) (accepted_turn side limits past f accepted.0) in
    omega (arith, here, taken_is side limits past accepted.1, length-append (taken_frames past) (f ∷ []))
taken_is side limits (Cut ∷ past) accepted = taken_is side limits past accepted

-- a server refused no request of another version
pub no_version_refused : (side : EndId) (limits : Limits) (past : List Event) → AreAccepted side limits past → is_version_refused side limits past ≡ false
no_version_refused side limits [] accepted = refl
no_version_refused side limits (Post n ∷ past) accepted = no_version_refused side limits past accepted
no_version_refused side limits (Submit m ∷ past) accepted = no_version_refused side limits past accepted
no_version_refused side limits (Emit f ∷ past) accepted = no_version_refused side limits past accepted
no_version_refused side limits (Take f ∷ past) accepted = ap (λ (o : Option TakeFault). is_version_fault o && is_server side) accepted.0
no_version_refused side limits (Cut ∷ past) accepted = no_version_refused side limits past accepted

-- ---- the request that a server took

request_by : (turn long unheard : Bool) (over : TakeFault) (fault : Option NegotiateFault) (later : Option TakeFault)
    → cond turn (Some faults.OutOfTurn) (cond long (Some over) (cond unheard (negotiate_fault fault) later)) ≡ None → unheard ≡ true → fault ≡ None
request_by true long unheard over fault later e is = absurd cc
request_by false true unheard over fault later e is = absurd cc
request_by false false true over None later e is = refl
request_by false false true over (Some fault) later e is = absurd cc
request_by false false false over fault later e is = absurd cc

first_accepted : (limits : Limits) (past : List Event) (f : List ℕ) → take_fault Server limits past f ≡ None → is_unheard past ≡ true → request_fault f ≡ None
unfolding take_fault fault_expecting
first_accepted limits past f accepted unheard =
    request_by (is_out_of_turn Server past) (nat_lt limits.receive_size (length f)) (is_unheard past)
    (faults.Oversize (length f) limits.receive_size) (request_fault f) (data_fault limits.fragmented_size (bytes_expected Server limits past) (data_frame_of f)) accepted unheard

faultless_by : (short : Bool) (fault : Option NegotiateFault) → cond short (Some Short) fault ≡ None → fault ≡ None
faultless_by true fault e = absurd cc
faultless_by false fault e = e

faultless : (f : List ℕ) → request_fault f ≡ None → IsLawfulRequest (request_fields f)
unfolding request_fault
faultless f e = lawful_request (request_fields f) (faultless_by (nat_lt (length f) 20) (fault_in_request (request_fields f)) e)

-- it keeps the bounds of a request
pub request_taken : (limits : Limits) (past : List Event) → AreAccepted Server limits past → is_unheard past ≡ false → IsLawfulRequest (request_fields (peer_negotiation past))
request_taken limits [] accepted some = absurd cc
request_taken limits (Post n ∷ past) accepted some = request_taken limits past accepted some
request_taken limits (Submit m ∷ past) accepted some = request_taken limits past accepted some
request_taken limits (Emit f ∷ past) accepted some = request_taken limits past accepted some
request_taken limits (Take f ∷ past) accepted some = by_test (is_unheard past) refl (request_taken limits past accepted.1) where
  by_test : (t : Bool) → is_unheard past ≡ t → (is_unheard past ≡ false → IsLawfulRequest (request_fields (peer_negotiation past)))
      → IsLawfulRequest (request_fields (cond t f (peer_negotiation past)))
  by_test true is before = faultless f (first_accepted limits past f accepted.0 is)
  by_test false is before = before is
request_taken limits (Cut ∷ past) accepted some = request_taken limits past accepted some
