-- What an end has settled with its peer, and that it stays settled.
use Rattle.std.proofs.Common.{◌≡◌, inl, inr, ℕ, ◌<◌, Bool, true, false, not, cond, List, [], ◌∷◌, ◌++◌, Option, Some, None, is_none, refl, sym, ◌∙◌, lit≤, lit<, arith}
use mathlib.Core.List.{IsPrefix}
use Rattle.std.proofs.lemmas.Bool.{cases_Bool}
use Rattle.smbd_base.specs.declared.end_id.EndId.{EndId}
use Rattle.smbd_base.specs.declared.end_id.EndId.TheVariants.{Client, Server}
use Rattle.smbd_base.specs.declared.event.Event.{Event}
use Rattle.smbd_base.specs.declared.event.Event.TheVariants.{Post, Submit, Emit, Take, Cut}
use Rattle.smbd_base.specs.declared.agreed.Agreed.{Agreed}
use Rattle.smbd_base.specs.declared.faults.NegotiateFault.{NegotiateFault}
use Rattle.smbd_base.specs.Limits.{Limits, IsLawful}
use Rattle.smbd_base.specs.Counts.{is_silent, is_unheard, peer_of}
use Rattle.smbd_base.specs.Joint.{emitted_frames, taken_frames}
use Rattle.smbd_base.specs.NegotiateMessages.{request_fields, request_fault, response_fields, response_fault, fault_in_request, fault_in_response, IsLawfulAgreement}
use Rattle.smbd_base.specs.History.{negotiation_fault, take_fault, peer_negotiation, settled, settled_by, is_agreed, is_welcomed, IsLegal}
use Rattle.smbd_base.proofs.Hearing.{welcomed_heard}
use Rattle.smbd_base.proofs.Inversion.{both}
use Rattle.smbd_base.proofs.NegotiationLaws.{lawful_request, lawful_response, lawful_agreement_with_client, lawful_agreement_with_server}
use Rattle.smbd_laws.proofs.Opening.{IsWithinPeer, told, first_sent, heard_first, front_first}
use Rattle.smbd_laws.proofs.Refusing.{accepted_first}

sound_by : (side : EndId) (limits : Limits) (past : List Event) (f : List ℕ) (unheard : Bool) → is_unheard past ≡ unheard
    → cond unheard (is_none (take_fault side limits past f)) (is_welcomed side limits past) ≡ true
    → (is_welcomed side limits past ≡ true → negotiation_fault side limits (peer_negotiation past) ≡ None) → negotiation_fault side limits (cond unheard f (peer_negotiation past)) ≡ None
sound_by side limits past f true is w was = accepted_first side limits past f w is
sound_by side limits past f false is w was = was w

-- its peer's opening frame has no fault
pub welcomed_sound : (side : EndId) (limits : Limits) (past : List Event) → is_welcomed side limits past ≡ true → negotiation_fault side limits (peer_negotiation past) ≡ None
welcomed_sound side limits [] w = absurd cc
welcomed_sound side limits (Post n ∷ past) w = welcomed_sound side limits past w
welcomed_sound side limits (Submit m ∷ past) w = welcomed_sound side limits past w
welcomed_sound side limits (Emit f ∷ past) w = welcomed_sound side limits past w
welcomed_sound side limits (Take f ∷ past) w = sound_by side limits past f (is_unheard past) refl w (welcomed_sound side limits past)
welcomed_sound side limits (Cut ∷ past) w = welcomed_sound side limits past w

-- ---- a negotiation message without a fault

long_enough : (short : Bool) (fault : NegotiateFault) (o : Option NegotiateFault) → cond short (Some fault) o ≡ None → o ≡ None
long_enough true fault o e = absurd cc
long_enough false fault o e = e

sound_request : (bytes : List ℕ) → request_fault bytes ≡ None → fault_in_request (request_fields bytes) ≡ None
unfolding request_fault
sound_request bytes e = long_enough _ _ (fault_in_request (request_fields bytes)) e

sound_response : (limits : Limits) (bytes : List ℕ) → response_fault limits bytes ≡ None → fault_in_response limits (response_fields bytes) ≡ None
unfolding response_fault
sound_response limits bytes e = long_enough _ _ (fault_in_response limits (response_fields bytes)) e

-- what it settles is lawful
lawful_settled : (side : EndId) (limits : Limits) (frame : List ℕ) → IsLawful limits → negotiation_fault side limits frame ≡ None → IsLawfulAgreement (settled_by side limits frame)
lawful_settled Client limits frame lawful e =
    lawful_agreement_with_server limits (response_fields frame) lawful (lawful_response limits (response_fields frame) (sound_response limits frame e))
lawful_settled Server limits frame lawful e =
    lawful_agreement_with_client limits (request_fields frame) lawful (lawful_request (request_fields frame) (sound_request frame e))

agreed_parts : (side : EndId) (limits : Limits) (past : List Event) → is_agreed side limits past ≡ true → (is_welcomed side limits past ≡ true) × (not (is_silent past) ≡ true)
agreed_parts side limits past agreed = both (is_welcomed side limits past) (not (is_silent past)) agreed

-- what an agreed end has settled is lawful
pub agreed_lawful : (side : EndId) (limits : Limits) (past : List Event) → IsLawful limits → is_agreed side limits past ≡ true → IsLawfulAgreement (settled side limits past)
agreed_lawful side limits past lawful agreed =
    lawful_settled side limits (peer_negotiation past) lawful (welcomed_sound side limits past (agreed_parts side limits past agreed).0)

-- ---- from one past to the next

-- what is agreed stays agreed, and as it was settled
pub record StaysSettled (side : EndId) (limits : Limits) (e : Event) (past : List Event) : Type 0 where
  pub agreed : is_agreed side limits (e ∷ past) ≡ true
  pub same : settled side limits (e ∷ past) ≡ settled side limits past

pub stays_settled : (side : EndId) (limits : Limits) (e : Event) (past : List Event) → is_agreed side limits past ≡ true → StaysSettled side limits e past
stays_settled side limits (Post n) past a = record { agreed = a; same = refl }
stays_settled side limits (Submit m) past a = record { agreed = a; same = refl }
stays_settled side limits (Emit f) past a =
    let welcomed = (agreed_parts side limits past a).0 in
    record { agreed = rw welcomed refl; same = refl }
stays_settled side limits (Take f) past a =
    let heard = welcomed_heard side limits past (agreed_parts side limits past a).0 in
    record { agreed = rw heard a; same = rw heard refl }
stays_settled side limits Cut past a = record { agreed = a; same = refl }

-- ---- a settlement

-- a lawful agreement, whose longest message fits its field; once the end is agreed, it is what was settled
pub record Settles (side : EndId) (limits : Limits) (past : List Event) (agreed : Agreed) : Type 0 where
  pub lawful : IsLawfulAgreement agreed
  pub small : agreed.message_max < 4294967296
  pub is : is_agreed side limits past ≡ true → settled side limits past ≡ agreed

pub settles_before : (side : EndId) (limits : Limits) (e : Event) (past : List Event) (agreed : Agreed) → Settles side limits (e ∷ past) agreed → Settles side limits past agreed
settles_before side limits e past agreed s = record {
  lawful = s.lawful;
  small = s.small;
  is = λ a. (let m = stays_settled side limits e past a in sym m.same ∙ s.is m.agreed);
}

-- what holds of an end that is not agreed
abbrev pub least_agreement : Agreed
least_agreement = record { send_size = 128; message_max = 131072; read_write_max = None; credits_requested = 1 }

pub settles_least : (side : EndId) (limits : Limits) (past : List Event) → is_agreed side limits past ≡ false → Settles side limits past least_agreement
settles_least side limits past unagreed = record {
  lawful = record { send_size = (lit≤ tt, lit≤ tt); message_max = lit≤ tt; credits_requested = lit≤ tt };
  small = lit< tt;
  is = λ a. absurd (let b : ⊥ = cc in b);
}

-- what was settled, where the end is agreed and its peer's MaxFragmentedSize fits its field
pub settles_own : (side : EndId) (limits : Limits) (past : List Event) → IsLawful limits → is_agreed side limits past ≡ true → (settled side limits past).message_max < 4294967296
    → Settles side limits past (settled side limits past)
settles_own side limits past lawful agreed small = record { lawful = agreed_lawful side limits past lawful agreed; small = small; is = λ _. refl }

-- of any end
pub settles : (side : EndId) (limits : Limits) (past : List Event) → IsLawful limits → (settled side limits past).message_max < 4294967296
    → (agreed : Agreed) × Settles side limits past agreed
settles side limits past lawful small =
    elim (cases_Bool (is_agreed side limits past)) as (λ _. (agreed : Agreed) × Settles side limits past agreed) [
      | inl settled_is ↦ (settled side limits past, settles_own side limits past lawful settled_is small)
      | inr unsettled ↦ (least_agreement, settles_least side limits past unsettled)
    ]

-- ---- of two ends

-- a settlement within the limits of the peer
pub record SettlesWithin (peer : Limits) (side : EndId) (limits : Limits) (past : List Event) : Type 0 where
  pub agreed : Agreed
  pub within : IsWithinPeer peer agreed
  pub settles : Settles side limits past agreed

-- an agreed end whose peer follows its rules has settled what that peer takes
pub settled_within : (x : EndId) (own other : Limits) (taker sender : List Event) → IsLawful own → IsLegal x own taker → IsPrefix (taken_frames sender) (emitted_frames taker)
    → is_agreed (peer_of x) other sender ≡ true → IsWithinPeer own (settled (peer_of x) other sender)
settled_within x own other taker sender lawful legal back agreed =
    let heard = heard_first sender (welcomed_heard (peer_of x) other sender (agreed_parts (peer_of x) other sender agreed).0) in
    let first = first_sent x own taker (peer_negotiation sender) (heard.0 ++ back.0) legal
    (front_first (taken_frames sender) (emitted_frames taker) heard.0 (peer_negotiation sender) back heard.1) in
    told x own other (taken_frames taker) (peer_negotiation sender) lawful first

-- so does any end that took only what that peer sent
pub settles_within : (x : EndId) (own other : Limits) (taker sender : List Event) → IsLawful own → IsLawful other → IsLegal x own taker
    → IsPrefix (taken_frames sender) (emitted_frames taker) → SettlesWithin own (peer_of x) other sender
settles_within x own other taker sender lawful peer legal back =
    elim (cases_Bool (is_agreed (peer_of x) other sender)) as (λ _. SettlesWithin own (peer_of x) other sender) [
      | inl settled_is ↦
          let w = settled_within x own other taker sender lawful legal back settled_is in
          record { agreed = settled (peer_of x) other sender; within = w; settles = settles_own (peer_of x) other sender peer settled_is (omega (arith, w.messages, lawful.fragmented_size.1)) }
      | inr unsettled ↦
          record {
            agreed = least_agreement;
            within = record { frames = lawful.receive_size.0; messages = lawful.fragmented_size.0 };
            settles = settles_least (peer_of x) other sender unsettled;
          }
    ]
