-- What follows from the first frame that was taken.
use Rattle.std.proofs.Common.{◌≡◌, ℕ, ◌<◌, ◌≤◌, ◌==◌, nat_lt, Bool, true, false, not, ◌&&◌, cond, List, [], ◌∷◌, length, Option, Some, None, is_some, is_none, Result, Ok, Err, refl, ap, arith}
use Rattle.smbd_base.specs.declared.end_id.EndId.{EndId}
use Rattle.smbd_base.specs.declared.end_id.EndId.TheVariants.{Client, Server}
use Rattle.smbd_base.specs.declared.event.Event.{Event}
use Rattle.smbd_base.specs.declared.event.Event.TheVariants.{Post, Submit, Emit, Take, Cut}
use Rattle.smbd_base.specs.declared.faults.Broken.{Broken}
use Rattle.smbd_base.specs.declared.faults.FrameFault.{FrameFault}
use Rattle.smbd_base.specs.declared.faults.NegotiateFault.{NegotiateFault}
use Rattle.smbd_base.specs.declared.faults.NegotiateFault.TheVariants as negotiation
use Rattle.smbd_base.specs.declared.faults.TakeFault.{TakeFault}
use Rattle.smbd_base.specs.declared.faults.TakeFault.TheVariants as faults
use Rattle.smbd_base.specs.Balance.{IsBalanced, receives_due}
use Rattle.smbd_base.specs.Counts.{receives_grantable, is_silent, is_unheard, is_out_of_turn}
use Rattle.smbd_base.specs.DataFrame.{DataFrame, data_frame_of}
use Rattle.smbd_base.specs.Limits.{Limits, IsLawful}
use Rattle.smbd_base.specs.Pieces.{gather_fault}
use Rattle.smbd_base.specs.History.{take_fault, fault_expecting, broken_fault, data_fault, negotiate_fault, negotiation_fault, bytes_expected, is_closed, is_cut, is_post_due, is_refused, is_version_fault, is_server, is_version_refused, is_welcomed, is_agreed, agreed_of, negotiation_frame, payload_size, settled, settled_by, IsLegal}
use Rattle.smbd_base.specs.NegotiateMessages.{Request, request_fault, request_fields, fault_in_request, response_bytes, response_fault, response_fields, fault_in_response, answer_to, refusing_response, IsLawfulAgreement}
use Rattle.smbd_base.proofs.Inversion.{both, ready_parts}
use Rattle.smbd_base.proofs.NegotiationLaws.{lawful_request, lawful_response, lawful_agreement_with_client, lawful_agreement_with_server}
use Rattle.negotiate_msg.specs.Shown.{shown_request}
use Rattle.negotiate_msg.specs.declared.request.NegotiateRequest.{NegotiateRequest}
use Rattle.connection_core.specs.Peers.{HasHeard, HasRefused}
use Rattle.connection_core.specs.declared.peer.Peer.TheVariants.{Requests}

pub none-some : (o : Option TakeFault) → is_some o ≡ false → is_none o ≡ true
none-some None e = refl
none-some (Some fault) e = absurd cc

pub some-none : (o : Option TakeFault) → is_some o ≡ true → is_none o ≡ false
some-none None e = absurd cc
some-none (Some fault) e = refl

-- ---- whether it was accepted

pub unheard_unwelcome : (side : EndId) (limits : Limits) (past : List Event) → is_unheard past ≡ true → is_welcomed side limits past ≡ false
unheard_unwelcome side limits [] u = refl
unheard_unwelcome side limits (Post n ∷ past) u = unheard_unwelcome side limits past u
unheard_unwelcome side limits (Submit m ∷ past) u = unheard_unwelcome side limits past u
unheard_unwelcome side limits (Emit f ∷ past) u = unheard_unwelcome side limits past u
unheard_unwelcome side limits (Take f ∷ past) u = absurd cc
unheard_unwelcome side limits (Cut ∷ past) u = unheard_unwelcome side limits past u

-- an end that has heard, and did not accept the first frame, has refused the last one
unwelcome_by : (side : EndId) (limits : Limits) (past : List Event) (f : List ℕ) (unheard : Bool) → is_unheard past ≡ unheard → is_refused side limits past ≡ false
    → (is_unheard past ≡ false → is_welcomed side limits past ≡ false → is_refused side limits past ≡ true)
    → is_welcomed side limits (Take f ∷ past) ≡ false → is_some (take_fault side limits past f) ≡ true
unwelcome_by side limits past f true is going before w =
    let none : is_none (take_fault side limits past f) ≡ false = rw is at w in
    by_fault (take_fault side limits past f) none where
      by_fault : (o : Option TakeFault) → is_none o ≡ false → is_some o ≡ true
      by_fault None e = absurd cc
      by_fault (Some fault) e = refl
unwelcome_by side limits past f false is going before w =
    let earlier : is_welcomed side limits past ≡ false = rw is at w in
    let refused = before is earlier in
    absurd cc

pub unwelcome_refused : (side : EndId) (limits : Limits) (past : List Event) → IsLegal side limits past → is_unheard past ≡ false → is_welcomed side limits past ≡ false
    → is_refused side limits past ≡ true
unwelcome_refused side limits [] legal heard w = absurd cc
unwelcome_refused side limits (Post n ∷ past) legal heard w = unwelcome_refused side limits past legal.1 heard w
unwelcome_refused side limits (Submit m ∷ past) legal heard w = unwelcome_refused side limits past legal.1 heard w
unwelcome_refused side limits (Emit f ∷ past) legal heard w = unwelcome_refused side limits past legal.1 heard w
unwelcome_refused side limits (Take f ∷ past) legal heard w =
    unwelcome_by side limits past f (is_unheard past) refl (ready_parts side limits past legal.0).refused (unwelcome_refused side limits past legal.1) w
unwelcome_refused side limits (Cut ∷ past) legal heard w = unwelcome_refused side limits past legal.1 heard w

-- ---- a refused version

and_false : (b : Bool) → (b && false) ≡ false
and_false true = refl
and_false false = refl

-- only a server refuses a version so
pub version_client : (limits : Limits) (past : List Event) → is_version_refused Client limits past ≡ false
version_client limits [] = refl
version_client limits (Post n ∷ past) = version_client limits past
version_client limits (Submit m ∷ past) = version_client limits past
version_client limits (Emit f ∷ past) = version_client limits past
version_client limits (Take f ∷ past) = and_false (is_version_fault (take_fault Client limits past f))
version_client limits (Cut ∷ past) = version_client limits past

-- a data transfer message is not refused for a version
data_no_version : (max expected : ℕ) (r : Result DataFrame FrameFault) → is_version_fault (data_fault max expected r) ≡ false
data_no_version max expected (Err fault) = refl
data_no_version max expected (Ok d) = by_test (length d.payload == 0) (gather_fault max expected (length d.payload) d.remaining) where
  by_test : (empty : Bool) (broken : Option Broken) → is_version_fault (cond empty None (broken_fault broken)) ≡ false
  by_test true broken = refl
  by_test false None = refl
  by_test false (Some broken) = refl

later_tests : (turn long unheard : Bool) (over : ℕ) (limit : ℕ) (first later : Option TakeFault) → unheard ≡ false → is_version_fault later ≡ false
    → is_version_fault (cond turn (Some faults.OutOfTurn) (cond long (Some (faults.Oversize over limit)) (cond unheard first later))) ≡ false
later_tests true long unheard over limit first later heard e = refl
later_tests false true unheard over limit first later heard e = refl
later_tests false false true over limit first later heard e = absurd cc
later_tests false false false over limit first later heard e = e

-- nor is a later frame
later_no_version : (side : EndId) (limits : Limits) (past : List Event) (f : List ℕ) → is_unheard past ≡ false → is_version_fault (take_fault side limits past f) ≡ false
unfolding take_fault fault_expecting
later_no_version side limits past f heard =
    later_tests (is_out_of_turn side past) (nat_lt limits.receive_size (length f)) (is_unheard past) (length f) limits.receive_size
    (negotiate_fault (negotiation_fault side limits f)) (data_fault limits.fragmented_size (bytes_expected side limits past) (data_frame_of f)) heard
    (data_no_version limits.fragmented_size (bytes_expected side limits past) (data_frame_of f))

version_some : (o : Option TakeFault) (server : Bool) → (is_version_fault o && server) ≡ true → is_none o ≡ false
version_some None server e = absurd cc
version_some (Some fault) server e = refl

version_unwelcome_by : (side : EndId) (limits : Limits) (past : List Event) (f : List ℕ) (unheard : Bool) → is_unheard past ≡ unheard
    → (is_version_fault (take_fault side limits past f) && is_server side) ≡ true → is_welcomed side limits (Take f ∷ past) ≡ false
version_unwelcome_by side limits past f true is e = rw is (version_some (take_fault side limits past f) (is_server side) e)
version_unwelcome_by side limits past f false is e =
    let not_so = later_no_version side limits past f is in
    absurd (let b : ⊥ = (let c : (false && is_server side) ≡ true = rw not_so at e in cc) in b)

-- a server that refused a version did not accept the first frame
pub version_unwelcome : (side : EndId) (limits : Limits) (past : List Event) → is_version_refused side limits past ≡ true → is_welcomed side limits past ≡ false
version_unwelcome side limits [] e = absurd cc
version_unwelcome side limits (Post n ∷ past) e = version_unwelcome side limits past e
version_unwelcome side limits (Submit m ∷ past) e = version_unwelcome side limits past e
version_unwelcome side limits (Emit f ∷ past) e = version_unwelcome side limits past e
version_unwelcome side limits (Take f ∷ past) e = version_unwelcome_by side limits past f (is_unheard past) refl e
version_unwelcome side limits (Cut ∷ past) e = version_unwelcome side limits past e

pub welcomed_version : (side : EndId) (limits : Limits) (past : List Event) → is_welcomed side limits past ≡ true → is_version_refused side limits past ≡ false
welcomed_version side limits past w = by_test (is_version_refused side limits past) refl where
  by_test : (v : Bool) → is_version_refused side limits past ≡ v → v ≡ false
  by_test true is = let no = version_unwelcome side limits past is in absurd cc
  by_test false is = refl

closed_by : (refused version silent : Bool) → (refused && not (version && silent)) ≡ false → refused ≡ true → version ≡ true
closed_by true true silent e r = refl
closed_by true false silent e r = absurd cc
closed_by false version silent e r = absurd cc

-- an end that goes on though it has refused a frame has refused a version
pub going_version : (side : EndId) (limits : Limits) (past : List Event) → is_closed side limits past ≡ false → is_refused side limits past ≡ true → is_version_refused side limits past ≡ true
going_version side limits past going refused = closed_by (is_refused side limits past) (is_version_refused side limits past) (is_silent past) going refused

-- ---- the first frame

first_tests : (turn long unheard : Bool) (over : TakeFault) (fault : NegotiateFault) (first later : Option TakeFault) → unheard ≡ true → first ≡ Some (faults.Negotiate fault)
    → is_some (cond turn (Some faults.OutOfTurn) (cond long (Some over) (cond unheard first later))) ≡ true
first_tests true long unheard over fault first later u is = refl
first_tests false true unheard over fault first later u is = refl
first_tests false false true over fault first later u is = rw is refl
first_tests false false false over fault first later u is = absurd cc

-- a first frame with a fault is refused
pub first_refused : (side : EndId) (limits : Limits) (past : List Event) (f : List ℕ) (fault : NegotiateFault) → is_unheard past ≡ true → negotiation_fault side limits f ≡ Some fault
    → is_some (take_fault side limits past f) ≡ true
unfolding take_fault fault_expecting
first_refused side limits past f fault unheard is =
    first_tests (is_out_of_turn side past) (nat_lt limits.receive_size (length f)) (is_unheard past) (faults.Oversize (length f) limits.receive_size) fault
    (negotiate_fault (negotiation_fault side limits f)) (data_fault limits.fragmented_size (bytes_expected side limits past) (data_frame_of f)) unheard (ap negotiate_fault is)

-- a server that is about to respond has receives to grant
pub grantable_some : (side : EndId) (limits : Limits) (past : List Event) → IsLawful limits → IsBalanced side limits past → is_silent past ≡ true → is_unheard past ≡ false
    → is_cut past ≡ false → is_closed side limits past ≡ false → is_post_due past ≡ false → 1 ≤ receives_grantable side past
grantable_some side limits past lawful b silent heard cut going settled =
    let none : receives_due past ≡ 0 = rw settled refl in
    omega (arith, b.reposted cut going, b.heard_taken heard going, b.silent_granted silent, lawful.credits.0)

-- ---- what an end does with what it knows

pub unagreed : (side : EndId) (limits : Limits) (past : List Event) → is_welcomed side limits past ≡ false → is_agreed side limits past ≡ false
unagreed side limits past w = rw w refl

pub unsettled : (side : EndId) (limits : Limits) (past : List Event) → is_welcomed side limits past ≡ false → agreed_of side limits past ≡ None
unsettled side limits past w = rw w refl

-- a server answers the request that it accepted
pub opens-response : (side : EndId) (limits : Limits) (past : List Event) (request : NegotiateRequest) → HasHeard side limits past (Requests request)
    → response_bytes (answer_to (shown_request request) limits (receives_grantable side past)) ≡ negotiation_frame side limits past
opens-response Client limits past request h = absurd h.says
opens-response Server limits past request h =
    let none = welcomed_version Server limits past h.welcomed in
    rw none (ap (λ (r : Request). response_bytes (answer_to r limits (receives_grantable Server past))) h.says.fields)

-- an end that goes on, though it refused the first frame, refuses a version
pub opens-refusing : (side : EndId) (limits : Limits) (past : List Event) → IsLegal side limits past → HasRefused side limits past → is_closed side limits past ≡ false
    → response_bytes refusing_response ≡ negotiation_frame side limits past
opens-refusing Client limits past legal h going =
    let version = going_version Client limits past going (unwelcome_refused Client limits past legal h.heard h.unwelcome) in
    let none = version_client limits past in
    absurd cc
opens-refusing Server limits past legal h going =
    let version = going_version Server limits past going (unwelcome_refused Server limits past legal h.heard h.unwelcome) in
    rw version refl

-- ---- what is settled

accepted_first : (turn long unheard : Bool) (over : TakeFault) (first : Option NegotiateFault) (later : Option TakeFault) → unheard ≡ true
    → is_none (cond turn (Some faults.OutOfTurn) (cond long (Some over) (cond unheard (negotiate_fault first) later))) ≡ true → first ≡ None
accepted_first true long unheard over first later u e = absurd cc
accepted_first false true unheard over first later u e = absurd cc
accepted_first false false false over first later u e = absurd cc
accepted_first false false true over None later u e = refl
accepted_first false false true over (Some fault) later u e = absurd cc

-- a first frame that was accepted has no fault
pub first_accepted : (side : EndId) (limits : Limits) (past : List Event) (f : List ℕ) → is_unheard past ≡ true → is_none (take_fault side limits past f) ≡ true → negotiation_fault side limits f ≡ None
unfolding take_fault fault_expecting
first_accepted side limits past f unheard accepted =
    accepted_first (is_out_of_turn side past) (nat_lt limits.receive_size (length f)) (is_unheard past) (faults.Oversize (length f) limits.receive_size)
    (negotiation_fault side limits f) (data_fault limits.fragmented_size (bytes_expected side limits past) (data_frame_of f)) unheard accepted

whole_by : (short : Bool) (fault : Option NegotiateFault) → cond short (Some negotiation.Short) fault ≡ None → fault ≡ None
whole_by true fault e = absurd cc
whole_by false fault e = e

settles_by : (side : EndId) (limits : Limits) (f : List ℕ) → IsLawful limits → negotiation_fault side limits f ≡ None → IsLawfulAgreement (settled_by side limits f)
unfolding request_fault response_fault
settles_by Client limits f lawful e =
    lawful_agreement_with_server limits (response_fields f) lawful (lawful_response limits (response_fields f) (whole_by (nat_lt (length f) 32) (fault_in_response limits (response_fields f)) e))
settles_by Server limits f lawful e =
    lawful_agreement_with_client limits (request_fields f) lawful (lawful_request (request_fields f) (whole_by (nat_lt (length f) 20) (fault_in_request (request_fields f)) e))

settles_at : (side : EndId) (limits : Limits) (past : List Event) (f : List ℕ) (unheard : Bool) → is_unheard past ≡ unheard → IsLawful limits
    → (is_welcomed side limits past ≡ true → IsLawfulAgreement (settled side limits past)) → is_welcomed side limits (Take f ∷ past) ≡ true → IsLawfulAgreement (settled side limits (Take f ∷ past))
settles_at side limits past f true is lawful before w =
    let accepted : is_none (take_fault side limits past f) ≡ true = rw is at w in
    rw is (settles_by side limits f lawful (first_accepted side limits past f is accepted))
settles_at side limits past f false is lawful before w =
    let earlier : is_welcomed side limits past ≡ true = rw is at w in
    rw is (before earlier)

-- what is settled with a peer whose first frame was accepted
pub settles : (side : EndId) (limits : Limits) (past : List Event) → IsLawful limits → is_welcomed side limits past ≡ true → IsLawfulAgreement (settled side limits past)
settles side limits [] lawful w = absurd cc
settles side limits (Post n ∷ past) lawful w = settles side limits past lawful w
settles side limits (Submit m ∷ past) lawful w = settles side limits past lawful w
settles side limits (Emit f ∷ past) lawful w = settles side limits past lawful w
settles side limits (Take f ∷ past) lawful w = settles_at side limits past f (is_unheard past) refl lawful (settles side limits past lawful) w
settles side limits (Cut ∷ past) lawful w = settles side limits past lawful w

-- a frame of an agreed end has room for a piece
pub size_wide : (side : EndId) (limits : Limits) (past : List Event) → IsLawful limits → is_agreed side limits past ≡ true → 0 < payload_size side limits past
size_wide side limits past lawful on =
    let s = settles side limits past lawful (both (is_welcomed side limits past) _ on).0 in
    omega (arith, s.send_size.0)
