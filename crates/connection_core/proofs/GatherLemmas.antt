-- What a taken frame does to the gatherer.
use Rattle.std.proofs.Common.{◌≡◌, ℕ, ◌==◌, nat_lt, Bool, true, false, not, ◌&&◌, cond, List, ◌∷◌, length, Option, Some, None, is_none, Result, Ok, Err, refl, ap, ◌∙◌}
use Rattle.smbd_base.specs.declared.end_id.EndId.{EndId}
use Rattle.smbd_base.specs.declared.event.Event.{Event}
use Rattle.smbd_base.specs.declared.event.Event.TheVariants.{Take}
use Rattle.smbd_base.specs.declared.faults.FrameFault.{FrameFault}
use Rattle.smbd_base.specs.declared.faults.TakeFault.{TakeFault}
use Rattle.smbd_base.specs.declared.faults.TakeFault.TheVariants as faults
use Rattle.smbd_base.specs.Limits.{Limits}
use Rattle.smbd_base.specs.DataFrame.{DataFrame, data_frame_of}
use Rattle.smbd_base.specs.Pieces.{Gathered}
use Rattle.smbd_base.specs.Counts.{is_unheard, is_out_of_turn}
use Rattle.smbd_base.specs.History.{take_fault, fault_expecting, data_fault, negotiate_fault, negotiation_fault, bytes_expected, expected_after}
use Rattle.smbd_base.specs.Delivery.{gather, gathered, message_brought, message_ended, piece_in}
use Rattle.reassembly.specs.Gathering.{Gathering}
use Rattle.connection_core.specs.Gatherer.{gatherer_of, gatherer_with, message_in}

-- the last test of a frame
last_test : (turn long unheard : Bool) (over : TakeFault) (first later : Option TakeFault)
    → cond turn (Some faults.OutOfTurn) (cond long (Some over) (cond unheard first later)) ≡ None → unheard ≡ false → later ≡ None
last_test true long unheard over first later e heard = absurd cc
last_test false true unheard over first later e heard = absurd cc
last_test false false true over first later e heard = absurd cc
last_test false false false over first later e heard = e

-- a later frame that is not refused fits what the gatherer expects
pub accepted_data : (side : EndId) (limits : Limits) (past : List Event) (frame : List ℕ) → take_fault side limits past frame ≡ None → is_unheard past ≡ false
    → data_fault limits.fragmented_size (bytes_expected side limits past) (data_frame_of frame) ≡ None
unfolding take_fault fault_expecting
accepted_data side limits past frame e heard =
    last_test (is_out_of_turn side past) (nat_lt limits.receive_size (length frame)) (is_unheard past)
    (faults.Oversize (length frame) limits.receive_size) (negotiate_fault (negotiation_fault side limits frame)) (data_fault limits.fragmented_size (bytes_expected side limits past) (data_frame_of frame)) e heard

-- a gatherer that has not failed
abbrev standing : ℕ → ℕ → Gathered → Gathering
standing max expected g = record { max = max; begun = g.begun; expected = expected; broken = None }

-- what a frame brings is what the gatherer adds
gathers : (max expected : ℕ) (g : Gathered) (r : Result DataFrame FrameFault) → standing max (expected_after expected r) (gather g (piece_in r)) ≡ gatherer_with (standing max expected g) r
gathers max expected g (Err fault) = refl
gathers max expected g (Ok d) = by_tests (length d.payload == 0) (d.remaining == 0) refl refl where
  by_tests : (empty last : Bool) → (length d.payload == 0) ≡ empty → (d.remaining == 0) ≡ last
      → standing max (expected_after expected (Ok d)) (gather g (piece_in (Ok d))) ≡ gatherer_with (standing max expected g) (Ok d)
  by_tests true last is_empty is_last = rw is_empty refl
  by_tests false true is_empty is_last = rw (is_empty, is_last) refl
  by_tests false false is_empty is_last = rw (is_empty, is_last) refl

ends : (max expected : ℕ) (g : Gathered) (r : Result DataFrame FrameFault) → message_ended g (piece_in r) ≡ message_in (standing max expected g) r
ends max expected g (Err fault) = refl
ends max expected g (Ok d) = by_test (length d.payload == 0) refl where
  by_test : (empty : Bool) → (length d.payload == 0) ≡ empty → message_ended g (piece_in (Ok d)) ≡ message_in (standing max expected g) (Ok d)
  by_test true is_empty = rw is_empty refl
  by_test false is_empty = rw is_empty refl

-- the gatherer after a frame was taken, where its piece counts or not
abbrev taken_so : EndId → Limits → List Event → List ℕ → Bool → Gathering
taken_so side limits past frame counts =
    standing limits.fragmented_size (cond counts (expected_after (bytes_expected side limits past) (data_frame_of frame)) (bytes_expected side limits past))
    (gather (gathered side limits past) (cond counts (piece_in (data_frame_of frame)) None))

taken-is : (side : EndId) (limits : Limits) (past : List Event) (frame : List ℕ) (counts : Bool) → (not (is_unheard past) && is_none (take_fault side limits past frame)) ≡ counts
    → gatherer_of side limits (Take frame ∷ past) ≡ taken_so side limits past frame counts
unfolding take_fault
taken-is side limits past frame counts is = ap (λ (b : Bool). taken_so side limits past frame b) is

-- a later frame that is not refused adds its piece
pub gatherer-added : (side : EndId) (limits : Limits) (past : List Event) (frame : List ℕ) → take_fault side limits past frame ≡ None → is_unheard past ≡ false
    → gatherer_of side limits (Take frame ∷ past) ≡ gatherer_with (gatherer_of side limits past) (data_frame_of frame)
gatherer-added side limits past frame e heard =
    let counts : (not (is_unheard past) && is_none (take_fault side limits past frame)) ≡ true = rw (heard, e) refl in
    taken-is side limits past frame true counts
    ∙ gathers limits.fragmented_size (bytes_expected side limits past) (gathered side limits past) (data_frame_of frame)

-- the negotiation message adds nothing
pub gatherer-opened : (side : EndId) (limits : Limits) (past : List Event) (frame : List ℕ) → is_unheard past ≡ true
    → gatherer_of side limits (Take frame ∷ past) ≡ gatherer_of side limits past
gatherer-opened side limits past frame unheard =
    let counts : (not (is_unheard past) && is_none (take_fault side limits past frame)) ≡ false = rw unheard refl in
    taken-is side limits past frame false counts

-- a frame that is refused adds nothing
pub gatherer-refused : (side : EndId) (limits : Limits) (past : List Event) (frame : List ℕ) (fault : TakeFault) → take_fault side limits past frame ≡ Some fault
    → gatherer_of side limits (Take frame ∷ past) ≡ gatherer_of side limits past
gatherer-refused side limits past frame fault e =
    let refused : is_none (take_fault side limits past frame) ≡ false = rw e refl in
    let counts : (not (is_unheard past) && is_none (take_fault side limits past frame)) ≡ false =
    ap (λ (b : Bool). not (is_unheard past) && b) refused ∙ never (not (is_unheard past)) in
    taken-is side limits past frame false counts where
      never : (b : Bool) → (b && false) ≡ false
      never true = refl
      never false = refl

-- a later frame that is not refused ends the message that its piece ends
pub brought-is : (side : EndId) (limits : Limits) (past : List Event) (frame : List ℕ) → take_fault side limits past frame ≡ None → is_unheard past ≡ false
    → message_brought side limits past frame ≡ message_in (gatherer_of side limits past) (data_frame_of frame)
brought-is side limits past frame e heard =
    let counts : (not (is_unheard past) && is_none (take_fault side limits past frame)) ≡ true = rw (heard, e) refl in
    ap (λ (b : Bool). message_ended (gathered side limits past) (cond b (piece_in (data_frame_of frame)) None)) counts
    ∙ ends limits.fragmented_size (bytes_expected side limits past) (gathered side limits past) (data_frame_of frame)
