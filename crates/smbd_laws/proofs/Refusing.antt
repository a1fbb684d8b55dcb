-- What it means that a frame is not refused.
use Rattle.std.proofs.Common.{◌≡◌, ℕ, ◌<◌, ◌≤◌, ◌==◌, nat_lt, Bool, true, false, not, ◌&&◌, cond, List, [], ◌∷◌, length, Option, Some, None, is_none, Result, Ok, Err, is_ok, refl, ap, sym, ◌∙◌, arith}
use Rattle.std.proofs.lemmas.Bool.Decides.{nat_tests}
use Rattle.smbd_base.specs.declared.end_id.EndId.{EndId}
use Rattle.smbd_base.specs.declared.end_id.EndId.TheVariants.{Client, Server}
use Rattle.smbd_base.specs.declared.event.Event.{Event}
use Rattle.smbd_base.specs.declared.event.Event.TheVariants.{Post, Submit, Emit, Take, Cut}
use Rattle.smbd_base.specs.declared.faults.Broken.{Broken}
use Rattle.smbd_base.specs.declared.faults.FrameFault.{FrameFault}
use Rattle.smbd_base.specs.declared.faults.NegotiateFault.{NegotiateFault}
use Rattle.smbd_base.specs.declared.faults.TakeFault.{TakeFault}
use Rattle.smbd_base.specs.declared.faults.TakeFault.TheVariants as faults
use Rattle.smbd_base.specs.Limits.{Limits}
use Rattle.smbd_base.specs.Counts.{is_unheard, is_out_of_turn}
use Rattle.smbd_base.specs.DataFrame.{DataFrame, data_frame_of}
use Rattle.smbd_base.specs.Pieces.{Piece, gather_fault}
use Rattle.smbd_base.specs.NegotiateMessages.{request_fault}
use Rattle.smbd_base.specs.History.{take_fault, fault_expecting, negotiation_fault, negotiate_fault, data_fault, broken_fault, bytes_expected, expected_after, peer_negotiation, is_version_fault, is_server, is_version_refused}
use Rattle.smbd_base.specs.Delivery.{piece_in, piece_brought}

-- ---- the last test of a frame

last_test : (turn long unheard : Bool) (over : TakeFault) (first later : Option TakeFault)
    → is_none (cond turn (Some faults.OutOfTurn) (cond long (Some over) (cond unheard first later))) ≡ true → is_none (cond unheard first later) ≡ true
last_test true long unheard over first later e = absurd cc
last_test false true unheard over first later e = absurd cc
last_test false false unheard over first later e = e

unfaulted : (o : Option NegotiateFault) → is_none (negotiate_fault o) ≡ true → o ≡ None
unfaulted None e = refl
unfaulted (Some fault) e = absurd cc

-- a first frame that is not refused is the negotiation message that is awaited
pub accepted_first : (side : EndId) (limits : Limits) (past : List Event) (frame : List ℕ) → is_none (take_fault side limits past frame) ≡ true → is_unheard past ≡ true
    → negotiation_fault side limits frame ≡ None
unfolding take_fault fault_expecting
accepted_first side limits past frame e unheard =
    let last = last_test (is_out_of_turn side past) (nat_lt limits.receive_size (length frame)) (is_unheard past) (faults.Oversize (length frame) limits.receive_size)
    (negotiate_fault (negotiation_fault side limits frame)) (data_fault limits.fragmented_size (bytes_expected side limits past) (data_frame_of frame)) e in
    unfaulted (negotiation_fault side limits frame) (rw unheard at last)

-- a later frame that is not refused is a data transfer message that may be taken
accepted_data : (side : EndId) (limits : Limits) (past : List Event) (frame : List ℕ) → is_none (take_fault side limits past frame) ≡ true → is_unheard past ≡ false
    → is_none (data_fault limits.fragmented_size (bytes_expected side limits past) (data_frame_of frame)) ≡ true
unfolding take_fault fault_expecting
accepted_data side limits past frame e heard =
    let last = last_test (is_out_of_turn side past) (nat_lt limits.receive_size (length frame)) (is_unheard past) (faults.Oversize (length frame) limits.receive_size)
    (negotiate_fault (negotiation_fault side limits frame)) (data_fault limits.fragmented_size (bytes_expected side limits past) (data_frame_of frame)) e in
    rw heard at last

-- ---- no fault of the version

version_by : (turn long unheard : Bool) (len most : ℕ) (first later : Option TakeFault) → (unheard ≡ true → is_version_fault first ≡ false) → is_version_fault later ≡ false
    → is_version_fault (cond turn (Some faults.OutOfTurn) (cond long (Some (faults.Oversize len most)) (cond unheard first later))) ≡ false
version_by true long unheard len most first later f l = refl
version_by false true unheard len most first later f l = refl
version_by false false true len most first later f l = f refl
version_by false false false len most first later f l = l

broken_version : (empty : Bool) (o : Option Broken) → is_version_fault (cond empty None (broken_fault o)) ≡ false
broken_version true o = refl
broken_version false None = refl
broken_version false (Some broken) = refl

data_version : (max expected : ℕ) (r : Result DataFrame FrameFault) → is_version_fault (data_fault max expected r) ≡ false
data_version max expected (Err fault) = refl
data_version max expected (Ok d) = broken_version (length d.payload == 0) (gather_fault max expected (length d.payload) d.remaining)

not_both : (a b : Bool) → a ≡ false → (a && b) ≡ false
not_both true b e = absurd cc
not_both false b e = refl

both_not : (a : Bool) → (a && false) ≡ false
both_not true = refl
both_not false = refl

take_version : (limits : Limits) (past : List Event) (f : List ℕ) (unheard : Bool) → is_unheard past ≡ unheard → request_fault (cond unheard f (peer_negotiation past)) ≡ None
    → is_version_fault (take_fault Server limits past f) ≡ false
unfolding take_fault fault_expecting
take_version limits past f unheard is sound =
    version_by (is_out_of_turn Server past) (nat_lt limits.receive_size (length f)) (is_unheard past) (length f) limits.receive_size
    (negotiate_fault (request_fault f)) (data_fault limits.fragmented_size (bytes_expected Server limits past) (data_frame_of f))
    (λ first. (let same : unheard ≡ true = sym is ∙ first in let none : request_fault f ≡ None = rw same at sound in rw none refl))
    (data_version limits.fragmented_size (bytes_expected Server limits past) (data_frame_of f))

-- a server whose client sent a request without a fault refuses no version
server_accepts : (limits : Limits) (past : List Event) → (is_unheard past ≡ false → request_fault (peer_negotiation past) ≡ None) → is_version_refused Server limits past ≡ false
server_accepts limits [] sound = refl
server_accepts limits (Post n ∷ past) sound = server_accepts limits past sound
server_accepts limits (Submit m ∷ past) sound = server_accepts limits past sound
server_accepts limits (Emit f ∷ past) sound = server_accepts limits past sound
server_accepts limits (Take f ∷ past) sound =
    not_both (is_version_fault (take_fault Server limits past f)) (is_server Server) (take_version limits past f (is_unheard past) refl (sound refl))
server_accepts limits (Cut ∷ past) sound = server_accepts limits past sound

-- and a client never refuses one so that it still answers
client_accepts : (limits : Limits) (past : List Event) → is_version_refused Client limits past ≡ false
client_accepts limits [] = refl
client_accepts limits (Post n ∷ past) = client_accepts limits past
client_accepts limits (Submit m ∷ past) = client_accepts limits past
client_accepts limits (Emit f ∷ past) = client_accepts limits past
client_accepts limits (Take f ∷ past) = both_not (is_version_fault (take_fault Client limits past f))
client_accepts limits (Cut ∷ past) = client_accepts limits past

-- no version was refused where the first frame that was taken has no fault
pub no_version_refused : (side : EndId) (limits : Limits) (past : List Event) → (side ≡ Server → is_unheard past ≡ false → request_fault (peer_negotiation past) ≡ None)
    → is_version_refused side limits past ≡ false
no_version_refused Client limits past sound = client_accepts limits past
no_version_refused Server limits past sound = server_accepts limits past (sound refl)

-- ---- a frame that is not refused

-- the first frame
pub taken-first : (side : EndId) (limits : Limits) (past : List Event) (frame : List ℕ) → is_out_of_turn side past ≡ false → length frame ≤ limits.receive_size
    → is_unheard past ≡ true → negotiation_fault side limits frame ≡ None → take_fault side limits past frame ≡ None
unfolding take_fault fault_expecting
taken-first side limits past frame turn short unheard sound =
    let small : nat_lt limits.receive_size (length frame) ≡ false = grind (arith, nat_tests) in
    rw (turn, small, unheard) (ap (λ (o : Option NegotiateFault). negotiate_fault o) sound)

-- a later frame
pub taken-later : (side : EndId) (limits : Limits) (past : List Event) (frame : List ℕ) → is_out_of_turn side past ≡ false → length frame ≤ limits.receive_size
    → is_unheard past ≡ false → data_fault limits.fragmented_size (bytes_expected side limits past) (data_frame_of frame) ≡ None → take_fault side limits past frame ≡ None
unfolding take_fault fault_expecting
taken-later side limits past frame turn short heard sound =
    let small : nat_lt limits.receive_size (length frame) ≡ false = grind (arith, nat_tests) in
    rw (turn, small, heard) sound

-- ---- the piece that a data transfer message carries

-- the piece, where there is one, fits the bytes that are expected
abbrev pub FitsIn : ℕ → ℕ → Option Piece → Type 0
FitsIn max expected None = Unit {0}
FitsIn max expected (Some p) = gather_fault max expected (length p.payload) p.remaining ≡ None

fits_by : (empty : Bool) (max expected : ℕ) (p : Piece) → FitsIn max expected (cond {A = Option Piece} empty None (Some p))
    → cond empty None (broken_fault (gather_fault max expected (length p.payload) p.remaining)) ≡ None
fits_by true max expected p fits = refl
fits_by false max expected p fits = ap (λ (o : Option Broken). broken_fault o) fits

-- a data transfer message whose piece fits is not refused
pub data_fits : (max expected : ℕ) (r : Result DataFrame FrameFault) → is_ok r ≡ true → FitsIn max expected (piece_in r) → data_fault max expected r ≡ None
data_fits max expected (Err fault) read fits = absurd cc
data_fits max expected (Ok d) read fits = fits_by (length d.payload == 0) max expected (record { payload = d.payload; remaining = d.remaining }) fits

-- ---- the piece that a frame brings

-- the piece is not empty, and fits the bytes that are expected
pub record IsTakeable (max expected : ℕ) (p : Piece) : Type 0 where
  pub filled : 0 < length p.payload
  pub fits : gather_fault max expected (length p.payload) p.remaining ≡ None

abbrev pub IsTakeableIn : ℕ → ℕ → Option Piece → Type 0
IsTakeableIn max expected None = Unit {0}
IsTakeableIn max expected (Some p) = IsTakeable max expected p

unbroken : (o : Option Broken) → is_none (broken_fault o) ≡ true → o ≡ None
unbroken None e = refl
unbroken (Some broken) e = absurd cc

takeable_by : (empty : Bool) (max expected : ℕ) (p : Piece) → (length p.payload == 0) ≡ empty
    → is_none (cond empty None (broken_fault (gather_fault max expected (length p.payload) p.remaining))) ≡ true → IsTakeableIn max expected (cond {A = Option Piece} empty None (Some p))
takeable_by true max expected p is e = tt
takeable_by false max expected p is e = record { filled = grind (arith, nat_tests); fits = unbroken (gather_fault max expected (length p.payload) p.remaining) e }

takeable_in : (max expected : ℕ) (r : Result DataFrame FrameFault) → is_none (data_fault max expected r) ≡ true → IsTakeableIn max expected (piece_in r)
takeable_in max expected (Err fault) e = tt
takeable_in max expected (Ok d) e = takeable_by (length d.payload == 0) max expected (record { payload = d.payload; remaining = d.remaining }) refl e

-- what a frame brings may be taken
pub brought-takeable : (side : EndId) (limits : Limits) (past : List Event) (frame : List ℕ)
    → IsTakeableIn limits.fragmented_size (bytes_expected side limits past) (piece_brought side limits past frame)
brought-takeable side limits past frame = by_tests (is_unheard past) (is_none (take_fault side limits past frame)) refl refl where
  by_tests : (unheard accepted : Bool) → is_unheard past ≡ unheard → is_none (take_fault side limits past frame) ≡ accepted
      → IsTakeableIn limits.fragmented_size (bytes_expected side limits past) (piece_brought side limits past frame)
  by_tests true accepted u a = rw u tt
  by_tests false true u a = rw (u, a) (takeable_in limits.fragmented_size (bytes_expected side limits past) (data_frame_of frame) (accepted_data side limits past frame a u))
  by_tests false false u a = rw (u, a) tt

-- the bytes that are expected after this piece, where there is one
abbrev pub expected_behind : ℕ → Option Piece → ℕ
expected_behind expected None = expected
expected_behind expected (Some p) = p.remaining

expected_by : (empty : Bool) (expected : ℕ) (p : Piece) → cond empty expected p.remaining ≡ expected_behind expected (cond {A = Option Piece} empty None (Some p))
expected_by true expected p = refl
expected_by false expected p = refl

expected_in : (expected : ℕ) (r : Result DataFrame FrameFault) → expected_after expected r ≡ expected_behind expected (piece_in r)
expected_in expected (Err fault) = refl
expected_in expected (Ok d) = expected_by (length d.payload == 0) expected (record { payload = d.payload; remaining = d.remaining })

brought_by : (brought : Bool) (expected : ℕ) (r : Result DataFrame FrameFault)
    → cond brought (expected_after expected r) expected ≡ expected_behind expected (cond {A = Option Piece} brought (piece_in r) None)
brought_by true expected r = expected_in expected r
brought_by false expected r = refl

-- once a frame was taken, the bytes that are expected are those behind the piece that it brings
pub expected-take : (side : EndId) (limits : Limits) (past : List Event) (frame : List ℕ)
    → bytes_expected side limits (Take frame ∷ past) ≡ expected_behind (bytes_expected side limits past) (piece_brought side limits past frame)
unfolding take_fault
expected-take side limits past frame =
    brought_by (not (is_unheard past) && is_none (take_fault side limits past frame)) (bytes_expected side limits past) (data_frame_of frame)

-- a later frame that is not refused brings the piece in it
pub brought-later : (side : EndId) (limits : Limits) (past : List Event) (frame : List ℕ) → is_unheard past ≡ false → take_fault side limits past frame ≡ None
    → piece_brought side limits past frame ≡ piece_in (data_frame_of frame)
brought-later side limits past frame heard accepted =
    let is : is_none (take_fault side limits past frame) ≡ true = rw accepted refl in
    rw (heard, is) refl

-- the negotiation message brings none
pub brought-first : (side : EndId) (limits : Limits) (past : List Event) (frame : List ℕ) → is_unheard past ≡ true → piece_brought side limits past frame ≡ None
brought-first side limits past frame unheard = rw unheard refl
