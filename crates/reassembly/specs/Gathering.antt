-- What was gathered of a message (MS-SMBD 3.1.5.8).
use Rattle.std.specs.Prelude.{◌≡◌, ◌⊎◌, ℕ, ◌+◌, ◌≤◌, ◌==◌, Option, Some, None, List, [], ◌∷◌, ◌++◌, length, option_to_list, if◌then◌else◌}
use Rattle.smbd_base.specs.declared.faults.Broken.{Broken}
use Rattle.smbd_base.specs.declared.faults.Broken.TheVariants as broken
use Rattle.smbd_base.specs.Pieces.{Piece, SplitsInto, gather_fault, joined}
use Rattle.reassembly.specs.declared.fault.GatherFault.{GatherFault}
use Rattle.reassembly.specs.declared.fault.GatherFault.TheVariants as faults

-- the most bytes of a message, the bytes that have come of the one that is begun, how many are still expected of it,
-- and why a piece was refused, where one was
pub record Gathering : Type 0 where
  pub max : ℕ
  pub begun : List ℕ
  pub expected : ℕ
  pub broken : Option Broken

-- there is room for what is expected, what is begun is not too long, and where nothing is expected nothing is begun
pub record IsGathering (max : ℕ) (begun : List ℕ) (expected capacity : ℕ) : Type 0 where
  pub room : length begun + expected ≤ capacity
  pub fits : length begun + expected ≤ max
  pub idle : expected ≡ 0 → begun ≡ []

-- a gatherer to which nothing was given
abbrev pub opened : ℕ → Gathering
opened max = record { max = max; begun = []; expected = 0; broken = None }

abbrev pub piece_of : List ℕ → ℕ → Piece
piece_of bytes remaining = record { payload = bytes; remaining = remaining }

-- the fault that a piece has for this
abbrev pub gather_fault_for : Broken → GatherFault
gather_fault_for (broken.Total expected found) = faults.Total expected found
gather_fault_for (broken.TooLong total max) = faults.TooLong total max

-- the fault of a piece that does not fit, or of every piece once one did not
abbrev pub first_fault : Option Broken → Option Broken → Option GatherFault
first_fault (Some earlier) here = Some (faults.Failed earlier)
first_fault None None = None
first_fault None (Some here) = Some (gather_fault_for here)

-- why a piece does not fit what is begun
abbrev pub misfit : Gathering → Piece → Option Broken
misfit g p = gather_fault g.max g.expected (length p.payload) p.remaining

-- why a piece is refused, if it is
abbrev pub piece_fault : Gathering → Piece → Option GatherFault
piece_fault g p = first_fault g.broken (misfit g p)

-- the message that a piece ends, where it ends one
abbrev pub message_of : Gathering → Piece → Option (List ℕ)
message_of g p = if p.remaining == 0 then Some (g.begun ++ p.payload) else None

-- with a piece that is not refused
abbrev pub with_accepted : Gathering → Piece → Gathering
with_accepted g p = record g { begun = if p.remaining == 0 then [] else g.begun ++ p.payload; expected = p.remaining }

-- once a piece was refused
abbrev pub earlier_or : Option Broken → Option Broken → Option Broken
earlier_or (Some earlier) here = Some earlier
earlier_or None here = here

abbrev pub after_fault : Gathering → Piece → Gathering
after_fault g p = record g { broken = earlier_or g.broken (misfit g p) }

-- the piece is refused for what applies, which then stands; or nothing applies, no memory could be had, and nothing has changed
abbrev pub IsRefused : Gathering → Piece → GatherFault → Gathering → Type 0
IsRefused old p fault new =
    ((piece_fault old p ≡ Some fault) × (new ≡ after_fault old p))
    ⊎ ((piece_fault old p ≡ None) × (fault ≡ faults.NoMemory) × (new ≡ old))

-- ---- one piece after another

-- none of these pieces is refused
abbrev pub PiecesAreAccepted : Gathering → List Piece → Type 0
PiecesAreAccepted g [] = Unit {0}
PiecesAreAccepted g (p ∷ later) = (piece_fault g p ≡ None) × PiecesAreAccepted (with_accepted g p) later

-- the messages that they end
abbrev pub messages_gathered : Gathering → List Piece → List (List ℕ)
messages_gathered g [] = []
messages_gathered g (p ∷ later) = option_to_list (message_of g p) ++ messages_gathered (with_accepted g p) later

-- how the gatherer stands then
abbrev pub gathered_so : Gathering → List Piece → Gathering
gathered_so g [] = g
gathered_so g (p ∷ later) = gathered_so (with_accepted g p) later

-- the pieces split into these messages and a rest, which is what is begun and expects what is expected
pub record GathersWhatSplits (max : ℕ) (pieces : List Piece) : Type 0 where
  pub rest : List Piece
  pub splits : SplitsInto pieces (messages_gathered (opened max) pieces) rest (gathered_so (opened max) pieces).expected
  pub begun : (gathered_so (opened max) pieces).begun ≡ joined rest
