-- How a message is cut into pieces, and how pieces make messages (MS-SMBD 3.1.5.1 and 3.1.5.8).
use Rattle.std.specs.Prelude.{◌≡◌, ℕ, zero, suc, ◌+◌, ◌-◌, ◌/◌, ◌<◌, ◌==◌, nat_lt, Option, Some, None, List, [], ◌∷◌, ◌++◌, length, take, drop, map, if◌then◌else◌}
use Rattle.std.specs.List.{flat_map}
use Rattle.smbd_base.specs.declared.faults.Broken.{Broken}
use Rattle.smbd_base.specs.declared.faults.Broken.TheVariants.{Total, TooLong}

-- a part of a message, and how many bytes of the message come after it (RemainingDataLength)
pub record Piece : Type 0 where
  pub payload : List ℕ
  pub remaining : ℕ

-- so many consecutive parts of this size from the front of a message
abbrev pub front_pieces : ℕ → ℕ → List ℕ → List Piece
front_pieces zero size message = []
front_pieces (suc count) size message =
    (record { payload = take size message; remaining = length message - size })
    ∷ front_pieces count size (drop size message)

-- how many parts of this size it takes
abbrev pub pieces_count : ℕ → List ℕ → ℕ
pieces_count size message = (length message + size - 1) / size

-- the pieces of a message: its consecutive parts of this size, the last one shorter or equal
unfoldable pub pieces_of : ℕ → List ℕ → List Piece
pieces_of size message = front_pieces (pieces_count size message) size message

-- the bytes that a run of pieces carries
abbrev pub joined : List Piece → List ℕ
joined run = flat_map (λ (p : Piece). p.payload) run

-- after each piece of the run come the bytes of the later pieces, and these more
abbrev pub IsUnbroken : ℕ → List Piece → Type 0
IsUnbroken more [] = Unit {0}
IsUnbroken more (p ∷ later) = (p.remaining ≡ length (joined later) + more) × IsUnbroken more later

-- an unbroken run of one piece or more, after which nothing is expected
pub record IsWhole (run : List Piece) : Type 0 where
  pub some : 0 < length run
  pub unbroken : IsUnbroken 0 run

abbrev pub AreWhole : List (List Piece) → Type 0
AreWhole [] = Unit {0}
AreWhole (run ∷ runs) = IsWhole run × AreWhole runs

-- the pieces of a message that is begun expect at least one byte more; where there are none, nothing is expected
abbrev pub IsRest : ℕ → List Piece → Type 0
IsRest expected [] = expected ≡ 0
IsRest expected (p ∷ later) = (0 < expected) × IsUnbroken expected (p ∷ later)

-- no piece is empty
abbrev pub AreFilled : List Piece → Type 0
AreFilled [] = Unit {0}
AreFilled (p ∷ later) = (0 < length p.payload) × AreFilled later

-- the pieces split into these messages, each an unbroken run that joins to it, and a rest that expects so many bytes
pub record SplitsInto (pieces : List Piece) (messages : List (List ℕ)) (rest : List Piece) (expected : ℕ) : Type 0 where
  pub runs : List (List Piece)
  pub whole : AreWhole runs
  pub all : pieces ≡ flat_map (λ (run : List Piece). run) runs ++ rest
  pub each : messages ≡ map joined runs
  pub last : IsRest expected rest

-- the messages whose last piece has come, and the bytes of the one that is begun
pub record Gathered : Type 0 where
  pub messages : List (List ℕ)
  pub begun : List ℕ

-- with one piece more: it ends a message where nothing remains after it
abbrev pub with_piece : Gathered → Piece → Gathered
with_piece g p =
    if p.remaining == 0 then record { messages = g.messages ++ (g.begun ++ p.payload) ∷ []; begun = [] }
    else record { messages = g.messages; begun = g.begun ++ p.payload }

-- Why a piece of so many bytes, with so many after it, is refused while so many bytes are expected. Where a message is
-- begun, both together are just the bytes that are expected; where none is, they are at most so many.
abbrev pub gather_fault : ℕ → ℕ → ℕ → ℕ → Option Broken
gather_fault max expected len remaining =
    if expected == 0 then (if nat_lt max (len + remaining) then Some (TooLong (len + remaining) max) else None)
    else if len + remaining == expected then None
    else Some (Total expected (len + remaining))
