-- A message that is cut into pieces (MS-SMBD 3.1.5.1).
use Rattle.std.specs.Prelude.{ℕ, ◌+◌, ◌-◌, ◌<◌, ◌≤◌, ◌^◌, ◌==◌, min, Option, Some, None, List, length, take, drop, if◌then◌else◌}
use Rattle.smbd_base.specs.Pieces.{Piece, pieces_of}
use Rattle.fragmenter.specs.declared.piece.Piece.{Piece as Place}

-- a message, the most bytes of a piece, and how many bytes of the message were given
pub record Cutting : Type 0 where
  pub message : List ℕ
  pub size : ℕ
  pub given : ℕ

-- there is a byte to cut, and no more were given than there are
pub record IsCutting (message : List ℕ) (most offset : ℕ) : Type 0 where
  pub some : 0 < length message
  pub short : length message < 2 ^ 32
  pub size : 104 ≤ most
  pub given : offset ≤ length message

-- the pieces that were not given yet: those of the bytes that were not
abbrev pub pieces_left : Cutting → List Piece
pieces_left c = pieces_of c.size (drop c.given c.message)

-- the bytes at a place of the message, and how many come after them
abbrev pub piece_at : List ℕ → Place → Piece
piece_at message place = record { payload = take place.length (drop place.from message); remaining = place.remaining }

-- where the next piece stands: as many bytes as a piece has, or all that are left where that is less
abbrev pub next_place : Cutting → Option Place
next_place c =
    if length c.message - c.given == 0 then None
    else Some (record { from = c.given; length = min (length c.message - c.given) c.size; remaining = length c.message - c.given - c.size })

-- once the next piece was given, where there was one
abbrev pub advanced : Cutting → Cutting
advanced c = record c { given = min (length c.message) (c.given + c.size) }
