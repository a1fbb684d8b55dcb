-- The messages that an end delivers (MS-SMBD 3.1.5.8). A past is a list of events, the newest one first.
use Rattle.std.specs.Prelude.{ℕ, ◌==◌, not, ◌&&◌, is_none, Option, Some, None, Result, Ok, Err, List, [], ◌∷◌, ◌++◌, length, if◌then◌else◌}
use Rattle.smbd_base.specs.declared.end_id.EndId.{EndId}
use Rattle.smbd_base.specs.declared.event.Event.{Event}
use Rattle.smbd_base.specs.declared.event.Event.TheVariants.{Post, Submit, Emit, Take, Cut}
use Rattle.smbd_base.specs.declared.faults.FrameFault.{FrameFault}
use Rattle.smbd_base.specs.Counts.{is_unheard}
use Rattle.smbd_base.specs.DataFrame.{DataFrame, data_frame_of}
use Rattle.smbd_base.specs.History.{take_fault, bytes_expected}
use Rattle.smbd_base.specs.Limits.{Limits}
use Rattle.smbd_base.specs.Pieces.{Piece, SplitsInto, Gathered, with_piece}

-- the piece that a data transfer message carries, where it has a payload
abbrev pub piece_in : Result DataFrame FrameFault → Option Piece
piece_in (Err fault) = None
piece_in (Ok d) = if length d.payload == 0 then None else Some (record { payload = d.payload; remaining = d.remaining })

-- the piece that this frame brings after this past: none if it is refused, or is the negotiation message
abbrev pub piece_brought : EndId → Limits → List Event → List ℕ → Option Piece
piece_brought side limits past frame =
    if not (is_unheard past) && is_none (take_fault side limits past frame) then piece_in (data_frame_of frame) else None

-- these pieces, and one more where there is one
abbrev pub and_piece : List Piece → Option Piece → List Piece
and_piece pieces None = pieces
and_piece pieces (Some p) = pieces ++ p ∷ []

-- the pieces in the data transfer messages that were taken and not refused, the oldest one first
abbrev pub pieces_taken : EndId → Limits → List Event → List Piece
pieces_taken side limits [] = []
pieces_taken side limits (Post n ∷ past) = pieces_taken side limits past
pieces_taken side limits (Submit m ∷ past) = pieces_taken side limits past
pieces_taken side limits (Emit f ∷ past) = pieces_taken side limits past
pieces_taken side limits (Take f ∷ past) = and_piece (pieces_taken side limits past) (piece_brought side limits past f)
pieces_taken side limits (Cut ∷ past) = pieces_taken side limits past

-- what was gathered, with one piece more where there is one
abbrev pub gather : Gathered → Option Piece → Gathered
gather g None = g
gather g (Some p) = with_piece g p

-- what the frames that were taken and not refused have brought
abbrev pub gathered : EndId → Limits → List Event → Gathered
gathered side limits [] = record { messages = []; begun = [] }
gathered side limits (Post n ∷ past) = gathered side limits past
gathered side limits (Submit m ∷ past) = gathered side limits past
gathered side limits (Emit f ∷ past) = gathered side limits past
gathered side limits (Take f ∷ past) = gather (gathered side limits past) (piece_brought side limits past f)
gathered side limits (Cut ∷ past) = gathered side limits past

-- the messages that were delivered, the oldest one first
abbrev pub messages_delivered : EndId → Limits → List Event → List (List ℕ)
messages_delivered side limits past = (gathered side limits past).messages

-- the message that this piece ends, where it ends one
abbrev pub message_ended : Gathered → Option Piece → Option (List ℕ)
message_ended g None = None
message_ended g (Some p) = if p.remaining == 0 then Some (g.begun ++ p.payload) else None

-- the message that is delivered as this frame is taken after this past, where one is
abbrev pub message_brought : EndId → Limits → List Event → List ℕ → Option (List ℕ)
message_brought side limits past frame = message_ended (gathered side limits past) (piece_brought side limits past frame)

-- the pieces that were taken split into these messages, and a rest which expects the bytes that are still to come
abbrev pub Delivers : EndId → Limits → List Event → List (List ℕ) → Type 0
Delivers side limits past messages = (rest : List Piece) × SplitsInto (pieces_taken side limits past) messages rest (bytes_expected side limits past)
