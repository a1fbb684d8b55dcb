-- The pieces that an end has still to send (MS-SMBD 3.1.5.1).
use Rattle.std.specs.Prelude.{◌≡◌, ℕ, ◌-◌, ◌<◌, ◌≤◌, ◌==◌, Bool, true, false, Option, Some, None, option_to_list, List, [], ◌∷◌, ◌++◌, length, drop, map, if◌then◌else◌}
use Rattle.std.specs.List.{flat_map}
use Rattle.smbd_base.specs.declared.agreed.Agreed.{Agreed}
use Rattle.smbd_base.specs.declared.end_id.EndId.{EndId}
use Rattle.smbd_base.specs.declared.event.Event.{Event}
use Rattle.smbd_base.specs.Limits.{Limits}
use Rattle.smbd_base.specs.Pieces.{Piece, pieces_of}
use Rattle.smbd_base.specs.History.{messages_submitted, payload_size, pieces_sent, is_agreed}
use Rattle.fragmenter.specs.Cut.{Cutting, pieces_left, advanced}

-- ---- messages that are divided into pieces of one size

-- a message of which no piece was given
abbrev pub started : ℕ → List ℕ → Cutting
started size message = record { message = message; size = size; given = 0 }

-- a message that is divided into pieces of this size, and of which bytes are left
pub record IsUnderWay (size : ℕ) (cut : Cutting) : Type 0 where
  pub size_is : cut.size ≡ size
  pub some : 0 < cut.size
  pub short : length cut.message < 4294967296
  pub left : cut.given < length cut.message

abbrev pub AreUnderWay : ℕ → List Cutting → Type 0
AreUnderWay size [] = Unit {0}
AreUnderWay size (cut ∷ later) = IsUnderWay size cut × AreUnderWay size later

-- the pieces of this size that were not sent
abbrev pub pieces_unsent : ℕ → List Event → List Piece
pieces_unsent size past = drop (pieces_sent past) (flat_map (pieces_of size) (messages_submitted past))

-- the pieces that are left of these messages are those that were not sent
pub record IsQueue (size : ℕ) (past : List Event) (cuts : List Cutting) : Type 0 where
  pub waiting : pieces_unsent size past ≡ flat_map pieces_left cuts
  pub sent : pieces_sent past ≤ length (flat_map (pieces_of size) (messages_submitted past))
  pub under_way : AreUnderWay size cuts

-- what waits once the next piece was sent: a message leaves with its last piece
abbrev pub after_piece : List Cutting → List Cutting
after_piece [] = []
after_piece (cut ∷ later) = if length cut.message - (advanced cut).given == 0 then later else advanced cut ∷ later

-- ---- what an end keeps of them

-- the message that is being divided, where one is, and those behind it, of which no piece was given
pub record Queued : Type 0 where
  pub begun : Option Cutting
  pub behind : List (List ℕ)

-- a message that may be sent has a byte, and a length that its pieces can tell
pub record IsSendable (message : List ℕ) : Type 0 where
  pub some : 0 < length message
  pub short : length message < 4294967296

abbrev pub AreSendable : List (List ℕ) → Type 0
AreSendable [] = Unit {0}
AreSendable (m ∷ later) = IsSendable m × AreSendable later

-- all of them, where pieces have this size
abbrev pub to_cut : ℕ → Queued → List Cutting
to_cut size q = option_to_list q.begun ++ map (started size) q.behind

-- one message more
abbrev pub with_message : Queued → List ℕ → Queued
with_message q message = record q { behind = q.behind ++ message ∷ [] }

-- the first of some messages begun
abbrev pub begin_first : ℕ → List (List ℕ) → Queued
begin_first size [] = record { begun = None; behind = [] }
begin_first size (m ∷ later) = record { begun = Some (started size m); behind = later }

-- the next message begun, where none is
abbrev pub begin_behind : ℕ → Option Cutting → List (List ℕ) → Queued
begin_behind size None behind = begin_first size behind
begin_behind size (Some cut) behind = record { begun = Some cut; behind = behind }

abbrev pub begun_with : ℕ → Queued → Queued
begun_with size q = begin_behind size q.begun q.behind

-- what is left of the message that is being divided, once its next piece was sent
abbrev pub cut_after : Option Cutting → Option Cutting
cut_after None = None
cut_after (Some cut) = if length cut.message - (advanced cut).given == 0 then None else Some (advanced cut)

abbrev pub queue_after_sending : Queued → Queued
queue_after_sending q = record q { begun = cut_after q.begun }

-- once a frame was sent: the first frame of an end carries no piece
abbrev pub sent_from : Bool → Queued → Queued
sent_from true q = q
sent_from false q = queue_after_sending q

-- the next message begun, once this is agreed
abbrev pub begun_by : Option Agreed → Queued → Queued
begun_by None q = q
begun_by (Some agreed) q = begun_with (agreed.send_size - 24) q

-- before the agreement no piece has a size yet, and each message waits
pub record AreWaiting (past : List Event) (q : Queued) : Type 0 where
  pub begun : q.begun ≡ None
  pub behind : q.behind ≡ messages_submitted past
  pub sent : pieces_sent past ≡ 0
  pub sendable : AreSendable q.behind

-- a message is begun, where any waits
abbrev pub IsBegun : Queued → Type 0
IsBegun q = q.begun ≡ None → q.behind ≡ []

-- the messages of an end are those that are still to be sent, and the next one is begun once the end is agreed
pub record Queues (side : EndId) (limits : Limits) (past : List Event) (q : Queued) : Type 0 where
  pub waits : is_agreed side limits past ≡ false → AreWaiting past q
  pub sends : is_agreed side limits past ≡ true → IsQueue (payload_size side limits past) past (to_cut (payload_size side limits past) q)
  pub begun : is_agreed side limits past ≡ true → IsBegun q
