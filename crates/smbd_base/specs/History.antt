-- What comes next at an end, and which events may follow (MS-SMBD 3.1.5; when a frame goes out, what it grants and
-- when it asks for a response are this project's own). A past is a list of events, the newest one first.
use Rattle.std.specs.Prelude.{◌≡◌, ℕ, ◌-◌, ◌%◌, ◌==◌, ◌+◌, nat_lt, nat_le, Bool, true, false, not, ◌||◌, ◌&&◌, is_some, is_none, Option, Some, None, Result, Ok, Err, List, [], ◌∷◌, ◌++◌, length, drop, if◌then◌else◌}
use Rattle.std.specs.List.{flat_map}
use Rattle.smbd_base.specs.declared.agreed.Agreed.{Agreed}
use Rattle.smbd_base.specs.declared.end_id.EndId.{EndId}
use Rattle.smbd_base.specs.declared.end_id.EndId.TheVariants.{Client, Server}
use Rattle.smbd_base.specs.declared.event.Event.{Event}
use Rattle.smbd_base.specs.declared.event.Event.TheVariants.{Post, Submit, Emit, Take, Cut}
use Rattle.smbd_base.specs.declared.next.Next.{Next}
use Rattle.smbd_base.specs.declared.next.Next.TheVariants as due
use Rattle.smbd_base.specs.declared.faults.FrameFault.{FrameFault}
use Rattle.smbd_base.specs.declared.faults.NegotiateFault.{NegotiateFault}
use Rattle.smbd_base.specs.declared.faults.NegotiateFault.TheVariants as negotiation
use Rattle.smbd_base.specs.declared.faults.Broken.{Broken}
use Rattle.smbd_base.specs.declared.faults.TakeFault.{TakeFault}
use Rattle.smbd_base.specs.declared.faults.TakeFault.TheVariants as faults
use Rattle.smbd_base.specs.declared.faults.SubmitFault.{SubmitFault}
use Rattle.smbd_base.specs.declared.faults.SubmitFault.TheVariants as refusals
use Rattle.smbd_base.specs.declared.limits.TheConstants.{LEAST_FRAGMENTED_SIZE}
use Rattle.smbd_base.specs.Limits.{Limits}
use Rattle.smbd_base.specs.NegotiateMessages.{request_fault, request_fields, request_bytes, request_of_limits, response_fault, response_fields, response_bytes, answer_to, refusing_response, agreed_with_client, agreed_with_server}
use Rattle.smbd_base.specs.DataFrame.{DataFrame, data_frame_of, frame_bytes}
use Rattle.smbd_base.specs.Pieces.{Piece, pieces_of, gather_fault}
use Rattle.smbd_base.specs.Counts.{receives_outstanding, receives_grantable, credits_held, is_silent, is_unheard, is_out_of_turn}

-- ---- when a frame is refused

-- why a negotiation message is no such message: a server takes a request, and a client a response
abbrev pub negotiation_fault : EndId → Limits → List ℕ → Option NegotiateFault
negotiation_fault Client limits frame = response_fault limits frame
negotiation_fault Server limits frame = request_fault frame

-- why a negotiation message is refused
abbrev pub negotiate_fault : Option NegotiateFault → Option TakeFault
negotiate_fault None = None
negotiate_fault (Some fault) = Some (faults.Negotiate fault)

-- why a piece that does not fit is refused
abbrev pub broken_fault : Option Broken → Option TakeFault
broken_fault None = None
broken_fault (Some broken) = Some (faults.Gather broken)

-- why a data transfer message is refused by an end that gathers messages of at most so many bytes, while so many are expected
abbrev pub data_fault : ℕ → ℕ → Result DataFrame FrameFault → Option TakeFault
data_fault max expected (Err fault) = Some (faults.Frame fault)
data_fault max expected (Ok d) =
    if length d.payload == 0 then None else broken_fault (gather_fault max expected (length d.payload) d.remaining)

-- why an end refuses this frame after this past, while so many bytes of a message are expected
unfoldable pub fault_expecting : ℕ → EndId → Limits → List Event → List ℕ → Option TakeFault
fault_expecting expected side limits past frame =
    if is_out_of_turn side past then Some faults.OutOfTurn
    else if nat_lt limits.receive_size (length frame) then Some (faults.Oversize (length frame) limits.receive_size)
    else if is_unheard past then negotiate_fault (negotiation_fault side limits frame)
    else data_fault limits.fragmented_size expected (data_frame_of frame)

-- the bytes that are expected after a data transfer message: what remains after its piece, where it has one
abbrev pub expected_after : ℕ → Result DataFrame FrameFault → ℕ
expected_after expected (Err fault) = expected
expected_after expected (Ok d) = if length d.payload == 0 then expected else d.remaining

-- the bytes that are expected once this frame was taken; one that is refused, and the negotiation message, change nothing
abbrev pub expected_with : ℕ → EndId → Limits → List Event → List ℕ → ℕ
expected_with expected side limits past frame =
    if not (is_unheard past) && is_none (fault_expecting expected side limits past frame) then expected_after expected (data_frame_of frame)
    else expected

-- the bytes that are still to come of the message that is begun; 0 where none is
abbrev pub bytes_expected : EndId → Limits → List Event → ℕ
bytes_expected side limits [] = 0
bytes_expected side limits (Post n ∷ past) = bytes_expected side limits past
bytes_expected side limits (Submit m ∷ past) = bytes_expected side limits past
bytes_expected side limits (Emit f ∷ past) = bytes_expected side limits past
bytes_expected side limits (Take f ∷ past) = expected_with (bytes_expected side limits past) side limits past f
bytes_expected side limits (Cut ∷ past) = bytes_expected side limits past

-- why an end refuses this frame after this past, if it does
unfoldable pub take_fault : EndId → Limits → List Event → List ℕ → Option TakeFault
take_fault side limits past frame = fault_expecting (bytes_expected side limits past) side limits past frame

-- ---- what the past says

-- the end was cut
abbrev pub is_cut : List Event → Bool
is_cut [] = false
is_cut (Post n ∷ past) = is_cut past
is_cut (Submit m ∷ past) = is_cut past
is_cut (Emit f ∷ past) = is_cut past
is_cut (Take f ∷ past) = is_cut past
is_cut (Cut ∷ past) = true

-- nothing has happened yet
abbrev pub is_new : List Event → Bool
is_new [] = true
is_new (e ∷ past) = false

-- the last frame that was taken was refused
abbrev pub is_refused : EndId → Limits → List Event → Bool
is_refused side limits [] = false
is_refused side limits (Post n ∷ past) = is_refused side limits past
is_refused side limits (Submit m ∷ past) = is_refused side limits past
is_refused side limits (Emit f ∷ past) = is_refused side limits past
is_refused side limits (Take f ∷ past) = is_some (take_fault side limits past f)
is_refused side limits (Cut ∷ past) = is_refused side limits past

-- the fault is that of another version
abbrev pub is_version : NegotiateFault → Bool
is_version negotiation.Short = false
is_version negotiation.Version = true
is_version negotiation.Credits = false
is_version negotiation.Granted = false
is_version negotiation.SendSize = false
is_version negotiation.ReceiveSize = false
is_version negotiation.FragmentedSize = false
is_version negotiation.Status = false

abbrev pub is_version_fault : Option TakeFault → Bool
is_version_fault None = false
is_version_fault (Some faults.OutOfTurn) = false
is_version_fault (Some (faults.Oversize len limit)) = false
is_version_fault (Some (faults.Negotiate fault)) = is_version fault
is_version_fault (Some (faults.Frame fault)) = false
is_version_fault (Some (faults.Gather broken)) = false
is_version_fault (Some faults.NoMemory) = false

abbrev pub is_server : EndId → Bool
is_server Client = false
is_server Server = true

-- the last frame that was taken was refused by a server, as a request of another version
abbrev pub is_version_refused : EndId → Limits → List Event → Bool
is_version_refused side limits [] = false
is_version_refused side limits (Post n ∷ past) = is_version_refused side limits past
is_version_refused side limits (Submit m ∷ past) = is_version_refused side limits past
is_version_refused side limits (Emit f ∷ past) = is_version_refused side limits past
is_version_refused side limits (Take f ∷ past) = is_version_fault (take_fault side limits past f) && is_server side
is_version_refused side limits (Cut ∷ past) = is_version_refused side limits past

-- Nothing but a cut may follow: a frame was refused. A server that refused a version first sends its refusing response.
abbrev pub is_closed : EndId → Limits → List Event → Bool
is_closed side limits past = is_refused side limits past && not (is_version_refused side limits past && is_silent past)

-- a frame was taken, and the receive that it used was not posted anew
abbrev pub is_post_due : List Event → Bool
is_post_due [] = false
is_post_due (Post n ∷ past) = false
is_post_due (Submit m ∷ past) = is_post_due past
is_post_due (Emit f ∷ past) = false
is_post_due (Take f ∷ past) = true
is_post_due (Cut ∷ past) = false

-- the first frame that was taken was the negotiation message that was awaited
abbrev pub is_welcomed : EndId → Limits → List Event → Bool
is_welcomed side limits [] = false
is_welcomed side limits (Post n ∷ past) = is_welcomed side limits past
is_welcomed side limits (Submit m ∷ past) = is_welcomed side limits past
is_welcomed side limits (Emit f ∷ past) = is_welcomed side limits past
is_welcomed side limits (Take f ∷ past) =
    if is_unheard past then is_none (take_fault side limits past f) else is_welcomed side limits past
is_welcomed side limits (Cut ∷ past) = is_welcomed side limits past

-- a client is agreed once it has taken the response, and a server once it has sent it
abbrev pub is_agreed : EndId → Limits → List Event → Bool
is_agreed side limits past = is_welcomed side limits past && not (is_silent past)

-- ---- the negotiation

-- the negotiation message of the peer: the first frame that was taken, and no bytes where none was
abbrev pub peer_negotiation : List Event → List ℕ
peer_negotiation [] = []
peer_negotiation (Post n ∷ past) = peer_negotiation past
peer_negotiation (Submit m ∷ past) = peer_negotiation past
peer_negotiation (Emit f ∷ past) = peer_negotiation past
peer_negotiation (Take f ∷ past) = if is_unheard past then f else peer_negotiation past
peer_negotiation (Cut ∷ past) = peer_negotiation past

-- The negotiation message with which an end opens. A client requests. A server responds to the request that it took:
-- one of another version it refuses, and else it grants the smaller of what was asked for and what can be granted.
abbrev pub negotiation_frame : EndId → Limits → List Event → List ℕ
negotiation_frame Client limits past = request_bytes (request_of_limits limits)
negotiation_frame Server limits past =
    if is_version_refused Server limits past then response_bytes refusing_response
    else response_bytes (answer_to (request_fields (peer_negotiation past)) limits (receives_grantable Server past))

-- what an end settles with the peer of this negotiation message
abbrev pub settled_by : EndId → Limits → List ℕ → Agreed
settled_by Client limits frame = agreed_with_server limits (response_fields frame)
settled_by Server limits frame = agreed_with_client limits (request_fields frame)

-- what the peer's negotiation message settles
abbrev pub settled : EndId → Limits → List Event → Agreed
settled side limits past = settled_by side limits (peer_negotiation past)

-- what the negotiation has settled, once the end is agreed
abbrev pub agreed_of : EndId → Limits → List Event → Option Agreed
agreed_of side limits past = if is_agreed side limits past then Some (settled side limits past) else None

-- ---- what is owed

-- the message asks for a response
abbrev pub asks : Result DataFrame FrameFault → Bool
asks (Err fault) = false
asks (Ok d) = d.flags % 2 == 1

-- a data transfer message that was taken asks for a response, and no frame was sent since
abbrev pub is_response_owed : List Event → Bool
is_response_owed [] = false
is_response_owed (Post n ∷ past) = is_response_owed past
is_response_owed (Submit m ∷ past) = is_response_owed past
is_response_owed (Emit f ∷ past) = false
is_response_owed (Take f ∷ past) = (not (is_unheard past) && asks (data_frame_of f)) || is_response_owed past
is_response_owed (Cut ∷ past) = is_response_owed past

-- ---- what is still to be sent

-- the messages that were submitted, the oldest one first
abbrev pub messages_submitted : List Event → List (List ℕ)
messages_submitted [] = []
messages_submitted (Post n ∷ past) = messages_submitted past
messages_submitted (Submit m ∷ past) = messages_submitted past ++ m ∷ []
messages_submitted (Emit f ∷ past) = messages_submitted past
messages_submitted (Take f ∷ past) = messages_submitted past
messages_submitted (Cut ∷ past) = messages_submitted past

-- the message has a payload
abbrev pub carries : Result DataFrame FrameFault → Bool
carries (Err fault) = false
carries (Ok d) = not (length d.payload == 0)

-- the pieces that were sent: data transfer messages with a payload
abbrev pub pieces_sent : List Event → ℕ
pieces_sent [] = 0
pieces_sent (Post n ∷ past) = pieces_sent past
pieces_sent (Submit m ∷ past) = pieces_sent past
pieces_sent (Emit f ∷ past) = if not (is_silent past) && carries (data_frame_of f) then pieces_sent past + 1 else pieces_sent past
pieces_sent (Take f ∷ past) = pieces_sent past
pieces_sent (Cut ∷ past) = pieces_sent past

-- the bytes of a message that one frame carries: as many as the longest frame that the end sends, but for 24
abbrev pub payload_size : EndId → Limits → List Event → ℕ
payload_size side limits past = (settled side limits past).send_size - 24

-- the longest message that may be submitted: what every end gathers at least, and, once the end is agreed, what its peer gathers
abbrev pub message_limit : EndId → Limits → List Event → ℕ
message_limit side limits past = if is_agreed side limits past then (settled side limits past).message_max else LEAST_FRAGMENTED_SIZE

-- the pieces of the submitted messages that are still to be sent, the next one first
abbrev pub pieces_waiting : EndId → Limits → List Event → List Piece
pieces_waiting side limits past = drop (pieces_sent past) (flat_map (pieces_of (payload_size side limits past)) (messages_submitted past))

-- ---- when a frame is sent, and what it holds

-- An agreed end sends where it holds a credit and has a reason: a piece waits, a response is owed, or the peer has at most
-- one credit left and can be granted more. It keeps its last credit for a frame that grants some.
abbrev pub sends : ℕ → ℕ → ℕ → Bool → Bool → Bool
sends held outstanding grantable waits owes =
    nat_le 1 held
    && (waits || owes || (nat_le outstanding 1 && nat_le 1 grantable))
    && (not (held == 1) || nat_le 1 grantable)

-- The frame that an agreed end sends while these pieces wait. It asks for as many credits as the end posts receives, and
-- grants all that can be granted. It asks for a response where pieces still wait after it, and at most one credit is left.
abbrev pub data_frame_due : Limits → ℕ → ℕ → List Piece → List ℕ
data_frame_due limits held grantable [] = frame_bytes limits.credits grantable false 0 []
data_frame_due limits held grantable (piece ∷ later) =
    frame_bytes limits.credits grantable (not (length later == 0) && nat_le held 2) piece.remaining piece.payload

-- an end that has sent nothing opens: a client at once, and a server once it has taken the request
abbrev pub is_negotiating : EndId → List Event → Bool
is_negotiating Client past = is_silent past
is_negotiating Server past = is_silent past && not (is_unheard past)

-- an agreed end has a reason to send a data transfer message, and may
abbrev pub is_sending : EndId → Limits → List Event → Bool
is_sending side limits past =
    is_agreed side limits past
    && sends (credits_held side past) (receives_outstanding side past) (receives_grantable side past)
    (not (length (pieces_waiting side limits past) == 0)) (is_response_owed past)

-- the data transfer message that it sends
abbrev pub frame_due : EndId → Limits → List Event → List ℕ
frame_due side limits past = data_frame_due limits (credits_held side past) (receives_grantable side past) (pieces_waiting side limits past)

-- what comes next: the first of these that applies
unfoldable pub next_event : EndId → Limits → List Event → Next
next_event side limits past =
    if is_cut past then due.Idle
    else if is_new past then due.Post limits.credits
    else if is_closed side limits past then due.Close
    else if is_post_due past then due.Post 1
    else if is_negotiating side past then due.Emit (negotiation_frame side limits past)
    else if is_sending side limits past then due.Emit (frame_due side limits past)
    else due.Idle

-- ---- legal histories

-- the end was opened, and was neither cut nor has it refused a frame
abbrev pub is_open : EndId → Limits → List Event → Bool
is_open side limits past = not (is_cut past) && not (is_refused side limits past) && not (is_new past)

-- a frame may be taken: the end is open, and no receive is due
abbrev pub is_ready : EndId → Limits → List Event → Bool
is_ready side limits past = is_open side limits past && not (is_post_due past)

-- why an end refuses this message after this past, if it does
abbrev pub submit_fault : EndId → Limits → List Event → List ℕ → Option SubmitFault
submit_fault side limits past message =
    if not (is_open side limits past) then Some refusals.Closed
    else if length message == 0 then Some refusals.Empty
    else if nat_lt (message_limit side limits past) (length message) then Some refusals.TooLong
    else None

-- the event may follow this past
abbrev pub MayFollow : EndId → Limits → Event → List Event → Type 0
MayFollow side limits (Post n) past = next_event side limits past ≡ due.Post n
MayFollow side limits (Submit m) past = submit_fault side limits past m ≡ None
MayFollow side limits (Emit f) past = next_event side limits past ≡ due.Emit f
MayFollow side limits (Take f) past = is_ready side limits past ≡ true
MayFollow side limits Cut past = (is_cut past ≡ false) × (is_new past ≡ false)

-- each event may follow those before it
abbrev pub IsLegal : EndId → Limits → List Event → Type 0
IsLegal side limits [] = Unit {0}
IsLegal side limits (e ∷ past) = MayFollow side limits e past × IsLegal side limits past

-- the event that comes next, where one does
abbrev pub due_event : Next → Option Event
due_event (due.Post n) = Some (Post n)
due_event (due.Emit f) = Some (Emit f)
due_event due.Close = None
due_event due.Idle = None
