-- The promise of a copy (this project's own). A past, and a list of page events, has the newest event first.
use Rattle.std.specs.Prelude.{◌≡◌, ◌⊎◌, is_some, ℕ, ◌+◌, ◌*◌, ◌/◌, ◌<◌, ◌≤◌, ◌++◌, Bool, true, false, Option, None, Some, List, length, take, if◌then◌else◌}
use Rattle.std.specs.Io.KnownBytes.{Appends, Consumes, IsAtEnd}
use Rattle.std.specs.List.{flat_map}
use mathlib.Core.List.{IsPrefix}
use Rattle.smbd_base.specs.declared.end_id.EndId.TheVariants.{Client, Server}
use Rattle.smbd_base.specs.declared.event.Event.{Event}
use Rattle.smbd_base.specs.declared.page_event.PageEvent.{PageEvent}
use Rattle.smbd_base.specs.History.{messages_submitted, is_cut}
use Rattle.smbd_base.specs.Limits.{Limits}
use Rattle.smbd_base.specs.Delivery.{messages_delivered}
use Rattle.smbd_base.specs.Joint.{AreJoint}
use Rattle.smbd_base.specs.PagesFit.{PagesFit}
use Rattle.joint_laws.specs.Credits.{AreBalanced}
use Rattle.joint_laws.specs.Receives.{MeetReceives}
use Rattle.empty_frames.specs.EmptyFrames.{empty_frames_of_both, filled_frames_of_both}
use Rattle.smbd_outside.specs.declared.status.Status.{Status}
use Rattle.smbd_outside.specs.declared.status.Status.TheVariants.{Done, Usage, ReadFault, WriteFault, LogFault, TooLong, Cut, BadInput, NoMemory}
use Rattle.smbd_outside.specs.Causes.{Rose}
use Rattle.file_messages.specs.declared.layout.TheConstants.{GROUP_SIZE}
use Rattle.file_messages.specs.declared.kind.CopyKind.{CopyKind}
use Rattle.file_messages.specs.declared.kind.CopyKind.TheVariants as kinds
use Rattle.file_messages.specs.Runs.{groups_of}
use Rattle.copy_laws.specs.PagesOfCopies.{AreInTurn}
use Rattle.copy_runs.specs.Runs.{Messages, request_messages, reply_messages, IsRun}
use Rattle.copy_ends.specs.Cuts.{frames_sent}
use Rattle.copy_ends.specs.Ends.{RepliesFollow}
use Rattle.copy_ends.specs.Turns.{HasGrown}
use Rattle.copy_log.specs.CopyLogs.{Deeds, IsLog, BeginsLog}
use Rattle.copy_parts.specs.Cuts.{IsCutInPlace}
use Rattle.copy_parts.specs.declared.options.CopyOptions.{CopyOptions}
use Rattle.end_workers.specs.Sizes.{most_bytes}

-- ---- what a copy was handed

-- what a source, a sink or a log tells and counts, before the call and after it
pub record Stream : Type 0 where
  pub before : Option (List ℕ)
  pub now : Option (List ℕ)
  pub faults_before : ℕ
  pub faults : ℕ

abbrev pub stream_of : {A : Type 0} → (A → Option (List ℕ)) → (A → ℕ) → A → A → Stream
stream_of {A} known count old new = record { before = known old; now = known new; faults_before = count old; faults = count new }

-- ---- what a copy came to

-- the histories of both ends and the page events of the workers of each, the bytes that were read and whether their end was seen, the
-- bytes that the sink got, and the text that the log got
pub record Course : Type 0 where
  pub client : List Event
  pub server : List Event
  pub clients : List (List PageEvent)
  pub servers : List (List PageEvent)
  pub bytes : List ℕ
  pub ended : Bool
  pub stored : List ℕ
  pub text : List ℕ

-- what the log tells of it
abbrev pub deeds_of : Course → Deeds
deeds_of c = record { client = c.client; server = c.server; clients = c.clients; servers = c.servers }

-- these are what the source lost, and what the sink and the log gained; and its end was seen only where it is at its end
pub record Moves (source sink log : Stream) (c : Course) : Type 0 where
  pub read : Consumes source.before source.now c.bytes
  pub stored : Appends sink.before sink.now c.stored
  pub logged : Appends log.before log.now c.text
  pub ended : c.ended ≡ true → IsAtEnd source.now

-- the bytes of which requests can be made: whole groups, where the end was not seen
abbrev pub usable : Bool → List ℕ → List ℕ
usable ended bytes = if ended then bytes else take (length bytes / GROUP_SIZE * GROUP_SIZE) bytes

-- how many groups the sink got bytes of
abbrev pub groups_begun : List ℕ → ℕ
groups_begun stored = length (groups_of stored)

-- what the ends said to one another, by their histories
abbrev pub messages_of : CopyOptions → List Event → List Event → Messages
messages_of o client server = record {
  requests = messages_submitted client;
  replies = messages_submitted server;
  to_server = length (messages_delivered Server o.limits server);
  to_client = length (messages_delivered Client o.limits client);
}

-- the messages that bring so many groups were delivered: the WRITEs of a put at the server, the replies of a get at the client
abbrev pub HaveBrought : CopyKind → CopyOptions → ℕ → Bool → List ℕ → List Event → List Event → Type 0
HaveBrought kinds.Put o count ended bytes client server =
    IsPrefix (take count (request_messages kinds.Put o.channel o.limits.pages ended bytes)) (messages_delivered Server o.limits server)
HaveBrought kinds.Get o count ended bytes client server =
    IsPrefix (take count (reply_messages kinds.Get o.channel o.limits.pages ended bytes)) (messages_delivered Client o.limits client)

-- The log tells what brings the groups before the sink gets them: it begins with the whole log of an earlier moment, at which the messages
-- that bring all that the sink got were delivered.
pub record IsToldFirst (o : CopyOptions) (c : Course) : Type 0 where
  pub earlier : Deeds
  pub client_more : HasGrown earlier.client c.client
  pub server_more : HasGrown earlier.server c.server
  pub text : List ℕ
  pub log : IsLog earlier text
  pub begins : IsPrefix text c.text
  pub brought : HaveBrought o.kind o (groups_begun c.stored) c.ended (usable c.ended c.bytes) earlier.client earlier.server

-- The link is to be cut in the place of the client's frame of this number: the client has sent fewer frames, and is cut only in that
-- place; the server is cut only where the client is.
pub record MayBeCut (number : ℕ) (limits : Limits) (client server : List Event) : Type 0 where
  pub few : frames_sent client < number
  pub place : is_cut client ≡ true → IsCutInPlace limits number client
  pub follows : is_cut server ≡ true → is_cut client ≡ true

-- where no cut was asked for neither end is cut
abbrev pub AreCutAsAsked : Option ℕ → Limits → List Event → List Event → Type 0
AreCutAsAsked None limits client server = (is_cut client ≡ false) × (is_cut server ≡ false)
AreCutAsAsked (Some number) limits client server = MayBeCut number limits client server

abbrev pub CutsAsAsked : CopyOptions → List Event → List Event → Type 0
CutsAsAsked o client server = AreCutAsAsked o.cut o.limits client server

-- what holds of a copy however it ends
pub record IsSoundCourse (o : CopyOptions) (c : Course) : Type 0 where
  -- both ends follow their rules, no frame was refused, and each took what the other sent, in order; the credits of each
  -- direction balance; and the two histories fit into one order of time
  pub joint : AreJoint o.limits o.limits c.client c.server
  -- the client cuts the link in the place of the frame that was asked for, and nowhere else
  pub cuts : CutsAsAsked o c.client c.server
  -- no end sends without a receive that its peer has posted, or holds more credits than its peer posts receives, and the
  -- credits never all vanish
  pub credits : AreBalanced o.limits o.limits c.client c.server
  -- no connection is flooded with messages without payload: there are at most 3 times as many as with, and 6 more
  pub few_empty : empty_frames_of_both c.client c.server ≤ 3 * filled_frames_of_both c.client c.server + 6
  -- each frame met a receive that its taker had posted before the frame was sent
  pub client_receives : MeetReceives o.limits c.client c.server
  pub server_receives : MeetReceives o.limits c.server c.client
  -- each end delivers a front of the messages that its peer submitted: whole, once and in order
  pub to_server : IsPrefix (messages_delivered Server o.limits c.server) (messages_submitted c.client)
  pub to_client : IsPrefix (messages_delivered Client o.limits c.client) (messages_submitted c.server)
  -- at every moment the server had submitted no more replies than requests had been delivered
  pub answered : RepliesFollow o.limits c.server
  -- there is a list for each worker; they fit together, so each access to a page lay in a live registration of its right; and each
  -- event is in the list of the worker of its page
  pub clients_are : length c.clients ≡ o.workers
  pub servers_are : length c.servers ≡ o.workers
  pub pages : PagesFit 1 (c.clients ++ c.servers)
  pub clients_turn : AreInTurn o.workers c.clients
  pub servers_turn : AreInTurn o.workers c.servers
  -- requests, replies, page events and groups are those of a copy of the bytes
  pub run : IsRun o.kind o.channel o.limits.pages c.ended (usable c.ended c.bytes) (messages_of o c.client c.server) c.clients c.servers
      (take (groups_begun c.stored) (groups_of (usable c.ended c.bytes)))
  -- the sink gets the bytes in order, each group after the log told what brought it
  pub stores : IsPrefix c.stored c.bytes
  pub told_first : 0 < length c.stored → IsToldFirst o c

-- ---- how a copy ends

-- no more was read than may be copied
abbrev pub IsShort : Course → Type 0
IsShort c = length c.bytes ≤ most_bytes

-- the sink got the bytes of whole groups, the last one of the copy included where it is shorter
abbrev pub StoresGroups : Course → Type 0
StoresGroups c = (count : ℕ) × (c.stored ≡ flat_map (λ (group : List ℕ). group) (take count (groups_of (usable c.ended c.bytes))))

-- the log tells all that happened
abbrev pub IsLogged : Course → Type 0
IsLogged c = IsLog (deeds_of c) c.text

-- the log got a front of such a text
abbrev pub IsLogCut : Course → Type 0
IsLogCut c = BeginsLog (deeds_of c) c.text

-- the client has not cut the link
abbrev pub IsUncut : Course → Type 0
IsUncut c = is_cut c.client ≡ false

-- the client has cut the link in the place of the frame that was asked for
pub record HasCutLink (o : CopyOptions) (c : Course) : Type 0 where
  pub number : ℕ
  pub asked : o.cut ≡ Some number
  pub place : IsCutInPlace o.limits number c.client

-- nothing is missing: the source was read to its end, the sink got just its bytes, and END's reply was taken
pub record IsWholeCourse (o : CopyOptions) (c : Course) : Type 0 where
  pub logged : IsLogged c
  pub short : IsShort c
  pub ended : c.ended ≡ true
  pub stored : c.stored ≡ c.bytes
  pub answered : messages_delivered Client o.limits c.client ≡ reply_messages o.kind o.channel o.limits.pages true c.bytes

-- When each status comes, and what it leaves. Where the source failed, or had too much, its end was not seen. `Cut` comes where the client
-- has cut the link and neither log nor sink failed then: with `Done`, `ReadFault` and `TooLong` it has not.
abbrev pub Ends : Status → CopyOptions → Stream → Stream → Stream → Course → Type 0
Ends Done o source sink log c = IsWholeCourse o c × IsAtEnd source.now × IsUncut c
Ends ReadFault o source sink log c = IsLogged c × IsShort c × StoresGroups c × Rose source.faults_before source.faults × (c.ended ≡ false) × IsUncut c
Ends WriteFault o source sink log c = IsLogged c × IsShort c × Rose sink.faults_before sink.faults
Ends LogFault o source sink log c = IsLogCut c × IsShort c × StoresGroups c × Rose log.faults_before log.faults
Ends TooLong o source sink log c = IsLogged c × (most_bytes < length c.bytes) × StoresGroups c × (c.ended ≡ false) × IsUncut c
Ends Cut o source sink log c = IsLogged c × IsShort c × StoresGroups c × HasCutLink o c
Ends NoMemory o source sink log c = IsLogCut c × IsShort c × StoresGroups c
Ends Usage o source sink log c = ⊥
Ends (BadInput line) o source sink log c = ⊥

-- The promise: the log tells histories of both ends and lists of their workers that fit together; each end delivers a front of what its
-- peer submitted; each status has its cause; and with Done the sink got exactly what the source had.
-- A text is the log of one such course alone: law `texts_fix_what_they_tell` of `copy_texts`.
pub record KeepsPromise (status : Status) (o : CopyOptions) (source sink log : Stream) : Type 0 where
  pub course : Course
  pub moves : Moves source sink log course
  pub sound : IsSoundCourse o course
  pub ends : Ends status o source sink log course

-- ---- a copy succeeds

-- no fault was counted
abbrev pub IsSilent : Stream → Type 0
IsSilent s = Rose s.faults_before s.faults → ⊥

-- neither source, sink nor log fails, and the source tells its bytes, of which there are no more than may be copied
pub record IsFair (source sink log : Stream) (bytes : List ℕ) : Type 0 where
  pub told : source.before ≡ Some bytes
  pub short : length bytes ≤ most_bytes
  pub reads : IsSilent source
  pub writes : IsSilent sink
  pub logs : IsSilent log

-- the source is at its end, and the sink got what the source had
pub record IsCopied (source sink : Stream) (bytes : List ℕ) : Type 0 where
  pub at_end : IsAtEnd source.now
  pub got : Appends sink.before sink.now bytes

-- how a copy ends where nothing fails: it is done, or cut where that was asked for, or memory was wanting
abbrev pub Succeeds : CopyOptions → Status → Type 0
Succeeds o status = (status ≡ Done) ⊎ ((status ≡ Cut) × (is_some o.cut ≡ true)) ⊎ (status ≡ NoMemory)
