-- How far a copy has come. A past is a list of events, the newest one first.
use Rattle.std.specs.Prelude.{◌≡◌, ◌⊎◌, ℕ, ◌+◌, ◌-◌, ◌%◌, ◌<◌, ◌≤◌, ◌++◌, Bool, true, false, Option, Some, None, List, [], length, map, reverse, slice_get, if◌then◌else◌}
use Rattle.std.specs.Io.KnownBytes.{Appends, Consumes, IsAtEnd}
use Rattle.std.specs.List.{flat_map}
use Rattle.std.specs.Vec.{vec_capacity}
use mathlib.Core.List.{IsPrefix}
use Rattle.smbd_base.specs.declared.end_id.EndId.TheVariants.{Client, Server}
use Rattle.smbd_base.specs.declared.page_event.PageEvent.{PageEvent}
use Rattle.smbd_base.specs.Delivery.{messages_delivered}
use Rattle.smbd_base.specs.History.{is_cut}
use Rattle.smbd_base.specs.Pages.{Entry}
use Rattle.smbd_base.specs.PagesFit.{events_by}
use Rattle.smbd_outside.specs.declared.status.Status.{Status}
use Rattle.smbd_outside.specs.declared.status.Status.TheVariants.{TooLong, ReadFault}
use Rattle.smbd_outside.specs.Causes.{Rose}
use Rattle.world_core.specs.Run.{State, opened_world}
use Rattle.event_log.specs.Lines.{logged_page}
use Rattle.run_log.specs.declared.telling.Told.{Told}
use Rattle.run_log.specs.NewLines.{told_of}
use Rattle.file_messages.specs.declared.layout.TheConstants.{GROUP_SIZE}
use Rattle.file_messages.specs.declared.kind.CopyKind.{CopyKind}
use Rattle.file_messages.specs.declared.kind.CopyKind.TheVariants as kinds
use Rattle.page_workers.specs.Workers.{WorkerState}
use Rattle.copy_laws.specs.Coupled.{Pasts}
use Rattle.copy_laws.specs.Laws.{client_lists, server_lists, lists_from}
use Rattle.copy_runs.specs.CopyPasts.{bytes_of, ended_of, groups_out, group_left}
use Rattle.copy_log.specs.CopyLogs.{Deeds, IsLog}
use Rattle.copy_ends.specs.Turns.{HasGrown}
use Rattle.copy_parts.specs.declared.options.CopyOptions.{CopyOptions}
use Rattle.copy_parts.specs.declared.parts.Parts.{Parts}
use Rattle.copy_parts.specs.Copies.{Stands, wants_bytes, NoJobsDue}
use Rattle.copy_parts.specs.Steps.{NoneWaits}
use Rattle.end_workers.specs.declared.copy.Copy.{Copy}
use Rattle.end_workers.specs.Promise.{Stream}
use Rattle.end_workers.specs.Sizes.{most_bytes}

-- a stream that has come so far
abbrev pub moved : Stream → Option (List ℕ) → ℕ → Stream
moved s now faults = record s { now = now; faults = faults }

abbrev pub joined : List (List ℕ) → List ℕ
joined groups = flat_map (λ (group : List ℕ). group) groups

-- ---- what was read

-- the machine at the source was handed all that was read: whole groups, until the end was seen
pub record HasRead (o : CopyOptions) (p : Pasts) (source : Stream) (read : ℕ) (ended : Bool) : Type 0 where
  pub bytes : Consumes source.before source.now (bytes_of o.kind p)
  pub count : read ≡ length (bytes_of o.kind p)
  pub short : read ≤ most_bytes
  pub ended_is : ended ≡ ended_of o.kind p
  pub last : ended ≡ true → IsAtEnd source.now
  pub whole : ended ≡ false → read % GROUP_SIZE ≡ 0
  pub later : source.faults_before ≤ source.faults

-- ---- what was stored

-- the sink got the groups that came out
pub record HasStored (o : CopyOptions) (p : Pasts) (sink : Stream) : Type 0 where
  pub got : Appends sink.before sink.now (joined (groups_out o.kind p))
  pub later : sink.faults_before ≤ sink.faults

-- ---- what was told

abbrev pub deeds_now : CopyOptions → Pasts → Parts → Deeds
deeds_now o p parts = record {
  client = parts.world.client;
  server = parts.world.server;
  clients = client_lists o.workers p;
  servers = server_lists o.workers p;
}

-- nothing was told, and both ends were just opened
pub record IsUntold (o : CopyOptions) (world : State) (pool : List Entry) (d : Deeds) (text : List ℕ) : Type 0 where
  pub world_is : world ≡ opened_world o.limits o.limits
  pub client : d.client ≡ []
  pub server : d.server ≡ []
  pub pool_is : pool ≡ []
  pub text_is : text ≡ []

-- how many of the messages that bring a group had been delivered
abbrev pub delivered_at : CopyKind → CopyOptions → Deeds → ℕ
delivered_at kinds.Put o d = length (messages_delivered Server o.limits d.server)
delivered_at kinds.Get o d = length (messages_delivered Client o.limits d.client)

-- the log begins with that of an earlier moment, at which what brings so many groups had been delivered
pub record WasToldFirst (o : CopyOptions) (world : State) (count : ℕ) (text : List ℕ) : Type 0 where
  pub earlier : Deeds
  pub client_more : HasGrown earlier.client world.client
  pub server_more : HasGrown earlier.server world.server
  pub whole : List ℕ
  pub log : IsLog earlier whole
  pub begins : IsPrefix whole text
  pub brought : count ≤ delivered_at o.kind o earlier

-- the log is one of these deeds, and so are the counts of what was told
pub record IsTold (o : CopyOptions) (p : Pasts) (world : State) (log : Stream) (pool : List Entry) (d : Deeds) (client_told server_told : Told) : Type 0 where
  pub text : List ℕ
  pub logged : Appends log.before log.now text
  pub is_log : IsLog d text ⊎ IsUntold o world pool d text
  pub client_is : client_told ≡ told_of d.client
  pub server_is : server_told ≡ told_of d.server
  pub first : 0 < length (joined (groups_out o.kind p)) → WasToldFirst o world (length (groups_out o.kind p)) text
  pub later : log.faults_before ≤ log.faults

-- a worker has the lines of what its pass did since the pages had this past
pub record HasUntold (pass : ℕ) (told pool : List Entry) (w : WorkerState) : Type 0 where
  pub made : List PageEvent
  pub events : reverse (events_by pass pool) ≡ reverse (events_by pass told) ++ made
  pub lines : w.lines ≡ map logged_page made

abbrev pub HaveUntold : ℕ → List Entry → List Entry → List WorkerState → Type 0
HaveUntold first told pool ws = (place : ℕ) (w : WorkerState) → slice_get ws place ≡ Some w → HasUntold (first + place) told pool w

-- since these deeds were told the ends may have gone on, and the workers since the pages had this past
pub record HasMoreToTell (o : CopyOptions) (p : Pasts) (parts : Parts) (pool : List Entry) (d : Deeds) : Type 0 where
  pub client : HasGrown d.client parts.world.client
  pub server : HasGrown d.server parts.world.server
  pub client_lists_are : d.clients ≡ lists_from 0 o.workers pool
  pub server_lists_are : d.servers ≡ lists_from o.workers o.workers pool
  pub clients : HaveUntold 0 pool p.pool parts.crew.clients
  pub servers : HaveUntold o.workers pool p.pool parts.crew.servers

-- ---- a copy so far

-- The parts stand by these pasts, and so do what was read, stored and told: these deeds were told, when the pages had this past.
pub record IsSoFar (o : CopyOptions) (source sink log : Stream) (p : Pasts) (pool : List Entry) (d : Deeds) (c : Copy) : Type 0 where
  pub options : c.options ≡ o
  pub stands : Stands o p c.parts
  pub read : HasRead o p source c.read c.ended
  pub stored : HasStored o p sink
  pub told : IsTold o p c.parts.world log pool d c.client_told c.server_told
  pub more : HasMoreToTell o p c.parts pool d
  pub room : GROUP_SIZE ≤ vec_capacity c.group

-- a copy at any moment: there may be more to tell
pub record IsGoing (o : CopyOptions) (source sink log : Stream) (c : Copy) : Type 0 where
  pub past : Pasts
  pub pool : List Entry
  pub deeds : Deeds
  pub so_far : IsSoFar o source sink log past pool deeds c

-- no stream has moved
abbrev pub IsUntouched : Stream → Type 0
IsUntouched s = (s.now ≡ s.before) × (s.faults ≡ s.faults_before)

-- a copy just opened: whatever streams it is given, it has read nothing, and stored and told nothing
abbrev pub IsOpened : CopyOptions → Copy → Type 0
IsOpened o c = (source sink log : Stream) → IsUntouched source → IsUntouched sink → IsUntouched log → IsGoing o source sink log c

-- and no completion waits to be handed to its machine
pub record IsHandedAll (o : CopyOptions) (source sink log : Stream) (c : Copy) : Type 0 where
  pub going : IsGoing o source sink log c
  pub handed : NoneWaits c.parts.crew

-- a copy of which all is told besides
pub record IsSettled (o : CopyOptions) (source sink log : Stream) (c : Copy) : Type 0 where
  pub handed : NoneWaits c.parts.crew
  pub past : Pasts
  pub so_far : IsSoFar o source sink log past past.pool (deeds_now o past c.parts) c
  pub is_log : IsLog (deeds_now o past c.parts) so_far.told.text

-- and no group waits for the sink
pub record IsStoredAll (o : CopyOptions) (source sink log : Stream) (c : Copy) : Type 0 where
  pub settled : IsSettled o source sink log c
  pub none : group_left o.kind o.channel settled.past ≡ None

-- and the client has not cut the link
pub record StaysUncut (o : CopyOptions) (source sink log : Stream) (c : Copy) : Type 0 where
  pub settled : IsSettled o source sink log c
  pub none : group_left o.kind o.channel settled.past ≡ None
  pub uncut : is_cut c.parts.world.client ≡ false

-- and the machine at the source wants no more bytes, or the end was seen
pub record IsReadAll (o : CopyOptions) (source sink log : Stream) (c : Copy) : Type 0 where
  pub settled : IsSettled o source sink log c
  pub none : group_left o.kind o.channel settled.past ≡ None
  pub uncut : is_cut c.parts.world.client ≡ false
  pub fed : wants_bytes o.kind o.channel o.limits.pages settled.past ≡ false

-- and all jobs that are due were given
pub record IsAfterBarrier (o : CopyOptions) (source sink log : Stream) (c : Copy) : Type 0 where
  pub settled : IsSettled o source sink log c
  pub none : group_left o.kind o.channel settled.past ≡ None
  pub uncut : is_cut c.parts.world.client ≡ false
  pub fed : wants_bytes o.kind o.channel o.limits.pages settled.past ≡ false
  pub given : NoJobsDue o settled.past

-- ---- what the calls ask for

-- the counts of what was told are within the histories
pub record CanTellAll (c : Copy) : Type 0 where
  pub client_within : c.client_told.events ≤ length c.parts.world.client
  pub client_small : c.client_told.next ≤ c.client_told.events + 1
  pub server_within : c.server_told.events ≤ length c.parts.world.server
  pub server_small : c.server_told.next ≤ c.server_told.events + 1

-- the copy is not over: its parts stand by some pasts
pub record GoesOn (c : Copy) : Type 0 where
  pub past : Pasts
  pub stands : Stands c.options past c.parts
  pub read : c.read ≡ length (bytes_of c.options.kind past)
  pub short : c.read ≤ most_bytes
  pub ended_is : c.ended ≡ ended_of c.options.kind past
  pub whole : c.ended ≡ false → c.read % GROUP_SIZE ≡ 0
  pub room : GROUP_SIZE ≤ vec_capacity c.group
  pub tellable : CanTellAll c

-- the machine at the source wants bytes, by whatever pasts the parts stand
abbrev pub IsWanted : Copy → Type 0
IsWanted c = (o : CopyOptions) (p : Pasts) → o.kind ≡ c.options.kind → Stands o p c.parts → wants_bytes o.kind o.channel o.limits.pages p ≡ true

-- how many bytes may be read yet, and their end
abbrev pub bytes_left : Copy → ℕ
bytes_left c = if c.ended then 0 else most_bytes + 1 - c.read

-- how the reading of the bytes of a group may stop, so many bytes having been read before and so many now
abbrev pub StopsReading : Status → ℕ → ℕ → ℕ → ℕ → Type 0
StopsReading status before read faults_before faults =
    ((status ≡ TooLong) × (most_bytes < before + read))
    ⊎ ((status ≡ ReadFault) × (before + read ≤ most_bytes) × Rose faults_before faults)
