-- What each call leaves of the parts of a copy. A past is a list of events, the newest one first.
use Rattle.std.specs.Prelude.{◌≡◌, ◌⊎◌, ℕ, ◌+◌, ◌<◌, ◌^◌, Bool, true, false, None, List, [], ◌∷◌, ◌++◌, length, map}
use Rattle.world_core.specs.Run.{State, opened_world, frames_in_flight}
use Rattle.file_messages.specs.declared.layout.TheConstants.{GROUP_SIZE}
use Rattle.file_messages.specs.declared.kind.CopyKind.{CopyKind}
use Rattle.file_messages.specs.declared.kind.CopyKind.TheVariants as kinds
use Rattle.file_pasts.specs.ClientPast.{requests_sent}
use Rattle.copy_laws.specs.Coupled.{Pasts}
use Rattle.copy_laws.specs.Steps.{opened_pasts}
use Rattle.copy_runs.specs.CopyPasts.{bytes_of, ended_of, groups_out, group_left}
use Rattle.copy_ends.specs.Turns.{HasGrown, HasAdded, IsIdle, IsUp}
use Rattle.copy_ends.specs.declared.client_machine.ClientMachine.{ClientMachine}
use Rattle.copy_ends.specs.declared.client_machine.ClientMachine.TheVariants.{Put, Get}
use Rattle.page_crew.specs.Crews.{CrewState, HasNone, lines_of, told, AllGrew, opened_crew, HaveTurned}
use Rattle.smbd_base.specs.declared.end_id.EndId.TheVariants.{Client, Server}
use Rattle.smbd_base.specs.History.{is_cut}
use Rattle.file_pasts.specs.ServerDue.{next_reply}
use Rattle.copy_laws.specs.Kinds.{request_due}
use Rattle.copy_parts.specs.declared.options.CopyOptions.{CopyOptions}
use Rattle.copy_parts.specs.declared.parts.Parts.{Parts}
use Rattle.copy_parts.specs.Copies.{Stands, wants_bytes, NoJobsDue}

-- ---- a copy begins

-- both ends have posted their receives; nothing else happened
pub record IsOpened (o : CopyOptions) (parts : Parts) : Type 0 where
  pub world : parts.world ≡ opened_world o.limits o.limits
  pub crew : parts.crew ≡ opened_crew o.workers o.limits.pages
  pub stands : Stands o opened_pasts parts

-- ---- what does not change

-- no byte was handed in, and no group came out
pub record KeepsBytes (o : CopyOptions) (p q : Pasts) : Type 0 where
  pub bytes : bytes_of o.kind q ≡ bytes_of o.kind p
  pub ended : ended_of o.kind q ≡ ended_of o.kind p
  pub groups : groups_out o.kind q ≡ groups_out o.kind p

-- neither end, no page and no line has changed
pub record KeepsHistory (p q : Pasts) (a b : Parts) : Type 0 where
  pub pool : q.pool ≡ p.pool
  pub world : b.world ≡ a.world
  pub clients : lines_of b.crew.clients ≡ lines_of a.crew.clients
  pub servers : lines_of b.crew.servers ≡ lines_of a.crew.servers

-- no completion waits to be handed to its machine
pub record NoneWaits (crew : CrewState) : Type 0 where
  pub clients : HasNone crew.clients
  pub servers : HasNone crew.servers

-- ---- lines

-- the lines of all workers were told, and nothing else has changed
pub record HasCleared (o : CopyOptions) (p : Pasts) (a b : Parts) : Type 0 where
  pub stands : Stands o p b
  pub world : b.world ≡ a.world
  pub clients : b.crew.clients ≡ map told a.crew.clients
  pub servers : b.crew.servers ≡ map told a.crew.servers

-- ---- completions and jobs

-- completions were handed to the machines, and none is left
pub record HasHanded (o : CopyOptions) (p : Pasts) (a b : Parts) : Type 0 where
  pub later : Pasts
  pub stands : Stands o later b
  pub bytes : KeepsBytes o p later
  pub history : KeepsHistory p later a b
  pub none : NoneWaits b.crew

-- Jobs were given to the workers, and none is left. Neither the group that waits for the sink has changed, nor whether bytes are wanted.
pub record HasGiven (o : CopyOptions) (p : Pasts) (a b : Parts) : Type 0 where
  pub later : Pasts
  pub stands : Stands o later b
  pub bytes : KeepsBytes o p later
  pub history : KeepsHistory p later a b
  pub none : NoJobsDue o later
  pub left : group_left o.kind o.channel later ≡ group_left o.kind o.channel p
  pub wants : wants_bytes o.kind o.channel o.limits.pages later ≡ wants_bytes o.kind o.channel o.limits.pages p
  pub waits : NoneWaits a.crew → NoneWaits b.crew

-- ---- groups that come out

pub record HasComeOut (o : CopyOptions) (p : Pasts) (group : List ℕ) (a b : Parts) : Type 0 where
  pub later : Pasts
  pub stands : Stands o later b
  pub bytes : bytes_of o.kind later ≡ bytes_of o.kind p
  pub ended : ended_of o.kind later ≡ ended_of o.kind p
  pub groups : groups_out o.kind later ≡ groups_out o.kind p ++ group ∷ []
  pub history : KeepsHistory p later a b
  pub crew : b.crew ≡ a.crew

-- how many groups wait for the sink
abbrev pub groups_at : ClientMachine → ℕ
groups_at (Put m) = 0
groups_at (Get m) = length m.groups.came.items

abbrev pub groups_waiting : CopyKind → Parts → ℕ
groups_waiting kinds.Put parts = length parts.server.groups.items
groups_waiting kinds.Get parts = groups_at parts.client

-- no group is left
pub record HasNoGroup (o : CopyOptions) (p : Pasts) (a b : Parts) : Type 0 where
  pub none : group_left o.kind o.channel p ≡ None
  pub stands : Stands o p b
  pub history : KeepsHistory p p a b
  pub crew : b.crew ≡ a.crew

-- ---- bytes that are handed in

-- bytes that are wanted: a whole group, or fewer at the end
pub record AreWanted (o : CopyOptions) (p : Pasts) (bytes : List ℕ) (ended : Bool) : Type 0 where
  pub wanted : wants_bytes o.kind o.channel o.limits.pages p ≡ true
  pub whole : ended ≡ false → length bytes ≡ GROUP_SIZE
  pub part : ended ≡ true → length bytes < GROUP_SIZE
  pub few : length (bytes_of o.kind p) + length bytes < 2 ^ 39

-- they were handed in, and their end was told where it was seen
pub record HasMore (o : CopyOptions) (p q : Pasts) (bytes : List ℕ) (ended : Bool) : Type 0 where
  pub bytes_are : bytes_of o.kind q ≡ bytes_of o.kind p ++ bytes
  pub ended_is : ended_of o.kind q ≡ ended
  pub groups : groups_out o.kind q ≡ groups_out o.kind p
  pub pool : q.pool ≡ p.pool

pub record HasTaken (o : CopyOptions) (p : Pasts) (bytes : List ℕ) (ended : Bool) (a b : Parts) : Type 0 where
  pub later : Pasts
  pub stands : Stands o later b
  pub more : HasMore o p later bytes ended
  pub left : group_left o.kind o.channel later ≡ group_left o.kind o.channel p
  pub history : KeepsHistory p later a b
  pub crew : b.crew ≡ a.crew

pub record MayTake (kind : CopyKind) (bytes : List ℕ) (ended : Bool) (parts : Parts) : Type 0 where
  pub options : CopyOptions
  pub kind_is : options.kind ≡ kind
  pub past : Pasts
  pub stands : Stands options past parts
  pub wanted : AreWanted options past bytes ended

-- ---- a round

-- Nothing was left to do at the client's end: nothing comes next there, and unless it is cut, it has taken each frame that the server had
-- sent before the round, and no request is due.
pub record ClientIsIdle (o : CopyOptions) (later : Pasts) (old new : State) : Type 0 where
  pub idle : IsIdle Client new
  pub taken : is_cut new.client ≡ false → frames_in_flight new.client old.server ≡ []
  pub due : is_cut new.client ≡ false → request_due o.kind o.channel o.limits.pages later.client ≡ None

-- Nor at the server's, which came after: unless it is cut, it has taken each frame that the client has sent, and no reply is due.
pub record ServerIsIdle (o : CopyOptions) (later : Pasts) (new : State) : Type 0 where
  pub idle : IsIdle Server new
  pub taken : is_cut new.server ≡ false → frames_in_flight new.server new.client ≡ []
  pub due : is_cut new.server ≡ false → next_reply o.kind later.server ≡ None

-- What both ends did: 64 events, or all that was left to do. The workers did nothing.
pub record HaveEndsRun (o : CopyOptions) (p : Pasts) (a b : Parts) : Type 0 where
  pub later : Pasts
  pub stands : Stands o later b
  pub bytes : KeepsBytes o p later
  pub pool : later.pool ≡ p.pool
  pub client : HasGrown a.world.client b.world.client
  pub server : HasGrown a.world.server b.world.server
  pub client_share : HasAdded 64 Client a.world b.world ⊎ ClientIsIdle o later a.world b.world
  pub server_share : HasAdded 64 Server a.world b.world ⊎ ServerIsIdle o later b.world
  pub crew : b.crew ≡ a.crew

-- What both ends and all workers did. An end did 64 events, or all that was left to do.
pub record HasRun (o : CopyOptions) (p : Pasts) (a b : Parts) : Type 0 where
  pub later : Pasts
  pub stands : Stands o later b
  pub bytes : KeepsBytes o p later
  pub client : HasGrown a.world.client b.world.client
  pub server : HasGrown a.world.server b.world.server
  pub clients : AllGrew 0 p.pool later.pool a.crew.clients b.crew.clients
  pub servers : AllGrew o.workers p.pool later.pool a.crew.servers b.crew.servers
  pub client_share : HasAdded 64 Client a.world b.world ⊎ ClientIsIdle o later a.world b.world
  pub server_share : HasAdded 64 Server a.world b.world ⊎ ServerIsIdle o later b.world
  pub turned : HaveTurned a.crew b.crew

-- nothing is cut, and each request that may come next has a number
pub record MayRun (parts : Parts) : Type 0 where
  pub options : CopyOptions
  pub past : Pasts
  pub stands : Stands options past parts
  pub up : IsUp parts.world
  pub few : length (requests_sent past.client) + 64 < 4294967295

-- the parts stand so by some past
pub record AreStanding (parts : Parts) : Type 0 where
  pub options : CopyOptions
  pub past : Pasts
  pub stands : Stands options past parts

pub record AreStandingOf (kind : CopyKind) (parts : Parts) : Type 0 where
  pub options : CopyOptions
  pub kind_is : options.kind ≡ kind
  pub past : Pasts
  pub stands : Stands options past parts
