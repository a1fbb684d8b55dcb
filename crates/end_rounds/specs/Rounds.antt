-- What a round of both ends of a copy leaves. A past is a list of events, the newest one first.
use Rattle.std.specs.Prelude.{◌≡◌, ◌⊎◌, ℕ, ◌+◌, ◌≤◌, false, Option, None, Result, List, length, IfOk, OnOk}
use Rattle.smbd_base.specs.declared.end_id.EndId.TheVariants.{Client, Server}
use Rattle.smbd_base.specs.declared.no_memory.NoMemory.{NoMemory}
use Rattle.smbd_base.specs.History.{is_cut}
use Rattle.smbd_base.specs.Joint.{taken_frames}
use Rattle.sim_adapter.specs.declared.view.EndView.{EndView}
use Rattle.sim_adapter.specs.declared.link.Link.{Link}
use Rattle.link_ends.specs.declared.link_end.LinkEnd.{LinkEnd}
use Rattle.link_ends.specs.Ends.{view_of, past_of, IsOf}
use Rattle.file_messages.specs.declared.kind.Channel.{Channel}
use Rattle.file_messages.specs.declared.kind.CopyKind.{CopyKind}
use Rattle.file_pasts.specs.ClientPast.{ClientEvent, requests_sent}
use Rattle.file_pasts.specs.ServerDue.{ServerEvent, next_reply}
use Rattle.file_server.specs.declared.server.FileServer.{FileServer}
use Rattle.copy_laws.specs.Kinds.{request_due}
use Rattle.copy_ends.specs.declared.client_machine.ClientMachine.{ClientMachine}
use Rattle.copy_ends.specs.Ends.{GoesOnTalking, GoesOnServing}
use Rattle.copy_ends.specs.Cuts.{AreLeft, frames_sent}
use Rattle.copy_ends.specs.Turns.{HasGrown}
use Rattle.end_shares.specs.declared.share.Share.{Share}
use Rattle.end_shares.specs.declared.share.Share.TheVariants as shares
use Rattle.end_shares.specs.Turns.{IsOn, HasActed, HasGoneOn, IsCutAsTold, HasAdded, IsIdle}
use Rattle.end_shares.specs.Clients.{ClientStands, ClientGoesOn}
use Rattle.end_shares.specs.Servers.{ServerStands, ServerGoesOn}
use Rattle.end_shares.specs.Shares.{ComesTo, HasCutInPlace, HasDoneAtMost, rests}
use Rattle.end_rounds.specs.declared.end_pair.EndPair.{EndPair}
use Rattle.end_rounds.specs.Pairs.{AreUp}

-- ---- the share of each end

-- what the client's share of a round comes to, whether memory was wanting or not
pub record ClientRan (link : Link) (r : Result Share NoMemory) (before after : Option ℕ) (m n : ClientMachine) (e f : LinkEnd) : Type 0 where
  pub own : IsOf link f
  pub on : OnOk r (IsOn link Client f)
  pub gone_on : HasGoneOn (view_of e) (view_of f)
  pub told : IfOk r (λ share. (share ≡ shares.Cuts → ⊥) → IsCutAsTold (view_of e) → IsCutAsTold (view_of f))
  pub most : HasDoneAtMost 64 (view_of e) (view_of f)
  pub goes_on : (kind : CopyKind) (channel : Channel) (pages : ℕ) (past : List ClientEvent) → ClientStands kind channel pages past m (view_of e)
      → IfOk r (λ share. ClientGoesOn kind channel pages past 64 (rests share) n (view_of f))
  pub share : IfOk r (λ share. ComesTo share after (view_of e) (view_of f))
  pub left : (number : Option ℕ) → AreLeft number (frames_sent (past_of e)) before → OnOk r (AreLeft number (frames_sent (past_of f)) after)

-- and the server's
pub record ServerRan (link : Link) (r : Result Share NoMemory) (m n : FileServer) (e f : LinkEnd) : Type 0 where
  pub own : IsOf link f
  pub on : OnOk r (IsOn link Server f)
  pub acted : HasActed (view_of e) (view_of f)
  pub most : HasDoneAtMost 64 (view_of e) (view_of f)
  pub goes_on : (kind : CopyKind) (past : List ServerEvent) → ServerStands kind past m (view_of e)
      → IfOk r (λ share. ServerGoesOn kind past (rests share) n (view_of f))
  pub share : IfOk r (λ share. ComesTo share None (view_of e) (view_of f))
  pub never : IfOk r (λ share. share ≡ shares.Cuts → ⊥)

-- ---- a round

-- nothing comes next at the end, and unless it is cut, it has taken each frame that its peer had sent before the round
pub record IsThrough (old new : EndView) : Type 0 where
  pub idle : IsIdle new
  pub taken : is_cut new.past ≡ false → old.seen ≤ length (taken_frames new.past)

-- From this past the client went on talking, and its end did 64 events, or all that was left to do: then no request is due, unless the
-- end is cut.
pub record ClientHasRun (kind : CopyKind) (channel : Channel) (pages : ℕ) (past : List ClientEvent) (m : ClientMachine) (old new : EndView) : Type 0 where
  pub later : List ClientEvent
  pub talked : GoesOnTalking past later
  pub few : length (requests_sent later) ≤ length (requests_sent past) + 64
  pub stands : ClientStands kind channel pages later m new
  pub share : HasAdded 64 old new ⊎ (IsThrough old new × (is_cut new.past ≡ false → request_due kind channel pages later ≡ None))

-- So with the server.
pub record ServerHasRun (kind : CopyKind) (past : List ServerEvent) (m : FileServer) (old new : EndView) : Type 0 where
  pub later : List ServerEvent
  pub talked : GoesOnServing past later
  pub stands : ServerStands kind later m new
  pub share : HasAdded 64 old new ⊎ (IsThrough old new × (is_cut new.past ≡ false → next_reply kind later ≡ None))

-- each end has added at most 64 events to its history
pub record HaveGrown (old new : EndPair) : Type 0 where
  pub client : HasGrown (past_of old.client) (past_of new.client)
  pub server : HasGrown (past_of old.server) (past_of new.server)
  pub client_few : length (past_of new.client) ≤ length (past_of old.client) + 64
  pub server_few : length (past_of new.server) ≤ length (past_of old.server) + 64
  pub client_ends : (view_of new.client).ends ≡ (view_of old.client).ends
  pub server_ends : (view_of new.server).ends ≡ (view_of old.server).ends

-- Neither end is cut; or the client has cut the link where a frame came next and none was left to be sent, and the server, where it is
-- cut, found that out.
abbrev pub AreLinked : Option ℕ → EndPair → Type 0
AreLinked left p = AreUp p ⊎ HasCutInPlace left (view_of p.client)
