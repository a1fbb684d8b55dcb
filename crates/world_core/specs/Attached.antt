-- An end at a link, as the code keeps it. A past is a list of events, the newest one first.
use Rattle.std.specs.Prelude.{◌≡◌, ℕ, ◌≤◌, Bool, false, Option, Some, None, List, [], ◌∷◌, ◌++◌, length, take, drop, reverse}
use Rattle.smbd_base.specs.declared.end_id.EndId.{EndId}
use Rattle.smbd_base.specs.declared.event.Event.{Event}
use Rattle.smbd_base.specs.Counts.{peer_of}
use Rattle.smbd_base.specs.History.{is_cut}
use Rattle.smbd_base.specs.Joint.{emitted_frames, taken_frames}
use Rattle.smbd_base.specs.Limits.{Limits}
use Rattle.sim_adapter.specs.Rule.{limits_of}
use Rattle.world_core.specs.Linked.{Linked, still_undelivered, messages_in}
use Rattle.world_core.specs.Met.{Met, history_at, IsWhole}
use Rattle.world_core.specs.Newest.{newest_brought}
use Rattle.world_core.specs.Run.{frames_in_flight}

-- an end, its past, how many of its peer's events it has looked through, and the messages that its peer has submitted and it
-- has not delivered, the oldest one first
pub record Attached : Type 0 where
  pub side : EndId
  pub limits : Limits
  pub past : List Event
  pub looked : ℕ
  pub undelivered : List (List ℕ)

-- the end, with the frames in flight to it from its peer
abbrev pub linked_to : Attached → Attached → Linked
linked_to own peer = record {
  side = own.side;
  limits = own.limits;
  past = own.past;
  arriving = frames_in_flight own.past peer.past;
  undelivered = own.undelivered;
}

-- the end once it has added an event, or none, and its peer
abbrev pub attached_after : Attached → Option Event → Attached
attached_after own None = own
attached_after own (Some event) = record own {
  past = event ∷ own.past;
  undelivered = still_undelivered (newest_brought own.side own.limits (event ∷ own.past)) own.undelivered;
}

abbrev pub attached_peer : Attached → Option Event → Attached
attached_peer peer None = peer
attached_peer peer (Some event) = record peer { undelivered = peer.undelivered ++ messages_in event }

-- the end has looked through so many of its peer's events, the oldest ones, and has taken just the frames that they sent
pub record HasLooked (own : Attached) (peer : List Event) : Type 0 where
  pub within : own.looked ≤ length peer
  pub taken : emitted_frames (reverse (take own.looked (reverse peer))) ≡ taken_frames own.past

-- the link tells the limits and the history of the end
pub record IsToldOf (link : Met) (own : Attached) : Type 0 where
  pub limits : limits_of link.ends own.side ≡ own.limits
  pub past : history_at own.side link ≡ own.past

-- the two ends of the link: neither is cut, unless the link is
pub record AreTied (link : Met) (own peer : Attached) (link_cut : Bool) : Type 0 where
  pub sides : peer.side ≡ peer_of own.side
  pub own_told : IsToldOf link own
  pub peer_told : IsToldOf link peer
  pub whole : link_cut ≡ false → IsWhole link
  pub own_looked : HasLooked own peer.past
  pub peer_looked : HasLooked peer own.past
