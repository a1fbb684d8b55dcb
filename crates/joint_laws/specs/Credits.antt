-- What follows from that the credits between two ends balance. A past is a list of events, the newest one first.
use Rattle.std.specs.Prelude.{ℕ, ◌+◌, ◌-◌, ◌≤◌, List}
use Rattle.smbd_base.specs.declared.end_id.EndId.{EndId}
use Rattle.smbd_base.specs.declared.end_id.EndId.TheVariants.{Client, Server}
use Rattle.smbd_base.specs.declared.event.Event.{Event}
use Rattle.smbd_base.specs.Limits.{Limits}
use Rattle.smbd_base.specs.Counts.{peer_of, receives_posted, frames_sent, credits_granted, credits_earned, credits_held}

-- the credits that the peer of an end has granted it with frames that it has not taken
abbrev pub credits_in_flight : EndId → List Event → List Event → ℕ
credits_in_flight side own peer = credits_granted (peer_of side) peer - credits_earned side own

-- the credits that two ends hold, and those in flight to them
abbrev pub credits_of_both : List Event → List Event → ℕ
credits_of_both client server =
    credits_held Client client + credits_in_flight Client client server
    + (credits_held Server server + credits_in_flight Server server client)

pub record AreBalanced (client_limits server_limits : Limits) (client server : List Event) : Type 0 where
  -- an end sends no more frames than its peer has posted receives
  pub to_server : frames_sent client ≤ receives_posted server
  pub to_client : frames_sent server ≤ receives_posted client
  -- the credits that an end holds, and those in flight to it, are no more than the receives that its peer keeps
  pub of_client : credits_held Client client + credits_in_flight Client client server ≤ server_limits.credits
  pub of_server : credits_held Server server + credits_in_flight Server server client ≤ client_limits.credits
  -- they never all vanish
  pub left : 1 ≤ credits_of_both client server
