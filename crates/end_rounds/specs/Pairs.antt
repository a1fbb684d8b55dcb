-- Both ends of a connection on one link (this project's own). A past is a list of events, the newest one first.
use Rattle.std.specs.Prelude.{◌≡◌, false, List, length}
use Rattle.smbd_base.specs.declared.event.Event.{Event}
use Rattle.smbd_base.specs.Limits.{Limits}
use Rattle.smbd_base.specs.History.{is_cut}
use Rattle.smbd_base.specs.Joint.{emitted_frames}
use Rattle.sim_adapter.specs.Plays.{AreMet}
use Rattle.link_ends.specs.Ends.{view_of, past_of, is_over}
use Rattle.end_rounds.specs.declared.end_pair.EndPair.{EndPair}

-- the limits and the histories of both ends
pub record PairState : Type 0 where
  pub client_limits : Limits
  pub server_limits : Limits
  pub client : List Event
  pub server : List Event

abbrev pub state_of : EndPair → PairState
state_of p = record {
  client_limits = (view_of p.client).ends.client;
  server_limits = (view_of p.client).ends.server;
  client = past_of p.client;
  server = past_of p.server;
}

-- both ends can go on and have met: their histories fit together, and each has seen all frames that the other sent
pub record HaveMet (p : EndPair) : Type 0 where
  pub client_on : is_over p.client ≡ false
  pub server_on : is_over p.server ≡ false
  pub met : AreMet (view_of p.client) (view_of p.server)
  pub client_seen : (view_of p.client).seen ≡ length (emitted_frames (past_of p.server))
  pub server_seen : (view_of p.server).seen ≡ length (emitted_frames (past_of p.client))

-- neither end is cut, and neither was told that the link is
pub record AreUp (p : EndPair) : Type 0 where
  pub client_uncut : is_cut (past_of p.client) ≡ false
  pub server_uncut : is_cut (past_of p.server) ≡ false
  pub client_untold : (view_of p.client).told_cut ≡ false
  pub server_untold : (view_of p.server).told_cut ≡ false
