-- Two ends at which nothing can happen any more, until a message is submitted (MS-SMBD 3.1.1: send credits and receive
-- credits). A past is a list of events, the newest one first.
use Rattle.std.specs.Prelude.{◌≡◌, true, false, List, []}
use Rattle.smbd_base.specs.declared.end_id.EndId.{EndId}
use Rattle.smbd_base.specs.declared.end_id.EndId.TheVariants.{Client, Server}
use Rattle.smbd_base.specs.declared.event.Event.{Event}
use Rattle.smbd_base.specs.declared.next.Next.TheVariants as due
use Rattle.smbd_base.specs.Limits.{Limits}
use Rattle.smbd_base.specs.Delivery.{messages_delivered}
use Rattle.smbd_base.specs.History.{next_event, is_agreed, is_cut, is_response_owed, messages_submitted, pieces_waiting}
use Rattle.smbd_base.specs.Joint.{emitted_frames, taken_frames}

-- neither end was cut, each has taken all that the other sent, and neither does anything next
pub record AreQuiet (client_limits server_limits : Limits) (client server : List Event) : Type 0 where
  pub client_uncut : is_cut client ≡ false
  pub server_uncut : is_cut server ≡ false
  pub to_client : taken_frames client ≡ emitted_frames server
  pub to_server : taken_frames server ≡ emitted_frames client
  pub client_idle : next_event Client client_limits client ≡ due.Idle
  pub server_idle : next_event Server server_limits server ≡ due.Idle

-- an end that has agreed with its peer, and has nothing left to send
pub record HasSentAll (side : EndId) (limits : Limits) (past : List Event) : Type 0 where
  pub agreed : is_agreed side limits past ≡ true
  -- each message that was submitted was sent whole
  pub waiting : pieces_waiting side limits past ≡ []
  -- each frame that asked for a response was answered
  pub answered : is_response_owed past ≡ false

-- both ends have sent all, and what was submitted at one was delivered at the other: whole, once, in order, and no message is
-- missing
pub record HaveDeliveredAll (client_limits server_limits : Limits) (client server : List Event) : Type 0 where
  pub of_client : HasSentAll Client client_limits client
  pub of_server : HasSentAll Server server_limits server
  pub to_client : messages_delivered Client client_limits client ≡ messages_submitted server
  pub to_server : messages_delivered Server server_limits server ≡ messages_submitted client

-- once the two ends are quiet, they have delivered all
pub record DeliverAllOnceQuiet (client_limits server_limits : Limits) (client server : List Event) : Type 0 where
  pub quiet : AreQuiet client_limits server_limits client server → HaveDeliveredAll client_limits server_limits client server
