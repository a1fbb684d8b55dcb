-- Worked quiet ends: two that are quiet, and for each part of the definition two that are not, of which one has a piece left.
-- Both have 3 credits.
use Rattle.std.specs.Prelude.{◌≡◌, ◌-◌, true, false, List, [], ◌∷◌, length}
use Rattle.smbd_base.specs.declared.end_id.EndId.TheVariants.{Client, Server}
use Rattle.smbd_base.specs.declared.event.Event.{Event}
use Rattle.smbd_base.specs.declared.event.Event.TheVariants.{Post, Submit, Emit, Take, Cut}
use Rattle.smbd_base.specs.declared.next.Next.TheVariants as due
use Rattle.smbd_base.specs.Delivery.{messages_delivered}
use Rattle.smbd_base.specs.History.{next_event, pieces_waiting, sends}
use Rattle.smbd_base.specs.Joint.{AreJoint, emitted_frames, taken_frames}
use Rattle.smbd_base.specs.Worked.{abc, three, three_client, three_server, two_sent}
use Rattle.joint_laws.specs.WorkedJoint.{abc_granting}
use Rattle.quiet_ends.specs.QuietEnds.{AreQuiet}

-- the client has sent `abc`, and the server has taken it
abbrev pub client_sent : List Event
client_sent = Emit (abc_granting 3) ∷ Submit abc ∷ three_client

abbrev pub server_took : List Event
server_took = Post 1 ∷ Take (abc_granting 3) ∷ three_server

-- the client was cut before it sent `abc`
abbrev pub client_cut : List Event
client_cut = Cut ∷ Submit abc ∷ three_client

pub record QuietSo : Type 0 where
  pub joint : AreJoint three three client_sent server_took
  pub quiet : AreQuiet three three client_sent server_took
  pub delivered : messages_delivered Server three server_took ≡ abc ∷ []

pub record UnquietSo : Type 0 where
  -- both ends wait, and a piece is left at the client, which keeps its last credit: its frames are in flight
  pub flying : AreJoint three three two_sent three_server
  pub flying_client : next_event Client three two_sent ≡ due.Idle
  pub flying_server : next_event Server three three_server ≡ due.Idle
  pub flying_left : length (pieces_waiting Client three two_sent) ≡ 1
  pub flying_unquiet : AreQuiet three three two_sent three_server → ⊥
  -- a cut end does nothing, whatever is left: of what makes ends quiet nothing else is missing
  pub cut : AreJoint three three client_cut three_server
  pub cut_client : next_event Client three client_cut ≡ due.Idle
  pub cut_server : next_event Server three three_server ≡ due.Idle
  pub cut_to_client : taken_frames client_cut ≡ emitted_frames three_server
  pub cut_to_server : taken_frames three_server ≡ emitted_frames client_cut
  pub cut_left : length (pieces_waiting Client three client_cut) ≡ 1
  pub cut_unquiet : AreQuiet three three client_cut three_server → ⊥
  -- an end with a message to send is not idle
  pub busy : AreQuiet three three (Submit abc ∷ client_sent) server_took → ⊥

-- With one credit each, two ends could come to a dead end: each holds its last credit, and has none to grant. Both have a piece
-- that waits, and neither may send it.
pub record DeadEndSo : Type 0 where
  pub stuck : sends 1 1 (1 - 1) true false ≡ false
  -- with two credits each, an end that holds one can grant another, and sends
  pub free : sends 1 1 (2 - 1) true false ≡ true
