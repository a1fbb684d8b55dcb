-- Worked joint histories: two pairs of histories that fit together, and for each part of `AreJoint` a pair that breaks it.
use Rattle.std.specs.Prelude.{ℕ, ◌+◌, ◌≤◌, Bool, true, false, List, [], ◌∷◌}
use mathlib.Core.List.{IsPrefix}
use Rattle.smbd_base.specs.declared.end_id.EndId.TheVariants.{Client, Server}
use Rattle.smbd_base.specs.declared.event.Event.{Event}
use Rattle.smbd_base.specs.declared.event.Event.TheVariants.{Post, Submit, Emit, Take}
use Rattle.smbd_base.specs.Limits.{Limits}
use Rattle.smbd_base.specs.DataFrame.{frame_bytes}
use Rattle.smbd_base.specs.NegotiateMessages.{request_bytes, request_of_limits, response_bytes, answer_to}
use Rattle.smbd_base.specs.Counts.{frames_sent, credits_granted}
use Rattle.smbd_base.specs.History.{IsLegal}
use Rattle.smbd_base.specs.Joint.{AreAccepted, AreAccounted, AreJoint, IsAfter, emitted_frames, taken_frames}
use Rattle.smbd_base.specs.Worked.{abc, three, three_request, three_response, three_client, three_server, empty_frame, with_u16}

-- ---- the parts

-- a part of what `AreJoint` says
pub data Part : Type 0 where
  client_legal : Part
  server_legal : Part
  client_accepted : Part
  server_accepted : Part
  to_client : Part
  to_server : Part
  client_credits : Part
  server_credits : Part
  credits_left : Part
  client_after : Part
  server_after : Part

-- what this part says of two ends of these limits with these pasts
abbrev pub PartHolds : Part → Limits → Limits → List Event → List Event → Type 0
PartHolds client_legal client_limits server_limits client server = IsLegal Client client_limits client
PartHolds server_legal client_limits server_limits client server = IsLegal Server server_limits server
PartHolds client_accepted client_limits server_limits client server = AreAccepted Client client_limits client
PartHolds server_accepted client_limits server_limits client server = AreAccepted Server server_limits server
PartHolds to_client client_limits server_limits client server = IsPrefix (taken_frames client) (emitted_frames server)
PartHolds to_server client_limits server_limits client server = IsPrefix (taken_frames server) (emitted_frames client)
PartHolds client_credits client_limits server_limits client server = AreAccounted Client client_limits client server
PartHolds server_credits client_limits server_limits client server = AreAccounted Server server_limits server client
PartHolds credits_left client_limits server_limits client server =
    frames_sent client + frames_sent server + 1 ≤ credits_granted Client client + credits_granted Server server
PartHolds client_after client_limits server_limits client server = IsAfter client server
PartHolds server_after client_limits server_limits client server = IsAfter server client

-- the fact does not hold, or holds
abbrev pub FailsOr : Bool → Type 0 → Type 0
FailsOr true fact = fact → ⊥
FailsOr false fact = fact

-- just these parts do not hold
abbrev pub BreakJust : (Part → Bool) → Limits → Limits → List Event → List Event → Type 0
BreakJust broken client_limits server_limits client server = (part : Part) → FailsOr (broken part) (PartHolds part client_limits server_limits client server)

-- ---- which parts a pair breaks

abbrev pub in_client_rules : Part → Bool
in_client_rules client_legal = true
in_client_rules part = false

abbrev pub in_server_rules : Part → Bool
in_server_rules server_legal = true
in_server_rules part = false

abbrev pub in_client_refusal : Part → Bool
in_client_refusal client_accepted = true
in_client_refusal part = false

abbrev pub in_server_refusal : Part → Bool
in_server_refusal server_accepted = true
in_server_refusal part = false

abbrev pub in_frames_to_client : Part → Bool
in_frames_to_client to_client = true
in_frames_to_client part = false

abbrev pub in_frames_to_server : Part → Bool
in_frames_to_server to_server = true
in_frames_to_server part = false

abbrev pub in_client_credits : Part → Bool
in_client_credits client_legal = true
in_client_credits client_credits = true
in_client_credits part = false

abbrev pub in_server_credits : Part → Bool
in_server_credits server_legal = true
in_server_credits server_credits = true
in_server_credits part = false

abbrev pub in_credits_left : Part → Bool
in_credits_left client_legal = true
in_credits_left credits_left = true
in_credits_left part = false

abbrev pub in_order : Part → Bool
in_order client_after = true
in_order server_after = true
in_order part = false

-- ---- histories

abbrev pub opened : List Event
opened = Post 3 ∷ []

-- the message `abc` in a frame that grants so many credits
abbrev pub abc_granting : ℕ → List ℕ
abc_granting granted = frame_bytes 3 granted false 0 abc

-- the client has sent two messages, of which the server has taken the first
abbrev pub client_of_two : List Event
client_of_two = Emit (abc_granting 0) ∷ Submit abc ∷ Emit (abc_granting 3) ∷ Submit abc ∷ three_client

abbrev pub server_of_one : List Event
server_of_one = Post 1 ∷ Take (abc_granting 3) ∷ three_server

-- limits outside their range: no peer sends frames so short
abbrev pub short_receiver : Limits
short_receiver = record { credits = 3; send_size = 1364; receive_size = 100; fragmented_size = 1048576; pages = 64 }

abbrev pub short_request : List ℕ
short_request = request_bytes (request_of_limits short_receiver)

abbrev pub short_response : List ℕ
short_response = response_bytes (answer_to (request_of_limits three) short_receiver 3)

-- the client takes the server's second frame before it sends its third, and the server takes that one before it sends its
-- second
abbrev pub client_crossed : List Event
client_crossed = Emit (abc_granting 1) ∷ Submit abc ∷ Post 1 ∷ Take (empty_frame 2) ∷ Emit (abc_granting 3) ∷ Submit abc ∷ three_client

abbrev pub server_crossed : List Event
server_crossed = Emit (empty_frame 2) ∷ Post 1 ∷ Take (abc_granting 1) ∷ Post 1 ∷ Take (abc_granting 3) ∷ three_server

-- ---- what fits together

pub record JoinSo : Type 0 where
  -- the parts are all that `AreJoint` says
  pub parts : (client_limits server_limits : Limits) (client server : List Event) (part : Part)
      → AreJoint client_limits server_limits client server → PartHolds part client_limits server_limits client server
  pub whole : (client_limits server_limits : Limits) (client server : List Event)
      → ((part : Part) → PartHolds part client_limits server_limits client server) → AreJoint client_limits server_limits client server
  -- two ends that were just opened; and two with a frame in flight
  pub opened : AreJoint three three opened opened
  pub in_flight : AreJoint three three client_of_two server_of_one

-- What does not. What is said of credits is tied to the rules of the ends, and the two parts on the order to one another: the
-- pairs for these break two parts each.
pub record JoinNotSo : Type 0 where
  -- an end submits an empty message
  pub client_rules : BreakJust in_client_rules three three (Submit [] ∷ opened) opened
  pub server_rules : BreakJust in_server_rules three three opened (Submit [] ∷ opened)
  -- the client refuses the response, or the server the request: the other receives too short frames
  pub client_refusal : BreakJust in_client_refusal three short_receiver
      (Take short_response ∷ Emit three_request ∷ opened) (Emit short_response ∷ Post 1 ∷ Take three_request ∷ opened)
  pub server_refusal : BreakJust in_server_refusal short_receiver three (Emit short_request ∷ opened) (Take short_request ∷ opened)
  -- a frame is taken with other reserved bytes than it was sent with
  pub frames_to_client : BreakJust in_frames_to_client three three
      (Take (with_u16 6 7 three_response) ∷ Emit three_request ∷ opened) three_server
  pub frames_to_server : BreakJust in_frames_to_server three three
      (Emit three_request ∷ opened) (Take (with_u16 4 7 three_request) ∷ opened)
  -- an end posts a receive too many, which is against its rules
  pub client_credits : BreakJust in_client_credits three three (Post 4 ∷ []) opened
  pub server_credits : BreakJust in_server_credits three three opened (Post 4 ∷ [])
  -- the client spends all its credits for frames that grant none, against its rules
  pub credits_left : BreakJust in_credits_left three three
      (Emit (empty_frame 0) ∷ Emit (empty_frame 0) ∷ Emit (empty_frame 0) ∷ three_client) three_server
  -- of two frames each was sent after the other was taken
  pub order : BreakJust in_order three three client_crossed server_crossed
