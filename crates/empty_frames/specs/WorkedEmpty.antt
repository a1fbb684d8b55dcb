-- Worked empty frames: how near two ends come to the bound, and two pairs that break it. All have 3 credits.
use Rattle.std.specs.Prelude.{◌≡◌, ℕ, zero, suc, ◌+◌, ◌*◌, ◌≤◌, Bool, true, false, List, ◌∷◌}
use Rattle.smbd_base.specs.declared.end_id.EndId.TheVariants.{Client, Server}
use Rattle.smbd_base.specs.declared.event.Event.{Event}
use Rattle.smbd_base.specs.declared.event.Event.TheVariants.{Post, Submit, Emit, Take}
use Rattle.smbd_base.specs.Counts.{frames_taken}
use Rattle.smbd_base.specs.History.{IsLegal}
use Rattle.smbd_base.specs.Joint.{AreJoint}
use Rattle.smbd_base.specs.Worked.{abc, three, three_client, three_server, first_frame, second_frame, empty_frame, with_u16}
use Rattle.joint_laws.specs.WorkedJoint.{Part, client_legal, server_legal, BreakJust, abc_granting}
use Rattle.empty_frames.specs.EmptyFrames.{empty_answers_sent, empty_grants_sent, asking_frames_taken, empty_frames_of_both, filled_frames_of_both}

-- ---- histories

-- the server has taken two pieces, of which the second asks for a response, and has answered
abbrev pub server_answered : List Event
server_answered = Emit (empty_frame 2) ∷ Post 1 ∷ Take second_frame ∷ Post 1 ∷ Take first_frame ∷ three_server

-- the client grants its receives, as its first frame after the negotiation
abbrev pub client_granting : List Event
client_granting = Emit (empty_frame 3) ∷ three_client

-- each end sends `abc` once; the client grants receives before it and after it took its peer's, the server after it took the
-- client's
abbrev pub client_of_three : List Event
client_of_three =
    Emit (empty_frame 2) ∷ Post 1 ∷ Take (abc_granting 0) ∷ Post 1 ∷ Take (empty_frame 2) ∷ Emit (abc_granting 0) ∷ Submit abc ∷ client_granting

abbrev pub server_of_three : List Event
server_of_three =
    Emit (abc_granting 0) ∷ Submit abc ∷ Emit (empty_frame 2) ∷ Post 1 ∷ Take (abc_granting 0) ∷ Post 1 ∷ Take (empty_frame 3) ∷ three_server

-- so many times an end takes this frame, and at once sends the same
abbrev pub returning : List ℕ → ℕ → List Event → List Event
returning frame zero past = past
returning frame (suc times) past = Emit frame ∷ Post 1 ∷ Take frame ∷ returning frame times past

-- two ends without a message grant each receive as soon as they have posted it anew
abbrev pub client_flooding : List Event
client_flooding = returning (empty_frame 1) 3 client_granting

abbrev pub server_flooding : List Event
server_flooding = returning (empty_frame 1) 2 (Emit (empty_frame 1) ∷ Post 1 ∷ Take (empty_frame 3) ∷ three_server)

-- an empty frame that grants so many credits, and asks for a response
abbrev pub asking_frame : ℕ → List ℕ
asking_frame granted = with_u16 4 1 (empty_frame granted)

-- two ends without a message answer each empty frame, and ask for a response with each
abbrev pub client_asking : List Event
client_asking = returning (asking_frame 1) 3 (Emit (asking_frame 3) ∷ three_client)

abbrev pub server_asking : List Event
server_asking = returning (asking_frame 1) 2 (Emit (asking_frame 1) ∷ Post 1 ∷ Take (asking_frame 3) ∷ three_server)

abbrev pub in_both_rules : Part → Bool
in_both_rules client_legal = true
in_both_rules server_legal = true
in_both_rules part = false

-- ---- what is counted

pub record CountsSo : Type 0 where
  -- an answer: as many as frames that ask
  pub legal : IsLegal Server three server_answered
  pub answers : empty_answers_sent server_answered ≡ 1
  pub asking : asking_frames_taken server_answered ≡ 1
  pub no_grants : empty_grants_sent server_answered ≡ 0
  -- two empty frames that answer nothing, and three frames taken, the negotiation message among them: with 3 credits at least
  -- two are wanted
  pub grants : empty_grants_sent client_of_three ≡ 2
  pub no_answers : empty_answers_sent client_of_three ≡ 0
  pub taken : frames_taken Client client_of_three ≡ 3

-- How near two ends come: where nothing is submitted one empty frame is sent, and 6 are allowed; beside two frames with
-- payload three, and 12 are allowed. No run was found in which there are more than one beyond those with payload.
pub record ComesNearSo : Type 0 where
  pub idle : AreJoint three three client_granting three_server
  pub idle_empty : empty_frames_of_both client_granting three_server ≡ 1
  pub idle_filled : filled_frames_of_both client_granting three_server ≡ 0
  pub busy : AreJoint three three client_of_three server_of_three
  pub busy_empty : empty_frames_of_both client_of_three server_of_three ≡ 3
  pub busy_filled : filled_frames_of_both client_of_three server_of_three ≡ 2

-- Two ends that grant each receive at once flood each other, and so do two that ask for a response with each frame: seven empty
-- frames and none with payload. Of what is said of joint histories they break just that each end follows its rules.
pub record FloodsSo : Type 0 where
  pub rules : BreakJust in_both_rules three three client_flooding server_flooding
  pub empty : empty_frames_of_both client_flooding server_flooding ≡ 7
  pub filled : filled_frames_of_both client_flooding server_flooding ≡ 0
  pub unbounded : empty_frames_of_both client_flooding server_flooding ≤ 3 * filled_frames_of_both client_flooding server_flooding + 6 → ⊥
  pub asking_rules : BreakJust in_both_rules three three client_asking server_asking
  pub asking_empty : empty_frames_of_both client_asking server_asking ≡ 7
  pub asking_filled : filled_frames_of_both client_asking server_asking ≡ 0
  pub asking_unbounded : empty_frames_of_both client_asking server_asking ≤ 3 * filled_frames_of_both client_asking server_asking + 6 → ⊥
