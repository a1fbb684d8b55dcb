-- Worked runs: what choices do on a link that is cut, and where there is nothing to do, found by computation.
use Rattle.std.specs.Prelude.{◌≡◌, ℕ, true, List, [], ◌∷◌}
use Rattle.smbd_base.specs.declared.end_id.EndId.TheVariants.{Client, Server}
use Rattle.smbd_base.specs.declared.event.Event.{Event}
use Rattle.smbd_base.specs.declared.event.Event.TheVariants.{Post, Submit, Take, Cut}
use Rattle.smbd_base.specs.Limits.{usual_limits}
use Rattle.smbd_base.specs.NegotiateMessages.{request_bytes, request_of_limits}
use Rattle.world_core.specs.declared.choice.Choice.{Choice}
use Rattle.world_core.specs.declared.choice.Choice.TheVariants as choices
use Rattle.world_core.specs.Run.{State, run_of}

-- the run of two ends of the usual limits
abbrev pub run : List Choice → State
run chosen = run_of usual_limits usual_limits chosen

abbrev pub request : List ℕ
request = request_bytes (request_of_limits usual_limits)

-- the message `a`
abbrev pub a : List ℕ
a = 97 ∷ []

-- a past in which nothing came after the receives were posted
abbrev pub opened : List Event
opened = Post 255 ∷ []

pub record RunSo : Type 0 where
  -- nothing is in flight: a carry does nothing, and on a cut link it finds the cut
  pub none : (run (choices.Carry Server ∷ [])).server ≡ opened
  pub cut : (run (choices.Cut Client ∷ [])).client ≡ Cut ∷ opened
  pub link : (run (choices.Cut Client ∷ [])).link_cut ≡ true
  pub unaware : (run (choices.Cut Client ∷ [])).server ≡ opened
  pub finds : (run (choices.Cut Client ∷ choices.Carry Server ∷ [])).server ≡ Cut ∷ opened
  -- a frame in flight on a cut link is lost
  pub lost : (run (choices.Drive Client ∷ choices.Cut Client ∷ choices.Carry Server ∷ [])).server ≡ Cut ∷ opened
  -- a receive is posted on a cut link too, and a message submitted; a frame can't be sent, and the end finds the cut
  pub posts : (run (choices.Drive Client ∷ choices.Carry Server ∷ choices.Cut Client ∷ choices.Drive Server ∷ [])).server
      ≡ Post 1 ∷ Take request ∷ opened
  pub submits : (run (choices.Cut Client ∷ choices.Submit Server a ∷ [])).server ≡ Submit a ∷ opened
  pub sends_none : (run (choices.Drive Client ∷ choices.Carry Server ∷ choices.Cut Client ∷ choices.Drive Server ∷ choices.Drive Server ∷ [])).server
      ≡ Cut ∷ Post 1 ∷ Take request ∷ opened
  -- no frame is taken, nor the cut found, before the receive is posted anew
  pub post_due : (run (choices.Drive Client ∷ choices.Carry Server ∷ choices.Cut Client ∷ choices.Carry Server ∷ [])).server ≡ Take request ∷ opened
  -- an end that is cut does nothing more
  pub after_cut : (run (choices.Cut Client ∷ choices.Cut Client ∷ choices.Drive Client ∷ choices.Submit Client a ∷ [])).client ≡ Cut ∷ opened
  -- whose event each one was, the newest one first: a choice that does nothing leaves none
  pub order : (run (choices.Drive Client ∷ choices.Drive Server ∷ choices.Carry Server ∷ [])).order ≡ Server ∷ Client ∷ Server ∷ Client ∷ []
