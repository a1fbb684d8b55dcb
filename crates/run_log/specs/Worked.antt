-- Runs with their lines, worked out.
use Rattle.std.specs.Prelude.{◌≡◌, ℕ, List, [], ◌∷◌, codes}
use Rattle.smbd_base.specs.declared.end_id.EndId.TheVariants.{Client, Server}
use Rattle.smbd_base.specs.Limits.{usual_limits}
use Rattle.world_core.specs.declared.choice.Choice.{Choice}
use Rattle.world_core.specs.declared.choice.Choice.TheVariants.{Submit, Drive, Carry, Cut}
use Rattle.world_core.specs.Run.{run_of}
use Rattle.run_log.specs.RunLines.{run_lines}

-- two ends with the usual limits have these lines after these choices
abbrev pub Tells : List Choice → List (List ℕ) → Type 0
Tells choices lines = run_lines (run_of usual_limits usual_limits choices) ≡ lines

pub record WorkedLines : Type 0 where
  -- the opening posts
  pub opened : Tells [] (codes "C post 255" ∷ codes "S post 255" ∷ [])
  -- the client's request, which the server takes; the server's second turn is its cut
  pub requested : Tells (Drive Client ∷ Carry Server ∷ Drive Client ∷ Drive Server ∷ Cut Server ∷ [])
      (codes "C post 255"
      ∷ codes "S post 255"
      ∷ codes "C emit 000100010000ff00540500000020000000001000"
      ∷ codes "S take 1 20"
      ∷ codes "S post 1"
      ∷ codes "S cut"
      ∷ [])
  -- the server's message is submitted before the client's
  pub submitted : Tells (Submit Server (1 ∷ 2 ∷ []) ∷ Submit Client (3 ∷ []) ∷ [])
      (codes "C post 255" ∷ codes "S post 255" ∷ codes "S submit 2" ∷ codes "C submit 1" ∷ [])
  -- the ends are opened, and a message goes from the client to the server
  pub delivered : Tells
      (Drive Client
      ∷ Drive Client
      ∷ Carry Server
      ∷ Drive Server
      ∷ Drive Server
      ∷ Carry Client
      ∷ Drive Client
      ∷ Submit Client (codes "abc")
      ∷ Drive Client
      ∷ Carry Server
      ∷ Drive Server
      ∷ Drive Server
      ∷ [])
      (codes "C post 255"
      ∷ codes "S post 255"
      ∷ codes "C emit 000100010000ff00540500000020000000001000"
      ∷ codes "S take 1 20"
      ∷ codes "S post 1"
      ∷ codes "S emit 0001000100010000ff00ff000000000000001000540500000020000000001000"
      ∷ codes "C take 1 32"
      ∷ codes "C post 1"
      ∷ codes "C submit 3"
      ∷ codes "C emit ff00ff000000000000000000180000000300000000000000616263"
      ∷ codes "S take 2 27"
      ∷ codes "S post 1"
      ∷ [])
