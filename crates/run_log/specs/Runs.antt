-- The runs of scripts.
use Rattle.std.specs.Prelude.{◌≡◌, ◌<◌, ◌^◌, List, length}
use Rattle.smbd_base.specs.Limits.{Limits, IsLawful}
use Rattle.world_core.specs.declared.choice.Choice.{Choice}
use Rattle.world_core.specs.Run.{State, run_of}

-- The state of two ends with lawful limits after some choices. There are few enough to number the frames in a log.
pub record IsRun (state : State) : Type 0 where
  pub client : Limits
  pub server : Limits
  pub choices : List Choice
  pub client_lawful : IsLawful client
  pub server_lawful : IsLawful server
  pub few : length choices < 2 ^ 61
  pub run : state ≡ run_of client server choices
