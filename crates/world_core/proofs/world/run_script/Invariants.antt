use Rattle.std.proofs.Common.{◌≡◌, take}
use Rattle.world_core.specs.Run.{run_of, AreJointIn, AreDelivered}
use Rattle.world_core.proofs.world.run_script.Given as goal

abbrev pub invariant-loop-choice : goal.invariant-loop-choice
invariant-loop-choice l = record {
  run : l.world ≡ run_of l.fn.client l.fn.server (take l.choice-index l.choices);
  joint : AreJointIn l.world;
  delivered : AreDelivered l.world;
}
