use Rattle.std.proofs.Common.{take, ap, sym, ◌∙◌}
use Rattle.std.proofs.lemmas.List.Sums.{fold_more}
use Rattle.world_core.specs.declared.choice.Choice.{Choice}
use Rattle.world_core.specs.Run.{State, step_of, opened_world, run_of}
use Rattle.world_core.proofs.world.run_script.Goals as goal

pub loop-choice-preserved : goal.loop-choice-preserved
loop-choice-preserved c =
    let before : State = run_of c.args.client c.args.server (take c.loop-choice.choice-index c.args.choices.now) in
    let more = fold_more step_of (opened_world c.args.client c.args.server) c.args.choices.now c.loop-choice.choice-index c.choice-item.result c.loop-choice-test.true in
    record {
      run = c.in_ok-step.ensures.step ∙ ap (λ (w : State). step_of w c.choice-item.result) c.loop-choice.invariant.run
          ∙ ap (λ (choice : Choice). step_of before choice) c.choice-item.is ∙ sym more;
      joint = c.step.ensures.joint;
      delivered = c.step.ensures.delivered;
    }
