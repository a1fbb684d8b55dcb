use Rattle.std.proofs.Common.{refl, sym, ◌∙◌}
use Rattle.world_core.specs.declared.choice.Choice.TheVariants as choices
use Rattle.copy_ends.proofs.Turning.{drove, added_one}
use Rattle.copy_ends.proofs.Sending.{drove_sent}
use Rattle.copy_ends.proofs.turns.drive.Goals as goal

pub returns-in-Did-clause-turned : goal.returns-in-Did-clause-turned
returns-in-Did-clause-turned c = drove c.args.end c.args.world.now c.step.new.self c.history.ensures.joint c.requires c.in_ok-step.ensures.step

pub returns-in-Did-clause-one : goal.returns-in-Did-clause-one
returns-in-Did-clause-one c = λ e.
    added_one c.args.end c.args.world.now c.step.new.self (choices.Drive c.args.end) refl refl c.in_ok-step.ensures.step (sym c.in-Did.is ∙ c.in_ok-step.ensures.answer)

pub returns-in-Did-clause-sent : goal.returns-in-Did-clause-sent
returns-in-Did-clause-sent c = drove_sent c.args.end c.args.world.now c.step.new.self c.requires c.in_ok-step.ensures.step

pub returns-clause-sent : goal.returns-clause-sent
returns-clause-sent c = drove_sent c.args.end c.args.world.now c.step.new.self c.requires c.in_ok-step.ensures.step
