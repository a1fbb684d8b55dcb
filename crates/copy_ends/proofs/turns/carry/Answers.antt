use Rattle.std.proofs.Common.{refl, sym, ◌∙◌}
use Rattle.copy_ends.proofs.Turning.{carried_one, added_one, turned_none, takes_nothing, nothing_changed}
use Rattle.copy_ends.proofs.Sending.{carried_none}
use Rattle.world_core.specs.declared.choice.Choice.TheVariants as choices
use Rattle.copy_ends.proofs.turns.carry.Goals as goal

pub returns-in-Did-clause-turned : goal.returns-in-Did-clause-turned
returns-in-Did-clause-turned c =
    carried_one c.args.end c.args.world.now c.step.new.self c.requires c.in_ok-step.ensures.step (sym c.in-Did.is ∙ c.in_ok-step.ensures.answer)

pub returns-clause-turned : goal.returns-clause-turned
returns-clause-turned c =
    turned_none c.args.end c.args.world.now c.step.new.self c.requires
    (nothing_changed c.args.world.now c.step.new.self (choices.Carry c.args.end) c.in_ok-step.ensures.step (sym c.in-Nothing.is ∙ c.in_ok-step.ensures.answer))

pub returns-clause-none : goal.returns-clause-none
returns-clause-none c = λ e.
    takes_nothing c.args.end c.args.world.now c.step.new.self c.history.ensures.joint c.requires c.in_ok-step.ensures.step (sym c.in-Nothing.is ∙ c.in_ok-step.ensures.answer)

pub returns-in-Did-clause-one : goal.returns-in-Did-clause-one
returns-in-Did-clause-one c = λ e.
    added_one c.args.end c.args.world.now c.step.new.self (choices.Carry c.args.end) refl refl c.in_ok-step.ensures.step (sym c.in-Did.is ∙ c.in_ok-step.ensures.answer)

pub returns-in-Did-clause-sent : goal.returns-in-Did-clause-sent
returns-in-Did-clause-sent c = carried_none c.args.end c.args.world.now c.step.new.self c.requires c.in_ok-step.ensures.step

pub returns-clause-sent : goal.returns-clause-sent
returns-clause-sent c = carried_none c.args.end c.args.world.now c.step.new.self c.requires c.in_ok-step.ensures.step
