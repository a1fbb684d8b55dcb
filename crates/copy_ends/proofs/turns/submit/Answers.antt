use Rattle.copy_ends.proofs.Turning.{submitted_one, submitted_adds}
use Rattle.copy_ends.proofs.Sending.{submitted_none}
use Rattle.copy_ends.proofs.turns.submit.Goals as goal

pub returns-clause-turned : goal.returns-clause-turned
returns-clause-turned c =
    submitted_one c.args.end c.args.world.now c.step.new.self c.args.message c.history.ensures.joint c.requires.up c.requires.fits c.in_ok-step.ensures.step

pub returns-clause-one : goal.returns-clause-one
returns-clause-one c =
    submitted_adds c.args.end c.args.world.now c.step.new.self c.args.message c.history.ensures.joint c.requires.up c.requires.fits c.in_ok-step.ensures.step

pub returns-clause-sent : goal.returns-clause-sent
returns-clause-sent c =
    submitted_none c.args.end c.args.world.now c.step.new.self c.args.message c.history.ensures.joint c.requires.up c.requires.fits c.in_ok-step.ensures.step
