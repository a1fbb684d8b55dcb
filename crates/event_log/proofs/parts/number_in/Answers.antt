use Rattle.std.proofs.Common.{◌∙◌, arith}
use Rattle.event_log.proofs.NumberLemmas.{number_in-none, number_in-inside, number_in-below, number_in-above}
use Rattle.event_log.proofs.parts.number_in.Goals as goal

pub returns-in_err-number-clause-value : goal.returns-in_err-number-clause-value
returns-in_err-number-clause-value c =
    c.from_residual.ensures ∙ number_in-none c.args.least c.args.most c.args.text.now (omega arith) c.in_err-number.ensures.none

pub returns-then-number-least-clause-value : goal.returns-then-number-least-clause-value
returns-then-number-least-clause-value c =
    number_in-below c.args.least c.args.most c.in_ok-number.number c.args.text.now (omega arith) c.in_ok-number.ensures.some (omega arith)

pub returns-then-most-number-clause-value : goal.returns-then-most-number-clause-value
returns-then-most-number-clause-value c =
    number_in-above c.args.least c.args.most c.in_ok-number.number c.args.text.now (omega arith) c.in_ok-number.ensures.some (omega arith) (omega arith)

pub returns-clause-value : goal.returns-clause-value
returns-clause-value c =
    number_in-inside c.args.least c.args.most c.in_ok-number.number c.args.text.now (omega arith) c.in_ok-number.ensures.some (omega arith) (omega arith)
