use Rattle.std.proofs.Common.{◌∙◌, sym}
use Rattle.end_workers.proofs.Ending.{keeps-cut}
use Rattle.end_workers.proofs.copy.Copy.stop_if_cut.Goals as goal

pub returns-then-is_cut-clause-stops : goal.returns-then-is_cut-clause-stops
returns-then-is_cut-clause-stops c = λ o from to log stored. keeps-cut o from to log c.args.self.now stored.settled (sym c.is_cut.ensures ∙ c.if-is_cut.true)

pub returns-clause-goes_on : goal.returns-clause-goes_on
returns-clause-goes_on c = λ o from to log stored.
    record { settled = stored.settled; none = stored.none; uncut = sym c.is_cut.ensures ∙ c.if-is_cut.false }
