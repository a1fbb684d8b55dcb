use Rattle.end_workers.proofs.Ending.{keeps-no-memory-settled}
use Rattle.end_workers.proofs.Going.{standing}
use Rattle.end_workers.proofs.Rounding.{jobs-given}
use Rattle.end_workers.proofs.copy.Copy.give.Goals as goal

pub give-requires : goal.give-requires
give-requires c = standing c.args.self.now c.requires

pub returns-in-Ok-clause-gives : goal.returns-in-Ok-clause-gives
returns-in-Ok-clause-gives c = λ o from to log r. jobs-given o from to log c.args.self.now c.give.new.self r (c.in-Ok.ensures o r.settled.past r.settled.so_far.stands)

pub returns-in-Err-clause-stops : goal.returns-in-Err-clause-stops
returns-in-Err-clause-stops c = λ o from to log r. keeps-no-memory-settled o from to log c.args.self.now r.settled
