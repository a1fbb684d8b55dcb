use Rattle.end_workers.proofs.Rounding.{few-submitted}
use Rattle.end_workers.proofs.copy.Copy.finish.Goals as goal

pub submitted_in-requires : goal.submitted_in-requires
submitted_in-requires c = few-submitted c.args.self.now c.history.result.now c.requires c.history.ensures
