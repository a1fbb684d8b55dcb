use Rattle.std.proofs.Common.{rules}
use Rattle.buffer_descriptor.proofs.IntervalLemmas.{covers_places}
use Rattle.buffer_descriptor.proofs.intervals.covers.Goals as goal

pub returns-then-base-descriptor-clause-places : goal.returns-then-base-descriptor-clause-places
returns-then-base-descriptor-clause-places c =
    covers_places _ c.args.base c.args.length c.args.descriptor.now c.requires.sound (search rules)

pub returns-else-base-descriptor-clause-places : goal.returns-else-base-descriptor-clause-places
returns-else-base-descriptor-clause-places c =
    covers_places _ c.args.base c.args.length c.args.descriptor.now c.requires.sound (search rules)
