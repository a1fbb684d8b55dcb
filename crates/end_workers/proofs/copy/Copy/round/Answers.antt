use Rattle.end_workers.proofs.Rounding.{may-run, round-on, round-going, round-stops}
use Rattle.end_workers.proofs.copy.Copy.round.Goals as goal

pub run-requires : goal.run-requires
run-requires c = may-run c.args.self.now c.requires.on c.requires.up

pub returns-clause-on : goal.returns-clause-on
returns-clause-on c = round-on c.run.result c.args.self.now c.run.new.self c.requires.on (c.run.ensures c.args.self.now.options c.requires.on.past c.requires.on.stands)

pub returns-clause-runs : goal.returns-clause-runs
returns-clause-runs c = λ o from to log s. round-going c.run.result o from to log c.args.self.now c.run.new.self s (c.run.ensures o s.past s.so_far.stands)

pub returns-clause-stops : goal.returns-clause-stops
returns-clause-stops c = λ o from to log s. round-stops c.run.result o from to log c.args.self.now s
