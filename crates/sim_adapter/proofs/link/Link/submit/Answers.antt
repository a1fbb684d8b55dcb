use Rattle.std.proofs.Common.{rules}
use Rattle.sim_adapter.specs.Rule.{end_of}
use Rattle.sim_adapter.proofs.Posting.{submits_at}
use Rattle.sim_adapter.proofs.link.Link.submit.Goals as goal

pub load-requires : goal.load-requires
load-requires g c = let p = c.args.pass.now in (
  c.requires.own,
  search rules,
  submits_at c.args.self.now.table.shared.key _ p.seat.id g.J.Says.message p.seat.me (end_of p.seat.me.0) p.rests.0 c.requires.legal c.requires.few,
)
