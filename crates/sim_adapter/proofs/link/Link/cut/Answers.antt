use Rattle.std.proofs.Common.{rules}
use Rattle.sim_adapter.specs.Rule.{end_of}
use Rattle.sim_adapter.proofs.Posting.{cuts_at}
use Rattle.sim_adapter.proofs.link.Link.cut.Goals as goal

pub swap-requires : goal.swap-requires
swap-requires c = let p = c.args.pass.now in (
  c.requires.own,
  search rules,
  cuts_at c.args.self.now.table.shared.key _ p.seat.id p.seat.me (end_of p.seat.me.0) p.rests.0 c.requires.uncut c.requires.few,
)
