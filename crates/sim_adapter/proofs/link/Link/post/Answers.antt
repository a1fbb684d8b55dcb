use Rattle.std.proofs.Common.{rules, ap, sym, ◌∙◌}
use Rattle.sim_adapter.specs.Rule.{end_of, posted_word}
use Rattle.sim_adapter.proofs.Posting.{posts_at}
use Rattle.sim_adapter.proofs.link.Link.post.Goals as goal

pub fetch_add-requires : goal.fetch_add-requires
fetch_add-requires c = let p = c.args.pass.now in (
  c.requires.own,
  search rules,
  posts_at c.args.self.now.table.shared.key _ p.seat.id _ c.args.n c.from-count.result p.seat.me (end_of p.seat.me.0) p.rests.0
      (c.posted_at.ensures ∙ ap posted_word (sym p.rests.1)) c.from-count.ensures c.requires.legal c.requires.few,
)
