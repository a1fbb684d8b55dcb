use Rattle.std.proofs.Common.{sym, rules}
use Rattle.token_table.proofs.TableLemmas.{TakesHold-set}
use Rattle.token_table.proofs.table.TokenTable.claim.Goals as goal

pub returns-clause-held : goal.returns-clause-held
returns-clause-held c =
    TakesHold-set c.args.token c.args.self.now c.self.inside.places.items c.from-page.result c.in-Some.listed
    c.once_more-hold.result.1 c.once_more-hold.result.0 c.self.view_is (search rules) (search rules) (sym c.in-Some.ensures)
    c.once_more-hold.ensures.hold c.once_more-hold.ensures.more
