use Rattle.std.proofs.Common.{sym, ◌∙◌, rules}
use Rattle.token_table.proofs.TableLemmas.{TakesOut-set}
use Rattle.token_table.proofs.table.TokenTable.withdraw.Goals as goal

pub returns-clause-done : goal.returns-clause-done
returns-clause-done c =
    TakesOut-set c.args.token c.args.self.now c.self.inside.places.items c.from-page.result c.in-Some.field-0 c.self.view_is
    (search rules) (search rules) (sym c.listed.ensures ∙ c.in-Some.is)
