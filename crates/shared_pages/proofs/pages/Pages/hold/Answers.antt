-- The swap may be made, and where it shows no mark the page's content is taken out.
use Rattle.std.proofs.Common.{rules, sym, ap, subst, ◌∙◌, ◌∷◌}
use Rattle.std.specs.Prelude.{Some, None, Option}
use mathlib.Core.Option.{none}
use Rattle.atomic_table.specs.Table.{Allows, step, rest}
use Rattle.smbd_base.specs.Pages.{page_state}
use Rattle.shared_pages.specs.declared.view.Opening.{Opening}
use Rattle.shared_pages.specs.Rule.{Sat, Kept, sight_of, mark, held}
use Rattle.shared_pages.proofs.Holding.{holds, taken_out}
use Rattle.shared_pages.proofs.pages.Pages.hold.Goals as goal

pub swap-found-requires : goal.swap-found-requires
swap-found-requires g c = let k = c.args.self.now.table.shared.key in let n = c.args.self.now.table.shared.table_id.slots in let p = c.args.seat.now in (
  c.requires.own.0,
  search rules,
  subst (λ (m : Sat). Allows (Kept k) n p.id m c.args.page (λ _. mark) (held g.J.Opens.opening.first (step n c.args.page mark 0 none) m)) (sym c.requires.rests.0)
      (subst (λ (f : Rattle.std.specs.Prelude.ℕ). Allows (Kept k) n p.id (Rattle.shared_pages.specs.declared.view.View.TheVariants.One (sight_of p.me.0), Rattle.std.specs.Prelude.[]) c.args.page (λ _. mark) (held f (step n c.args.page mark 0 none) (Rattle.shared_pages.specs.declared.view.View.TheVariants.One (sight_of p.me.0), Rattle.std.specs.Prelude.[]))) (sym (ap (λ (o : Opening). o.first) c.requires.opening))
      (holds k n p.id c.args.page (sight_of p.me.0) c.requires.own.1 c.requires.rests.1)),
)

pub exchange-requires : goal.exchange-requires
exchange-requires g c = let looked = c.swap-found.ensures.2.1 (search rules) in let there = ap (λ (m : Sat). m.1) looked.2 in
    (search rules, (Some (page_state g.J.Opens.opening.first looked.0), there ∙ (λ i. (c.args.page, Some (page_state g.J.Opens.opening.first looked.0)) ∷ rest (sym there i))))

pub returns-clause-held : goal.returns-clause-held
returns-clause-held g c = let looked = c.swap-found.ensures.2.1 (search rules) in record {
  log = looked.0;
  life = record { lawful = looked.4; extends = λ older h. (looked.5 older h).0; own = λ older h. (looked.5 older h).1 };
  past = looked.1;
  after = looked.9;
  seat = c.exchange.ensures.3 ∙ (λ i. ((looked.2 i).0, (c.args.page, None) ∷ rest (looked.2 i).1));
  counted = looked.3;
  stands = taken_out _ _ _ _ _ _ _ c.exchange.ensures.2 (ap (λ (m : Sat). m.1) looked.2) (search rules);
  countable = looked.6;
  seen = looked.7;
  few = looked.8;
}
