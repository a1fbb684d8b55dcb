use Rattle.std.proofs.Common.{rules, ◌≡◌, sym, ap, subst, ◌∙◌, []}
use mathlib.Core.Option.{none}
use Rattle.atomic_table.specs.Table.{Allows, Splits, Joins, step}
use Rattle.shared_pages.specs.declared.view.Opening.{Opening}
use Rattle.shared_pages.specs.declared.view.View.{View}
use Rattle.shared_pages.specs.declared.view.View.TheVariants.{One, Spent}
use Rattle.shared_pages.specs.declared.view.Sight.{Sight}
use Rattle.shared_pages.specs.Rule.{Sat, Kept, sight_of, copied, joined, met}
use Rattle.shared_pages.proofs.Meeting.{copies, joins, meets}
use Rattle.shared_pages.proofs.pages.Pages.learn.Goals as goal

pub split_seat-copy-requires : goal.split_seat-copy-requires
split_seat-copy-requires g c = let k = c.args.self.now.table.shared.key in let q = c.args.other.now in
    (c.requires.own.1, search rules, subst (λ (v : View). Splits (Kept k) q.seat.id v v (copied v)) (sym (ap (λ (m : Sat). m.0) q.rests.0)) (copies k q.seat.id (sight_of q.seat.me.0)))

pub join_seat-requires : goal.join_seat-requires
join_seat-requires g c = let k = c.args.self.now.table.shared.key in let p = c.args.one.now in let q = c.args.other.now in
    let here = ap (λ (m : Sat). m.0) p.rests.0 in let there = ap (λ (m : Sat). m.0) c.split_seat-copy.ensures.4 ∙ ap (λ (m : Sat). copied m.0) q.rests.0 in (
      search rules,
      search rules,
      search rules,
      search rules,
      subst (λ (z : View × View). Joins (Kept k) p.seat.id z.0 c.split_seat-copy.result.id z.1 (joined z.0 z.1) Spent) (λ i. (sym here i, sym there i)) (joins k p.seat.id c.split_seat-copy.result.id (sight_of p.seat.me.0) (sight_of q.seat.me.0).seen (sight_of q.seat.me.0).past),
    )

pub load-requires : goal.load-requires
load-requires g c = let k = c.args.self.now.table.shared.key in let n = c.args.self.now.table.shared.table_id.slots in let p = c.args.one.now in let q = c.args.other.now in
    let here = ap (λ (m : Sat). m.0) p.rests.0 in let there = ap (λ (m : Sat). m.0) c.split_seat-copy.ensures.4 ∙ ap (λ (m : Sat). copied m.0) q.rests.0 in
    let w : Sight = record (sight_of p.seat.me.0) { other_past = (sight_of q.seat.me.0).past; other = (sight_of q.seat.me.0).seen } in
    let now : c.join_seat.new.seat.me ≡ (One w, []) = c.join_seat.ensures.2 ∙ (λ i. (joined (here i) (there i), (p.rests.0 i).1)) in (
      search rules,
      search rules,
      subst (λ (m : Sat). Allows (Kept k) n c.join_seat.new.seat.id m 0 (λ x. x) (met g.J.Opens.opening (step n 0 0 0 none) m)) (sym now)
          (subst (λ (o : Opening). Allows (Kept k) n c.join_seat.new.seat.id (One w, []) 0 (λ x. x) (met o (step n 0 0 0 none) (One w, []))) (sym c.requires.opening)
          (meets k n c.join_seat.new.seat.id w p.rests.1)),
    )
