-- The right to make passes is cut in two.
use Rattle.std.proofs.Common.{rules, sym, ap, subst, replicate, []}
use Rattle.atomic_table.specs.Table.{Splits}
use Rattle.shared_pages.specs.declared.view.View.{View}
use Rattle.shared_pages.specs.Rule.{Sat, Kept, fewer, next_pass}
use Rattle.shared_pages.proofs.Meeting.{makes_pass}
use Rattle.shared_pages.proofs.pages.Pages.deal.Goals as goal

pub split_seat-dealt-requires : goal.split_seat-dealt-requires
split_seat-dealt-requires c = let k = c.args.self.now.table.shared.key in (
  search rules,
  search rules,
  subst (λ (v : View). Splits (Kept k) c.args.seat.now.id v (fewer v) (next_pass v)) (sym (ap (λ (m : Sat). m.0) c.requires.rest))
      (makes_pass k c.args.seat.now.id c.args.number (replicate k.pages []) c.requires.few),
)
