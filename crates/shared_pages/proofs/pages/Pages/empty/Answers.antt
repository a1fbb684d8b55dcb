-- The rule holds at the start.
use Rattle.std.proofs.Common.{rules, ◌≡◌, ℕ, List, replicate, sym, ap, subst, ◌∙◌}
use Rattle.std.specs.Prelude.{Some}
use Rattle.atomic_table.specs.Table.{opening}
use Rattle.smbd_base.specs.Pages.{opened_page}
use Rattle.shared_pages.specs.declared.view.Opening.{Opening}
use Rattle.shared_pages.specs.declared.view.View.TheVariants.{Rest}
use Rattle.shared_pages.specs.Rule.{Slot, Kept}
use Rattle.shared_pages.proofs.Opened.{opens_well}
use Rattle.shared_pages.proofs.pages.Pages.empty.Goals as goal

pub new-requires : goal.new-requires
new-requires c =
    let at : c.from.result ≡ c.args.count = search rules in
    let first : Slot = Some (opened_page c.args.first_generation) in
    let pool : Opening = record { pages = c.from.result; first = c.args.first_generation; seats = c.args.seats } in
    let words : c.as_slice.result.now ≡ replicate c.from.result 0 = search rules in
    let slots : c.in_ok-slots.slots.items ≡ replicate c.args.count first = search rules in
    subst (λ (z : List ℕ × List Slot). Kept pool (opening z.0 z.1 (Rest 0 (replicate c.from.result Rattle.std.proofs.Common.[]))))
    (λ i. (sym words i, sym (slots ∙ ap (λ (n : ℕ). replicate n first) (sym at)) i)) (opens_well pool c.requires.least c.requires.most_seats)
