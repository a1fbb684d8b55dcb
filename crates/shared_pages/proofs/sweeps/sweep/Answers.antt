-- One more is met.
use Rattle.std.proofs.Common.{rules, ◌≡◌, ◌<◌, length, slice_index_or, subst, arith}
use Rattle.std.proofs.lemmas.List.{get_or_default}
use Rattle.shared_pages.specs.declared.page_pass.PagePass.{PagePass}
use Rattle.shared_pages.specs.Sweeps.{HaveMet}
use Rattle.shared_pages.proofs.Sweeping.{none-swept, swept-more}
use Rattle.shared_pages.proofs.sweeps.sweep.Goals as goal

pub loop-i-init : goal.loop-i-init
loop-i-init c = none-swept c.args.pages.now c.args.first.now c.args.rest.now c.requires.first

pub loop-i-preserved : goal.loop-i-preserved
loop-i-preserved c =
    let s = c.loop-i.invariant in
    let count = s.count in
    let within : c.loop-i.i < length c.loop-i.rest = search rules in
    let met : slice_index_or c.loop-i.rest c.loop-i.i c.index-rest-i.result ≡ slice_index_or c.loop-i.rest c.loop-i.i c.meet_two.new.other =
    get_or_default c.loop-i.rest c.loop-i.i c.index-rest-i.result c.meet_two.new.other within in
    swept-more c.args.pages.now c.loop-i.i c.args.first.now c.loop-i.first c.args.rest.now c.loop-i.rest s (omega arith)
    c.meet_two.new.one c.meet_two.new.other
    (subst (λ (x : PagePass). HaveMet c.args.pages.now c.loop-i.first x c.meet_two.new.one c.meet_two.new.other) met c.meet_two.ensures)
