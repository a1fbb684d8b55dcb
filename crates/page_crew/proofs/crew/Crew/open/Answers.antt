use Rattle.std.proofs.Common.{◌≡◌, ℕ, ◌+◌, ◌-◌, ◌*◌, List, length, ap, ◌∙◌, arith}
use Rattle.std.proofs.lemmas.List.FromFn.{length-range_with_len}
use Rattle.copy_laws.specs.Steps.{workers_opened}
use Rattle.page_crew.proofs.Opening.{both-opened, opened-sized, opened-coupled}
use Rattle.page_crew.proofs.crew.Crew.open.Goals as goal

pub open_workers-requires-clause-left : goal.open_workers-requires-clause-left
open_workers-requires-clause-left c =
    let n = c.args.workers in
    let seats : length c.in_ok-region.passes ≡ 2 * n = ap (λ (ps : List ℕ). length ps) c.in_ok-region.ensures.passes ∙ length-range_with_len 0 (2 * n) in
    omega (arith, seats)

pub open_workers-requires-2-clause-left : goal.open_workers-requires-2-clause-left
open_workers-requires-2-clause-left c =
    let n = c.args.workers in
    let seats : length c.open_workers.new.passes ≡ 2 * n - n =
    ap (λ (ps : List ℕ). length ps) (c.in_ok-clients.ensures.passes 0 (2 * n) c.in_ok-region.ensures.passes) ∙ length-range_with_len (0 + n) (2 * n - n) in
    omega (arith, seats)

pub invariant_of-result : goal.invariant_of-result
invariant_of-result c =
    let lists : (c.in_ok-clients.clients.items ≡ workers_opened 0 c.args.workers) × (c.in_ok-servers.servers.items ≡ workers_opened c.args.workers c.args.workers) =
    both-opened c.args.workers c.in_ok-region.passes c.open_workers.new.passes c.in_ok-clients.clients.items c.in_ok-servers.servers.items c.in_ok-region.ensures.passes
    c.in_ok-clients.ensures.workers c.in_ok-clients.ensures.passes c.in_ok-servers.ensures.workers in
    opened-sized c.args.workers c.args.pages c.in_ok-region.region c.in_ok-clients.clients.items c.in_ok-servers.servers.items
    c.requires.some c.requires.few c.requires.least c.requires.most c.in_ok-region.ensures.pages lists.0 lists.1

pub returns-clause-coupled : goal.returns-clause-coupled
returns-clause-coupled c =
    let lists : (c.in_ok-clients.clients.items ≡ workers_opened 0 c.args.workers) × (c.in_ok-servers.servers.items ≡ workers_opened c.args.workers c.args.workers) =
    both-opened c.args.workers c.in_ok-region.passes c.open_workers.new.passes c.in_ok-clients.clients.items c.in_ok-servers.servers.items c.in_ok-region.ensures.passes
    c.in_ok-clients.ensures.workers c.in_ok-clients.ensures.passes c.in_ok-servers.ensures.workers in
    opened-coupled c.args.workers c.args.pages c.in_ok-region.region.pages c.in_ok-clients.clients.items c.in_ok-servers.servers.items c.in_ok-region.ensures.pages lists.0 lists.1
