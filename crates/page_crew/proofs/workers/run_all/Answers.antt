use Rattle.std.proofs.Common.{◌≡◌, List, length, sym, subst}
use Rattle.std.specs.Prelude.{is_ok}
use Rattle.std.proofs.lemmas.List.{with_items_is}
use Rattle.page_workers.specs.Workers.{WorkerState, HaveRun}
use Rattle.page_crew.proofs.workers.run_all.Goals as goal

pub returns : goal.returns
returns c =
    let news = c.run_workers.new.workers in
    let whole : length news ≡ c.args.workers.now.len = search in
    subst (λ (ws : List WorkerState). HaveRun c.args.workers.now.items ws c.args.region.now c.run_workers.new.region (is_ok c.run_workers.result))
    (sym (with_items_is c.args.workers.now news whole))
    (subst (λ (ws : List WorkerState). HaveRun ws news c.args.region.now c.run_workers.new.region (is_ok c.run_workers.result)) c.deref_mut.ensures.value c.run_workers.ensures)
