use Rattle.std.proofs.Common.{◌≡◌, List, ℕ, length, sym, ap, ◌∙◌}
use Rattle.smbd_base.specs.declared.token.TheConstants.{PAGE_SIZE}
use Rattle.file_messages.specs.declared.job.WorkResult.TheVariants.{Unloaded}
use Rattle.page_workers.specs.declared.kept.Kept.TheVariants.{Withdrawn}
use Rattle.page_workers.specs.declared.kept.Tried.{Tried}
use Rattle.page_workers.specs.declared.kept.Tried.TheVariants.{Finished}
use Rattle.page_workers.proofs.TryLemmas.{tried-as, unload-done, filled}
use Rattle.page_workers.proofs.unloads.unload_again.Goals as goal

pub returns-in-Done-clause-tried : goal.returns-in-Done-clause-tried
returns-in-Done-clause-tried c =
    let out = c.retry_unload.new.out in
    let whole : length out ≡ PAGE_SIZE = search in
    let says : List ℕ → Tried = λ bytes. Finished (record { number = c.args.number; result = Unloaded bytes }) in
    let tried : c.unloaded.result.tried ≡ says out = c.unloaded.ensures.tried ∙ ap says (filled out c.args.room.items c.args.room.len (whole ∙ sym c.requires)) in
    tried-as (Withdrawn c.args.number c.args.token) _ _ _ _ c.args.region.now c.retry_unload.new.self tried c.unloaded.ensures.line
    (unload-done c.args.number c.args.token out c.args.region.now c.retry_unload.new.self whole (c.retry_unload.ensures.done c.in-Done.is), sym c.in-Done.ensures.answer, c.retry_unload.ensures.table)
