use Rattle.std.proofs.Common.{◌≡◌, List, ℕ, length, sym, ap, ◌∙◌}
use Rattle.smbd_base.specs.declared.token.TheConstants.{PAGE_SIZE}
use Rattle.file_messages.specs.declared.job.WorkResult.TheVariants.{Unloaded}
use Rattle.page_workers.specs.declared.kept.Kept.TheVariants.{Fresh}
use Rattle.page_workers.specs.declared.kept.Tried.{Tried}
use Rattle.page_workers.specs.declared.kept.Tried.TheVariants.{Finished}
use Rattle.page_workers.specs.Tries.{unload_job}
use Rattle.page_workers.proofs.TryLemmas.{tried-as, unload-done, filled}
use Rattle.page_workers.proofs.unloads.unload.Goals as goal

pub returns-in-Released-clause-tried : goal.returns-in-Released-clause-tried
returns-in-Released-clause-tried c =
    let out = c.release.new.out in
    let whole : length out ≡ PAGE_SIZE = search in
    let says : List ℕ → Tried = λ bytes. Finished (record { number = c.args.number; result = Unloaded bytes }) in
    let tried : c.unloaded.result.tried ≡ says out = c.unloaded.ensures.tried ∙ ap says (filled out c.args.room.items c.args.room.len (whole ∙ sym c.requires)) in
    tried-as (Fresh (unload_job c.args.number c.args.token)) _ _ _ _ c.args.region.now c.release.new.self tried c.unloaded.ensures.line
    (unload-done c.args.number c.args.token out c.args.region.now c.release.new.self whole c.in-Released.ensures.leaves.0, sym c.in-Released.ensures.answer, c.in-Released.ensures.leaves.1)
