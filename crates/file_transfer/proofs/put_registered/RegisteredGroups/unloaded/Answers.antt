use Rattle.std.proofs.Common.{◌≡◌, ◌<◌, ◌++◌, ℕ, Some, List, ◌∷◌, refl, sym, ap, ◌∙◌, subst, arith}
use Rattle.std.specs.Prelude.{slice_get}
use Rattle.file_messages.specs.declared.job.Work.{Work}
use Rattle.file_messages.specs.declared.job.WorkResult.TheVariants.{Unloaded}
use Rattle.file_pasts.specs.ClientPast.{Completed}
use Rattle.file_pasts.specs.PutDue.{jobs_due, load_of_part, load_after}
use Rattle.file_pasts.specs.InStep.{IsUnloadDone}
use Rattle.file_pasts.proofs.InStep.{unload-done}
use Rattle.file_transfer.specs.ClientJobs.{JobsStand}
use Rattle.file_transfer.proofs.PutRegisteredLemmas.{unload-within, pool-within, stand-unloaded}
use Rattle.file_transfer.proofs.put_registered.RegisteredGroups.unloaded.Goals as goal

pub note_unload-part-requires-clause-within : goal.note_unload-part-requires-clause-within
note_unload-part-requires-clause-within c =
    let r = c.requires in
    let limit : c.args.self.now.count < 18446744073709551616 = omega arith in
    omega (arith, c.from.ensures, (unload-within r.windows r.number c.args.page r.bytes r.past c.args.self.now r.closed r.freed limit).0)

pub note_unload-part-requires-clause-counted : goal.note_unload-part-requires-clause-counted
note_unload-part-requires-clause-counted c = λ it at.
    let r = c.requires in
    let limit : c.args.self.now.count < 18446744073709551616 = omega arith in
    (unload-within r.windows r.number c.args.page r.bytes r.past c.args.self.now r.closed r.freed limit).1 it
    (ap (λ (k : ℕ). slice_get c.args.self.now.slots.items k) (sym c.from.ensures) ∙ at)

pub drop_back-requires : goal.drop_back-requires
drop_back-requires c = λ k group at.
    let r = c.requires in
    let h = pool-within r.windows r.number r.bytes r.past c.args.self.now r.closed k group at in
    omega (arith, h, c.note_unload-part.ensures.pages)

pub returns : goal.returns
returns c = λ w number bytes past s freed.
    let done : IsUnloadDone w c.from.result number past =
    subst (λ (k : ℕ). IsUnloadDone w k number past) (sym c.from.ensures) (unload-done w number c.args.page bytes past s.lawful s.answers_it freed) in
    let slots = c.note_unload-part.ensures.stand w number bytes past s.slots done in
    let load : load_of_part c.args.page c.note_unload-part.result ≡ load_after w (Some c.args.page) past =
    subst (λ (k : ℕ). load_of_part k c.note_unload-part.result ≡ load_after w (Some k) past) c.from.ensures (c.note_unload-part.ensures.next w past s.slots) in
    stand-unloaded w number c.args.page bytes past c.args.self.now _ s freed slots c.note_unload-part.ensures.pages
    (subst (λ (ws : List Work). JobsStand (jobs_due w past ++ ws) (Completed (record { number = number; result = Unloaded bytes }) ∷ past) c.load_next.new.jobs) load
    (c.load_next.ensures.more (jobs_due w past) _ s.due)) c.load_next.ensures.kept (c.drop_back.ensures.back w _ slots) refl refl c.drop_back.ensures.room
