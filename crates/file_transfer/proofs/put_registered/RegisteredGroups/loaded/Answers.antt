use Rattle.std.proofs.Common.{refl}
use Rattle.file_pasts.specs.PutDue.{jobs_due}
use Rattle.file_pasts.proofs.InStep.{load-done}
use Rattle.file_transfer.proofs.PutRegisteredLemmas.{load-within, stand-loaded}
use Rattle.file_transfer.proofs.put_registered.RegisteredGroups.loaded.Goals as goal

pub note_load-requires : goal.note_load-requires
note_load-requires c = load-within c.requires.windows c.requires.number c.args.descriptor c.requires.past c.args.self.now c.requires.closed

pub returns : goal.returns
returns c = λ w number past s.
    stand-loaded w number c.args.descriptor past c.args.self.now _ s
    (c.note_load.ensures.stand w number past s.slots (load-done w number c.args.descriptor past s.lawful s.answers_it)) c.note_load.ensures.pages
    (c.let_go.ensures.same (jobs_due w past) _ s.due) c.let_go.ensures.kept refl refl refl refl
