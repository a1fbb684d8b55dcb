use Rattle.std.proofs.Common.{refl}
use Rattle.std.proofs.lemmas.Option.{slice_get_read}
use Rattle.file_transfer.proofs.PutPagesLemmas.{stand-loaded}
use Rattle.file_transfer.proofs.put_pages.note_load.Goals as goal

pub returns-clause-stand : goal.returns-clause-stand
returns-clause-stand c = λ w number past s l.
    stand-loaded w number c.args.page c.args.loaded past c.args.slots.now.items _ c.index_mut-slot.result.now _ s l
    (slice_get_read c.args.slots.now.items _ c.args.page c.index_mut-slot.result.now refl c.requires c.index_mut-slot.ensures.value)
    refl refl refl refl refl
