use Rattle.std.proofs.Common.{refl}
use Rattle.std.proofs.lemmas.Option.{slice_get_read}
use Rattle.file_transfer.proofs.PutPagesLemmas.{stand-unloaded, load-next, none-is}
use Rattle.file_transfer.proofs.put_pages.note_unload.Goals as goal

pub returns-clause-stand : goal.returns-clause-stand
returns-clause-stand c = λ w number bytes past s u.
    stand-unloaded w number c.args.page bytes past c.args.slots.now.items _ c.index_mut-slot.result.now _ s u
    (slice_get_read c.args.slots.now.items _ c.args.page c.index_mut-slot.result.now refl c.requires.within c.index_mut-slot.ensures.value)
    refl c.take-part.ensures.after refl (none-is c.index_mut-slot.result.now.waiting c.take-part.result c.is_none-slot.result c.is_none-slot.ensures c.take-part.ensures.value) refl

pub returns-clause-next : goal.returns-clause-next
returns-clause-next c = λ w past s.
    load-next w c.args.page past c.args.slots.now.items c.index_mut-slot.result.now _ s
    (slice_get_read c.args.slots.now.items _ c.args.page c.index_mut-slot.result.now refl c.requires.within c.index_mut-slot.ensures.value) c.take-part.ensures.value
