use Rattle.std.proofs.Common.{refl}
use Rattle.std.proofs.lemmas.Option.{slice_get_read}
use Rattle.file_transfer.specs.GetPagesStand.{loaded_in, back_in}
use Rattle.file_transfer.proofs.GetPagesLemmas.{set-changed, set-same}
use Rattle.file_transfer.proofs.get_pages.note_back.Goals as goal

pub returns-clause-back : goal.returns-clause-back
returns-clause-back c = set-changed back_in c.args.slots.now.items c.args.page _

pub returns-clause-loaded : goal.returns-clause-loaded
returns-clause-loaded c =
    set-same loaded_in c.args.slots.now.items c.args.page _ c.index_mut-slot.result.now
    (slice_get_read c.args.slots.now.items _ c.args.page c.index_mut-slot.result.now refl c.requires c.index_mut-slot.ensures.value) refl
