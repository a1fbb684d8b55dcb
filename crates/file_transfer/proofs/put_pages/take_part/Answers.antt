use Rattle.std.proofs.Common.{true, false, List, refl, sym, subst}
use Rattle.std.proofs.lemmas.List.{append-nil}
use Rattle.std.proofs.lemmas.Option.{slice_get_read}
use Rattle.file_messages.specs.declared.job.Work.{Work}
use Rattle.file_transfer.specs.ClientJobs.{JobsStand}
use Rattle.file_transfer.proofs.PutPagesLemmas.{taken-more}
use Rattle.file_transfer.proofs.put_pages.take_part.Goals as goal

pub returns-then-slot-clause-taken : goal.returns-then-slot-clause-taken
returns-then-slot-clause-taken c = λ w first taken past s e room.
    taken-more w first c.args.page taken c.args.part past c.args.slots.now.items _ c.args.jobs.now c.add.new.self c.index_mut-slot.result.now _ true s e room
    (slice_get_read c.args.slots.now.items _ c.args.page c.index_mut-slot.result.now refl c.requires.within c.index_mut-slot.ensures.value)
    c.if-slot.true refl (λ came_due j. c.add.ensures.more came_due past j) refl refl refl refl

pub returns-clause-taken : goal.returns-clause-taken
returns-clause-taken c = λ w first taken past s e room.
    taken-more w first c.args.page taken c.args.part past c.args.slots.now.items _ c.args.jobs.now c.let_go.new.self c.index_mut-slot.result.now _ false s e room
    (slice_get_read c.args.slots.now.items _ c.args.page c.index_mut-slot.result.now refl c.requires.within c.index_mut-slot.ensures.value)
    c.if-slot.false refl (λ (came_due : List Work) j. subst (λ (ws : List Work). JobsStand ws past c.let_go.new.self) (sym (append-nil came_due)) (c.let_go.ensures.same came_due past j)) refl c.if-slot.false refl refl
