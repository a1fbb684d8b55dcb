use Rattle.std.proofs.Common.{◌%◌, Some, ℕ, List, map, sym, ap, ◌∙◌, subst, arith}
use Rattle.std.specs.Prelude.{slice_set, Option}
use Rattle.buffer_descriptor.specs.declared.descriptor.Descriptor.{Descriptor}
use Rattle.file_messages.specs.declared.job.WorkResult.{WorkResult}
use Rattle.file_messages.specs.declared.job.WorkResult.TheVariants.{Loaded, Unloaded}
use Rattle.file_pasts.specs.ClientPast.{AnswersJob, loaded_by}
use Rattle.file_pasts.specs.GetDue.{sent}
use Rattle.file_transfer.specs.GetPagesStand.{back_in, first_unload}
use Rattle.file_transfer.proofs.GetPagesLemmas.{load-turn, unload-turn, no-other, loads-set, loads-same, pages-set}
use Rattle.file_transfer.proofs.get_pages.note.Goals as goal

pub note_load-requires-clause-within : goal.note_load-requires-clause-within
note_load-requires-clause-within c =
    let r = c.requires in
    let a : AnswersJob r.past (record { number = c.args.completion.number; result = Loaded c.in-Loaded.descriptor }) =
    subst (λ (x : WorkResult). AnswersJob r.past (record { number = c.args.completion.number; result = x })) c.in-Loaded.is r.answers_it in
    omega (arith, (load-turn r.past c.args.completion.number c.in-Loaded.descriptor r.lawful a).page, r.pages)

pub returns-in-Loaded-clause-loaded : goal.returns-in-Loaded-clause-loaded
returns-in-Loaded-clause-loaded c = λ past p b e.
    let d : Descriptor = c.in-Loaded.descriptor in
    let a : AnswersJob past (record { number = c.args.completion.number; result = Loaded d }) =
    subst (λ (x : WorkResult). AnswersJob past (record { number = c.args.completion.number; result = x })) c.in-Loaded.is b in
    let t = load-turn past c.args.completion.number d p a in
    c.note_load.ensures.loaded ∙ ap (λ (os : List (Option Descriptor)). slice_set os (d.token % 256) (Some d)) e
    ∙ sym (loads-set 16 0 (d.token % 256) c.args.completion d past c.in-Loaded.is (omega arith) t.page t.turn)

pub returns-in-Loaded-clause-back : goal.returns-in-Loaded-clause-back
returns-in-Loaded-clause-back c = λ past p b h e.
    let a : AnswersJob past (record { number = c.args.completion.number; result = Loaded c.in-Loaded.descriptor }) =
    subst (λ (x : WorkResult). AnswersJob past (record { number = c.args.completion.number; result = x })) c.in-Loaded.is b in
    absurd (let f = (load-turn past c.args.completion.number c.in-Loaded.descriptor p a).unawaited in let x : ⊥ = cc in x)

pub returns-in-Unloaded-clause-loaded : goal.returns-in-Unloaded-clause-loaded
returns-in-Unloaded-clause-loaded c = λ past p b e.
    c.note_back.ensures.loaded ∙ e ∙ sym (loads-same 16 0 (sent past) c.args.completion past (λ page. ap (loaded_by page) c.in-Unloaded.is))

pub returns-in-Unloaded-clause-back : goal.returns-in-Unloaded-clause-back
returns-in-Unloaded-clause-back c = λ past p b h e.
    let bytes : List ℕ = c.in-Unloaded.bytes in
    let a : AnswersJob past (record { number = c.args.completion.number; result = Unloaded bytes }) =
    subst (λ (x : WorkResult). AnswersJob past (record { number = c.args.completion.number; result = x })) c.in-Unloaded.is b in
    let t = unload-turn past c.args.completion.number bytes p a in
    c.note_back.ensures.back ∙ ap (λ (b : List ℕ). slice_set (map back_in c.args.slots.now.items) (c.args.completion.number % 16) b) c.in-Unloaded.bytes-is
    ∙ ap (λ (ps : List (List ℕ)). slice_set ps (c.args.completion.number % 16) bytes) e
    ∙ sym (pages-set 16 (first_unload past) (c.args.completion.number % 16) c.args.completion bytes past c.in-Unloaded.is t.place (omega arith))

pub returns : goal.returns
returns c = record {
  loaded = λ past p b e. absurd (no-other past c.args.completion p b (λ d is. c.in_default.not-Loaded d is) (λ bytes is. c.in_default.not-Unloaded bytes is));
  back = λ past p b h e. absurd (no-other past c.args.completion p b (λ d is. c.in_default.not-Loaded d is) (λ bytes is. c.in_default.not-Unloaded bytes is));
}
