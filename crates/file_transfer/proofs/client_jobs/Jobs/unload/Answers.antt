use Rattle.std.proofs.Common.{◌≡◌, ◌+◌, ◌<◌, ◌≤◌, ◌++◌, ℕ, zero, suc, List, [], ◌∷◌, length, take, map, get_or, refl, sym, ap, ◌∙◌, subst, append_assoc, arith}
use Rattle.std.proofs.lemmas.List.{take_more, map-append, append-nil}
use Rattle.file_messages.specs.declared.job.Work.{Work}
use Rattle.file_messages.specs.declared.job.Work.TheVariants.{Unload}
use Rattle.file_pasts.specs.ClientPast.{token_of_descriptor}
use Rattle.file_pasts.specs.PutDue.{unloads_of}
use Rattle.buffer_descriptor.specs.declared.descriptor.Descriptor.{Descriptor}
use Rattle.file_transfer.specs.declared.loaded_page.LoadedPage.{LoadedPage}
use Rattle.file_transfer.specs.ClientJobs.{JobsStand}
use Rattle.file_transfer.specs.ClientStands.{descriptor_in}
use Rattle.file_transfer.proofs.client_jobs.Jobs.unload.Goals as goal

pub loop-page-init : goal.loop-page-init
loop-page-init c = record {
  kept = omega arith;
  due = λ came_due past j. subst (λ (ws : List Work). JobsStand ws past c.args.self.now) (sym (append-nil came_due)) j;
}

unloads-more : (came_due : List Work) (ps : List LoadedPage) (i : ℕ) (p : LoadedPage) → i < length ps → p ≡ get_or ps i p
    → (came_due ++ unloads_of (map descriptor_in (take i ps))) ++ Unload (token_of_descriptor p.descriptor) ∷ [] ≡ came_due ++ unloads_of (map descriptor_in (take (i + 1) ps))
unloads-more came_due ps i p h e =
    append_assoc came_due (unloads_of (map descriptor_in (take i ps))) (Unload (token_of_descriptor p.descriptor) ∷ [])
    ∙ ap (λ (ws : List Work). came_due ++ ws)
    (ap (λ (q : LoadedPage). unloads_of (map descriptor_in (take i ps)) ++ Unload (token_of_descriptor q.descriptor) ∷ []) e
    ∙ sym (map-append (λ (d : Descriptor). Unload (token_of_descriptor d)) (map descriptor_in (take i ps)) ((get_or ps i p).descriptor ∷ []))
    ∙ ap unloads_of (sym (map-append descriptor_in (take i ps) (get_or ps i p ∷ [])))
    ∙ ap (λ (qs : List LoadedPage). unloads_of (map descriptor_in qs)) (sym (take_more ps i p h)))

pub loop-page-preserved : goal.loop-page-preserved
loop-page-preserved c =
    let i = c.loop-page.invariant in
    record {
      kept = omega (arith, i.kept, c.add.ensures.kept);
      due = λ came_due past j.
          subst (λ (ws : List Work). JobsStand ws past c.add.new.self)
          (ap (λ t. (came_due ++ unloads_of (map descriptor_in (take c.loop-page.page-index c.args.pages.now))) ++ Unload t ∷ []) c.token-token.ensures
          ∙ unloads-more came_due c.args.pages.now c.loop-page.page-index c.page-item.result (omega arith) c.page-item.is)
          (c.add.ensures.more (came_due ++ unloads_of (map descriptor_in (take c.loop-page.page-index c.args.pages.now))) past (i.due came_due past j));
    }

take_whole : (n : ℕ) (ps : List LoadedPage) → length ps ≤ n → take n ps ≡ ps
take_whole zero [] h = refl
take_whole (suc n) [] h = refl
take_whole zero (p ∷ ps) h = absurd (omega arith)
take_whole (suc n) (p ∷ ps) h = ap (λ (t : List LoadedPage). p ∷ t) (take_whole n ps (omega arith))

pub returns-clause-more : goal.returns-clause-more
returns-clause-more c = λ came_due past j.
    subst (λ (ps : List LoadedPage). JobsStand (came_due ++ unloads_of (map descriptor_in ps)) past c.loop-page.self)
    (take_whole c.loop-page.page-index c.args.pages.now (omega arith)) (c.loop-page.invariant.due came_due past j)
