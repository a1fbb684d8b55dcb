use Rattle.std.proofs.Common.{◌≡◌, List, [], ◌∷◌, ◌++◌, refl, sym, ap, ◌∙◌, subst, append_assoc, length-append, arith}
use Rattle.std.proofs.lemmas.List.{append-nil}
use Rattle.file_messages.specs.declared.job.Work.{Work}
use Rattle.file_transfer.specs.ClientJobs.{JobsStand}
use Rattle.file_transfer.proofs.client_jobs.Jobs.add_all.Goals as goal

pub loop-work-init : goal.loop-work-init
loop-work-init c = record {
  added = [];
  all = refl;
  kept = omega arith;
  stand = λ came_due past j. subst (λ (ws : List Work). JobsStand ws past c.args.self.now) (sym (append-nil came_due)) j;
}

pub loop-work-preserved : goal.loop-work-preserved
loop-work-preserved c =
    let i = c.loop-work.invariant in
    let work : Work = c.in-Some.work in
    let left : c.loop-work.works.items ≡ work ∷ c.pop_front.new.self.items = c.in-Some.ensures.items in
    record {
      added = i.added ++ work ∷ [];
      all = append_assoc i.added (work ∷ []) c.pop_front.new.self.items ∙ ap (λ (ws : List Work). i.added ++ ws) (sym left) ∙ i.all;
      kept = omega (arith, i.kept, c.add.ensures.kept, length-append i.added (work ∷ []));
      stand = λ came_due past j.
          subst (λ (ws : List Work). JobsStand ws past c.add.new.self) (append_assoc came_due i.added (work ∷ [])) (c.add.ensures.more (came_due ++ i.added) past (i.stand came_due past j));
    }
