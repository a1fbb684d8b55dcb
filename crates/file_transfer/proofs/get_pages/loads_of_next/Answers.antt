use Rattle.std.proofs.Common.{◌≡◌, ◌++◌, ℕ, List, [], ◌∷◌, replicate, sym, ap, ◌∙◌, arith}
use Rattle.smbd_base.specs.declared.right.Right.TheVariants as right
use Rattle.file_messages.specs.declared.job.Work.{Work}
use Rattle.file_messages.specs.declared.job.Work.TheVariants.{Load}
use Rattle.file_pasts.specs.GetDue.{page_loads}
use Rattle.file_transfer.proofs.GetPagesLemmas.{loads-more}
use Rattle.file_transfer.proofs.get_pages.loads_of_next.Goals as goal

pub loop-page-preserved : goal.loop-page-preserved
loop-page-preserved c =
    let zeros : c.in_ok-zeros.zeros ≡ replicate 4096 0 = c.in_ok-zeros.ensures in
    c.in_ok-push_back.ensures.items ∙ ap (λ (ws : List Work). ws ++ Load c.loop-page.page right.Place c.in_ok-share.field-0 ∷ []) c.loop-page.invariant
    ∙ ap (λ (b : List ℕ). page_loads c.loop-page.page 0 ++ Load c.loop-page.page right.Place b ∷ []) (c.in_ok-share.ensures ∙ zeros) ∙ sym (loads-more c.loop-page.page)

pub returns : goal.returns
returns c = c.loop-page.invariant ∙ ap (λ (n : ℕ). page_loads n 0) (let whole : c.loop-page.page ≡ 16 = omega arith in whole)
