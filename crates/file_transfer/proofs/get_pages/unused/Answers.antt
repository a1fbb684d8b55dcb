use Rattle.std.proofs.Common.{◌++◌, None, List, [], ◌∷◌, sym, ap, ◌∙◌}
use Rattle.file_transfer.specs.declared.get_pages.Page.{Page}
use Rattle.file_transfer.proofs.GetPagesLemmas.{unused-more}
use Rattle.file_transfer.proofs.get_pages.unused.Goals as goal

pub loop-page-preserved : goal.loop-page-preserved
loop-page-preserved c =
    c.in_ok-push.ensures.items ∙ ap (λ (ps : List Page). ps ++ (record { loaded = None; back = None }) ∷ []) c.loop-page.invariant ∙ sym (unused-more c.loop-page._page)
