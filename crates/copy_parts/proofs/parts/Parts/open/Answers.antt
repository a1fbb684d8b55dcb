use Rattle.copy_parts.proofs.Opening.{opened-parts}
use Rattle.copy_parts.proofs.parts.Parts.open.Goals as goal

pub returns : goal.returns
returns c =
    opened-parts c.args.options.now c.pages-pages.result c.in_ok-open.field-0 c.in_ok-open-2.field-0 c.in_ok-open-3.field-0 c.in_ok-open-4.field-0 c.frames_before.result c.requires
    c.pages-pages.ensures.lawful c.pages-pages.ensures.value c.in_ok-open.ensures.opened c.in_ok-open.ensures.joint c.in_ok-open.ensures.delivered
    c.in_ok-open-2.ensures c.in_ok-open-3.ensures c.in_ok-open-4.ensures.opened c.frames_before.ensures
