use Rattle.std.proofs.Common.{ap, ◌∙◌}
use Rattle.smbd_base.specs.History.{is_cut}
use Rattle.sim_adapter.specs.declared.view.EndView.{EndView}
use Rattle.link_ends.specs.Ends.{view_of}
use Rattle.link_ends.specs.Beside.{limits_in}
use Rattle.link_ends.proofs.Closing.{emits_uncut}
use Rattle.link_ends.proofs.link_end.LinkEnd.emit.Goals as goal

pub cut-requires-clause-uncut : goal.cut-requires-clause-uncut
cut-requires-clause-uncut g c =
    let v : EndView = view_of c.args.self.now in
    ap (λ (w : EndView). is_cut w.past) c.in-Cut.ensures.told.1 ∙ emits_uncut v.side (limits_in v) v.past c.args.frame c.requires.next
