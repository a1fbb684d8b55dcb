use Rattle.std.proofs.Common.{sym, ap, ◌∙◌}
use Rattle.connection_core.specs.Shown.{Shown}
use Rattle.smbd_base.specs.History.{next_event}
use Rattle.sim_adapter.specs.declared.view.EndView.{EndView}
use Rattle.link_ends.specs.Ends.{view_of}
use Rattle.link_ends.specs.Beside.{limits_in}
use Rattle.link_ends.proofs.Closing.{closes_never}
use Rattle.link_ends.proofs.link_end.LinkEnd.drive.Goals as goal

pub unreachable-requires : goal.unreachable-requires
unreachable-requires g c =
    let v : EndView = view_of c.args.self.now in
    let one = c.args.self.now.one.1 c.requires.on in
    closes_never v.side (limits_in v) v.past c.args.self.now.one.3
    (sym (ap (λ (e : Shown). next_event e.side e.limits e.past) one) ∙ sym c.in_ok-n.ensures.next ∙ c.in-Close.is)
