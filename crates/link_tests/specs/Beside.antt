-- An end of a connection beside its pass of a link.
use Rattle.std.specs.Prelude.{◌≡◌}
use Rattle.connection_core.specs.Shown.{Shown}
use Rattle.smbd_base.specs.declared.end_id.EndId.{EndId}
use Rattle.sim_adapter.specs.declared.view.EndView.{EndView}
use Rattle.link_ends.specs.Beside.{end_in}

-- the end is of this side, and tells the same history as a pass that knows this
abbrev pub IsSameAs : EndId → Shown → EndView → Type 0
IsSameAs side end v = (v.side ≡ side) × (end ≡ end_in v end.prepared)
