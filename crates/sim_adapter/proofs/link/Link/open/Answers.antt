use Rattle.std.proofs.Common.{rules, sym, ap, subst}
use Rattle.atomic_table.specs.Table.{Splits}
use Rattle.sim_adapter.specs.declared.view.View.{View}
use Rattle.sim_adapter.specs.Rule.{Sat, Orderly, left_end, right_end}
use Rattle.sim_adapter.proofs.Opening.{opens_well, parts}
use Rattle.sim_adapter.proofs.link.Link.open.Goals as goal

pub vacant-requires : goal.vacant-requires
vacant-requires c =
    let client = c.credits-client_credits.ensures in
    let server = c.credits-server_credits.ensures in
    rw (c.from.ensures, c.from-2.ensures, c.from-3.ensures, c.from-4.ensures, client.value, server.value)
    (opens_well (record { client = c.args.client.now; server = c.args.server.now }) client.lawful server.lawful)

pub split_seat-server_seat-requires : goal.split_seat-server_seat-requires
split_seat-server_seat-requires c = let e = c.in_ok-table.ensures in (
  search rules,
  search rules,
  subst (λ (v : View). Splits (Orderly c.in_ok-table.table.shared.key) c.in_ok-table.seat.id v (left_end v) (right_end v))
      (sym (ap (λ (m : Sat). m.0) e.4)) (parts c.in_ok-table.table.shared.key c.in_ok-table.seat.id _ _),
)
