use Rattle.std.proofs.Common.{◌≡◌, reverse, take}
use Rattle.smbd_base.specs.declared.end_id.EndId.TheVariants.{Client, Server}
use Rattle.run_log.specs.RunLines.{lines_in_order}
use Rattle.run_log.proofs.Following.{IsTold}
use Rattle.run_log.proofs.telling.lines_of_run.Given as goal

abbrev pub invariant-loop-end : goal.invariant-loop-end
invariant-loop-end l = record {
  lines : l.lines.items ≡ lines_in_order (reverse (take l.end-index l.order)) (reverse (take l.client_told.events l.client)) (reverse (take l.server_told.events l.server));
  client_told : IsTold Client (reverse (take l.end-index l.order)) l.client l.client_told.events l.client_told.next;
  server_told : IsTold Server (reverse (take l.end-index l.order)) l.server l.server_told.events l.server_told.next;
}
