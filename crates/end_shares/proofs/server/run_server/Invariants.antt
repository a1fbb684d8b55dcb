use Rattle.std.proofs.Common.{false, List}
use Rattle.smbd_base.specs.declared.end_id.EndId.TheVariants as side
use Rattle.file_messages.specs.declared.kind.CopyKind.{CopyKind}
use Rattle.file_pasts.specs.ServerDue.{ServerEvent}
use Rattle.link_ends.specs.Ends.{view_of}
use Rattle.end_shares.specs.Turns.{IsOn, HasActed, HasAdded}
use Rattle.end_shares.specs.Servers.{ServerStands, ServerGoesOn}
use Rattle.end_shares.proofs.server.run_server.Given as goal

abbrev pub invariant-loop-turn : goal.invariant-loop-turn
invariant-loop-turn g l = record {
  on : IsOn l.link side.Server l.end;
  acted : HasActed (view_of l.initial.end) (view_of l.end);
  added : HasAdded l._turn (view_of l.initial.end) (view_of l.end);
  goes_on : (kind : CopyKind) (past : List ServerEvent) → ServerStands kind past l.initial.server (view_of l.initial.end) → ServerGoesOn kind past false l.server (view_of l.end);
}
