use Rattle.std.proofs.Common.{false, List}
use Rattle.smbd_base.specs.declared.end_id.EndId.TheVariants as side
use Rattle.file_messages.specs.declared.kind.CopyKind.{CopyKind}
use Rattle.file_pasts.specs.ServerDue.{ServerEvent}
use Rattle.copy_ends.specs.Turns.{IsUp, HasActed, HasAdded}
use Rattle.copy_ends.specs.Ends.{ServerStands, ServerGoesOn}
use Rattle.copy_ends.proofs.round.run_server.Given as goal

abbrev pub invariant-loop-turn : goal.invariant-loop-turn
invariant-loop-turn l = record {
  up : IsUp l.world;
  acted : HasActed side.Server l.initial.world l.world;
  added : HasAdded l._turn side.Server l.initial.world l.world;
  goes_on : (kind : CopyKind) (past : List ServerEvent) → ServerStands kind past l.initial.server l.initial.world → ServerGoesOn kind past false l.server l.world;
}
