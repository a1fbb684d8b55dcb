use Rattle.std.proofs.Common.{ℕ, false, List, Option}
use Rattle.smbd_base.specs.declared.end_id.EndId.TheVariants as side
use Rattle.file_messages.specs.declared.kind.Channel.{Channel}
use Rattle.file_messages.specs.declared.kind.CopyKind.{CopyKind}
use Rattle.file_pasts.specs.ClientPast.{ClientEvent}
use Rattle.copy_ends.specs.Turns.{IsUp, HasActed, HasAdded}
use Rattle.copy_ends.specs.Cuts.{AreLeft, frames_sent}
use Rattle.copy_ends.specs.Ends.{ClientStands, ClientGoesOn}
use Rattle.copy_ends.proofs.round.run_client.Given as goal

abbrev pub invariant-loop-turn : goal.invariant-loop-turn
invariant-loop-turn l = record {
  up : IsUp l.world;
  acted : HasActed side.Client l.initial.world l.world;
  added : HasAdded l._turn side.Client l.initial.world l.world;
  goes_on : (kind : CopyKind) (channel : Channel) (pages : ℕ) (past : List ClientEvent) → ClientStands kind channel pages past l.initial.client l.initial.world
      → ClientGoesOn kind channel pages past l._turn false l.client l.world;
  left : (number : Option ℕ) → AreLeft number (frames_sent l.initial.world.client) l.initial.left → AreLeft number (frames_sent l.world.client) l.left;
}
