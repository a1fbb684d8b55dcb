use Rattle.std.proofs.Common.{ℕ, false, List, Option}
use Rattle.smbd_base.specs.declared.end_id.EndId.TheVariants as side
use Rattle.file_messages.specs.declared.kind.Channel.{Channel}
use Rattle.file_messages.specs.declared.kind.CopyKind.{CopyKind}
use Rattle.file_pasts.specs.ClientPast.{ClientEvent}
use Rattle.link_ends.specs.Ends.{view_of, past_of}
use Rattle.copy_ends.specs.Cuts.{AreLeft, frames_sent}
use Rattle.end_shares.specs.Turns.{IsOn, HasActed, HasAdded}
use Rattle.end_shares.specs.Clients.{ClientStands, ClientGoesOn}
use Rattle.end_shares.proofs.client.run_client.Given as goal

abbrev pub invariant-loop-turn : goal.invariant-loop-turn
invariant-loop-turn g l = record {
  on : IsOn l.link side.Client l.end;
  acted : HasActed (view_of l.initial.end) (view_of l.end);
  added : HasAdded l._turn (view_of l.initial.end) (view_of l.end);
  goes_on : (kind : CopyKind) (channel : Channel) (pages : ℕ) (past : List ClientEvent) → ClientStands kind channel pages past l.initial.client (view_of l.initial.end)
      → ClientGoesOn kind channel pages past l._turn false l.client (view_of l.end);
  left : (number : Option ℕ) → AreLeft number (frames_sent (past_of l.initial.end)) l.initial.left → AreLeft number (frames_sent (past_of l.end)) l.left;
}
