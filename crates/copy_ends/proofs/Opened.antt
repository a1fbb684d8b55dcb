-- The ends of a world that was just opened fit to machines that were handed nothing.
use Rattle.std.proofs.Common.{ℕ, [], ◌∷◌, refl, arith}
use Rattle.smbd_base.specs.declared.event.Event.TheVariants.{Post}
use Rattle.smbd_base.specs.Limits.{Limits}
use Rattle.world_core.specs.Run.{opened_world}
use Rattle.file_messages.specs.declared.kind.Channel.{Channel}
use Rattle.file_messages.specs.declared.kind.CopyKind.{CopyKind}
use Rattle.file_server.specs.declared.server.FileServer.{FileServer}
use Rattle.file_server.specs.ServerStands.{CameBy}
use Rattle.copy_ends.specs.declared.client_machine.ClientMachine.{ClientMachine}
use Rattle.copy_ends.specs.Clients.{ClientCameBy}
use Rattle.copy_ends.specs.Turns.{IsUp}
use Rattle.copy_ends.specs.Ends.{ClientStands, RepliesFollow, ServerStands}

pub opened_up : (client server : Limits) → IsUp (opened_world client server)
opened_up client server = record { link = refl; client = record { opened = refl; uncut = refl }; server = record { opened = refl; uncut = refl } }

pub opened_client : (kind : CopyKind) (channel : Channel) (pages : ℕ) (m : ClientMachine) (client server : Limits) → ClientCameBy kind channel pages [] m
    → ClientStands kind channel pages [] m (opened_world client server)
opened_client kind channel pages m client server came = record { came = came; sent = refl; heard = refl }

-- nothing was submitted yet
pub opened_follows : (limits : Limits) (n : ℕ) → RepliesFollow limits (Post n ∷ [])
opened_follows limits n = (omega arith, tt)

pub opened_server : (kind : CopyKind) (m : FileServer) (client server : Limits) → CameBy kind [] m → ServerStands kind [] m (opened_world client server)
opened_server kind m client server came = record { came = came; sent = refl; heard = refl; follows = opened_follows server server.credits }
