use Rattle.std.proofs.Common.{◌≡◌, ◌++◌, drop}
use Rattle.file_pasts.specs.ServerDue.{places_of}
use Rattle.file_server.proofs.server_turn.places.Given as goal

abbrev pub invariant-loop-descriptor : goal.invariant-loop-descriptor
invariant-loop-descriptor l = l.jobs.items ++ places_of (drop l.descriptor-index l.descriptors) l.left ≡ places_of l.descriptors l.bytes
