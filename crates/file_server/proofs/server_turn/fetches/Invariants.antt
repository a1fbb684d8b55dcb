use Rattle.std.proofs.Common.{◌≡◌, ◌++◌, drop, map}
use Rattle.buffer_descriptor.specs.declared.descriptor.Descriptor.{Descriptor}
use Rattle.file_messages.specs.declared.job.Work.TheVariants.{Fetch}
use Rattle.file_server.proofs.server_turn.fetches.Given as goal

abbrev pub invariant-loop-descriptor : goal.invariant-loop-descriptor
invariant-loop-descriptor l = l.jobs.items ++ map (λ (d : Descriptor). Fetch d) (drop l.descriptor-index l.descriptors) ≡ map (λ (d : Descriptor). Fetch d) l.descriptors
