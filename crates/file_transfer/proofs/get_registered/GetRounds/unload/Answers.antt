use Rattle.std.proofs.Common.{◌++◌, List, length, refl, ap, subst, arith}
use Rattle.buffer_descriptor.specs.declared.descriptor.Descriptor.{Descriptor}
use Rattle.file_pasts.specs.PutDue.{unloads_of}
use Rattle.file_pasts.specs.GetDue.{jobs_due}
use Rattle.file_transfer.specs.ClientJobs.{JobsStand}
use Rattle.file_transfer.proofs.GetRequestsLemmas.{length-named}
use Rattle.file_transfer.proofs.GetRegisteredLemmas.{rounds-replied}
use Rattle.file_transfer.proofs.get_registered.GetRounds.unload.Goals as goal

pub returns : goal.returns
returns c = λ past message s fine named.
    rounds-replied past message c.args.self.now _ s fine
    (subst (λ (ds : List Descriptor). JobsStand (jobs_due past ++ unloads_of ds) past c.unload.new.self) named (c.unload.ensures.more (jobs_due past) past s.jobs))
    (omega (arith, c.unload.ensures.kept, ap length named, length-named c.args.pages.now)) refl refl refl
