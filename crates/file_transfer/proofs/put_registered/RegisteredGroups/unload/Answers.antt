use Rattle.std.proofs.Common.{◌++◌, List, length, refl, ap, subst, arith}
use Rattle.buffer_descriptor.specs.declared.descriptor.Descriptor.{Descriptor}
use Rattle.file_pasts.specs.PutDue.{unloads_of, jobs_due}
use Rattle.file_transfer.specs.ClientJobs.{JobsStand}
use Rattle.file_transfer.proofs.PutRegisteredLemmas.{stand-replied, length-pages}
use Rattle.file_transfer.proofs.put_registered.RegisteredGroups.unload.Goals as goal

pub returns : goal.returns
returns c = λ w past message s taken named.
    stand-replied w past message c.args.self.now _ s taken
    (subst (λ (ds : List Descriptor). JobsStand (jobs_due w past ++ unloads_of ds) past c.unload.new.self) named (c.unload.ensures.more (jobs_due w past) past s.due))
    (omega (arith, c.unload.ensures.kept, ap length named, length-pages c.args.pages.now))
    refl refl refl refl refl
