use Rattle.std.proofs.Common.{refl}
use Rattle.file_pasts.specs.PutDue.{jobs_due}
use Rattle.file_transfer.proofs.PutRegisteredLemmas.{few-given, stand-given}
use Rattle.file_transfer.proofs.put_registered.RegisteredGroups.next_job.Goals as goal

pub next-requires : goal.next-requires
next-requires c = few-given c.requires.windows c.requires.past c.args.self.now c.requires.stands c.requires.few

pub returns-clause-after : goal.returns-clause-after
returns-clause-after c = λ w past s going.
    stand-given w past c.args.self.now _ c.next.result s going (c.next.ensures.due (jobs_due w past) past s.due) (c.next.ensures.after (jobs_due w past) past s.due)
    c.next.ensures.kept refl refl refl refl refl
