use Rattle.std.proofs.Common.{◌≡◌, Bool, cond, Option, None, refl, sym, ap, ◌∙◌, subst, arith}
use Rattle.std.specs.Prelude.{slice_get, length}
use Rattle.file_messages.specs.declared.kind.Channel.TheVariants as channels
use Rattle.file_messages.specs.declared.job.Job.{Job}
use Rattle.file_pasts.specs.ClientPast.{jobs_given}
use Rattle.file_pasts.specs.PutDue.{numbered}
use Rattle.file_pasts.specs.GetDue.{jobs_due, next_job}
use Rattle.file_transfer.specs.ClientJobs.{after_giving}
use Rattle.file_transfer.specs.GetPagesStand.{RoundsStand}
use Rattle.file_transfer.proofs.GetRegisteredLemmas.{rounds-gave, few-given}
use Rattle.file_transfer.proofs.get_registered.GetRounds.next_job.Goals as goal

pub next-requires : goal.next-requires
next-requires c = omega (arith, few-given c.requires.past c.args.self.now c.requires.lawful c.requires.stands, c.requires.few)

pub returns-clause-after : goal.returns-clause-after
returns-clause-after c = λ past s fine.
    let same : c.next.result ≡ next_job channels.V1 past =
    c.next.ensures.due (jobs_due past) past s.jobs ∙ sym (ap (λ (t : Bool). cond t None (numbered (length (jobs_given past)) (slice_get (jobs_due past) (length (jobs_given past))))) fine) in
    subst (λ (o : Option Job). RoundsStand (after_giving o past) (record { jobs = c.next.new.self; slots = c.args.self.now.slots; next_loads = c.args.self.now.next_loads; completed = c.args.self.now.completed })) same
    (rounds-gave past c.args.self.now _ c.next.result s (c.next.ensures.after (jobs_due past) past s.jobs) c.next.ensures.kept refl refl refl)
