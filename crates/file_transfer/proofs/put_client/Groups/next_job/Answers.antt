use Rattle.std.proofs.Common.{◌≡◌, Bool, cond, Option, None, sym, ap, ◌∙◌, subst}
use Rattle.file_messages.specs.declared.job.Job.{Job}
use Rattle.file_pasts.specs.PutDue.{Setup, next_job, job_in_turn}
use Rattle.file_transfer.specs.ClientJobs.{after_giving}
use Rattle.file_transfer.specs.PutRegisteredStands.{RegisteredStand}
use Rattle.file_transfer.proofs.PutClientLemmas.{as_registered}
use Rattle.file_transfer.proofs.put_client.Groups.next_job.Goals as goal

pub next_job-requires : goal.next_job-requires
next_job-requires c =
    let q = c.requires in
    let r = as_registered q.setup q.past c.args.self.now c.in-Registered.groups q.came c.in-Registered.is in
    record { windows = q.setup.windows; past = q.past; stands = r.stands; few = q.few }

pub returns-in-Registered-clause-after : goal.returns-in-Registered-clause-after
returns-in-Registered-clause-after c = λ s past came going.
    let r = as_registered s past c.args.self.now c.in-Registered.groups came c.in-Registered.is in
    let same : next_job s past ≡ job_in_turn s.windows past =
    ap (λ (t : Setup). next_job t past) r.setup ∙ ap (λ (b : Bool). cond b None (job_in_turn s.windows past)) going in
    record {
      setup = r.setup;
      stands = subst (λ (o : Option Job). RegisteredStand s.windows (after_giving o past) c.next_job.new.self) (sym same) (c.next_job.ensures.after s.windows past r.stands going);
    }
