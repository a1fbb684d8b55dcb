use Rattle.std.proofs.Common.{◌∙◌}
use Rattle.smbd_base.specs.declared.end_id.EndId.TheVariants as side
use Rattle.copy_jobs.proofs.Same.{same-on}
use Rattle.copy_jobs.proofs.Giving.{client-gives}
use Rattle.copy_jobs.proofs.client_jobs.give_for_client.Goals as goal

pub loop-job-preserved : goal.loop-job-preserved
loop-job-preserved c = record {
  given = client-gives c.args.client.now c.loop-job.client c.next_job.new.self c.args.crew.now c.loop-job.crew c.give.new.self c.in-Some.job c.loop-job.invariant.given
      c.in-Some.ensures.due c.in-Some.ensures.after c.in_ok-give.ensures.given;
  same = same-on side.Client c.args.crew.now c.loop-job.crew c.give.new.self c.loop-job.invariant.same c.in_ok-give.ensures.side c.in_ok-give.ensures.lines;
  untaken = c.in_ok-give.ensures.done ∙ c.loop-job.invariant.untaken;
}
