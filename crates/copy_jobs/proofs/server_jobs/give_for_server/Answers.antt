use Rattle.std.proofs.Common.{◌∙◌}
use Rattle.smbd_base.specs.declared.end_id.EndId.TheVariants as side
use Rattle.copy_jobs.proofs.Same.{same-on}
use Rattle.copy_jobs.proofs.Giving.{server-gives}
use Rattle.copy_jobs.proofs.server_jobs.give_for_server.Goals as goal

pub loop-job-preserved : goal.loop-job-preserved
loop-job-preserved c = record {
  given = server-gives c.args.server.now c.loop-job.server c.next_job.new.self c.args.crew.now c.loop-job.crew c.give.new.self c.in-Some.job c.loop-job.invariant.given
      c.in-Some.ensures.due c.in-Some.ensures.after c.in_ok-give.ensures.given;
  same = same-on side.Server c.args.crew.now c.loop-job.crew c.give.new.self c.loop-job.invariant.same c.in_ok-give.ensures.side c.in_ok-give.ensures.lines;
  untaken = c.in_ok-give.ensures.done ∙ c.loop-job.invariant.untaken;
}
