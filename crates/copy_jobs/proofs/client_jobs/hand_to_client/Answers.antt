use Rattle.smbd_base.specs.declared.end_id.EndId.TheVariants as side
use Rattle.copy_jobs.proofs.Same.{same-on}
use Rattle.copy_jobs.proofs.Handing.{client-may, client-hands}
use Rattle.copy_jobs.proofs.client_jobs.hand_to_client.Goals as goal

pub completed-requires : goal.completed-requires
completed-requires c =
    client-may c.args.client.now c.loop-completion.client c.args.crew.now c.loop-completion.crew c.taken.new.self c.in-Some.completion c.requires c.loop-completion.invariant.handed
    c.in-Some.ensures.taken

pub loop-completion-preserved : goal.loop-completion-preserved
loop-completion-preserved c = record {
  handed = client-hands c.args.client.now c.loop-completion.client c.completed.new.self c.args.crew.now c.loop-completion.crew c.taken.new.self c.in-Some.completion
      c.loop-completion.invariant.handed c.in-Some.ensures.taken c.completed.ensures;
  same = same-on side.Client c.args.crew.now c.loop-completion.crew c.taken.new.self c.loop-completion.invariant.same c.in-Some.ensures.side c.in-Some.ensures.lines;
}
