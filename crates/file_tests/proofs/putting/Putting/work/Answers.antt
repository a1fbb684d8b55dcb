use Rattle.std.proofs.Common.{◌∷◌}
use Rattle.file_pasts.specs.ClientPast.{Gave}
use Rattle.file_tests.proofs.PuttingLemmas.{came_given, answers_it, putting-worked}
use Rattle.file_tests.proofs.putting.Putting.work.Goals as goal

pub completed-requires : goal.completed-requires
completed-requires g c =
    let p = c.self.invariant in
    let job = c.in-Some.job in
    let due = c.in-Some.ensures.due p.setup p.past p.came in
    record {
      setup = p.setup;
      past = Gave job.work ∷ p.past;
      came = came_given p.setup p.past job c.next_job.new.self due (c.next_job.ensures.after p.setup p.past p.came);
      answers_it = answers_it p.setup p.past job c.do_for_client-result.result p.idle due c.do_for_client-result.ensures;
    }

pub invariant_of-self-2 : goal.invariant_of-self-2
invariant_of-self-2 g c =
    let p = c.self.invariant in
    let job = c.in-Some.job in
    let result = c.do_for_client-result.result in
    let due = c.in-Some.ensures.due p.setup p.past p.came in
    let given = came_given p.setup p.past job c.next_job.new.self due (c.next_job.ensures.after p.setup p.past p.came) in
    putting-worked c.self.inside.machine c.completed.new.self c.self.inside.asked p job result due
    (c.completed.ensures p.setup (Gave job.work ∷ p.past) given (answers_it p.setup p.past job result p.idle due c.do_for_client-result.ensures))
