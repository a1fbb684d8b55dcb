use Rattle.std.proofs.Common.{◌∷◌}
use Rattle.file_pasts.specs.ServerDue.{Gave, Completed}
use Rattle.file_tests.proofs.ServingLemmas.{came_given, answers_it}
use Rattle.file_tests.proofs.serving.Serving.work.Goals as goal

pub completed-requires : goal.completed-requires
completed-requires g c =
    let s = c.self.invariant in
    let job = c.in-Some.job in
    let due = c.in-Some.ensures.due s.kind s.past s.came in
    record {
      kind = s.kind;
      past = Gave job.work ∷ s.past;
      came = came_given s.kind s.past job c.next_job.new.self due (c.next_job.ensures.after s.kind s.past s.came);
      answers = answers_it s.kind s.past c.self.inside.machine job c.do_for_server-result.result s.came due c.do_for_server-result.ensures;
    }

pub invariant_of-self-2 : goal.invariant_of-self-2
invariant_of-self-2 g c =
    let s = c.self.invariant in
    let job = c.in-Some.job in
    let result = c.do_for_server-result.result in
    let due = c.in-Some.ensures.due s.kind s.past s.came in
    let given = came_given s.kind s.past job c.next_job.new.self due (c.next_job.ensures.after s.kind s.past s.came) in
    record {
      kind = s.kind;
      past = Completed (record { number = job.number; result = result }) ∷ (Gave job.work ∷ s.past);
      came = c.completed.ensures s.kind (Gave job.work ∷ s.past) given (answers_it s.kind s.past c.self.inside.machine job result s.came due c.do_for_server-result.ensures);
    }
