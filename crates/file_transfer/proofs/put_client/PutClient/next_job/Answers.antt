use Rattle.std.proofs.Common.{refl, sym, ◌∙◌}
use Rattle.file_pasts.specs.PutDue.{next_job}
use Rattle.file_transfer.proofs.PutClientLemmas.{requests-gave}
use Rattle.file_transfer.proofs.put_client.PutClient.next_job.Goals as goal

pub returns-clause-after : goal.returns-clause-after
returns-clause-after c = λ s past came. record {
  requests = requests-gave s past c.args.self.now.requests (next_job s past) came.requests refl;
  groups = c.next_job.ensures.after s past came.groups (sym (c.has_failed.ensures s past came.requests) ∙ c.if-has_failed.false);
}
