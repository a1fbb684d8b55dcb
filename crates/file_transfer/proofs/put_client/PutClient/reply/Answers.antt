use Rattle.std.proofs.Common.{map, sym, ap, ◌∙◌}
use Rattle.file_transfer.specs.ClientStands.{descriptor_in}
use Rattle.file_transfer.proofs.PutClientLemmas.{groups-refused}
use Rattle.file_transfer.proofs.put_client.PutClient.reply.Goals as goal

pub returns-in_err-pages-clause-after : goal.returns-in_err-pages-clause-after
returns-in_err-pages-clause-after c = λ s past came. record {
  requests = c.reply.ensures.after s past came.requests;
  groups = groups-refused s past c.args.message.now _ c.args.self.now.groups came.groups (sym (c.in_err-pages.ensures.answer s past came.requests));
}

pub returns-clause-after : goal.returns-clause-after
returns-clause-after c = λ s past came. record {
  requests = c.reply.ensures.after s past came.requests;
  groups = c.answered.ensures s past c.args.message.now came.groups (sym (c.in_ok-pages.ensures.answer s past came.requests))
      (ap (map descriptor_in) c.as_slice.ensures.value ∙ c.in_ok-pages.ensures.named s past came.requests);
}
