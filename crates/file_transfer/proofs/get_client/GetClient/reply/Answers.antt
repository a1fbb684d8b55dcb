use Rattle.std.proofs.Common.{length, ap, subst, arith}
use Rattle.file_messages.specs.declared.kind.Channel.{Channel}
use Rattle.file_pasts.specs.GetDue.{IsGet}
use Rattle.file_transfer.proofs.GetRequestsLemmas.{length-named}
use Rattle.file_transfer.proofs.GetRegisteredLemmas.{kept-first}
use Rattle.file_transfer.proofs.GetClientLemmas.{as_rounds}
use Rattle.file_transfer.proofs.get_client.GetClient.reply.Goals as goal

pub unload-requires : goal.unload-requires
unload-requires c =
    let q = c.requires in
    let r = as_rounds q.channel q.past c.args.self.now.rounds c.in-Some.rounds q.came.rounds c.in-Some.is in
    omega (
      arith,
      kept-first q.past c.in-Some.rounds (subst (λ (k : Channel). IsGet k q.past) r.over q.came.requests.lawful) r.stands,
      ap length (c.in_ok-pages.ensures.named q.channel q.past q.came.requests),
      ap length c.as_slice.ensures.value,
      length-named c.in_ok-pages.pages.items,
    )
