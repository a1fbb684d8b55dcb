use Rattle.std.proofs.Common.{refl}
use Rattle.file_transfer.proofs.PutInlineLemmas.{stand-taken}
use Rattle.file_transfer.proofs.put_inline.InlineGroups.hand.Goals as goal

pub returns-clause-taken : goal.returns-clause-taken
returns-clause-taken c = λ past s within.
    stand-taken past c.args.self.now _ c.args.bytes.now c.in_ok-message.message s within c.in_ok-message.ensures c.in_ok-push_back.ensures.items refl refl
