use Rattle.std.proofs.Common.{◌∙◌}
use Rattle.file_transfer.proofs.PutInlineLemmas.{waiting-is}
use Rattle.file_transfer.proofs.put_inline.InlineGroups.waiting.Goals as goal

pub returns : goal.returns
returns c = λ past s. c.len.ensures ∙ c.args.self.now.waiting.ok.0 ∙ waiting-is past c.args.self.now s
