use Rattle.std.proofs.Common.{◌∙◌}
use Rattle.std.proofs.lemmas.Result.{on_ok_weaker}
use Rattle.copy_parts.proofs.Taking.{may-fill, get-taken}
use Rattle.copy_parts.proofs.parts.Parts.take_bytes.Goals as goal

pub source-requires : goal.source-requires
source-requires c = may-fill c.args.kind c.args.bytes.now c.args.ended c.args.self.now c.in-Get.is c.requires

pub returns-in-Get : goal.returns-in-Get
returns-in-Get c = λ o p e s h.
    on_ok_weaker c.source.result (get-taken o p c.args.bytes.now c.args.ended c.args.self.now c.source.new.self (e ∙ c.in-Get.is) s h) (c.source.ensures.filled o.kind p.server s.server)
