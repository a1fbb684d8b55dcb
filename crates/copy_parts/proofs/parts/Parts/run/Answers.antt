use Rattle.std.proofs.lemmas.Result.{on_ok_weaker}
use Rattle.copy_parts.proofs.Running.{have-run}
use Rattle.copy_parts.proofs.parts.Parts.run.Goals as goal

pub returns : goal.returns
returns c = λ o p s.
    let e = c.in_ok-run_ends.ensures o p s in
    on_ok_weaker c.run.result
    (λ turned. have-run o p c.args.self.now c.run_ends.new.self c.run.new.self s e (c.run.ensures.grew e.later e.stands.under_way.manned.coupled) c.run.ensures.count turned)
    c.run.ensures.turned
