use Rattle.std.proofs.Common.{◌≡◌, sym, subst, ◌∙◌}
use Rattle.smbd_base.specs.declared.faults.TakeFault.{TakeFault}
use Rattle.smbd_base.specs.declared.faults.TakeFault.TheVariants as faults
use Rattle.connection_core.specs.Answered.{IsTakeRefused}
use Rattle.world_core.proofs.RawLemmas.{unchanged}
use Rattle.world_core.proofs.raw_end.take.Goals as goal

pub returns-in-NoMemory-clause-same : goal.returns-in-NoMemory-clause-same
returns-in-NoMemory-clause-same c =
    let is : c.in-Err.refused.fault ≡ faults.NoMemory = sym c.fault_of.ensures ∙ c.in-NoMemory.is in
    unchanged c.args.end.now c.take.new.self c.args.frame (subst (λ (f : TakeFault). IsTakeRefused c.args.end.now c.args.frame f c.take.new.self) is c.in-Err.ensures.refused)
