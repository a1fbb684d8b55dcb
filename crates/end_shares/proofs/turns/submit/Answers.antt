use Rattle.std.proofs.Common.{Option, subst}
use Rattle.smbd_base.specs.declared.faults.SubmitFault.{SubmitFault}
use Rattle.connection_core.specs.Answered.{IsSubmitFault}
use Rattle.link_ends.specs.Ends.{view_of}
use Rattle.end_shares.proofs.Accepting.{accepts_at}
use Rattle.end_shares.proofs.Turning.{submitted}
use Rattle.end_shares.proofs.turns.submit.Goals as goal

pub lacks_memory-requires : goal.lacks_memory-requires
lacks_memory-requires g c =
    subst (λ (o : Option SubmitFault). IsSubmitFault o c.in-Err.refused.fault) (accepts_at c.args.end.now c.args.message c.requires.uncut c.requires.fits) c.in-Err.ensures.fault

pub returns-in-Ok-clause-turned : goal.returns-in-Ok-clause-turned
returns-in-Ok-clause-turned g c = λ side. submitted side (view_of c.args.end.now) (view_of c.submit.new.self) c.args.message c.in-Ok.ensures.added
