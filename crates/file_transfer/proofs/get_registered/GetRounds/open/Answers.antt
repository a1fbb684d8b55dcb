use Rattle.std.proofs.Common.{List, [], length, refl, ap, subst, arith}
use Rattle.file_messages.specs.declared.job.Work.{Work}
use Rattle.file_transfer.specs.ClientJobs.{JobsStand}
use Rattle.file_transfer.proofs.GetRounds.{length-loads}
use Rattle.file_transfer.proofs.GetRegisteredLemmas.{rounds-open}
use Rattle.file_transfer.proofs.get_registered.GetRounds.open.Goals as goal

pub add_all-requires : goal.add_all-requires
add_all-requires c = omega (arith, c.in_ok-reserve.ensures.ok, c.new-jobs.ensures.kept, ap length c.in_ok-loads.ensures, length-loads 16 0)

pub returns : goal.returns
returns c =
    rounds-open _ (subst (λ (ws : List Work). JobsStand ws [] c.add_all.new.self) c.in_ok-loads.ensures (c.add_all.ensures.more [] [] (c.reserve.ensures.same [] [] c.new-jobs.ensures.stands)))
    (omega (arith, c.add_all.ensures.kept, c.in_ok-reserve.ensures.ok, c.new-jobs.ensures.kept, ap length c.in_ok-loads.ensures, length-loads 16 0)) c.in_ok-slots.ensures refl
