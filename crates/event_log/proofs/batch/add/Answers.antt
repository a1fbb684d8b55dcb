use Rattle.event_log.proofs.BatchLemmas.{both_written}
use Rattle.event_log.proofs.batch.add.Goals as goal

pub returns-then-not-has_room-2-clause-held : goal.returns-then-not-has_room-2-clause-held
returns-then-not-has_room-2-clause-held g c =
    both_written _ _ _ _ _ _ _ _ c.bytes.ensures c.in_ok-write_whole.ensures.whole c.write_whole-then-not-has_room-2.ensures.whole c.clear.ensures
