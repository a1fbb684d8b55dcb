-- What contracts see of the two ends of a ring (this project's own).
use Rattle.std.specs.Prelude.{ℕ, List}
use Rattle.rtrb.specs.Ring as ring
use Rattle.completion_ring.specs.declared.jobs.Jobs.{Jobs}
use Rattle.completion_ring.specs.declared.done.Done.{Done}

module _ {T : Type 0} where
  -- the items that went in, the oldest first
  abbrev pub sent : Jobs T → List T
  sent j = ring.sent j.producer

  -- how many items the ring is known to have room for
  abbrev pub free : Jobs T → ℕ
  free j = ring.known_free j.producer

  -- the items that came out, the oldest first
  abbrev pub received : Done T → List T
  received d = ring.received d.consumer

  -- the items that are known to come next
  abbrev pub known : Done T → List T
  known d = ring.known_items d.consumer

  -- how many items the ring has room for, in all
  abbrev pub room : Jobs T → ℕ
  room j = ring.producer_capacity j.producer

  -- the two ends are of one ring
  abbrev pub ArePair : Jobs T → Done T → Type 0
  ArePair j d = ring.IsPair j.producer d.consumer

  -- an end is of the same ring as before
  abbrev pub SameJobs : Jobs T → Jobs T → Type 0
  SameJobs a b = ring.SameProducer a.producer b.producer

  abbrev pub SameDone : Done T → Done T → Type 0
  SameDone a b = ring.SameConsumer a.consumer b.consumer
