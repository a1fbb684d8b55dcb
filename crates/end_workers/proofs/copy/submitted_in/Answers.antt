use Rattle.std.proofs.Common.{◌≡◌, ◌+◌, length, refl, ap, arith}
use Rattle.std.proofs.lemmas.Option.{slice_get_read}
use Rattle.end_workers.proofs.Submitted.{count_one, count-more, count-most, count-none}
use Rattle.end_workers.proofs.copy.submitted_in.Goals as goal
use Rattle.end_workers.proofs.copy.submitted_in.Goals.{in-Submit, in_default}

pub overflow_add-count : goal.overflow_add-count
overflow_add-count c =
    let events = c.args.events.now in
    let k = c.loop-event.event-index in
    let e = c.event-item.result in
    let more = count-more k events e (slice_get_read events (length events) k e refl c.loop-event-test.true c.event-item.is) in
    let one : count_one e ≡ 1 = ap count_one c.in-Submit.is in
    let so_far = c.loop-event.invariant in
    omega (arith, more, one, so_far, count-most (k + 1) events, c.requires)

pub loop-event-preserved : goal.loop-event-preserved
loop-event-preserved c =
    let events = c.args.events.now in
    let k = c.loop-event.event-index in
    let e = c.event-item.result in
    let more = count-more k events e (slice_get_read events (length events) k e refl c.loop-event-test.true c.event-item.is) in
    let so_far = c.loop-event.invariant in
    elim c.match-event.branch [
      | in-Submit w ↦ (let one : count_one e ≡ 1 = ap count_one w.in-Submit.is in omega (arith, more, one, so_far, w.count-is))
      | in_default w ↦ (let none : count_one e ≡ 0 = count-none e (λ m is. w.in_default.not-Submit m is) in omega (arith, more, none, so_far, w.count-is))
    ]
