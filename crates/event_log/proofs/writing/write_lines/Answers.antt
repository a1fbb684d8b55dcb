use Rattle.std.proofs.Common.{arith}
use Rattle.event_log.proofs.BatchLemmas.{on_err, line_held, line_front, feed_front, held_front_of, all_lines_held}
use Rattle.event_log.proofs.writing.write_lines.Goals as goal

pub returns-in_err-add-clause-front : goal.returns-in_err-add-clause-front
returns-in_err-add-clause-front g c =
    on_err _ (line_front _ _ c.args.lines.now c.loop-line.line-index c.line-item.result c.bytes.result.now c.loop-line.batch c.loop-line-test.true
    c.line-item.is c.bytes.ensures c.loop-line.invariant.so_far _ c.in_err-add.ensures.front)

pub returns-in_err-add-2-clause-front : goal.returns-in_err-add-2-clause-front
returns-in_err-add-2-clause-front g c =
    on_err _ (feed_front _ _ c.args.lines.now c.loop-line.line-index c.line-item.result c.bytes.result.now c.loop-line.batch c.loop-line-test.true
    c.line-item.is c.bytes.ensures c.loop-line.invariant.so_far _ _ _ c.in_ok-add.ensures.held c.in_err-add-2.ensures.front)

pub loop-line-preserved : goal.loop-line-preserved
loop-line-preserved g c = record {
  so_far =
      line_held _ _ c.args.lines.now c.loop-line.line-index c.line-item.result c.bytes.result.now c.loop-line.batch c.loop-line-test.true
      c.line-item.is c.bytes.ensures c.loop-line.invariant.so_far _ _ _ _ c.in_ok-add.ensures.held c.in_ok-add-2.ensures.held;
  later = omega (arith, c.loop-line.invariant.later, c.in_ok-add.ensures.cause.later, c.in_ok-add-2.ensures.cause.later);
}

pub returns-clause-front : goal.returns-clause-front
returns-clause-front g c =
    held_front_of _ _ _ _ _ _ _ (all_lines_held _ _ c.args.lines.now c.loop-line.line-index c.loop-line.batch c.loop-line-test.false c.loop-line.invariant.so_far)
    c.bytes-2.ensures c.write_whole.ensures.front
