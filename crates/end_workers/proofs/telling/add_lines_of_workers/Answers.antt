use Rattle.std.proofs.Common.{◌≡◌, ◌≤◌, ◌++◌, length, map, string_bytes, ap, ◌∙◌, arith}
use Rattle.event_log.specs.declared.log_line.LogLine.{LogLine}
use Rattle.event_log.specs.declared.side.Side.{Side}
use Rattle.event_log.specs.Lines.{line_text, lines_text}
use Rattle.page_crew.specs.Crews.{lines_of, workers_of}
use Rattle.end_workers.proofs.NewsOfWorkers.{text-more, text-all, lines-count}
use Rattle.end_workers.proofs.telling.add_lines_of_workers.Goals as goal

pub loop-place-preserved : goal.loop-place-preserved
loop-place-preserved c =
    text-more c.args.end c.loop-place.place (lines_of (workers_of c.args.end c.args.parts.now.crew)) c.lines.result.now (string_bytes c.args.text.now) (string_bytes c.loop-place.text)
    (string_bytes c.add_worker_lines.new.text) c.lines.ensures c.loop-place.invariant
    (c.in_ok-add_worker_lines.ensures
    ∙ ap (λ (side : Side). string_bytes c.loop-place.text ++ lines_text (map (λ (line : LogLine). line_text side line) c.lines.result.now)) c.side_of.ensures)

pub returns : goal.returns
returns c =
    let workers = lines_of (workers_of c.args.end c.args.parts.now.crew) in
    let count : length workers ≡ c.workers-place-end.result = lines-count c.args.end c.args.parts.now.crew c.workers-place-end.result c.workers-place-end.ensures.number c.workers-place-end.ensures.even in
    let few : length workers ≤ c.loop-place.place = omega (arith, count, c.loop-place-test.false) in
    text-all c.args.end c.loop-place.place workers (string_bytes c.args.text.now) (string_bytes c.loop-place.text) few c.loop-place.invariant
