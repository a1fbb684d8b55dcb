use Rattle.std.proofs.Common.{◌≡◌, ◌++◌, take, map, string_bytes}
use Rattle.event_log.specs.declared.log_line.LogLine.{LogLine}
use Rattle.event_log.specs.Lines.{line_text, lines_text}
use Rattle.copy_log.proofs.worker_lines.add_worker_lines.Given as goal

abbrev pub invariant-loop-line : goal.invariant-loop-line
invariant-loop-line l = string_bytes l.text ≡ string_bytes l.initial.text ++ lines_text (map (λ (x : LogLine). line_text l.side x) (take l.line-index l.lines))
