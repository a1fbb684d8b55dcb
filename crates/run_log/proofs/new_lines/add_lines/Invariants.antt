use Rattle.std.proofs.Common.{◌≡◌, ◌+◌, ◌≤◌, ◌++◌, take, codes, string_bytes}
use Rattle.run_log.specs.NewLines.{lines_from, number_after_all}
use Rattle.event_log.specs.Lines.{lines_text}
use Rattle.run_log.proofs.new_lines.add_lines.Given as goal

abbrev pub invariant-loop-event : goal.invariant-loop-event
invariant-loop-event l =
    (string_bytes l.text ≡ string_bytes l.initial.text ++ lines_text (lines_from l.end l.first (take l.event-index l.events)))
    × (l.number ≡ number_after_all l.first (take l.event-index l.events)) × (l.number ≤ l.event-index + l.first)
