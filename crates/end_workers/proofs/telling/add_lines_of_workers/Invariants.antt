use Rattle.std.proofs.Common.{◌≡◌, ◌++◌, take, string_bytes}
use Rattle.copy_log.specs.Laws.{workers_text}
use Rattle.page_crew.specs.Crews.{lines_of, workers_of}
use Rattle.end_workers.specs.News.{texts_from}
use Rattle.end_workers.proofs.telling.add_lines_of_workers.Given as goal

abbrev pub invariant-loop-place : goal.invariant-loop-place
invariant-loop-place l = string_bytes l.text ≡ string_bytes l.initial.text ++ workers_text (take l.place (texts_from l.end 1 (lines_of (workers_of l.end l.parts.crew))))
