use Rattle.std.proofs.Common.{List, ℕ, Option, ap, ◌∙◌}
use denote.Ref.{Bor}
use Rattle.event_log.specs.Reading.{emit_of, parts_left}
use Rattle.event_log.proofs.PartLemmas.{emit_of-more}
use Rattle.event_log.proofs.reading.emit_of.Goals as goal

pub returns-in_default-Some-clause-fault : goal.returns-in_default-Some-clause-fault
returns-in_default-Some-clause-fault c =
    ap (λ (o : Option (Bor (List ℕ))). emit_of (parts_left o)) c.in-Some.is
    ∙ emit_of-more _ c.first_part.result.0.now c.first_part.result.1 c.in_default-Some.field-0-1 c.first_part.ensures c.in_default-Some.is-1
