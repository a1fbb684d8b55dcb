use Rattle.std.proofs.Common.{List, ℕ, Option, ap, sym, ◌∙◌}
use denote.Ref.{Bor}
use Rattle.event_log.specs.Reading.{parts_of, parts_left}
use Rattle.frame_lists.specs.Frames.{last_part}
use Rattle.frame_lists.proofs.LineLemmas.{last_part-more}
use Rattle.frame_lists.proofs.reading.last_part.Goals as goal

pub returns-in_default-Some : goal.returns-in_default-Some
returns-in_default-Some c =
    last_part-more (parts_of c.in_ok-rest.field-0.now) c.first_part.result.0.now c.first_part.result.1 c.in_default-Some.field-0-1 c.first_part.ensures c.in_default-Some.is-1
    ∙ sym (ap (λ (o : Option (Bor (List ℕ))). last_part (parts_left o)) c.in_ok-rest.was)
