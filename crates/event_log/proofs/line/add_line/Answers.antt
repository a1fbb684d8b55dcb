use Rattle.std.proofs.Common.{◌++◌, ◌∷◌, List, ℕ, string_bytes, sym, ap, ◌∙◌, append_assoc}
use Rattle.std.specs.List.{join_with_byte}
use Rattle.event_log.specs.Lines.{side_text, words_of, logged}
use Rattle.event_log.proofs.WrittenLines.{line_text-words}
use Rattle.event_log.proofs.line.add_line.Goals as goal

pub returns-clause-text : goal.returns-clause-text
returns-clause-text c =
    let line = logged c.args.number c.args.event.now in
    let old = string_bytes c.args.text.now in
    let after = 32 ∷ join_with_byte 32 (words_of line) in
    c.in_ok-add_event.ensures.text ∙ ap (λ (t : List ℕ). t ++ after) c.in_ok-add_side.ensures
    ∙ append_assoc old (side_text c.args.side) after ∙ ap (λ (t : List ℕ). old ++ t) (sym (line_text-words c.args.side line))
