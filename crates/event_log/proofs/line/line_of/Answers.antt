use Rattle.std.proofs.Common.{◌≡◌, ◌++◌, List, ℕ, string_bytes, ap, ◌∙◌}
use Rattle.event_log.specs.Lines.{line_text, logged}
use Rattle.event_log.specs.Reading.{reading_of}
use Rattle.event_log.proofs.WrittenLines.{read_back}
use Rattle.event_log.proofs.line.line_of.Goals as goal

pub returns-clause-read_back : goal.returns-clause-read_back
returns-clause-read_back c =
    let side = c.args.side in
    let line = logged c.args.number c.args.event.now in
    let text : string_bytes c.add_line.new.text ≡ line_text side line =
    c.in_ok-add_line.ensures.text ∙ ap (λ (t : List ℕ). t ++ line_text side line) c.new-text.ensures.bytes in
    ap reading_of text ∙ read_back side line (c.requires, c.in_ok-add_line.ensures.bytes)
