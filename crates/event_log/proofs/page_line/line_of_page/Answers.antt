use Rattle.std.proofs.Common.{◌≡◌, ◌++◌, List, ℕ, string_bytes, ap, ◌∙◌}
use Rattle.hex.specs.Hex.{IsBytes}
use Rattle.smbd_base.specs.declared.page_event.PageEvent.{PageEvent}
use Rattle.smbd_base.specs.declared.page_event.PageEvent.TheVariants.{Load, Fetch, Place, Unload}
use Rattle.event_log.specs.declared.log_line.LogLine.{LogLine}
use Rattle.event_log.specs.Lines.{line_text, frame_in, logged_page}
use Rattle.event_log.specs.Reading.{reading_of}
use Rattle.event_log.proofs.ReadLines.{no_bytes}
use Rattle.event_log.proofs.WrittenLines.{read_back}
use Rattle.event_log.proofs.page_line.line_of_page.Goals as goal

-- the line of an event of a page has no frame
no_frame : (event : PageEvent) → IsBytes (frame_in (logged_page event))
no_frame (Load token right bytes) = no_bytes
no_frame (Fetch token at bytes) = no_bytes
no_frame (Place token order at bytes) = no_bytes
no_frame (Unload token bytes) = no_bytes

pub returns-clause-read_back : goal.returns-clause-read_back
returns-clause-read_back c =
    let side = c.args.side in
    let line = logged_page c.args.event.now in
    let text : c.of_text.result ≡ line_text side line =
    c.of_text.ensures ∙ c.in_ok-add_log_line.ensures
    ∙ ap (λ (l : LogLine). string_bytes c.new-text.result ++ line_text side l) c.logged_page.ensures
    ∙ ap (λ (t : List ℕ). t ++ line_text side line) c.new-text.ensures.bytes in
    ap reading_of text ∙ read_back side line (c.requires, no_frame c.args.event.now)
