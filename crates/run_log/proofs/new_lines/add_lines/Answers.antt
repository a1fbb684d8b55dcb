use Rattle.std.proofs.Common.{◌≡◌, ℕ, ◌+◌, ◌++◌, ◌∷◌, [], List, take, codes, string_bytes, sym, ap, ◌∙◌, append_assoc, arith}
use Rattle.std.proofs.lemmas.List.{take_more}
use Rattle.smbd_base.specs.declared.event.Event.{Event}
use Rattle.run_log.specs.RunLines.{event_line, number_after}
use Rattle.run_log.specs.NewLines.{lines_from}
use Rattle.event_log.specs.Lines.{lines_text}
use Rattle.run_log.proofs.NewLineLemmas.{number_after_all-snoc, text-snoc, number_after-le}
use Rattle.run_log.proofs.new_lines.add_lines.Goals as goal

pub loop-event-preserved : goal.loop-event-preserved
loop-event-preserved c =
    let e = c.event-item.result in
    let events = c.args.events.now in
    let front = take c.loop-event.event-index events in
    let more : take (c.loop-event.event-index + 1) events ≡ front ++ e ∷ [] =
    take_more events c.loop-event.event-index e (omega arith) ∙ ap (λ (x : Event). front ++ x ∷ []) (sym c.event-item.is) in
    let inv = c.loop-event.invariant in
    let start = string_bytes c.args.text.now in
    let so_far = lines_text (lines_from c.args.end c.args.first front) in
    let line = event_line c.args.end c.loop-event.number e ++ codes "\n" in
    let text : string_bytes c.add_event_line.new.text ≡ start ++ lines_text (lines_from c.args.end c.args.first (front ++ e ∷ [])) =
    c.in_ok-add_event_line.ensures ∙ ap (λ (t : List ℕ). t ++ line) inv.0 ∙ append_assoc start so_far line
    ∙ ap (λ (t : List ℕ). start ++ t) (ap (λ (n : ℕ). so_far ++ (event_line c.args.end n e ++ codes "\n")) inv.1 ∙ sym (text-snoc c.args.end c.args.first front e)) in
    rw more (
      text,
      c.number_after-number.ensures ∙ ap (λ (n : ℕ). number_after n e) inv.1 ∙ sym (number_after_all-snoc c.args.first front e),
      omega (arith, c.number_after-number.ensures, number_after-le c.loop-event.number (c.loop-event.event-index + c.args.first) e inv.2),
    )
