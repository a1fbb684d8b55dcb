use Rattle.std.proofs.Common.{◌≡◌, ℕ, ◌+◌, ◌++◌, ◌∷◌, [], List, take, map, codes, string_bytes, sym, ap, ◌∙◌, append_assoc, arith}
use Rattle.std.proofs.lemmas.List.{take_more, append-nil, map-append}
use Rattle.std.proofs.lemmas.List.Concat.{flat_map-append}
use Rattle.event_log.specs.declared.log_line.LogLine.{LogLine}
use Rattle.event_log.specs.Lines.{line_text, lines_text}
use Rattle.copy_log.proofs.worker_lines.add_worker_lines.Goals as goal

pub loop-line-preserved : goal.loop-line-preserved
loop-line-preserved c =
    let e = c.line-item.result in
    let lines = c.args.lines.now in
    let front = take c.loop-line.line-index lines in
    let f : LogLine → List ℕ = λ x. line_text c.args.side x in
    let more : take (c.loop-line.line-index + 1) lines ≡ front ++ e ∷ [] =
    take_more lines c.loop-line.line-index e (omega arith) ∙ ap (λ (x : LogLine). front ++ x ∷ []) (sym c.line-item.is) in
    let start = string_bytes c.args.text.now in
    let so_far = lines_text (map f front) in
    let line = f e ++ codes "\n" in
    let snoc : lines_text (map f (front ++ e ∷ [])) ≡ so_far ++ line =
    ap (λ (ls : List (List ℕ)). lines_text ls) (map-append f front (e ∷ []))
    ∙ flat_map-append (λ (l : List ℕ). l ++ codes "\n") (map f front) (f e ∷ [])
    ∙ ap (λ (t : List ℕ). so_far ++ t) (append-nil line) in
    rw more (
    c.in_ok-add_one.ensures ∙ ap (λ (t : List ℕ). t ++ line) c.loop-line.invariant ∙ append_assoc start so_far line ∙ ap (λ (t : List ℕ). start ++ t) (sym snoc)
    )
