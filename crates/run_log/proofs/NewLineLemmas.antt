-- The lines of events, one after another.
use Rattle.std.proofs.Common.{◌≡◌, ℕ, ◌+◌, ◌≤◌, List, [], ◌∷◌, ◌++◌, codes, refl, sym, ap, ◌∙◌, append_assoc, arith}
use Rattle.std.proofs.lemmas.List.{append-nil}
use Rattle.smbd_base.specs.declared.end_id.EndId.{EndId}
use Rattle.smbd_base.specs.declared.event.Event.{Event}
use Rattle.smbd_base.specs.declared.event.Event.TheVariants.{Post, Submit, Emit, Take, Cut}
use Rattle.run_log.specs.RunLines.{event_line, number_after}
use Rattle.event_log.specs.Lines.{lines_text}
use Rattle.run_log.specs.NewLines.{lines_from, number_after_all}

pub number_after_all-snoc : (number : ℕ) (events : List Event) (e : Event) → number_after_all number (events ++ e ∷ []) ≡ number_after (number_after_all number events) e
number_after_all-snoc number [] e = refl
number_after_all-snoc number (d ∷ events) e = number_after_all-snoc (number_after number d) events e

lines_text-append : (xs ys : List (List ℕ)) → lines_text (xs ++ ys) ≡ lines_text xs ++ lines_text ys
lines_text-append [] ys = refl
lines_text-append (x ∷ xs) ys = ap (λ (t : List ℕ). (x ++ codes "\n") ++ t) (lines_text-append xs ys) ∙ sym (append_assoc (x ++ codes "\n") (lines_text xs) (lines_text ys))

lines_from-snoc : (end : EndId) (number : ℕ) (events : List Event) (e : Event)
    → lines_from end number (events ++ e ∷ []) ≡ lines_from end number events ++ event_line end (number_after_all number events) e ∷ []
lines_from-snoc end number [] e = refl
lines_from-snoc end number (d ∷ events) e = ap (λ (ls : List (List ℕ)). event_line end number d ∷ ls) (lines_from-snoc end (number_after number d) events e)

-- the text with one line more
pub text-snoc : (end : EndId) (number : ℕ) (events : List Event) (e : Event)
    → lines_text (lines_from end number (events ++ e ∷ [])) ≡ lines_text (lines_from end number events) ++ (event_line end (number_after_all number events) e ++ codes "\n")
text-snoc end number events e =
    ap lines_text (lines_from-snoc end number events e)
    ∙ lines_text-append (lines_from end number events) (event_line end (number_after_all number events) e ∷ [])
    ∙ ap (λ (t : List ℕ). lines_text (lines_from end number events) ++ t) (append-nil (event_line end (number_after_all number events) e ++ codes "\n"))

pub number_after-le : (number most : ℕ) (e : Event) → number ≤ most → number_after number e ≤ most + 1
number_after-le number most (Post n) le = omega arith
number_after-le number most (Submit m) le = omega arith
number_after-le number most (Emit f) le = omega arith
number_after-le number most (Take f) le = omega arith
number_after-le number most Cut le = omega arith
