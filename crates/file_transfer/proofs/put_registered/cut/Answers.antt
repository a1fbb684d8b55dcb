use Rattle.std.proofs.Common.{◌≡◌, ◌≤◌, ◌-◌, ◌++◌, ℕ, zero, suc, List, [], ◌∷◌, length, take, drop, refl, sym, ap, ◌∙◌, append_assoc, arith}
use Rattle.std.proofs.lemmas.List.{append-nil}
use Rattle.file_messages.specs.Runs.{pages_of}
use Rattle.file_transfer.proofs.PutRegisteredLemmas.{pages-next}
use Rattle.file_transfer.proofs.put_registered.cut.Goals as goal

pub loop-place-init : goal.loop-place-init
loop-place-init c = record { within = omega arith; parts = ap (λ (ps : List (List ℕ)). ps ++ pages_of c.args.bytes.now) c.in_ok-parts.ensures.items }

pub loop-place-preserved : goal.loop-place-preserved
loop-place-preserved c =
    let part : List ℕ = take (c.min-end.result - c.loop-place.place) (drop c.loop-place.place c.args.bytes.now) in
    let rest : List (List ℕ) = pages_of (drop c.min-end.result c.args.bytes.now) in
    record {
      within = omega (arith, c.min-end.ensures);
      parts = ap (λ (ps : List (List ℕ)). ps ++ rest) (c.in_ok-push_back.ensures.items ∙ ap (λ (p : List ℕ). c.loop-place.parts.items ++ p ∷ []) c.in_ok-copy_of.ensures)
          ∙ append_assoc c.loop-place.parts.items (part ∷ []) rest
          ∙ ap (λ (ps : List (List ℕ)). c.loop-place.parts.items ++ ps) (sym (pages-next c.loop-place.place c.min-end.result c.args.bytes.now c.loop-place-test.true c.min-end.ensures))
          ∙ c.loop-place.invariant.parts;
    }

drop_whole : (n : ℕ) (bytes : List ℕ) → length bytes ≤ n → drop n bytes ≡ []
drop_whole zero [] h = refl
drop_whole (suc n) [] h = refl
drop_whole zero (b ∷ bytes) h = absurd (omega arith)
drop_whole (suc n) (b ∷ bytes) h = drop_whole n bytes (omega arith)

pub returns : goal.returns
returns c =
    sym (append-nil c.loop-place.parts.items) ∙ ap (λ (bytes : List ℕ). c.loop-place.parts.items ++ pages_of bytes) (sym (drop_whole c.loop-place.place c.args.bytes.now c.loop-place-test.false))
    ∙ c.loop-place.invariant.parts
