-- Lines of a text, and parts of a line.
use Rattle.std.proofs.Common.{◌≡◌, ◌≢◌, ℕ, ◌+◌, ◌-◌, ◌<◌, ◌==◌, Bool, true, false, cond, nat_lt, List, [], ◌∷◌, ◌++◌, length, get_or, take, drop, Option, Some, None, position, refl, sym, ap, ◌∙◌, arith, append_assoc}
use Rattle.std.specs.Prelude.{All}
use Rattle.std.specs.List.{slice_split, position_or_len}
use Rattle.std.proofs.lemmas.List.Splits.{slice_split_first, slice_split_none, slice_split_at, length-slice_split}
use Rattle.std.proofs.lemmas.List.Sums.{fails_before_first}
use Rattle.std.proofs.lemmas.List.{take_rest, drop_all}
use Rattle.std.proofs.lemmas.List.Elements.{All-head, All-tail, All-get_or, All-from_get_or}
use Rattle.std.proofs.lemmas.Bool.{ltb-true, ltb-false, ne_eqb}
use Rattle.std.proofs.lemmas.Bool.Decides.{nat_tests}
use denote.Ref.{Bor}
use Rattle.event_log.specs.Lines.{lines_text}
use Rattle.event_log.specs.Reading.{parts_left}
use Rattle.event_log.proofs.PartLemmas.{parts_of-some, position_at, position_none}
use Rattle.event_log.proofs.BatchLemmas.{lines_apart}
use Rattle.sim_script.specs.declared.script_line.ScriptLine.{ScriptLine}
use Rattle.sim_script.specs.Scripts.{line_at_end, without_empty_end, lines_in}

-- where a part is left, the line is not line_at_end
pub line_at_end-some : (line : ScriptLine) (rest : Option (Bor (List ℕ))) (bytes : Bor (List ℕ)) → rest ≡ Some bytes → None ≡ line_at_end line (parts_left rest)
line_at_end-some line rest bytes is =
    let h = parts_of-some bytes.now in
    sym (ap (λ (o : Option (Bor (List ℕ))). line_at_end line (parts_left o)) is ∙ ap (line_at_end line) h.all)

-- a part that others follow is a line
part_and_more : (part : List ℕ) (parts : List (List ℕ)) → 0 < length parts → without_empty_end (part ∷ parts) ≡ part ∷ without_empty_end parts
part_and_more part [] h = absurd (omega arith)
part_and_more part (next ∷ parts) h = refl

-- and so is the last one where it is not empty
last_part : (part : List ℕ) → 0 < length part → without_empty_end (part ∷ []) ≡ part ∷ []
last_part part h = let e : (length part == 0) ≡ false = grind (arith, nat_tests) in rw e refl

-- the first line ends at the first line feed
pub lines_in-at : (text : List ℕ) (at : ℕ) → Some at ≡ position (λ (b : ℕ). b == 10) text
    → lines_in text ≡ take at text ∷ lines_in (take (length text - (at + 1)) (drop (at + 1) text))
unfolding lines_in
lines_in-at text at h =
    let p = λ (b : ℕ). b == 10 in
    let rest = take (length text - (at + 1)) (drop (at + 1) text) in
    let found = position_at (nat_lt (position_or_len p text) (length text)) (position_or_len p text) at (sym h) in
    let split : slice_split p text ≡ take at text ∷ slice_split p rest =
    slice_split_first p text 0 (ltb-true _ _ found.0) ∙ ap (λ (n : ℕ). take n text ∷ slice_split p (drop (n + 1) text)) found.1
    ∙ ap (λ (more : List ℕ). take at text ∷ slice_split p more) (sym (take_rest text (at + 1))) in
    ap without_empty_end split ∙ part_and_more (take at text) (slice_split p rest) (omega (arith, length-slice_split p rest))

-- where there is none, the text is one line
pub lines_in-none : (text : List ℕ) → (length text == 0) ≡ false → None ≡ position (λ (b : ℕ). b == 10) text
    → lines_in text ≡ text ∷ lines_in (take (length text - length text) (drop (length text) text))
unfolding lines_in
lines_in-none text some h =
    let p = λ (b : ℕ). b == 10 in
    let beyond = ltb-false _ _ (position_none (nat_lt (position_or_len p text) (length text)) (position_or_len p text) (sym h)) in
    let one : slice_split p text ≡ text ∷ [] =
    slice_split_none p text (All-from_get_or (λ (b : ℕ). p b ≡ false) text 0 (λ i below. fails_before_first p text i 0 (omega (arith, below, beyond)))) in
    let nothing : take (length text - length text) (drop (length text) text) ≡ [] = grind (arith, drop_all, take_rest) in
    ap without_empty_end one ∙ last_part text (grind (arith, nat_tests))
    ∙ ap (λ (rest : List ℕ). text ∷ lines_in rest) (sym nothing)

-- an empty text has no line
pub lines_in-empty : (text : List ℕ) → (length text == 0) ≡ true → lines_in text ≡ []
unfolding lines_in
lines_in-empty [] h = refl
lines_in-empty (b ∷ text) h = absurd (let some : (length (b ∷ text) == 0) ≡ false = grind (arith, nat_tests) in let e : ⊥ = cc in e)

-- ---- texts of lines

without_feed : (line : List ℕ) → All (λ (b : ℕ). b ≢ 10) line → All (λ (b : ℕ). (b == 10) ≡ false) line
without_feed line h =
    All-from_get_or (λ (b : ℕ). (b == 10) ≡ false) line 0 (λ i below. ne_eqb (get_or line i 0) 10 (All-get_or (λ (b : ℕ). b ≢ 10) line i 0 below h))

end_dropped : (lines : List (List ℕ)) → without_empty_end (lines ++ [] ∷ []) ≡ lines
end_dropped [] = refl
end_dropped (line ∷ []) = refl
end_dropped (line ∷ next ∷ lines) = ap (λ (ls : List (List ℕ)). line ∷ ls) (end_dropped (next ∷ lines))

end_kept : (lines : List (List ℕ)) (last : List ℕ) → 0 < length last → without_empty_end (lines ++ last ∷ []) ≡ lines ++ last ∷ []
end_kept [] last h = last_part last h
end_kept (line ∷ []) last h = ap (λ (ls : List (List ℕ)). line ∷ ls) (last_part last h)
end_kept (line ∷ next ∷ lines) last h = ap (λ (ls : List (List ℕ)). line ∷ ls) (end_kept (next ∷ lines) last h)

-- lines with a line feed after each are the lines of their text
pub lines_in-ended : (lines : List (List ℕ)) → All (λ (line : List ℕ). All (λ (b : ℕ). b ≢ 10) line) lines → lines_in (lines_text lines) ≡ lines
unfolding lines_in
lines_in-ended lines h = ap without_empty_end (lines_apart lines h) ∙ end_dropped lines

lines_and_last : (lines : List (List ℕ)) (last : List ℕ) → All (λ (line : List ℕ). All (λ (b : ℕ). b ≢ 10) line) lines → All (λ (b : ℕ). b ≢ 10) last
    → slice_split (λ (b : ℕ). b == 10) (lines_text lines ++ last) ≡ lines ++ last ∷ []
lines_and_last [] last h k = slice_split_none (λ (b : ℕ). b == 10) last (without_feed last k)
lines_and_last (line ∷ lines) last h k =
    let plain = All-head (λ (l : List ℕ). All (λ (b : ℕ). b ≢ 10) l) line lines h in
    ap (slice_split (λ (b : ℕ). b == 10)) (append_assoc (line ++ 10 ∷ []) (lines_text lines) last ∙ append_assoc line (10 ∷ []) (lines_text lines ++ last))
    ∙ slice_split_at (λ (b : ℕ). b == 10) line 10 (lines_text lines ++ last) (without_feed line plain) refl
    ∙ ap (λ (ls : List (List ℕ)). line ∷ ls) (lines_and_last lines last (All-tail (λ (l : List ℕ). All (λ (b : ℕ). b ≢ 10) l) line lines h) k)

-- and so they are where the last one, which is not empty, lacks it
pub lines_in-unended : (lines : List (List ℕ)) (last : List ℕ) → All (λ (line : List ℕ). All (λ (b : ℕ). b ≢ 10) line) lines → All (λ (b : ℕ). b ≢ 10) last
    → 0 < length last → lines_in (lines_text lines ++ last) ≡ lines ++ last ∷ []
unfolding lines_in
lines_in-unended lines last h k some = ap without_empty_end (lines_and_last lines last h k) ∙ end_kept lines last some
