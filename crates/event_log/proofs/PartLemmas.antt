-- The parts of bytes.
use Rattle.std.proofs.Common.{◌≡◌, ℕ, ◌+◌, ◌-◌, ◌==◌, Bool, true, false, cond, nat_lt, List, [], ◌∷◌, length, take, drop, Option, Some, None, Err, position, refl, sym, ap, ◌∙◌, arith}
use Rattle.std.specs.List.{onto_first, position_or_len}
use Rattle.std.proofs.lemmas.List.Splits.{slice_split_first, slice_split_none}
use Rattle.std.proofs.lemmas.List.Sums.{fails_before_first}
use Rattle.std.proofs.lemmas.List.{take_rest}
use Rattle.std.proofs.lemmas.List.Elements.{All-from_get_or}
use Rattle.std.proofs.lemmas.Bool.{ltb-true, ltb-false}
use denote.Ref.{Bor}
use Rattle.event_log.specs.declared.fault.LineFault.TheVariants.{Number}
use Rattle.event_log.specs.declared.log_line.LogLine.{LogLine}
use Rattle.event_log.specs.Reading.{parts_of, parts_left, line_at_end, emit_of}

-- there is a first part
pub record HasParts (parts : List (List ℕ)) : Type 0 where
  pub front : List ℕ
  pub later : List (List ℕ)
  pub all : parts ≡ front ∷ later

onto_some : (b : ℕ) (parts : List (List ℕ)) → HasParts (onto_first b parts)
onto_some b [] = record { front = b ∷ []; later = []; all = refl }
onto_some b (part ∷ parts) = record { front = b ∷ part; later = parts; all = refl }

cond_some : (t : Bool) (x y : List (List ℕ)) → HasParts x → HasParts y → HasParts (cond t x y)
cond_some true x y h k = h
cond_some false x y h k = k

pub parts_of-some : (bytes : List ℕ) → HasParts (parts_of bytes)
parts_of-some [] = record { front = []; later = []; all = refl }
parts_of-some (b ∷ bytes) =
    cond_some (b == 32) ([] ∷ parts_of bytes) (onto_first b (parts_of bytes)) (record { front = []; later = parts_of bytes; all = refl })
    (onto_some b (parts_of bytes))

-- what a position says
pub position_at : (t : Bool) (n i : ℕ) → cond t (Some n) None ≡ Some i → (t ≡ true) × (n ≡ i)
position_at true n i h = (refl, cc)
position_at false n i h = cc

pub position_none : (t : Bool) (n : ℕ) → cond t (Some n) None ≡ None → t ≡ false
position_none true n h = cc
position_none false n h = refl

-- the first part ends at the first space
pub parts_of-at : (bytes : List ℕ) (at : ℕ) → Some at ≡ position (λ (b : ℕ). b == 32) bytes
    → parts_of bytes ≡ take at bytes ∷ parts_of (take (length bytes - (at + 1)) (drop (at + 1) bytes))
parts_of-at bytes at h =
    let p = λ (b : ℕ). b == 32 in
    let found = position_at (nat_lt (position_or_len p bytes) (length bytes)) (position_or_len p bytes) at (sym h) in
    let split = slice_split_first p bytes 0 (ltb-true _ _ found.0) in
    split ∙ ap (λ (n : ℕ). take n bytes ∷ parts_of (drop (n + 1) bytes)) found.1
    ∙ ap (λ (rest : List ℕ). take at bytes ∷ parts_of rest) (sym (take_rest bytes (at + 1)))

-- where there is no space, the bytes are the one part
pub parts_of-none : (bytes : List ℕ) → None ≡ position (λ (b : ℕ). b == 32) bytes → parts_of bytes ≡ bytes ∷ []
parts_of-none bytes h =
    let p = λ (b : ℕ). b == 32 in
    let beyond = ltb-false _ _ (position_none (nat_lt (position_or_len p bytes) (length bytes)) (position_or_len p bytes) (sym h)) in
    slice_split_none p bytes (All-from_get_or (λ (b : ℕ). p b ≡ false) bytes 0 (λ i below. fails_before_first p bytes i 0 (omega (arith, below, beyond))))

-- where a part is left, the line is not line_at_end
pub line_at_end-some : (line : LogLine) (rest : Option (Bor (List ℕ))) (bytes : Bor (List ℕ)) → rest ≡ Some bytes → None ≡ line_at_end line (parts_left rest)
line_at_end-some line rest bytes is =
    let h = parts_of-some bytes.now in
    sym (ap (λ (o : Option (Bor (List ℕ))). line_at_end line (parts_left o)) is ∙ ap (line_at_end line) h.all)

-- more parts than one are none of an `emit` line
pub emit_of-more : (parts : List (List ℕ)) (part : List ℕ) (after : Option (Bor (List ℕ))) (bytes : Bor (List ℕ)) → parts ≡ part ∷ parts_left after
    → after ≡ Some bytes → emit_of parts ≡ Err Number
unfolding emit_of
emit_of-more parts part after bytes all is =
    let h = parts_of-some bytes.now in
    ap emit_of (all ∙ ap (λ (o : Option (Bor (List ℕ))). part ∷ parts_left o) is ∙ ap (λ (ps : List (List ℕ)). part ∷ ps) h.all)
