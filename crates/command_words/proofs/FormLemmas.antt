-- What a word looks like, by what a search in it found.
use Rattle.std.proofs.Common.{◌≡◌, ◌≢◌, ◌<◌, ◌==◌, ◌∙◌, ℕ, Bool, true, false, Option, Some, None, option_map, [], ◌∷◌, length, refl, sym, ap, arith}
use Rattle.std.specs.Prelude.{MatchOption}
use Rattle.std.specs.Borrow.{Bor}
use Rattle.std.specs.List.{list_any, position_or_len}
use Rattle.std.proofs.lemmas.Bool.Decides.{nat_tests}
use Rattle.command_words.specs.Given.{Text, after_hyphen}

at-hyphen : (rest : Text) → after_hyphen (45 ∷ rest) ≡ Some rest
at-hyphen rest = refl

-- the clause of `strip_prefix` at a hyphen
pub hyphen-from : (word : Text) (r : Option (Bor Text))
    → MatchOption r ((rest : Text) → word ≢ 45 ∷ rest) (λ x. word ≡ 45 ∷ x.now) → option_map (λ (t : Bor Text). t.now) r ≡ after_hyphen word
hyphen-from [] None h = refl
hyphen-from [] (Some x) h = cc
hyphen-from (b ∷ bs) None h = go (b == 45) refl
  where
    go : (t : Bool) → (b == 45) ≡ t → None ≡ after_hyphen (b ∷ bs)
    go true e = absurd (h bs (ap (λ n. n ∷ bs) (grind (arith, nat_tests))))
    go false e = rw e
hyphen-from (b ∷ bs) (Some x) h = sym (ap after_hyphen h ∙ at-hyphen x.now)

pub any-found : (p : ℕ → Bool) (xs : Text) → position_or_len p xs < length xs → list_any p xs ≡ true
any-found p [] found = absurd (omega arith)
any-found p (x ∷ xs) found = go (p x) refl (any-found p xs)
  where
    go : (t : Bool) → p x ≡ t → (position_or_len p xs < length xs → list_any p xs ≡ true) → list_any p (x ∷ xs) ≡ true
    go true e rest = rw e refl
    go false e rest = let more : position_or_len p xs < length xs = grind (arith, rw e at found) in rw e (rest more)

pub any-none : (p : ℕ → Bool) (xs : Text) → position_or_len p xs ≡ length xs → list_any p xs ≡ false
any-none p [] none = refl
any-none p (x ∷ xs) none = go (p x) refl (any-none p xs)
  where
    go : (t : Bool) → p x ≡ t → (position_or_len p xs ≡ length xs → list_any p xs ≡ false) → list_any p (x ∷ xs) ≡ false
    go true e rest = let bad : ⊥ = grind (arith, rw e at none) in absurd bad
    go false e rest = let more : position_or_len p xs ≡ length xs = grind (arith, rw e at none) in rw e (rest more)
