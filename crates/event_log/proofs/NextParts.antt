-- The next part of a line, one reading after another.
use Rattle.std.proofs.Common.{◌≡◌, ℕ, List, [], ◌∷◌, Option, Some, None, decimal, refl, ap, ◌∙◌}
use Rattle.event_log.specs.Lines.{IsBetween}
use Rattle.event_log.specs.Reading.{number_in, next_number, ◌>>=◌}
use Rattle.event_log.proofs.NumberLemmas.{number_in-some}

pub stepped : {A B : Type 0} (o : Option A) (step : A → Option B) (y : B) → (o >>= step) ≡ Some y → (x : A) × (o ≡ Some x) × (step x ≡ Some y)
stepped (Some x) step y h = (x, refl, h)
stepped None step y h = cc

pub same_some : {A : Type 0} (x y : A) → ◌≡◌ {A = Option A} (Some x) (Some y) → x ≡ y
same_some x y h = cc

-- the next part was a number of the range
pub record IsNumberPart (least most n : ℕ) (parts later : List (List ℕ)) : Type 0 where
  pub fits : IsBetween least most n
  pub part : parts ≡ decimal n ∷ later

pub number_part : (least most : ℕ) (parts : List (List ℕ)) (x : ℕ × List (List ℕ)) → next_number least most parts ≡ Some x
    → IsNumberPart least most x.0 parts x.1
number_part least most [] x h = absurd (let b : ⊥ = cc in b)
number_part least most (part ∷ parts) x h =
    let s = stepped (number_in least most part) _ x h in
    let pair : (s.0, parts) ≡ x = same_some _ _ s.2 in
    let value : s.0 ≡ x.0 = ap (λ (p : ℕ × List (List ℕ)). p.0) pair in
    let rest : parts ≡ x.1 = ap (λ (p : ℕ × List (List ℕ)). p.1) pair in
    let n = number_in-some least most x.0 part (s.1 ∙ ap Some value) in
    record {
      fits = record { low = n.low; high = n.high };
      part = ap (λ (p : List ℕ). p ∷ parts) n.spelled ∙ ap (λ (ps : List (List ℕ)). decimal x.0 ∷ ps) rest;
    }

pub then_parts : (part : List ℕ) (parts later more : List (List ℕ)) → parts ≡ part ∷ later → later ≡ more → parts ≡ part ∷ more
then_parts part parts later more h k = h ∙ ap (λ (ps : List (List ℕ)). part ∷ ps) k
