-- What the parser found, as what is given.
use Rattle.std.proofs.Common.{◌≡◌, ◌∙◌, Bool, true, false, cond, ◌||◌, Option, Some, None, option_map, List, [], ◌∷◌, ◌++◌, codes, refl, sym, ap}
use Rattle.std.specs.Prelude.{bytes_eq, find, is_some, unwrap_or, option_and_then, slice_get}
use Rattle.std.proofs.lemmas.Slice.Eq.{bytes_eq-Decides}
use Rattle.clap.specs.declared.builder.value_parser.Reading.{Reading}
use Rattle.clap.specs.declared.parser.matches.ValueSource.TheVariants.{CommandLine}
use Rattle.clap.specs.Walk.{Row, all_of, first_of, has_row, with_values, without}
use Rattle.command_words.specs.Given.{Text, Given, with_value}
use Rattle.command_words.proofs.Slots.{Slot, name_of, text_in, put_in, text_put, values_put, text_kept, not_values, values_not}

abbrev row : Text → List Row → Option Row
row id rows = find (λ (r : Row). bytes_eq r.id id) rows

-- a text is itself, and texts that a test finds equal are
pub same : (a b : Text) → bytes_eq a b ≡ true → a ≡ b
same a b e = (bytes_eq-Decides a b).0 e

pub itself : (a : Text) → bytes_eq a a ≡ true
itself a = (bytes_eq-Decides a a).1 refl

-- ---- one more use of an option

-- the row of another name stays
row-other : (id other : Text) (how : Reading) (values : List Text) (rows : List Row) → bytes_eq id other ≡ false
    → row other (with_values id how CommandLine values rows) ≡ row other rows
row-other id other how values [] differ = rw differ refl
row-other id other how values (r ∷ rs) differ = go (bytes_eq r.id id) refl (row-other id other how values rs differ)
  where
    go : (b : Bool) → bytes_eq r.id id ≡ b → row other (with_values id how CommandLine values rs) ≡ row other rs
        → row other (with_values id how CommandLine values (r ∷ rs)) ≡ row other (r ∷ rs)
    go true e rest = let here : bytes_eq r.id other ≡ false = ap (λ (t : Text). bytes_eq t other) (same r.id id e) ∙ differ in rw (e, here) refl
    go false e rest = rw (e, rest) refl

pub all-other : (id other : Text) (how : Reading) (values : List Text) (rows : List Row) → bytes_eq id other ≡ false
    → all_of other (with_values id how CommandLine values rows) ≡ all_of other rows
all-other id other how values rows differ = ap (option_map (λ (r : Row). r.values)) (row-other id other how values rows differ)

-- the row of this name gains the values
pub all-more : (id : Text) (how : Reading) (values : List Text) (rows : List Row)
    → all_of id (with_values id how CommandLine values rows) ≡ Some (unwrap_or (all_of id rows) [] ++ values)
all-more id how values [] = rw (itself id) refl
all-more id how values (r ∷ rs) = go (bytes_eq r.id id) refl (all-more id how values rs)
  where
    go : (b : Bool) → bytes_eq r.id id ≡ b → all_of id (with_values id how CommandLine values rs) ≡ Some (unwrap_or (all_of id rs) [] ++ values)
        → all_of id (with_values id how CommandLine values (r ∷ rs)) ≡ Some (unwrap_or (all_of id (r ∷ rs)) [] ++ values)
    go true e rest = rw (e, e) refl
    go false e rest = rw (e, e) rest

pub has-all : (id : Text) (rows : List Row) → has_row id rows ≡ is_some (all_of id rows)
has-all id [] = refl
has-all id (r ∷ rs) = go (bytes_eq r.id id) (has-all id rs)
  where
    go : (b : Bool) → has_row id rs ≡ is_some (all_of id rs)
        → (b || has_row id rs) ≡ is_some (option_map (λ (x : Row). x.values) (cond b (Some r) (row id rs)))
    go true rest = refl
    go false rest = rest

-- where no row has the name, none goes
pub without-none : (id : Text) (rows : List Row) → has_row id rows ≡ false → without id rows ≡ rows
without-none id [] none = refl
without-none id (r ∷ rs) none = go (bytes_eq r.id id) refl (without-none id rs)
  where
    go : (b : Bool) → bytes_eq r.id id ≡ b → (has_row id rs ≡ false → without id rs ≡ rs) → without id (r ∷ rs) ≡ (r ∷ rs)
    go true e rest = let bad : true ≡ false = rw e at none in cc
    go false e rest = let left : has_row id rs ≡ false = rw e at none in rw e (ap (λ (xs : List Row). r ∷ xs) (rest left))

-- ---- the rows show what is given

pub record Shows (rows : List Row) (given : Given) : Type 0 where
  pub options : (s : Slot) → all_of (name_of s) rows ≡ option_map (λ (t : Text). t ∷ []) (text_in s given)
  pub values : unwrap_or (all_of (codes "values") rows) [] ≡ given.values

pub shows-nothing : (given : Given) → ((s : Slot) → text_in s given ≡ None) → given.values ≡ [] → Shows [] given
shows-nothing given none no_values = record {
  options = λ s. sym (ap (option_map (λ (t : Text). t ∷ [])) (none s));
  values = sym no_values;
}

some-one : (o : Option Text) → is_some (option_map (λ (t : Text). t ∷ []) o) ≡ is_some o
some-one None = refl
some-one (Some t) = refl

pub has-given : (rows : List Row) (given : Given) (s : Slot) → Shows rows given → has_row (name_of s) rows ≡ is_some (text_in s given)
has-given rows given s shows = has-all (name_of s) rows ∙ ap is_some (shows.options s) ∙ some-one (text_in s given)

pub first-given : (rows : List Row) (given : Given) (s : Slot) → Shows rows given → first_of (name_of s) rows ≡ text_in s given
first-given rows given s shows = by-row (row (name_of s) rows) ∙ ap (option_and_then (λ (vs : List Text). slice_get vs 0)) (shows.options s) ∙ one (text_in s given)
  where
    by-row : (o : Option Row) → option_and_then (λ (r : Row). slice_get r.values 0) o ≡ option_and_then (λ (vs : List Text). slice_get vs 0) (option_map (λ (r : Row). r.values) o)
    by-row None = refl
    by-row (Some r) = refl

    one : (o : Option Text) → option_and_then (λ (vs : List Text). slice_get vs 0) (option_map (λ (t : Text). t ∷ []) o) ≡ o
    one None = refl
    one (Some t) = refl

-- one more word that belongs to no option
pub shows-value : (how : Reading) (value : Text) (rows : List Row) (given : Given) → Shows rows given
    → Shows (with_values (codes "values") how CommandLine (value ∷ []) rows) (with_value value given)
shows-value how value rows given shows = record {
  options = λ s. all-other (codes "values") (name_of s) how (value ∷ []) rows (values_not s) ∙ shows.options s
      ∙ sym (ap (option_map (λ (t : Text). t ∷ [])) (text_kept s (given.values ++ value ∷ []) given));
  values = ap (λ (o : Option (List Text)). unwrap_or o []) (all-more (codes "values") how (value ∷ []) rows) ∙ ap (λ (vs : List Text). vs ++ value ∷ []) shows.values;
}

not-given : (o : Option Text) → o ≡ None → option_map (λ (t : Text). t ∷ []) o ≡ None
not-given o none = ap (option_map (λ (t : Text). t ∷ [])) none

-- an option that was not given
pub shows-option : (how : Reading) (s : Slot) (text : Text) (rows : List Row) (given : Given) → Shows rows given → text_in s given ≡ None
    → Shows (with_values (name_of s) how CommandLine (text ∷ []) rows) (put_in s text given)
shows-option how s text rows given shows none = record {
  options = λ other. by-test other (bytes_eq (name_of s) (name_of other)) refl;
  values = ap (λ (o : Option (List Text)). unwrap_or o []) (all-other (name_of s) (codes "values") how (text ∷ []) rows (not_values s)) ∙ shows.values ∙ sym (values_put s text given);
}
  where
    new : List Row
    new = with_values (name_of s) how CommandLine (text ∷ []) rows

    first : all_of (name_of s) new ≡ Some (text ∷ [])
    first = all-more (name_of s) how (text ∷ []) rows
        ∙ ap (λ (o : Option (List Text)). Some (unwrap_or o [] ++ text ∷ [])) (shows.options s ∙ not-given (text_in s given) none)

    by-test : (other : Slot) (b : Bool) → bytes_eq (name_of s) (name_of other) ≡ b
        → all_of (name_of other) new ≡ option_map (λ (t : Text). t ∷ []) (text_in other (put_in s text given))
    by-test other true e = ap (λ (n : Text). all_of n new) (sym (same (name_of s) (name_of other) e)) ∙ first
        ∙ sym (ap (option_map (λ (t : Text). t ∷ [])) (text_put s other text given ∙ ap (λ (b : Bool). cond b (Some text) (text_in other given)) e))
    by-test other false e = all-other (name_of s) (name_of other) how (text ∷ []) rows e ∙ shows.options other
        ∙ sym (ap (option_map (λ (t : Text). t ∷ [])) (text_put s other text given ∙ ap (λ (b : Bool). cond b (Some text) (text_in other given)) e))
