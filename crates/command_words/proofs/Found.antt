-- What the parser answers, as what is given.
use Rattle.std.proofs.Common.{◌≡◌, ◌∙◌, ◌⊎◌, inl, inr, ◌==◌, ◌||◌, Bool, true, false, Option, Some, None, option_map, List, [], ◌∷◌, codes, length, map, refl, sym, ap, subst, arith}
use Rattle.std.specs.Prelude.{unwrap_or}
use Rattle.std.specs.List.{list_any}
use Rattle.std.specs.Borrow.{Bor}
use Rattle.std.proofs.lemmas.Bool.Decides.{nat_tests}
use Rattle.event_log.specs.Reading.{◌>>=◌}
use Rattle.clap.specs.Kinds.{Kinds, IsAmong}
use Rattle.clap.specs.declared.error.kind.ErrorKind.{ErrorKind}
use Rattle.clap.specs.declared.error.kind.ErrorKind.TheVariants.{OutOfMemory}
use Rattle.clap.specs.declared.parser.matches.Found.{Found}
use Rattle.clap.specs.Walk.{Row, rows_of}
use Rattle.clap.specs.Simple.{matches_of}
use Rattle.clap.specs.Faults.{fault_of}
use Rattle.clap.proofs.WalkLemmas.{first_value-rows, raw_values-rows}
use Rattle.command_words.specs.Given.{Text, Given, named, single_hyphen, Reading, form_of, given_of, is_stray, read_form}
use Rattle.command_words.specs.Parser.{parser_app, given_found}
use Rattle.command_words.specs.Seen.{texts}
use Rattle.command_words.proofs.Slots.{workers, channel, credits, send_size, pages, cut}
use Rattle.command_words.proofs.Rows.{Shows, first-given}
use Rattle.command_words.proofs.Agreement.{Agree, agrees, given_from, given-then, never-given}

pub map-self : (xs : List Text) → map (λ (w : Text). w) xs ≡ xs
map-self [] = refl
map-self (x ∷ xs) = ap (λ (t : List Text). x ∷ t) (map-self xs)

pub values-of : (r : Bor (List (Bor Text))) (o : Option (Bor (List (Bor Text)))) (none : Bor (List (Bor Text))) → r ≡ unwrap_or o none → none.now ≡ []
    → texts r.now ≡ unwrap_or (option_map (λ (s : Bor (List (Bor Text))). texts s.now) o) []
values-of r None none is empty = ap (λ (s : Bor (List (Bor Text))). texts s.now) is ∙ ap texts empty
values-of r (Some s) none is empty = ap (λ (x : Bor (List (Bor Text))). texts x.now) is

-- ---- words that are kept from the parser

differ : (b : Bool) → b ≡ true → b ≡ false → ⊥
differ b t f = let bad : true ≡ false = sym t ∙ f in cc

form-of-stray : (word : Text) → is_stray word ≡ true → (form_of word ≡ single_hyphen) ⊎ (form_of word ≡ named [])
form-of-stray [] stray = absurd (let bad : ⊥ = cc in bad)
form-of-stray (b ∷ []) stray = go (b == 45) refl
  where
    go : (t : Bool) → (b == 45) ≡ t → (form_of (b ∷ []) ≡ single_hyphen) ⊎ (form_of (b ∷ []) ≡ named [])
    go true e = inl (rw e refl)
    go false e = let bad : false ≡ true = rw e at stray in absurd (let x : ⊥ = cc in x)
form-of-stray (b ∷ c ∷ []) stray = go (b == 45) (c == 45) refl refl
  where
    go : (t u : Bool) → (b == 45) ≡ t → (c == 45) ≡ u → (form_of (b ∷ c ∷ []) ≡ single_hyphen) ⊎ (form_of (b ∷ c ∷ []) ≡ named [])
    go false u e f = let bad : false ≡ true = rw e at stray in absurd (let x : ⊥ = cc in x)
    go true false e f = inl (rw (e, f) refl)
    go true true e f = inr (rw (e, f) refl)
form-of-stray (b ∷ c ∷ d ∷ rest) stray = go (b == 45) (c == 45) refl refl
  where
    go : (t u : Bool) → (b == 45) ≡ t → (c == 45) ≡ u → (form_of (b ∷ c ∷ d ∷ rest) ≡ single_hyphen) ⊎ (form_of (b ∷ c ∷ d ∷ rest) ≡ named [])
    go false u e f = let bad : false ≡ true = rw e at stray in absurd (let x : ⊥ = cc in x)
    go true false e f = inl (rw (e, f) refl)
    go true true e f =
        let empty : (length (d ∷ rest) == 0) ≡ true = rw (e, f) at stray in
        let more : (length (d ∷ rest) == 0) ≡ false = grind (arith, nat_tests) in
        absurd (differ (length (d ∷ rest) == 0) empty more)

none-after : (found : Option Reading) (words : List Text) → ((r : Reading) → given_from r words ≡ None) → (found >>= (λ (r : Reading). given_from r words)) ≡ None
none-after None words none = refl
none-after (Some r) words none = none r

at-hyphen : (waits : Option Text) (given : Given) (word : Text) (words : List Text) → (read_form waits given word single_hyphen >>= (λ (r : Reading). given_from r words)) ≡ None
at-hyphen None given word words = refl
at-hyphen (Some name) given word words = refl

at-dashes : (waits : Option Text) (given : Given) (word : Text) (words : List Text) → (read_form waits given word (named []) >>= (λ (r : Reading). given_from r words)) ≡ None
at-dashes None given word words = never-given [] given words refl
at-dashes (Some name) given word words = refl

none-from : (reading : Reading) (words : List Text) → list_any is_stray words ≡ true → given_from reading words ≡ None
none-from reading [] stray = absurd (let bad : ⊥ = cc in bad)
none-from reading (word ∷ words) stray = go (is_stray word) refl (λ r. none-from r words)
  where
    go : (b : Bool) → is_stray word ≡ b → ((r : Reading) → list_any is_stray words ≡ true → given_from r words ≡ None) → given_from reading (word ∷ words) ≡ None
    go true here rest = elim (form-of-stray word here) [
      | inl hyphen ↦ given-then reading word words single_hyphen hyphen ∙ at-hyphen reading.waits reading.given word words
      | inr dashes ↦ given-then reading word words (named []) dashes ∙ at-dashes reading.waits reading.given word words
    ]
    go false here rest =
        let later : list_any is_stray words ≡ true = ap (λ (b : Bool). b || list_any is_stray words) (sym here) ∙ stray in
        given-then reading word words (form_of word) refl ∙ none-after _ words (λ r. rest r later)

pub none-given : (words : List Text) → list_any is_stray words ≡ true → given_of words ≡ None
unfolding given_of
none-given words stray = none-from _ words stray

-- ---- the answers of the parser

pub found-given : (words : List Text) (found : Found) → list_any is_stray words ≡ false → fault_of parser_app words ≡ [] → rows_of found ≡ matches_of parser_app words
    → given_of words ≡ Some (given_found found)
found-given words found fits fine rows = go (given_of words) (agrees words fits)
  where
    fields : (given : Given) → Shows (rows_of found) given → given ≡ given_found found
    fields given shows = λ i. record {
      workers = sym (first_value-rows found (codes "workers") ∙ first-given (rows_of found) given workers shows) i;
      channel = sym (first_value-rows found (codes "channel") ∙ first-given (rows_of found) given channel shows) i;
      credits = sym (first_value-rows found (codes "credits") ∙ first-given (rows_of found) given credits shows) i;
      send_size = sym (first_value-rows found (codes "send-size") ∙ first-given (rows_of found) given send_size shows) i;
      pages = sym (first_value-rows found (codes "pages") ∙ first-given (rows_of found) given pages shows) i;
      cut = sym (first_value-rows found (codes "cut") ∙ first-given (rows_of found) given cut shows) i;
      values = sym (ap (λ (o : Option (List Text)). unwrap_or o []) (raw_values-rows found (codes "values")) ∙ shows.values) i;
    }

    go : (o : Option Given) → Agree (fault_of parser_app words) (matches_of parser_app words) o → o ≡ Some (given_found found)
    go None faulty = absurd (faulty fine)
    go (Some given) agree = ap Some (fields given (subst (λ (r : List Row). Shows r given) (sym rows) agree.1))

-- an error that isn't want of memory has a kind of the words' faults
pub among : (kind : ErrorKind) (kinds : Kinds) → (kind ≡ OutOfMemory → ⊥) → (kind ≡ OutOfMemory) ⊎ IsAmong kind kinds → IsAmong kind kinds
among kind kinds other (inl memory) = absurd (other memory)
among kind kinds other (inr is) = is

pub refused-given : (words : List Text) (kind : ErrorKind) → list_any is_stray words ≡ false → IsAmong kind (fault_of parser_app words) → given_of words ≡ None
refused-given words kind fits is = go (given_of words) (agrees words fits)
  where
    go : (o : Option Given) → Agree (fault_of parser_app words) (matches_of parser_app words) o → o ≡ None
    go None faulty = refl
    go (Some given) agree = absurd (subst (IsAmong kind) agree.0 is)
