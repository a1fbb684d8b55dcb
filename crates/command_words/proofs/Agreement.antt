-- The parser of command lines finds just what is given.
use Rattle.std.proofs.Common.{◌≡◌, ◌∙◌, ◌&&◌, ◌||◌, Bool, true, false, cond, Option, Some, None, option_map, List, [], ◌∷◌, codes, refl, sym, ap, ap₂, subst, arith}
use Rattle.std.specs.Prelude.{bytes_eq, fold, is_some}
use Rattle.std.specs.List.{list_any, list_all}
use Rattle.std.specs.Option.{option_map_or}
use Rattle.event_log.specs.Reading.{◌>>=◌}
use Rattle.clap.specs.Lexer.{long_of, short_of}
use Rattle.clap.specs.Kinds.{Kinds, or_else}
use Rattle.clap.specs.declared.error.kind.ErrorKind.{ErrorKind}
use Rattle.clap.specs.declared.error.kind.ErrorKind.TheVariants.{UnknownArgument, ArgumentConflict, InvalidValue}
use Rattle.clap.specs.Walk.{Held, Row, Rule, Waiting, idle, option, positional, Walk, arg_by_long, has_row, nothing_held, reacted, settled, settled_rows, used, used_by_id, walked, with_values, with_default, finished, is_empty}
use Rattle.clap.specs.Walk.{default_rows, reading_by, rows_after}
use Rattle.clap.specs.declared.builder.value_parser.Reading.{Reading as Reads}
use Rattle.std.proofs.lemmas.Bool.Decides.{nat_tests}
use Rattle.clap.specs.declared.parser.matches.ValueSource.TheVariants.{CommandLine}
use Rattle.clap.specs.Simple.{Shape, built, matches_of}
use Rattle.clap.specs.Faults.{defaults_fault, given_default_fault, fault_of, level_fault, settle_fault, turn_fault, use_fault, walk_fault}
use Rattle.clap.proofs.FaultLemmas.{leaf_fault}
use Rattle.command_words.specs.Given.{Text, Given, Form, named, joined, plain, single_hyphen, Reading, form_of, given_at_end, given_of, is_stray, nothing_given, once, read_form, read_word, read_words, rested, with_option, with_value}
use Rattle.command_words.specs.Parser.{parser_app}
use Rattle.command_words.proofs.Slots.{Slot, workers, channel, credits, send_size, pages, cut, name_of, text_in, put_in, slot_named, rules, shape, shape-is, built_rule, built_values, by_id, by_long, by_name, by_values, named_so, named_own, no_defaults, none_required, with_slot}
use Rattle.command_words.proofs.Rows.{Shows, has-given, same, shows-nothing, shows-option, shows-value, without-none}
use Rattle.command_words.proofs.Turns.{at, dashes, IsFree, is_idle, is_positional, IsRead, seen, Turn, turn-named, turn-joined, turn-unknown, turn-value, turn-text}

-- ---- the rest of the words, by the parser and by the definition

-- the faults of the words from here on, and the rows at their end
abbrev pub faults_from : Walk → List Text → Kinds
faults_from w words = or_else (walk_fault shape [] w words) (settle_fault rules false (fold (walked rules []) w words).held)

abbrev pub rows_from : Walk → List Text → List Row
rows_from w words = (settled rules (fold (walked rules []) w words).held).rows

-- what is given at the end of the words from here on
abbrev pub given_from : Reading → List Text → Option Given
given_from reading words = read_words reading words >>= (λ (r : Reading). given_at_end r.waits r.given)

-- there is a fault where nothing is given, and else none, and the rows show what is given
abbrev pub Agree : Kinds → List Row → Option Given → Type 0
Agree faults rows None = (faults ≡ []) → ⊥
Agree faults rows (Some given) = (faults ≡ []) × Shows rows given

abbrev AgreesFrom : Walk → List Text → Option Given → Type 0
AgreesFrom w words given = Agree (faults_from w words) (rows_from w words) given

-- ---- lists of faults

or-assoc : (a b c : Kinds) → or_else (or_else a b) c ≡ or_else a (or_else b c)
or-assoc [] b c = refl
or-assoc (k ∷ ks) b c = refl

or-nothing : (a : Kinds) → or_else a [] ≡ a
or-nothing [] = refl
or-nothing (k ∷ ks) = refl

-- where both have none, the first has none
first-none : (a b : Kinds) → or_else a b ≡ [] → a ≡ []
first-none [] b none = refl
first-none (k ∷ ks) b none = none

neither : (a b : Bool) → (a || b) ≡ false → (a ≡ false) × (b ≡ false)
neither true b e = absurd (let bad : ⊥ = cc in bad)
neither false b e = (refl, e)

has-fault : (a : Kinds) (k : ErrorKind) → a ≡ k ∷ [] → a ≡ [] → ⊥
has-fault a k some none = let bad : k ∷ [] ≡ [] = sym some ∙ none in cc

-- at the end of the words
at-end : (w : Walk) → faults_from w [] ≡ settle_fault rules false w.held
unfolding walk_fault
at-end w = refl

-- a word and then the others
word-then : (w : Walk) (word : Text) (words : List Text) → faults_from w (word ∷ words) ≡ or_else (turn_fault shape [] w word) (faults_from (walked rules [] w word) words)
unfolding walk_fault
word-then w word words = or-assoc (turn_fault shape [] w word) (walk_fault shape [] (walked rules [] w word) words)
    (settle_fault rules false (fold (walked rules []) (walked rules [] w word) words).held)

-- a word without a fault, and then the others
onward : (w next : Walk) (word : Text) (words : List Text) (given : Option Given) → Turn w word [] next → AgreesFrom next words given → AgreesFrom w (word ∷ words) given
onward w next word words given turn rest =
    let faults : faults_from w (word ∷ words) ≡ faults_from next words =
    word-then w word words ∙ ap (λ (k : Kinds). or_else k (faults_from (walked rules [] w word) words)) turn.faults_are ∙ ap (λ (v : Walk). faults_from v words) turn.leads in
    let rows : rows_from w (word ∷ words) ≡ rows_from next words = ap (λ (v : Walk). rows_from v words) turn.leads in
    subst (λ (r : List Row). Agree (faults_from w (word ∷ words)) r given) (sym rows) (subst (λ (k : Kinds). Agree k (rows_from next words) given) (sym faults) rest)

-- a word with a fault
stops : (w : Walk) (word : Text) (words : List Text) → (turn_fault shape [] w word ≡ [] → ⊥) → AgreesFrom w (word ∷ words) None
stops w word words faulty = λ none. faulty (first-none _ _ (sym (word-then w word words) ∙ none))

-- ---- the rest of the words by the definition

after-two : {A B C : Type 0} (found : Option A) (f : A → Option B) (g : B → Option C) → ((found >>= f) >>= g) ≡ (found >>= (λ (x : A). f x >>= g))
after-two None f g = refl
after-two (Some x) f g = refl

pub given-then : (reading : Reading) (word : Text) (words : List Text) (form : Form) → form_of word ≡ form
    → given_from reading (word ∷ words) ≡ (read_form reading.waits reading.given word form >>= (λ (r : Reading). given_from r words))
given-then reading word words form is =
    after-two (read_word reading word) (λ (r : Reading). read_words r words) (λ (r : Reading). given_at_end r.waits r.given)
    ∙ ap (λ (f : Form). read_form reading.waits reading.given word f >>= (λ (r : Reading). given_from r words)) is

-- an option that there is not never gets a text
unknown-with : (name text : Text) (given : Given) → slot_named name ≡ None → with_option name text given ≡ None
unknown-with name text given none = by_name name text given ∙ ap (λ (o : Option Slot). o >>= (λ (s : Slot). with_slot s text given)) none

known-with : (name text : Text) (given : Given) (s : Slot) → slot_named name ≡ Some s → with_option name text given ≡ with_slot s text given
known-with name text given s is = by_name name text given ∙ ap (λ (o : Option Slot). o >>= (λ (x : Slot). with_slot x text given)) is

pub never-given : (name : Text) (given : Given) (words : List Text) → slot_named name ≡ None → given_from (record { given = given; waits = Some name }) words ≡ None
never-given name given [] none = refl
never-given name given (word ∷ words) none =
    given-then (record { given = given; waits = Some name }) word words (form_of word) refl ∙ go (form_of word)
  where
    go : (form : Form) → (read_form (Some name) given word form >>= (λ (r : Reading). given_from r words)) ≡ None
    go (named n) = refl
    go (joined n t) = refl
    go single_hyphen = refl
    go plain = ap (λ (o : Option Given). option_map rested o >>= (λ (r : Reading). given_from r words)) (unknown-with name word given none)

-- ---- one use of an option, and of a word that is none

use-once : (name text : Text) (rows : List Row) → has_row name rows ≡ false → use_fault false (built_rule name) (text ∷ []) rows ≡ []
use-once name text rows new = ap (λ (b : Bool). or_else (cond (b && true) (ArgumentConflict ∷ []) []) []) new

use-twice : (name text : Text) (rows : List Row) → has_row name rows ≡ true → use_fault false (built_rule name) (text ∷ []) rows ≡ ArgumentConflict ∷ []
use-twice name text rows again = ap (λ (b : Bool). or_else (cond (b && true) (ArgumentConflict ∷ []) []) []) again

-- the faults and the rows once what is pending is used
pending-fault : (s : Slot) (h : Held) (texts : List Text) → h.pending ≡ Some (name_of s, texts)
    → settle_fault rules false h ≡ use_fault false (built_rule (name_of s)) texts h.rows
pending-fault s h texts is =
    ap (λ (p : Option (Text × List Text)). settle_fault rules false (record h { pending = p })) is
    ∙ ap (λ (o : Option Rule). option_map_or (λ (a : Rule). use_fault false a texts h.rows) o []) (by_id s)

pending-rows : (s : Slot) (h : Held) (texts : List Text) → h.pending ≡ Some (name_of s, texts)
    → (settled rules h).rows ≡ used (built_rule (name_of s)) texts h.rows
pending-rows s h texts is =
    ap (λ (p : Option (Text × List Text)). settled_rows rules p h.rows) is ∙ ap (λ (o : Option Rule). used_by_id o texts h.rows) (by_id s)

-- an option that waits for its text at the end has none
waits-faulty : (s : Slot) (h : Held) → h.pending ≡ Some (name_of s, []) → settle_fault rules false h ≡ [] → ⊥
waits-faulty s h waits = has-fault (settle_fault rules false h) InvalidValue (pending-fault s h [] waits)

-- what an option that wasn't given leaves
shows-used : (s : Slot) (text : Text) (rows : List Row) (given : Given) → Shows rows given → text_in s given ≡ None
    → Shows (used (built_rule (name_of s)) (text ∷ []) rows) (put_in s text given)
shows-used s text rows given shows none =
    let how = reading_by (built_rule (name_of s)) in
    let gone = without-none (name_of s) rows (has-given rows given s shows ∙ ap is_some none) in
    subst (λ (r : List Row). Shows (with_values (name_of s) how CommandLine (text ∷ []) r) (put_in s text given)) (sym gone)
    (shows-option how s text rows given shows none)

-- ---- the law

-- what was pending has a fault: so have the words, whatever follows
doomed : (words : List Text) (h : Held) → list_any is_stray words ≡ false → (settle_fault rules false h ≡ [] → ⊥) → AgreesFrom (at idle h) words None
doomed [] h fits faulty = λ none. faulty (sym (at-end (at idle h)) ∙ none)
doomed (word ∷ words) h fits faulty =
    let word_fits = neither (is_stray word) (list_any is_stray words) fits in
    let v = seen word word_fits.0 in
    go v.0 v.1.read v.1.no_dashes
  where
    by-slot-named : (name : Text) (found : Option Slot) → slot_named name ≡ found → bytes_eq word dashes ≡ false → long_of word ≡ Some (name, None)
        → AgreesFrom (at idle h) (word ∷ words) None
    by-slot-named name None is apart long =
        stops _ word words (has-fault _ UnknownArgument (turn-unknown idle h word name None apart long (by_long name ∙ ap (option_map (λ (s : Slot). built_rule (name_of s))) is)))
    by-slot-named name (Some s) is apart long =
        let turn = turn-named idle h word name s apart long (by_long name ∙ ap (option_map (λ (x : Slot). built_rule (name_of x))) is) in
        stops _ word words (λ none. faulty (sym turn.faults_are ∙ none))

    by-slot-joined : (name text : Text) (found : Option Slot) → slot_named name ≡ found → bytes_eq word dashes ≡ false → long_of word ≡ Some (name, Some text)
        → AgreesFrom (at idle h) (word ∷ words) None
    by-slot-joined name text None is apart long =
        stops _ word words (has-fault _ UnknownArgument (turn-unknown idle h word name (Some text) apart long (by_long name ∙ ap (option_map (λ (s : Slot). built_rule (name_of s))) is)))
    by-slot-joined name text (Some s) is apart long =
        let turn = turn-joined idle h word name text s apart long (by_long name ∙ ap (option_map (λ (x : Slot). built_rule (name_of x))) is) in
        stops _ word words (λ none. faulty (first-none _ _ (sym turn.faults_are ∙ none)))

    go : (form : Form) → IsRead word form → bytes_eq word dashes ≡ false → AgreesFrom (at idle h) (word ∷ words) None
    go plain read apart =
        let turn = turn-value idle h word is_idle apart read in
        stops _ word words (λ none. faulty (sym turn.faults_are ∙ none))
    go (named name) read apart = by-slot-named name (slot_named name) refl apart read
    go (joined name text) read apart = by-slot-joined name text (slot_named name) refl apart read
    go single_hyphen read apart = absurd read

-- ---- the words from here on, where no option waits and where one does

pub record Law (words : List Text) : Type 0 where
  pub free : (waiting : Waiting) (h : Held) (given : Given) → IsFree waiting → settle_fault rules false h ≡ [] → Shows (settled rules h).rows given
      → AgreesFrom (at waiting h) words (given_from (rested given) words)
  pub waits : (s : Slot) (h : Held) (given : Given) → h.pending ≡ Some (name_of s, []) → Shows h.rows given
      → AgreesFrom (at (option (name_of s)) h) words (given_from (record { given = given; waits = Some (name_of s) }) words)

law-at-end : Law []
law-at-end = record {
  free = λ waiting h given free fine shows. (at-end (at waiting h) ∙ fine, shows);
  waits = λ s h given waits shows none. waits-faulty s h waits (sym (at-end (at (option (name_of s)) h)) ∙ none);
}

module _ (word : Text) (words : List Text) (fits : list_any is_stray words ≡ false) (rest : Law words) where
  -- the form of the word is found, where no option waits
  module _ (waiting : Waiting) (h : Held) (given : Given) (free : IsFree waiting) (fine : settle_fault rules false h ≡ []) (shows : Shows (settled rules h).rows given) (apart : bytes_eq word dashes ≡ false) where
    from-here : Option Given → Type 0
    from-here o = AgreesFrom (at waiting h) (word ∷ words) o

    value-next : (long_of word ≡ None) × (short_of word ≡ None) → AgreesFrom (at waiting h) (word ∷ words) (given_from (rested (with_value word given)) words)
    value-next read =
        let now : Held = record (settled rules h) { pending = Some (codes "values", word ∷ []) } in
        let turn = turn-value waiting h word free apart read in
        let rows : (settled rules now).rows ≡ used built_values (word ∷ []) (settled rules h).rows =
        ap (λ (o : Option Rule). used_by_id o (word ∷ []) (settled rules h).rows) by_values in
        let fault : settle_fault rules false now ≡ [] =
        ap (λ (o : Option Rule). option_map_or (λ (a : Rule). use_fault false a (word ∷ []) (settled rules h).rows) o []) by_values in
        onward _ _ word words _ (record { faults_are = turn.faults_are ∙ fine; leads = turn.leads })
        (rest.free positional now (with_value word given) is_positional fault
        (subst (λ (r : List Row). Shows r (with_value word given)) (sym rows) (shows-value (reading_by built_values) word (settled rules h).rows given shows)))

    named-next : (name : Text) (found : Option Slot) → slot_named name ≡ found → long_of word ≡ Some (name, None)
        → AgreesFrom (at waiting h) (word ∷ words) (given_from (record { given = given; waits = Some name }) words)
    named-next name None is long =
        subst (AgreesFrom (at waiting h) (word ∷ words)) (sym (never-given name given words is))
        (stops _ word words (has-fault _ UnknownArgument (turn-unknown waiting h word name None apart long (by_long name ∙ ap (option_map (λ (s : Slot). built_rule (name_of s))) is))))
    named-next name (Some s) is long =
        let turn = turn-named waiting h word name s apart long (by_long name ∙ ap (option_map (λ (x : Slot). built_rule (name_of x))) is) in
        let own = same (name_of s) name (named_so name s is) in
        onward _ _ word words _ (record { faults_are = turn.faults_are ∙ fine; leads = turn.leads })
        (subst (λ (n : Text). AgreesFrom (at (option (name_of s)) (record (settled rules h) { pending = Some (name_of s, []) })) words (given_from (record { given = given; waits = Some n }) words)) own
        (rest.waits s (record (settled rules h) { pending = Some (name_of s, []) }) given refl shows))

    joined-known : (name text : Text) (s : Slot) (already : Option Text) → text_in s given ≡ already → long_of word ≡ Some (name, Some text)
        → arg_by_long rules name ≡ Some (built_rule (name_of s))
        → AgreesFrom (at waiting h) (word ∷ words) (option_map rested (once already (put_in s text given)) >>= (λ (r : Reading). given_from r words))
    joined-known name text s None none long found =
        let turn = turn-joined waiting h word name text s apart long found in
        let new = use-once (name_of s) text (settled rules h).rows (has-given (settled rules h).rows given s shows ∙ ap is_some none) in
        onward _ _ word words _ (record { faults_are = turn.faults_are ∙ ap₂ or_else fine new; leads = turn.leads })
        (rest.free idle (reacted rules (built_rule (name_of s)) (text ∷ []) h) (put_in s text given) is_idle refl (shows-used s text (settled rules h).rows given shows none))
    joined-known name text s (Some before) already long found =
        let turn = turn-joined waiting h word name text s apart long found in
        let again = use-twice (name_of s) text (settled rules h).rows (has-given (settled rules h).rows given s shows ∙ ap is_some already) in
        stops _ word words (has-fault _ ArgumentConflict (turn.faults_are ∙ ap₂ or_else fine again))

    joined-next : (name text : Text) (found : Option Slot) → slot_named name ≡ found → long_of word ≡ Some (name, Some text)
        → AgreesFrom (at waiting h) (word ∷ words) (option_map rested (with_option name text given) >>= (λ (r : Reading). given_from r words))
    joined-next name text None is long =
        subst (λ (o : Option Given). AgreesFrom (at waiting h) (word ∷ words) (option_map rested o >>= (λ (r : Reading). given_from r words))) (sym (unknown-with name text given is))
        (stops _ word words (has-fault _ UnknownArgument (turn-unknown waiting h word name (Some text) apart long (by_long name ∙ ap (option_map (λ (s : Slot). built_rule (name_of s))) is))))
    joined-next name text (Some s) is long =
        subst (λ (o : Option Given). AgreesFrom (at waiting h) (word ∷ words) (option_map rested o >>= (λ (r : Reading). given_from r words))) (sym (known-with name text given s is))
        (joined-known name text s (text_in s given) refl long (by_long name ∙ ap (option_map (λ (x : Slot). built_rule (name_of x))) is))

    free-next : (form : Form) → IsRead word form → AgreesFrom (at waiting h) (word ∷ words) (read_form None given word form >>= (λ (r : Reading). given_from r words))
    free-next plain read = value-next read
    free-next (named name) read = named-next name (slot_named name) refl read
    free-next (joined name text) read = joined-next name text (slot_named name) refl read
    free-next single_hyphen read = absurd read

  -- and where one does
  module _ (s : Slot) (h : Held) (given : Given) (waits : h.pending ≡ Some (name_of s, [])) (shows : Shows h.rows given) (apart : bytes_eq word dashes ≡ false) where
    text-next : (already : Option Text) → text_in s given ≡ already → (long_of word ≡ None) × (short_of word ≡ None)
        → AgreesFrom (at (option (name_of s)) h) (word ∷ words) (option_map rested (once already (put_in s word given)) >>= (λ (r : Reading). given_from r words))
    text-next None none read =
        let now : Held = record h { pending = Some (name_of s, word ∷ []) } in
        let new = use-once (name_of s) word h.rows (has-given h.rows given s shows ∙ ap is_some none) in
        onward _ _ word words _ (turn-text s h word waits apart read)
        (rest.free idle now (put_in s word given) is_idle (pending-fault s now (word ∷ []) refl ∙ new)
        (subst (λ (r : List Row). Shows r (put_in s word given)) (sym (pending-rows s now (word ∷ []) refl)) (shows-used s word h.rows given shows none)))
    text-next (Some before) already read =
        let now : Held = record h { pending = Some (name_of s, word ∷ []) } in
        let again = use-twice (name_of s) word h.rows (has-given h.rows given s shows ∙ ap is_some already) in
        onward _ _ word words None (turn-text s h word waits apart read)
        (doomed words now fits (has-fault (settle_fault rules false now) ArgumentConflict (pending-fault s now (word ∷ []) refl ∙ again)))

    no-text : (name : Text) (joined_text : Option Text) (found : Option Slot) → slot_named name ≡ found → long_of word ≡ Some (name, joined_text)
        → AgreesFrom (at (option (name_of s)) h) (word ∷ words) None
    no-text name text None is long =
        stops _ word words (has-fault _ UnknownArgument (turn-unknown (option (name_of s)) h word name text apart long (by_long name ∙ ap (option_map (λ (x : Slot). built_rule (name_of x))) is)))
    no-text name None (Some other) is long =
        let turn = turn-named (option (name_of s)) h word name other apart long (by_long name ∙ ap (option_map (λ (x : Slot). built_rule (name_of x))) is) in
        stops _ word words (λ none. waits-faulty s h waits (sym turn.faults_are ∙ none))
    no-text name (Some text) (Some other) is long =
        let turn = turn-joined (option (name_of s)) h word name text other apart long (by_long name ∙ ap (option_map (λ (x : Slot). built_rule (name_of x))) is) in
        stops _ word words (λ none. waits-faulty s h waits (first-none _ _ (sym turn.faults_are ∙ none)))

    waits-next : (form : Form) → IsRead word form
        → AgreesFrom (at (option (name_of s)) h) (word ∷ words) (read_form (Some (name_of s)) given word form >>= (λ (r : Reading). given_from r words))
    waits-next plain read =
        subst (λ (o : Option Given). AgreesFrom (at (option (name_of s)) h) (word ∷ words) (option_map rested o >>= (λ (r : Reading). given_from r words)))
        (sym (known-with (name_of s) word given s (named_own s))) (text-next (text_in s given) refl read)
    waits-next (named name) read = no-text name None (slot_named name) refl read
    waits-next (joined name text) read = no-text name (Some text) (slot_named name) refl read
    waits-next single_hyphen read = absurd read

law-onward : (word : Text) (words : List Text) → is_stray word ≡ false → list_any is_stray words ≡ false → Law words → Law (word ∷ words)
law-onward word words here fits rest =
    let v = seen word here in
    record {
      free = λ waiting h given free fine shows.
          subst (AgreesFrom (at waiting h) (word ∷ words)) (sym (given-then (rested given) word words v.0 v.1.is))
          (free-next word words fits rest waiting h given free fine shows v.1.no_dashes v.0 v.1.read);
      waits = λ s h given waits shows.
          subst (AgreesFrom (at (option (name_of s)) h) (word ∷ words)) (sym (given-then (record { given = given; waits = Some (name_of s) }) word words v.0 v.1.is))
          (waits-next word words fits rest s h given waits shows v.1.no_dashes v.0 v.1.read);
    }

law : (words : List Text) → list_any is_stray words ≡ false → Law words
law [] fits = law-at-end
law (word ∷ words) fits =
    let both = neither (is_stray word) (list_any is_stray words) fits in
    law-onward word words both.0 both.1 (law words both.1)

-- ---- the parser's own words for it

or-true : (a b : Bool) → b ≡ true → (a || b) ≡ true
or-true true b e = refl
or-true false b e = e

both-hold : (a b : Bool) → (a && b) ≡ true → (a ≡ true) × (b ≡ true)
both-hold true b e = (refl, e)
both-hold false b e = absurd (let bad : ⊥ = cc in bad)

-- where no argument has a default, none fails, and none adds a row
without-defaults : (rows : List Row) (c : List Rule) → list_all (λ (a : Rule). is_empty a.defaults) c ≡ true → defaults_fault rows c ≡ []
unfolding defaults_fault
without-defaults rows [] none = refl
without-defaults rows (a ∷ rest) none =
    let parts = both-hold (is_empty a.defaults) (list_all (λ (x : Rule). is_empty x.defaults) rest) none in
    ap₂ or_else (ap (λ (b : Bool). cond b [] (given_default_fault a a.defaults)) (or-true (has_row a.id rows) (is_empty a.defaults) parts.0))
    (without-defaults (with_default rows a) rest parts.1)

no-default : (rows : List Row) (id : Text) (how : Reads) (defaults : List Text) → is_empty defaults ≡ true → cond (has_row id rows) rows (default_rows id how defaults rows) ≡ rows
no-default rows id how [] none = go (has_row id rows)
  where
    go : (b : Bool) → cond b rows rows ≡ rows
    go true = refl
    go false = refl
no-default rows id how (v ∷ vs) none = absurd (let bad : ⊥ = grind (arith, nat_tests) in bad)

rows-kept : (rows : List Row) (c : List Rule) → list_all (λ (a : Rule). is_empty a.defaults) c ≡ true → fold with_default rows c ≡ rows
rows-kept rows [] none = refl
rows-kept rows (a ∷ rest) none =
    let parts = both-hold (is_empty a.defaults) (list_all (λ (x : Rule). is_empty x.defaults) rest) none in
    ap (λ (r : List Row). fold with_default r rest) (no-default rows a.id (reading_by a) a.defaults parts.0) ∙ rows-kept rows rest parts.1

nothing-in : (s : Slot) → text_in s nothing_given ≡ None
nothing-in workers = refl
nothing-in channel = refl
nothing-in credits = refl
nothing-in send_size = refl
nothing-in pages = refl
nothing-in cut = refl

faults-are : (words : List Text) → fault_of parser_app words ≡ faults_from (at idle nothing_held) words
faults-are words =
    let end : Held = (fold (walked rules []) (at idle nothing_held) words).held in
    leaf_fault (built parser_app) nothing_held words refl
    ∙ ap (λ (s : Shape). level_fault s [] nothing_held words false []) shape-is
    ∙ ap (λ (k : Kinds). or_else (walk_fault shape [] (at idle nothing_held) words) (or_else (settle_fault rules false end) k))
    (ap₂ or_else (without-defaults (settled rules end).rows rules no_defaults) (none_required (finished rules end)))
    ∙ ap (or_else (walk_fault shape [] (at idle nothing_held) words)) (or-nothing (settle_fault rules false end))

rows-are : (words : List Text) → matches_of parser_app words ≡ rows_from (at idle nothing_held) words
rows-are words =
    ap (λ (s : Shape). rows_after s.rules [] words) shape-is
    ∙ rows-kept (settled rules (fold (walked rules []) (at idle nothing_held) words).held).rows rules no_defaults

pub agrees : (words : List Text) → list_any is_stray words ≡ false → Agree (fault_of parser_app words) (matches_of parser_app words) (given_of words)
unfolding given_of
agrees words fits =
    let from-start = (law words fits).free idle nothing_held nothing_given is_idle refl (shows-nothing nothing_given nothing-in refl) in
    subst (λ (r : List Row). Agree (fault_of parser_app words) r (given_of words)) (sym (rows-are words))
    (subst (λ (k : Kinds). Agree k (rows_from (at idle nothing_held) words) (given_of words)) (sym (faults-are words)) from-start)
