-- What the parser makes of one more word.
use Rattle.std.proofs.Common.{◌≡◌, ◌∙◌, ℕ, ◌==◌, ◌&&◌, Bool, true, false, cond, Option, Some, None, List, [], ◌∷◌, ◌++◌, codes, length, take, refl, ap, ap₂, arith}
use Rattle.std.specs.Prelude.{bytes_eq, nat_lt}
use Rattle.std.proofs.Math.Seq.{take-length}
use Rattle.std.specs.List.{list_any, before_first, after_first, position_or_len}
use Rattle.std.specs.Option.{option_map_or}
use Rattle.clap.specs.Lexer.{long_of, short_of}
use Rattle.clap.specs.Kinds.{Kinds, or_else}
use Rattle.clap.specs.declared.error.kind.ErrorKind.TheVariants.{UnknownArgument}
use Rattle.clap.specs.Walk.{Held, Rule, Step, Waiting, idle, option, positional, trailing, value, Walk, after_flag, after_step, arg_by_index, arg_by_long, long_met, is_pending, long_or_other, option_word, pending_count, plain_word, pushed, started, reacted, settled, short_or_plain, subcommand_met, subcommand_or_other, to_positional, walked, word_met}
use Rattle.clap.specs.Faults.{bundle_fault, flag_word_fault, long_fault, other_fault, positional_fault, stray_fault, settle_fault, step_fault, turn_fault, use_fault}
use Rattle.command_words.specs.Given.{Text, Form, named, joined, plain, single_hyphen, is_equals_sign, form_of, is_stray}
use Rattle.command_words.proofs.Slots.{Slot, name_of, rules, shape, built_rule, built_values, by_id, by_index}
use Rattle.command_words.proofs.Rows.{itself}

-- ---- what a word looks like

no-sign : (rest : Text) → list_any is_equals_sign rest ≡ false → position_or_len is_equals_sign rest ≡ length rest
no-sign [] none = refl
no-sign (b ∷ bs) none = go (b == 61) refl (no-sign bs)
  where
    go : (t : Bool) → (b == 61) ≡ t → (list_any is_equals_sign bs ≡ false → position_or_len is_equals_sign bs ≡ length bs)
        → position_or_len is_equals_sign (b ∷ bs) ≡ length (b ∷ bs)
    go true e rest = let bad : true ≡ false = rw e at none in cc
    go false e rest = let left : list_any is_equals_sign bs ≡ false = rw e at none in let more = rest left in rw e (omega arith)

before-none : (rest : Text) → list_any is_equals_sign rest ≡ false → before_first is_equals_sign rest ≡ rest
before-none rest none = ap (λ (n : ℕ). take n rest) (no-sign rest none) ∙ take-length rest

-- what the parser takes a word of this form for
abbrev pub IsRead : Text → Form → Type 0
IsRead word plain = (long_of word ≡ None) × (short_of word ≡ None)
IsRead word (named name) = long_of word ≡ Some (name, None)
IsRead word (joined name text) = long_of word ≡ Some (name, Some text)
IsRead word single_hyphen = ⊥

abbrev pub dashes : Text
dashes = 45 ∷ 45 ∷ []

pub record IsWord (word : Text) (form : Form) : Type 0 where
  pub is : form_of word ≡ form
  pub read : IsRead word form
  pub no_dashes : bytes_eq word dashes ≡ false

pub seen : (word : Text) → is_stray word ≡ false → (form : Form) × IsWord word form
seen [] fits = (plain, record { is = refl; read = (refl, refl); no_dashes = refl })
seen (b ∷ []) fits = go (b == 45) refl
  where
    go : (t : Bool) → (b == 45) ≡ t → (form : Form) × IsWord (b ∷ []) form
    go false e = (plain, record { is = rw e refl; read = (rw e refl, rw e refl); no_dashes = rw e refl })
    go true e = let bad : true ≡ false = rw e at fits in absurd (let b : ⊥ = cc in b)
seen (b ∷ c ∷ []) fits = go (b == 45) (c == 45) refl refl
  where
    go : (t u : Bool) → (b == 45) ≡ t → (c == 45) ≡ u → (form : Form) × IsWord (b ∷ c ∷ []) form
    go false u e f = (plain, record { is = rw e refl; read = (rw e refl, rw e refl); no_dashes = rw e refl })
    go true false e f = let bad : true ≡ false = rw (e, f) at fits in absurd (let b : ⊥ = cc in b)
    go true true e f = let bad : true ≡ false = rw (e, f) at fits in absurd (let b : ⊥ = cc in b)
seen (b ∷ c ∷ d ∷ rest) fits = go (b == 45) (c == 45) (list_any is_equals_sign (d ∷ rest)) refl refl refl
  where
    go : (t u v : Bool) → (b == 45) ≡ t → (c == 45) ≡ u → list_any is_equals_sign (d ∷ rest) ≡ v → (form : Form) × IsWord (b ∷ c ∷ d ∷ rest) form
    go false u v e f g = (plain, record { is = rw e refl; read = (rw e refl, rw e refl); no_dashes = rw e refl })
    go true false v e f g = let bad : true ≡ false = rw (e, f) at fits in absurd (let b : ⊥ = cc in b)
    go true true true e f g = (
      joined (before_first is_equals_sign (d ∷ rest)) (after_first is_equals_sign (d ∷ rest)),
      record {
        is = rw (e, f, g) refl;
        read = rw (e, f, g) refl;
        no_dashes = rw (e, f) refl;
      },
    )
    go true true false e f g = (
      named (d ∷ rest),
      record {
        is = rw (e, f, g) refl;
        read = rw (e, f, g) (ap (λ (t : Text). Some (t, None)) (before-none (d ∷ rest) g));
        no_dashes = rw (e, f) refl;
      },
    )

-- ---- the turn of a word

-- the parser stands between two words
abbrev pub at : Waiting → Held → Walk
at waiting held = record { held = held; waiting = waiting; position = 1; is_trailing = false; stopped = None }

-- the faults of a word, and where the parser stands after it
pub record Turn (from : Walk) (word : Text) (faults : Kinds) (to : Walk) : Type 0 where
  pub faults_are : turn_fault shape [] from word ≡ faults
  pub leads : walked rules [] from word ≡ to

no-subcommand : (waiting : Waiting) (word : Text) → subcommand_met [] waiting word ≡ None
no-subcommand idle word = refl
no-subcommand (option name) word = refl
no-subcommand positional word = refl

nothing-more : (faults : Kinds) → or_else faults [] ≡ faults
nothing-more [] = refl
nothing-more (k ∷ ks) = refl

-- what is met, by what the word looks like
abbrev meets : Waiting → Held → Text → Option (Text × Option Text) → Held × Step
meets waiting h word long = long_or_other rules waiting word long h

met : (waiting : Waiting) (h : Held) (word : Text) → bytes_eq word dashes ≡ false → word_met rules [] false waiting 1 word h ≡ meets waiting h word (long_of word)
met waiting h word apart = ap (λ (o : Option Text). subcommand_or_other rules o waiting 1 word h) (no-subcommand waiting word)
    ∙ ap (λ (b : Bool). cond b (h, trailing 1) (meets waiting h word (long_of word))) apart

turn-so : (waiting : Waiting) (h : Held) (word : Text) (long : Option (Text × Option Text)) → bytes_eq word dashes ≡ false → long_of word ≡ long
    → Turn (at waiting h) word (or_else (flag_word_fault rules false long word h) (step_fault shape 1 (meets waiting h word long).0 (meets waiting h word long).1))
    (after_step rules word (at waiting h) (meets waiting h word long).0 (meets waiting h word long).1)
unfolding walked
turn-so waiting h word long apart is =
    let m = met waiting h word apart ∙ ap (meets waiting h word) is in
    record {
      faults_are = ap₂ or_else (ap (λ (o : Option Text). other_fault shape o word h) (no-subcommand waiting word)
          ∙ ap (λ (b : Bool). cond b [] (flag_word_fault rules false (long_of word) word h)) apart ∙ ap (λ (l : Option (Text × Option Text)). flag_word_fault rules false l word h) is)
          (ap (λ (p : Held × Step). step_fault shape 1 p.0 p.1) m);
      leads = ap (λ (p : Held × Step). after_step rules word (at waiting h) p.0 p.1) m;
    }

turn-as : (from : Walk) (word : Text) (faults other : Kinds) (to onto : Walk) → Turn from word faults to → faults ≡ other → to ≡ onto → Turn from word other onto
turn-as from word faults other to onto t f n = record { faults_are = t.faults_are ∙ f; leads = t.leads ∙ n }

-- an option alone: what was pending is used, and the option waits
pub turn-named : (waiting : Waiting) (h : Held) (word name : Text) (s : Slot) → bytes_eq word dashes ≡ false → long_of word ≡ Some (name, None)
    → arg_by_long rules name ≡ Some (built_rule (name_of s))
    → Turn (at waiting h) word (settle_fault rules false h) (at (option (name_of s)) (record (settled rules h) { pending = Some (name_of s, []) }))
turn-named waiting h word name s apart is found =
    let made : (o : Option Rule) → Held × Step = λ o. after_flag rules waiting word (long_met rules o None h).0 (long_met rules o None h).1 in
    turn-as _ _ _ _ _ _ (turn-so waiting h word (Some (name, None)) apart is)
    (ap (λ (o : Option Rule). or_else (long_fault rules false o None h) (step_fault shape 1 (made o).0 (made o).1)) found ∙ nothing-more (settle_fault rules false h))
    (ap (λ (o : Option Rule). after_step rules word (at waiting h) (made o).0 (made o).1) found)

-- an option with its text: what was pending is used, and then the option
pub turn-joined : (waiting : Waiting) (h : Held) (word name text : Text) (s : Slot) → bytes_eq word dashes ≡ false → long_of word ≡ Some (name, Some text)
    → arg_by_long rules name ≡ Some (built_rule (name_of s))
    → Turn (at waiting h) word (or_else (settle_fault rules false h) (use_fault false (built_rule (name_of s)) (text ∷ []) (settled rules h).rows))
    (at idle (reacted rules (built_rule (name_of s)) (text ∷ []) h))
turn-joined waiting h word name text s apart is found =
    let made : (o : Option Rule) → Held × Step = λ o. after_flag rules waiting word (long_met rules o (Some text) h).0 (long_met rules o (Some text) h).1 in
    turn-as _ _ _ _ _ _ (turn-so waiting h word (Some (name, Some text)) apart is)
    (ap (λ (o : Option Rule). or_else (long_fault rules false o (Some text) h) (step_fault shape 1 (made o).0 (made o).1)) found
    ∙ nothing-more (or_else (settle_fault rules false h) (use_fault false (built_rule (name_of s)) (text ∷ []) (settled rules h).rows)))
    (ap (λ (o : Option Rule). after_step rules word (at waiting h) (made o).0 (made o).1) found)

-- an option that there is not
pub turn-unknown : (waiting : Waiting) (h : Held) (word name : Text) (joined_text : Option Text) → bytes_eq word dashes ≡ false → long_of word ≡ Some (name, joined_text)
    → arg_by_long rules name ≡ None → turn_fault shape [] (at waiting h) word ≡ UnknownArgument ∷ []
turn-unknown waiting h word name text apart is none =
    (turn-so waiting h word (Some (name, text)) apart is).faults_are
    ∙ ap (λ (o : Option Rule). or_else (long_fault rules false o text h) (step_fault shape 1 (after_flag rules waiting word (long_met rules o text h).0 (long_met rules o text h).1).0
    (after_flag rules waiting word (long_met rules o text h).0 (long_met rules o text h).1).1)) none

and-false : (b : Bool) → (b && false) ≡ false
and-false true = refl
and-false false = refl

-- no option waits for a text
pub data IsFree : Waiting → Type 0 where
  is_idle : IsFree idle
  is_positional : IsFree positional

-- a word that is no option, where none waits: what was pending is used, and the word is pending
pub turn-value : (waiting : Waiting) (h : Held) (word : Text) → IsFree waiting → bytes_eq word dashes ≡ false → (long_of word ≡ None) × (short_of word ≡ None)
    → Turn (at waiting h) word (settle_fault rules false h) (at positional (record (settled rules h) { pending = Some (codes "values", word ∷ []) }))
turn-value waiting h word free apart (long, short) =
    turn-as _ _ _ _ _ _ (turn-so waiting h word None apart long) (faulty waiting free) (leading waiting free)
  where
    pends : Bool
    pends = is_pending built_values h.pending

    strays : step_fault shape 1 h value ≡ settle_fault rules false h
    strays = ap (λ (o : Option Rule). option_map_or (λ (a : Rule). positional_fault rules false a h) o (stray_fault shape)) by_index
        ∙ ap (λ (b : Bool). cond b [] (settle_fault rules false h)) (and-false pends)

    by-short : (w : Waiting) → or_else (flag_word_fault rules false None word h) (step_fault shape 1 (meets w h word None).0 (meets w h word None).1)
        ≡ step_fault shape 1 (plain_word rules w word h).0 (plain_word rules w word h).1
    by-short w = ap (λ (o : Option Text). or_else (option_map_or (λ (flags : Text). bundle_fault rules false flags h) o [])
        (step_fault shape 1 (short_or_plain rules w word o h).0 (short_or_plain rules w word o h).1)) short

    faulty : (w : Waiting) → IsFree w → or_else (flag_word_fault rules false None word h) (step_fault shape 1 (meets w h word None).0 (meets w h word None).1) ≡ settle_fault rules false h
    faulty idle is_idle = by-short idle ∙ strays
    faulty positional is_positional = by-short positional ∙ strays
    faulty (option name) f = elim f [ ]

    onto : Held → Walk
    onto held = at positional held

    pushes : (w : Waiting) → to_positional rules (arg_by_index rules 1) word (at w h) h ≡ at positional (record (settled rules h) { pending = Some (codes "values", word ∷ []) })
    pushes w = ap (λ (o : Option Rule). to_positional rules o word (at w h) h) by_index
        ∙ ap (λ (b : Bool). onto (pushed (codes "values") word (cond b h (settled rules h)))) (and-false pends)

    leading : (w : Waiting) → IsFree w → after_step rules word (at w h) (meets w h word None).0 (meets w h word None).1
        ≡ at positional (record (settled rules h) { pending = Some (codes "values", word ∷ []) })
    leading idle is_idle = ap (λ (o : Option Text). after_step rules word (at idle h) (short_or_plain rules idle word o h).0 (short_or_plain rules idle word o h).1) short ∙ pushes idle
    leading positional is_positional = ap (λ (o : Option Text). after_step rules word (at positional h) (short_or_plain rules positional word o h).0 (short_or_plain rules positional word o h).1) short ∙ pushes positional
    leading (option name) f = elim f [ ]

-- the text of an option that waits for it
pub turn-text : (s : Slot) (h : Held) (word : Text) → h.pending ≡ Some (name_of s, []) → bytes_eq word dashes ≡ false → (long_of word ≡ None) × (short_of word ≡ None)
    → Turn (at (option (name_of s)) h) word [] (at idle (record h { pending = Some (name_of s, word ∷ []) }))
turn-text s h word waits apart (long, short) = turn-as _ _ _ _ _ _ (turn-so (option (name_of s)) h word None apart long)
    (ap (λ (o : Option Text). or_else (option_map_or (λ (flags : Text). bundle_fault rules false flags h) o [])
    (step_fault shape 1 (short_or_plain rules (option (name_of s)) word o h).0 (short_or_plain rules (option (name_of s)) word o h).1)) short)
    (ap (λ (o : Option Text). after_step rules word (at (option (name_of s)) h) (short_or_plain rules (option (name_of s)) word o h).0 (short_or_plain rules (option (name_of s)) word o h).1) short
    ∙ ap (λ (o : Option Rule). at (option_word o (name_of s) word h).1 (option_word o (name_of s) word h).0) (by_id s)
    ∙ ap pending-so waits ∙ ap (λ (b : Bool). at (cond (nat_lt (cond b 1 0) 1) (option (name_of s)) idle) (record h { pending = Some (name_of s, word ∷ []) })) (itself (name_of s)))
  where
    pending-so : Option (Text × List Text) → Walk
    pending-so p =
        let more : Option (Text × List Text) = Some ((started (name_of s) p).0, (started (name_of s) p).1 ++ word ∷ []) in
        at (cond (nat_lt (pending_count (built_rule (name_of s)) more) 1) (option (name_of s)) idle) (record h { pending = more })
