-- The lines of a script, one after another.
use Rattle.std.proofs.Common.{◌≡◌, Option, ◌≢◌, ℕ, ◌+◌, ◌%◌, ◌<◌, ◌≤◌, cond, fold, length, List, [], ◌∷◌, ◌++◌, map, Some, None, refl, sym, ap, ◌∙◌, arith}
use Rattle.std.specs.Prelude.{All, is_some}
use Rattle.std.proofs.lemmas.List.Elements.{All-nil, All-cons, All-head, All-tail}
use Rattle.std.proofs.lemmas.List.FromFn.{map-range_with_len_more}
use Rattle.event_log.specs.Lines.{lines_text}
use Rattle.world_core.specs.declared.choice.Choice.{Choice}
use Rattle.world_core.specs.Run.{State, step_of}
use Rattle.sim_script.specs.declared.script_line.ScriptLine.{ScriptLine}
use Rattle.sim_script.specs.declared.fault.ScriptFault.TheVariants.{NoMemory}
use Rattle.sim_script.specs.Scripts.{lines_in, IsLawfulLine, line_text, script_line, bad_line_from, first_bad_line, counted_bytes, choice_of, choices_in, script_of, IsScriptFault}
use Rattle.sim_script.proofs.LineLemmas.{lines_in-ended}
use Rattle.sim_script.proofs.WrittenLines.{read_back, no_feed_in}

-- what a good line adds, and a bad one
pub bad_line-good : (number : ℕ) (line : List ℕ) (lines : List (List ℕ)) (said : ScriptLine) → script_line line ≡ Some said
    → bad_line_from number (line ∷ lines) ≡ bad_line_from (number + 1) lines
bad_line-good number line lines said h = rw h refl

pub bad_line-bad : (number : ℕ) (line : List ℕ) (lines : List (List ℕ)) → script_line line ≡ None
    → bad_line_from number (line ∷ lines) ≡ Some number
bad_line-bad number line lines h = rw h refl

pub choices-good : (line : List ℕ) (lines : List (List ℕ)) (said : ScriptLine) → script_line line ≡ Some said
    → choices_in (line ∷ lines) ≡ choice_of said ∷ choices_in lines
choices-good line lines said h = rw h refl

pub choices-bad : (line : List ℕ) (lines : List (List ℕ)) → script_line line ≡ None → choices_in (line ∷ lines) ≡ choices_in lines
choices-bad line lines h = rw h refl

-- the run goes on by one choice
pub one_turn : (world next : State) (rest after line : List ℕ) (said : ScriptLine) → lines_in rest ≡ line ∷ lines_in after → Some said ≡ script_line line
    → next ≡ step_of world (choice_of said) → fold step_of next (choices_in (lines_in after)) ≡ fold step_of world (choices_in (lines_in rest))
one_turn world next rest after line said all good is =
    ap (λ (w : State). fold step_of w (choices_in (lines_in after))) is
    ∙ sym (ap (λ (cs : List Choice). fold step_of world cs) (ap choices_in all ∙ choices-good line (lines_in after) said (sym good)))

pub no_turn : (world : State) (rest after line : List ℕ) → lines_in rest ≡ line ∷ lines_in after → None ≡ script_line line
    → fold step_of world (choices_in (lines_in after)) ≡ fold step_of world (choices_in (lines_in rest))
no_turn world rest after line all bad = sym (ap (λ (cs : List Choice). fold step_of world cs) (ap choices_in all ∙ choices-bad line (lines_in after) (sym bad)))

-- a line makes one choice at most
few_choices : (line : List ℕ) (lines : List (List ℕ)) → length (choices_in (line ∷ lines)) ≤ length (choices_in lines) + 1
few_choices line lines = pick (script_line line) refl where
  pick : (o : Option ScriptLine) → script_line line ≡ o → length (choices_in (line ∷ lines)) ≤ length (choices_in lines) + 1
  pick None e = omega (arith, ap length (choices-bad line lines e))
  pick (Some said) e = omega (arith, ap length (choices-good line lines said e))

pub few_left : (text rest after line : List ℕ) → lines_in rest ≡ line ∷ lines_in after → length after < length rest
    → length (script_of text) + length rest ≤ length text + length (choices_in (lines_in rest))
    → length (script_of text) + length after ≤ length text + length (choices_in (lines_in after))
few_left text rest after line all shorter few =
    omega (arith, shorter, few, ap (λ (ls : List (List ℕ)). length (choices_in ls)) all, few_choices line (lines_in after))

-- bad lines are counted from this number on
bad_line-least : (number found : ℕ) (lines : List (List ℕ)) → bad_line_from number lines ≡ Some found → number ≤ found
bad_line-least number found [] h = absurd (let b : ⊥ = cc in b)
bad_line-least number found (line ∷ lines) h = pick (script_line line) (bad_line-least (number + 1) found lines) h
  where
    same : (m n : ℕ) → ◌≡◌ {A = Option ℕ} (Some m) (Some n) → m ≡ n
    same m n e = cc

    pick : (o : Option ScriptLine) → (bad_line_from (number + 1) lines ≡ Some found → number + 1 ≤ found)
        → cond (is_some o) (bad_line_from (number + 1) lines) (Some number) ≡ Some found → number ≤ found
    pick None later e = let is = same number found e in omega (arith, is)
    pick (Some said) later e = let more = later e in omega (arith, more)

-- past a good first line memory may be wanting
pub past_good_line : (text rest after line : List ℕ) (number : ℕ) (said : ScriptLine) → first_bad_line text ≡ bad_line_from (number + 1) (lines_in rest)
    → lines_in rest ≡ line ∷ lines_in after → Some said ≡ script_line line → length after < length rest → number + length rest ≤ length text
    → IsScriptFault NoMemory text
past_good_line text rest after line number said bad all good shorter fits =
    let later : first_bad_line text ≡ bad_line_from (number + 1 + 1) (lines_in after) =
    bad ∙ ap (bad_line_from (number + 1)) all ∙ bad_line-good (number + 1) line (lines_in after) said (sym good) in
    (omega (arith, shorter, fits), λ first. let least = bad_line-least (number + 1 + 1) 1 (lines_in after) (sym later ∙ first) in omega (arith, least))

-- one byte more
pub counted_more : (first i byte : ℕ) (old new : List ℕ) → old ≡ counted_bytes i first → byte ≡ (first + i) % 256 → new ≡ old ++ byte ∷ []
    → new ≡ counted_bytes (i + 1) first
counted_more first i byte old new h is more =
    more ∙ ap (λ (bs : List ℕ). bs ++ byte ∷ []) h ∙ ap (λ (b : ℕ). counted_bytes i first ++ b ∷ []) is
    ∙ sym (map-range_with_len_more (λ (j : ℕ). (first + j) % 256) 0 i i (omega arith))

-- ---- scripts of written lines

all_written : (lines : List ScriptLine) → All IsLawfulLine lines → All (λ (line : List ℕ). All (λ (b : ℕ). b ≢ 10) line) (map line_text lines)
all_written [] h = All-nil (λ (line : List ℕ). All (λ (b : ℕ). b ≢ 10) line)
all_written (line ∷ lines) h =
    All-cons (λ (l : List ℕ). All (λ (b : ℕ). b ≢ 10) l) (line_text line) (map line_text lines) (no_feed_in line (All-head IsLawfulLine line lines h))
    (all_written lines (All-tail IsLawfulLine line lines h))

none_bad : (number : ℕ) (lines : List ScriptLine) → All IsLawfulLine lines → bad_line_from number (map line_text lines) ≡ None
none_bad number [] h = refl
none_bad number (line ∷ lines) h =
    bad_line-good number (line_text line) (map line_text lines) line (read_back line (All-head IsLawfulLine line lines h))
    ∙ none_bad (number + 1) lines (All-tail IsLawfulLine line lines h)

all_choices : (lines : List ScriptLine) → All IsLawfulLine lines → choices_in (map line_text lines) ≡ map choice_of lines
all_choices [] h = refl
all_choices (line ∷ lines) h =
    choices-good (line_text line) (map line_text lines) line (read_back line (All-head IsLawfulLine line lines h))
    ∙ ap (λ (cs : List Choice). choice_of line ∷ cs) (all_choices lines (All-tail IsLawfulLine line lines h))

pub good_script : (lines : List ScriptLine) → All IsLawfulLine lines → first_bad_line (lines_text (map line_text lines)) ≡ None
good_script lines h = ap (bad_line_from 1) (lines_in-ended (map line_text lines) (all_written lines h)) ∙ none_bad 1 lines h

pub script_choices : (lines : List ScriptLine) → All IsLawfulLine lines → script_of (lines_text (map line_text lines)) ≡ map choice_of lines
script_choices lines h = ap choices_in (lines_in-ended (map line_text lines) (all_written lines h)) ∙ all_choices lines h
