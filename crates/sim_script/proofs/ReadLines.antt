-- What reads as a line is its written form.
use Rattle.std.proofs.Common.{◌≡◌, ℕ, Bool, true, false, cond, List, [], ◌∷◌, Option, Some, None, decimal, refl, sym, ap, ◌∙◌, subst}
use Rattle.std.specs.Prelude.{codes, bytes_eq, IfSome}
use Rattle.std.specs.List.{join_with_byte}
use Rattle.std.proofs.lemmas.List.Splits.{join_with_byte-slice_split}
use Rattle.std.proofs.lemmas.Slice.Eq.{bytes_eq-Decides}
use Rattle.smbd_base.specs.declared.limits.TheConstants.{MOST_FRAGMENTED_SIZE}
use Rattle.smbd_base.specs.declared.end_id.EndId.{EndId}
use Rattle.smbd_base.specs.declared.end_id.EndId.TheVariants.{Client, Server}
use Rattle.event_log.specs.Lines.{IsBetween}
use Rattle.event_log.specs.Reading.{parts_of, number_in, next_number, ◌>>=◌}
use Rattle.event_log.proofs.NextParts.{stepped, same_some, IsNumberPart, number_part, then_parts}
use Rattle.sim_script.specs.declared.script_line.ScriptLine.{ScriptLine}
use Rattle.sim_script.specs.declared.script_line.ScriptLine.TheVariants.{Submit, Drive, Carry, Cut}
use Rattle.sim_script.specs.declared.word.Word.{Word}
use Rattle.sim_script.specs.declared.word.Word.TheVariants as words
use Rattle.sim_script.specs.Scripts.{end_text, words_of, line_text, IsLawfulLine, word_named, end_named, next_end, line_at_end, submit_of, line_of_word, line_of_parts, script_line}

end_is : (name : List ℕ) (end : EndId) → end_named name ≡ Some end → name ≡ end_text end
unfolding end_named
end_is name end h = pick (bytes_eq name (codes "C")) (bytes_eq name (codes "S")) (bytes_eq-Decides name (codes "C")).0 (bytes_eq-Decides name (codes "S")).0 h
  where
    pick : (a b : Bool) → (a ≡ true → name ≡ codes "C") → (b ≡ true → name ≡ codes "S")
        → cond a (Some Client) (cond b (Some Server) None) ≡ Some end → name ≡ end_text end
    pick true b f p e = f refl ∙ ap end_text (same_some Client end e)
    pick false true f p e = p refl ∙ ap end_text (same_some Server end e)
    pick false false f p e = cc

end_part : (parts : List (List ℕ)) (x : EndId × List (List ℕ)) → next_end parts ≡ Some x → parts ≡ end_text x.0 ∷ x.1
end_part [] x h = absurd (let b : ⊥ = cc in b)
end_part (part ∷ parts) x h =
    let s = stepped (end_named part) _ x h in
    let pair : (s.0, parts) ≡ x = same_some _ _ s.2 in
    let value : s.0 ≡ x.0 = ap (λ (p : EndId × List (List ℕ)). p.0) pair in
    let rest : parts ≡ x.1 = ap (λ (p : EndId × List (List ℕ)). p.1) pair in
    ap (λ (p : List ℕ). p ∷ parts) (end_is part x.0 (s.1 ∙ ap Some value)) ∙ ap (λ (ps : List (List ℕ)). end_text x.0 ∷ ps) rest

no_part : (line whole : ScriptLine) (parts : List (List ℕ)) → line_at_end line parts ≡ Some whole → (parts ≡ []) × (line ≡ whole)
no_part line whole [] h = (refl, cc)
no_part line whole (part ∷ parts) h = cc

-- ---- the parts after each word and its end

-- a line that was read from these parts after this word and this end
record IsReadAs (name : List ℕ) (end : EndId) (parts : List (List ℕ)) (line : ScriptLine) : Type 0 where
  lawful : IsLawfulLine line
  words_are : name ∷ end_text end ∷ parts ≡ words_of line

read_as : (name : List ℕ) (end : EndId) (parts more : List (List ℕ)) (line whole : ScriptLine) → line ≡ whole → IsLawfulLine line
    → name ∷ end_text end ∷ more ≡ words_of line → parts ≡ more → IsReadAs name end parts whole
read_as name end parts more line whole same lawful is rest =
    let P : ScriptLine → Type 0 = λ l. IsReadAs name end parts l in
    subst P same (record { lawful = lawful; words_are = ap (λ (ps : List (List ℕ)). name ∷ end_text end ∷ ps) rest ∙ is })

submit_read : (end : EndId) (parts : List (List ℕ)) (line : ScriptLine) → submit_of end parts ≡ Some line → IsReadAs (codes "submit") end parts line
unfolding submit_of
submit_read end parts line h =
    let a = stepped (next_number 1 MOST_FRAGMENTED_SIZE parts) _ line h in
    let b = stepped (next_number 0 255 a.0.1) _ line a.2 in
    let n = number_part 1 MOST_FRAGMENTED_SIZE parts a.0 a.1 in
    let m = number_part 0 255 a.0.1 b.0 b.1 in
    let f = no_part (Submit end a.0.0 b.0.0) line b.0.1 b.2 in
    read_as (codes "submit") end parts (decimal a.0.0 ∷ decimal b.0.0 ∷ []) (Submit end a.0.0 b.0.0) line f.1 (n.fits, m.fits) refl
    (then_parts _ parts a.0.1 _ n.part (then_parts _ a.0.1 b.0.1 [] m.part f.0))

drive_read : (end : EndId) (parts : List (List ℕ)) (line : ScriptLine) → line_at_end (Drive end) parts ≡ Some line → IsReadAs (codes "drive") end parts line
drive_read end parts line h = let f = no_part (Drive end) line parts h in read_as (codes "drive") end parts [] (Drive end) line f.1 tt refl f.0

carry_read : (end : EndId) (parts : List (List ℕ)) (line : ScriptLine) → line_at_end (Carry end) parts ≡ Some line → IsReadAs (codes "carry") end parts line
carry_read end parts line h = let f = no_part (Carry end) line parts h in read_as (codes "carry") end parts [] (Carry end) line f.1 tt refl f.0

cut_read : (end : EndId) (parts : List (List ℕ)) (line : ScriptLine) → line_at_end (Cut end) parts ≡ Some line → IsReadAs (codes "cut") end parts line
cut_read end parts line h = let f = no_part (Cut end) line parts h in read_as (codes "cut") end parts [] (Cut end) line f.1 tt refl f.0

-- the line of a word and an end
word_line : (name : List ℕ) (word : Word) (end : EndId) (parts : List (List ℕ)) (line : ScriptLine) → word_named name ≡ Some word
    → line_of_word word end parts ≡ Some line → IsReadAs name end parts line
unfolding word_named
word_line name word end parts line h k =
    pick (bytes_eq name (codes "submit")) (bytes_eq name (codes "drive")) (bytes_eq name (codes "carry")) (bytes_eq name (codes "cut"))
    (bytes_eq-Decides name (codes "submit")).0 (bytes_eq-Decides name (codes "drive")).0 (bytes_eq-Decides name (codes "carry")).0
    (bytes_eq-Decides name (codes "cut")).0 h
  where
    at : (text : List ℕ) → name ≡ text → IsReadAs text end parts line → IsReadAs name end parts line
    at text e r = subst (λ (t : List ℕ). IsReadAs t end parts line) (sym e) r

    reads : (w : Word) → w ≡ word → line_of_word w end parts ≡ Some line
    reads w e = ap (λ (v : Word). line_of_word v end parts) e ∙ k

    pick : (s d r c : Bool) → (s ≡ true → name ≡ codes "submit") → (d ≡ true → name ≡ codes "drive") → (r ≡ true → name ≡ codes "carry")
        → (c ≡ true → name ≡ codes "cut")
        → cond s (Some words.Submit) (cond d (Some words.Drive) (cond r (Some words.Carry) (cond c (Some words.Cut) None))) ≡ Some word
        → IsReadAs name end parts line
    pick true d r c is id ir ic w = at (codes "submit") (is refl) (submit_read end parts line (reads words.Submit (same_some words.Submit word w)))
    pick false true r c is id ir ic w = at (codes "drive") (id refl) (drive_read end parts line (reads words.Drive (same_some words.Drive word w)))
    pick false false true c is id ir ic w = at (codes "carry") (ir refl) (carry_read end parts line (reads words.Carry (same_some words.Carry word w)))
    pick false false false true is id ir ic w = at (codes "cut") (ic refl) (cut_read end parts line (reads words.Cut (same_some words.Cut word w)))
    pick false false false false is id ir ic w = absurd (let b : ⊥ = cc in b)

-- ---- the whole line

record ArePartsOf (line : ScriptLine) (parts : List (List ℕ)) : Type 0 where
  lawful : IsLawfulLine line
  all : parts ≡ words_of line

all_parts : (parts : List (List ℕ)) (line : ScriptLine) → line_of_parts parts ≡ Some line → ArePartsOf line parts
all_parts [] line h = absurd (let b : ⊥ = cc in b)
all_parts (name ∷ parts) line h =
    let w = stepped (word_named name) _ line h in
    let e = stepped (next_end parts) _ line w.2 in
    let r = word_line name w.0 e.0.0 e.0.1 line w.1 e.2 in
    record { lawful = r.lawful; all = ap (λ (ps : List (List ℕ)). name ∷ ps) (end_part parts e.0 e.1) ∙ r.words_are }

pub only_written : (bytes : List ℕ) (line : ScriptLine) → script_line bytes ≡ Some line → IsLawfulLine line × (bytes ≡ line_text line)
unfolding script_line
only_written bytes line h =
    let p = all_parts (parts_of bytes) line h in
    (p.lawful, sym (join_with_byte-slice_split 32 bytes) ∙ ap (join_with_byte 32) p.all)

-- what was read is the written form of a line
pub written_of : (read : Option ScriptLine) (bytes : List ℕ) → read ≡ script_line bytes
    → IfSome read (λ (line : ScriptLine). IsLawfulLine line × (bytes ≡ line_text line))
written_of (Some line) bytes h = only_written bytes line (sym h)
written_of None bytes h = tt
