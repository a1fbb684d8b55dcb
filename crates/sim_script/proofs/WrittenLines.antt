-- What is written reads back.
use Rattle.std.proofs.Common.{◌≡◌, ◌≢◌, ℕ, ◌^◌, ◌<◌, ◌≤◌, List, [], ◌∷◌, Option, Some, decimal, refl, sym, ap, ◌∙◌, arith}
use Rattle.std.specs.Prelude.{All, codes}
use Rattle.smbd_base.specs.declared.limits.TheConstants.{MOST_FRAGMENTED_SIZE}
use Rattle.smbd_base.specs.declared.end_id.EndId.{EndId}
use Rattle.smbd_base.specs.declared.end_id.EndId.TheVariants.{Client, Server}
use Rattle.event_log.specs.Lines.{IsBetween}
use Rattle.event_log.specs.Reading.{parts_of, number_in}
use Rattle.event_log.proofs.NumberLemmas.{number_in-inside}
use Rattle.event_log.proofs.PlainParts.{IsPlain, ArePlain, plain_from_test, decimal-plain, parts_of-join, no_feed-join}
use Rattle.sim_script.specs.declared.script_line.ScriptLine.{ScriptLine}
use Rattle.sim_script.specs.declared.script_line.ScriptLine.TheVariants.{Submit, Drive, Carry, Cut}
use Rattle.sim_script.specs.declared.word.Word.{Word}
use Rattle.sim_script.specs.declared.word.Word.TheVariants as words
use Rattle.sim_script.specs.Scripts.{end_text, words_of, line_text, IsLawfulLine, word_named, end_named, submit_of, line_of_word, line_of_parts, script_line}

end_back : (end : EndId) → end_named (end_text end) ≡ Some end
unfolding end_named
end_back Client = refl
end_back Server = refl

end_plain : (end : EndId) → IsPlain (end_text end)
end_plain Client = plain_from_test (codes "C") refl
end_plain Server = plain_from_test (codes "S") refl

read_number : (least most n : ℕ) → n < 2 ^ 64 → least ≤ n → n ≤ most → number_in least most (decimal n) ≡ Some n
read_number least most n small low high = sym (number_in-inside least most n (decimal n) small refl low high)

submit_back : (end : EndId) (len first : ℕ) → IsBetween 1 MOST_FRAGMENTED_SIZE len → IsBetween 0 255 first
    → submit_of end (decimal len ∷ decimal first ∷ []) ≡ Some (Submit end len first)
unfolding submit_of
submit_back end len first a b =
    let most = a.high in
    let high = b.high in
    rw (read_number 1 MOST_FRAGMENTED_SIZE len (omega arith) a.low a.high, read_number 0 255 first (omega arith) b.low b.high) refl

-- a word, an end and the parts after them, each of which reads
parts_read : (name : List ℕ) (end : EndId) (parts : List (List ℕ)) (word : Word) (line : ScriptLine) → word_named name ≡ Some word
    → line_of_word word end parts ≡ Some line → line_of_parts (name ∷ end_text end ∷ parts) ≡ Some line
parts_read name end parts word line is reads = rw (is, end_back end) reads

lawful_read : (line : ScriptLine) → IsLawfulLine line → line_of_parts (words_of line) ≡ Some line
unfolding word_named
lawful_read (Submit end len first) h = parts_read (codes "submit") end _ words.Submit (Submit end len first) refl (submit_back end len first h.0 h.1)
lawful_read (Drive end) h = parts_read (codes "drive") end [] words.Drive (Drive end) refl refl
lawful_read (Carry end) h = parts_read (codes "carry") end [] words.Carry (Carry end) refl refl
lawful_read (Cut end) h = parts_read (codes "cut") end [] words.Cut (Cut end) refl refl

-- what is known of the text of a line
record IsSpelled (line : ScriptLine) : Type 0 where
  parts : parts_of (line_text line) ≡ words_of line
  no_feed : All (λ (b : ℕ). b ≢ 10) (line_text line)

spelled : (line : ScriptLine) → IsLawfulLine line → IsSpelled line
spelled (Submit end len first) h =
    let most = h.0.high in
    let high = h.1.high in
    let parts = end_text end ∷ decimal len ∷ decimal first ∷ [] in
    let name = plain_from_test (codes "submit") refl in
    let plain : ArePlain parts = (end_plain end, (decimal-plain len (omega arith), (decimal-plain first (omega arith), tt))) in
    record { parts = parts_of-join (codes "submit") parts name plain; no_feed = no_feed-join (codes "submit") parts name plain }
spelled (Drive end) h =
    let name = plain_from_test (codes "drive") refl in
    let plain : ArePlain (end_text end ∷ []) = (end_plain end, tt) in
    record { parts = parts_of-join (codes "drive") (end_text end ∷ []) name plain; no_feed = no_feed-join (codes "drive") (end_text end ∷ []) name plain }
spelled (Carry end) h =
    let name = plain_from_test (codes "carry") refl in
    let plain : ArePlain (end_text end ∷ []) = (end_plain end, tt) in
    record { parts = parts_of-join (codes "carry") (end_text end ∷ []) name plain; no_feed = no_feed-join (codes "carry") (end_text end ∷ []) name plain }
spelled (Cut end) h =
    let name = plain_from_test (codes "cut") refl in
    let plain : ArePlain (end_text end ∷ []) = (end_plain end, tt) in
    record { parts = parts_of-join (codes "cut") (end_text end ∷ []) name plain; no_feed = no_feed-join (codes "cut") (end_text end ∷ []) name plain }

pub read_back : (line : ScriptLine) → IsLawfulLine line → script_line (line_text line) ≡ Some line
unfolding script_line
read_back line h = ap line_of_parts (spelled line h).parts ∙ lawful_read line h

pub no_feed_in : (line : ScriptLine) → IsLawfulLine line → All (λ (b : ℕ). b ≢ 10) (line_text line)
no_feed_in line h = (spelled line h).no_feed

same_read : (line next : ScriptLine) → ◌≡◌ {A = Option ScriptLine} (Some line) (Some next) → line ≡ next
same_read line next h = cc

pub same_line : (line next : ScriptLine) → IsLawfulLine line → IsLawfulLine next → line_text line ≡ line_text next → line ≡ next
same_line line next h k e = same_read line next (sym (read_back line h) ∙ ap script_line e ∙ read_back next k)
