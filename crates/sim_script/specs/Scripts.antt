-- Scripts: what a line says, which bytes are one, and the choices of a text of lines (this project's own).
use Rattle.std.specs.Prelude.{◌≡◌, ◌≢◌, ◌<◌, ℕ, ◌+◌, ◌%◌, ◌==◌, List, [], ◌∷◌, length, map, codes, decimal, bytes_eq, Option, Some, None, option_map, is_some, if◌then◌else◌}
use Rattle.std.specs.List.{join_with_byte, slice_split, filter_map, range_with_len}
use denote.Ref.{Bor}
use Rattle.smbd_base.specs.declared.end_id.EndId.{EndId}
use Rattle.smbd_base.specs.declared.end_id.EndId.TheVariants.{Client, Server}
use Rattle.smbd_base.specs.declared.limits.TheConstants.{MOST_FRAGMENTED_SIZE}
use Rattle.event_log.specs.Lines.{IsBetween}
use Rattle.event_log.specs.Reading.{parts_of, next_number, parts_left, ◌>>=◌}
use Rattle.world_core.specs.declared.choice.Choice.{Choice}
use Rattle.world_core.specs.declared.choice.Choice.TheVariants as choices
use Rattle.sim_script.specs.declared.script_line.ScriptLine.{ScriptLine}
use Rattle.sim_script.specs.declared.script_line.ScriptLine.TheVariants.{Submit, Drive, Carry, Cut}
use Rattle.sim_script.specs.declared.word.Word.{Word}
use Rattle.sim_script.specs.declared.word.Word.TheVariants as words
use Rattle.sim_script.specs.declared.fault.ScriptFault.{ScriptFault}
use Rattle.sim_script.specs.declared.fault.ScriptFault.TheVariants as faults

-- ---- a line as it is written

-- the name of an end
abbrev pub end_text : EndId → List ℕ
end_text Client = codes "C"
end_text Server = codes "S"

-- the parts of a line
abbrev pub words_of : ScriptLine → List (List ℕ)
words_of (Submit end len first) = codes "submit" ∷ end_text end ∷ decimal len ∷ decimal first ∷ []
words_of (Drive end) = codes "drive" ∷ end_text end ∷ []
words_of (Carry end) = codes "carry" ∷ end_text end ∷ []
words_of (Cut end) = codes "cut" ∷ end_text end ∷ []

-- the one written form of a line, without its line feed: its parts with one space between each two
abbrev pub line_text : ScriptLine → List ℕ
line_text line = join_with_byte 32 (words_of line)

-- the numbers of a line lie in their ranges
abbrev pub IsLawfulLine : ScriptLine → Type 0
IsLawfulLine (Submit end len first) = IsBetween 1 MOST_FRAGMENTED_SIZE len × IsBetween 0 255 first
IsLawfulLine (Drive end) = Unit {0}
IsLawfulLine (Carry end) = Unit {0}
IsLawfulLine (Cut end) = Unit {0}

-- ---- bytes that are a line

-- the word of this name
unfoldable pub word_named : List ℕ → Option Word
word_named name =
    if bytes_eq name (codes "submit") then Some words.Submit
    else if bytes_eq name (codes "drive") then Some words.Drive
    else if bytes_eq name (codes "carry") then Some words.Carry
    else if bytes_eq name (codes "cut") then Some words.Cut
    else None

-- the end of this name
unfoldable pub end_named : List ℕ → Option EndId
end_named name = if bytes_eq name (codes "C") then Some Client else if bytes_eq name (codes "S") then Some Server else None

-- the end that the next part names, and the parts after it
abbrev pub next_end : List (List ℕ) → Option (EndId × List (List ℕ))
next_end [] = None
next_end (part ∷ parts) = end_named part >>= (λ end. Some (end, parts))

-- the line, where no part is left
abbrev pub line_at_end : ScriptLine → List (List ℕ) → Option ScriptLine
line_at_end line [] = Some line
line_at_end line (part ∷ parts) = None

-- the line of a message: its length and its first byte are left
unfoldable pub submit_of : EndId → List (List ℕ) → Option ScriptLine
submit_of end parts =
    next_number 1 MOST_FRAGMENTED_SIZE parts >>= (λ len. next_number 0 255 len.1 >>= (λ first. line_at_end (Submit end len.0 first.0) first.1))

-- the line of a word and an end, by the parts after these
abbrev pub line_of_word : Word → EndId → List (List ℕ) → Option ScriptLine
line_of_word words.Submit end parts = submit_of end parts
line_of_word words.Drive end parts = line_at_end (Drive end) parts
line_of_word words.Carry end parts = line_at_end (Carry end) parts
line_of_word words.Cut end parts = line_at_end (Cut end) parts

-- the line of these parts
abbrev pub line_of_parts : List (List ℕ) → Option ScriptLine
line_of_parts [] = None
line_of_parts (name ∷ parts) = word_named name >>= (λ word. next_end parts >>= (λ end. line_of_word word end.0 end.1))

-- the line that bytes are, if they are one
unfoldable pub script_line : List ℕ → Option ScriptLine
script_line bytes = line_of_parts (parts_of bytes)

-- ---- a text of lines

-- the parts between line feeds, without the last one where it is empty: what ends in a line feed has no line after it
abbrev pub without_empty_end : List (List ℕ) → List (List ℕ)
without_empty_end [] = []
without_empty_end (part ∷ []) = if length part == 0 then [] else part ∷ []
without_empty_end (part ∷ next ∷ parts) = part ∷ without_empty_end (next ∷ parts)

-- the lines of a text, without their line feeds
unfoldable pub lines_in : List ℕ → List (List ℕ)
lines_in text = without_empty_end (slice_split (λ (b : ℕ). b == 10) text)

-- the number of the first of these lines that is none, where they are counted from this number on
abbrev pub bad_line_from : ℕ → List (List ℕ) → Option ℕ
bad_line_from number [] = None
bad_line_from number (line ∷ lines) = if is_some (script_line line) then bad_line_from (number + 1) lines else Some number

-- the number of the first line of a text that is none; the first line has the number 1
abbrev pub first_bad_line : List ℕ → Option ℕ
first_bad_line text = bad_line_from 1 (lines_in text)

-- so many bytes that count up from the first one, and go on at 0 after 255
abbrev pub counted_bytes : ℕ → ℕ → List ℕ
counted_bytes len first = map (λ (i : ℕ). (first + i) % 256) (range_with_len 0 len)

-- the choice that a line makes
abbrev pub choice_of : ScriptLine → Choice
choice_of (Submit end len first) = choices.Submit end (counted_bytes len first)
choice_of (Drive end) = choices.Drive end
choice_of (Carry end) = choices.Carry end
choice_of (Cut end) = choices.Cut end

-- the choices of lines, in order, of those that are lines
abbrev pub choices_in : List (List ℕ) → List Choice
choices_in lines = filter_map (λ (line : List ℕ). option_map choice_of (script_line line)) lines

-- the choices of the lines of a text
abbrev pub script_of : List ℕ → List Choice
script_of text = choices_in (lines_in text)

-- Why a text was not read: its first bad line. Want of memory is no fault of the text; it comes only past a first line
-- that is good.
abbrev pub IsScriptFault : ScriptFault → List ℕ → Type 0
IsScriptFault (faults.Line number) text = first_bad_line text ≡ Some number
IsScriptFault faults.NoMemory text = (0 < length text) × (first_bad_line text ≢ Some 1)

-- ---- what functions answer

-- an end that was read, and the parts that are left
abbrev pub end_and_parts : Option (EndId × Option (Bor (List ℕ))) → Option (EndId × List (List ℕ))
end_and_parts None = None
end_and_parts (Some read) = Some (read.0, parts_left read.1)

-- a line that was found, and those of the bytes after it
abbrev pub line_and_lines : Option (Bor (List ℕ) × Bor (List ℕ)) → List (List ℕ)
line_and_lines None = []
line_and_lines (Some found) = found.0.now ∷ lines_in found.1.now
