-- The lines of a list of frames, one after another.
use Rattle.std.proofs.Common.{◌≡◌, ℕ, ◌+◌, ◌<◌, ◌≤◌, cond, length, List, [], ◌∷◌, ◌++◌, Option, Some, None, refl, sym, ap, ◌∙◌, arith}
use Rattle.std.specs.Prelude.{is_some}
use denote.Ref.{Bor}
use Rattle.event_log.specs.Reading.{parts_left}
use Rattle.event_log.proofs.PartLemmas.{parts_of-some}
use Rattle.sim_script.specs.Scripts.{lines_in}
use Rattle.smbd_base.specs.declared.end_id.EndId.{EndId}
use Rattle.frame_lists.specs.declared.awaited.Awaited.{Awaited}
use Rattle.frame_lists.specs.declared.fault.FrameListFault.TheVariants.{NoMemory}
use Rattle.frame_lists.specs.Frames.{last_part, frame_line, bad_line_from, first_bad_frame_line, bytes_of_digits, frames_in, kind_of, awaited_after, described, description, IsFrameListFault}

-- where a part follows, the part is not the last one
pub last_part-more : (parts : List (List ℕ)) (part : List ℕ) (after : Option (Bor (List ℕ))) (bytes : Bor (List ℕ)) → parts ≡ part ∷ parts_left after
    → after ≡ Some bytes → None ≡ last_part parts
last_part-more parts part after bytes all is =
    let h = parts_of-some bytes.now in
    sym (ap last_part (all ∙ ap (λ (o : Option (Bor (List ℕ))). part ∷ parts_left o) is ∙ ap (λ (ps : List (List ℕ)). part ∷ ps) h.all))

-- what a good line adds, and a bad one
pub bad_line-good : (number : ℕ) (line : List ℕ) (lines : List (List ℕ)) (read : EndId × List ℕ) → frame_line line ≡ Some read
    → bad_line_from number (line ∷ lines) ≡ bad_line_from (number + 1) lines
bad_line-good number line lines read h = rw h refl

pub bad_line-bad : (number : ℕ) (line : List ℕ) (lines : List (List ℕ)) → frame_line line ≡ None
    → bad_line_from number (line ∷ lines) ≡ Some number
bad_line-bad number line lines h = rw h refl

frames-good : (line : List ℕ) (lines : List (List ℕ)) (end : EndId) (digits : List ℕ) → frame_line line ≡ Some (end, digits)
    → frames_in (line ∷ lines) ≡ (end, bytes_of_digits digits) ∷ frames_in lines
frames-good line lines end digits h = rw h refl

-- bad lines are counted from this number on
bad_line-least : (number found : ℕ) (lines : List (List ℕ)) → bad_line_from number lines ≡ Some found → number ≤ found
bad_line-least number found [] h = absurd (let b : ⊥ = cc in b)
bad_line-least number found (line ∷ lines) h = pick (frame_line line) (bad_line-least (number + 1) found lines) h
  where
    same : (m n : ℕ) → ◌≡◌ {A = Option ℕ} (Some m) (Some n) → m ≡ n
    same m n e = cc

    pick : (o : Option (EndId × List ℕ)) → (bad_line_from (number + 1) lines ≡ Some found → number + 1 ≤ found)
        → cond (is_some o) (bad_line_from (number + 1) lines) (Some number) ≡ Some found → number ≤ found
    pick None later e = let is = same number found e in omega (arith, is)
    pick (Some read) later e = let more = later e in omega (arith, more)

-- past a good first line memory may be wanting
pub past_good_line : (text rest after line : List ℕ) (number : ℕ) (read : EndId × List ℕ) → first_bad_frame_line text ≡ bad_line_from (number + 1) (lines_in rest)
    → lines_in rest ≡ line ∷ lines_in after → Some read ≡ frame_line line → length after < length rest → number + length rest ≤ length text
    → IsFrameListFault NoMemory text
past_good_line text rest after line number read bad all good shorter fits =
    let later : first_bad_frame_line text ≡ bad_line_from (number + 1 + 1) (lines_in after) =
    bad ∙ ap (bad_line_from (number + 1)) all ∙ bad_line-good (number + 1) line (lines_in after) read (sym good) in
    (omega (arith, shorter, fits), λ first. let least = bad_line-least (number + 1 + 1) 1 (lines_in after) (sym later ∙ first) in omega (arith, least))

-- the description goes on by one line
pub one_line : (awaited : Awaited) (rest after line : List ℕ) (end : EndId) (digits : List ℕ) → lines_in rest ≡ line ∷ lines_in after
    → Some (end, digits) ≡ frame_line line
    → description awaited (frames_in (lines_in rest))
    ≡ (described (kind_of awaited end) (end, bytes_of_digits digits) ++ 10 ∷ []) ++ description (awaited_after awaited end) (frames_in (lines_in after))
one_line awaited rest after line end digits all good =
    ap (λ (lines : List (List ℕ)). description awaited (frames_in lines)) all
    ∙ ap (description awaited) (frames-good line (lines_in after) end digits (sym good))
