-- What the lines of a worker tell of its page events: what kind each is of, and the text of its token's number.
use Rattle.std.proofs.Common.{◌≡◌, ℕ, zero, suc, ◌+◌, List, [], ◌∷◌, ◌++◌, length, decimal, sym, ap, ◌∙◌, subst, refl, arith}
use Rattle.std.specs.Prelude.{codes, slice_get, slice_index}
use Rattle.std.specs.List.{join_with_byte}
use Rattle.std.proofs.lemmas.List.{append_cancel_left}
use Rattle.smbd_base.specs.declared.page_event.PageEvent.{PageEvent}
use Rattle.smbd_base.specs.declared.page_event.PageEvent.TheVariants.{Load, Fetch, Place, Unload}
use Rattle.smbd_base.specs.Tokens.{number_of}
use Rattle.smbd_base.specs.Pages.{token_in}
use Rattle.event_log.specs.declared.side.Side.{Side}
use Rattle.event_log.specs.Lines.{side_text, words_of, line_text, logged_page}
use Rattle.event_log.proofs.WrittenLines.{line_text-words}
use Rattle.copy_log.specs.CopyLogs.{page_lines, list_or_none}
use Rattle.copy_texts.proofs.Pairs.{Pairwise, pairs-mapped, mapped-back}
use Rattle.copy_texts.proofs.TextLines.{split-at, decimal-lacks}

-- the first letter of the word of a page event's line, which tells its kind
abbrev pub page_letter : PageEvent → ℕ
page_letter (Load token right bytes) = 108
page_letter (Fetch token at bytes) = 102
page_letter (Place token order at bytes) = 112
page_letter (Unload token bytes) = 117

-- what equal lines have in common
abbrev pub IsLikeTold : PageEvent → PageEvent → Type 0
IsLikeTold e f = (page_letter e ≡ page_letter f) × (decimal (number_of (token_in e)) ≡ decimal (number_of (token_in f)))

-- the line of a page event after its side
abbrev words_text : PageEvent → List ℕ
words_text e = join_with_byte 32 (words_of (logged_page e))

letter-first : (e : PageEvent) → slice_index (words_text e) 0 ≡ page_letter e
letter-first (Load token right bytes) = refl
letter-first (Fetch token at bytes) = refl
letter-first (Place token order at bytes) = refl
letter-first (Unload token bytes) = refl

number-same : (m n : ℕ) (more others : List ℕ) → decimal m ++ 32 ∷ more ≡ decimal n ++ 32 ∷ others → decimal m ≡ decimal n
number-same m n more others e =
    (split-at 32 (decimal m) (decimal n) more others (decimal-lacks 32 (omega arith) m) (decimal-lacks 32 (omega arith) n) e).0

numbers-same : (e f : PageEvent) → page_letter e ≡ page_letter f → words_text e ≡ words_text f → decimal (number_of (token_in e)) ≡ decimal (number_of (token_in f))
numbers-same (Load t r b) (Load u q c) alike same = number-same (number_of t) (number_of u) _ _ (append_cancel_left (codes "load ") _ _ same)
numbers-same (Load t r b) f alike same = absurd (let b : ⊥ = omega (arith, alike) in b)
numbers-same (Fetch t at b) (Fetch u to c) alike same = number-same (number_of t) (number_of u) _ _ (append_cancel_left (codes "fetch ") _ _ same)
numbers-same (Fetch t at b) f alike same = absurd (let b : ⊥ = omega (arith, alike) in b)
numbers-same (Place t n at b) (Place u m to c) alike same = number-same (number_of t) (number_of u) _ _ (append_cancel_left (codes "place ") _ _ same)
numbers-same (Place t n at b) f alike same = absurd (let b : ⊥ = omega (arith, alike) in b)
numbers-same (Unload t b) (Unload u c) alike same = append_cancel_left (codes "unload ") (decimal (number_of t)) (decimal (number_of u)) same
numbers-same (Unload t b) f alike same = absurd (let b : ⊥ = omega (arith, alike) in b)

line-like : (side : Side) (e f : PageEvent) → line_text side (logged_page e) ≡ line_text side (logged_page f) → IsLikeTold e f
line-like side e f same =
    let joined : side_text side ++ 32 ∷ words_text e ≡ side_text side ++ 32 ∷ words_text f =
    sym (line_text-words side (logged_page e)) ∙ same ∙ line_text-words side (logged_page f) in
    let words : words_text e ≡ words_text f = append_cancel_left (32 ∷ []) (words_text e) (words_text f)
    (append_cancel_left (side_text side) (32 ∷ words_text e) (32 ∷ words_text f) joined) in
    let letters : page_letter e ≡ page_letter f = sym (letter-first e) ∙ ap (λ (l : List ℕ). slice_index l 0) words ∙ letter-first f in
    (letters, numbers-same e f letters words)

pages-alike : (side : Side) (xs ys : List PageEvent) → page_lines side xs ≡ page_lines side ys → Pairwise IsLikeTold xs ys
pages-alike side xs ys same =
    pairs-mapped (λ (e : PageEvent). line_text side (logged_page e)) IsLikeTold xs ys (λ x y e. line-like side x y e)
    (mapped-back (λ (e : PageEvent). line_text side (logged_page e)) xs ys same)

-- the lists of the workers of an end, the first of which has the number after this one
pub lists-alike : (name : ℕ → Side) (n : ℕ) (xs ys : List (List PageEvent)) → length xs ≡ length ys
    → ((place : ℕ) → page_lines (name (n + suc place)) (list_or_none (slice_get xs place)) ≡ page_lines (name (n + suc place)) (list_or_none (slice_get ys place)))
    → Pairwise (Pairwise IsLikeTold) xs ys
lists-alike name n [] [] long h = tt
lists-alike name n [] (y ∷ ys) long h = absurd (let b : ⊥ = omega (arith, long) in b)
lists-alike name n (x ∷ xs) [] long h = absurd (let b : ⊥ = omega (arith, long) in b)
lists-alike name n (x ∷ xs) (y ∷ ys) long h = (
  pages-alike (name (n + suc zero)) x y (h zero),
  lists-alike name (suc n) xs ys (omega (arith, long)) (λ place.
      subst (λ (k : ℕ). page_lines (name k) (list_or_none (slice_get xs place)) ≡ page_lines (name k) (list_or_none (slice_get ys place)))
      (let z : n + suc (suc place) ≡ suc n + suc place = omega arith in z) (h (suc place))),
)
