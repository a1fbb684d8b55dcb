-- What reads as a line is its written form.
use Rattle.std.proofs.Common.{◌≡◌, ℕ, ◌+◌, ◌-◌, ◌^◌, ◌≤◌, ◌==◌, ◌&&◌, nat_le, nat_lt, Bool, true, false, cond, List, [], ◌∷◌, ◌++◌, length, Option, Some, None, Result, Ok, Err, decimal, refl, sym, ap, ◌∙◌, subst, arith}
use Rattle.std.specs.Prelude.{codes, bytes_eq}
use Rattle.std.specs.List.{join_with_byte}
use Rattle.std.proofs.lemmas.Bool.{and_parts, eqb-true, leb-true}
use Rattle.std.proofs.lemmas.Fmt.{decimal_digit}
use Rattle.std.proofs.lemmas.List.Splits.{join_with_byte-slice_split}
use Rattle.std.proofs.lemmas.Slice.Eq.{bytes_eq-Decides}
use Rattle.hex.specs.Hex.{encode_lower, IsBytes}
use Rattle.smbd_base.specs.declared.limits.TheConstants.{MOST_CREDITS, MOST_FRAME_SIZE}
use Rattle.smbd_base.specs.declared.token.TheConstants.{PAGE_SIZE}
use Rattle.smbd_base.specs.Tokens.{PageToken, IsToken, number_of}
use Rattle.smbd_base.specs.declared.right.Right.{Right}
use Rattle.smbd_base.specs.declared.right.Right.TheVariants as rights
use Rattle.event_log.specs.declared.side.Side.{Side}
use Rattle.event_log.specs.declared.side.Side.TheVariants.{C, S, Cw, Sw}
use Rattle.event_log.specs.declared.log_line.LogLine.{LogLine}
use Rattle.event_log.specs.declared.log_line.LogLine.TheVariants.{Post, Submit, Emit, Take, Cut, Load, Fetch, Place, Unload}
use Rattle.event_log.specs.declared.fault.LineFault.{LineFault}
use Rattle.event_log.specs.declared.fault.LineFault.TheVariants as faults
use Rattle.event_log.specs.declared.word.Word.{Word}
use Rattle.event_log.specs.declared.word.Word.TheVariants as words
use Rattle.event_log.specs.Lines.{side_text, right_text, words_of, line_text, IsBetween, IsEnd, IsWorker, FitsPage, IsLawfulLine}
use Rattle.event_log.specs.Reading.{parts_of, end_named, worker_named, side_named, end_word, page_word, right_named, word_named, number_in, next_number, next_right, line_at_end, token_numbered, post_of, submit_of, emit_of, take_of, load_of, fetch_of, place_of, unload_of, after_side, after_word, with_side, or_number, line_of_word, line_of_parts, reading_of, ◌>>=◌}
use Rattle.event_log.proofs.NextParts.{stepped, same_some, IsNumberPart, number_part, then_parts}
use Rattle.event_log.proofs.FrameTexts.{frame_line-ok}

-- ---- steps

if_some : {A : Type 0} (t : Bool) (x y : A) → cond t (Some x) None ≡ Some y → (t ≡ true) × (x ≡ y)
if_some true x y h = (refl, cc)
if_some false x y h = cc

right_is : (name : List ℕ) (right : Right) → right_named name ≡ Some right → name ≡ right_text right
unfolding right_named
right_is name right h = pick (bytes_eq name (codes "fetch")) (bytes_eq name (codes "place")) (bytes_eq-Decides name (codes "fetch")).0 (bytes_eq-Decides name (codes "place")).0 h
  where
    pick : (a b : Bool) → (a ≡ true → name ≡ codes "fetch") → (b ≡ true → name ≡ codes "place")
        → cond a (Some rights.Fetch) (cond b (Some rights.Place) None) ≡ Some right → name ≡ right_text right
    pick true b f p e = f refl ∙ ap right_text (same_some rights.Fetch right e)
    pick false true f p e = p refl ∙ ap right_text (same_some rights.Place right e)
    pick false false f p e = cc

right_part : (parts : List (List ℕ)) (x : Right × List (List ℕ)) → next_right parts ≡ Some x → parts ≡ right_text x.0 ∷ x.1
right_part [] x h = absurd (let b : ⊥ = cc in b)
right_part (part ∷ parts) x h =
    let s = stepped (right_named part) _ x h in
    let pair : (s.0, parts) ≡ x = same_some _ _ s.2 in
    let value : s.0 ≡ x.0 = ap (λ (p : Right × List (List ℕ)). p.0) pair in
    let rest : parts ≡ x.1 = ap (λ (p : Right × List (List ℕ)). p.1) pair in
    ap (λ (p : List ℕ). p ∷ parts) (right_is part x.0 (s.1 ∙ ap Some value)) ∙ ap (λ (ps : List (List ℕ)). right_text x.0 ∷ ps) rest

no_part : (line whole : LogLine) (parts : List (List ℕ)) → line_at_end line parts ≡ Some whole → (parts ≡ []) × (line ≡ whole)
no_part line whole [] h = (refl, cc)
no_part line whole (part ∷ parts) h = cc

token_text : (n : ℕ) → number_of (token_numbered n) ≡ n
token_text n = omega arith

token_lawful : (n : ℕ) → IsBetween 256 4294967295 n → IsToken (token_numbered n)
token_lawful n b =
    let low = b.low in
    let high = b.high in
    record { page = omega arith; least = omega arith; most = omega arith }

-- the first part after the word was the token of a number
token_part : (n : ℕ) (parts later more : List (List ℕ)) → parts ≡ decimal n ∷ later → later ≡ more
    → parts ≡ decimal (number_of (token_numbered n)) ∷ more
token_part n parts later more h k =
    then_parts (decimal n) parts later more h k ∙ ap (λ (m : ℕ). decimal m ∷ more) (sym (token_text n))

-- ---- the parts after each word

-- a line that was read from these parts after this word
record IsReadAs (side : Side) (name : List ℕ) (parts : List (List ℕ)) (line : LogLine) : Type 0 where
  lawful : IsLawfulLine side line
  words_are : name ∷ parts ≡ words_of line

read_as : (side : Side) (name : List ℕ) (parts more : List (List ℕ)) (line whole : LogLine) → line ≡ whole → IsLawfulLine side line
    → name ∷ more ≡ words_of line → parts ≡ more → IsReadAs side name parts whole
read_as side name parts more line whole same lawful is rest =
    let P : LogLine → Type 0 = λ l. IsReadAs side name parts l in
    subst P same (record { lawful = lawful; words_are = ap (λ (ps : List (List ℕ)). name ∷ ps) rest ∙ is })

pub no_bytes : IsBytes []
no_bytes i = omega arith

post_read : (side : Side) → IsEnd side → (parts : List (List ℕ)) (line : LogLine) → post_of parts ≡ Some line → IsReadAs side (codes "post") parts line
unfolding post_of
post_read side end parts line h =
    let a = stepped (next_number 1 MOST_CREDITS parts) _ line h in
    let n = number_part 1 MOST_CREDITS parts a.0 a.1 in
    let f = no_part (Post a.0.0) line a.0.1 a.2 in
    read_as side (codes "post") parts (decimal a.0.0 ∷ []) (Post a.0.0) line f.1 ((end, n.fits), no_bytes) refl (then_parts _ parts a.0.1 [] n.part f.0)

submit_read : (side : Side) → IsEnd side → (parts : List (List ℕ)) (line : LogLine) → submit_of parts ≡ Some line
    → IsReadAs side (codes "submit") parts line
unfolding submit_of
submit_read side end parts line h =
    let a = stepped (next_number 1 4294967295 parts) _ line h in
    let n = number_part 1 4294967295 parts a.0 a.1 in
    let f = no_part (Submit a.0.0) line a.0.1 a.2 in
    read_as side (codes "submit") parts (decimal a.0.0 ∷ []) (Submit a.0.0) line f.1 ((end, n.fits), no_bytes) refl (then_parts _ parts a.0.1 [] n.part f.0)

take_read : (side : Side) → IsEnd side → (parts : List (List ℕ)) (line : LogLine) → take_of parts ≡ Some line → IsReadAs side (codes "take") parts line
unfolding take_of
take_read side end parts line h =
    let a = stepped (next_number 1 (2 ^ 62 - 1) parts) _ line h in
    let b = stepped (next_number 1 MOST_FRAME_SIZE a.0.1) _ line a.2 in
    let n = number_part 1 (2 ^ 62 - 1) parts a.0 a.1 in
    let m = number_part 1 MOST_FRAME_SIZE a.0.1 b.0 b.1 in
    let f = no_part (Take a.0.0 b.0.0) line b.0.1 b.2 in
    read_as side (codes "take") parts (decimal a.0.0 ∷ decimal b.0.0 ∷ []) (Take a.0.0 b.0.0) line f.1 ((end, n.fits, m.fits), no_bytes) refl
    (then_parts _ parts a.0.1 _ n.part (then_parts _ a.0.1 b.0.1 [] m.part f.0))

emit_read : (side : Side) → IsEnd side → (parts : List (List ℕ)) (line : LogLine) → emit_of parts ≡ Ok line → IsReadAs side (codes "emit") parts line
unfolding emit_of
emit_read side end [] line h = absurd (let b : ⊥ = cc in b)
emit_read side end (digits ∷ []) line h =
    let f = frame_line-ok digits line h in
    read_as side (codes "emit") (digits ∷ []) (encode_lower f.frame ∷ []) (Emit f.frame) line f.line_is ((end, f.fits), f.bytes) refl
    (ap (λ (d : List ℕ). d ∷ []) f.digits_are)
emit_read side end (digits ∷ part ∷ parts) line h = absurd (let b : ⊥ = cc in b)

cut_read : (side : Side) → IsEnd side → (parts : List (List ℕ)) (line : LogLine) → line_at_end Cut parts ≡ Some line → IsReadAs side (codes "cut") parts line
cut_read side end parts line h =
    let f = no_part Cut line parts h in
    read_as side (codes "cut") parts [] Cut line f.1 (end, no_bytes) refl f.0

-- the words of these lines, by their numbers
load_words : (token : PageToken) (right : Right) (len : ℕ)
    → codes "load" ∷ decimal (number_of token) ∷ right_text right ∷ decimal len ∷ [] ≡ words_of (Load token right len)
load_words token right len = refl

fetch_words : (token : PageToken) (at len : ℕ)
    → codes "fetch" ∷ decimal (number_of token) ∷ decimal at ∷ decimal len ∷ [] ≡ words_of (Fetch token at len)
fetch_words token at len = refl

place_words : (token : PageToken) (order at len : ℕ)
    → codes "place" ∷ decimal (number_of token) ∷ decimal order ∷ decimal at ∷ decimal len ∷ [] ≡ words_of (Place token order at len)
place_words token order at len = refl

load_read : (side : Side) → IsWorker side → (parts : List (List ℕ)) (line : LogLine) → load_of parts ≡ Some line → IsReadAs side (codes "load") parts line
unfolding load_of
load_read side worker parts line h =
    let a = stepped (next_number 256 4294967295 parts) _ line h in
    let r = stepped (next_right a.0.1) _ line a.2 in
    let b = stepped (next_number 1 PAGE_SIZE r.0.1) _ line r.2 in
    let t = number_part 256 4294967295 parts a.0 a.1 in
    let m = number_part 1 PAGE_SIZE r.0.1 b.0 b.1 in
    let f = no_part (Load (token_numbered a.0.0) r.0.0 b.0.0) line b.0.1 b.2 in
    read_as side (codes "load") parts (decimal (number_of (token_numbered a.0.0)) ∷ right_text r.0.0 ∷ decimal b.0.0 ∷ []) (Load (token_numbered a.0.0) r.0.0 b.0.0) line f.1 ((worker, token_lawful a.0.0 t.fits, m.fits), no_bytes) (load_words (token_numbered a.0.0) r.0.0 b.0.0)
    (token_part a.0.0 parts a.0.1 _ t.part (then_parts _ a.0.1 r.0.1 _ (right_part a.0.1 r.0 r.1) (then_parts _ r.0.1 b.0.1 [] m.part f.0)))

in_page : (at len : ℕ) → IsBetween 0 (PAGE_SIZE - 1) at → IsBetween 1 (PAGE_SIZE - at) len → FitsPage at len
in_page at len a b =
    let most = a.high in
    let low = b.low in
    let high = b.high in
    record { some = low; within = omega arith }

fetch_read : (side : Side) → IsWorker side → (parts : List (List ℕ)) (line : LogLine) → fetch_of parts ≡ Some line
    → IsReadAs side (codes "fetch") parts line
unfolding fetch_of
fetch_read side worker parts line h =
    let a = stepped (next_number 256 4294967295 parts) _ line h in
    let p = stepped (next_number 0 (PAGE_SIZE - 1) a.0.1) _ line a.2 in
    let b = stepped (next_number 1 (PAGE_SIZE - p.0.0) p.0.1) _ line p.2 in
    let t = number_part 256 4294967295 parts a.0 a.1 in
    let q = number_part 0 (PAGE_SIZE - 1) a.0.1 p.0 p.1 in
    let m = number_part 1 (PAGE_SIZE - p.0.0) p.0.1 b.0 b.1 in
    let f = no_part (Fetch (token_numbered a.0.0) p.0.0 b.0.0) line b.0.1 b.2 in
    read_as side (codes "fetch") parts (decimal (number_of (token_numbered a.0.0)) ∷ decimal p.0.0 ∷ decimal b.0.0 ∷ []) (Fetch (token_numbered a.0.0) p.0.0 b.0.0) line f.1
    ((worker, token_lawful a.0.0 t.fits, in_page p.0.0 b.0.0 q.fits m.fits), no_bytes) (fetch_words (token_numbered a.0.0) p.0.0 b.0.0)
    (token_part a.0.0 parts a.0.1 _ t.part (then_parts _ a.0.1 p.0.1 _ q.part (then_parts _ p.0.1 b.0.1 [] m.part f.0)))

place_read : (side : Side) → IsWorker side → (parts : List (List ℕ)) (line : LogLine) → place_of parts ≡ Some line
    → IsReadAs side (codes "place") parts line
unfolding place_of
place_read side worker parts line h =
    let a = stepped (next_number 256 4294967295 parts) _ line h in
    let o = stepped (next_number 0 65534 a.0.1) _ line a.2 in
    let p = stepped (next_number 0 (PAGE_SIZE - 1) o.0.1) _ line o.2 in
    let b = stepped (next_number 1 (PAGE_SIZE - p.0.0) p.0.1) _ line p.2 in
    let t = number_part 256 4294967295 parts a.0 a.1 in
    let c = number_part 0 65534 a.0.1 o.0 o.1 in
    let q = number_part 0 (PAGE_SIZE - 1) o.0.1 p.0 p.1 in
    let m = number_part 1 (PAGE_SIZE - p.0.0) p.0.1 b.0 b.1 in
    let f = no_part (Place (token_numbered a.0.0) o.0.0 p.0.0 b.0.0) line b.0.1 b.2 in
    read_as side (codes "place") parts (decimal (number_of (token_numbered a.0.0)) ∷ decimal o.0.0 ∷ decimal p.0.0 ∷ decimal b.0.0 ∷ []) (Place (token_numbered a.0.0) o.0.0 p.0.0 b.0.0) line f.1
    ((worker, token_lawful a.0.0 t.fits, c.fits, in_page p.0.0 b.0.0 q.fits m.fits), no_bytes) (place_words (token_numbered a.0.0) o.0.0 p.0.0 b.0.0)
    (token_part a.0.0 parts a.0.1 _ t.part
    (then_parts _ a.0.1 o.0.1 _ c.part (then_parts _ o.0.1 p.0.1 _ q.part (then_parts _ p.0.1 b.0.1 [] m.part f.0))))

unload_read : (side : Side) → IsWorker side → (parts : List (List ℕ)) (line : LogLine) → unload_of parts ≡ Some line
    → IsReadAs side (codes "unload") parts line
unfolding unload_of
unload_read side worker parts line h =
    let a = stepped (next_number 256 4294967295 parts) _ line h in
    let t = number_part 256 4294967295 parts a.0 a.1 in
    let f = no_part (Unload (token_numbered a.0.0)) line a.0.1 a.2 in
    read_as side (codes "unload") parts _ (Unload (token_numbered a.0.0)) line f.1 ((worker, token_lawful a.0.0 t.fits), no_bytes) refl
    (token_part a.0.0 parts a.0.1 [] t.part f.0)

-- ---- words and sides

numbered : (o : Option LogLine) (line : LogLine) → or_number o ≡ Ok line → o ≡ Some line
numbered (Some l) line h = cc
numbered None line h = cc

-- the line of a word of an end
end_line : (side : Side) → IsEnd side → (name : List ℕ) (word : Word) (parts : List (List ℕ)) (line : LogLine) → end_word name ≡ Some word
    → line_of_word word parts ≡ Ok line → IsReadAs side name parts line
unfolding end_word
end_line side end name word parts line h k =
    pick (bytes_eq name (codes "post")) (bytes_eq name (codes "submit")) (bytes_eq name (codes "emit")) (bytes_eq name (codes "take"))
    (bytes_eq name (codes "cut")) (bytes_eq-Decides name (codes "post")).0 (bytes_eq-Decides name (codes "submit")).0
    (bytes_eq-Decides name (codes "emit")).0 (bytes_eq-Decides name (codes "take")).0 (bytes_eq-Decides name (codes "cut")).0 h
  where
    at : (text : List ℕ) → name ≡ text → IsReadAs side text parts line → IsReadAs side name parts line
    at text e r = subst (λ (t : List ℕ). IsReadAs side t parts line) (sym e) r

    reads : (w : Word) → w ≡ word → line_of_word w parts ≡ Ok line
    reads w e = ap (λ (v : Word). line_of_word v parts) e ∙ k

    pick : (p s e t c : Bool) → (p ≡ true → name ≡ codes "post") → (s ≡ true → name ≡ codes "submit") → (e ≡ true → name ≡ codes "emit")
        → (t ≡ true → name ≡ codes "take") → (c ≡ true → name ≡ codes "cut")
        → cond p (Some words.Post) (cond s (Some words.Submit) (cond e (Some words.Emit) (cond t (Some words.Take) (cond c (Some words.Cut) None)))) ≡ Some word
        → IsReadAs side name parts line
    pick true s e t c ip js ie it ic w =
        at (codes "post") (ip refl) (post_read side end parts line (numbered (post_of parts) line (reads words.Post (same_some words.Post word w))))
    pick false true e t c ip js ie it ic w =
        at (codes "submit") (js refl) (submit_read side end parts line (numbered (submit_of parts) line (reads words.Submit (same_some words.Submit word w))))
    pick false false true t c ip js ie it ic w = at (codes "emit") (ie refl) (emit_read side end parts line (reads words.Emit (same_some words.Emit word w)))
    pick false false false true c ip js ie it ic w =
        at (codes "take") (it refl) (take_read side end parts line (numbered (take_of parts) line (reads words.Take (same_some words.Take word w))))
    pick false false false false true ip js ie it ic w =
        at (codes "cut") (ic refl) (cut_read side end parts line (numbered (line_at_end Cut parts) line (reads words.Cut (same_some words.Cut word w))))
    pick false false false false false ip js ie it ic w = absurd (let b : ⊥ = cc in b)

page_line : (side : Side) → IsWorker side → (name : List ℕ) (word : Word) (parts : List (List ℕ)) (line : LogLine) → page_word name ≡ Some word
    → line_of_word word parts ≡ Ok line → IsReadAs side name parts line
unfolding page_word
page_line side worker name word parts line h k =
    pick (bytes_eq name (codes "load")) (bytes_eq name (codes "fetch")) (bytes_eq name (codes "place")) (bytes_eq name (codes "unload"))
    (bytes_eq-Decides name (codes "load")).0 (bytes_eq-Decides name (codes "fetch")).0 (bytes_eq-Decides name (codes "place")).0
    (bytes_eq-Decides name (codes "unload")).0 h
  where
    at : (text : List ℕ) → name ≡ text → IsReadAs side text parts line → IsReadAs side name parts line
    at text e r = subst (λ (t : List ℕ). IsReadAs side t parts line) (sym e) r

    reads : (w : Word) → w ≡ word → line_of_word w parts ≡ Ok line
    reads w e = ap (λ (v : Word). line_of_word v parts) e ∙ k

    pick : (l f p u : Bool) → (l ≡ true → name ≡ codes "load") → (f ≡ true → name ≡ codes "fetch") → (p ≡ true → name ≡ codes "place")
        → (u ≡ true → name ≡ codes "unload")
        → cond l (Some words.Load) (cond f (Some words.Fetch) (cond p (Some words.Place) (cond u (Some words.Unload) None))) ≡ Some word
        → IsReadAs side name parts line
    pick true f p u il jf ip iu w =
        at (codes "load") (il refl) (load_read side worker parts line (numbered (load_of parts) line (reads words.Load (same_some words.Load word w))))
    pick false true p u il jf ip iu w =
        at (codes "fetch") (jf refl) (fetch_read side worker parts line (numbered (fetch_of parts) line (reads words.Fetch (same_some words.Fetch word w))))
    pick false false true u il jf ip iu w =
        at (codes "place") (ip refl) (place_read side worker parts line (numbered (place_of parts) line (reads words.Place (same_some words.Place word w))))
    pick false false false true il jf ip iu w =
        at (codes "unload") (iu refl) (unload_read side worker parts line (numbered (unload_of parts) line (reads words.Unload (same_some words.Unload word w))))
    pick false false false false il jf ip iu w = absurd (let b : ⊥ = cc in b)

-- a side that was read from this name, and what its words are
record IsReadSide (side : Side) (name : List ℕ) : Type 0 where
  text : name ≡ side_text side
  line : (word_name : List ℕ) (word : Word) (parts : List (List ℕ)) (whole : LogLine) → word_named side word_name ≡ Some word
      → line_of_word word parts ≡ Ok whole → IsReadAs side word_name parts whole

client : (name : List ℕ) → name ≡ codes "C" → IsReadSide C name
client name is = record { text = is; line = λ w word parts whole h k. end_line C tt w word parts whole h k }

server : (name : List ℕ) → name ≡ codes "S" → IsReadSide S name
server name is = record { text = is; line = λ w word parts whole h k. end_line S tt w word parts whole h k }

of_client : (worker : ℕ) (name : List ℕ) → IsBetween 1 8 worker → name ≡ codes "C" ++ decimal worker → IsReadSide (Cw worker) name
of_client worker name fits is = record { text = is; line = λ w word parts whole h k. page_line (Cw worker) fits w word parts whole h k }

of_server : (worker : ℕ) (name : List ℕ) → IsBetween 1 8 worker → name ≡ codes "S" ++ decimal worker → IsReadSide (Sw worker) name
of_server worker name fits is = record { text = is; line = λ w word parts whole h k. page_line (Sw worker) fits w word parts whole h k }

end_side : (letter : ℕ) (side : Side) → end_named letter ≡ Some side → IsReadSide side (letter ∷ [])
end_side letter side h = pick (letter == 67) (letter == 83) (eqb-true letter 67) (eqb-true letter 83) h
  where
    pick : (c s : Bool) → (c ≡ true → letter ≡ 67) → (s ≡ true → letter ≡ 83) → cond c (Some C) (cond s (Some S) None) ≡ Some side
        → IsReadSide side (letter ∷ [])
    pick true s f g e =
        subst (λ (v : Side). IsReadSide v (letter ∷ [])) (same_some C side e) (client (letter ∷ []) (ap (λ (l : ℕ). l ∷ []) (f refl)))
    pick false true f g e =
        subst (λ (v : Side). IsReadSide v (letter ∷ [])) (same_some S side e) (server (letter ∷ []) (ap (λ (l : ℕ). l ∷ []) (g refl)))
    pick false false f g e = absurd (let b : ⊥ = cc in b)

digit_text : (digit : ℕ) → 49 ≤ digit → digit ≤ 56 → digit ∷ [] ≡ decimal (digit - 48)
digit_text digit low high =
    ap (λ (d : ℕ). d ∷ []) (let e : digit ≡ 48 + (digit - 48) = omega arith in e) ∙ sym (decimal_digit (digit - 48) (omega arith))

worker_side : (letter digit : ℕ) (side : Side) → 49 ≤ digit → digit ≤ 56 → worker_named letter (digit - 48) ≡ Some side
    → IsReadSide side (letter ∷ digit ∷ [])
worker_side letter digit side low high h = pick (letter == 67) (letter == 83) (eqb-true letter 67) (eqb-true letter 83) h
  where
    name : List ℕ
    name = letter ∷ digit ∷ []

    fits : IsBetween 1 8 (digit - 48)
    fits = record { low = omega arith; high = omega arith }

    pick : (c s : Bool) → (c ≡ true → letter ≡ 67) → (s ≡ true → letter ≡ 83)
        → cond c (Some (Cw (digit - 48))) (cond s (Some (Sw (digit - 48))) None) ≡ Some side → IsReadSide side (letter ∷ digit ∷ [])
    pick true s f g e =
        subst (λ (v : Side). IsReadSide v (letter ∷ digit ∷ [])) (same_some (Cw (digit - 48)) side e) (of_client (digit - 48) (letter ∷ digit ∷ []) fits
        (ap (λ (l : ℕ). l ∷ digit ∷ []) (f refl) ∙ ap (λ (d : List ℕ). 67 ∷ d) (digit_text digit low high)))
    pick false true f g e =
        subst (λ (v : Side). IsReadSide v (letter ∷ digit ∷ [])) (same_some (Sw (digit - 48)) side e) (of_server (digit - 48) (letter ∷ digit ∷ []) fits
        (ap (λ (l : ℕ). l ∷ digit ∷ []) (g refl) ∙ ap (λ (d : List ℕ). 83 ∷ d) (digit_text digit low high)))
    pick false false f g e = absurd (let b : ⊥ = cc in b)

tested_side : (t : Bool) (o : Option Side) (side : Side) → cond t o None ≡ Some side → (t ≡ true) × (o ≡ Some side)
tested_side true o side h = (refl, h)
tested_side false o side h = absurd (let b : ⊥ = cc in b)

read_side : (name : List ℕ) (side : Side) → side_named name ≡ Some side → IsReadSide side name
unfolding side_named
read_side [] side h = absurd (let b : ⊥ = cc in b)
read_side (letter ∷ []) side h = end_side letter side h
read_side (letter ∷ digit ∷ []) side h =
    let t = tested_side (nat_le 49 digit && nat_le digit 56) (worker_named letter (digit - 48)) side h in
    let p = and_parts _ _ t.0 in
    worker_side letter digit side (leb-true 49 digit p.0) (leb-true digit 56 p.1) t.1
read_side (letter ∷ digit ∷ more ∷ name) side h = absurd (let b : ⊥ = cc in b)

-- ---- the whole line

-- what bytes say is their one written form
pub record IsWrittenAs (side : Side) (line : LogLine) (bytes : List ℕ) : Type 0 where
  pub lawful : IsLawfulLine side line
  pub text : bytes ≡ line_text side line

record ArePartsOf (side : Side) (line : LogLine) (parts : List (List ℕ)) : Type 0 where
  lawful : IsLawfulLine side line
  all : parts ≡ side_text side ∷ words_of line

with_side-ok : (side said : Side) (r : Result LogLine LineFault) (line : LogLine) → with_side side r ≡ Ok (said, line) → (side ≡ said) × (r ≡ Ok line)
with_side-ok side said (Ok l) line h =
    let e : ◌≡◌ {A = Side × LogLine} (side, l) (said, line) = cc in
    (ap (λ (p : Side × LogLine). p.0) e, ap (λ (p : Side × LogLine). Ok p.1) e)
with_side-ok side said (Err fault) line h = absurd (let b : ⊥ = cc in b)

word_parts : (side said : Side) (name word_name : List ℕ) (parts : List (List ℕ)) (o : Option Word) (line : LogLine) → IsReadSide side name
    → word_named side word_name ≡ o → after_word side o parts ≡ Ok (said, line) → ArePartsOf said line (name ∷ word_name ∷ parts)
word_parts side said name word_name parts None line s is h = absurd (let b : ⊥ = cc in b)
word_parts side said name word_name parts (Some word) line s is h =
    let u = with_side-ok side said (line_of_word word parts) line h in
    let r = s.line word_name word parts line is u.1 in
    subst (λ (v : Side). ArePartsOf v line (name ∷ word_name ∷ parts)) u.0 (record {
      lawful = r.lawful;
      all = ap (λ (n : List ℕ). n ∷ word_name ∷ parts) s.text ∙ ap (λ (ps : List (List ℕ)). side_text side ∷ ps) r.words_are;
    })

side_parts : (said : Side) (name : List ℕ) (parts : List (List ℕ)) (o : Option Side) (line : LogLine) → side_named name ≡ o
    → after_side o parts ≡ Ok (said, line) → ArePartsOf said line (name ∷ parts)
side_parts said name parts None line is h = absurd (let b : ⊥ = cc in b)
side_parts said name [] (Some side) line is h = absurd (let b : ⊥ = cc in b)
side_parts said name (word_name ∷ parts) (Some side) line is h =
    word_parts side said name word_name parts (word_named side word_name) line (read_side name side is) refl h

all_parts : (side : Side) (line : LogLine) (parts : List (List ℕ)) → line_of_parts parts ≡ Ok (side, line) → ArePartsOf side line parts
all_parts side line [] h = absurd (let b : ⊥ = cc in b)
all_parts side line (name ∷ parts) h = side_parts side name parts (side_named name) line refl h

tested : (t : Bool) (r : Result (Side × LogLine) LineFault) (x : Side × LogLine) → cond t (Err faults.Long) r ≡ Ok x → r ≡ Ok x
tested true r x h = absurd (let b : ⊥ = cc in b)
tested false r x h = h

pub only_written : (bytes : List ℕ) (side : Side) (line : LogLine) → reading_of bytes ≡ Ok (side, line) → IsWrittenAs side line bytes
unfolding reading_of
only_written bytes side line h =
    let p = all_parts side line (parts_of bytes) (tested (nat_lt 16400 (length bytes)) (line_of_parts (parts_of bytes)) (side, line) h) in
    record { lawful = p.lawful; text = sym (join_with_byte-slice_split 32 bytes) ∙ ap (join_with_byte 32) p.all }
