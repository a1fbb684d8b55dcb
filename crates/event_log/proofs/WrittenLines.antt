-- What is written reads back.
use Rattle.std.proofs.Common.{◌≡◌, ◌≢◌, ℕ, ◌+◌, ◌-◌, ◌*◌, ◌/◌, ◌%◌, ◌^◌, ◌<◌, ◌≤◌, List, [], ◌∷◌, ◌++◌, length, Option, Some, Result, Ok, decimal, refl, sym, ap, ◌∙◌, subst, arith, le-ltb, le-leb}
use Rattle.std.specs.Prelude.{All, codes}
use Rattle.std.specs.List.{join_with_byte}
use Rattle.std.proofs.lemmas.Fmt.{decimal_digit}
use Rattle.std.proofs.lemmas.List.Elements.{All-nil, All-cons}
use Rattle.hex.specs.Hex.{encode_lower, lower_digits}
use Rattle.hex.proofs.HexLemmas.{length-encode_with}
use Rattle.smbd_base.specs.declared.limits.TheConstants.{MOST_CREDITS, MOST_FRAME_SIZE}
use Rattle.smbd_base.specs.declared.token.TheConstants.{PAGE_SIZE}
use Rattle.smbd_base.specs.Tokens.{PageToken, IsToken, number_of}
use Rattle.smbd_base.specs.declared.right.Right.{Right}
use Rattle.smbd_base.specs.declared.right.Right.TheVariants as rights
use Rattle.event_log.specs.declared.side.Side.{Side}
use Rattle.event_log.specs.declared.side.Side.TheVariants.{C, S, Cw, Sw}
use Rattle.event_log.specs.declared.log_line.LogLine.{LogLine}
use Rattle.event_log.specs.declared.log_line.LogLine.TheVariants.{Post, Submit, Emit, Take, Cut, Load, Fetch, Place, Unload}
use Rattle.event_log.specs.declared.fault.LineFault.{LineFault}
use Rattle.event_log.specs.declared.word.Word.{Word}
use Rattle.event_log.specs.declared.word.Word.TheVariants as words
use Rattle.event_log.specs.Lines.{side_text, right_text, words_of, line_text, IsBetween, IsEnd, IsWorker, FitsPage, IsLawfulLine}
use Rattle.event_log.specs.Reading.{side_named, end_word, page_word, right_named, word_named, number_in, token_numbered, post_of, submit_of, emit_of, take_of, load_of, fetch_of, place_of, unload_of, after_side, after_word, with_side, or_number, line_of_word, line_of_parts, reading_of}
use Rattle.event_log.proofs.NumberLemmas.{number_in-inside}
use Rattle.event_log.proofs.FrameTexts.{frame_line-encode}
use Rattle.event_log.proofs.PlainParts.{IsPlain, ArePlain, plain_from_test, decimal-plain, encode-plain, parts_of-join, no_feed-join, total, length-join, decimal-short}

-- ---- sides

-- what is known of the name of a side
record IsNamed (side : Side) : Type 0 where
  named : side_named (side_text side) ≡ Some side
  plain : IsPlain (side_text side)
  short : length (side_text side) ≤ 2

end_named-back : (side : Side) → IsEnd side → IsNamed side
unfolding side_named
end_named-back C e = record { named = refl; plain = plain_from_test (codes "C") refl; short = omega arith }
end_named-back S e = record { named = refl; plain = plain_from_test (codes "S") refl; short = omega arith }
end_named-back (Cw worker) e = absurd e
end_named-back (Sw worker) e = absurd e

digit_is : (worker : ℕ) → IsBetween 1 8 worker → decimal worker ≡ (48 + worker) ∷ []
digit_is worker b = let high = b.high in decimal_digit worker (omega arith)

two_plain : (a b : ℕ) → 33 ≤ a → 33 ≤ b → IsPlain (a ∷ b ∷ [])
two_plain a b h k = All-cons (λ (x : ℕ). 33 ≤ x) a (b ∷ []) h (All-cons (λ (x : ℕ). 33 ≤ x) b [] k (All-nil (λ (x : ℕ). 33 ≤ x)))

worker_named-back : (side : Side) → IsWorker side → IsNamed side
unfolding side_named
worker_named-back C e = absurd e
worker_named-back S e = absurd e
worker_named-back (Cw worker) b =
    let low = b.low in
    let high = b.high in
    let back : 48 + worker - 48 ≡ worker = omega arith in
    let text : side_text (Cw worker) ≡ 67 ∷ (48 + worker) ∷ [] = ap (λ (d : List ℕ). 67 ∷ d) (digit_is worker b) in
    record {
      named = ap side_named text ∙ rw (le-leb 49 (48 + worker) (omega arith), le-leb (48 + worker) 56 (omega arith), back) refl;
      plain = subst IsPlain (sym text) (two_plain 67 (48 + worker) (omega arith) (omega arith));
      short = subst (λ (t : List ℕ). length t ≤ 2) (sym text) (omega arith);
    }
worker_named-back (Sw worker) b =
    let low = b.low in
    let high = b.high in
    let back : 48 + worker - 48 ≡ worker = omega arith in
    let text : side_text (Sw worker) ≡ 83 ∷ (48 + worker) ∷ [] = ap (λ (d : List ℕ). 83 ∷ d) (digit_is worker b) in
    record {
      named = ap side_named text ∙ rw (le-leb 49 (48 + worker) (omega arith), le-leb (48 + worker) 56 (omega arith), back) refl;
      plain = subst IsPlain (sym text) (two_plain 83 (48 + worker) (omega arith) (omega arith));
      short = subst (λ (t : List ℕ). length t ≤ 2) (sym text) (omega arith);
    }

word_of_end : (side : Side) → IsEnd side → (name : List ℕ) → word_named side name ≡ end_word name
word_of_end C e name = refl
word_of_end S e name = refl
word_of_end (Cw worker) e name = absurd e
word_of_end (Sw worker) e name = absurd e

word_of_worker : (side : Side) → IsWorker side → (name : List ℕ) → word_named side name ≡ page_word name
word_of_worker C e name = absurd e
word_of_worker S e name = absurd e
word_of_worker (Cw worker) e name = refl
word_of_worker (Sw worker) e name = refl

-- ---- the parts after the word

read_number : (least most n : ℕ) → n < 2 ^ 64 → least ≤ n → n ≤ most → number_in least most (decimal n) ≡ Some n
read_number least most n small low high = sym (number_in-inside least most n (decimal n) small refl low high)

same_token : (p q g h : ℕ) → p ≡ q → g ≡ h → ◌≡◌ {A = PageToken} (record { page = p; generation = g }) (record { page = q; generation = h })
same_token p q g h a b = rw (a, b) refl

token_back : (token : PageToken) → IsToken token → token_numbered (number_of token) ≡ token
token_back token t =
    let page = t.page in
    same_token (number_of token % 256) token.page (number_of token / 256) token.generation (omega arith) (omega arith)

read_token : (token : PageToken) → IsToken token → number_in 256 4294967295 (decimal (number_of token)) ≡ Some (number_of token)
read_token token t =
    let page = t.page in
    let least = t.least in
    let most = t.most in
    read_number 256 4294967295 (number_of token) (omega arith) (omega arith) (omega arith)

read_right : (right : Right) → right_named (right_text right) ≡ Some right
unfolding right_named
read_right rights.Fetch = refl
read_right rights.Place = refl

post_back : (count : ℕ) → IsBetween 1 MOST_CREDITS count → post_of (decimal count ∷ []) ≡ Some (Post count)
unfolding post_of
post_back count b = let high = b.high in rw (read_number 1 MOST_CREDITS count (omega arith) b.low b.high) refl

submit_back : (len : ℕ) → IsBetween 1 4294967295 len → submit_of (decimal len ∷ []) ≡ Some (Submit len)
unfolding submit_of
submit_back len b = let high = b.high in rw (read_number 1 4294967295 len (omega arith) b.low b.high) refl

take_back : (number len : ℕ) → IsBetween 1 (2 ^ 62 - 1) number → IsBetween 1 MOST_FRAME_SIZE len
    → take_of (decimal number ∷ decimal len ∷ []) ≡ Some (Take number len)
unfolding take_of
take_back number len a b =
    let most = a.high in
    let high = b.high in
    rw (read_number 1 (2 ^ 62 - 1) number (omega arith) a.low a.high, read_number 1 MOST_FRAME_SIZE len (omega arith) b.low b.high) refl

load_back : (token : PageToken) (right : Right) (len : ℕ) → IsToken token → IsBetween 1 PAGE_SIZE len
    → load_of (decimal (number_of token) ∷ right_text right ∷ decimal len ∷ []) ≡ Some (Load token right len)
unfolding load_of
load_back token right len t b =
    let high = b.high in
    rw (read_token token t, read_right right, read_number 1 PAGE_SIZE len (omega arith) b.low b.high, token_back token t) refl

fetch_back : (token : PageToken) (at len : ℕ) → IsToken token → FitsPage at len
    → fetch_of (decimal (number_of token) ∷ decimal at ∷ decimal len ∷ []) ≡ Some (Fetch token at len)
unfolding fetch_of
fetch_back token at len t b =
    let some = b.some in
    let within = b.within in
    rw (
      read_token token t,
      read_number 0 (PAGE_SIZE - 1) at (omega arith) (omega arith) (omega arith),
      read_number 1 (PAGE_SIZE - at) len (omega arith) (omega arith) (omega arith),
      token_back token t,
    ) refl

place_back : (token : PageToken) (order at len : ℕ) → IsToken token → IsBetween 0 65534 order → FitsPage at len
    → place_of (decimal (number_of token) ∷ decimal order ∷ decimal at ∷ decimal len ∷ []) ≡ Some (Place token order at len)
unfolding place_of
place_back token order at len t o b =
    let most = o.high in
    let some = b.some in
    let within = b.within in
    rw (
      read_token token t,
      read_number 0 65534 order (omega arith) o.low o.high,
      read_number 0 (PAGE_SIZE - 1) at (omega arith) (omega arith) (omega arith),
      read_number 1 (PAGE_SIZE - at) len (omega arith) (omega arith) (omega arith),
      token_back token t,
    ) refl

unload_back : (token : PageToken) → IsToken token → unload_of (decimal (number_of token) ∷ []) ≡ Some (Unload token)
unfolding unload_of
unload_back token t = rw (read_token token t, token_back token t) refl

-- ---- the whole line

-- a side, a word and the parts after it, each of which reads
parts_read : (side : Side) (name : List ℕ) (parts : List (List ℕ)) (word : Word) (line : LogLine) → side_named (side_text side) ≡ Some side
    → word_named side name ≡ Some word → line_of_word word parts ≡ Ok line → line_of_parts (side_text side ∷ name ∷ parts) ≡ Ok (side, line)
parts_read side name parts word line named is reads =
    ap (λ (o : Option Side). after_side o (name ∷ parts)) named ∙ ap (λ (o : Option Word). after_word side o parts) is ∙ ap (with_side side) reads

end_read : (side : Side) (name : List ℕ) (parts : List (List ℕ)) (word : Word) (line : LogLine) → IsEnd side → end_word name ≡ Some word
    → line_of_word word parts ≡ Ok line → line_of_parts (side_text side ∷ name ∷ parts) ≡ Ok (side, line)
end_read side name parts word line e is reads =
    parts_read side name parts word line (end_named-back side e).named (word_of_end side e name ∙ is) reads

page_read : (side : Side) (name : List ℕ) (parts : List (List ℕ)) (word : Word) (line : LogLine) → IsWorker side → page_word name ≡ Some word
    → line_of_word word parts ≡ Ok line → line_of_parts (side_text side ∷ name ∷ parts) ≡ Ok (side, line)
page_read side name parts word line e is reads =
    parts_read side name parts word line (worker_named-back side e).named (word_of_worker side e name ∙ is) reads

lawful_read : (side : Side) (line : LogLine) → IsLawfulLine side line → line_of_parts (side_text side ∷ words_of line) ≡ Ok (side, line)
unfolding end_word page_word emit_of
lawful_read side (Post count) h = end_read side (codes "post") _ words.Post (Post count) h.0.0 refl (ap or_number (post_back count h.0.1))
lawful_read side (Submit len) h = end_read side (codes "submit") _ words.Submit (Submit len) h.0.0 refl (ap or_number (submit_back len h.0.1))
lawful_read side (Emit frame) h = end_read side (codes "emit") _ words.Emit (Emit frame) h.0.0 refl (frame_line-encode frame h.0.1 h.1)
lawful_read side (Take number len) h = end_read side (codes "take") _ words.Take (Take number len) h.0.0 refl (ap or_number (take_back number len h.0.1 h.0.2))
lawful_read side Cut h = end_read side (codes "cut") [] words.Cut Cut h.0 refl refl
lawful_read side (Load token right len) h =
    page_read side (codes "load") _ words.Load (Load token right len) h.0.0 refl (ap or_number (load_back token right len h.0.1 h.0.2))
lawful_read side (Fetch token at len) h =
    page_read side (codes "fetch") _ words.Fetch (Fetch token at len) h.0.0 refl (ap or_number (fetch_back token at len h.0.1 h.0.2))
lawful_read side (Place token order at len) h =
    page_read side (codes "place") _ words.Place (Place token order at len) h.0.0 refl (ap or_number (place_back token order at len h.0.1 h.0.2 h.0.3))
lawful_read side (Unload token) h =
    page_read side (codes "unload") _ words.Unload (Unload token) h.0.0 refl (ap or_number (unload_back token h.0.1))

-- what is known of the parts of a line
record IsSpelled (side : Side) (line : LogLine) : Type 0 where
  side_plain : IsPlain (side_text side)
  plain : ArePlain (words_of line)
  short : length (side_text side) + total (words_of line) ≤ 16400

right-plain : (right : Right) → IsPlain (right_text right)
right-plain rights.Fetch = plain_from_test (codes "fetch") refl
right-plain rights.Place = plain_from_test (codes "place") refl

right-short : (right : Right) → length (right_text right) ≤ 5
right-short rights.Fetch = omega arith
right-short rights.Place = omega arith

number_spelled : (token : PageToken) → IsToken token → number_of token < 2 ^ 64
number_spelled token t =
    let page = t.page in
    let most = t.most in
    omega arith

spelled : (side : Side) (line : LogLine) → IsLawfulLine side line → IsSpelled side line
spelled side (Post count) h =
    let n = end_named-back side h.0.0 in
    let brief = n.short in
    let high = h.0.1.high in
    let small : count < 2 ^ 64 = omega arith in
    let digits = decimal-short count small in
    record { side_plain = n.plain; plain = (plain_from_test (codes "post") refl, (decimal-plain count small, tt)); short = omega arith }
spelled side (Submit len) h =
    let n = end_named-back side h.0.0 in
    let brief = n.short in
    let high = h.0.1.high in
    let small : len < 2 ^ 64 = omega arith in
    let digits = decimal-short len small in
    record { side_plain = n.plain; plain = (plain_from_test (codes "submit") refl, (decimal-plain len small, tt)); short = omega arith }
spelled side (Emit frame) h =
    let n = end_named-back side h.0.0 in
    let brief = n.short in
    let high = h.0.1.high in
    let digits : length (encode_lower frame) ≡ 2 * length frame = length-encode_with lower_digits frame in
    record { side_plain = n.plain; plain = (plain_from_test (codes "emit") refl, (encode-plain frame h.1, tt)); short = omega arith }
spelled side (Take number len) h =
    let n = end_named-back side h.0.0 in
    let brief = n.short in
    let most = h.0.1.high in
    let high = h.0.2.high in
    let small : number < 2 ^ 64 = omega arith in
    let small_len : len < 2 ^ 64 = omega arith in
    let digits = decimal-short number small in
    let more = decimal-short len small_len in
    record {
      side_plain = n.plain;
      plain = (plain_from_test (codes "take") refl, (decimal-plain number small, (decimal-plain len small_len, tt)));
      short = omega arith;
    }
spelled side Cut h =
    let n = end_named-back side h.0 in
    let brief = n.short in
    record { side_plain = n.plain; plain = (plain_from_test (codes "cut") refl, tt); short = omega arith }
spelled side (Load token right len) h =
    let n = worker_named-back side h.0.0 in
    let brief = n.short in
    let high = h.0.2.high in
    let small = number_spelled token h.0.1 in
    let small_len : len < 2 ^ 64 = omega arith in
    let digits = decimal-short (number_of token) small in
    let name = right-short right in
    let more = decimal-short len small_len in
    record {
      side_plain = n.plain;
      plain = (plain_from_test (codes "load") refl, (decimal-plain (number_of token) small, (right-plain right, (decimal-plain len small_len, tt))));
      short = omega arith;
    }
spelled side (Fetch token at len) h =
    let n = worker_named-back side h.0.0 in
    let brief = n.short in
    let within = h.0.2.within in
    let small = number_spelled token h.0.1 in
    let small_at : at < 2 ^ 64 = omega arith in
    let small_len : len < 2 ^ 64 = omega arith in
    let digits = decimal-short (number_of token) small in
    let place = decimal-short at small_at in
    let more = decimal-short len small_len in
    record {
      side_plain = n.plain;
      plain = (plain_from_test (codes "fetch") refl, (decimal-plain (number_of token) small, (decimal-plain at small_at, (decimal-plain len small_len, tt))));
      short = omega arith;
    }
spelled side (Place token order at len) h =
    let n = worker_named-back side h.0.0 in
    let brief = n.short in
    let most = h.0.2.high in
    let within = h.0.3.within in
    let small = number_spelled token h.0.1 in
    let small_order : order < 2 ^ 64 = omega arith in
    let small_at : at < 2 ^ 64 = omega arith in
    let small_len : len < 2 ^ 64 = omega arith in
    let digits = decimal-short (number_of token) small in
    let count = decimal-short order small_order in
    let place = decimal-short at small_at in
    let more = decimal-short len small_len in
    record {
      side_plain = n.plain;
      plain = (plain_from_test (codes "place") refl, (decimal-plain (number_of token) small, (decimal-plain order small_order, (decimal-plain at small_at, (decimal-plain len small_len, tt)))));
      short = omega arith;
    }
spelled side (Unload token) h =
    let n = worker_named-back side h.0.0 in
    let brief = n.short in
    let small = number_spelled token h.0.1 in
    let digits = decimal-short (number_of token) small in
    record { side_plain = n.plain; plain = (plain_from_test (codes "unload") refl, (decimal-plain (number_of token) small, tt)); short = omega arith }

pub read_back : (side : Side) (line : LogLine) → IsLawfulLine side line → reading_of (line_text side line) ≡ Ok (side, line)
unfolding reading_of
read_back side line h =
    let s = spelled side line h in
    let brief = s.short in
    let long : length (line_text side line) ≤ 16400 = omega (arith, length-join (side_text side) (words_of line)) in
    rw (le-ltb 16400 (length (line_text side line)) long, parts_of-join (side_text side) (words_of line) s.side_plain s.plain) (lawful_read side line h)

pub no_feed_in : (side : Side) (line : LogLine) → IsLawfulLine side line → All (λ (b : ℕ). b ≢ 10) (line_text side line)
no_feed_in side line h = let s = spelled side line h in no_feed-join (side_text side) (words_of line) s.side_plain s.plain

same_read : (s t : Side) (l m : LogLine) → ◌≡◌ {A = Result (Side × LogLine) LineFault} (Ok (s, l)) (Ok (t, m)) → (s ≡ t) × (l ≡ m)
same_read s t l m h =
    let e : ◌≡◌ {A = Side × LogLine} (s, l) (t, m) = cc in
    (ap (λ (p : Side × LogLine). p.0) e, ap (λ (p : Side × LogLine). p.1) e)

pub same_line : (s t : Side) (l m : LogLine) → IsLawfulLine s l → IsLawfulLine t m → line_text s l ≡ line_text t m → (s ≡ t) × (l ≡ m)
same_line s t l m h k e = same_read s t l m (sym (read_back s l h) ∙ ap reading_of e ∙ read_back t m k)

-- a line as its side and its words
pub line_text-words : (side : Side) (line : LogLine) → line_text side line ≡ side_text side ++ 32 ∷ join_with_byte 32 (words_of line)
line_text-words side (Post count) = refl
line_text-words side (Submit len) = refl
line_text-words side (Emit frame) = refl
line_text-words side (Take number len) = refl
line_text-words side Cut = refl
line_text-words side (Load token right len) = refl
line_text-words side (Fetch token at len) = refl
line_text-words side (Place token order at len) = refl
line_text-words side (Unload token) = refl
