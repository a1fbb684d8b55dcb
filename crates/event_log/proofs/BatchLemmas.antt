-- What one piece after another does to the bytes that are held and written.
use Rattle.std.proofs.Common.{◌≡◌, ◌≢◌, ◌==◌, false, ℕ, ◌+◌, ◌<◌, ◌≤◌, length, get_or, take, drop, take-append-drop, OnErr, List, [], ◌∷◌, ◌++◌, Option, Result, Ok, Err, OnOk, refl, sym, ap, ◌∙◌, append_assoc, append-nil, subst}
use Rattle.std.specs.Prelude.{All}
use Rattle.std.specs.List.{slice_split}
use Rattle.std.proofs.lemmas.Bool.{ne_eqb}
use Rattle.std.proofs.lemmas.List.Elements.{All-head, All-tail, All-get_or, All-from_get_or}
use Rattle.std.proofs.lemmas.List.Splits.{slice_split_at}
use Rattle.std.specs.Io.KnownBytes.{Appends}
use Rattle.std.proofs.KnownBytes.{Appends-nil, Appends-trans}
use Rattle.std.proofs.lemmas.Grind.{flat_map-append}
use Rattle.std.proofs.lemmas.List.{take_more, drop_more, take_all}
use Rattle.smbd_outside.specs.Streams.{AppendsFront}
use Rattle.event_log.specs.Batches.{IsBatched}
use Rattle.event_log.specs.Lines.{lines_text}

pub held_none : (sink : Option (List ℕ)) → IsBatched sink sink [] []
held_none sink = record { front = []; whole = refl; got = Appends-nil sink }

pub held_more : (a b c : Option (List ℕ)) (bytes held more later : List ℕ) → IsBatched a b bytes held → IsBatched b c (held ++ more) later
    → IsBatched a c (bytes ++ more) later
held_more a b c bytes held more later before after = record {
  front = before.front ++ after.front;
  whole =
      ap (λ (xs : List ℕ). xs ++ more) before.whole ∙ append_assoc before.front held more
      ∙ ap (λ (xs : List ℕ). before.front ++ xs) after.whole ∙ sym (append_assoc before.front after.front later);
  got = Appends-trans a b c before.front after.front before.got after.got;
}

-- all that was held is written
pub held_all : (a b c : Option (List ℕ)) (bytes held : List ℕ) → IsBatched a b bytes held → Appends b c held → IsBatched a c bytes []
held_all a b c bytes held before more = record {
  front = before.front ++ held;
  whole = before.whole ∙ sym (append-nil (before.front ++ held));
  got = Appends-trans a b c before.front held before.got more;
}

pub all_written : (a b : Option (List ℕ)) (bytes : List ℕ) → IsBatched a b bytes [] → Appends a b bytes
all_written a b bytes h =
    let P : List ℕ → Type 0 = λ xs. Appends a b xs in
    subst P (sym (h.whole ∙ append-nil h.front)) h.got

-- two pieces written whole, one after the other
pub both_written : {E : Type 0} (r : Result (Unit {0}) E) (a b c : Option (List ℕ)) (x x' y held : List ℕ) → x' ≡ x → Appends a b x'
    → OnOk r (Appends b c y) → held ≡ [] → OnOk r (IsBatched a c (x ++ y) held)
both_written (Ok done) a b c x x' y held same first second none = record {
  front = x' ++ y;
  whole = ap (λ (xs : List ℕ). xs ++ y) (sym same) ∙ sym (append-nil (x' ++ y)) ∙ ap (λ (xs : List ℕ). x' ++ y ++ xs) (sym none);
  got = Appends-trans a b c x' y first second;
}
both_written (Err failed) a b c x x' y held same first second none = tt

-- a front of what was held and of more is a front of the whole
pub front_of : (a b c : Option (List ℕ)) (bytes held more rest whole : List ℕ) → IsBatched a b bytes held → AppendsFront b c (held ++ more)
    → whole ≡ (bytes ++ more) ++ rest → AppendsFront a c whole
front_of a b c bytes held more rest whole before part is = record {
  front = before.front ++ part.front;
  begins = (
    part.begins.0 ++ rest,
    append_assoc before.front part.front (part.begins.0 ++ rest)
        ∙ ap (λ (xs : List ℕ). before.front ++ xs) (sym (append_assoc part.front part.begins.0 rest) ∙ ap (λ (xs : List ℕ). xs ++ rest) part.begins.1)
        ∙ sym (append_assoc before.front (held ++ more) rest)
        ∙ ap (λ (xs : List ℕ). xs ++ rest) (sym (append_assoc before.front held more) ∙ ap (λ (xs : List ℕ). xs ++ more) (sym before.whole))
        ∙ sym is,
  );
  got = Appends-trans a b c before.front part.front before.got part.got;
}

-- a front of all that was held
pub held_front_of : {E : Type 0} (r : Result (Unit {0}) E) (a b c : Option (List ℕ)) (bytes held held' : List ℕ) → IsBatched a b bytes held
    → held' ≡ held → OnErr r (AppendsFront b c held') → OnErr r (AppendsFront a c bytes)
held_front_of (Ok done) a b c bytes held held' before same part = tt
held_front_of (Err failed) a b c bytes held held' before same part =
    let P : List ℕ → Type 0 = λ xs. AppendsFront b c xs in
    front_of a b c bytes held [] [] bytes before (subst P (same ∙ sym (append-nil held)) part)
    (sym (append-nil bytes) ∙ sym (append-nil (bytes ++ [])))

-- the text of lines, at the line with this place
pub lines_text-at : (lines : List (List ℕ)) (i : ℕ) (line : List ℕ) → i < length lines → line ≡ get_or lines i line
    → lines_text lines ≡ (lines_text (take i lines) ++ line) ++ (10 ∷ lines_text (drop (i + 1) lines))
lines_text-at lines i line below is =
    let rest = lines_text (drop (i + 1) lines) in
    let front = lines_text (take i lines) in
    let parts : drop i lines ≡ line ∷ drop (i + 1) lines =
    drop_more lines i line below ∙ ap (λ (l : List ℕ). l ∷ drop (i + 1) lines) (sym is) in
    ap lines_text (sym (take-append-drop i lines)) ∙ flat_map-append (λ (l : List ℕ). l ++ 10 ∷ []) (take i lines) (drop i lines)
    ∙ ap (λ (ls : List (List ℕ)). front ++ lines_text ls) parts
    ∙ ap (λ (xs : List ℕ). front ++ xs) (append_assoc line (10 ∷ []) rest)
    ∙ sym (append_assoc front line (10 ∷ rest))

pub lines_text-more : (lines : List (List ℕ)) (i : ℕ) (line : List ℕ) → i < length lines → line ≡ get_or lines i line
    → lines_text (take (i + 1) lines) ≡ (lines_text (take i lines) ++ line) ++ 10 ∷ []
lines_text-more lines i line below is =
    let front = lines_text (take i lines) in
    ap lines_text (take_more lines i line below ∙ ap (λ (l : List ℕ). take i lines ++ l ∷ []) (sym is))
    ∙ flat_map-append (λ (l : List ℕ). l ++ 10 ∷ []) (take i lines) (line ∷ [])
    ∙ ap (λ (xs : List ℕ). front ++ xs) (append-nil (line ++ 10 ∷ []))
    ∙ sym (append_assoc front line (10 ∷ []))

pub on_err : {T E : Type 0} {P : Type 0} (r : Result T E) → P → OnErr r P
on_err (Ok value) h = tt
on_err (Err failed) h = h

-- A line and its line feed are added to the lines before it: what is held then, and the front that was written where
-- the first or the second of them failed.
module _ (a b : Option (List ℕ)) (lines : List (List ℕ)) (i : ℕ) (line bytes held : List ℕ) (below : i < length lines)
    (is : line ≡ get_or lines i line) (same : bytes ≡ line) (before : IsBatched a b (lines_text (take i lines)) held) where
  whole_at : lines_text lines ≡ (lines_text (take i lines) ++ bytes) ++ (10 ∷ lines_text (drop (i + 1) lines))
  whole_at =
      lines_text-at lines i line below is
      ∙ ap (λ (l : List ℕ). (lines_text (take i lines) ++ l) ++ (10 ∷ lines_text (drop (i + 1) lines))) (sym same)

  pub line_held : (c d : Option (List ℕ)) (mid later : List ℕ) → IsBatched b c (held ++ bytes) mid → IsBatched c d (mid ++ 10 ∷ []) later
      → IsBatched a d (lines_text (take (i + 1) lines)) later
  line_held c d mid later first second =
      let P : List ℕ → Type 0 = λ xs. IsBatched a d xs later in
      subst P (ap (λ (l : List ℕ). (lines_text (take i lines) ++ l) ++ 10 ∷ []) same ∙ sym (lines_text-more lines i line below is))
      (held_more a c d (lines_text (take i lines) ++ bytes) mid (10 ∷ []) later
      (held_more a b c (lines_text (take i lines)) held bytes mid before first) second)

  pub line_front : (c : Option (List ℕ)) → AppendsFront b c (held ++ bytes) → AppendsFront a c (lines_text lines)
  line_front c part = front_of a b c (lines_text (take i lines)) held bytes (10 ∷ lines_text (drop (i + 1) lines)) (lines_text lines) before part whole_at

  pub feed_front : (c d : Option (List ℕ)) (mid : List ℕ) → IsBatched b c (held ++ bytes) mid → AppendsFront c d (mid ++ 10 ∷ [])
      → AppendsFront a d (lines_text lines)
  feed_front c d mid first part =
      front_of a c d (lines_text (take i lines) ++ bytes) mid (10 ∷ []) (lines_text (drop (i + 1) lines)) (lines_text lines)
      (held_more a b c (lines_text (take i lines)) held bytes mid before first) part
      (whole_at ∙ sym (append_assoc (lines_text (take i lines) ++ bytes) (10 ∷ []) (lines_text (drop (i + 1) lines))))

pub all_lines_held : (a b : Option (List ℕ)) (lines : List (List ℕ)) (i : ℕ) (held : List ℕ) → length lines ≤ i
    → IsBatched a b (lines_text (take i lines)) held → IsBatched a b (lines_text lines) held
all_lines_held a b lines i held all before =
    let P : List (List ℕ) → Type 0 = λ ls. IsBatched a b (lines_text ls) held in
    subst P (take_all i lines all) before

-- a text of lines without line feeds falls apart into them
pub lines_apart : (lines : List (List ℕ)) → All (λ (line : List ℕ). All (λ (b : ℕ). b ≢ 10) line) lines
    → slice_split (λ (b : ℕ). b == 10) (lines_text lines) ≡ lines ++ [] ∷ []
lines_apart [] h = refl
lines_apart (line ∷ lines) h =
    let plain = All-head (λ (l : List ℕ). All (λ (b : ℕ). b ≢ 10) l) line lines h in
    let other : All (λ (b : ℕ). (b == 10) ≡ false) line =
    All-from_get_or (λ (b : ℕ). (b == 10) ≡ false) line 0 (λ i below. ne_eqb (get_or line i 0) 10 (All-get_or (λ (b : ℕ). b ≢ 10) line i 0 below plain)) in
    ap (slice_split (λ (b : ℕ). b == 10)) (append_assoc line (10 ∷ []) (lines_text lines))
    ∙ slice_split_at (λ (b : ℕ). b == 10) line 10 (lines_text lines) other refl
    ∙ ap (λ (ls : List (List ℕ)). line ∷ ls) (lines_apart lines (All-tail (λ (l : List ℕ). All (λ (b : ℕ). b ≢ 10) l) line lines h))
