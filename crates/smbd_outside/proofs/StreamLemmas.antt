-- What one read or write after another does to the bytes of a source and of a sink.
use Rattle.std.proofs.Common.{◌≡◌, ℕ, ◌+◌, ◌-◌, ◌<◌, ◌≤◌, min, arith, List, [], ◌++◌, Option, length, take, drop, refl, sym, ap, ◌∙◌, subst, append_assoc, append-nil, take-append-drop, take_at, length-take-le, length-append, length-take, length-drop, drop-drop, drop_of_length-le}
use Rattle.std.proofs.Math.Seq.{take-append-add}
use Rattle.std.proofs.lemmas.List.{take-append-le}
use borrow.Rule.Slice.PartMut.{put_mid, post_of}
use Rattle.std.specs.Io.KnownBytes.{Appends, Consumes, Keeps}
use Rattle.std.proofs.KnownBytes.{Appends-nil, Appends-trans, Appends-kept, Consumes-nil, Consumes-trans, Consumes-kept}
use Rattle.smbd_outside.specs.Streams.{AppendsFront, Gains}

-- a sink got the piece but for this rest
pub record IsWritten (before now : Option (List ℕ)) (piece rest : List ℕ) : Type 0 where
  pub front : List ℕ
  pub whole : front ++ rest ≡ piece
  pub got : Appends before now front

pub written_none : (sink : Option (List ℕ)) (piece : List ℕ) → IsWritten sink sink piece piece
written_none sink piece = record { front = []; whole = refl; got = Appends-nil sink }

pub written_more : (a b c : Option (List ℕ)) (piece rest : List ℕ) (count : ℕ) → IsWritten a b piece rest → Appends b c (take count rest)
    → IsWritten a c piece (drop count rest)
written_more a b c piece rest count before more = record {
  front = before.front ++ take count rest;
  whole = append_assoc before.front (take count rest) (drop count rest) ∙ ap (λ xs. before.front ++ xs) (take-append-drop count rest) ∙ before.whole;
  got = Appends-trans a b c before.front (take count rest) before.got more;
}

pub written_all : (a b : Option (List ℕ)) (piece rest : List ℕ) → IsWritten a b piece rest → rest ≡ [] → Appends a b piece
written_all a b piece rest before none =
    subst (Appends a b) (sym (append-nil before.front) ∙ ap (λ xs. before.front ++ xs) (sym none) ∙ before.whole) before.got

pub written_front : (a b c : Option (List ℕ)) (piece rest : List ℕ) → IsWritten a b piece rest → Keeps b c → AppendsFront a c piece
written_front a b c piece rest before kept =
    record { front = before.front; begins = (rest, before.whole); got = Appends-kept a b c before.front before.got kept }

pub gains_none : (source : Option (List ℕ)) (bytes : List ℕ) → Gains source source bytes bytes
gains_none source bytes = record { gained = []; bytes = sym (append-nil bytes); lost = Consumes-nil source }

pub gains_more : (a b c : Option (List ℕ)) (old mid more : List ℕ) → Gains a b old mid → Consumes b c more → Gains a c old (mid ++ more)
gains_more a b c old mid more before lost = record {
  gained = before.gained ++ more;
  bytes = ap (λ xs. xs ++ more) before.bytes ∙ append_assoc old before.gained more;
  lost = Consumes-trans a b c before.gained more before.lost lost;
}

pub gains_kept : (a b c : Option (List ℕ)) (old new : List ℕ) → Gains a b old new → Keeps b c → Gains a c old new
gains_kept a b c old new before kept =
    record { gained = before.gained; bytes = before.bytes; lost = Consumes-kept a b c before.gained before.lost kept }

-- a part of a buffer was read into from place f on: its front has n bytes more
pub take-put_mid_more : (f k n : ℕ) (xs ys : List ℕ) → f ≤ length xs → n ≤ length ys → take (f + n) (put_mid f k xs ys) ≡ take f xs ++ take n ys
take-put_mid_more f k n xs ys within fits =
    let long : length (take f xs) ≡ f = length-take-le f xs within in
    ap (λ m. take (m + n) (put_mid f k xs ys)) (sym long) ∙ take-append-add (take f xs) (ys ++ post_of f k xs) n
    ∙ ap (λ part. take f xs ++ part) (take-append-le n ys (post_of f k xs) fits)

-- what a memory source gave is the front of what was left
pub gives_front : (bytes left front room : List ℕ) (given n : ℕ) → drop given bytes ≡ left → front ≡ take n left → n ≤ length left
    → left ≡ take n (front ++ room) ++ drop (given + n) bytes
gives_front bytes left front room given n from gave fits =
    let first : take n (front ++ room) ≡ take n left = take_at front room n (ap length gave ∙ length-take-le n left fits) ∙ gave in
    let later : drop (given + n) bytes ≡ drop n left = sym (drop-drop n given bytes) ∙ ap (drop n) from in
    sym (take-append-drop n left) ∙ ap (λ xs. xs ++ drop n left) (sym first) ∙ ap (λ xs. take n (front ++ room) ++ xs) (sym later)

-- a memory source that gave nothing into a buffer with room has nothing left
pub gives_none : (bytes left front buf : List ℕ) (given n most : ℕ) → drop given bytes ≡ left → length front ≡ length (take n buf)
    → n ≡ min (min (length buf) most) (length left) → 1 ≤ most → n ≡ 0 → 0 < length (front ++ drop n buf) → drop (given + n) bytes ≡ []
gives_none bytes left front buf given n most from long count some zero room =
    let size : length left ≡ length bytes - given = ap length (sym from) ∙ length-drop given bytes in
    drop_of_length-le bytes (omega (arith, length-append front (drop n buf), length-take n buf, length-drop n buf))
