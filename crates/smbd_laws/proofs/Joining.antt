-- The pieces of a message make the message.
use Rattle.std.proofs.Common.{◌≡◌, ℕ, zero, suc, ◌+◌, ◌*◌, ◌-◌, ◌/◌, ◌≤◌, ◌<◌, min, List, [], ◌∷◌, ◌++◌, length, take, drop, map, refl, ap, sym, ◌∙◌, append-nil, arith}
use Rattle.std.specs.List.{All, flat_map}
use Rattle.std.proofs.lemmas.List.{length-take, length-drop, take-append-drop}
use Rattle.std.proofs.lemmas.List.Elements.{All-nil, All-cons}
use Rattle.smbd_base.specs.Pieces.{Piece, front_pieces, pieces_count, pieces_of, joined, IsUnbroken, IsWhole, AreWhole, AreFilled, SplitsInto}

-- ---- so many pieces that the message has no more bytes

pub joined-front_pieces : (count size : ℕ) (message : List ℕ) → length message ≤ count * size → joined (front_pieces count size message) ≡ message
joined-front_pieces zero size [] fits = refl
joined-front_pieces zero size (x ∷ xs) fits = absurd (omega arith)
joined-front_pieces (suc count) size message fits =
    ap (λ (bytes : List ℕ). take size message ++ bytes) (joined-front_pieces count size (drop size message) (omega (arith, length-drop size message)))
    ∙ take-append-drop size message

front_pieces-run : (count size : ℕ) (message : List ℕ) → length message ≤ count * size → IsUnbroken 0 (front_pieces count size message)
front_pieces-run zero size message fits = tt
front_pieces-run (suc count) size message fits =
    let fewer : length (drop size message) ≤ count * size = omega (arith, length-drop size message) in
    let later = joined-front_pieces count size (drop size message) fewer in
    (rw later (omega (arith, length-drop size message)), front_pieces-run count size (drop size message) fewer)

-- ---- so few that none of them is empty

front_pieces-filled : (count size : ℕ) (message : List ℕ) → 0 < size → count * size < length message + size → AreFilled (front_pieces count size message)
front_pieces-filled zero size message some few = tt
front_pieces-filled (suc count) size message some few =
    (omega (arith, length-take size message), front_pieces-filled count size (drop size message) some (omega (arith, length-drop size message)))

front_pieces-small : (count size : ℕ) (message : List ℕ) → All (λ (p : Piece). length p.payload ≤ size) (front_pieces count size message)
front_pieces-small zero size message = All-nil (λ (p : Piece). length p.payload ≤ size)
front_pieces-small (suc count) size message =
    All-cons (λ (p : Piece). length p.payload ≤ size) _ _ (omega (arith, length-take size message)) (front_pieces-small count size (drop size message))

-- ---- both

-- a piece of at most so many bytes, of a message of at most so many; it is not empty
pub record IsPart (size max : ℕ) (p : Piece) : Type 0 where
  pub filled : 0 < length p.payload
  pub short : length p.payload ≤ size
  pub within : length p.payload + p.remaining ≤ max

front_pieces-parts : (count size max : ℕ) (message : List ℕ) → 0 < size → count * size < length message + size → length message ≤ max → All (IsPart size max) (front_pieces count size message)
front_pieces-parts zero size max message some few fits = All-nil (IsPart size max)
front_pieces-parts (suc count) size max message some few fits =
    let long : length (take size message) ≡ min size (length message) = length-take size message in
    All-cons (IsPart size max) _ _ (record { filled = omega arith; short = omega arith; within = omega arith })
    (front_pieces-parts count size max (drop size message) some (omega (arith, length-drop size message)) (omega (arith, length-drop size message)))

-- ---- just as many as it takes

enough : (n size : ℕ) → 0 < size → n ≤ (n + size - 1) / size * size
enough n size some = omega arith

not_more : (n size : ℕ) → 0 < size → (n + size - 1) / size * size < n + size
not_more n size some = omega arith

some_pieces : (count size : ℕ) (message : List ℕ) → 0 < length message → length message ≤ count * size → 0 < length (front_pieces count size message)
some_pieces zero size message some fits = absurd (omega arith)
some_pieces (suc count) size message some fits = omega arith

pub joined-pieces_of : (size : ℕ) (message : List ℕ) → 0 < size → joined (pieces_of size message) ≡ message
unfolding pieces_of
joined-pieces_of size message some = joined-front_pieces (pieces_count size message) size message (enough (length message) size some)

pub pieces_of-whole : (size : ℕ) (message : List ℕ) → 0 < size → 0 < length message → IsWhole (pieces_of size message)
unfolding pieces_of
pieces_of-whole size message some bytes = record {
  some = some_pieces (pieces_count size message) size message bytes (enough (length message) size some);
  unbroken = front_pieces-run (pieces_count size message) size message (enough (length message) size some);
}

pub pieces_of-filled : (size : ℕ) (message : List ℕ) → 0 < size → AreFilled (pieces_of size message)
unfolding pieces_of
pieces_of-filled size message some = front_pieces-filled (pieces_count size message) size message some (not_more (length message) size some)

pub pieces_of-small : (size : ℕ) (message : List ℕ) → All (λ (p : Piece). length p.payload ≤ size) (pieces_of size message)
unfolding pieces_of
pieces_of-small size message = front_pieces-small (pieces_count size message) size message

pub pieces_of-parts : (size max : ℕ) (message : List ℕ) → 0 < size → length message ≤ max → All (IsPart size max) (pieces_of size message)
unfolding pieces_of
pieces_of-parts size max message some fits = front_pieces-parts (pieces_count size message) size max message some (not_more (length message) size some) fits

-- ---- the pieces of messages

-- each message has a byte
abbrev pub AreSome : List (List ℕ) → Type 0
AreSome [] = Unit {0}
AreSome (m ∷ messages) = (0 < length m) × AreSome messages

whole_each : (size : ℕ) (messages : List (List ℕ)) → 0 < size → AreSome messages → AreWhole (map (pieces_of size) messages)
whole_each size [] some bytes = tt
whole_each size (m ∷ messages) some bytes = (pieces_of-whole size m some bytes.0, whole_each size messages some bytes.1)

all_each : (size : ℕ) (messages : List (List ℕ)) → flat_map (pieces_of size) messages ≡ flat_map (λ (run : List Piece). run) (map (pieces_of size) messages)
all_each size [] = refl
all_each size (m ∷ messages) = ap (λ (ps : List Piece). pieces_of size m ++ ps) (all_each size messages)

joined_each : (size : ℕ) (messages : List (List ℕ)) → 0 < size → messages ≡ map joined (map (pieces_of size) messages)
joined_each size [] some = refl
joined_each size (m ∷ messages) some = let here = joined-pieces_of size m some in let later = joined_each size messages some in cc

-- the pieces of messages split into these messages
pub splits_each : (size : ℕ) (messages : List (List ℕ)) → 0 < size → AreSome messages → SplitsInto (flat_map (pieces_of size) messages) messages [] 0
splits_each size messages some bytes = record {
  runs = map (pieces_of size) messages;
  whole = whole_each size messages some bytes;
  all = all_each size messages ∙ sym (append-nil (flat_map (λ (run : List Piece). run) (map (pieces_of size) messages)));
  each = joined_each size messages some;
  last = refl;
}

filled-append : (front back : List Piece) → AreFilled front → AreFilled back → AreFilled (front ++ back)
filled-append [] back f g = g
filled-append (p ∷ front) back f g = (f.0, filled-append front back f.1 g)

pub filled_each : (size : ℕ) (messages : List (List ℕ)) → 0 < size → AreFilled (flat_map (pieces_of size) messages)
filled_each size [] some = tt
filled_each size (m ∷ messages) some = filled-append (pieces_of size m) (flat_map (pieces_of size) messages) (pieces_of-filled size m some) (filled_each size messages some)
