-- Which pieces fit the bytes that are expected.
use Rattle.std.proofs.Common.{◌≡◌, ℕ, ◌+◌, ◌≤◌, ◌<◌, ◌==◌, nat_lt, Bool, true, false, cond, Option, Some, None, List, [], ◌∷◌, ◌++◌, length, map, refl, ap, sym, ◌∙◌, append-nil, append_assoc, arith}
use Rattle.std.proofs.lemmas.Bool.Decides.{nat_tests}
use Rattle.std.proofs.lemmas.List.{length-append, append_cancel_left}
use Rattle.std.proofs.lemmas.List.Concat.{flat_map-append}
use Rattle.smbd_base.specs.declared.faults.Broken.{Broken}
use Rattle.smbd_base.specs.Pieces.{Piece, gather_fault, joined, IsUnbroken, AreWhole, IsRest, AreFilled, SplitsInto}
use Rattle.smbd_laws.proofs.Splitting.{front_runs}
use Rattle.smbd_base.proofs.RunLemmas.{pieces_in}

-- ---- the test

begun_by : (none same : Bool) (long : Option Broken) (total : Broken) → none ≡ false → cond none long (cond same None (Some total)) ≡ None → same ≡ true
begun_by true same long total is e = absurd cc
begun_by false true long total is e = refl
begun_by false false long total is e = absurd cc

pub not_zero : (n : ℕ) → 0 < n → (n == 0) ≡ false
not_zero n some = grind (arith, nat_tests)

is_same : (m n : ℕ) → (m == n) ≡ true → n ≡ m
is_same m n e = grind (arith, nat_tests)

-- where a message is begun, the piece and the bytes after it are just the bytes that are expected
pub fits_begun : (max expected len remaining : ℕ) → 0 < expected → gather_fault max expected len remaining ≡ None → expected ≡ len + remaining
fits_begun max expected len remaining some fits =
    is_same (len + remaining) expected (begun_by (expected == 0) (len + remaining == expected) _ _ (not_zero expected some) fits)

fits_next : (max expected len remaining : ℕ) → 0 < expected → expected ≡ len + remaining → gather_fault max expected len remaining ≡ None
fits_next max expected len remaining some is =
    let begun : (expected == 0) ≡ false = not_zero expected some in
    let same : (len + remaining == expected) ≡ true = grind (arith, nat_tests) in
    rw (begun, same) refl

fits_first : (max expected len remaining : ℕ) → expected ≡ 0 → len + remaining ≤ max → gather_fault max expected len remaining ≡ None
fits_first max expected len remaining none short =
    let new : (expected == 0) ≡ true = grind (arith, nat_tests) in
    let fits : nat_lt max (len + remaining) ≡ false = grind (arith, nat_tests) in
    rw (new, fits) refl

-- ---- the next piece

-- each message has at most so many bytes
abbrev pub AreShort : ℕ → List (List ℕ) → Type 0
AreShort max [] = Unit {0}
AreShort max (m ∷ messages) = (length m ≤ max) × AreShort max messages

-- where a run is begun, its next piece and the bytes after it are what the begun one expects
next_in : (expected : ℕ) (q : Piece) (later run after more : List Piece) (p : Piece) → 0 < expected → IsUnbroken expected (q ∷ later) → IsUnbroken 0 run → 0 < length run
    → (q ∷ later) ++ p ∷ more ≡ run ++ after → expected ≡ length p.payload + p.remaining
next_in expected q later [] after more p some r w long e = absurd (omega arith)
next_in expected q [] (q' ∷ []) after more p some r w long e =
    let same : q'.remaining ≡ q.remaining = ap (λ (x : Piece). x.remaining) (let is : q' ≡ q = cc in is) in
    absurd (omega (arith, r.0, w.0))
next_in expected q [] (q' ∷ p' ∷ run) after more p some r w long e =
    let same : q'.remaining ≡ q.remaining = ap (λ (x : Piece). x.remaining) (let is : q' ≡ q = cc in is) in
    let is : p' ≡ p = cc in
    let bytes : length p'.payload ≡ length p.payload = ap (λ (x : Piece). length x.payload) is in
    let left : p'.remaining ≡ p.remaining = ap (λ (x : Piece). x.remaining) is in
    let sum : length (joined (p' ∷ run)) ≡ length p'.payload + length (joined run) = length-append p'.payload (joined run) in
    omega (arith, r.0, w.0, w.1.0)
next_in expected q (q2 ∷ later) (q' ∷ []) after more p some r w long e =
    let same : q'.remaining ≡ q.remaining = ap (λ (x : Piece). x.remaining) (let is : q' ≡ q = cc in is) in
    absurd (omega (arith, r.0, w.0))
next_in expected q (q2 ∷ later) (q' ∷ p' ∷ run) after more p some r w long e =
    next_in expected q2 later (p' ∷ run) after more p some r.1 w.1 (omega arith) cc

-- the piece behind a front of whole runs fits, where each run has at most so many bytes
in_runs : (max expected : ℕ) (runs : List (List Piece)) (rest more : List Piece) (p : Piece) → IsRest expected rest → AreWhole runs → AreShort max (map joined runs)
    → rest ++ p ∷ more ≡ pieces_in runs → gather_fault max expected (length p.payload) p.remaining ≡ None
in_runs max expected [] [] more p r w short e = absurd cc
in_runs max expected [] (q ∷ later) more p r w short e = absurd cc
in_runs max expected ([] ∷ runs) rest more p r w short e = absurd (omega (arith, w.0.some))
in_runs max expected ((q ∷ run) ∷ runs) [] more p r w short e =
    let is : q ≡ p = cc in
    let bytes : length q.payload ≡ length p.payload = ap (λ (x : Piece). length x.payload) is in
    let left : q.remaining ≡ p.remaining = ap (λ (x : Piece). x.remaining) is in
    let sum : length (joined (q ∷ run)) ≡ length q.payload + length (joined run) = length-append q.payload (joined run) in
    fits_first max expected (length p.payload) p.remaining r (omega (arith, w.0.unbroken.0, short.0))
in_runs max expected ((first ∷ run) ∷ runs) (q ∷ later) more p r w short e =
    fits_next max expected (length p.payload) p.remaining r.0 (next_in expected q later (first ∷ run) (pieces_in runs) more p r.0 r.1 w.0.unbroken w.0.some e)

whole_behind : (front back : List (List Piece)) → AreWhole (front ++ back) → AreWhole back
whole_behind [] back w = w
whole_behind (run ∷ front) back w = whole_behind front back w.1

short_behind : (max : ℕ) (front back : List (List Piece)) → AreShort max (map joined (front ++ back)) → AreShort max (map joined back)
short_behind max [] back s = s
short_behind max (run ∷ front) back s = short_behind max front back s.1

-- the next one of the pieces of short messages fits what those before it expect
pub next_fits : (max expected : ℕ) (front more all : List Piece) (p : Piece) (messages others : List (List ℕ)) (rest : List Piece) → AreFilled all
    → SplitsInto front messages rest expected → SplitsInto all others [] 0 → AreShort max others → front ++ p ∷ more ≡ all
    → gather_fault max expected (length p.payload) p.remaining ≡ None
next_fits max expected front more all p messages others rest filled s t short e =
    let here : pieces_in s.runs ++ (rest ++ p ∷ more) ≡ all =
    sym (append_assoc (pieces_in s.runs) rest (p ∷ more)) ∙ ap (λ (ps : List Piece). ps ++ p ∷ more) (sym s.all) ∙ e in
    let k = front_runs s.runs t.runs (rest ++ p ∷ more) [] 0 s.whole t.whole t.last (rw (sym here) at filled) (rw t.all at filled) (here ∙ t.all) in
    let whole : AreWhole (s.runs ++ k.0) = rw (sym k.1) at t.whole in
    let each : AreShort max (map joined (s.runs ++ k.0)) = rw (t.each ∙ ap (λ (runs : List (List Piece)). map joined runs) (sym k.1)) at short in
    let later : rest ++ p ∷ more ≡ pieces_in k.0 =
    append_cancel_left (pieces_in s.runs) (rest ++ p ∷ more) (pieces_in k.0)
    (here ∙ t.all ∙ append-nil (pieces_in t.runs) ∙ ap (λ (runs : List (List Piece)). pieces_in runs) (sym k.1) ∙ flat_map-append (λ (run : List Piece). run) s.runs k.0) in
    in_runs max expected k.0 rest more p s.last (whole_behind s.runs k.0 whole) (short_behind max s.runs k.0 each) later
