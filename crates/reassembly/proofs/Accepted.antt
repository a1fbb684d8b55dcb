-- A piece that is not refused, and how the gatherer stands after it.
use Rattle.std.proofs.Common.{◌≡◌, ℕ, ◌+◌, ◌≤◌, ◌<◌, ◌==◌, nat_lt, Bool, true, false, cond, Option, Some, None, [], ◌++◌, refl, arith}
use Rattle.std.proofs.lemmas.Bool.Decides.{nat_tests}
use Rattle.smbd_base.specs.declared.faults.Broken.{Broken}
use Rattle.smbd_base.specs.declared.faults.Broken.TheVariants.{Total, TooLong}
use Rattle.smbd_base.specs.Pieces.{Piece, gather_fault}
use Rattle.reassembly.specs.Gathering.{Gathering, first_fault, with_accepted, message_of, piece_fault, misfit}

-- ---- what fits

fits-none : (max expected len remaining : ℕ) (none same : Bool) → (expected == 0) ≡ none → (len + remaining == expected) ≡ same
    → cond none (cond (nat_lt max (len + remaining)) (Some (TooLong (len + remaining) max)) None) (cond same None (Some (Total expected (len + remaining)))) ≡ None
    → 0 < expected → expected ≡ len + remaining
fits-none max expected len remaining true same e s h more = absurd (let b : ⊥ = grind (arith, nat_tests) in b)
fits-none max expected len remaining false true e s h more = grind (arith, nat_tests)
fits-none max expected len remaining false false e s h more = absurd (let b : ⊥ = cc in b)

-- where a message is begun, a piece that fits brings just what is expected, with the bytes after it
pub fits_begun : (max expected len remaining : ℕ) → gather_fault max expected len remaining ≡ None → 0 < expected → expected ≡ len + remaining
fits_begun max expected len remaining h more =
    fits-none max expected len remaining (expected == 0) (len + remaining == expected) refl refl h more

-- a piece that brings just that fits
pub begun_fits : (max expected len remaining : ℕ) → 0 < expected → expected ≡ len + remaining → gather_fault max expected len remaining ≡ None
begun_fits max expected len remaining more is =
    let some : (expected == 0) ≡ false = grind (arith, nat_tests) in
    let same : (len + remaining == expected) ≡ true = grind (arith, nat_tests) in
    rw (some, same) refl

-- the first piece of a message that is not too long fits
pub first_fits : (max len remaining : ℕ) → len + remaining ≤ max → gather_fault max 0 len remaining ≡ None
first_fits max len remaining short =
    let within : nat_lt max (len + remaining) ≡ false = grind (arith, nat_tests) in
    rw within refl

none_here : (earlier here : Option Broken) → first_fault earlier here ≡ None → here ≡ None
none_here (Some earlier) here h = absurd (let b : ⊥ = cc in b)
none_here None None h = refl
none_here None (Some here) h = absurd (let b : ⊥ = cc in b)

-- a piece that is not refused has no fault of its own
pub accepted-fits : (g : Gathering) (p : Piece) → piece_fault g p ≡ None → misfit g p ≡ None
accepted-fits g p h = none_here g.broken (misfit g p) h

pub fits-accepted : (here : Option Broken) → here ≡ None → first_fault None here ≡ None
fits-accepted None h = refl
fits-accepted (Some here) h = absurd (let b : ⊥ = cc in b)

-- ---- how it stands then

pub message_of-more : (g : Gathering) (p : Piece) → 0 < p.remaining → message_of g p ≡ None
message_of-more g p more = let e : (p.remaining == 0) ≡ false = grind (arith, nat_tests) in rw e refl

pub message_of-last : (g : Gathering) (p : Piece) → p.remaining ≡ 0 → message_of g p ≡ Some (g.begun ++ p.payload)
message_of-last g p last = let e : (p.remaining == 0) ≡ true = grind (arith, nat_tests) in rw e refl

pub with_accepted-more : (g : Gathering) (p : Piece) → 0 < p.remaining
    → with_accepted g p ≡ record { max = g.max; begun = g.begun ++ p.payload; expected = p.remaining; broken = g.broken }
with_accepted-more g p more = let e : (p.remaining == 0) ≡ false = grind (arith, nat_tests) in rw e refl

pub with_accepted-last : (g : Gathering) (p : Piece) → p.remaining ≡ 0
    → with_accepted g p ≡ record { max = g.max; begun = []; expected = 0; broken = g.broken }
with_accepted-last g p last = let e : (p.remaining == 0) ≡ true = grind (arith, nat_tests) in rw (e, last) refl
