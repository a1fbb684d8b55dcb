-- What the test of a limit says.
use Rattle.std.proofs.Common.{◌≡◌, ℕ, Bool, true, false, ◌||◌, ltb, refl}
use Rattle.std.proofs.lemmas.Bool.{ltb-false}
use Rattle.smbd_base.specs.Limits.{is_outside, IsWithin}

neither : (a b : Bool) → (a || b) ≡ false → (a ≡ false) × (b ≡ false)
neither true b e = absurd cc
neither false b e = (refl, e)

-- a number that is not outside lies within
pub within : (least most n : ℕ) → is_outside least most n ≡ false → IsWithin least most n
unfolding is_outside
within least most n e =
    let h = neither (ltb n least) (ltb most n) e in
    (ltb-false n least h.0, ltb-false most n h.1)
