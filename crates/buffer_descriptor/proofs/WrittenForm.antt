-- What is written is read back.
use Rattle.std.proofs.Common.{◌≡◌, ℕ, ◌+◌, ◌*◌, ◌-◌, ◌/◌, ◌%◌, ◌^◌, ◌<◌, ◌≤◌, List, length, refl, sym, subst, ◌∙◌, arith, Ok, lit≤}
use Rattle.std.proofs.lemmas.Bool.{le-ltb, ne_eqb, cond-false}
use Rattle.buffer_descriptor.specs.declared.descriptor.Descriptor.{Descriptor}
use Rattle.buffer_descriptor.specs.Descriptors.{IsSound, descriptor_of, descriptor_bytes, fields_of, place_after}

four-digits : (n : ℕ) → n < 2 ^ 32 → n % 256 + 256 * (n / 256 % 256) + 65536 * (n / 65536 % 256) + 16777216 * (n / 16777216 % 256) ≡ n
four-digits n low = omega arith

four-low-digits : (n : ℕ) → n % 256 + 256 * (n / 256 % 256) + 65536 * (n / 65536 % 256) + 16777216 * (n / 16777216 % 256) ≡ n % 4294967296
four-low-digits n = omega arith

four-high-digits : (n : ℕ) → n < 2 ^ 64 →
    n / 4294967296 % 256 + 256 * (n / 1099511627776 % 256) + 65536 * (n / 281474976710656 % 256) + 16777216 * (n / 72057594037927936 % 256)
    ≡ n / 4294967296
four-high-digits n low = omega arith

offset-written : (d : Descriptor) → d.offset < 2 ^ 64 → (fields_of (descriptor_bytes d)).offset ≡ d.offset
offset-written d low = omega (arith, four-low-digits d.offset, four-high-digits d.offset low)

made : (o p t u l m : ℕ) → o ≡ p → t ≡ u → l ≡ m
    → ◌≡◌ {A = Descriptor} (record { offset = o; token = t; length = l }) (record { offset = p; token = u; length = m })
made o p t u l m a b c =
    rw (a, b, c) refl

same-fields : (a b : Descriptor) → a.offset ≡ b.offset → a.token ≡ b.token → a.length ≡ b.length → a ≡ b
same-fields a b o t l = made a.offset b.offset a.token b.token a.length b.length o t l

-- sound fields are read as they stand
descriptor_of-fields : (bytes : List ℕ) → 16 ≤ length bytes → IsSound (fields_of bytes) → descriptor_of bytes ≡ Ok (fields_of bytes)
unfolding descriptor_of
descriptor_of-fields bytes long s =
    let some = s.some in let within = s.within in
    cond-false _ _ _ (le-ltb (length bytes) 16 long)
    ∙ cond-false _ _ _ (le-ltb (2 ^ 64 - 1) (place_after (fields_of bytes)) (omega arith))
    ∙ cond-false _ _ _ (ne_eqb (fields_of bytes).length 0 (λ none. omega arith))

pub descriptor_of-descriptor_bytes : (d : Descriptor) → d.offset < 2 ^ 64 → d.token < 2 ^ 32 → d.length < 2 ^ 32 → IsSound d
    → descriptor_of (descriptor_bytes d) ≡ Ok d
descriptor_of-descriptor_bytes d o t l s =
    let e = same-fields (fields_of (descriptor_bytes d)) d (offset-written d o) (four-digits d.token t) (four-digits d.length l) in
    subst (λ (f : Descriptor). descriptor_of (descriptor_bytes d) ≡ Ok f) e
    (descriptor_of-fields (descriptor_bytes d) (lit≤ tt) (subst IsSound (sym e) s))
