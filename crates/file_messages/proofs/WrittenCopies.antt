-- The requests of a put and of a get are read back.
use Rattle.std.proofs.Common.{◌≡◌, inl, inr, ℕ, zero, suc, ◌+◌, ◌-◌, ◌*◌, ◌/◌, ◌%◌, ◌^◌, ◌<◌, ◌≤◌, nat_lt, ◌&&◌, ◌||◌, Bool, true, false, List, [], ◌∷◌, ◌++◌, length, take, drop, refl, sym, ◌∙◌, subst, lit≤, arith}
use Rattle.std.proofs.Math.Nat.{mod-lt, div-le_self}
use Rattle.std.proofs.lemmas.Bool.Decides.{nat_tests}
use Rattle.std.proofs.lemmas.List.{length-drop}
use Rattle.buffer_descriptor.specs.declared.descriptor.Descriptor.{Descriptor}
use Rattle.buffer_descriptor.specs.Descriptors.{place_after}
use Rattle.file_messages.specs.declared.kind.Channel.{Channel}
use Rattle.file_messages.specs.declared.kind.Channel.TheVariants as channels
use Rattle.file_messages.specs.declared.message.Request.{Request}
use Rattle.file_messages.specs.Messages.{WRITE, READ, are_sound, sum_of_lengths, shares_with, overlap}
use Rattle.file_messages.specs.Runs.{parts_from, groups_of, pages_of, windows, page_of, end_request, descriptors_from, write_of, writes_from, end_if, read_descriptors, read_of, reads_from, reads_count}
use Rattle.file_messages.specs.Written.{IsLength, TokensFit, MayBeNamed, IsReadBack, AllReadBack, PutsAreRead, GetsAreRead}
use Rattle.file_messages.proofs.WrittenMessages.{inline_writes, inline_reads, registered_read, ends_read}

-- ---- descriptors of consecutive pages

OnPages : ℕ → List Descriptor → Type 0
OnPages page [] = Unit {0}
OnPages page (d ∷ ds) = (d.offset ≡ page * 4096) × (1 ≤ d.length) × (d.length ≤ 4096) × (d.token < 2 ^ 32) × OnPages (page + 1) ds

tokens-fit : (page : ℕ) (ds : List Descriptor) → OnPages page ds → TokensFit ds
unfolding OnPages
tokens-fit page [] o = tt
tokens-fit page (d ∷ ds) o = (o.3, tokens-fit (page + 1) ds o.4)

all-sound : (page : ℕ) (ds : List Descriptor) → OnPages page ds → page + length ds ≤ 65536 → are_sound ds ≡ true
unfolding OnPages
all-sound page [] o few = refl
all-sound page (d ∷ ds) o few =
    let a : nat_lt 0 d.length ≡ true = (let x : 1 ≤ d.length = o.1 in grind (arith, nat_tests)) in
    let b : nat_lt (place_after d) (2 ^ 64) ≡ true = (let x : place_after d < 2 ^ 64 = omega (arith, o.0, o.2) in grind (arith, nat_tests)) in
    both (nat_lt 0 d.length) (nat_lt (place_after d) (2 ^ 64)) (are_sound ds) a b (all-sound (page + 1) ds o.4 (omega arith))
  where
    both : (x y z : Bool) → x ≡ true → y ≡ true → z ≡ true → ((x && y) && z) ≡ true
    both x y z p q r = rw (p, q, r) refl

shares-none : (d : Descriptor) (page : ℕ) (ds : List Descriptor) → OnPages page ds → place_after d ≤ page * 4096 → shares_with d ds ≡ false
unfolding OnPages
shares-none d page [] o e = refl
shares-none d page (f ∷ ds) o e =
    let after : nat_lt f.offset (place_after d) ≡ false = (let x : place_after d ≤ f.offset = omega (arith, o.0) in grind (arith, nat_tests)) in
    by_parts (nat_lt d.offset (place_after f)) (nat_lt f.offset (place_after d)) (shares_with d ds) after (shares-none d (page + 1) ds o.4 (omega arith))
  where
    by_parts : (x y z : Bool) → y ≡ false → z ≡ false → ((x && y) || z) ≡ false
    by_parts true y z p q = rw (p, q) refl
    by_parts false y z p q = q

none-overlap : (page : ℕ) (ds : List Descriptor) → OnPages page ds → overlap ds ≡ false
unfolding OnPages
none-overlap page [] o = refl
none-overlap page (d ∷ ds) o =
    by_parts (shares_with d ds) (overlap ds) (shares-none d (page + 1) ds o.4 (omega (arith, o.0, o.2))) (none-overlap (page + 1) ds o.4)
  where
    by_parts : (x y : Bool) → x ≡ false → y ≡ false → (x || y) ≡ false
    by_parts x y p q = rw (p, q) refl

named : (page : ℕ) (ds : List Descriptor) → OnPages page ds → page ≤ 4096 → 1 ≤ length ds → length ds ≤ 16 → IsLength (sum_of_lengths ds) → MayBeNamed ds
named page ds o low some few bytes = record {
  some = some;
  few = few;
  tokens = tokens-fit page ds o;
  sound = all-sound page ds o (omega arith);
  apart = none-overlap page ds o;
  bytes = bytes;
}

-- ---- parts

LengthsFrom : ℕ → List (List ℕ) → Type 0
LengthsFrom size [] = Unit {0}
LengthsFrom size (g ∷ gs) = (1 ≤ length g) × (length g ≤ size) × LengthsFrom size gs

length-take-min : (n : ℕ) (bs : List ℕ) → 1 ≤ n → 1 ≤ length bs → (1 ≤ length (take n bs)) × (length (take n bs) ≤ n)
length-take-min zero bs a b = absurd (omega arith)
length-take-min (suc n) [] a b = absurd (omega arith)
length-take-min (suc n) (x ∷ bs) a b = (omega arith, omega (arith, at_most n bs)) where
  at_most : (m : ℕ) (cs : List ℕ) → length (take m cs) ≤ m
  at_most zero cs = omega arith
  at_most (suc m) [] = omega arith
  at_most (suc m) (c ∷ cs) = omega (arith, at_most m cs)

lengths-of : (n size : ℕ) (bytes : List ℕ) → 1 ≤ size → size * n < length bytes + size → LengthsFrom size (parts_from n size bytes)
unfolding LengthsFrom
lengths-of zero size bytes some h = tt
lengths-of (suc n) size bytes some h =
    let more : size * suc n ≡ size + size * n = omega arith in
    let t = length-take-min size bytes some (omega (arith, more)) in
    (t.0, t.1, lengths-of n size (drop size bytes) some (omega (arith, more, length-drop size bytes)))

length-parts_from : (n size : ℕ) (bytes : List ℕ) → length (parts_from n size bytes) ≡ n
length-parts_from zero size bytes = refl
length-parts_from (suc n) size bytes = omega (arith, length-parts_from n size (drop size bytes))

-- the bytes of the parts
all_bytes : List (List ℕ) → ℕ
all_bytes [] = 0
all_bytes (g ∷ gs) = length g + all_bytes gs

length-parted : (n : ℕ) (bs : List ℕ) → length (take n bs) + length (drop n bs) ≡ length bs
length-parted zero bs = omega arith
length-parted (suc n) [] = refl
length-parted (suc n) (b ∷ bs) = omega (arith, length-parted n bs)

bytes-of-parts : (n size : ℕ) (bytes : List ℕ) → length bytes ≤ size * n → all_bytes (parts_from n size bytes) ≡ length bytes
unfolding all_bytes
bytes-of-parts zero size bytes h = omega (arith, (let z : size * 0 ≡ 0 = omega arith in z))
bytes-of-parts (suc n) size bytes h =
    let more : size * suc n ≡ size + size * n = omega arith in
    omega (arith, length-parted size bytes, bytes-of-parts n size (drop size bytes) (omega (arith, more, length-drop size bytes)))

-- ---- the descriptors of a group

module _ (w k : ℕ) where
  length-descriptors : (i : ℕ) (parts : List (List ℕ)) → length (descriptors_from w k i parts) ≡ length parts
  length-descriptors i [] = refl
  length-descriptors i (part ∷ parts) = omega (arith, length-descriptors (i + 1) parts)

  sum-descriptors : (i : ℕ) (parts : List (List ℕ)) → sum_of_lengths (descriptors_from w k i parts) ≡ all_bytes parts
  unfolding all_bytes
  sum-descriptors i [] = refl
  sum-descriptors i (part ∷ parts) = omega (arith, sum-descriptors (i + 1) parts)

  on-pages : (i : ℕ) (parts : List (List ℕ)) → 0 < w → 16 * w ≤ 256 → k < 2 ^ 24 → i + length parts ≤ 16 → LengthsFrom 4096 parts
      → OnPages (page_of w k i) (descriptors_from w k i parts)
  unfolding OnPages LengthsFrom
  on-pages i [] some few small h a = tt
  on-pages i (part ∷ parts) some few small h a =
      let turn : (k - 1) / w ≤ k - 1 = div-le_self (k - 1) w in
      let window : (k - 1) % w < w = mod-lt (k - 1) some in
      let next : page_of w k (i + 1) ≡ page_of w k i + 1 = omega arith in
      (refl, a.0, a.1, omega (arith, turn, window), subst (λ (p : ℕ). OnPages p (descriptors_from w k (i + 1) parts)) next (on-pages (i + 1) parts some few small (omega arith) a.2))

-- ---- puts

pages-count : (g : List ℕ) → IsLength (length g) → (1 ≤ (length g + 4095) / 4096) × ((length g + 4095) / 4096 ≤ 16)
pages-count g l = (let a : 1 ≤ length g = l.some in omega arith, let b : length g ≤ 65536 = l.few in omega arith)

write-read : (channel : Channel) (w k offset : ℕ) (g : List ℕ) → 0 < w → 16 * w ≤ 256 → k < 2 ^ 24 → offset < 2 ^ 64 → IsLength (length g) → IsReadBack (write_of channel w k offset g)
write-read channels.None w k offset g some few small off l = inline_writes k offset g (record { id_fits = omega arith; offset_fits = off }) l
write-read channels.V1 w k offset g some few small off l =
    let ds : List Descriptor = descriptors_from w k 0 (pages_of g) in
    let c = pages-count g l in
    let n : ℕ = (length g + 4095) / 4096 in
    let size : length (pages_of g) ≡ n = length-parts_from n 4096 g in
    let sum : sum_of_lengths ds ≡ length g = sum-descriptors w k 0 (pages_of g) ∙ bytes-of-parts n 4096 g (omega arith) in
    let on : OnPages (page_of w k 0) ds = on-pages w k 0 (pages_of g) some few small (omega (arith, c.1, size)) (lengths-of n 4096 g (lit≤ tt) (omega (arith, c.0))) in
    let window : (k - 1) % w < w = mod-lt (k - 1) some in
    let m : MayBeNamed ds = named (page_of w k 0) ds on (omega (arith, window)) (omega (arith, c.0, size, length-descriptors w k 0 (pages_of g))) (omega (arith, c.1, size, length-descriptors w k 0 (pages_of g))) (subst IsLength (sym sum) l) in
    subst (λ (len : ℕ). IsReadBack (record { op = WRITE; channel = 1; id = k; offset = offset; length = len; descriptors = ds; inline = [] })) sum
    (registered_read WRITE k offset ds (inl refl) (record { id_fits = omega arith; offset_fits = off }) m)

writes-read : (channel : Channel) (w k offset : ℕ) (gs : List (List ℕ)) → 0 < w → 16 * w ≤ 256 → k + length gs ≤ 2 ^ 24 → offset + 65536 * length gs < 2 ^ 64
    → LengthsFrom 65536 gs → AllReadBack (writes_from channel w k offset gs)
unfolding LengthsFrom
writes-read channel w k offset [] some few ids offs a = tt
writes-read channel w k offset (g ∷ gs) some few ids offs a = (
  write-read channel w k offset g some few (omega arith) (omega arith) (record { some = a.0; few = a.1 }),
  writes-read channel w (k + 1) (offset + length g) gs some few (omega arith) (omega (arith, a.1)) a.2,
)

both-read : (xs ys : List Request) → AllReadBack xs → AllReadBack ys → AllReadBack (xs ++ ys)
both-read [] ys a b = b
both-read (x ∷ xs) ys a b = (a.0, both-read xs ys a.1 b)

pub puts_read : PutsAreRead
puts_read channel pages ended bytes p c =
    let n : ℕ = (length bytes + 65535) / 65536 in
    let least : 16 ≤ pages = p.least in
    let most : pages ≤ 256 = p.most in
    let size : length (groups_of bytes) ≡ n = length-parts_from n 65536 bytes in
    both-read (writes_from channel (windows pages) 1 0 (groups_of bytes)) (end_if ended (end_request (length (groups_of bytes) + 1) (length bytes)))
    (writes-read channel (windows pages) 1 0 (groups_of bytes) (omega arith) (omega arith) (omega (arith, size)) (omega (arith, size)) (lengths-of n 65536 bytes (lit≤ tt) (omega arith)))
    (last ended (ends_read (length (groups_of bytes) + 1) (length bytes) (record { id_fits = omega (arith, size); offset_fits = omega arith })))
  where
    last : (t : Bool) → IsReadBack (end_request (length (groups_of bytes) + 1) (length bytes)) → AllReadBack (end_if t (end_request (length (groups_of bytes) + 1) (length bytes)))
    last true r = (r, tt)
    last false r = tt

-- ---- gets

on-read-pages : (count i k : ℕ) → i + count ≤ 256 → k < 2 ^ 24 → 1 ≤ k → OnPages i (read_descriptors count i k)
unfolding OnPages
on-read-pages zero i k few small some = tt
on-read-pages (suc count) i k few small some =
    (refl, lit≤ tt, lit≤ tt, omega arith, on-read-pages count (i + 1) k (omega arith) small some)

read-read : (channel : Channel) (k : ℕ) → 1 ≤ k → k < 2 ^ 24 → IsReadBack (read_of channel k)
read-read channels.None k some small = inline_reads k (65536 * (k - 1)) 65536 (record { id_fits = omega arith; offset_fits = omega arith }) (record { some = lit≤ tt; few = lit≤ tt })
read-read channels.V1 k some small =
    registered_read READ k (65536 * (k - 1)) (read_descriptors 16 0 k) (inr refl) (record { id_fits = omega arith; offset_fits = omega arith })
    (named 0 (read_descriptors 16 0 k) (on-read-pages 16 0 k (lit≤ tt) small some) (lit≤ tt) (lit≤ tt) (lit≤ tt) (record { some = lit≤ tt; few = lit≤ tt }))

reads-read : (channel : Channel) (count k : ℕ) → 1 ≤ k → k + count ≤ 2 ^ 24 → AllReadBack (reads_from channel count k)
reads-read channel zero k some small = tt
reads-read channel (suc count) k some small = (read-read channel k some (omega arith), reads-read channel count (k + 1) (omega arith) (omega arith))

pub gets_read : GetsAreRead
gets_read channel bytes c =
    both-read (reads_from channel (reads_count bytes) 1) (end_request (reads_count bytes + 1) (length bytes) ∷ [])
    (reads-read channel (reads_count bytes) 1 (lit≤ tt) (omega arith))
    (ends_read (reads_count bytes + 1) (length bytes) (record { id_fits = omega arith; offset_fits = omega arith }), tt)
