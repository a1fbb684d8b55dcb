-- What the server of a get places: the parts of its bytes, each under a token of its own.
use Rattle.std.proofs.Common.{◌≡◌, ℕ, zero, suc, ◌+◌, ◌-◌, ◌*◌, ◌<◌, ◌≤◌, ◌==◌, Bool, true, false, Some, List, [], ◌∷◌, ◌++◌, length, take, drop, refl, sym, ap, ◌∙◌, subst, arith}
use Rattle.std.specs.Prelude.{slice_get}
use Rattle.std.specs.List.{flat_map}
use Rattle.std.proofs.lemmas.Bool.Decides.{nat_tests}
use Rattle.std.proofs.lemmas.List.{take-take, drop-take, drop-drop, take_all, drop_all}
use Rattle.std.proofs.lemmas.List.Concat.{flat_map-append}
use Rattle.smbd_base.specs.Tokens.{PageToken, number_of}
use Rattle.buffer_descriptor.specs.declared.descriptor.Descriptor.{Descriptor}
use Rattle.file_messages.specs.declared.kind.Channel.TheVariants as channels
use Rattle.file_messages.specs.declared.job.Work.{Work}
use Rattle.file_messages.specs.declared.job.Work.TheVariants.{Load, Fetch, Place, Unload}
use Rattle.file_messages.specs.Runs.{descriptor_of_load, read_descriptors, read_of, reads_from, reads_count, end_request, get_requests, bytes_read}
use Rattle.file_pasts.specs.InStep.{one_if, count}
use Rattle.file_pasts.specs.ServerDue.{places_of}
use Rattle.file_pasts.specs.ServerLaws.{jobs_needed}
use Rattle.remote_access.specs.Covers.{place_in_page}
use Rattle.copy_laws.specs.PagesOfCopies.{part_read}
use Rattle.copy_laws.proofs.Eaches.{Each, each-append}

-- the token that the k-th READ names for its i-th page
abbrev pub token_read : ℕ → ℕ → PageToken
token_read k i = record { page = i; generation = k }

-- a Place of what is read through the i-th page of the k-th READ
pub record IsPartPlace (bytes : List ℕ) (d : Descriptor) (placed : List ℕ) : Type 0 where
  pub k : ℕ
  pub i : ℕ
  pub below : i < 16
  pub token_is : d.token ≡ number_of (token_read k i)
  pub offset_is : d.offset ≡ i * 4096
  pub part_is : placed ≡ part_read bytes (token_read k i)
  pub some : 1 ≤ length placed

abbrev pub IsGetPlace : List ℕ → Work → Type 0
IsGetPlace bytes (Load page r loaded) = ⊥
IsGetPlace bytes (Fetch d) = ⊥
IsGetPlace bytes (Place d placed) = IsPartPlace bytes d placed
IsGetPlace bytes (Unload t) = ⊥

-- ---- parts of what a READ gets

-- the k-th READ gets these bytes
abbrev read_by : List ℕ → ℕ → List ℕ
read_by bytes k = bytes_read bytes (read_of channels.V1 k)

taken-some : (n b : ℕ) (xs : List ℕ) → 1 ≤ n → 1 ≤ length (take n (b ∷ xs))
taken-some zero b xs h = absurd (omega (arith, h))
taken-some (suc n) b xs h = (let z : 1 ≤ suc (length (take n xs)) = omega arith in z)

part-of-front : (n m len : ℕ) (xs : List ℕ) → len ≤ m → take len (drop n (take (n + m) xs)) ≡ take len (drop n xs)
part-of-front n m len xs h = ap (λ (ys : List ℕ). take len ys) (drop-take n m xs) ∙ take-take len m (drop n xs) h

part-of-read : (bytes : List ℕ) (k i : ℕ) → i < 16 → take 4096 (drop (4096 * i) (read_by bytes k)) ≡ part_read bytes (token_read k i)
part-of-read bytes k i below =
    let rest : List ℕ = drop (65536 * (k - 1)) bytes in
    let whole : 65536 ≡ 4096 * i + (65536 - 4096 * i) = omega (arith, below) in
    ap (λ (n : ℕ). take 4096 (drop (4096 * i) (take n rest))) whole
    ∙ part-of-front (4096 * i) (65536 - 4096 * i) 4096 rest (omega (arith, below))
    ∙ ap (λ (xs : List ℕ). take 4096 xs) (drop-drop (4096 * i) (65536 * (k - 1)) bytes)

next-part : (i : ℕ) (xs : List ℕ) → drop 4096 (drop (4096 * i) xs) ≡ drop (4096 * (i + 1)) xs
next-part i xs = drop-drop 4096 (4096 * i) xs ∙ ap (λ (n : ℕ). drop n xs) (let z : 4096 * i + 4096 ≡ 4096 * (i + 1) = omega arith in z)

-- ---- each job of a READ places a part

places-parts : (bytes : List ℕ) (count i k : ℕ) (left : List ℕ) → 1 ≤ k → i + count ≤ 16 → left ≡ drop (4096 * i) (read_by bytes k)
    → Each (IsGetPlace bytes) (places_of (read_descriptors count i k) left)
places-parts bytes zero i k left first fits is = tt
places-parts bytes (suc count) i k [] first fits is = tt
places-parts bytes (suc count) i k (b ∷ left) first fits is = (
  record {
    k = k;
    i = i;
    below = omega (arith, fits);
    token_is = (let z : (k - 1 + 1) * 256 + i ≡ k * 256 + i = omega (arith, first) in z);
    offset_is = refl;
    part_is = ap (λ (xs : List ℕ). take 4096 xs) is ∙ part-of-read bytes k i (omega (arith, fits));
    some = taken-some 4096 b left (omega arith);
  },
  places-parts bytes count (i + 1) k (drop 4096 (b ∷ left)) first (omega (arith, fits)) (ap (λ (xs : List ℕ). drop 4096 xs) is ∙ next-part i (read_by bytes k)),
)

reads-place : (bytes : List ℕ) (m k : ℕ) → 1 ≤ k → Each (IsGetPlace bytes) (flat_map (jobs_needed bytes) (reads_from channels.V1 m k))
reads-place bytes zero k first = tt
reads-place bytes (suc m) k first =
    each-append (IsGetPlace bytes) (places_of (read_descriptors 16 0 k) (read_by bytes k)) (flat_map (jobs_needed bytes) (reads_from channels.V1 m (k + 1)))
    (places-parts bytes 16 0 k (read_by bytes k) first (omega arith) (ap (λ (n : ℕ). drop n (read_by bytes k)) (let z : 0 ≡ 4096 * 0 = omega arith in z)))
    (reads-place bytes m (k + 1) (omega arith))

run-split : (bytes : List ℕ) → flat_map (jobs_needed bytes) (get_requests channels.V1 bytes)
    ≡ flat_map (jobs_needed bytes) (reads_from channels.V1 (reads_count bytes) 1) ++ flat_map (jobs_needed bytes) (end_request (reads_count bytes + 1) (length bytes) ∷ [])
run-split bytes = flat_map-append (jobs_needed bytes) (reads_from channels.V1 (reads_count bytes) 1) (end_request (reads_count bytes + 1) (length bytes) ∷ [])

-- each job that the requests of a get need places a part
pub run-places : (bytes : List ℕ) → Each (IsGetPlace bytes) (flat_map (jobs_needed bytes) (get_requests channels.V1 bytes))
run-places bytes =
    subst (λ (ws : List Work). Each (IsGetPlace bytes) ws) (sym (run-split bytes))
    (each-append (IsGetPlace bytes) (flat_map (jobs_needed bytes) (reads_from channels.V1 (reads_count bytes) 1)) (flat_map (jobs_needed bytes) (end_request (reads_count bytes + 1) (length bytes) ∷ []))
    (reads-place bytes (reads_count bytes) 1 (omega arith)) tt)

-- ---- the numbers of their tokens rise

-- Places under tokens whose numbers rise, from this one on and below that one
abbrev Rise : ℕ → ℕ → List Work → Type 0
Rise low high [] = low ≤ high
Rise low high (Load page r bytes ∷ works) = ⊥
Rise low high (Fetch d ∷ works) = ⊥
Rise low high (Place d bytes ∷ works) = (low ≤ d.token) × Rise (d.token + 1) high works
Rise low high (Unload t ∷ works) = ⊥

rise-from : (low more high : ℕ) (works : List Work) → low ≤ more → Rise more high works → Rise low high works
rise-from low more high [] h r = omega (arith, h, r)
rise-from low more high (Load page g bytes ∷ works) h r = r
rise-from low more high (Fetch d ∷ works) h r = r
rise-from low more high (Place d bytes ∷ works) h r = ((let at = r.0 in omega (arith, h, at)), r.1)
rise-from low more high (Unload t ∷ works) h r = r

rise-upto : (low high more : ℕ) (works : List Work) → high ≤ more → Rise low high works → Rise low more works
rise-upto low high more [] h r = omega (arith, h, r)
rise-upto low high more (Load page g bytes ∷ works) h r = r
rise-upto low high more (Fetch d ∷ works) h r = r
rise-upto low high more (Place d bytes ∷ works) h r = (r.0, rise-upto (d.token + 1) high more works h r.1)
rise-upto low high more (Unload t ∷ works) h r = r

rise-append : (low high more : ℕ) (xs ys : List Work) → Rise low high xs → Rise high more ys → Rise low more (xs ++ ys)
rise-append low high more [] ys r s = rise-from low high more ys r s
rise-append low high more (Load page g bytes ∷ xs) ys r s = absurd r
rise-append low high more (Fetch d ∷ xs) ys r s = absurd r
rise-append low high more (Place d bytes ∷ xs) ys r s = (r.0, rise-append (d.token + 1) high more xs ys r.1 s)
rise-append low high more (Unload t ∷ xs) ys r s = absurd r

rise-at : (low high from upto : ℕ) (works : List Work) → low ≡ from → high ≡ upto → Rise from upto works → Rise low high works
rise-at low high from upto works a b r = subst (λ (n : ℕ). Rise n high works) (sym a) (subst (λ (n : ℕ). Rise from n works) (sym b) r)

places-rise : (count i k : ℕ) (left : List ℕ) → 1 ≤ k → Rise (k * 256 + i) (k * 256 + (i + count)) (places_of (read_descriptors count i k) left)
places-rise zero i k left first = omega arith
places-rise (suc count) i k [] first = omega arith
places-rise (suc count) i k (b ∷ left) first = (
  (let z : k * 256 + i ≤ (k - 1 + 1) * 256 + i = omega (arith, first) in z),
  rise-at ((k - 1 + 1) * 256 + i + 1) (k * 256 + (i + suc count)) (k * 256 + (i + 1)) (k * 256 + (i + 1 + count)) (places_of (read_descriptors count (i + 1) k) (drop 4096 (b ∷ left)))
      (omega (arith, first)) (omega arith) (places-rise count (i + 1) k (drop 4096 (b ∷ left)) first),
)

reads-rise : (bytes : List ℕ) (m k : ℕ) → 1 ≤ k → Rise (k * 256) ((k + m) * 256) (flat_map (jobs_needed bytes) (reads_from channels.V1 m k))
reads-rise bytes zero k first = omega arith
reads-rise bytes (suc m) k first =
    rise-append (k * 256) ((k + 1) * 256) ((k + suc m) * 256) (places_of (read_descriptors 16 0 k) (read_by bytes k)) (flat_map (jobs_needed bytes) (reads_from channels.V1 m (k + 1)))
    (rise-upto (k * 256) (k * 256 + 16) ((k + 1) * 256) (places_of (read_descriptors 16 0 k) (read_by bytes k)) (omega arith) here)
    (rise-at ((k + 1) * 256) ((k + suc m) * 256) ((k + 1) * 256) ((k + 1 + m) * 256) (flat_map (jobs_needed bytes) (reads_from channels.V1 m (k + 1))) refl (omega arith) (reads-rise bytes m (k + 1) (omega arith)))
  where
    here : Rise (k * 256) (k * 256 + 16) (places_of (read_descriptors 16 0 k) (read_by bytes k))
    here =
        rise-at (k * 256) (k * 256 + 16) (k * 256 + 0) (k * 256 + (0 + 16)) (places_of (read_descriptors 16 0 k) (read_by bytes k)) (omega arith) (omega arith)
        (places-rise 16 0 k (read_by bytes k) first)

-- ---- so there is one at most of each number

-- a Place under the token of this number
abbrev pub places : ℕ → Work → Bool
places n (Load page r bytes) = false
places n (Fetch d) = false
places n (Place d bytes) = d.token == n
places n (Unload t) = false

none-below : (n low high : ℕ) (works : List Work) → Rise low high works → n < low → count (places n) works ≡ 0
unfolding count one_if
none-below n low high [] r h = refl
none-below n low high (Load page g bytes ∷ works) r h = absurd r
none-below n low high (Fetch d ∷ works) r h = absurd r
none-below n low high (Place d bytes ∷ works) r h =
    let at = r.0 in
    let other : (d.token == n) ≡ false = unequal d.token n (omega (arith, at, h)) in
    ap (λ (t : Bool). one_if t + count (places n) works) other
    ∙ (let none : count (places n) works ≡ 0 = none-below n (d.token + 1) high works r.1 (omega (arith, at, h)) in let z : 0 + count (places n) works ≡ 0 = omega (arith, none) in z)
  where
    unequal : (a b : ℕ) → b < a → (a == b) ≡ false
    unequal a b h = grind (arith, nat_tests)
none-below n low high (Unload t ∷ works) r h = absurd r

once-in : (n low high : ℕ) (works : List Work) → Rise low high works → count (places n) works ≤ 1
unfolding count one_if
once-in n low high [] r = omega arith
once-in n low high (Load page g bytes ∷ works) r = absurd r
once-in n low high (Fetch d ∷ works) r = absurd r
once-in n low high (Place d bytes ∷ works) r = by_test (d.token == n) refl (once-in n (d.token + 1) high works r.1) where
  by_test : (t : Bool) → (d.token == n) ≡ t → count (places n) works ≤ 1 → one_if t + count (places n) works ≤ 1
  by_test true is ih =
      let same : d.token ≡ n = grind (arith, nat_tests) in
      let none : count (places n) works ≡ 0 = none-below n (d.token + 1) high works r.1 (omega (arith, same)) in
      (let z : 1 + count (places n) works ≤ 1 = omega (arith, none) in z)
  by_test false is ih = (let z : 0 + count (places n) works ≤ 1 = omega (arith, ih) in z)
once-in n low high (Unload t ∷ works) r = absurd r

pub placed-once : (bytes : List ℕ) (n : ℕ) → count (places n) (flat_map (jobs_needed bytes) (get_requests channels.V1 bytes)) ≤ 1
placed-once bytes n =
    once-in n (1 * 256) ((1 + reads_count bytes) * 256) (flat_map (jobs_needed bytes) (get_requests channels.V1 bytes))
    (subst (λ (ws : List Work). Rise (1 * 256) ((1 + reads_count bytes) * 256) ws) (sym (run-split bytes))
    (rise-append (1 * 256) ((1 + reads_count bytes) * 256) ((1 + reads_count bytes) * 256)
    (flat_map (jobs_needed bytes) (reads_from channels.V1 (reads_count bytes) 1)) (flat_map (jobs_needed bytes) (end_request (reads_count bytes + 1) (length bytes) ∷ []))
    (reads-rise bytes (reads_count bytes) 1 (omega arith)) (omega arith)))

-- ---- a part that isn't empty is placed

-- the Place of a page's part among those of a READ
pub record HasPlace (bytes : List ℕ) (k i : ℕ) : Type 0 where
  pub descriptor : Descriptor
  pub placed : List ℕ
  pub at : slice_get (jobs_needed bytes (read_of channels.V1 k)) i ≡ Some (Place descriptor placed)
  pub token_is : descriptor.token ≡ number_of (token_read k i)

none-taken : (n i : ℕ) → length {A = ℕ} (take n (drop i [])) ≡ 0
none-taken n i = ap (λ (xs : List ℕ). length (take n xs)) (drop_all i [] (omega arith)) ∙ ap (λ (xs : List ℕ). length xs) (take_all n [] (omega arith))

place-at : (count i j k : ℕ) (left : List ℕ) → 1 ≤ k → j < count → 1 ≤ length (take 4096 (drop (4096 * j) left))
    → (d : Descriptor) × (placed : List ℕ) × (slice_get (places_of (read_descriptors count i k) left) j ≡ Some (Place d placed)) × (d.token ≡ number_of (token_read k (i + j)))
place-at zero i j k left first below some = absurd (omega (arith, below))
place-at (suc count) i j k [] first below some = absurd (let none = none-taken 4096 (4096 * j) in omega (arith, some, none))
place-at (suc count) i zero k (b ∷ left) first below some =
    (record (descriptor_of_load i (k - 1) 4096) { length = length (take 4096 (b ∷ left)) }, take 4096 (b ∷ left), refl, (let z : (k - 1 + 1) * 256 + i ≡ k * 256 + (i + 0) = omega (arith, first) in z))
place-at (suc count) i (suc j) k (b ∷ left) first below some =
    let later = place-at count (i + 1) j k (drop 4096 (b ∷ left)) first (omega (arith, below)) (subst (λ (xs : List ℕ). 1 ≤ length (take 4096 xs)) (sym on) some) in
    (later.0, later.1, later.2, later.3 ∙ (let z : k * 256 + (i + 1 + j) ≡ k * 256 + (i + suc j) = omega arith in z))
  where
    on : drop (4096 * j) (drop 4096 (b ∷ left)) ≡ drop (4096 * suc j) (b ∷ left)
    on = drop-drop (4096 * j) 4096 (b ∷ left) ∙ ap (λ (n : ℕ). drop n (b ∷ left)) (let z : 4096 + 4096 * j ≡ 4096 * suc j = omega arith in z)

pub has-place : (bytes : List ℕ) (k i : ℕ) → 1 ≤ k → i < 16 → 1 ≤ length (part_read bytes (token_read k i)) → HasPlace bytes k i
has-place bytes k i first below some =
    let x = place-at 16 0 i k (read_by bytes k) first below (subst (λ (xs : List ℕ). 1 ≤ length xs) (sym (part-of-read bytes k i below)) some) in
    record { descriptor = x.0; placed = x.1; at = x.2; token_is = x.3 ∙ ap (λ (j : ℕ). k * 256 + j) (let z : 0 + i ≡ i = omega arith in z) }

-- ---- the page of a READ's i-th descriptor

pub descriptor-read : (count i k j : ℕ) (d : Descriptor) → slice_get (read_descriptors count i k) j ≡ Some d → (j < count) × (d ≡ descriptor_of_load (i + j) (k - 1) 4096)
descriptor-read zero i k j d at = absurd (let b : ⊥ = cc in b)
descriptor-read (suc count) i k zero d at =
    (omega arith, (let same : d ≡ descriptor_of_load i (k - 1) 4096 = cc in same) ∙ ap (λ (n : ℕ). descriptor_of_load n (k - 1) 4096) (let z : i ≡ i + 0 = omega arith in z))
descriptor-read (suc count) i k (suc j) d at =
    let later = descriptor-read count (i + 1) k j d at in
    let below = later.0 in
    (omega (arith, below), later.1 ∙ ap (λ (n : ℕ). descriptor_of_load n (k - 1) 4096) (let z : i + 1 + j ≡ i + suc j = omega arith in z))

-- ---- the token that such a Place is under

pub placed-under : (bytes : List ℕ) (d : Descriptor) (placed : List ℕ) (t : PageToken) (p : IsPartPlace bytes d placed) → number_of t ≡ d.token → t.page < 256
    → (placed ≡ part_read bytes t) × (place_in_page t.page d ≡ 0)
placed-under bytes d placed t p number below =
    let token = p.token_is in
    let inside = p.below in
    let start = p.offset_is in
    let page : t.page ≡ p.i = omega (arith, number, token, inside, below) in
    let generation : t.generation ≡ p.k = omega (arith, number, token, inside, below) in (
      p.part_is ∙ ap (λ (i : ℕ). part_read bytes (token_read p.k i)) (sym page) ∙ ap (λ (k : ℕ). part_read bytes (token_read k t.page)) (sym generation),
      (let z : d.offset - 4096 * t.page ≡ 0 = omega (arith, start, page) in z),
    )
