-- A WRITE names the run's descriptors, where a pool gives the tokens.
use Rattle.std.proofs.Common.{◌≡◌, ◌⊎◌, inl, inr, ℕ, zero, suc, ◌+◌, ◌-◌, ◌*◌, ◌/◌, ◌%◌, ◌<◌, ◌≤◌, ◌==◌, nat_lt, nat_le, ◌&&◌, Bool, true, false, cond, Option, Some, None, List, [], ◌∷◌, ◌++◌, length, take, refl, sym, ap, ◌∙◌, subst, add-one, length-append, append_assoc, arith}
use Rattle.std.specs.Prelude.{slice_get, option_to_list, option_map}
use Rattle.std.proofs.Math.Nat.{div-add-mod, mod-lt, mul-le-mul_left}
use Rattle.std.proofs.lemmas.Bool.Decides.{nat_tests}
use Rattle.std.proofs.lemmas.List.{append-nil, take-append-le, length-take-le}
use Rattle.buffer_descriptor.specs.declared.descriptor.Descriptor.{Descriptor}
use Rattle.file_messages.specs.declared.kind.Channel.TheVariants as channels
use Rattle.file_messages.specs.declared.message.Request.{Request}
use Rattle.file_messages.specs.Runs.{pages_of, page_of, turn_of, windows, registered_write, descriptors_from, descriptor_of_load}
use Rattle.file_pasts.specs.ClientPast.{ClientEvent, Group, End, Sent, Replied, Gave, Completed, Received, groups_in, is_ended, requests_sent, descriptors_on}
use Rattle.file_pasts.specs.PutDue.{Setup, IsPut, are_whole, parts_on, part_on, named_on, names_page, descriptors_for, in_front, bytes_before}
use Rattle.file_pasts.specs.PutLaws.{NamesOwn}
use Rattle.file_pasts.specs.PutTokens.{HasPoolTokens, RegisteredPutsName}
use Rattle.file_pasts.proofs.PutLaw.{SentCase, sent_case, wants_parts, asks_front}
use Rattle.file_pasts.proofs.NamedPages.{names-pages}
use Rattle.file_pasts.specs.Groups.{AreShort}
use Rattle.file_pasts.proofs.GroupLemmas.{AreShort-append, short_at, take_whole}
use Rattle.file_pasts.proofs.Owning.{take-next}
use Rattle.file_pasts.specs.InStep.{part_at, named_at, over}
use Rattle.file_pasts.proofs.InStep.{length-parts, window}
use Rattle.file_pasts.specs.PutPages.{OwnsPart}
use Rattle.file_pasts.proofs.Owned.{owned}

-- ---- a step of a division

Steps : ℕ → ℕ → Type 0
Steps w m = (((m + 1) / w ≡ m / w) × ((m + 1) % w ≡ m % w + 1)) ⊎ (((m + 1) / w ≡ m / w + 1) × ((m + 1) % w ≡ 0) × (m % w + 1 ≡ w))

division : (w q r p s : ℕ) → 0 < w → r < w → s < w → w * p + s ≡ w * q + r + 1 → ((p ≡ q) × (s ≡ r + 1)) ⊎ ((p ≡ q + 1) × (s ≡ 0) × (r + 1 ≡ w))
division w q r p s some rw sw e = by_tests (nat_le (p + 1) q) (nat_le (q + 2) p) refl refl where
  below : p + 1 ≤ q → ⊥
  below h = let m : w * (p + 1) ≤ w * q = mul-le-mul_left w h in omega arith

  above : q + 2 ≤ p → ⊥
  above h = let m : w * (q + 2) ≤ w * p = mul-le-mul_left w h in omega arith

  by_last : (t : Bool) → (p == q) ≡ t → p ≤ q + 1 → q ≤ p → ((p ≡ q) × (s ≡ r + 1)) ⊎ ((p ≡ q + 1) × (s ≡ 0) × (r + 1 ≡ w))
  by_last true h lo hi =
      let same : p ≡ q = grind (arith, nat_tests) in
      let m : w * p ≡ w * q = ap (λ (k : ℕ). w * k) same in
      inl (same, omega arith)
  by_last false h lo hi =
      let apart : p ≡ q → ⊥ = (λ (x : p ≡ q). let y : (p == q) ≡ true = grind (arith, nat_tests) in both y h) in
      let next : p ≡ q + 1 = omega (arith, apart) in
      let m : w * p ≡ w * (q + 1) = ap (λ (k : ℕ). w * k) next in
      inr (next, omega arith, omega arith)
    where
      both : {b : Bool} → b ≡ true → b ≡ false → ⊥
      both x y = cc

  by_tests : (t u : Bool) → nat_le (p + 1) q ≡ t → nat_le (q + 2) p ≡ u → ((p ≡ q) × (s ≡ r + 1)) ⊎ ((p ≡ q + 1) × (s ≡ 0) × (r + 1 ≡ w))
  by_tests true u a b = absurd (below (let h : p + 1 ≤ q = grind (arith, nat_tests) in h))
  by_tests false true a b = absurd (above (let h : q + 2 ≤ p = grind (arith, nat_tests) in h))
  by_tests false false a b = by_last (p == q) refl (let h : p ≤ q + 1 = grind (arith, nat_tests) in h) (let h : q ≤ p = grind (arith, nat_tests) in h)

steps : (w m : ℕ) → 0 < w → Steps w m
unfolding Steps
steps w m some =
    division w (m / w) (m % w) ((m + 1) / w) ((m + 1) % w) some (mod-lt m some) (mod-lt (m + 1) some) (omega (arith, div-add-mod m w, div-add-mod (m + 1) w))

unfoldable pub bit : Bool → ℕ
bit true = 1
bit false = 0

-- how many of so many groups, the first of them after j others, use the window v
unfoldable pub uses : ℕ → ℕ → ℕ → ℕ → ℕ
uses w v j zero = 0
uses w v j (suc n) = bit (v == j % w) + uses w v (j + 1) n

-- how many of the first m groups use it
unfoldable pub used : ℕ → ℕ → ℕ → ℕ
used w v m = m / w + bit (nat_lt v (m % w))

pub used-step : (w v m : ℕ) → 0 < w → v < w → used w v (m + 1) ≡ used w v m + bit (v == m % w)
unfolding used bit Steps
used-step w v m some below = by_step (steps w m some) where
  by_tests : (a b c : Bool) → nat_lt v (m % w + 1) ≡ a → nat_lt v (m % w) ≡ b → (v == m % w) ≡ c → bit a ≡ bit b + bit c
  by_tests true true true p q r = absurd (let x : v < m % w = grind (arith, nat_tests) in let y : v ≡ m % w = grind (arith, nat_tests) in omega arith)
  by_tests true true false p q r = refl
  by_tests true false true p q r = refl
  by_tests true false false p q r = absurd (let x : v < m % w + 1 = grind (arith, nat_tests) in let y : m % w ≤ v = grind (arith, nat_tests) in let z : v ≡ m % w → ⊥ = (λ (h : v ≡ m % w). let k : (v == m % w) ≡ true = grind (arith, nat_tests) in both k r) in omega (arith, z))
    where
      both : {b : Bool} → b ≡ true → b ≡ false → ⊥
      both x y = cc
  by_tests false true c p q r = absurd (let x : v < m % w = grind (arith, nat_tests) in let y : m % w + 1 ≤ v = grind (arith, nat_tests) in omega arith)
  by_tests false false true p q r = absurd (let x : v ≡ m % w = grind (arith, nat_tests) in let y : m % w + 1 ≤ v = grind (arith, nat_tests) in omega arith)
  by_tests false false false p q r = refl

  by_step : Steps w m → (m + 1) / w + bit (nat_lt v ((m + 1) % w)) ≡ m / w + bit (nat_lt v (m % w)) + bit (v == m % w)
  by_step (inl s) =
      let one = by_tests (nat_lt v (m % w + 1)) (nat_lt v (m % w)) (v == m % w) refl refl refl in
      omega (arith, s.0, one, ap (λ (k : ℕ). bit (nat_lt v k)) s.1)
  by_step (inr s) =
      let wide : nat_lt v (m % w + 1) ≡ true = (let h : v < m % w + 1 = omega (arith, s.2) in grind (arith, nat_tests)) in
      let one : bit (nat_lt v (m % w + 1)) ≡ bit (nat_lt v (m % w)) + bit (v == m % w) = by_tests (nat_lt v (m % w + 1)) (nat_lt v (m % w)) (v == m % w) refl refl refl in
      let none : nat_lt v 0 ≡ false = grind (arith, nat_tests) in
      omega (arith, s.0, one, ap bit wide, ap bit none, ap (λ (k : ℕ). bit (nat_lt v k)) s.1)

pub uses-used : (w v j n : ℕ) → 0 < w → v < w → uses w v j n + used w v j ≡ used w v (j + n)
unfolding uses
uses-used w v j zero some below = let e : j + 0 ≡ j = omega arith in omega (arith, ap (used w v) e)
uses-used w v j (suc n) some below =
    omega (arith, uses-used w v (j + 1) n some below, used-step w v j some below, ap (used w v) (let e : j + 1 + n ≡ j + suc n = omega arith in e))

pub uses-turn : (w n : ℕ) → 0 < w → uses w (n % w) 0 n ≡ n / w
unfolding used bit
uses-turn w n some =
    let none : nat_lt (n % w) (n % w) ≡ false = grind (arith, nat_tests) in
    let at_zero : 0 % w ≡ 0 = omega (arith, div-add-mod 0 w) in
    let first : 0 / w ≡ 0 = (let h : 0 / w ≤ 0 = zero_div in omega arith) in
    let low : nat_lt (n % w) (0 % w) ≡ false = (let h : 0 % w ≡ 0 = at_zero in grind (arith, nat_tests)) in
    omega (arith, uses-used w (n % w) 0 n some (mod-lt n some), ap bit none, ap bit low, first, ap (λ (k : ℕ). k / w + bit (nat_lt (n % w) (k % w))) (let e : 0 + n ≡ n = omega arith in e))
  where
    zero_div : 0 / w ≤ 0
    zero_div = by_test (nat_le 1 (0 / w)) refl where
      by_test : (t : Bool) → nat_le 1 (0 / w) ≡ t → 0 / w ≤ 0
      by_test true e = let h : 1 ≤ 0 / w = grind (arith, nat_tests) in let m : w * 1 ≤ w * (0 / w) = mul-le-mul_left w h in omega (arith, div-add-mod 0 w)
      by_test false e = grind (arith, nat_tests)

-- ---- the parts of a page by the groups

unfoldable pub pl : ℕ → ℕ → ℕ → List (List ℕ) → List (List ℕ)
pl w q j [] = []
pl w q j (g ∷ gs) = part_on w q j g ++ pl w q (j + 1) gs

pub pl-append : (w q j : ℕ) (gs : List (List ℕ)) (b : List ℕ) → pl w q j (gs ++ b ∷ []) ≡ pl w q j gs ++ part_on w q (j + length gs) b
unfolding pl
pl-append w q j [] b = append-nil (part_on w q j b) ∙ ap (λ (k : ℕ). part_on w q k b) (let e : j ≡ j + 0 = omega arith in e)
pl-append w q j (g ∷ gs) b =
    ap (λ (t : List (List ℕ)). part_on w q j g ++ t) (pl-append w q (j + 1) gs b ∙ ap (λ (k : ℕ). pl w q (j + 1) gs ++ part_on w q k b) (let e : j + 1 + length gs ≡ j + suc (length gs) = omega arith in e))
    ∙ sym (append_assoc (part_on w q j g) (pl w q (j + 1) gs) (part_on w q (j + suc (length gs)) b))

pub parts-is : (w q : ℕ) (past : List ClientEvent) → parts_on w q past ≡ pl w q 0 (groups_in past)
unfolding pl
parts-is w q [] = refl
parts-is w q (Group bytes ∷ past) =
    ap (λ (t : List (List ℕ)). t ++ part_on w q (length (groups_in past)) bytes) (parts-is w q past)
    ∙ ap (λ (k : ℕ). pl w q 0 (groups_in past) ++ part_on w q k bytes) (let e : length (groups_in past) ≡ 0 + length (groups_in past) = omega arith in e)
    ∙ sym (pl-append w q 0 (groups_in past) bytes)
parts-is w q (End ∷ past) = parts-is w q past
parts-is w q (Sent r ∷ past) = parts-is w q past
parts-is w q (Replied m ∷ past) = parts-is w q past
parts-is w q (Gave work ∷ past) = parts-is w q past
parts-is w q (Completed c ∷ past) = parts-is w q past
parts-is w q (Received bytes ∷ past) = parts-is w q past

get-right : (xs ys : List (List ℕ)) (k : ℕ) → slice_get (xs ++ ys) (length xs + k) ≡ slice_get ys k
get-right [] ys k = ap (slice_get ys) (let e : 0 + k ≡ k = omega arith in e)
get-right (x ∷ xs) ys k = ap (slice_get (x ∷ (xs ++ ys))) (let e : suc (length xs) + k ≡ suc (length xs + k) = omega arith in e) ∙ get-right xs ys k

pl-at : (w q n j : ℕ) (gs : List (List ℕ)) (g part : List ℕ) → slice_get gs n ≡ Some g → part_on w q (j + n) g ≡ part ∷ []
    → slice_get (pl w q j gs) (length (pl w q j (take n gs))) ≡ Some part
unfolding pl
pl-at w q n j [] g part e h = absurd (let b : ⊥ = cc in b)
pl-at w q zero j (x ∷ gs) g part e h =
    let same : x ≡ g = cc in
    let one : part_on w q j x ≡ part ∷ [] = ap (part_on w q j) same ∙ ap (λ (k : ℕ). part_on w q k g) (let z : j ≡ j + 0 = omega arith in z) ∙ h in
    ap (λ (t : List (List ℕ)). slice_get (t ++ pl w q (j + 1) gs) 0) one
pl-at w q (suc n) j (x ∷ gs) g part e h =
    ap (slice_get (part_on w q j x ++ pl w q (j + 1) gs)) (length-append (part_on w q j x) (pl w q (j + 1) (take n gs)))
    ∙ get-right (part_on w q j x) (pl w q (j + 1) gs) (length (pl w q (j + 1) (take n gs)))
    ∙ pl-at w q n (j + 1) gs g part e (ap (λ (k : ℕ). part_on w q k g) (let z : j + 1 + n ≡ j + suc n = omega arith in z) ∙ h)

-- each of so many groups is whole
unfoldable pub Wholes : List (List ℕ) → Type 0
Wholes [] = Unit {0}
Wholes (g ∷ gs) = (length g ≡ 65536) × Wholes gs

whole-part : (w q j : ℕ) (g : List ℕ) → length g ≡ 65536 → length (part_on w q j g) ≡ bit (q / 16 == j % w)
unfolding bit
whole-part w q j g e = by_test (q / 16 == j % w) (slice_get (pages_of g) (q % 16)) refl where
  size : length (pages_of g) ≡ 16
  size = length-parts ((length g + (4096 - 1)) / 4096) 4096 g ∙ (let h : (length g + (4096 - 1)) / 4096 ≡ 16 = omega arith in h)

  beyond : (xs : List (List ℕ)) (k : ℕ) → slice_get xs k ≡ None → length xs ≤ k
  beyond [] k h = omega arith
  beyond (x ∷ xs) zero h = absurd (let b : ⊥ = cc in b)
  beyond (x ∷ xs) (suc k) h = omega (arith, beyond xs k h)

  by_test : (t : Bool) (o : Option (List ℕ)) → slice_get (pages_of g) (q % 16) ≡ o → length (cond t (option_to_list o) []) ≡ bit t
  by_test true (Some part) h = refl
  by_test true None h = absurd (omega (arith, beyond (pages_of g) (q % 16) h, size))
  by_test false o h = refl

pub length-pl : (w q j : ℕ) (gs : List (List ℕ)) → Wholes gs → length (pl w q j gs) ≡ uses w (q / 16) j (length gs)
unfolding pl uses Wholes
length-pl w q j [] a = refl
length-pl w q j (g ∷ gs) a = omega (arith, length-append (part_on w q j g) (pl w q (j + 1) gs), whole-part w q j g a.0, length-pl w q (j + 1) gs a.1)

-- ---- what was sent

pub in_turn : (s : Setup) (past : List ClientEvent) → IsPut s past → (length (requests_sent past) ≤ length (groups_in past) + 1) × (is_ended past ≡ false → length (requests_sent past) ≤ length (groups_in past))
unfolding SentCase
in_turn s [] p = (omega arith, λ h. omega arith)
in_turn s (Group bytes ∷ past) p =
    let i = in_turn s past p.1 in let w = wants_parts s past p.0.0 in let n : length (requests_sent past) ≤ length (groups_in past) = i.1 w.0 in
    (omega (arith, length-append (groups_in past) (bytes ∷ [])), λ h. omega (arith, length-append (groups_in past) (bytes ∷ [])))
in_turn s (End ∷ past) p = ((in_turn s past p.1).0, λ h. absurd (let b : ⊥ = cc in b))
in_turn s (Sent r ∷ past) p = by_case (sent_case s past r p.0) where
  within : (xs : List (List ℕ)) (i : ℕ) (y : List ℕ) → slice_get xs i ≡ Some y → i < length xs
  within [] i y k = absurd (let b : ⊥ = cc in b)
  within (z ∷ zs) zero y k = omega arith
  within (z ∷ zs) (suc i) y k = omega (arith, within zs i y k)

  both : {b : Bool} → b ≡ true → b ≡ false → ⊥
  both x y = cc

  by_case : SentCase s past r → (length (requests_sent past ++ r ∷ []) ≤ length (groups_in past) + 1) × (is_ended past ≡ false → length (requests_sent past ++ r ∷ []) ≤ length (groups_in past))
  by_case (inl x) =
      let n : length (requests_sent past) < length (groups_in past) = within (groups_in past) (length (requests_sent past)) x.0 x.1 in
      (omega (arith, n, length-append (requests_sent past) (r ∷ [])), λ h. omega (arith, n, length-append (requests_sent past) (r ∷ [])))
  by_case (inr x) = (omega (arith, x.1, length-append (requests_sent past) (r ∷ [])), λ h. absurd (both x.0 h))
in_turn s (Replied m ∷ past) p = in_turn s past p.1
in_turn s (Gave work ∷ past) p = in_turn s past p.1
in_turn s (Completed c ∷ past) p = in_turn s past p.1
in_turn s (Received bytes ∷ past) p = let i = in_turn s past p.1 in (i.0, i.1)

pub all_short : (s : Setup) (past : List ClientEvent) → IsPut s past → AreShort (groups_in past)
all_short s [] p = tt
all_short s (Group bytes ∷ past) p = AreShort-append (groups_in past) bytes (all_short s past p.1) p.0.2
all_short s (End ∷ past) p = all_short s past p.1
all_short s (Sent r ∷ past) p = all_short s past p.1
all_short s (Replied m ∷ past) p = all_short s past p.1
all_short s (Gave work ∷ past) p = all_short s past p.1
all_short s (Completed c ∷ past) p = all_short s past p.1
all_short s (Received bytes ∷ past) p = all_short s past p.1

pub wholes_of : (gs : List (List ℕ)) → are_whole gs ≡ true → Wholes gs
unfolding Wholes
wholes_of [] e = tt
wholes_of (g ∷ gs) e = by_test (length g == 65536) (are_whole gs) refl e (λ (h : are_whole gs ≡ true). wholes_of gs h) where
  by_test : (t u : Bool) → (length g == 65536) ≡ t → (t && u) ≡ true → (u ≡ true → Wholes gs) → (length g ≡ 65536) × Wholes gs
  by_test true u p h f = (let x : length g ≡ 65536 = grind (arith, nat_tests) in x, f h)
  by_test false u p h f = absurd (let b : ⊥ = cc in b)

pub wholes_take : (n : ℕ) (gs : List (List ℕ)) → Wholes gs → Wholes (take n gs)
unfolding Wholes
wholes_take zero gs a = tt
wholes_take (suc n) [] a = tt
wholes_take (suc n) (g ∷ gs) a = (a.0, wholes_take n gs a.1)

pub place_within : (xs : List (List ℕ)) (i : ℕ) (y : List ℕ) → slice_get xs i ≡ Some y → i < length xs
place_within [] i y k = absurd (let b : ⊥ = cc in b)
place_within (z ∷ zs) zero y k = omega arith
place_within (z ∷ zs) (suc i) y k = omega (arith, place_within zs i y k)

-- the groups before one are whole
pub wholes_before : (s : Setup) (past : List ClientEvent) (n : ℕ) (g : List ℕ) → IsPut s past → slice_get (groups_in past) n ≡ Some g → Wholes (take n (groups_in past))
wholes_before s [] n g p e = absurd (let b : ⊥ = cc in b)
wholes_before s (Group bytes ∷ past) n g p e =
    let few : n < length (groups_in past ++ bytes ∷ []) = place_within (groups_in past ++ bytes ∷ []) n g e in
    let within : n ≤ length (groups_in past) = omega (arith, few, length-append (groups_in past) (bytes ∷ [])) in
    subst Wholes (sym (take-append-le n (groups_in past) (bytes ∷ []) within)) (wholes_take n (groups_in past) (wholes_of (groups_in past) (wants_parts s past p.0.0).1))
wholes_before s (End ∷ past) n g p e = wholes_before s past n g p.1 e
wholes_before s (Sent r ∷ past) n g p e = wholes_before s past n g p.1 e
wholes_before s (Replied m ∷ past) n g p e = wholes_before s past n g p.1 e
wholes_before s (Gave work ∷ past) n g p e = wholes_before s past n g p.1 e
wholes_before s (Completed c ∷ past) n g p e = wholes_before s past n g p.1 e
wholes_before s (Received bytes ∷ past) n g p e = wholes_before s past n g p.1 e

-- ---- what WRITEs named

pub first_page : (w n : ℕ) → page_of w (n + 1) 0 ≡ n % w * 16
first_page w n = ap (λ (k : ℕ). k % w * 16 + 0) (let e : n + 1 - 1 ≡ n = omega arith in e) ∙ (let e : n % w * 16 + 0 ≡ n % w * 16 = omega arith in e)

pub few_pages : (g : List ℕ) → length g ≤ 65536 → length (pages_of g) ≤ 16
few_pages g h = omega (arith, length-parts ((length g + (4096 - 1)) / 4096) 4096 g)

length-part_at : (first q : ℕ) (parts : List (List ℕ)) → length (part_at first parts q) ≡ named_at first (first + length parts) q
length-part_at first q parts = by_test (nat_le first q) refl where
  some : (xs : List (List ℕ)) (k : ℕ) → k < length xs → length (option_to_list (slice_get xs k)) ≡ 1
  some [] k h = absurd (omega arith)
  some (x ∷ xs) zero h = refl
  some (x ∷ xs) (suc k) h = some xs k (omega arith)

  none : (xs : List (List ℕ)) (k : ℕ) → length xs ≤ k → length (option_to_list (slice_get xs k)) ≡ 0
  none [] k h = refl
  none (x ∷ xs) zero h = absurd (omega arith)
  none (x ∷ xs) (suc k) h = none xs k (omega arith)

  by_last : (u : Bool) → first ≤ q → nat_lt q (first + length parts) ≡ u → length (option_to_list (slice_get parts (q - first))) ≡ cond u 1 0
  by_last true h e = some parts (q - first) (let k : q < first + length parts = grind (arith, nat_tests) in omega arith)
  by_last false h e = none parts (q - first) (let k : first + length parts ≤ q = grind (arith, nat_tests) in omega arith)

  by_test : (t : Bool) → nat_le first q ≡ t → length (cond t (option_to_list (slice_get parts (q - first))) []) ≡ cond (t && nat_lt q (first + length parts)) 1 0
  by_test true e = by_last (nat_lt q (first + length parts)) (let h : first ≤ q = grind (arith, nat_tests) in h) refl
  by_test false e = refl

names-part : (w q n : ℕ) (g : List ℕ) (past : List ClientEvent) (ds : List Descriptor) → length g ≤ 65536
    → descriptors_for (page_of w (n + 1) 0) (pages_of g) past ≡ Some ds → names_page q ds ≡ length (part_on w q n g)
names-part w q n g past ds short e =
    names-pages q (page_of w (n + 1) 0) (pages_of g) past ds e ∙ sym (length-part_at (page_of w (n + 1) 0) q (pages_of g))
    ∙ ap length (ap (λ (k : ℕ). part_at k (pages_of g) q) (first_page w n) ∙ window (n % w) q (pages_of g) (few_pages g short))

pub named-is : (w q : ℕ) (past : List ClientEvent) → IsPut (over w) past → named_on q past ≡ length (pl w q 0 (take (length (requests_sent past)) (groups_in past)))
unfolding pl SentCase
named-is w q [] p = refl
named-is w q (Group bytes ∷ past) p =
    let within : length (requests_sent past) ≤ length (groups_in past) = (in_turn (over w) past p.1).1 (wants_parts (over w) past p.0.0).0 in
    named-is w q past p.1 ∙ ap (λ (gs : List (List ℕ)). length (pl w q 0 gs)) (sym (take-append-le (length (requests_sent past)) (groups_in past) (bytes ∷ []) within))
named-is w q (End ∷ past) p = named-is w q past p.1
named-is w q (Sent r ∷ past) p = by_case (sent_case (over w) past r p.0) (named-is w q past p.1) where
  n : ℕ
  n = length (requests_sent past)

  more : length (requests_sent past ++ r ∷ []) ≡ suc (length (requests_sent past))
  more = length-append (requests_sent past) (r ∷ []) ∙ add-one (length (requests_sent past))

  by_write : (group : List ℕ) (o : Option (List Descriptor)) → slice_get (groups_in past) (length (requests_sent past)) ≡ Some group
      → descriptors_for (page_of w (length (requests_sent past) + 1) 0) (pages_of group) past ≡ o
      → option_map (registered_write (length (requests_sent past) + 1) (bytes_before (length (requests_sent past) + 1) past) group) o ≡ Some r
      → named_on q past ≡ length (pl w q 0 (take (length (requests_sent past)) (groups_in past)))
      → named_on q past + names_page q r.descriptors ≡ length (pl w q 0 (take (length (requests_sent past ++ r ∷ [])) (groups_in past)))
  by_write group None at d e ih = absurd (let b : ⊥ = cc in b)
  by_write group (Some ds) at d e ih =
      let r_is : registered_write (length (requests_sent past) + 1) (bytes_before (length (requests_sent past) + 1) past) group ds ≡ r = cc in
      let ds_is : ds ≡ r.descriptors = ap (λ (x : Request). x.descriptors) r_is in
      let short : length group ≤ 65536 = short_at (length (requests_sent past)) (groups_in past) group (all_short (over w) past p.1) at in
      let size : 0 + length (take (length (requests_sent past)) (groups_in past)) ≡ length (requests_sent past) =
      omega (arith, length-take-le (length (requests_sent past)) (groups_in past) (let h : length (requests_sent past) < length (groups_in past) = place_within (groups_in past) (length (requests_sent past)) group at in omega arith)) in
      let all : take (length (requests_sent past ++ r ∷ [])) (groups_in past) ≡ take (length (requests_sent past)) (groups_in past) ++ group ∷ [] =
      ap (λ (k : ℕ). take k (groups_in past)) more ∙ take-next (length (requests_sent past)) (groups_in past) group at in
      let whole : length (pl w q 0 (take (length (requests_sent past ++ r ∷ [])) (groups_in past)))
      ≡ length (pl w q 0 (take (length (requests_sent past)) (groups_in past))) + length (part_on w q (length (requests_sent past)) group) =
      ap (λ (gs : List (List ℕ)). length (pl w q 0 gs)) all
      ∙ ap length (pl-append w q 0 (take (length (requests_sent past)) (groups_in past)) group)
      ∙ length-append (pl w q 0 (take (length (requests_sent past)) (groups_in past))) (part_on w q (0 + length (take (length (requests_sent past)) (groups_in past))) group)
      ∙ ap (λ (k : ℕ). length (pl w q 0 (take (length (requests_sent past)) (groups_in past))) + length (part_on w q k group)) size in
      omega (arith, ih, whole, ap (names_page q) ds_is, names-part w q (length (requests_sent past)) group past ds short d)

  by_case : SentCase (over w) past r → named_on q past ≡ length (pl w q 0 (take (length (requests_sent past)) (groups_in past)))
      → named_on q past + names_page q r.descriptors ≡ length (pl w q 0 (take (length (requests_sent past ++ r ∷ [])) (groups_in past)))
  by_case (inl x) ih = by_write x.0 (descriptors_for (page_of w (length (requests_sent past) + 1) 0) (pages_of x.0) past) x.1 refl x.2 ih
  by_case (inr x) ih =
      let none : names_page q r.descriptors ≡ 0 = ap (λ (y : Request). names_page q y.descriptors) x.2 in
      let now : take (length (requests_sent past ++ r ∷ [])) (groups_in past) ≡ take (length (requests_sent past)) (groups_in past) =
      take_whole (length (requests_sent past ++ r ∷ [])) (groups_in past) (omega (arith, more, x.1)) ∙ sym (take_whole (length (requests_sent past)) (groups_in past) (omega (arith, x.1))) in
      omega (arith, ih, none, ap (λ (gs : List (List ℕ)). length (pl w q 0 gs)) now)
named-is w q (Replied m ∷ past) p = named-is w q past p.1
named-is w q (Gave work ∷ past) p = named-is w q past p.1
named-is w q (Completed c ∷ past) p = named-is w q past p.1
named-is w q (Received bytes ∷ past) p = absurd p.0

-- ---- the run's descriptors

ds_own : (w k i : ℕ) (parts : List (List ℕ)) (past : List ClientEvent) (ds : List Descriptor) → descriptors_for (page_of w k i) parts past ≡ Some ds
    → ((m : ℕ) (part : List ℕ) (d : Descriptor) → slice_get parts m ≡ Some part
    → slice_get (descriptors_on (page_of w k (i + m)) past) (named_on (page_of w k (i + m)) past) ≡ Some d
    → d ≡ descriptor_of_load (page_of w k (i + m)) (turn_of w k) (length part))
    → ds ≡ descriptors_from w k i parts
ds_own w k i [] past ds e f = let none : ds ≡ [] = cc in none
ds_own w k i (part ∷ parts) past ds e f =
    by_parts (slice_get (descriptors_on (page_of w k i) past) (named_on (page_of w k i) past)) (descriptors_for (page_of w k i + 1) parts past) refl refl e
    (λ (later : List Descriptor) (h : descriptors_for (page_of w k (i + 1)) parts past ≡ Some later).
    ds_own w k (i + 1) parts past later h (λ m x d at got. shifted m x d at got)) where
      shifted : (m : ℕ) (x : List ℕ) (d : Descriptor) → slice_get parts m ≡ Some x
          → slice_get (descriptors_on (page_of w k (i + 1 + m)) past) (named_on (page_of w k (i + 1 + m)) past) ≡ Some d
          → d ≡ descriptor_of_load (page_of w k (i + 1 + m)) (turn_of w k) (length x)
      shifted m x d at got =
          let e : i + suc m ≡ i + 1 + m = omega arith in
          f (suc m) x d at (subst (λ (j : ℕ). slice_get (descriptors_on (page_of w k j) past) (named_on (page_of w k j) past) ≡ Some d) (sym e) got)
          ∙ ap (λ (j : ℕ). descriptor_of_load (page_of w k j) (turn_of w k) (length x)) e

      by_parts : (o : Option Descriptor) (l : Option (List Descriptor)) → slice_get (descriptors_on (page_of w k i) past) (named_on (page_of w k i) past) ≡ o
          → descriptors_for (page_of w k i + 1) parts past ≡ l → in_front o l ≡ Some ds
          → ((later : List Descriptor) → descriptors_for (page_of w k (i + 1)) parts past ≡ Some later → later ≡ descriptors_from w k (i + 1) parts)
          → ds ≡ descriptor_of_load (page_of w k i) (turn_of w k) (length part) ∷ descriptors_from w k (i + 1) parts
      by_parts None l p r h g = absurd (let b : ⊥ = cc in b)
      by_parts (Some d) None p r h g = absurd (let b : ⊥ = cc in b)
      by_parts (Some d) (Some later) p r h g =
          let ds_is : ds ≡ d ∷ later = cc in
          let here : i ≡ i + 0 = omega arith in
          let d_is : d ≡ descriptor_of_load (page_of w k i) (turn_of w k) (length part) =
          f 0 part d refl (subst (λ (j : ℕ). slice_get (descriptors_on (page_of w k j) past) (named_on (page_of w k j) past) ≡ Some d) here p)
          ∙ ap (λ (j : ℕ). descriptor_of_load (page_of w k j) (turn_of w k) (length part)) (sym here) in
          let next : page_of w k i + 1 ≡ page_of w k (i + 1) = omega arith in
          let later_is : later ≡ descriptors_from w k (i + 1) parts = g later (ap (λ (j : ℕ). descriptors_for j parts past) (sym next) ∙ r) in
          ds_is ∙ ap (λ (x : Descriptor). x ∷ later) d_is ∙ ap (λ (xs : List Descriptor). descriptor_of_load (page_of w k i) (turn_of w k) (length part) ∷ xs) later_is

one-own : (w : ℕ) (past : List ClientEvent) (group : List ℕ) → 0 < w → IsPut (over w) past → HasPoolTokens past
    → slice_get (groups_in past) (length (requests_sent past)) ≡ Some group → (m : ℕ) (part : List ℕ) (d : Descriptor) → slice_get (pages_of group) m ≡ Some part
    → slice_get (descriptors_on (page_of w (length (requests_sent past) + 1) (0 + m)) past) (named_on (page_of w (length (requests_sent past) + 1) (0 + m)) past) ≡ Some d
    → d ≡ descriptor_of_load (page_of w (length (requests_sent past) + 1) (0 + m)) (turn_of w (length (requests_sent past) + 1)) (length part)
one-own w past group some p k at m part d part_at_m got =
    let n : ℕ = length (requests_sent past) in
    let q : ℕ = page_of w (n + 1) (0 + m) in
    let short : length group ≤ 65536 = short_at n (groups_in past) group (all_short (over w) past p) at in
    let below : m < 16 = (let h : m < length (pages_of group) = place_within (pages_of group) m part part_at_m in omega (arith, few_pages group short)) in
    let less : n + 1 - 1 ≡ n = omega arith in
    let q_is : q ≡ n % w * 16 + m = ap (λ (x : ℕ). x % w * 16 + (0 + m)) less ∙ (let e : n % w * 16 + (0 + m) ≡ n % w * 16 + m = omega arith in e) in
    let over_16 : q / 16 ≡ n % w = omega (arith, q_is) in
    let rest_16 : q % 16 ≡ m = omega (arith, q_is) in
    let mine : (q / 16 == n % w) ≡ true = grind (arith, nat_tests) in
    let part_is : part_on w q n group ≡ part ∷ [] =
    ap (λ (t : Bool). cond t (option_to_list (slice_get (pages_of group) (q % 16))) []) mine
    ∙ ap (λ (j : ℕ). option_to_list (slice_get (pages_of group) j)) rest_16 ∙ ap option_to_list part_at_m in
    let size : length (take n (groups_in past)) ≡ n = length-take-le n (groups_in past) (let h : n < length (groups_in past) = place_within (groups_in past) n group at in omega arith) in
    let named : named_on q past ≡ length (pl w q 0 (take n (groups_in past))) = named-is w q past p in
    let turn : named_on q past ≡ n / w =
    named ∙ length-pl w q 0 (take n (groups_in past)) (wholes_before (over w) past n group p at)
    ∙ ap (λ (x : ℕ). uses w x 0 (length (take n (groups_in past)))) over_16 ∙ ap (uses w (n % w) 0) size ∙ uses-turn w n some in
    let part_of_page : slice_get (parts_on w q past) (named_on q past) ≡ Some part =
    ap (λ (ps : List (List ℕ)). slice_get ps (named_on q past)) (parts-is w q past) ∙ ap (slice_get (pl w q 0 (groups_in past))) named
    ∙ pl-at w q n 0 (groups_in past) group part at (ap (λ (x : ℕ). part_on w q x group) (let e : 0 + n ≡ n = omega arith in e) ∙ part_is) in
    let mine_d : OwnsPart (parts_on w q past) q (named_on q past) d = (owned w q past p k).own (named_on q past) d got in
    let same : mine_d.part ≡ part = some_same mine_d.part part (sym mine_d.at ∙ part_of_page) in
    mine_d.same ∙ ap (λ (x : ℕ). descriptor_of_load q x (length mine_d.part)) (turn ∙ ap (λ (x : ℕ). x / w) (sym less)) ∙ ap (λ (x : List ℕ). descriptor_of_load q (turn_of w (n + 1)) (length x)) same
  where
    some_same : (x y : List ℕ) → Some x ≡ Some y → x ≡ y
    some_same x y e = cc

names_d13 : (w : ℕ) (past : List ClientEvent) → 0 < w → IsPut (over w) past → HasPoolTokens past → NamesOwn (over w) past
unfolding SentCase
names_d13 w [] some p k = tt
names_d13 w (Group bytes ∷ past) some p k = names_d13 w past some p.1 k
names_d13 w (End ∷ past) some p k = names_d13 w past some p.1 k
names_d13 w (Sent r ∷ past) some p k = (λ group at. by_case group at (sent_case (over w) past r p.0), names_d13 w past some p.1 k) where
  beyond : (xs : List (List ℕ)) (i : ℕ) (y : List ℕ) → length xs ≤ i → slice_get xs i ≡ Some y → ⊥
  beyond [] i y h e = cc
  beyond (z ∷ zs) zero y h e = absurd (omega arith)
  beyond (z ∷ zs) (suc i) y h e = beyond zs i y (omega arith) e

  by_write : (group : List ℕ) (o : Option (List Descriptor)) → slice_get (groups_in past) (length (requests_sent past)) ≡ Some group
      → descriptors_for (page_of w (length (requests_sent past) + 1) 0) (pages_of group) past ≡ o
      → option_map (registered_write (length (requests_sent past) + 1) (bytes_before (length (requests_sent past) + 1) past) group) o ≡ Some r
      → r ≡ registered_write (length (requests_sent past) + 1) (bytes_before (length (requests_sent past) + 1) past) group (descriptors_from w (length (requests_sent past) + 1) 0 (pages_of group))
  by_write group None at d e = absurd (let b : ⊥ = cc in b)
  by_write group (Some ds) at d e =
      let r_is : registered_write (length (requests_sent past) + 1) (bytes_before (length (requests_sent past) + 1) past) group ds ≡ r = cc in
      sym r_is ∙ ap (registered_write (length (requests_sent past) + 1) (bytes_before (length (requests_sent past) + 1) past) group)
      (ds_own w (length (requests_sent past) + 1) 0 (pages_of group) past ds d (one-own w past group some p.1 k at))

  same_group : (x y : List ℕ) → Some x ≡ Some y → x ≡ y
  same_group x y e = cc

  by_case : (group : List ℕ) → slice_get (groups_in past) (length (requests_sent past)) ≡ Some group → SentCase (over w) past r
      → r ≡ registered_write (length (requests_sent past) + 1) (bytes_before (length (requests_sent past) + 1) past) group (descriptors_from w (length (requests_sent past) + 1) 0 (pages_of group))
  by_case group at (inl x) =
      let same : x.0 ≡ group = same_group x.0 group (sym x.1 ∙ at) in
      by_write x.0 (descriptors_for (page_of w (length (requests_sent past) + 1) 0) (pages_of x.0) past) x.1 refl x.2
      ∙ ap (λ (g : List ℕ). registered_write (length (requests_sent past) + 1) (bytes_before (length (requests_sent past) + 1) past) g (descriptors_from w (length (requests_sent past) + 1) 0 (pages_of g))) same
  by_case group at (inr x) = absurd (beyond (groups_in past) (length (requests_sent past)) group (omega (arith, x.1)) at)
names_d13 w (Replied m ∷ past) some p k = names_d13 w past some p.1 k
names_d13 w (Gave work ∷ past) some p k = names_d13 w past some p.1 k
names_d13 w (Completed c ∷ past) some p k = names_d13 w past some p.1 k.1
names_d13 w (Received bytes ∷ past) some p k = absurd p.0

pub registered_puts_name : RegisteredPutsName
registered_puts_name pages past some p k = asks_front channels.V1 pages past p (names_d13 (windows pages) past some p k)
