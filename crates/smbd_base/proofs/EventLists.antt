-- Counts and members of lists of page events.
use Rattle.std.proofs.Common.{◌≡◌, ℕ, zero, suc, ◌+◌, ◌≤◌, Bool, true, false, cond, List, [], ◌∷◌, count_by, refl, ap, ◌∙◌, subst, arith, inl, inr, ◌⊎◌, ⊎_elim}
use Rattle.std.specs.List.{Contains}
use Rattle.std.proofs.lemmas.Bool.{and_parts, and_from, eqb-true, eq-eqb, false_from_ne_true, cases_Bool, cond-true, cond-false}
use Rattle.std.proofs.lemmas.List.Sums.{sum_by-cons}
use Rattle.smbd_base.specs.declared.page_event.PageEvent.{PageEvent}
use Rattle.smbd_base.specs.declared.page_event.PageEvent.TheVariants.{Load, Fetch, Place, Unload}
use Rattle.smbd_base.specs.Tokens.{PageToken}
use Rattle.smbd_base.specs.Pages.{token_in}
use Rattle.smbd_base.specs.PagesFit.{is_token, is_load_of, is_unload_of, is_place_under, is_place_at}

pub Contains-head : (x : PageEvent) (xs : List PageEvent) → Contains (x ∷ xs) x
Contains-head x xs = (0, omega arith, refl)

pub Contains-tail : (x : PageEvent) (xs : List PageEvent) (y : PageEvent) → Contains xs y → Contains (x ∷ xs) y
Contains-tail x xs y h = let below = h.1 in (suc h.0, omega arith, h.2)

pub Contains-cons_cases : (x : PageEvent) (xs : List PageEvent) (y : PageEvent) → Contains (x ∷ xs) y → (x ≡ y) ⊎ Contains xs y
Contains-cons_cases x xs y (zero, below, is) = inl is
Contains-cons_cases x xs y (suc k, below, is) = inr (k, omega arith, is)

pub Contains-nil : (y : PageEvent) → Contains [] y → ⊥
Contains-nil y h = let below = h.1 in omega arith

-- what holds of the new event and of each old one
pub each-cons : (P : PageEvent → Type 0) (x : PageEvent) (xs : List PageEvent) → P x → ((y : PageEvent) → Contains xs y → P y)
    → (y : PageEvent) → Contains (x ∷ xs) y → P y
each-cons P x xs here there y h = ⊎_elim (λ (same : x ≡ y). subst P same here) (λ (old : Contains xs y). there y old) (Contains-cons_cases x xs y h)

-- an event that differs from the new one is an old one
pub Contains-old : (x : PageEvent) (xs : List PageEvent) (y : PageEvent) → (x ≡ y → ⊥) → Contains (x ∷ xs) y → Contains xs y
Contains-old x xs y differ h = ⊎_elim (λ (same : x ≡ y). absurd (differ same)) (λ (old : Contains xs y). old) (Contains-cons_cases x xs y h)

pub count-yes : (q : PageEvent → Bool) (x : PageEvent) (xs : List PageEvent) → q x ≡ true → count_by q (x ∷ xs) ≡ count_by q xs + 1
count-yes q x xs e =
    let h = sum_by-cons (λ (y : PageEvent). cond (q y) 1 0) x xs in
    let one = cond-true {A = ℕ} (q x) 1 0 e in
    omega (arith, h, one)

pub count-no : (q : PageEvent → Bool) (x : PageEvent) (xs : List PageEvent) → q x ≡ false → count_by q (x ∷ xs) ≡ count_by q xs
count-no q x xs e =
    let h = sum_by-cons (λ (y : PageEvent). cond (q y) 1 0) x xs in
    let none = cond-false {A = ℕ} (q x) 1 0 e in
    omega (arith, h, none)

pub count-none : (q : PageEvent → Bool) (xs : List PageEvent) → ((x : PageEvent) → Contains xs x → q x ≡ false) → count_by q xs ≡ 0
count-none q [] out = refl
count-none q (x ∷ xs) out =
    count-no q x xs (out x (Contains-head x xs)) ∙ count-none q xs (λ y h. out y (Contains-tail x xs y h))

pub count-some : (q : PageEvent → Bool) (xs : List PageEvent) (x : PageEvent) → Contains xs x → q x ≡ true → 1 ≤ count_by q xs
count-some q [] x h e = absurd (Contains-nil x h)
count-some q (y ∷ ys) x h e =
    ⊎_elim
    (λ (same : y ≡ x). omega (arith, count-yes q y ys (ap q same ∙ e)))
    (λ (old : Contains ys x). let was = count-some q ys x old e in
    ⊎_elim (λ (yes : q y ≡ true). omega (arith, count-yes q y ys yes)) (λ (no : q y ≡ false). omega (arith, count-no q y ys no)) (cases_Bool (q y)))
    (Contains-cons_cases y ys x h)

-- tokens of the same page and generation
pub record IsSame (t u : PageToken) : Type 0 where
  pub page : t.page ≡ u.page
  pub generation : t.generation ≡ u.generation

pub is_token-yes : (t u : PageToken) → IsSame t u → is_token t u ≡ true
is_token-yes t u s = and_from _ _ (eq-eqb t.page u.page s.page) (eq-eqb t.generation u.generation s.generation)

pub is_token-true : (t u : PageToken) → is_token t u ≡ true → IsSame t u
is_token-true t u e =
    let h = and_parts _ _ e in
    record { page = eqb-true t.page u.page h.0; generation = eqb-true t.generation u.generation h.1 }

pub is_token-no : (t u : PageToken) → (t.generation ≡ u.generation → ⊥) → is_token t u ≡ false
is_token-no t u differ = false_from_ne_true _ (λ e. differ (is_token-true t u e).generation)

made : (p q m n : ℕ) → p ≡ q → m ≡ n → ◌≡◌ {A = PageToken} (record { page = p; generation = m }) (record { page = q; generation = n })
made p q m n a b = rw (a, b) refl

pub token-is : (t u : PageToken) → IsSame t u → t ≡ u
token-is t u s = made t.page u.page t.generation u.generation s.page s.generation

pub same-token : (t u : PageToken) → t ≡ u → IsSame t u
same-token t u e = record { page = ap (λ (v : PageToken). v.page) e; generation = ap (λ (v : PageToken). v.generation) e }

-- a test that holds of events on one token alone
abbrev pub IsOn : PageToken → (PageEvent → Bool) → Type 0
IsOn t q = (e : PageEvent) → q e ≡ true → IsSame t (token_in e)

pub loads-on : (t : PageToken) → IsOn t (is_load_of t)
loads-on t (Load u r b) e = is_token-true t u e
loads-on t (Fetch u at b) e = absurd cc
loads-on t (Place u n at b) e = absurd cc
loads-on t (Unload u b) e = absurd cc

pub unloads-on : (t : PageToken) → IsOn t (is_unload_of t)
unloads-on t (Load u r b) e = absurd cc
unloads-on t (Fetch u at b) e = absurd cc
unloads-on t (Place u n at b) e = absurd cc
unloads-on t (Unload u b) e = is_token-true t u e

pub places-on : (t : PageToken) → IsOn t (is_place_under t)
places-on t (Load u r b) e = absurd cc
places-on t (Fetch u at b) e = absurd cc
places-on t (Place u n at b) e = is_token-true t u e
places-on t (Unload u b) e = absurd cc

pub orders-on : (t : PageToken) (n : ℕ) → IsOn t (is_place_at t n)
orders-on t n (Load u r b) e = absurd cc
orders-on t n (Fetch u at b) e = absurd cc
orders-on t n (Place u m at b) e = is_token-true t u (and_parts _ _ e).0
orders-on t n (Unload u b) e = absurd cc
