-- The lists of the events of some workers, and what is in them.
use Rattle.std.proofs.Common.{◌≡◌, ◌⊎◌, inl, inr, ℕ, zero, suc, ◌+◌, ◌<◌, Some, List, [], ◌∷◌, ◌++◌, refl, sym, ap, ◌∙◌, subst, arith, append_assoc, ⊎_elim, Contains}
use Rattle.std.specs.Prelude.{slice_get}
use Rattle.std.proofs.lemmas.List.{append-nil}
use Rattle.std.proofs.lemmas.Bool.{cases_eq}
use Rattle.std.proofs.lemmas.List.Elements.{Contains-append_left, Contains-append_right}
use Rattle.smbd_base.specs.declared.page_event.PageEvent.{PageEvent}
use Rattle.smbd_base.specs.Pages.{Entry}
use Rattle.smbd_base.specs.PagesFit.{all_events, events_by, lists_of}
use Rattle.smbd_base.proofs.PassLists.{events_by-here, events_by-other}
use Rattle.smbd_base.proofs.EventLists.{Contains-head, Contains-tail}
use Rattle.copy_laws.specs.Laws.{lists_from}
use Rattle.copy_laws.proofs.Eaches.{Each, each-append}

-- ---- an entry of a past

abbrev pub HasEntry : List Entry → ℕ → PageEvent → Type 0
HasEntry [] q e = ⊥
HasEntry (x ∷ pool) q e = ((x.pass ≡ q) × (x.event ≡ e)) ⊎ HasEntry pool q e

pub each-has : (P : ℕ → PageEvent → Type 0) (pool : List Entry) (q : ℕ) (e : PageEvent) → Each (λ (x : Entry). P x.pass x.event) pool → HasEntry pool q e → P q e
each-has P [] q e h k = absurd k
each-has P (x ∷ pool) q e h (inl k) = subst (λ (a : ℕ). P a e) k.0 (subst (λ (b : PageEvent). P x.pass b) k.1 h.0)
each-has P (x ∷ pool) q e h (inr k) = each-has P pool q e h.1 k

pub entry-listed : (pool : List Entry) (q : ℕ) (e : PageEvent) → HasEntry pool q e → Contains (events_by q pool) e
entry-listed [] q e h = absurd h
entry-listed (x ∷ pool) q e (inl h) =
    subst (λ (es : List PageEvent). Contains es e) (sym (events_by-here q x pool h.0))
    (subst (λ (b : PageEvent). Contains (x.event ∷ events_by q pool) b) h.1 (Contains-head x.event (events_by q pool)))
entry-listed (x ∷ pool) q e (inr h) =
    ⊎_elim
    (λ (same : x.pass ≡ q). subst (λ (es : List PageEvent). Contains es e) (sym (events_by-here q x pool same)) (Contains-tail x.event (events_by q pool) e (entry-listed pool q e h)))
    (λ (other : x.pass ≡ q → ⊥). subst (λ (es : List PageEvent). Contains es e) (sym (events_by-other q x pool other)) (entry-listed pool q e h))
    (cases_eq x.pass q)

-- what holds of all entries holds of those of a pass
pub each-of-pass : (P : PageEvent → Type 0) (q : ℕ) (pool : List Entry) → Each (λ (x : Entry). P x.event) pool → Each P (events_by q pool)
each-of-pass P q [] h = tt
each-of-pass P q (x ∷ pool) h =
    ⊎_elim
    (λ (same : x.pass ≡ q). subst (λ (es : List PageEvent). Each P es) (sym (events_by-here q x pool same)) (h.0, each-of-pass P q pool h.1))
    (λ (other : x.pass ≡ q → ⊥). subst (λ (es : List PageEvent). Each P es) (sym (events_by-other q x pool other)) (each-of-pass P q pool h.1))
    (cases_eq x.pass q)

-- ---- the lists of some passes

pub each-lists : (P : PageEvent → Type 0) (first count : ℕ) (pool : List Entry) → ((place : ℕ) → place < count → Each P (events_by (first + place) pool)) → Each P (all_events (lists_from first count pool))
each-lists P first zero pool h = tt
each-lists P first (suc count) pool h =
    each-append P (events_by first pool) (all_events (lists_from (first + 1) count pool))
    (subst (λ (q : ℕ). Each P (events_by q pool)) (let z : first + 0 ≡ first = omega arith in z) (h 0 (let z : 0 < suc count = omega arith in z)))
    (each-lists P (first + 1) count pool
    (λ place below. subst (λ (q : ℕ). Each P (events_by q pool)) (let z : first + suc place ≡ first + 1 + place = omega arith in z) (h (suc place) (let z : suc place < suc count = omega (arith, below) in z))))

pub contained-lists : (first count place : ℕ) (pool : List Entry) (e : PageEvent) → place < count → Contains (events_by (first + place) pool) e → Contains (all_events (lists_from first count pool)) e
contained-lists first zero place pool e below h = absurd (omega (arith, below))
contained-lists first (suc count) zero pool e below h =
    Contains-append_left (events_by first pool) (all_events (lists_from (first + 1) count pool)) e
    (subst (λ (q : ℕ). Contains (events_by q pool) e) (let z : first + 0 ≡ first = omega arith in z) h)
contained-lists first (suc count) (suc place) pool e below h =
    Contains-append_right (events_by first pool) (all_events (lists_from (first + 1) count pool)) e
    (contained-lists (first + 1) count place pool e (omega (arith, below)) (subst (λ (q : ℕ). Contains (events_by q pool) e) (let z : first + suc place ≡ first + 1 + place = omega arith in z) h))

pub list-at : (first count place : ℕ) (pool : List Entry) (list : List PageEvent) → slice_get (lists_from first count pool) place ≡ Some list → (place < count) × (list ≡ events_by (first + place) pool)
list-at first zero place pool list at = absurd (let b : ⊥ = cc in b)
list-at first (suc count) zero pool list at =
    (omega arith, (let is : events_by first pool ≡ list = cc in sym is ∙ ap (λ (q : ℕ). events_by q pool) (let z : first ≡ first + 0 = omega arith in z)))
list-at first (suc count) (suc place) pool list at =
    let later = list-at (first + 1) count place pool list at in
    let below = later.0 in
    (omega (arith, below), later.1 ∙ ap (λ (q : ℕ). events_by q pool) (let z : first + 1 + place ≡ first + suc place = omega arith in z))

pub lists-last : (first count : ℕ) (pool : List Entry) → lists_from first (suc count) pool ≡ lists_from first count pool ++ events_by (first + count) pool ∷ []
lists-last first zero pool = ap (λ (q : ℕ). events_by q pool ∷ []) (let z : first ≡ first + 0 = omega arith in z)
lists-last first (suc count) pool =
    ap (λ (ls : List (List PageEvent)). events_by first pool ∷ ls) (lists-last (first + 1) count pool)
    ∙ ap (λ (q : ℕ). events_by first pool ∷ (lists_from (first + 1) count pool ++ events_by q pool ∷ [])) (let z : first + 1 + count ≡ first + suc count = omega arith in z)

pub lists-same : (count : ℕ) (pool : List Entry) → lists_of count pool ≡ lists_from 0 count pool
lists-same zero pool = refl
lists-same (suc count) pool =
    ap (λ (ls : List (List PageEvent)). ls ++ events_by count pool ∷ []) (lists-same count pool)
    ∙ ap (λ (q : ℕ). lists_from 0 count pool ++ events_by q pool ∷ []) (let z : count ≡ 0 + count = omega arith in z)
    ∙ sym (lists-last 0 count pool)

pub lists-split : (first a b : ℕ) (pool : List Entry) → lists_from first (a + b) pool ≡ lists_from first a pool ++ lists_from (first + a) b pool
lists-split first a zero pool = ap (λ (n : ℕ). lists_from first n pool) (let z : a + 0 ≡ a = omega arith in z) ∙ sym (append-nil (lists_from first a pool))
lists-split first a (suc b) pool =
    ap (λ (n : ℕ). lists_from first n pool) (let z : a + suc b ≡ suc (a + b) = omega arith in z)
    ∙ lists-last first (a + b) pool
    ∙ ap (λ (ls : List (List PageEvent)). ls ++ events_by (first + (a + b)) pool ∷ []) (lists-split first a b pool)
    ∙ append_assoc (lists_from first a pool) (lists_from (first + a) b pool) (events_by (first + (a + b)) pool ∷ [])
    ∙ ap (λ (q : ℕ). lists_from first a pool ++ (lists_from (first + a) b pool ++ events_by q pool ∷ [])) (let z : first + (a + b) ≡ first + a + b = omega arith in z)
    ∙ ap (λ (ls : List (List PageEvent)). lists_from first a pool ++ ls) (sym (lists-last (first + a) b pool))
