-- The lists of single passes, joined, have the events of all.
use Rattle.std.proofs.Common.{◌≡◌, ℕ, zero, suc, ◌<◌, ◌≤◌, List, [], ◌∷◌, ◌++◌, refl, sym, ap, ◌∙◌, subst, arith, ⊎_elim}
use Rattle.std.specs.List.Sorted.{IsPermutation}
use Rattle.std.proofs.lemmas.Bool.{cases_eq, cond-true, cond-false, eq-eqb, ne_eqb}
use Rattle.std.proofs.lemmas.List.{append-nil}
use Rattle.std.proofs.lemmas.List.Concat.{flat_map-append}
use Rattle.std.proofs.lemmas.List.Sorted.{IsPermutation-refl, IsPermutation-sym, IsPermutation-cons, IsPermutation-trans, IsPermutation-middle, IsPermutation-append_left}
use Rattle.smbd_base.specs.declared.page_event.PageEvent.{PageEvent}
use Rattle.smbd_base.specs.Pages.{Entry}
use Rattle.smbd_base.specs.PagesFit.{all_events, events_by, lists_of, AreMadeBy}
use Rattle.smbd_base.proofs.PageGenerations.{events_in}

pub events_by-here : (pass : ℕ) (e : Entry) (past : List Entry) → e.pass ≡ pass → events_by pass (e ∷ past) ≡ e.event ∷ events_by pass past
events_by-here pass e past here = cond-true _ _ _ (eq-eqb e.pass pass here)

pub events_by-other : (pass : ℕ) (e : Entry) (past : List Entry) → (e.pass ≡ pass → ⊥) → events_by pass (e ∷ past) ≡ events_by pass past
events_by-other pass e past other = cond-false _ _ _ (ne_eqb e.pass pass other)

abbrev joined : ℕ → List Entry → List PageEvent
joined n past = all_events (lists_of n past)

joined-suc : (n : ℕ) (past : List Entry) → joined (suc n) past ≡ joined n past ++ events_by n past
joined-suc n past =
    flat_map-append (λ (list : List PageEvent). list) (lists_of n past) (events_by n past ∷ [])
    ∙ ap (λ (xs : List PageEvent). joined n past ++ xs) (append-nil (events_by n past))

joined-none : (n : ℕ) → joined n [] ≡ []
joined-none zero = refl
joined-none (suc n) = joined-suc n [] ∙ append-nil (joined n []) ∙ joined-none n

joined-before : (n : ℕ) (e : Entry) (past : List Entry) → n ≤ e.pass → joined n (e ∷ past) ≡ joined n past
joined-before zero e past from = refl
joined-before (suc n) e past from =
    joined-suc n (e ∷ past)
    ∙ ap (λ (xs : List PageEvent). xs ++ events_by n (e ∷ past)) (joined-before n e past (omega arith))
    ∙ ap (λ (xs : List PageEvent). joined n past ++ xs) (events_by-other n e past (λ same. omega arith))
    ∙ sym (joined-suc n past)

joined-new : (n : ℕ) (e : Entry) (past : List Entry) → e.pass < n → IsPermutation (e.event ∷ joined n past) (joined n (e ∷ past))
joined-new zero e past below = absurd (omega arith)
joined-new (suc n) e past below =
    ⊎_elim
    (λ (here : e.pass ≡ n).
    subst (λ (xs : List PageEvent). IsPermutation (e.event ∷ xs) (joined (suc n) (e ∷ past))) (sym (joined-suc n past))
    (subst (λ (xs : List PageEvent). IsPermutation (e.event ∷ (joined n past ++ events_by n past)) xs)
    (sym (joined-suc n (e ∷ past)
    ∙ ap (λ (xs : List PageEvent). xs ++ events_by n (e ∷ past)) (joined-before n e past (omega (arith, here)))
    ∙ ap (λ (xs : List PageEvent). joined n past ++ xs) (events_by-here n e past here)))
    (IsPermutation-sym (joined n past ++ e.event ∷ events_by n past) (e.event ∷ (joined n past ++ events_by n past))
    (IsPermutation-middle (joined n past) e.event (events_by n past)))))
    (λ (other : e.pass ≡ n → ⊥).
    subst (λ (xs : List PageEvent). IsPermutation (e.event ∷ xs) (joined (suc n) (e ∷ past))) (sym (joined-suc n past))
    (subst (λ (xs : List PageEvent). IsPermutation (e.event ∷ (joined n past ++ events_by n past)) xs)
    (sym (joined-suc n (e ∷ past) ∙ ap (λ (xs : List PageEvent). joined n (e ∷ past) ++ xs) (events_by-other n e past other)))
    (IsPermutation-append_left (events_by n past) (e.event ∷ joined n past) (joined n (e ∷ past)) (joined-new n e past (omega arith)))))
    (cases_eq e.pass n)

pub IsPermutation-joined : (seats : ℕ) (past : List Entry) → AreMadeBy seats past → IsPermutation (events_in past) (all_events (lists_of seats past))
IsPermutation-joined seats [] made = subst (λ (xs : List PageEvent). IsPermutation [] xs) (sym (joined-none seats)) (IsPermutation-refl [])
IsPermutation-joined seats (e ∷ past) made =
    IsPermutation-trans (e.event ∷ events_in past) (e.event ∷ joined seats past) (joined seats (e ∷ past))
    (IsPermutation-cons e.event (events_in past) (joined seats past) (IsPermutation-joined seats past made.1))
    (joined-new seats e past made.0)
