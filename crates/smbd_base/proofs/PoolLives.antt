-- Steps of a pool make a lawful life of each page.
use Rattle.std.proofs.Common.{◌≡◌, ℕ, ◌<◌, Bool, true, false, List, [], ◌∷◌, length, count_by, refl, sym, ap, ◌∙◌, subst, arith, ⊎_elim}
use Rattle.std.specs.List.{Contains}
use Rattle.std.proofs.lemmas.Bool.{cases_eq, cond-true, cond-false, eq-eqb, ne_eqb, cases_Bool}
use Rattle.std.proofs.lemmas.List.{length-set, length-replicate, get_or-set_same, get_or-set_other, get_or-replicate}
use Rattle.smbd_base.specs.declared.page_event.PageEvent.{PageEvent}
use Rattle.smbd_base.specs.Pages.{Entry, PageState, page_in, IsPageStep, page_after, opened_page, page_state, IsPageLife, entries_on, page_at, IsPoolRun}
use Rattle.smbd_base.proofs.EventLists.{Contains-nil, Contains-head, Contains-tail, Contains-cons_cases, count-yes, count-no}
use Rattle.smbd_base.proofs.PageGenerations.{events_in}

pub entries_on-here : (page : ℕ) (e : Entry) (past : List Entry) → page_in e.event ≡ page → entries_on page (e ∷ past) ≡ e ∷ entries_on page past
entries_on-here page e past here = cond-true _ _ _ (eq-eqb (page_in e.event) page here)

pub entries_on-other : (page : ℕ) (e : Entry) (past : List Entry) → (page_in e.event ≡ page → ⊥) → entries_on page (e ∷ past) ≡ entries_on page past
entries_on-other page e past other = cond-false _ _ _ (ne_eqb (page_in e.event) page other)

pub length-run : (first count : ℕ) (past : List Entry) (pages : List PageState) → IsPoolRun first count past pages → length pages ≡ count
length-run first count [] pages run = ap length run ∙ length-replicate count (opened_page first)
length-run first count (e ∷ past) pages (before, run, st) =
    ap length st.after ∙ length-set before (page_in e.event) (page_after e.event (page_at (page_in e.event) before)) ∙ length-run first count past before run

-- a page of the pool is what its own entries have made of it
pub state-of-run : (first count : ℕ) (past : List Entry) (pages : List PageState) → IsPoolRun first count past pages
    → (page : ℕ) → page < count → page_at page pages ≡ page_state first (entries_on page past)
state-of-run first count [] pages run page below =
    ap (λ (xs : List PageState). page_at page xs) run ∙ get_or-replicate count page (opened_page first) (opened_page 1) below
state-of-run first count (e ∷ past) pages (before, run, st) page below =
    let p = page_in e.event in
    let after = page_after e.event (page_at p before) in
    ⊎_elim
    (λ (here : p ≡ page).
    subst (λ (q : ℕ). page_at q pages ≡ page_state first (entries_on q (e ∷ past))) here
    (ap (λ (xs : List PageState). page_at p xs) st.after ∙ get_or-set_same before p after (opened_page 1) st.among
    ∙ ap (page_after e.event) (state-of-run first count past before run p (omega (arith, here)))
    ∙ ap (page_state first) (sym (entries_on-here p e past refl))))
    (λ (other : p ≡ page → ⊥).
    ap (λ (xs : List PageState). page_at page xs) st.after ∙ get_or-set_other before p page after (opened_page 1) (λ same. other (sym same))
    ∙ state-of-run first count past before run page below
    ∙ ap (page_state first) (sym (entries_on-other page e past other)))
    (cases_eq p page)

pub life-of-run : (first count : ℕ) (past : List Entry) (pages : List PageState) → IsPoolRun first count past pages
    → (page : ℕ) → IsPageLife first page (entries_on page past)
life-of-run first count [] pages run page = tt
life-of-run first count (e ∷ past) pages (before, run, st) page =
    let p = page_in e.event in
    let among = st.among in
    ⊎_elim
    (λ (here : p ≡ page).
    subst (λ (q : ℕ). IsPageLife first q (entries_on q (e ∷ past))) here
    (subst (IsPageLife first p) (sym (entries_on-here p e past refl)) (
      refl,
      subst (IsPageStep e.event) (state-of-run first count past before run p (omega (arith, length-run first count past before run))) st.step,
      life-of-run first count past before run p,
    )))
    (λ (other : p ≡ page → ⊥).
    subst (IsPageLife first page) (sym (entries_on-other page e past other)) (life-of-run first count past before run page))
    (cases_eq p page)

-- the events of a page are the pool's events on it
pub Contains-on : (past : List Entry) (x : PageEvent) → Contains (events_in past) x → Contains (events_in (entries_on (page_in x) past)) x
Contains-on [] x h = absurd (Contains-nil x h)
Contains-on (e ∷ past) x h =
    let page = page_in x in
    ⊎_elim
    (λ (here : page_in e.event ≡ page).
    subst (λ (es : List Entry). Contains (events_in es) x) (sym (entries_on-here page e past here))
    (⊎_elim
    (λ (new : e.event ≡ x). subst (λ (y : PageEvent). Contains (e.event ∷ events_in (entries_on page past)) y) new (Contains-head e.event (events_in (entries_on page past))))
    (λ (old : Contains (events_in past) x). Contains-tail e.event (events_in (entries_on page past)) x (Contains-on past x old))
    (Contains-cons_cases e.event (events_in past) x h)))
    (λ (other : page_in e.event ≡ page → ⊥).
    subst (λ (es : List Entry). Contains (events_in es) x) (sym (entries_on-other page e past other))
    (⊎_elim
    (λ (new : e.event ≡ x). absurd (other (ap page_in new)))
    (λ (old : Contains (events_in past) x). Contains-on past x old)
    (Contains-cons_cases e.event (events_in past) x h)))
    (cases_eq (page_in e.event) page)

pub Contains-of : (past : List Entry) (page : ℕ) (x : PageEvent) → Contains (events_in (entries_on page past)) x → Contains (events_in past) x
Contains-of [] page x h = h
Contains-of (e ∷ past) page x h =
    ⊎_elim
    (λ (here : page_in e.event ≡ page).
    let found = subst (λ (es : List Entry). Contains (events_in es) x) (entries_on-here page e past here) h in
    ⊎_elim
    (λ (new : e.event ≡ x). subst (λ (y : PageEvent). Contains (e.event ∷ events_in past) y) new (Contains-head e.event (events_in past)))
    (λ (old : Contains (events_in (entries_on page past)) x). Contains-tail e.event (events_in past) x (Contains-of past page x old))
    (Contains-cons_cases e.event (events_in (entries_on page past)) x found))
    (λ (other : page_in e.event ≡ page → ⊥).
    let found = subst (λ (es : List Entry). Contains (events_in es) x) (entries_on-other page e past other) h in
    Contains-tail e.event (events_in past) x (Contains-of past page x found))
    (cases_eq (page_in e.event) page)

-- and so are their counts
pub count-on : (past : List Entry) (page : ℕ) (q : PageEvent → Bool) → ((x : PageEvent) → q x ≡ true → page_in x ≡ page)
    → count_by q (events_in past) ≡ count_by q (events_in (entries_on page past))
count-on [] page q on = refl
count-on (e ∷ past) page q on =
    let rest = count-on past page q on in
    ⊎_elim
    (λ (here : page_in e.event ≡ page).
    ⊎_elim
    (λ (yes : q e.event ≡ true).
    let more = count-yes q e.event (events_in past) yes in
    let less = count-yes q e.event (events_in (entries_on page past)) yes in
    let same = ap (λ (es : List Entry). count_by q (events_in es)) (entries_on-here page e past here) in
    omega arith)
    (λ (none : q e.event ≡ false).
    let more = count-no q e.event (events_in past) none in
    let less = count-no q e.event (events_in (entries_on page past)) none in
    let same = ap (λ (es : List Entry). count_by q (events_in es)) (entries_on-here page e past here) in
    omega arith)
    (cases_Bool (q e.event)))
    (λ (other : page_in e.event ≡ page → ⊥).
    let same = ap (λ (es : List Entry). count_by q (events_in es)) (entries_on-other page e past other) in
    ⊎_elim
    (λ (yes : q e.event ≡ true). absurd (other (on e.event yes)))
    (λ (none : q e.event ≡ false). let more = count-no q e.event (events_in past) none in omega arith)
    (cases_Bool (q e.event)))
    (cases_eq (page_in e.event) page)
