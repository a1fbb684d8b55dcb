-- The pages of a copy by the past of their pool: which loads a page had, and whose events they were.
use Rattle.std.proofs.Common.{◌≡◌, ℕ, ◌+◌, ◌<◌, ◌==◌, Bool, true, false, cond, Some, List, [], ◌∷◌, ◌++◌, length, reverse, refl, sym, ap, ◌∙◌, subst, arith, length-append, ⊎_elim}
use Rattle.std.specs.Prelude.{slice_get, slice_set}
use Rattle.std.proofs.lemmas.List.{append-nil, get_or-set_same, get_or-set_other, get_or-replicate}
use Rattle.std.proofs.lemmas.Bool.{cases_eq, eq-eqb}
use Rattle.std.proofs.lemmas.Bool.Decides.{nat_tests}
use Rattle.smbd_base.specs.declared.page_event.PageEvent.{PageEvent}
use Rattle.smbd_base.specs.declared.page_event.PageEvent.TheVariants.{Load, Fetch, Place, Unload}
use Rattle.smbd_base.specs.Tokens.{PageToken}
use Rattle.smbd_base.specs.Pages.{Entry, PageState, page_in, page_after, opened_page, page_at, IsPageStep, IsPoolRun}
use Rattle.smbd_base.specs.PagesFit.{events_by, AreMadeBy}
use Rattle.smbd_base.proofs.PassLists.{events_by-here, events_by-other}
use Rattle.smbd_base.proofs.PoolLives.{length-run}
use Rattle.file_pasts.proofs.Lists.{get_in_front, get_last}
use Rattle.copy_laws.proofs.Eaches.{Each, each-weaker, reverse-cons}
use Rattle.copy_laws.proofs.Runs.{PageLoad, load_in, loads_in, loads_in-append}

-- ---- whose events they are

-- what holds of the events of each pass holds of all
pub each-entry : (P : ℕ → PageEvent → Type 0) (seats : ℕ) (pool : List Entry) → AreMadeBy seats pool → ((q : ℕ) → q < seats → Each (P q) (events_by q pool))
    → Each (λ (e : Entry). P e.pass e.event) pool
each-entry P seats [] by h = tt
each-entry P seats (e ∷ pool) by h =
    (here (subst (λ (es : List PageEvent). Each (P e.pass) es) (events_by-here e.pass e pool refl) (h e.pass by.0)), each-entry P seats pool by.1 (λ q below. there q (h q below)))
  where
    here : Each (P e.pass) (e.event ∷ events_by e.pass pool) → P e.pass e.event
    here k = k.0

    there : (q : ℕ) → Each (P q) (events_by q (e ∷ pool)) → Each (P q) (events_by q pool)
    there q k =
        ⊎_elim
        (λ (same : e.pass ≡ q). (subst (λ (es : List PageEvent). Each (P q) es) (events_by-here q e pool same) k).1)
        (λ (other : e.pass ≡ q → ⊥). subst (λ (es : List PageEvent). Each (P q) es) (events_by-other q e pool other) k)
        (cases_eq e.pass q)

-- each event is on a page of the pool
pub each-among : (first count : ℕ) (pool : List Entry) (pages : List PageState) → IsPoolRun first count pool pages → Each (λ (e : Entry). page_in e.event < count) pool
each-among first count [] pages run = tt
each-among first count (e ∷ pool) pages run =
    let among = run.2.among in
    ((let below : page_in e.event < count = omega (arith, among, length-run first count pool run.0 run.1) in below), each-among first count pool run.0 run.1)

-- ---- the loads of a page

-- the oldest first
abbrev pub loads_on : ℕ → List Entry → List PageLoad
loads_on page [] = []
loads_on page (e ∷ pool) = loads_on page pool ++ load_in page e.event

-- they are those of the pass that made them all
abbrev pub LoadsBy : ℕ → ℕ → Entry → Type 0
LoadsBy page q e = (load_in page e.event ≡ [] → ⊥) → e.pass ≡ q

pub loads_on-by : (page q : ℕ) (pool : List Entry) → Each (LoadsBy page q) pool → loads_on page pool ≡ loads_in page (reverse (events_by q pool))
loads_on-by page q [] h = refl
loads_on-by page q (e ∷ pool) h =
    ⊎_elim
    (λ (same : e.pass ≡ q).
    ap (λ (ls : List PageLoad). ls ++ load_in page e.event) (loads_on-by page q pool h.1)
    ∙ ap (λ (ls : List PageLoad). loads_in page (reverse (events_by q pool)) ++ ls) (sym (append-nil (load_in page e.event)))
    ∙ sym (loads_in-append page (reverse (events_by q pool)) (e.event ∷ []))
    ∙ ap (λ (es : List PageEvent). loads_in page es) (sym (reverse-cons e.event (events_by q pool)))
    ∙ ap (λ (es : List PageEvent). loads_in page (reverse es)) (sym (events_by-here q e pool same)))
    (λ (other : e.pass ≡ q → ⊥).
    ap (λ (ls : List PageLoad). loads_on page pool ++ ls) (none (load_in page e.event) refl other)
    ∙ append-nil (loads_on page pool) ∙ loads_on-by page q pool h.1
    ∙ ap (λ (es : List PageEvent). loads_in page (reverse es)) (sym (events_by-other q e pool other)))
    (cases_eq e.pass q)
  where
    none : (ls : List PageLoad) → load_in page e.event ≡ ls → (e.pass ≡ q → ⊥) → load_in page e.event ≡ []
    none [] is other = is
    none (l ∷ ls) is other = absurd (other (h.0 (λ empty. let b : ⊥ = cc in b)))

-- ---- the load of a page has the generation of its place

-- a step on the page leaves its generation, or one more where it is a load
step-generation : (page : ℕ) (e : PageEvent) (s : PageState) → page_in e ≡ page → IsPageStep e s → (page_after e s).generation ≡ s.generation + length (load_in page e)
step-generation page (Load t r b) s here st =
    let one : length (load_in page (Load t r b)) ≡ 1 = ap (λ (x : Bool). length (cond {A = List PageLoad} x ((record { token = t; bytes = b }) ∷ []) [])) (eq-eqb t.page page here) in
    st.next ∙ (let z : s.generation + 1 ≡ s.generation + length (load_in page (Load t r b)) = omega (arith, one) in z)
step-generation page (Fetch t at b) s here st = (let z : s.generation ≡ s.generation + 0 = omega arith in z)
step-generation page (Place t o at b) s here st = (let z : s.generation ≡ s.generation + 0 = omega arith in z)
step-generation page (Unload t b) s here st = (let z : s.generation ≡ s.generation + 0 = omega arith in z)

-- an event on another page is no load of this one
pub load-other : (page : ℕ) (e : PageEvent) → (page_in e ≡ page → ⊥) → load_in page e ≡ []
load-other page (Load t r b) other = by_test (t.page == page) refl where
  by_test : (x : Bool) → (t.page == page) ≡ x → cond {A = List PageLoad} x ((record { token = t; bytes = b }) ∷ []) [] ≡ []
  by_test true is = absurd (other (let same : t.page ≡ page = grind (arith, nat_tests) in same))
  by_test false is = refl
load-other page (Fetch t at b) other = refl
load-other page (Place t o at b) other = refl
load-other page (Unload t b) other = refl

pub generation-run : (count : ℕ) (pool : List Entry) (pages : List PageState) → IsPoolRun 1 count pool pages → (page : ℕ) → page < count
    → (page_at page pages).generation ≡ length (loads_on page pool)
generation-run count [] pages run page below =
    ap (λ (xs : List PageState). (page_at page xs).generation) run ∙ ap (λ (s : PageState). s.generation) (get_or-replicate count page (opened_page 1) (opened_page 1) below)
generation-run count (e ∷ pool) pages run page below =
    let before = run.0 in
    let st = run.2 in
    let p = page_in e.event in
    let after = page_after e.event (page_at p before) in
    ⊎_elim
    (λ (here : p ≡ page).
    ap (λ (xs : List PageState). (page_at page xs).generation) st.after
    ∙ subst (λ (q : ℕ). (page_at q (slice_set before p after)).generation ≡ after.generation) here
    (ap (λ (s : PageState). s.generation) (get_or-set_same before p after (opened_page 1) st.among))
    ∙ step-generation page e.event (page_at p before) here st.step
    ∙ ap (λ (n : ℕ). n + length (load_in page e.event)) (subst (λ (q : ℕ). (page_at q before).generation ≡ length (loads_on page pool)) (sym here) (generation-run count pool before run.1 page below))
    ∙ sym (length-append (loads_on page pool) (load_in page e.event)))
    (λ (other : p ≡ page → ⊥).
    ap (λ (xs : List PageState). (page_at page xs).generation) st.after
    ∙ ap (λ (s : PageState). s.generation) (get_or-set_other before p page after (opened_page 1) (λ same. other (sym same)))
    ∙ generation-run count pool before run.1 page below
    ∙ ap (λ (ls : List PageLoad). length ls) (sym (append-nil (loads_on page pool)))
    ∙ ap (λ (ls : List PageLoad). length (loads_on page pool ++ ls)) (sym (load-other page e.event other)))
    (cases_eq p page)

-- the token of a page's load after so many
abbrev pub token_at : ℕ → ℕ → PageToken
token_at page n = record { page = page; generation = n + 1 }

abbrev pub IsPlaced : ℕ → List PageLoad → Type 0
IsPlaced page loads = (n : ℕ) (l : PageLoad) → slice_get loads n ≡ Some l → l.token ≡ token_at page n

made : (p q m n : ℕ) → p ≡ q → m ≡ n → ◌≡◌ {A = PageToken} (record { page = p; generation = m }) (record { page = q; generation = n })
made p q m n a b = rw (a, b) refl

-- nothing more
placed-same : (page : ℕ) (loads : List PageLoad) → IsPlaced page loads → IsPlaced page (loads ++ [])
placed-same page loads h n l at = h n l (subst (λ (ls : List PageLoad). slice_get ls n ≡ Some l) (append-nil loads) at)

placed-new : (page : ℕ) (loads : List PageLoad) (t : PageToken) (b : List ℕ) → t ≡ token_at page (length loads) → IsPlaced page loads
    → IsPlaced page (loads ++ (record { token = t; bytes = b }) ∷ [])
placed-new page loads t b is h n l at =
    ⊎_elim
    (λ (old : slice_get loads n ≡ Some l). h n l old)
    (λ (last : (n ≡ length loads) × (l ≡ record { token = t; bytes = b })). ap (λ (x : PageLoad). x.token) last.1 ∙ is ∙ ap (λ (k : ℕ). token_at page k) (sym last.0))
    (get_last loads (record { token = t; bytes = b }) n l at)

placed-step : (page : ℕ) (loads : List PageLoad) (e : PageEvent) (s : PageState) → (page_in e ≡ page → s.generation ≡ length loads) → IsPageStep e s
    → IsPlaced page loads → IsPlaced page (loads ++ load_in page e)
placed-step page loads (Load t r b) s gen st h = by_test (t.page == page) refl where
  by_test : (x : Bool) → (t.page == page) ≡ x → IsPlaced page (loads ++ cond {A = List PageLoad} x ((record { token = t; bytes = b }) ∷ []) [])
  by_test true same =
      let here : t.page ≡ page = grind (arith, nat_tests) in
      placed-new page loads t b (made t.page page t.generation (length loads + 1) here (st.next ∙ ap (λ (n : ℕ). n + 1) (gen here))) h
  by_test false other = placed-same page loads h
placed-step page loads (Fetch t at b) s gen st h = placed-same page loads h
placed-step page loads (Place t o at b) s gen st h = placed-same page loads h
placed-step page loads (Unload t b) s gen st h = placed-same page loads h

-- each load of a page has the generation of its place
pub placed-run : (count : ℕ) (pool : List Entry) (pages : List PageState) → IsPoolRun 1 count pool pages → (page : ℕ) → IsPlaced page (loads_on page pool)
placed-run count [] pages run page = λ n l at. absurd (let b : ⊥ = cc in b)
placed-run count (e ∷ pool) pages run page =
    let st = run.2 in
    let among = st.among in
    let p = page_in e.event in
    placed-step page (loads_on page pool) e.event (page_at p run.0)
    (λ here. subst (λ (q : ℕ). (page_at p run.0).generation ≡ length (loads_on q pool)) here
    (generation-run count pool run.0 run.1 p (omega (arith, among, length-run 1 count pool run.0 run.1))))
    run.2.step (placed-run count pool run.0 run.1 page)

-- an event, where it is a load, is the one at the place of its generation
abbrev pub IsListed : List Entry → PageEvent → Type 0
IsListed pool (Load t r b) = (n : ℕ) × (t ≡ token_at t.page n) × (slice_get (loads_on t.page pool) n ≡ Some (record { token = t; bytes = b }))
IsListed pool (Fetch t at b) = Unit {0}
IsListed pool (Place t o at b) = Unit {0}
IsListed pool (Unload t b) = Unit {0}

listed-later : (pool : List Entry) (e : Entry) (x : PageEvent) → IsListed pool x → IsListed (e ∷ pool) x
listed-later pool e (Load t r b) h = (h.0, h.1, get_in_front (loads_on t.page pool) (load_in t.page e.event) h.0 (record { token = t; bytes = b }) h.2)
listed-later pool e (Fetch t at b) h = tt
listed-later pool e (Place t o at b) h = tt
listed-later pool e (Unload t b) h = tt

get-end : (xs : List PageLoad) (x : PageLoad) → slice_get (xs ++ x ∷ []) (length xs) ≡ Some x
get-end [] x = refl
get-end (y ∷ xs) x = get-end xs x

listed-new : (pool : List Entry) (x : PageEvent) (pass : ℕ) (s : PageState) → s.generation ≡ length (loads_on (page_in x) pool) → IsPageStep x s
    → IsListed ((record { pass = pass; event = x }) ∷ pool) x
listed-new pool (Load t r b) pass s gen st =
    let one : load_in t.page (Load t r b) ≡ (record { token = t; bytes = b }) ∷ [] =
    ap (λ (y : Bool). cond {A = List PageLoad} y ((record { token = t; bytes = b }) ∷ []) []) (eq-eqb t.page t.page refl) in (
      length (loads_on t.page pool),
      made t.page t.page t.generation (length (loads_on t.page pool) + 1) refl (st.next ∙ ap (λ (n : ℕ). n + 1) gen),
      subst (λ (ls : List PageLoad). slice_get (loads_on t.page pool ++ ls) (length (loads_on t.page pool)) ≡ Some (record { token = t; bytes = b })) (sym one)
          (get-end (loads_on t.page pool) (record { token = t; bytes = b })),
    )
listed-new pool (Fetch t at b) pass s gen st = tt
listed-new pool (Place t o at b) pass s gen st = tt
listed-new pool (Unload t b) pass s gen st = tt

pub each-listed : (count : ℕ) (pool : List Entry) (pages : List PageState) → IsPoolRun 1 count pool pages → Each (λ (e : Entry). IsListed pool e.event) pool
each-listed count [] pages run = tt
each-listed count (e ∷ pool) pages run =
    let st = run.2 in
    let among = st.among in (
      listed-new pool e.event e.pass (page_at (page_in e.event) run.0)
          (generation-run count pool run.0 run.1 (page_in e.event) (omega (arith, among, length-run 1 count pool run.0 run.1))) st.step,
      each-weaker (λ (x : Entry). IsListed pool x.event) (λ (x : Entry). IsListed (e ∷ pool) x.event) pool (λ x h. listed-later pool e x.event h) (each-listed count pool run.0 run.1),
    )
