-- The lists of the passes of a pool fit together.
use Rattle.std.proofs.Common.{◌≡◌, ℕ, zero, suc, ◌<◌, ◌≤◌, Bool, cond, Option, Some, None, List, [], ◌∷◌, ◌++◌, count_by, refl, sym, ap, ◌∙◌, subst, arith, ⊎_elim, nat_lt}
use Rattle.std.specs.List.{Contains}
use Rattle.std.specs.List.Sorted.{IsPermutation}
use Rattle.std.proofs.lemmas.Bool.{cases_eq, cases_lt, and_from, eq-eqb}
use Rattle.std.proofs.lemmas.List.Sorted.{sum_by-IsPermutation, Contains-permutation, IsPermutation-sym}
use Rattle.smbd_base.specs.declared.right.Right.{Right}
use Rattle.smbd_base.specs.declared.page_event.PageEvent.{PageEvent}
use Rattle.smbd_base.specs.declared.page_event.PageEvent.TheVariants.{Load, Fetch, Place, Unload}
use Rattle.smbd_base.specs.Tokens.{PageToken}
use Rattle.smbd_base.specs.Pages.{Entry, LoadedPage, PageState, token_in, page_in, IsPageStep, page_state, entries_on, IsPoolStep, IsPoolRun}
use Rattle.smbd_base.specs.PagesFit.{is_load_of, is_unload_of, is_place_under, is_place_at, HasLoad, token_before, AreLoadsInTurn, AgreeWithLoads, MayPrecede, AllMayPrecede, IsInOrder, AreInOrder, all_events, PagesFit, events_by, lists_of, AreMadeBy}
use Rattle.smbd_base.proofs.EventLists.{Contains-head, Contains-tail, Contains-cons_cases, count-some, IsOn, is_token-yes, loads-on, unloads-on, places-on, orders-on}
use Rattle.smbd_base.proofs.PageGenerations.{Generations, Generations-life, count-ahead, count-before, unload_count, events_in}
use Rattle.smbd_base.proofs.PageContents.{places_in, none-from, Orders, Orders-life, Contents, Contents-life, Agrees, Agrees-more}
use Rattle.smbd_base.proofs.PoolLives.{life-of-run, length-run, state-of-run, Contains-on, Contains-of, count-on}
use Rattle.smbd_base.proofs.PassLists.{events_by-here, events_by-other, IsPermutation-joined}

unload_count-most : (o : Option LoadedPage) → unload_count o ≤ 1
unload_count-most None = omega arith
unload_count-most (Some loaded) = omega arith

-- a run of a pool, and its events in any order
module _ (first count : ℕ) (some : 1 ≤ first) (past : List Entry) (pages : List PageState) (run : IsPoolRun first count past pages)
    (all : List PageEvent) (same : IsPermutation (events_in past) all) where
  abbrev on : ℕ → List PageEvent
  on page = events_in (entries_on page past)

  abbrev state : ℕ → PageState
  state page = page_state first (entries_on page past)

  generations : (page : ℕ) → Generations first page (on page) (state page)
  generations page = Generations-life first page some (entries_on page past) (life-of-run first count past pages run page)

  orders-of : (page : ℕ) → Orders page (on page) (state page)
  orders-of page = Orders-life first page some (entries_on page past) (life-of-run first count past pages run page)

  contents-of : (page : ℕ) → Contents page (on page) (state page)
  contents-of page = Contents-life first page some (entries_on page past) (life-of-run first count past pages run page)

  counted : (t : PageToken) (q : PageEvent → Bool) → IsOn t q → count_by q all ≡ count_by q (on t.page)
  counted t q is_on =
      sum_by-IsPermutation (λ (x : PageEvent). cond (q x) 1 0) (events_in past) all same
      ∙ count-on past t.page q (λ x yes. sym (is_on x yes).page)

  found : (x : PageEvent) → Contains all x → Contains (on (page_in x)) x
  found x h = Contains-on past x (Contains-permutation all (events_in past) x (IsPermutation-sym (events_in past) all same) h)

  lost : (page : ℕ) (x : PageEvent) → Contains (on page) x → Contains all x
  lost page x h = Contains-permutation (events_in past) all x same (Contains-of past page x h)

  -- a token that is loaded lies among the generations of its page
  loaded-within : (t : PageToken) → HasLoad all t → (first ≤ t.generation) × (t.generation ≤ (state t.page).generation)
  loaded-within t has =
      let c = counted t (is_load_of t) (loads-on t) in
      ⊎_elim
      (λ (before : t.generation < first).
      let none = count-before first t.page (on t.page) (state t.page) (generations t.page) t (is_load_of t) (loads-on t) before in
      absurd (omega arith))
      (λ (from : first ≤ t.generation).
      ⊎_elim
      (λ (ahead : (state t.page).generation < t.generation).
      let none = count-ahead first t.page (on t.page) (state t.page) (generations t.page) t (is_load_of t) (loads-on t) ahead in
      absurd (omega arith))
      (λ (to : t.generation ≤ (state t.page).generation). (from, to))
      (cases_lt (state t.page).generation t.generation))
      (cases_lt t.generation first)

  loaded-once : (t : PageToken) → first ≤ t.generation → t.generation ≤ (state t.page).generation → count_by (is_load_of t) all ≡ 1
  loaded-once t from to = counted t (is_load_of t) (loads-on t) ∙ (generations t.page).loads t refl from to

  loads-in-turn : AreLoadsInTurn first all
  loads-in-turn = record {
    loads = λ t. ⊎_elim
        (λ (none : count_by (is_load_of t) all < 1). omega arith)
        (λ (has : 1 ≤ count_by (is_load_of t) all). let w = loaded-within t has in omega (arith, loaded-once t w.0 w.1))
        (cases_lt (count_by (is_load_of t) all) 1);
    unloads = λ t.
        let c = counted t (is_unload_of t) (unloads-on t) in
        let g = generations t.page in
        ⊎_elim
        (λ (before : t.generation < first).
        omega (arith, c, count-before first t.page (on t.page) (state t.page) g t (is_unload_of t) (unloads-on t) before))
        (λ (from : first ≤ t.generation).
        ⊎_elim
        (λ (below : t.generation < (state t.page).generation). omega (arith, c, g.unloads t refl from below))
        (λ (above : (state t.page).generation ≤ t.generation).
        ⊎_elim
        (λ (last : t.generation ≡ (state t.page).generation).
        omega (arith, c, g.unloaded t refl from last, unload_count-most (state t.page).loaded))
        (λ (differ : t.generation ≡ (state t.page).generation → ⊥).
        omega (arith, c, count-ahead first t.page (on t.page) (state t.page) g t (is_unload_of t) (unloads-on t) (omega arith)))
        (cases_eq t.generation (state t.page).generation))
        (cases_lt t.generation (state t.page).generation))
        (cases_lt t.generation first);
    from = λ t has. (loaded-within t has).0;
    steps = λ t has above.
        let w = loaded-within t has in
        let one = loaded-once (token_before t) (omega arith) (omega (arith, w.1)) in
        omega arith;
    ended = λ t u has later here below.
        let w = loaded-within t has in
        let v = loaded-within u later in
        let to : u.generation ≤ (state t.page).generation = subst (λ (page : ℕ). u.generation ≤ (state page).generation) (sym here) v.1 in
        let one = (generations t.page).unloads t refl w.0 (omega arith) in
        omega (arith, counted t (is_unload_of t) (unloads-on t), one);
  }

  agreement : (e : PageEvent) → Contains all e → (r : Right) (loaded : List ℕ) → Contains all (Load (token_in e) r loaded) → Agrees all r loaded e
  agreement e h r loaded l =
      Agrees-more (on (page_in e)) all r loaded e (λ t n at b. lost (page_in e) (Place t n at b))
      (sym (counted (token_in e) (is_place_under (token_in e)) (places-on (token_in e))))
      ((contents-of (page_in e)).agree e (found e h) r loaded (found (Load (token_in e) r loaded) l))

  agree-with-loads : AgreeWithLoads all
  agree-with-loads = record {
    loaded = λ e h.
        let g = generations (page_in e) in
        let one = loaded-once (token_in e) (g.least e (found e h)) (g.most e (found e h)) in
        omega arith;
    orders = λ t n.
        counted t (is_place_at t n) (orders-on t n) ∙ (orders-of t.page).orders t n
        ∙ ap (λ (c : ℕ). cond {A = ℕ} (nat_lt n c) 1 0) (sym (counted t (is_place_under t) (places-on t)));
    fetches = λ t at bytes loaded r h l. agreement (Fetch t at bytes) h r loaded l;
    places = λ t n at bytes loaded r h l. agreement (Place t n at bytes) h r loaded l;
    contents = λ t bytes loaded r h l. agreement (Unload t bytes) h r loaded l;
  }

-- events on two pages may come in any order
apart : (x e : PageEvent) → (page_in x ≡ page_in e → ⊥) → MayPrecede x e
apart x e differ = record {
  load_first = λ r bytes is. differ (sym (ap page_in is));
  unload_last = λ bytes is. differ (ap page_in is);
  orders_rise = λ t m n at to old new was is. absurd (differ (ap page_in was ∙ sym (ap page_in is)));
  generations_rise = λ same. absurd (differ same);
}

-- a step under a loaded token comes after no unload of it
not-after-unload : (first page : ℕ) (events : List PageEvent) (s : PageState) → Generations first page events s
    → (t : PageToken) (loaded : LoadedPage) → t.page ≡ page → s.loaded ≡ Some loaded → s.generation ≡ t.generation
    → (bytes : List ℕ) → Contains events (Unload t bytes) → ⊥
not-after-unload first page events s g t loaded here now under bytes h =
    let low = g.least (Unload t bytes) h in
    let has = count-some (is_unload_of t) events (Unload t bytes) h (is_token-yes t t (record { page = refl; generation = refl })) in
    let none = g.unloaded t here low (sym under) ∙ ap unload_count now in
    omega arith

module _ (first page : ℕ) (events : List PageEvent) (s : PageState) (g : Generations first page events s) (o : Orders page events s) where
  step-unloads : (e : PageEvent) → page_in e ≡ page → IsPageStep e s → (bytes : List ℕ) → Contains events (Unload (token_in e) bytes) → ⊥
  step-unloads (Load u r b) here st bytes h = let next = st.next in let below = g.most (Unload u bytes) h in omega arith
  step-unloads (Fetch u at b) here st bytes h = not-after-unload first page events s g u st.page here st.loaded.now st.loaded.under bytes h
  step-unloads (Place u n at b) here st bytes h = not-after-unload first page events s g u st.page here st.loaded.now st.loaded.under bytes h
  step-unloads (Unload u b) here st bytes h = not-after-unload first page events s g u st.page here st.loaded.now st.loaded.under bytes h

  step-rises : (e : PageEvent) → IsPageStep e s → s.generation ≤ (token_in e).generation
  step-rises (Load u r b) st = let next = st.next in omega arith
  step-rises (Fetch u at b) st = let under = st.loaded.under in omega arith
  step-rises (Place u n at b) st = let under = st.loaded.under in omega arith
  step-rises (Unload u b) st = let under = st.loaded.under in omega arith

  -- the order of a place is above those before
  place-rises : (t : PageToken) (m n at to : ℕ) (old new : List ℕ) → t.page ≡ page → Contains events (Place t m at old) → IsPageStep (Place t n to new) s → m < n
  place-rises t m n at to old new here h st =
      let had = o.had st.page st.loaded.now t here (sym st.loaded.under) ∙ ap places_in st.loaded.now ∙ sym st.next in
      let has = count-some (is_place_at t m) events (Place t m at old) h
      (and_from _ _ (is_token-yes t t (record { page = refl; generation = refl })) (eq-eqb m m refl)) in
      ⊎_elim
      (λ (below : m < n). below)
      (λ (above : n ≤ m).
      let none = o.orders t m ∙ none-from m (count_by (is_place_under t) events) (omega arith) in
      absurd (omega arith))
      (cases_lt m n)

  step-precedes : (x : PageEvent) → Contains events x → (e : PageEvent) → page_in e ≡ page → IsPageStep e s → MayPrecede x e
  step-precedes x h e here st = record {
    load_first = λ r bytes is.
        let next = (subst (λ (y : PageEvent). IsPageStep y s) is st).next in
        let below = g.most x h in
        omega arith;
    unload_last = λ bytes is. step-unloads e here st bytes (subst (Contains events) is h);
    orders_rise = λ t m n at to old new was is.
        place-rises t m n at to old new (ap page_in (sym is) ∙ here) (subst (Contains events) was h) (subst (λ (y : PageEvent). IsPageStep y s) is st);
    generations_rise = λ same. let below = g.most x h in let rises = step-rises e st in omega arith;
  }

-- what each event of a list may come before, the whole list may
all-precede : (xs : List PageEvent) (e : PageEvent) → ((x : PageEvent) → Contains xs x → MayPrecede x e) → AllMayPrecede xs e
all-precede [] e each = tt
all-precede (x ∷ xs) e each = (each x (Contains-head x xs), all-precede xs e (λ y h. each y (Contains-tail x xs y h)))

Contains-by : (pass : ℕ) (past : List Entry) (x : PageEvent) → Contains (events_by pass past) x → Contains (events_in past) x
Contains-by pass [] x h = h
Contains-by pass (e ∷ past) x h =
    ⊎_elim
    (λ (here : e.pass ≡ pass).
    ⊎_elim
    (λ (new : e.event ≡ x). subst (Contains (e.event ∷ events_in past)) new (Contains-head e.event (events_in past)))
    (λ (old : Contains (events_by pass past) x). Contains-tail e.event (events_in past) x (Contains-by pass past x old))
    (Contains-cons_cases e.event (events_by pass past) x (subst (λ (xs : List PageEvent). Contains xs x) (events_by-here pass e past here) h)))
    (λ (other : e.pass ≡ pass → ⊥).
    Contains-tail e.event (events_in past) x
    (Contains-by pass past x (subst (λ (xs : List PageEvent). Contains xs x) (events_by-other pass e past other) h)))
    (cases_eq e.pass pass)

module _ (first count : ℕ) (some : 1 ≤ first) where
  -- an event of a run comes after those before it
  run-precedes : (past : List Entry) (before : List PageState) → IsPoolRun first count past before → (e : PageEvent) (after : List PageState)
      → IsPoolStep e before after → (x : PageEvent) → Contains (events_in past) x → MayPrecede x e
  run-precedes past before run e after st x h =
      let p = page_in e in
      let among = st.among in
      let life = life-of-run first count past before run p in
      ⊎_elim
      (λ (here : page_in x ≡ p).
      step-precedes first p (events_in (entries_on p past)) (page_state first (entries_on p past))
      (Generations-life first p some (entries_on p past) life) (Orders-life first p some (entries_on p past) life)
      x (subst (λ (q : ℕ). Contains (events_in (entries_on q past)) x) here (Contains-on past x h))
      e refl
      (subst (IsPageStep e) (state-of-run first count past before run p (omega (arith, length-run first count past before run))) st.step))
      (λ (other : page_in x ≡ p → ⊥). apart x e other)
      (cases_eq (page_in x) p)

  in-order : (pass : ℕ) (past : List Entry) (pages : List PageState) → IsPoolRun first count past pages → IsInOrder (events_by pass past)
  in-order pass [] pages run = tt
  in-order pass (e ∷ past) pages (before, run, st) =
      ⊎_elim
      (λ (here : e.pass ≡ pass).
      subst IsInOrder (sym (events_by-here pass e past here)) (
        all-precede (events_by pass past) e.event (λ x h. run-precedes past before run e.event pages st x (Contains-by pass past x h)),
        in-order pass past before run,
      ))
      (λ (other : e.pass ≡ pass → ⊥). subst IsInOrder (sym (events_by-other pass e past other)) (in-order pass past before run))
      (cases_eq e.pass pass)

  AreInOrder-push : (lists : List (List PageEvent)) (list : List PageEvent) → AreInOrder lists → IsInOrder list → AreInOrder (lists ++ list ∷ [])
  AreInOrder-push [] list ordered one = (one, tt)
  AreInOrder-push (l ∷ lists) list ordered one = (ordered.0, AreInOrder-push lists list ordered.1 one)

  all-in-order : (seats : ℕ) (past : List Entry) (pages : List PageState) → IsPoolRun first count past pages → AreInOrder (lists_of seats past)
  all-in-order zero past pages run = tt
  all-in-order (suc n) past pages run =
      AreInOrder-push (lists_of n past) (events_by n past) (all-in-order n past pages run) (in-order n past pages run)

  pub lists-fit : (seats : ℕ) (past : List Entry) (pages : List PageState) → IsPoolRun first count past pages → AreMadeBy seats past
      → PagesFit first (lists_of seats past)
  lists-fit seats past pages run made =
      let same = IsPermutation-joined seats past made in
      record {
        turns = loads-in-turn first count some past pages run (all_events (lists_of seats past)) same;
        contents = agree-with-loads first count some past pages run (all_events (lists_of seats past)) same;
        order = all-in-order seats past pages run;
      }
