-- The places and contents in the life of one page.
use Rattle.std.proofs.Common.{◌≡◌, ℕ, zero, suc, ◌+◌, ◌<◌, ◌≤◌, Bool, true, false, Option, Some, None, List, [], ◌∷◌, length, count_by, refl, sym, ap, ◌∙◌, subst, add-one, arith, ⊎_elim, if◌then◌else◌, nat_lt}
use Rattle.std.specs.List.{Contains}
use Rattle.std.proofs.lemmas.Bool.{cases_eq, cases_lt, cases_Bool, false_from_ne_true, and_from, and_left, and_right, eq-eqb, ne_eqb, lt-ltb, le-ltb, cond-true, cond-false}
use Rattle.smbd_base.specs.declared.right.Right.{Right}
use Rattle.smbd_base.specs.declared.right.Right.TheVariants as right
use Rattle.smbd_base.specs.declared.page_event.PageEvent.{PageEvent}
use Rattle.smbd_base.specs.declared.page_event.PageEvent.TheVariants.{Load, Fetch, Place, Unload}
use Rattle.smbd_base.specs.Tokens.{PageToken}
use Rattle.smbd_base.specs.Pages.{Entry, LoadedPage, PageState, token_in, page_in, IsPageStep, page_after, placed, whole_page, part_of, overlaid, page_state, IsPageLife}
use Rattle.smbd_base.specs.PagesFit.{is_token, is_unload_of, is_place_under, is_place_at, IsPlacedOver}
use Rattle.smbd_base.proofs.EventLists.{Contains-nil, Contains-head, Contains-tail, Contains-old, Contains-cons_cases, each-cons, count-yes, count-no, count-some, IsSame, is_token-yes, is_token-true, token-is, places-on}
use Rattle.smbd_base.proofs.PageGenerations.{Generations, Generations-life, count-ahead, unload_count, events_in}

abbrev pub places_in : Option LoadedPage → ℕ
places_in None = 0
places_in (Some loaded) = loaded.places

abbrev pub one_if : Bool → ℕ
one_if b = if b then 1 else 0

one-below : (n c : ℕ) → n < c → one_if (nat_lt n c) ≡ 1
one-below n c h = cond-true {A = ℕ} _ 1 0 (lt-ltb n c h)

pub none-from : (n c : ℕ) → c ≤ n → one_if (nat_lt n c) ≡ 0
none-from n c h = cond-false {A = ℕ} _ 1 0 (le-ltb n c h)

-- what the events of one page say of the orders of places
pub record Orders (page : ℕ) (events : List PageEvent) (s : PageState) : Type 0 where
  pub orders : (t : PageToken) (n : ℕ) → count_by (is_place_at t n) events ≡ (if nat_lt n (count_by (is_place_under t) events) then 1 else 0)
  pub had : (loaded : LoadedPage) → s.loaded ≡ Some loaded → (t : PageToken) → t.page ≡ page → t.generation ≡ s.generation
      → count_by (is_place_under t) events ≡ places_in s.loaded

module _ (first page : ℕ) (events : List PageEvent) (s : PageState) (g : Generations first page events s) (o : Orders page events s) where
  one-more : (t u : PageToken) (n m at : ℕ) (b : List ℕ) → is_token t u ≡ true → count_by (is_place_under t) events ≡ m
      → count_by (is_place_at t n) (Place u m at b ∷ events) ≡ (if nat_lt n (count_by (is_place_under t) (Place u m at b ∷ events)) then 1 else 0)
  one-more t u n m at b same had =
      let e = Place u m at b in
      let more = count-yes (is_place_under t) e events same in
      let was = o.orders t n in
      ⊎_elim
      (λ (here : n ≡ m).
      let one = one-below n (count_by (is_place_under t) (e ∷ events)) (omega arith) in
      let none = none-from n (count_by (is_place_under t) events) (omega arith) in
      let plus = count-yes (is_place_at t n) e events (and_from _ _ same (eq-eqb n m here)) in
      omega arith)
      (λ (differ : n ≡ m → ⊥).
      let stays = count-no (is_place_at t n) e events (and_right _ _ (ne_eqb n m differ)) in
      ⊎_elim
      (λ (below : n < m).
      let one = one-below n (count_by (is_place_under t) (e ∷ events)) (omega arith) in
      let old = one-below n (count_by (is_place_under t) events) (omega arith) in
      omega arith)
      (λ (above : m ≤ n).
      let none = none-from n (count_by (is_place_under t) (e ∷ events)) (omega arith) in
      let old = none-from n (count_by (is_place_under t) events) (omega arith) in
      omega arith)
      (cases_lt n m))
      (cases_eq n m)

  pub Orders-step : (e : PageEvent) → page_in e ≡ page → IsPageStep e s → Orders page (e ∷ events) (page_after e s)
  Orders-step (Load u r b) here st =
      let next = st.next in
      record {
        orders = o.orders;
        had = λ l is t on same. count-ahead first page events s g t (is_place_under t) (places-on t) (omega arith);
      }
  Orders-step (Fetch u at b) here st = record { orders = o.orders; had = o.had }
  Orders-step (Place u m at b) here st =
      let e = Place u m at b in
      let under = st.loaded.under in
      let next = st.next in
      let past : (t : PageToken) → t.page ≡ page → t.generation ≡ s.generation → count_by (is_place_under t) events ≡ m =
      λ t on same. o.had st.page st.loaded.now t on same ∙ ap places_in st.loaded.now ∙ sym next in
      record {
        orders = λ t n. ⊎_elim
            (λ (yes : is_token t u ≡ true).
            let same = is_token-true t u yes in let gen = same.generation in
            one-more t u n m at b yes (past t (same.page ∙ here) (omega arith)))
            (λ (no : is_token t u ≡ false).
            count-no (is_place_at t n) e events (and_left _ _ no) ∙ o.orders t n
            ∙ ap (λ (c : ℕ). one_if (nat_lt n c)) (sym (count-no (is_place_under t) e events no)))
            (cases_Bool (is_token t u));
        had = λ l is t on same.
            let more = count-yes (is_place_under t) e events (is_token-yes t u (record { page = on ∙ sym here; generation = omega arith })) in
            let old = past t on same in
            let new = ap (λ (loaded : Option LoadedPage). places_in (placed at b loaded)) st.loaded.now in
            omega arith;
      }
  Orders-step (Unload u b) here st = record { orders = o.orders; had = λ l is. absurd cc }

-- the load of a loaded page agrees with its state
abbrev pub HoldsNow : List PageEvent → PageToken → Right → List ℕ → Option LoadedPage → Type 0
HoldsNow events t r bytes None = Unit {0}
HoldsNow events t r bytes (Some loaded) = (r ≡ loaded.right) × IsPlacedOver events t (whole_page bytes) loaded.places loaded.content

-- under the right to fetch nothing was placed
abbrev pub IsUnplaced : Option LoadedPage → Type 0
IsUnplaced None = Unit {0}
IsUnplaced (Some loaded) = loaded.right ≡ right.Fetch → loaded.places ≡ 0

pub IsPlacedOver-more : (xs ys : List PageEvent) (t : PageToken) (bytes : List ℕ) (n : ℕ) (content : List ℕ)
    → ((m at : ℕ) (b : List ℕ) → Contains xs (Place t m at b) → Contains ys (Place t m at b))
    → IsPlacedOver xs t bytes n content → IsPlacedOver ys t bytes n content
IsPlacedOver-more xs ys t bytes zero content sub h = h
IsPlacedOver-more xs ys t bytes (suc n) content sub (at, b, before, holds, over, is) =
    (at, b, before, sub n at b holds, IsPlacedOver-more xs ys t bytes n before sub over, is)

-- what a fetch, a place or an unload says of the load of its token
abbrev pub Agrees : List PageEvent → Right → List ℕ → PageEvent → Type 0
Agrees events r loaded (Load t q b) = Unit {0}
Agrees events r loaded (Fetch t at bytes) = (r ≡ right.Fetch) × (bytes ≡ part_of at (length bytes) (whole_page loaded))
Agrees events r loaded (Place t n at bytes) = r ≡ right.Place
Agrees events r loaded (Unload t bytes) = IsPlacedOver events t (whole_page loaded) (count_by (is_place_under t) events) bytes

-- what the events of one page say of contents
pub record Contents (page : ℕ) (events : List PageEvent) (s : PageState) : Type 0 where
  pub now : (t : PageToken) → t.page ≡ page → t.generation ≡ s.generation → (r : Right) (bytes : List ℕ)
      → Contains events (Load t r bytes) → HoldsNow events t r bytes s.loaded
  pub unplaced : IsUnplaced s.loaded
  pub agree : (e : PageEvent) → Contains events e → (r : Right) (loaded : List ℕ) → Contains events (Load (token_in e) r loaded)
      → Agrees events r loaded e

pub Agrees-more : (xs ys : List PageEvent) (r : Right) (loaded : List ℕ) (e : PageEvent)
    → ((t : PageToken) (n at : ℕ) (b : List ℕ) → Contains xs (Place t n at b) → Contains ys (Place t n at b))
    → count_by (is_place_under (token_in e)) xs ≡ count_by (is_place_under (token_in e)) ys
    → Agrees xs r loaded e → Agrees ys r loaded e
Agrees-more xs ys r loaded (Load t q b) sub counts h = tt
Agrees-more xs ys r loaded (Fetch t at b) sub counts h = h
Agrees-more xs ys r loaded (Place t n at b) sub counts h = h
Agrees-more xs ys r loaded (Unload t b) sub counts h =
    subst (λ (c : ℕ). IsPlacedOver ys t (whole_page loaded) c b) counts
    (IsPlacedOver-more xs ys t (whole_page loaded) (count_by (is_place_under t) xs) b (sub t) h)

-- nothing placed leaves what was loaded
over-none : (events : List PageEvent) (t : PageToken) (bytes : List ℕ) (n : ℕ) (content : List ℕ) → n ≡ 0
    → IsPlacedOver events t bytes n content → content ≡ bytes
over-none events t bytes n content none h = subst (λ (k : ℕ). IsPlacedOver events t bytes k content) none h

HoldsNow-more : (x : PageEvent) (xs : List PageEvent) (t : PageToken) (r : Right) (bytes : List ℕ) (o : Option LoadedPage)
    → HoldsNow xs t r bytes o → HoldsNow (x ∷ xs) t r bytes o
HoldsNow-more x xs t r bytes None h = tt
HoldsNow-more x xs t r bytes (Some loaded) h =
    (h.0, IsPlacedOver-more xs (x ∷ xs) t (whole_page bytes) loaded.places loaded.content (λ m at b. Contains-tail x xs (Place t m at b)) h.1)

module _ (first page : ℕ) (events : List PageEvent) (s : PageState) (g : Generations first page events s) (o : Orders page events s)
    (c : Contents page events s) where
  -- what agreed still does
  keeps : (x : PageEvent) → ((t : PageToken) → count_by (is_place_under t) events ≡ count_by (is_place_under t) (x ∷ events))
      → (e : PageEvent) → Contains events e → (r : Right) (loaded : List ℕ) → Contains events (Load (token_in e) r loaded)
      → Agrees (x ∷ events) r loaded e
  keeps x same e h r loaded l =
      Agrees-more events (x ∷ events) r loaded e (λ t n at b. Contains-tail x events (Place t n at b)) (same (token_in e)) (c.agree e h r loaded l)

  -- an unload of a token that is loaded now did not come yet
  not-unloaded : (u t : PageToken) (bytes : List ℕ) (loaded : LoadedPage) → s.loaded ≡ Some loaded → s.generation ≡ u.generation → u.page ≡ page
      → Contains events (Unload t bytes) → is_token t u ≡ false
  not-unloaded u t bytes loaded now under here h = false_from_ne_true _ (λ yes.
      let same = is_token-true t u yes in
      let gen = same.generation in
      let low = g.least (Unload t bytes) h in
      let some = count-some (is_unload_of t) events (Unload t bytes) h (is_token-yes t t (record { page = refl; generation = refl })) in
      let none = g.unloaded t (same.page ∙ here) low (omega arith) ∙ ap unload_count now in
      absurd (omega arith))

  keeps-place : (u : PageToken) (m at : ℕ) (b : List ℕ) (loaded : LoadedPage) → s.loaded ≡ Some loaded → s.generation ≡ u.generation → u.page ≡ page
      → (e : PageEvent) → Contains events e → (r : Right) (bytes : List ℕ) → Contains events (Load (token_in e) r bytes)
      → Agrees (Place u m at b ∷ events) r bytes e
  keeps-place u m at b loaded now under here (Load t q d) h r bytes l = tt
  keeps-place u m at b loaded now under here (Fetch t to d) h r bytes l = c.agree (Fetch t to d) h r bytes l
  keeps-place u m at b loaded now under here (Place t n to d) h r bytes l = c.agree (Place t n to d) h r bytes l
  keeps-place u m at b loaded now under here (Unload t d) h r bytes l =
      Agrees-more events (Place u m at b ∷ events) r bytes (Unload t d) (λ v n to f. Contains-tail (Place u m at b) events (Place v n to f))
      (sym (count-no (is_place_under t) (Place u m at b) events (not-unloaded u t d loaded now under here h)))
      (c.agree (Unload t d) h r bytes l)

  -- one event more that is no load
  agree-cons : (x : PageEvent) → ((t : PageToken) (r : Right) (bytes : List ℕ) → x ≡ Load t r bytes → ⊥)
      → ((r : Right) (loaded : List ℕ) → Contains events (Load (token_in x) r loaded) → Agrees (x ∷ events) r loaded x)
      → ((e : PageEvent) → Contains events e → (r : Right) (loaded : List ℕ) → Contains events (Load (token_in e) r loaded) → Agrees (x ∷ events) r loaded e)
      → (e : PageEvent) → Contains (x ∷ events) e → (r : Right) (loaded : List ℕ) → Contains (x ∷ events) (Load (token_in e) r loaded)
      → Agrees (x ∷ events) r loaded e
  agree-cons x not_load new old =
      each-cons (λ e. (r : Right) (loaded : List ℕ) → Contains (x ∷ events) (Load (token_in e) r loaded) → Agrees (x ∷ events) r loaded e) x events
      (λ r loaded h. new r loaded (Contains-old x events (Load (token_in x) r loaded) (not_load (token_in x) r loaded) h))
      (λ e here r loaded h. old e here r loaded (Contains-old x events (Load (token_in e) r loaded) (not_load (token_in e) r loaded) h))

  -- the load of the page that is loaded now
  load-now : (u : PageToken) (loaded : LoadedPage) → s.loaded ≡ Some loaded → s.generation ≡ u.generation → u.page ≡ page
      → (r : Right) (bytes : List ℕ) → Contains events (Load u r bytes) → HoldsNow events u r bytes (Some loaded)
  load-now u loaded now under here r bytes h =
      subst (λ (l : Option LoadedPage). HoldsNow events u r bytes l) now (c.now u here (sym under) r bytes h)

  -- one place more over the content
  placed-more : (u t : PageToken) (m at : ℕ) (b : List ℕ) (loaded : LoadedPage) (bytes : List ℕ) → IsSame t u → m ≡ loaded.places
      → IsPlacedOver events t bytes loaded.places loaded.content
      → IsPlacedOver (Place u m at b ∷ events) t bytes (loaded.places + 1) (overlaid at b loaded.content)
  placed-more u t m at b loaded bytes same next over =
      let e = Place u m at b in
      let head : Contains (e ∷ events) (Place t loaded.places at b) =
      subst (λ (x : PageEvent). Contains (e ∷ events) x)
      (ap (λ (v : PageToken). Place v m at b) (sym (token-is t u same)) ∙ ap (λ (n : ℕ). Place t n at b) next)
      (Contains-head e events) in
      subst (λ (n : ℕ). IsPlacedOver (e ∷ events) t bytes n (overlaid at b loaded.content)) (sym (add-one loaded.places)) (
        at,
        b,
        loaded.content,
        head,
        IsPlacedOver-more events (e ∷ events) t bytes loaded.places loaded.content (λ n to d. Contains-tail e events (Place t n to d)) over,
        refl,
      )

  pub Contents-step : (e : PageEvent) → page_in e ≡ page → IsPageStep e s → Contents page (e ∷ events) (page_after e s)
  Contents-step (Load u q b) here st =
      let e = Load u q b in
      let next = st.next in
      record {
        now = λ t on same r bytes h. ⊎_elim
            (λ (new : e ≡ Load t r bytes).
            let rights : r ≡ q = cc in
            let loads : b ≡ bytes = cc in
            (rights, ap whole_page loads))
            (λ (old : Contains events (Load t r bytes)). let below = g.most (Load t r bytes) old in absurd (omega arith))
            (Contains-cons_cases e events (Load t r bytes) h);
        unplaced = λ _. refl;
        agree = each-cons (λ x. (r : Right) (loaded : List ℕ) → Contains (e ∷ events) (Load (token_in x) r loaded) → Agrees (e ∷ events) r loaded x) e events
            (λ r loaded h. tt)
            (λ x old r loaded h. ⊎_elim
            (λ (new : e ≡ Load (token_in x) r loaded).
            let below = g.most x old in
            let same = ap (λ (y : PageEvent). (token_in y).generation) new in
            absurd (omega arith))
            (λ (l : Contains events (Load (token_in x) r loaded)). keeps e (λ t. refl) x old r loaded l)
            (Contains-cons_cases e events (Load (token_in x) r loaded) h));
      }
  Contents-step (Fetch u at b) here st =
      let e = Fetch u at b in
      record {
        now = λ t on same r bytes h.
            HoldsNow-more e events t r bytes s.loaded (c.now t on same r bytes (Contains-old e events (Load t r bytes) (λ f. absurd cc) h));
        unplaced = c.unplaced;
        agree = agree-cons e (λ t r bytes f. absurd cc)
            (λ r loaded l.
            let held = load-now u st.page st.loaded.now st.loaded.under here r loaded l in
            let none = subst IsUnplaced st.loaded.now c.unplaced st.allowed in (
              held.0 ∙ st.allowed,
              st.same ∙ ap (λ (content : List ℕ). part_of at (length b) content) (over-none events u (whole_page loaded) st.page.places st.page.content none held.1),
            ))
            (keeps e (λ t. refl));
      }
  Contents-step (Place u m at b) here st =
      let e = Place u m at b in
      record {
        now = λ t on same r bytes h.
            let old = c.now t on same r bytes (Contains-old e events (Load t r bytes) (λ f. absurd cc) h) in
            let held = subst (λ (l : Option LoadedPage). HoldsNow events t r bytes l) st.loaded.now old in
            subst (λ (l : Option LoadedPage). HoldsNow (e ∷ events) t r bytes (placed at b l)) (sym st.loaded.now)
            (held.0, placed-more u t m at b st.page (whole_page bytes) (record { page = on ∙ sym here; generation = same ∙ st.loaded.under }) st.next held.1);
        unplaced = subst (λ (l : Option LoadedPage). IsUnplaced (placed at b l)) (sym st.loaded.now)
            (λ fetch. let differ : right.Place ≡ right.Fetch = sym st.allowed ∙ fetch in absurd cc);
        agree = agree-cons e (λ t r bytes f. absurd cc)
            (λ r loaded l. let held = load-now u st.page st.loaded.now st.loaded.under here r loaded l in held.0 ∙ st.allowed)
            (keeps-place u m at b st.page st.loaded.now st.loaded.under here);
      }
  Contents-step (Unload u b) here st =
      let e = Unload u b in
      record {
        now = λ t on same r bytes h. tt;
        unplaced = tt;
        agree = agree-cons e (λ t r bytes f. absurd cc)
            (λ r loaded l.
            let held = load-now u st.page st.loaded.now st.loaded.under here r loaded l in
            let count : count_by (is_place_under u) events ≡ st.page.places = o.had st.page st.loaded.now u here (sym st.loaded.under) ∙ ap places_in st.loaded.now in
            subst (λ (n : ℕ). IsPlacedOver (e ∷ events) u (whole_page loaded) n b) (sym count)
            (subst (λ (content : List ℕ). IsPlacedOver (e ∷ events) u (whole_page loaded) st.page.places content) (sym st.same)
            (IsPlacedOver-more events (e ∷ events) u (whole_page loaded) st.page.places st.page.content
            (λ n to d. Contains-tail e events (Place u n to d)) held.1)))
            (keeps e (λ t. refl));
      }

pub Orders-life : (first page : ℕ) → 1 ≤ first → (past : List Entry) → IsPageLife first page past
    → Orders page (events_in past) (page_state first past)
Orders-life first page some [] life = record { orders = λ t n. sym (none-from n 0 (omega arith)); had = λ l is. absurd cc }
Orders-life first page some (e ∷ past) life =
    Orders-step first page (events_in past) (page_state first past) (Generations-life first page some past life.2) (Orders-life first page some past life.2)
    e.event life.0 life.1

pub Contents-life : (first page : ℕ) → 1 ≤ first → (past : List Entry) → IsPageLife first page past
    → Contents page (events_in past) (page_state first past)
Contents-life first page some [] life = record {
  now = λ t on same r bytes h. tt;
  unplaced = tt;
  agree = λ e h. absurd (Contains-nil e h);
}
Contents-life first page some (e ∷ past) life =
    Contents-step first page (events_in past) (page_state first past) (Generations-life first page some past life.2) (Orders-life first page some past life.2)
    (Contents-life first page some past life.2) e.event life.0 life.1
