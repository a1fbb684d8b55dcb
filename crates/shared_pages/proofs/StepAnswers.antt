-- A pool answers what the steps of a page's life allow.
use Rattle.std.proofs.Common.{◌≡◌, ◌↔◌, ℕ, ◌+◌, ◌-◌, ◌<◌, ◌≤◌, ◌==◌, nat_le, Bool, if◌then◌else◌, Option, Some, None, List, [], ◌∷◌, ◌++◌, length, take, drop, replicate, count_by, refl, sym, ap, ◌∙◌, arith, ◌⊎◌, inl, inr, ⊎_elim, length-append}
use Rattle.std.proofs.lemmas.Bool.{cases_eq, cases_lt, cond-true, cond-false, eq-eqb, ne_eqb, le-leb, lt-leb}
use Rattle.std.proofs.lemmas.List.{length-take-le, length-drop, length-replicate}
use Rattle.std.proofs.lemmas.List.Sums.{sum_by-cons}
use Rattle.smbd_base.specs.declared.token.TheConstants.{PAGE_SIZE, LAST_GENERATION}
use Rattle.smbd_base.specs.declared.right.Right.{Right}
use Rattle.smbd_base.specs.declared.right.Right.TheVariants as right
use Rattle.smbd_base.specs.declared.page_event.PageEvent.{PageEvent}
use Rattle.smbd_base.specs.declared.page_event.PageEvent.TheVariants as events
use Rattle.smbd_base.specs.Tokens.{PageToken}
use Rattle.smbd_base.specs.Pages.{Entry, LoadedPage, PageState, IsLoadedAs, IsPageStep, IsPageLife, whole_page, part_of, overlaid, placed, page_after, page_state}
use Rattle.smbd_base.specs.PagesFit.{is_place_under}
use Rattle.smbd_base.proofs.EventLists.{token-is}
use Rattle.smbd_base.proofs.PageGenerations.{events_in}
use Rattle.smbd_base.proofs.PageContents.{places_in, Orders-life}
use Rattle.shared_pages.specs.declared.answers.Load.TheVariants.{Loaded, Live, Spent}
use Rattle.shared_pages.specs.declared.answers.Access.{Access}
use Rattle.shared_pages.specs.declared.answers.Access.TheVariants.{Done, Stale, WrongRight, Worn}
use Rattle.shared_pages.specs.Answers.{token_of_page, loading, right_of, right_under, places_had, by_right, place_answer}
use Rattle.shared_pages.specs.ByStep.{IsLoadedUnder, IsLoadedFor, places_under, PlacesByStep, AnswersLoads, AnswersFetches, AnswersPlaces, AnswersUnloads}

-- ---- loads

loads-next : (page g : ℕ) (o : Option LoadedPage) (t : PageToken) → loading page g o ≡ Loaded t → (o ≡ None) × (token_of_page page (g + 1) ≡ t) × (g ≡ LAST_GENERATION → ⊥)
loads-next page g (Some x) t e = absurd cc
loads-next page g None t e = ⊎_elim
    (λ (last : g ≡ LAST_GENERATION). absurd (let f : Spent ≡ Loaded t = sym (cond-true (g == LAST_GENERATION) Spent (Loaded (token_of_page page (g + 1))) (eq-eqb g LAST_GENERATION last)) ∙ e in cc))
    (λ (more : g ≡ LAST_GENERATION → ⊥).
    let f : Loaded (token_of_page page (g + 1)) ≡ Loaded t = sym (cond-false (g == LAST_GENERATION) Spent (Loaded (token_of_page page (g + 1))) (ne_eqb g LAST_GENERATION more)) ∙ e in
    (refl, (let same : token_of_page page (g + 1) ≡ t = cc in same), more))
    (cases_eq g LAST_GENERATION)

loads-where : (page g : ℕ) (o : Option LoadedPage) (t : PageToken) → o ≡ None → t.page ≡ page → t.generation ≡ g + 1 → t.generation ≤ LAST_GENERATION → loading page g o ≡ Loaded t
loads-where page g (Some x) t none on next most = absurd cc
loads-where page g None t none on next most =
    cond-false (g == LAST_GENERATION) Spent (Loaded (token_of_page page (g + 1))) (ne_eqb g LAST_GENERATION (λ is. omega arith))
    ∙ ap Loaded (token-is (token_of_page page (g + 1)) t (record { page = sym on; generation = sym next }))

live-next : (page g : ℕ) (o : Option LoadedPage) (t : PageToken) → loading page g o ≡ Live t → (token_of_page page g ≡ t) × ((x : LoadedPage) × (o ≡ Some x))
live-next page g (Some x) t e = ((let same : token_of_page page g ≡ t = cc in same), (x, refl))
live-next page g None t e = absurd (⊎_elim
    (λ (last : g ≡ LAST_GENERATION). let f : Spent ≡ Live t = sym (cond-true (g == LAST_GENERATION) Spent (Loaded (token_of_page page (g + 1))) (eq-eqb g LAST_GENERATION last)) ∙ e in cc)
    (λ (more : g ≡ LAST_GENERATION → ⊥). let f : Loaded (token_of_page page (g + 1)) ≡ Live t = sym (cond-false (g == LAST_GENERATION) Spent (Loaded (token_of_page page (g + 1))) (ne_eqb g LAST_GENERATION more)) ∙ e in cc)
    (cases_eq g LAST_GENERATION))

live-where : (page g : ℕ) (o : Option LoadedPage) (t : PageToken) (x : LoadedPage) → o ≡ Some x → t.page ≡ page → g ≡ t.generation → loading page g o ≡ Live t
live-where page g None t x is on under = absurd cc
live-where page g (Some y) t x is on under = ap Live (token-is (token_of_page page g) t (record { page = sym on; generation = under }))

spent-next : (page g : ℕ) (o : Option LoadedPage) → loading page g o ≡ Spent → (o ≡ None) × (g ≡ LAST_GENERATION)
spent-next page g (Some x) e = absurd cc
spent-next page g None e = ⊎_elim
    (λ (last : g ≡ LAST_GENERATION). (refl, last))
    (λ (more : g ≡ LAST_GENERATION → ⊥). absurd (let f : Loaded (token_of_page page (g + 1)) ≡ Spent = sym (cond-false (g == LAST_GENERATION) Spent (Loaded (token_of_page page (g + 1))) (ne_eqb g LAST_GENERATION more)) ∙ e in cc))
    (cases_eq g LAST_GENERATION)

spent-where : (page g : ℕ) (o : Option LoadedPage) → o ≡ None → g ≡ LAST_GENERATION → loading page g o ≡ Spent
spent-where page g (Some x) none last = absurd cc
spent-where page g None none last = cond-true (g == LAST_GENERATION) Spent (Loaded (token_of_page page (g + 1))) (eq-eqb g LAST_GENERATION last)

pub loads-by-step : AnswersLoads
loads-by-step page right bytes s most fits = record {
  loaded = λ token. (
    (λ e. let h = loads-next page s.generation s.loaded token e in
        let next = ap (λ (t : PageToken). t.generation) h.1 in
        record {
          on = sym (ap (λ (t : PageToken). t.page) h.1);
          most = let more = h.2 in omega arith;
          step = record { unloaded = h.0; next = sym next; fits = fits };
        }),
    (λ m. loads-where page s.generation s.loaded token m.step.unloaded m.on m.step.next m.most),
  );
  live = λ token. (
    (λ e. let h = live-next page s.generation s.loaded token e in
        (sym (ap (λ (t : PageToken). t.page) h.0), record { page = h.1.0; loaded = record { now = h.1.1; under = ap (λ (t : PageToken). t.generation) h.0 } })),
    (λ m. live-where page s.generation s.loaded token m.1.page m.1.loaded.now m.0 m.1.loaded.under),
  );
  spent = ((λ e. spent-next page s.generation s.loaded e), (λ m. spent-where page s.generation s.loaded m.0 m.1));
}

-- ---- the right of a token

right-of : (o : Option LoadedPage) (r : Right) → right_of o ≡ Some r → (p : LoadedPage) × (o ≡ Some p) × (p.right ≡ r)
right-of None r e = absurd cc
right-of (Some p) r e = (p, refl, (let same : p.right ≡ r = cc in same))

module _ (token : PageToken) (s : PageState) where
  loaded-right : (p : LoadedPage) → IsLoadedAs token p s → right_under token s ≡ Some p.right
  loaded-right p l = cond-true (s.generation == token.generation) (right_of s.loaded) None (eq-eqb s.generation token.generation l.under) ∙ ap right_of l.now

  right-loaded : (r : Right) → right_under token s ≡ Some r → IsLoadedFor token r s
  right-loaded r e = ⊎_elim
      (λ (under : s.generation ≡ token.generation).
      let h = right-of s.loaded r (sym (cond-true (s.generation == token.generation) (right_of s.loaded) None (eq-eqb s.generation token.generation under)) ∙ e) in
      record { page = h.0; loaded = record { now = h.1; under = under }; gives = h.2 })
      (λ (other : s.generation ≡ token.generation → ⊥).
      absurd (let f : ◌≡◌ {A = Option Right} None (Some r) = sym (cond-false (s.generation == token.generation) (right_of s.loaded) None (ne_eqb s.generation token.generation other)) ∙ e in cc))
      (cases_eq s.generation token.generation)

  none-loaded : right_under token s ≡ None → IsLoadedUnder token s → ⊥
  none-loaded none l = let f : ◌≡◌ {A = Option Right} None (Some l.page.right) = sym none ∙ loaded-right l.page l.loaded in cc

  right-by : (o : Option Right) → right_under token s ≡ o → (right_under token s ≡ None) ⊎ IsLoadedUnder token s
  right-by None e = inl e
  right-by (Some r) e = let l = right-loaded r e in inr (record { page = l.page; loaded = l.loaded })

  right-cases : (right_under token s ≡ None) ⊎ IsLoadedUnder token s
  right-cases = right-by (right_under token s) refl

  gives-right : (r : Right) → IsLoadedFor token r s → right_under token s ≡ Some r
  gives-right r l = loaded-right l.page l.loaded ∙ ap Some l.gives

by-none : (o : Option Right) (x y : Access) → (x ≡ Stale → ⊥) → (y ≡ Stale → ⊥) → by_right o x y ≡ Stale → o ≡ None
by-none None x y nx ny e = refl
by-none (Some right.Fetch) x y nx ny e = absurd (nx e)
by-none (Some right.Place) x y nx ny e = absurd (ny e)

by-fetch : (o : Option Right) (x y z : Access) → (Stale ≡ z → ⊥) → (y ≡ z → ⊥) → by_right o x y ≡ z → o ≡ Some right.Fetch
by-fetch None x y z never other e = absurd (never e)
by-fetch (Some right.Fetch) x y z never other e = refl
by-fetch (Some right.Place) x y z never other e = absurd (other e)

by-place : (o : Option Right) (x y z : Access) → (Stale ≡ z → ⊥) → (x ≡ z → ⊥) → by_right o x y ≡ z → (o ≡ Some right.Place) × (y ≡ z)
by-place None x y z never other e = absurd (never e)
by-place (Some right.Fetch) x y z never other e = absurd (other e)
by-place (Some right.Place) x y z never other e = (refl, e)

by-some : (o : Option Right) (x : Access) → (Stale ≡ x → ⊥) → by_right o x x ≡ x → (r : Right) × (o ≡ Some r)
by-some None x never e = absurd (never e)
by-some (Some r) x never e = (r, refl)

by-any : (r : Right) (x : Access) → by_right (Some r) x x ≡ x
by-any right.Fetch x = refl
by-any right.Place x = refl

stale-by : (token : PageToken) (s : PageState) (x y : Access) → (x ≡ Stale → ⊥) → (y ≡ Stale → ⊥)
    → (by_right (right_under token s) x y ≡ Stale) ↔ (IsLoadedUnder token s → ⊥)
stale-by token s x y nx ny = (
  (λ e. none-loaded token s (by-none (right_under token s) x y nx ny e)),
  (λ never. ⊎_elim
      (λ (none : right_under token s ≡ None). ap (λ (o : Option Right). by_right o x y) none)
      (λ (l : IsLoadedUnder token s). absurd (never l))
      (right-cases token s)),
)

-- ---- what is loaded

length-whole : (bytes : List ℕ) → length bytes ≤ PAGE_SIZE → length (whole_page bytes) ≡ PAGE_SIZE
unfolding whole_page
length-whole bytes fits = length-append bytes (replicate (PAGE_SIZE - length bytes) 0) ∙ omega (arith, length-replicate {A = ℕ} (PAGE_SIZE - length bytes) 0)

length-overlaid : (at : ℕ) (bytes content : List ℕ) → length content ≡ PAGE_SIZE → at + length bytes ≤ PAGE_SIZE → length (overlaid at bytes content) ≡ PAGE_SIZE
length-overlaid at bytes content whole within =
    let front : length (take at content) ≡ at = length-take-le at content (omega arith) in
    let rest : length (drop (at + length bytes) content) ≡ length content - (at + length bytes) = length-drop (at + length bytes) content in
    let back = length-append bytes (drop (at + length bytes) content) in
    let all = length-append (take at content) (bytes ++ drop (at + length bytes) content) in
    omega arith

-- a loaded page is whole, and its token had no more places than it may
pub record IsLoadedWell (p : LoadedPage) : Type 0 where
  pub whole : length p.content ≡ PAGE_SIZE
  pub most : p.places ≤ 65535

well-step : (e : PageEvent) (s : PageState) → IsPageStep e s → ((p : LoadedPage) → s.loaded ≡ Some p → IsLoadedWell p)
    → (p : LoadedPage) → (page_after e s).loaded ≡ Some p → IsLoadedWell p
well-step (events.Load t r b) s st well p is =
    let content : whole_page b ≡ p.content = cc in
    let places : 0 ≡ p.places = cc in
    record { whole = ap length (sym content) ∙ length-whole b st.fits; most = omega arith }
well-step (events.Fetch t at b) s st well p is = well p is
well-step (events.Place t n at b) s st well p is =
    let old = well st.page st.loaded.now in
    let new : ◌≡◌ {A = Option LoadedPage} (Some (record { right = st.page.right; content = overlaid at b st.page.content; places = st.page.places + 1 })) (Some p) =
    sym (ap (placed at b) st.loaded.now) ∙ is in
    let content : overlaid at b st.page.content ≡ p.content = cc in
    let places : st.page.places + 1 ≡ p.places = cc in
    let next = st.next in
    let most = st.most in
    record { whole = ap length (sym content) ∙ length-overlaid at b st.page.content old.whole st.within; most = omega arith }
well-step (events.Unload t b) s st well p is = absurd cc

well-life : (first page : ℕ) (life : List Entry) → IsPageLife first page life → (p : LoadedPage) → (page_state first life).loaded ≡ Some p → IsLoadedWell p
well-life first page [] lawful p is = absurd cc
well-life first page (e ∷ life) lawful p is = well-step e.event (page_state first life) lawful.1 (well-life first page life lawful.2) p is

count-events : (q : PageEvent → Bool) (life : List Entry) → count_by q (events_in life) ≡ count_by (λ (e : Entry). q e.event) life
count-events q [] = refl
count-events q (e ∷ life) =
    let f : PageEvent → ℕ = λ x. if q x then 1 else 0 in
    let old = count-events q life in
    sum_by-cons f e.event (events_in life) ∙ ap (λ (n : ℕ). f e.event + n) old ∙ sym (sum_by-cons (λ (x : Entry). f x.event) e life)

-- ---- accesses

pub fetches-by-step : AnswersFetches
fetches-by-step first token life lawful = let s = page_state first life in record {
  done = λ at count within. (
    (λ e.
        let l = right-loaded token s right.Fetch (by-fetch (right_under token s) Done WrongRight Done (λ f. cc) (λ f. cc) e) in
        let whole = (well-life first token.page life lawful l.page l.loaded.now).whole in
        let long : length (part_of at count l.page.content) ≡ count =
        length-take-le count (drop at l.page.content) (omega (arith, length-drop at l.page.content)) in
        record {
          bytes = part_of at count l.page.content;
          long = long;
          step = record { page = l.page; loaded = l.loaded; allowed = l.gives; within = omega arith; same = ap (λ (n : ℕ). part_of at n l.page.content) (sym long) };
        }),
    (λ m. ap (λ (o : Option Right). by_right o Done WrongRight) (gives-right token s right.Fetch (record { page = m.step.page; loaded = m.step.loaded; gives = m.step.allowed }))),
  );
  stale = stale-by token s Done WrongRight (λ f. cc) (λ f. cc);
  wrong = (
    (λ e. right-loaded token s right.Place (by-place (right_under token s) Done WrongRight WrongRight (λ f. cc) (λ f. cc) e).0),
    (λ l. ap (λ (o : Option Right). by_right o Done WrongRight) (gives-right token s right.Place l)),
  );
}

pub unloads-by-step : AnswersUnloads
unloads-by-step token s = record {
  done = (
    (λ e.
        let some = by-some (right_under token s) Done (λ f. cc) e in
        let l = right-loaded token s some.0 some.1 in
        record { bytes = l.page.content; step = record { page = l.page; loaded = l.loaded; same = refl } }),
    (λ m. ap (λ (o : Option Right). by_right o Done Done) (loaded-right token s m.step.page m.step.loaded) ∙ by-any m.step.page.right Done),
  );
  stale = stale-by token s Done Done (λ f. cc) (λ f. cc);
}

-- what a place by the right token answers
abbrev wearing : ℕ → Access
wearing n = if nat_le 65535 n then Worn else Done

wearing-done : (n : ℕ) → wearing n ≡ Done → n ≤ 65534
wearing-done n e = ⊎_elim
    (λ (below : n < 65535). omega arith)
    (λ (worn : 65535 ≤ n). absurd (let f : Worn ≡ Done = sym (cond-true (nat_le 65535 n) Worn Done (le-leb 65535 n worn)) ∙ e in cc))
    (cases_lt n 65535)

wearing-worn : (n : ℕ) → wearing n ≡ Worn → 65535 ≤ n
wearing-worn n e = ⊎_elim
    (λ (below : n < 65535). absurd (let f : Done ≡ Worn = sym (cond-false (nat_le 65535 n) Worn Done (lt-leb 65535 n below)) ∙ e in cc))
    (λ (worn : 65535 ≤ n). worn)
    (cases_lt n 65535)

wearing-access : (n : ℕ) (x : Access) → (Worn ≡ x → ⊥) → (Done ≡ x → ⊥) → wearing n ≡ x → ⊥
wearing-access n x never other e = ⊎_elim
    (λ (below : n < 65535). other (sym (cond-false (nat_le 65535 n) Worn Done (lt-leb 65535 n below)) ∙ e))
    (λ (worn : 65535 ≤ n). never (sym (cond-true (nat_le 65535 n) Worn Done (le-leb 65535 n worn)) ∙ e))
    (cases_lt n 65535)

module _ (first : ℕ) (some : 1 ≤ first) (token : PageToken) (life : List Entry) (lawful : IsPageLife first token.page life) where
  abbrev now : PageState
  now = page_state first life

  had : (p : LoadedPage) → IsLoadedAs token p now → places_under token life ≡ p.places
  had p l =
      sym (count-events (is_place_under token) life)
      ∙ (Orders-life first token.page some life lawful).had p l.now token refl (sym l.under) ∙ ap places_in l.now

  places-had : (p : LoadedPage) → IsLoadedAs token p now → places_had now.loaded ≡ p.places
  places-had p l = ap places_had l.now

  by-place-right : (z : Access) → (Stale ≡ z → ⊥) → (WrongRight ≡ z → ⊥) → place_answer token now ≡ z
      → IsLoadedFor token right.Place now × (wearing (places_had now.loaded) ≡ z)
  by-place-right z never other e =
      let h = by-place (right_under token now) WrongRight (wearing (places_had now.loaded)) z never other e in
      (right-loaded token now right.Place h.0, h.1)

  for-place : IsLoadedFor token right.Place now → place_answer token now ≡ wearing (places_had now.loaded)
  for-place l = ap (λ (o : Option Right). by_right o WrongRight (wearing (places_had now.loaded))) (gives-right token now right.Place l)

  pub places-by-step : PlacesByStep token life now
  places-by-step = record {
    done = λ order at bytes within. (
      (λ st.
          let count = places-had st.page st.loaded in
          let most = st.most in
          let next = st.next in (
            for-place (record { page = st.page; loaded = st.loaded; gives = st.allowed })
                ∙ cond-false (nat_le 65535 (places_had now.loaded)) Worn Done (lt-leb 65535 (places_had now.loaded) (omega arith)),
            st.next ∙ sym (had st.page st.loaded),
          )),
      (λ m.
          let h = by-place-right Done (λ f. cc) (λ f. cc) m.0 in
          let below = wearing-done (places_had now.loaded) h.1 in
          let count = places-had h.0.page h.0.loaded in
          let all = had h.0.page h.0.loaded in
          let is = m.1 in
          record { page = h.0.page; loaded = h.0.loaded; allowed = h.0.gives; next = m.1 ∙ all; most = omega arith; within = within }),
    );
    stale = stale-by token now WrongRight (wearing (places_had now.loaded)) (λ f. cc) (wearing-access (places_had now.loaded) Stale (λ f. cc) (λ f. cc));
    wrong = (
      (λ e. right-loaded token now right.Fetch (by-fetch (right_under token now) WrongRight (wearing (places_had now.loaded)) WrongRight (λ f. cc)
          (wearing-access (places_had now.loaded) WrongRight (λ f. cc) (λ f. cc)) e)),
      (λ l. ap (λ (o : Option Right). by_right o WrongRight (wearing (places_had now.loaded))) (gives-right token now right.Fetch l)),
    );
    worn = (
      (λ e.
          let h = by-place-right Worn (λ f. cc) (λ f. cc) e in
          let above = wearing-worn (places_had now.loaded) h.1 in
          let count = places-had h.0.page h.0.loaded in
          let all = had h.0.page h.0.loaded in
          let most = (well-life first token.page life lawful h.0.page h.0.loaded.now).most in
          (h.0, omega arith)),
      (λ m.
          let count = places-had m.0.page m.0.loaded in
          let all = had m.0.page m.0.loaded in
          let is = m.1 in
          for-place m.0 ∙ cond-true (nat_le 65535 (places_had now.loaded)) Worn Done (le-leb 65535 (places_had now.loaded) (omega arith))),
    );
  }

pub all-places-by-step : AnswersPlaces
all-places-by-step first some token life lawful = places-by-step first some token life lawful
