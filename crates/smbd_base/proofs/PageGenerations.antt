-- The loads and unloads in the life of one page.
use Rattle.std.proofs.Common.{◌≡◌, ℕ, ◌+◌, ◌<◌, ◌≤◌, Bool, Option, Some, None, List, [], ◌∷◌, count_by, refl, sym, ap, ◌∙◌, arith, ⊎_elim}
use Rattle.std.specs.List.{Contains}
use Rattle.std.proofs.lemmas.Bool.{cases_eq, false_from_ne_true}
use Rattle.smbd_base.specs.declared.page_event.PageEvent.{PageEvent}
use Rattle.smbd_base.specs.declared.page_event.PageEvent.TheVariants.{Load, Fetch, Place, Unload}
use Rattle.smbd_base.specs.Tokens.{PageToken}
use Rattle.smbd_base.specs.Pages.{Entry, LoadedPage, PageState, token_in, page_in, IsPageStep, page_after, placed, page_state, IsPageLife}
use Rattle.smbd_base.specs.PagesFit.{is_load_of, is_unload_of}
use Rattle.smbd_base.proofs.EventLists.{Contains-nil, each-cons, count-yes, count-no, count-none, IsOn, is_token-yes, is_token-no, loads-on, unloads-on}

-- how often the last token was unloaded
abbrev pub unload_count : Option LoadedPage → ℕ
unload_count None = 1
unload_count (Some loaded) = 0

unload_count-placed : (at : ℕ) (bytes : List ℕ) (loaded : Option LoadedPage) → unload_count loaded ≡ unload_count (placed at bytes loaded)
unload_count-placed at bytes None = refl
unload_count-placed at bytes (Some loaded) = refl

-- what the events of one page say of generations
pub record Generations (first page : ℕ) (events : List PageEvent) (s : PageState) : Type 0 where
  pub bound : first ≤ s.generation + 1
  pub live : (loaded : LoadedPage) → s.loaded ≡ Some loaded → first ≤ s.generation
  pub on_page : (e : PageEvent) → Contains events e → page_in e ≡ page
  pub least : (e : PageEvent) → Contains events e → first ≤ (token_in e).generation
  pub most : (e : PageEvent) → Contains events e → (token_in e).generation ≤ s.generation
  pub loads : (t : PageToken) → t.page ≡ page → first ≤ t.generation → t.generation ≤ s.generation → count_by (is_load_of t) events ≡ 1
  pub unloads : (t : PageToken) → t.page ≡ page → first ≤ t.generation → t.generation < s.generation → count_by (is_unload_of t) events ≡ 1
  pub unloaded : (t : PageToken) → t.page ≡ page → first ≤ t.generation → t.generation ≡ s.generation
      → count_by (is_unload_of t) events ≡ unload_count s.loaded

module _ (first page : ℕ) (events : List PageEvent) (s : PageState) (g : Generations first page events s) where
  -- no event is on a generation that is still to come
  pub count-ahead : (t : PageToken) (q : PageEvent → Bool) → IsOn t q → s.generation < t.generation → count_by q events ≡ 0
  count-ahead t q on ahead =
      count-none q events (λ e h. false_from_ne_true (q e) (λ yes.
      let same = (on e yes).generation in let below = g.most e h in absurd (omega arith)))

  pub count-before : (t : PageToken) (q : PageEvent → Bool) → IsOn t q → t.generation < first → count_by q events ≡ 0
  count-before t q on before =
      count-none q events (λ e h. false_from_ne_true (q e) (λ yes.
      let same = (on e yes).generation in let above = g.least e h in absurd (omega arith)))

  pub Generations-step : (e : PageEvent) → page_in e ≡ page → IsPageStep e s → Generations first page (e ∷ events) (page_after e s)
  Generations-step (Load u r b) here st =
      let e = Load u r b in
      let next = st.next in
      let bound = g.bound in
      record {
        bound = omega arith;
        live = λ l is. omega arith;
        on_page = each-cons (λ x. page_in x ≡ page) e events here g.on_page;
        least = each-cons (λ x. first ≤ (token_in x).generation) e events (omega arith) g.least;
        most = each-cons (λ x. (token_in x).generation ≤ u.generation) e events (omega arith) (λ x h. omega (arith, g.most x h));
        loads = λ t on from to. ⊎_elim
            (λ (same : t.generation ≡ u.generation).
            omega (
              arith,
              count-yes (is_load_of t) e events (is_token-yes t u (record { page = on ∙ sym here; generation = same })),
              count-ahead t (is_load_of t) (loads-on t) (omega arith),
            ))
            (λ (differ : t.generation ≡ u.generation → ⊥).
            count-no (is_load_of t) e events (is_token-no t u differ) ∙ g.loads t on from (omega arith))
            (cases_eq t.generation u.generation);
        unloads = λ t on from to. ⊎_elim
            (λ (same : t.generation ≡ s.generation).
            g.unloaded t on from same ∙ ap unload_count st.unloaded)
            (λ (differ : t.generation ≡ s.generation → ⊥). g.unloads t on from (omega arith))
            (cases_eq t.generation s.generation);
        unloaded = λ t on from same. count-ahead t (is_unload_of t) (unloads-on t) (omega arith);
      }
  Generations-step (Fetch u at b) here st =
      let e = Fetch u at b in
      let under = st.loaded.under in
      let live = g.live st.page st.loaded.now in
      record {
        bound = g.bound;
        live = g.live;
        on_page = each-cons (λ x. page_in x ≡ page) e events here g.on_page;
        least = each-cons (λ x. first ≤ (token_in x).generation) e events (omega arith) g.least;
        most = each-cons (λ x. (token_in x).generation ≤ s.generation) e events (omega arith) g.most;
        loads = g.loads;
        unloads = g.unloads;
        unloaded = g.unloaded;
      }
  Generations-step (Place u n at b) here st =
      let e = Place u n at b in
      let under = st.loaded.under in
      let live = g.live st.page st.loaded.now in
      record {
        bound = g.bound;
        live = λ l is. live;
        on_page = each-cons (λ x. page_in x ≡ page) e events here g.on_page;
        least = each-cons (λ x. first ≤ (token_in x).generation) e events (omega arith) g.least;
        most = each-cons (λ x. (token_in x).generation ≤ s.generation) e events (omega arith) g.most;
        loads = g.loads;
        unloads = g.unloads;
        unloaded = λ t on from same. g.unloaded t on from same ∙ unload_count-placed at b s.loaded;
      }
  Generations-step (Unload u b) here st =
      let e = Unload u b in
      let under = st.loaded.under in
      let live = g.live st.page st.loaded.now in
      record {
        bound = g.bound;
        live = λ l is. live;
        on_page = each-cons (λ x. page_in x ≡ page) e events here g.on_page;
        least = each-cons (λ x. first ≤ (token_in x).generation) e events (omega arith) g.least;
        most = each-cons (λ x. (token_in x).generation ≤ s.generation) e events (omega arith) g.most;
        loads = g.loads;
        unloads = λ t on from to.
            count-no (is_unload_of t) e events (is_token-no t u (λ same. omega arith)) ∙ g.unloads t on from to;
        unloaded = λ t on from same.
            omega (
              arith,
              count-yes (is_unload_of t) e events (is_token-yes t u (record { page = on ∙ sym here; generation = omega arith })),
              g.unloaded t on from same,
              ap unload_count st.loaded.now,
            );
      }

-- the events of entries
abbrev pub events_in : List Entry → List PageEvent
events_in [] = []
events_in (e ∷ past) = e.event ∷ events_in past

pub Generations-life : (first page : ℕ) → 1 ≤ first → (past : List Entry) → IsPageLife first page past
    → Generations first page (events_in past) (page_state first past)
Generations-life first page some [] life = record {
  bound = omega arith;
  live = λ l is. absurd cc;
  on_page = λ e h. absurd (Contains-nil e h);
  least = λ e h. absurd (Contains-nil e h);
  most = λ e h. absurd (Contains-nil e h);
  loads = λ t on from to. absurd (omega arith);
  unloads = λ t on from to. absurd (omega arith);
  unloaded = λ t on from same. absurd (omega arith);
}
Generations-life first page some (e ∷ past) life =
    Generations-step first page (events_in past) (page_state first past) (Generations-life first page some past life.2) e.event life.0 life.1
