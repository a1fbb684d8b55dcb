-- What the loads of a put carry, and what is loaded of that which is named.
use Rattle.std.proofs.Common.{◌≡◌, inl, inr, ℕ, zero, suc, ◌+◌, ◌/◌, ◌%◌, ◌<◌, ◌≤◌, ◌==◌, Bool, true, false, cond, Some, List, [], ◌∷◌, ◌++◌, length, map, reverse, refl, sym, ap, ◌∙◌, subst, arith, ⊎_elim, Contains}
use Rattle.std.specs.Prelude.{slice_get}
use mathlib.Core.List.{IsPrefix}
use Rattle.std.proofs.lemmas.Bool.Decides.{nat_tests}
use Rattle.std.proofs.lemmas.Nat.{mod_below}
use Rattle.std.proofs.lemmas.List.Elements.{Contains-append_left, Contains-append_right, Contains-append_cases}
use Rattle.smbd_base.specs.declared.right.Right.{Right}
use Rattle.smbd_base.specs.declared.page_event.PageEvent.{PageEvent}
use Rattle.smbd_base.specs.declared.page_event.PageEvent.TheVariants as events
use Rattle.smbd_base.specs.Tokens.{PageToken, number_of}
use Rattle.smbd_base.specs.Pages.{Entry, PageState}
use Rattle.smbd_base.specs.PagesFit.{events_by, all_events, is_load_of, HasLoad}
use Rattle.smbd_base.proofs.EventLists.{count-some, is_token-yes}
use Rattle.buffer_descriptor.specs.declared.descriptor.Descriptor.{Descriptor}
use Rattle.file_messages.specs.declared.kind.CopyKind.{CopyKind}
use Rattle.file_messages.specs.declared.message.Request.{Request}
use Rattle.file_messages.specs.declared.job.Work.{Work}
use Rattle.file_messages.specs.declared.job.Work.TheVariants.{Unload}
use Rattle.file_pasts.specs.ClientPast.{jobs_given, descriptors_on, token_of_descriptor}
use Rattle.file_pasts.specs.PutPages.{bytes_loaded, token_unloaded, tokens_unloaded, tokens_named}
use Rattle.file_pasts.specs.ServerDue.{IsServer}
use Rattle.file_pasts.proofs.Lists.{got_of_map, get_last}
use Rattle.std.proofs.lemmas.List.{append-nil}
use Rattle.page_workers.specs.Workers.{WorkerState}
use Rattle.copy_laws.specs.Shares.{jobs_for, completions_of}
use Rattle.copy_laws.specs.ClientDone.{completions_in, JobsAnswered}
use Rattle.copy_laws.specs.Coupled.{Pasts, AreCoupled}
use Rattle.copy_laws.specs.Laws.{client_lists}
use Rattle.copy_laws.proofs.Shares.{loads-for}
use Rattle.copy_laws.proofs.Runs.{PageLoad, load_in, loads_in, load_size, load_descriptor, run-made, made-loads}
use Rattle.copy_laws.proofs.Pool.{loads_on, loads_on-by, token_at, placed-run}
use Rattle.copy_laws.proofs.Origins.{did-at, each-loads-by}
use Rattle.copy_laws.proofs.Tokens.{prefix-get, known-loads}
use Rattle.copy_laws.proofs.WorkerLists.{HasEntry, each-has, entry-listed, contained-lists}

-- ---- the loads of a page carry the bytes of the first Loads that were given

pub carried-loads : (workers count page : ℕ) (kind : CopyKind) (p : Pasts) (pages : List PageState) (cs ss : List WorkerState) → 1 ≤ workers → count ≤ 256
    → AreCoupled workers count p pages cs ss → IsServer kind p.server → IsPrefix (map load_size (loads_on page p.pool)) (bytes_loaded page (jobs_given p.client))
carried-loads workers count page kind p pages cs ss some few a served =
    let place = page % workers in
    let works = jobs_given p.client in
    let below : place < workers = mod_below page workers (omega (arith, some)) in
    let x = did-at workers 0 place works (completions_in p.client) p.pool cs a.clients below in
    let jobs = jobs_for workers (place + 1) 0 works in
    let made = reverse (events_by (0 + place) p.pool) in
    let carried = made-loads page made jobs (run-made x.worker.kept x.worker.waiting jobs (completions_of workers (place + 1) works (completions_in p.client) ++ x.worker.done) made x.did) in
    let same : loads_on page p.pool ≡ loads_in page made =
    loads_on-by page place p.pool (each-loads-by workers count page kind p pages cs ss few a served)
    ∙ ap (λ (q : ℕ). loads_in page (reverse (events_by q p.pool))) (let z : place ≡ 0 + place = omega arith in z) in
    subst (λ (ls : List PageLoad). IsPrefix (map load_size ls) (bytes_loaded page works)) (sym same)
    (subst (λ (bs : List (List ℕ)). IsPrefix (map load_size (loads_in page made)) bs) (loads-for workers page 0 works) carried)

-- ---- a load is an event of the client

load-entry : (page : ℕ) (pool : List Entry) (n : ℕ) (l : PageLoad) → slice_get (loads_on page pool) n ≡ Some l
    → (q : ℕ) × (r : Right) × HasEntry pool q (events.Load l.token r l.bytes) × (l.token.page ≡ page)
load-entry page [] n l at = absurd (let b : ⊥ = cc in b)
load-entry page (x ∷ pool) n l at = by_event x.event refl at (load-entry page pool n l) where
  Found : Type 0
  Found = (q : ℕ) × (r : Right) × HasEntry (x ∷ pool) q (events.Load l.token r l.bytes) × (l.token.page ≡ page)

  older : (slice_get (loads_on page pool) n ≡ Some l → (q : ℕ) × (r : Right) × HasEntry pool q (events.Load l.token r l.bytes) × (l.token.page ≡ page)) → slice_get (loads_on page pool ++ []) n ≡ Some l → Found
  older ih h =
      let k = ih (subst (λ (ls : List PageLoad). slice_get ls n ≡ Some l) (append-nil (loads_on page pool)) h) in
      (k.0, k.1, inr k.2, k.3)

  by_event : (e : PageEvent) → x.event ≡ e → slice_get (loads_on page pool ++ load_in page e) n ≡ Some l
      → (slice_get (loads_on page pool) n ≡ Some l → (q : ℕ) × (r : Right) × HasEntry pool q (events.Load l.token r l.bytes) × (l.token.page ≡ page)) → Found
  by_event (events.Load t r b) is h ih = by_test (t.page == page) refl h where
    new : (t.page == page) ≡ true → l ≡ record { token = t; bytes = b } → Found
    new on same = (
      x.pass,
      r,
      inl (refl, is ∙ ap (λ (y : PageLoad). events.Load y.token r y.bytes) (sym same)),
      ap (λ (y : PageLoad). y.token.page) same ∙ (let z : t.page ≡ page = grind (arith, nat_tests) in z),
    )

    by_test : (y : Bool) → (t.page == page) ≡ y → slice_get (loads_on page pool ++ cond {A = List PageLoad} y ((record { token = t; bytes = b }) ∷ []) []) n ≡ Some l → Found
    by_test true on k =
        ⊎_elim
        (λ (old : slice_get (loads_on page pool) n ≡ Some l). let z = ih old in let found : Found = (z.0, z.1, inr z.2, z.3) in found)
        (λ (last : (n ≡ length (loads_on page pool)) × (l ≡ record { token = t; bytes = b })). new on last.1)
        (get_last (loads_on page pool) (record { token = t; bytes = b }) n l k)
    by_test false off k = older ih k
  by_event (events.Fetch t a b) is h ih = older ih h
  by_event (events.Place t o a b) is h ih = older ih h
  by_event (events.Unload t b) is h ih = older ih h

pub has-load : (workers count page n : ℕ) (kind : CopyKind) (p : Pasts) (pages : List PageState) (cs ss : List WorkerState) (l : PageLoad) → 1 ≤ workers → count ≤ 256
    → AreCoupled workers count p pages cs ss → IsServer kind p.server → slice_get (loads_on page p.pool) n ≡ Some l → HasLoad (all_events (client_lists workers p)) l.token
has-load workers count page n kind p pages cs ss l some few a served at =
    let e = load-entry page p.pool n l at in
    let place = page % workers in
    let event = events.Load l.token e.1 l.bytes in
    let by : e.0 ≡ place = each-has (λ (q : ℕ) (x : PageEvent). (load_in page x ≡ [] → ⊥) → q ≡ place) p.pool e.0 event (each-loads-by workers count page kind p pages cs ss few a served) e.2 (not_none l e.1 e.3) in
    count-some (is_load_of l.token) (all_events (client_lists workers p)) event
    (contained-lists 0 workers place p.pool event (mod_below page workers (omega (arith, some)))
    (subst (λ (q : ℕ). Contains (events_by q p.pool) event) (by ∙ (let z : place ≡ 0 + place = omega arith in z)) (entry-listed p.pool e.0 event e.2)))
    (is_token-yes l.token l.token (record { page = refl; generation = refl }))
  where
    not_none : (m : PageLoad) (r : Right) → m.token.page ≡ page → load_in page (events.Load m.token r m.bytes) ≡ [] → ⊥
    not_none m r on none =
        let yes : (m.token.page == page) ≡ true = grind (arith, nat_tests) in
        let one : load_in page (events.Load m.token r m.bytes) ≡ (record { token = m.token; bytes = m.bytes }) ∷ [] = ap (λ (t : Bool). cond {A = List PageLoad} t ((record { token = m.token; bytes = m.bytes }) ∷ []) []) yes in
        let b : ⊥ = cc in b

-- ---- what requests name

pub record IsNamed (rs : List Request) (t : PageToken) : Type 0 where
  pub request : ℕ
  pub place : ℕ
  pub named_by : Request
  pub descriptor : Descriptor
  pub request_at : slice_get rs request ≡ Some named_by
  pub descriptor_at : slice_get named_by.descriptors place ≡ Some descriptor
  pub token_is : t ≡ token_of_descriptor descriptor

token-in : (ds : List Descriptor) (t : PageToken) → Contains (map token_of_descriptor ds) t → (i : ℕ) × (d : Descriptor) × (slice_get ds i ≡ Some d) × (t ≡ token_of_descriptor d)
token-in [] t h = absurd (let below = h.1 in omega (arith, below))
token-in (d ∷ ds) t (zero, below, is) = (zero, d, refl, sym is)
token-in (d ∷ ds) t (suc k, below, is) = (let z = token-in ds t (k, omega (arith, below), is) in (suc z.0, z.1, z.2, z.3))

pub named-by : (rs : List Request) (t : PageToken) → Contains (tokens_named rs) t → IsNamed rs t
named-by [] t h = absurd (let below = h.1 in omega (arith, below))
named-by (r ∷ rs) t h =
    ⊎_elim
    (λ (first : Contains (map token_of_descriptor r.descriptors) t).
    let z = token-in r.descriptors t first in
    let found : IsNamed (r ∷ rs) t = record { request = 0; place = z.0; named_by = r; descriptor = z.1; request_at = refl; descriptor_at = z.2; token_is = z.3 } in found)
    (λ (later : Contains (tokens_named rs) t).
    let z = named-by rs t later in
    let found : IsNamed (r ∷ rs) t = record {
      request = suc z.request;
      place = z.place;
      named_by = z.named_by;
      descriptor = z.descriptor;
      request_at = z.request_at;
      descriptor_at = z.descriptor_at;
      token_is = z.token_is;
    } in found)
    (Contains-append_cases (map token_of_descriptor r.descriptors) (tokens_named rs) t h)

-- a descriptor that the client knows of is one of a load
pub known-load : (workers count n : ℕ) (kind : CopyKind) (p : Pasts) (pages : List PageState) (cs ss : List WorkerState) (d : Descriptor) → 1 ≤ workers → count ≤ 256
    → AreCoupled workers count p pages cs ss → IsServer kind p.server → JobsAnswered p.client
    → slice_get (descriptors_on (token_of_descriptor d).page p.client) n ≡ Some d → HasLoad (all_events (client_lists workers p)) (token_of_descriptor d)
known-load workers count n kind p pages cs ss d some few a served answered at =
    let page = (token_of_descriptor d).page in
    let found = got_of_map load_descriptor (loads_on page p.pool) n d
    (prefix-get (descriptors_on page p.client) (map load_descriptor (loads_on page p.pool)) n d (known-loads workers count page kind p pages cs ss some few a served answered) at) in
    let l = found.0 in
    let token : l.token ≡ token_at page n = placed-run count p.pool pages a.run page n l found.1 in
    let number : d.token ≡ number_of (token_at page n) = ap (λ (x : Descriptor). x.token) found.2 ∙ ap (λ (t : PageToken). number_of t) token in
    let same : token_of_descriptor d ≡ token_at page n = made d.token n number in
    subst (λ (t : PageToken). HasLoad (all_events (client_lists workers p)) t) (token ∙ sym same) (has-load workers count page n kind p pages cs ss l some few a served found.1)
  where
    pair : (q g m : ℕ) → g ≡ m → ◌≡◌ {A = PageToken} (record { page = q; generation = g }) (record { page = q; generation = m })
    pair q g m e = rw e refl

    made : (number n : ℕ) → number ≡ number_of (token_at (number % 256) n) → ◌≡◌ {A = PageToken} (record { page = number % 256; generation = number / 256 }) (token_at (number % 256) n)
    made number n e = pair (number % 256) (number / 256) (n + 1) (let z : number / 256 ≡ n + 1 = omega (arith, e) in z)

-- ---- Unloads

pub unload-named : (works : List Work) (n : ℕ) (t : PageToken) → slice_get works n ≡ Some (Unload t) → Contains (tokens_unloaded works) t
unfolding token_unloaded
unload-named [] n t at = absurd (let b : ⊥ = cc in b)
unload-named (w ∷ works) zero t at =
    Contains-append_left (token_unloaded w) (tokens_unloaded works) t
    (subst (λ (x : Work). Contains (token_unloaded x) t) (let is : Unload t ≡ w = cc in is) (0, (let z : 0 < 1 = omega arith in z), refl))
unload-named (w ∷ works) (suc n) t at = Contains-append_right (token_unloaded w) (tokens_unloaded works) t (unload-named works n t at)
