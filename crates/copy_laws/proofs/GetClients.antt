-- The page events of the client of a get, and what its Unloads bring.
use Rattle.std.proofs.Common.{◌≡◌, ℕ, zero, suc, ◌+◌, ◌<◌, ◌≤◌, not, ◌||◌, Bool, true, false, cond, Option, Some, None, option_map, List, [], ◌∷◌, length, refl, sym, ap, ◌∙◌, subst, ⊎_elim, Contains}
use Rattle.std.specs.Prelude.{slice_get}
use mathlib.Core.List.{IsPrefix}
use Rattle.smbd_base.specs.declared.right.Right.{Right}
use Rattle.smbd_base.specs.declared.right.Right.TheVariants as right
use Rattle.smbd_base.specs.declared.page_event.PageEvent.{PageEvent}
use Rattle.smbd_base.specs.declared.page_event.PageEvent.TheVariants as events
use Rattle.smbd_base.specs.Tokens.{PageToken}
use Rattle.smbd_base.specs.Pages.{PageState}
use Rattle.smbd_base.specs.PagesFit.{all_events, HasLoad}
use Rattle.buffer_descriptor.specs.declared.descriptor.Descriptor.{Descriptor}
use Rattle.file_messages.specs.declared.kind.CopyKind.{CopyKind}
use Rattle.file_messages.specs.declared.kind.Channel.TheVariants as channels
use Rattle.file_messages.specs.declared.message.Request.{Request}
use Rattle.file_messages.specs.declared.job.Work.{Work}
use Rattle.file_messages.specs.declared.job.Work.TheVariants.{Load, Fetch, Place, Unload}
use Rattle.file_messages.specs.declared.job.Completion.{Completion}
use Rattle.file_messages.specs.Runs.{end_request}
use Rattle.file_pasts.specs.ClientPast.{ClientEvent, Group, End, Sent, Replied, Gave, Completed, Received, requests_sent, jobs_given, descriptors_on, loaded_by, token_of_descriptor, has_failed}
use Rattle.file_pasts.specs.PutDue.{in_front}
use Rattle.file_pasts.specs.PutPages.{tokens_named}
use Rattle.file_pasts.specs.GetDue.{sent, counts_taken, sum_of, goes_on, has_ended, is_between_rounds, descriptors_loaded, read_request, read_due, next_request, page_bytes, IsGet}
use Rattle.file_pasts.specs.GetLaws.{IsGetJob, AreGetJobs}
use Rattle.file_pasts.specs.GetPagesBack.{UnloadsBring}
use Rattle.file_pasts.specs.ServerDue.{IsServer}
use Rattle.file_pasts.proofs.Lists.{get_in_front, get_last}
use Rattle.file_pasts.proofs.NamedPages.{on_page, on_page-at}
use Rattle.file_pasts.proofs.GetPages.{jobs_of_a_get, get_unloads_follow}
use Rattle.page_workers.specs.Workers.{WorkerState}
use Rattle.copy_laws.specs.ClientDone.{completions_in}
use Rattle.copy_laws.specs.Coupled.{Pasts, AreCoupled}
use Rattle.copy_laws.specs.PagesOfCopies.{IsGetClientEvent}
use Rattle.copy_laws.specs.Laws.{client_lists}
use Rattle.copy_laws.proofs.Eaches.{Each, each-front, each-back, each-at}
use Rattle.copy_laws.proofs.Runs.{Makes}
use Rattle.copy_laws.proofs.Tokens.{prefix-front, prefix-get, open-at}
use Rattle.copy_laws.proofs.StepsClients.{gets-answer}
use Rattle.copy_laws.proofs.Loads.{known-load, named-by}
use Rattle.copy_laws.proofs.Heard.{heard, unload-heard}
use Rattle.copy_laws.proofs.Handed.{made-by}

-- ---- a descriptor of a request that was sent is one of a load

KnowsOf : List ClientEvent → Descriptor → Type 0
KnowsOf past d = (turn : ℕ) × (slice_get (descriptors_on (token_of_descriptor d).page past) turn ≡ Some d)

found : (count page rounds : ℕ) (past : List ClientEvent) (ds : List Descriptor) (i : ℕ) (d : Descriptor) → descriptors_loaded count page rounds past ≡ Some ds
    → slice_get ds i ≡ Some d → KnowsOf past d
unfolding KnowsOf
found zero page rounds past ds i d e at = absurd (nothing ds i e at) where
  nothing : (xs : List Descriptor) (k : ℕ) → Some [] ≡ Some xs → slice_get xs k ≡ Some d → ⊥
  nothing [] k p q = cc
  nothing (x ∷ xs) k p q = cc
found (suc count) page rounds past ds i d e at =
    by_parts (slice_get (descriptors_on page past) rounds) (descriptors_loaded count (page + 1) rounds past) refl refl e i at
    (λ later k q f. found count (page + 1) rounds past later k d q f) where
      same_list : (xs ys : List Descriptor) → Some xs ≡ Some ys → xs ≡ ys
      same_list xs ys h = cc

      same_one : (x y : Descriptor) → Some x ≡ Some y → x ≡ y
      same_one x y h = cc

      by_parts : (o : Option Descriptor) (l : Option (List Descriptor)) → slice_get (descriptors_on page past) rounds ≡ o → descriptors_loaded count (page + 1) rounds past ≡ l
          → in_front o l ≡ Some ds → (k : ℕ) → slice_get ds k ≡ Some d
          → ((later : List Descriptor) (m : ℕ) → descriptors_loaded count (page + 1) rounds past ≡ Some later → slice_get later m ≡ Some d
          → (turn : ℕ) × (slice_get (descriptors_on (token_of_descriptor d).page past) turn ≡ Some d))
          → (turn : ℕ) × (slice_get (descriptors_on (token_of_descriptor d).page past) turn ≡ Some d)
      by_parts None l p q h k f ih = absurd (let b : ⊥ = cc in b)
      by_parts (Some x) None p q h k f ih = absurd (let b : ⊥ = cc in b)
      by_parts (Some x) (Some later) p q h zero f ih =
          let x_is : x ≡ d = same_one x d (ap (λ (xs : List Descriptor). slice_get xs 0) (same_list (x ∷ later) ds h) ∙ f) in
          let page_is : (token_of_descriptor d).page ≡ page = ap (λ (y : Descriptor). (token_of_descriptor y).page) (sym x_is) ∙ on_page-at page (descriptors_on page past) rounds x (on_page page past) p in
          (rounds, ap (λ (y : ℕ). slice_get (descriptors_on y past) rounds) page_is ∙ p ∙ ap (λ (y : Descriptor). Some y) x_is)
      by_parts (Some x) (Some later) p q h (suc k) f ih =
          ih later k q (ap (λ (xs : List Descriptor). slice_get xs (suc k)) (same_list (x ∷ later) ds h) ∙ f)

-- of the request that is due
due-known : (i : ℕ) (r : Request) (d : Descriptor) (past : List ClientEvent) → next_request channels.V1 past ≡ Some r → slice_get r.descriptors i ≡ Some d → KnowsOf past d
due-known i r d past e at = by_tests (has_failed past || has_ended (requests_sent past)) (not (is_between_rounds channels.V1 past)) (goes_on past) e where
  by_read : (o : Option (List Descriptor)) → descriptors_loaded 16 0 (sent past) past ≡ o
      → option_map (read_request 1 (sent past + 1) (sum_of (counts_taken past))) o ≡ Some r → KnowsOf past d
  by_read None q h = absurd (let b : ⊥ = cc in b)
  by_read (Some ds) q h =
      let r_is : read_request 1 (sent past + 1) (sum_of (counts_taken past)) ds ≡ r = cc in
      found 16 0 (sent past) past ds i d q (ap (λ (y : Request). slice_get y.descriptors i) r_is ∙ at)

  nothing : (q : Request) → q ≡ r → slice_get q.descriptors i ≡ None → ⊥
  nothing q same none = never (sym none ∙ ap (λ (y : Request). slice_get y.descriptors i) same ∙ at) where
    never : ◌≡◌ {A = Option Descriptor} None (Some d) → ⊥
    never k = cc

  by_tests : (a b c : Bool) → cond a None (cond b None (cond c (read_due channels.V1 past) (Some (end_request (sent past + 1) (sum_of (counts_taken past)))))) ≡ Some r → KnowsOf past d
  by_tests true b c h = absurd (let x : ⊥ = cc in x)
  by_tests false true c h = absurd (let x : ⊥ = cc in x)
  by_tests false false true h = by_read (descriptors_loaded 16 0 (sent past) past) refl h
  by_tests false false false h =
      let same : end_request (sent past + 1) (sum_of (counts_taken past)) ≡ r = cc in
      absurd (nothing (end_request (sent past + 1) (sum_of (counts_taken past))) same refl)

-- of each request
named-known : (k i : ℕ) (r : Request) (d : Descriptor) (past : List ClientEvent) → IsGet channels.V1 past → slice_get (requests_sent past) k ≡ Some r
    → slice_get r.descriptors i ≡ Some d → KnowsOf past d
unfolding KnowsOf
named-known k i r d [] p e at = absurd (let b : ⊥ = cc in b)
named-known k i r d (Group bytes ∷ past) p e at = absurd p.0
named-known k i r d (End ∷ past) p e at = absurd p.0
named-known k i r d (Sent s ∷ past) p e at =
    ⊎_elim
    (λ (before : slice_get (requests_sent past) k ≡ Some r). named-known k i r d past p.1 before at)
    (λ (last : (k ≡ length (requests_sent past)) × (r ≡ s)). due-known i s d past p.0 (ap (λ (y : Request). slice_get y.descriptors i) (sym last.1) ∙ at))
    (get_last (requests_sent past) s k r e)
named-known k i r d (Replied m ∷ past) p e at = named-known k i r d past p.1 e at
named-known k i r d (Gave work ∷ past) p e at = named-known k i r d past p.1 e at
named-known k i r d (Completed c ∷ past) p e at =
    let t = named-known k i r d past p.1 e at in
    (t.0, get_in_front (descriptors_on (token_of_descriptor d).page past) (loaded_by (token_of_descriptor d).page c.result) t.0 d t.1)
named-known k i r d (Received bytes ∷ past) p e at = named-known k i r d past p.1 e at

-- ---- the events

each-get : (works : List Work) → AreGetJobs works → Each IsGetJob works
each-get [] h = tt
each-get (w ∷ works) h = (h.0, each-get works h.1)

module _ (workers count : ℕ) (p : Pasts) (pages : List PageState) (cs ss : List WorkerState) (some : 1 ≤ workers) (few : count ≤ 256)
    (a : AreCoupled workers count p pages cs ss) (get : IsGet channels.V1 p.client) where
  by-maker : (n : ℕ) (work : Work) (e : PageEvent) → slice_get (jobs_given p.client) n ≡ Some work → IsGetJob work → Makes work e → IsGetClientEvent (heard p.client) e
  by-maker n (Load page right.Place bytes) (events.Load t r b) at job m =
      subst (λ (g : Right). IsGetClientEvent (heard p.client) (events.Load t g b)) (sym m.1)
      (subst (λ (q : ℕ). q < 16) (sym m.0.page_is) job.0, m.0.bytes_are ∙ job.1)
  by-maker n (Load page right.Place bytes) (events.Fetch t x b) at job m = absurd m
  by-maker n (Load page right.Place bytes) (events.Place t o x b) at job m = absurd m
  by-maker n (Load page right.Place bytes) (events.Unload t b) at job m = absurd m
  by-maker n (Load page right.Fetch bytes) e at job m = absurd job
  by-maker n (Fetch d) e at job m = absurd job
  by-maker n (Place d bytes) e at job m = absurd job
  by-maker n (Unload x) (events.Unload t b) at job m =
      unload-heard p.client n t (get_unloads_follow p.client get) (at ∙ ap (λ (u : PageToken). Some (Unload u)) (sym m))
  by-maker n (Unload x) (events.Load t r b) at job m = absurd m
  by-maker n (Unload x) (events.Fetch t y b) at job m = absurd m
  by-maker n (Unload x) (events.Place t o y b) at job m = absurd m

  pub get-client-events : (e : PageEvent) → Contains (all_events (client_lists workers p)) e → IsGetClientEvent (heard p.client) e
  get-client-events e has =
      let m = made-by workers 0 (jobs_given p.client) (completions_in p.client) p.pool cs a.clients count pages few a.run e has in
      by-maker m.n m.work e m.at (each-at IsGetJob (jobs_given p.client) m.n m.work (each-get (jobs_given p.client) (jobs_of_a_get p.client get)) m.at) m.makes

  pub get-named-loaded : (kind : CopyKind) → IsServer kind p.server → (t : PageToken) → Contains (tokens_named (requests_sent p.client)) t → HasLoad (all_events (client_lists workers p)) t
  unfolding KnowsOf
  get-named-loaded kind served t h =
      let x = named-by (requests_sent p.client) t h in
      let known = named-known x.request x.place x.named_by x.descriptor p.client get x.request_at x.descriptor_at in
      subst (λ (u : PageToken). HasLoad (all_events (client_lists workers p)) u) (sym x.token_is)
      (known-load workers count known.0 kind p pages cs ss x.descriptor some few a served (gets-answer channels.V1 p.client get) known.1)

-- ---- UnloadsBring, by what stands at each completion's number

abbrev pub UnloadBrings : (PageToken → List ℕ) → List Work → Completion → Type 0
UnloadBrings content works c = (t : PageToken) → slice_get works c.number ≡ Some (Unload t) → page_bytes c.result ≡ content t

pub unloads-bring : (content : PageToken → List ℕ) (works : List Work) (past : List ClientEvent) → IsPrefix (jobs_given past) works → Each (UnloadBrings content works) (completions_in past)
    → UnloadsBring content past
unloads-bring content works [] front h = tt
unloads-bring content works (Group bytes ∷ past) front h = unloads-bring content works past front h
unloads-bring content works (End ∷ past) front h = unloads-bring content works past front h
unloads-bring content works (Sent r ∷ past) front h = unloads-bring content works past front h
unloads-bring content works (Replied m ∷ past) front h = unloads-bring content works past front h
unloads-bring content works (Gave work ∷ past) front h = unloads-bring content works past (prefix-front (jobs_given past) (work ∷ []) works front) h
unloads-bring content works (Completed c ∷ past) front h = (
  (λ t at. (each-back (UnloadBrings content works) (completions_in past) (c ∷ []) h).0 t (prefix-get (jobs_given past) works c.number (Unload t) front (open-at past c.number (Unload t) at))),
  unloads-bring content works past front (each-front (UnloadBrings content works) (completions_in past) (c ∷ []) h),
)
unloads-bring content works (Received bytes ∷ past) front h = unloads-bring content works past front h
