-- A get over registered pages, whole.
use Rattle.std.proofs.Common.{◌≡◌, ℕ, zero, suc, ◌+◌, ◌-◌, ◌*◌, ◌/◌, ◌%◌, ◌<◌, ◌≤◌, ◌==◌, nat_lt, ◌&&◌, Bool, true, false, cond, Some, List, [], ◌∷◌, ◌++◌, length, take, drop, map, count_by, refl, sym, ap, ◌∙◌, subst, arith, ⊎_elim, ◌⊎◌, inl, inr, Contains}
use Rattle.std.specs.Prelude.{slice_get, replicate}
use Rattle.std.specs.List.{flat_map}
use mathlib.Core.List.{IsPrefix}
use Rattle.std.proofs.lemmas.Bool.Decides.{nat_tests}
use Rattle.std.proofs.lemmas.List.{append-nil, length-take, length-replicate, take-replicate}
use Rattle.std.proofs.lemmas.List.Elements.{Contains-append_left, Contains-append_right, Contains-append_cases}
use Rattle.std.proofs.lemmas.List.Concat.{flat_map-append}
use Rattle.smbd_base.specs.declared.right.Right.{Right}
use Rattle.smbd_base.specs.declared.right.Right.TheVariants as right
use Rattle.smbd_base.specs.declared.page_event.PageEvent.{PageEvent}
use Rattle.smbd_base.specs.declared.page_event.PageEvent.TheVariants as events
use Rattle.smbd_base.specs.Tokens.{PageToken, number_of}
use Rattle.smbd_base.specs.Pages.{PageState, page_in, whole_page, overlaid}
use Rattle.smbd_base.specs.PagesFit.{PagesFit, all_events, is_token, is_load_of, is_place_under, is_place_at, IsPlacedOver}
use Rattle.smbd_base.proofs.EventLists.{count-some, count-none, is_token-yes, is_token-true, token-is}
use Rattle.smbd_base.proofs.PagesFitLaws.{lists-fit}
use Rattle.buffer_descriptor.specs.declared.descriptor.Descriptor.{Descriptor}
use Rattle.file_messages.specs.declared.kind.CopyKind.TheVariants as kinds
use Rattle.file_messages.specs.declared.kind.Channel.TheVariants as channels
use Rattle.file_messages.specs.declared.message.Request.{Request}
use Rattle.file_messages.specs.declared.job.Work.{Work}
use Rattle.file_messages.specs.declared.job.Work.TheVariants.{Load, Fetch, Place, Unload}
use Rattle.file_messages.specs.declared.job.WorkResult.{WorkResult}
use Rattle.file_messages.specs.declared.job.WorkResult.TheVariants.{Loaded, Fetched, Placed, Unloaded, Refused}
use Rattle.file_messages.specs.declared.job.Completion.{Completion}
use Rattle.file_messages.specs.Messages.{request_bytes}
use Rattle.file_messages.specs.Runs.{groups_of, reads_count, read_of, read_descriptors, end_request, get_requests, replies_to}
use Rattle.file_messages.specs.Written.{IsCopyable, IsPool}
use Rattle.file_messages.proofs.WrittenCopies.{gets_read}
use Rattle.file_pasts.specs.ClientPast.{requests_sent, jobs_given, token_of_descriptor}
use Rattle.file_pasts.specs.PutTokens.{HasPoolTokens}
use Rattle.file_pasts.specs.PutPages.{tokens_named}
use Rattle.file_pasts.specs.GetDue.{page_bytes, IsGet}
use Rattle.file_pasts.specs.GetLaws.{replies_in, IsAnswered, groups_taken}
use Rattle.file_pasts.specs.GetReceives.{page_with, page_placed}
use Rattle.file_pasts.specs.InStep.{count}
use Rattle.file_pasts.specs.ServerDue.{replies, IsServer}
use Rattle.file_pasts.specs.ServerLaws.{messages_asked, works_given, jobs_needed, AsksFor, NothingRefused, FillsFrom}
use Rattle.file_pasts.proofs.InStep.{count-append}
use Rattle.file_pasts.proofs.GetLaw.{RunCase, run_case, registered_gets_ask}
use Rattle.file_pasts.proofs.GetRounds.{registered_gets_receive}
use Rattle.file_pasts.proofs.ServerReplies.{servers_reply}
use Rattle.file_pasts.proofs.ServerJobs.{servers_fetch}
use Rattle.page_workers.specs.Jobs.{IsDoneBy}
use Rattle.page_workers.specs.Workers.{WorkerState}
use Rattle.copy_laws.specs.ClientDone.{completions_in}
use Rattle.copy_laws.specs.ServerDone.{completions_taken}
use Rattle.copy_laws.specs.Coupled.{Pasts, AreCoupled}
use Rattle.copy_laws.specs.PagesOfCopies.{part_read, IsGetClientEvent, IsGetServerEvent}
use Rattle.copy_laws.specs.Laws.{client_lists, server_lists, AreBetween, GetComesTo, RegisteredGetsCome}
use Rattle.copy_laws.proofs.Eaches.{Each, each-at, each-front}
use Rattle.copy_laws.proofs.Runs.{Makes, makes-of}
use Rattle.copy_laws.proofs.Tokens.{prefix-trans, prefix-map, pool-tokens}
use Rattle.copy_laws.proofs.Fitting.{workers-fit}
use Rattle.copy_laws.proofs.Counted.{count-joined, events-few}
use Rattle.copy_laws.proofs.Heard.{heard, heard-few, longer-front, named-front}
use Rattle.copy_laws.proofs.Handed.{IsMadeBy, HandedEvent, made-by, handed-event, named-early, answered-event}
use Rattle.copy_laws.proofs.PutFetches.{some-counted}
use Rattle.copy_laws.proofs.GetPlaces.{token_read, IsGetPlace, run-places, places, placed-once, HasPlace, has-place, descriptor-read, placed-under}
use Rattle.copy_laws.proofs.GetClients.{get-client-events, get-named-loaded, UnloadBrings, unloads-bring}
use Rattle.copy_laws.proofs.StepsLists.{each-by-place}
use Rattle.copy_laws.proofs.StepsClients.{gets-answer}
use Rattle.copy_laws.proofs.StepsRefused.{none-refused}

-- ---- a page of zeros, and what is placed in it

abbrev zeros : List ℕ
zeros = replicate 4096 0

whole-full : (bytes : List ℕ) → length bytes ≡ 4096 → whole_page bytes ≡ bytes
unfolding whole_page
whole-full bytes h = ap (λ (n : ℕ). bytes ++ replicate n 0) (let z : 4096 - length bytes ≡ 0 = omega (arith, h) in z) ∙ append-nil bytes

whole-zeros : whole_page zeros ≡ zeros
whole-zeros = whole-full zeros (length-replicate {A = ℕ} 4096 0)

over-zeros : (part : List ℕ) (n tail : ℕ) → length part ≤ n → n ≤ tail → part ++ drop (length part) (replicate n 0) ≡ take n (part ++ replicate tail 0)
over-zeros [] n tail few h = sym (take-replicate n tail 0 h)
over-zeros (x ∷ part) zero tail few h = absurd (omega (arith, few))
over-zeros (x ∷ part) (suc n) tail few h = ap (λ (xs : List ℕ). x ∷ xs) (over-zeros part n tail (omega (arith, few)) (omega (arith, h)))

placed-over : (part : List ℕ) → length part ≤ 4096 → overlaid 0 part zeros ≡ page_with part
placed-over part few =
    ap (λ (n : ℕ). part ++ drop n zeros) (let z : 0 + length part ≡ length part = omega arith in z) ∙ over-zeros part 4096 4096 few (omega arith)

none-placed : zeros ≡ page_with []
none-placed = sym (take-replicate 4096 4096 0 (omega arith))

nothing-in : (xs : List ℕ) → length xs ≡ 0 → xs ≡ []
nothing-in [] h = refl
nothing-in (x ∷ xs) h = absurd (omega (arith, h))

-- ---- events

-- a Place of the part of its token
abbrev IsPlaceOfPart : List ℕ → PageEvent → Type 0
IsPlaceOfPart bytes (events.Load t r loaded) = ⊥
IsPlaceOfPart bytes (events.Fetch t at fetched) = ⊥
IsPlaceOfPart bytes (events.Place t order at placed) = (at ≡ 0) × (placed ≡ part_read bytes t) × (1 ≤ length placed)
IsPlaceOfPart bytes (events.Unload t left) = ⊥

makes-part : (bytes : List ℕ) (e : PageEvent) (work : Work) → IsGetPlace bytes work → Makes work e → page_in e < 256 → IsPlaceOfPart bytes e
makes-part bytes (events.Place t order at placed) (Place d part) i m below =
    let u = placed-under bytes d part t i m.0.token_is below in
    (m.0.place_is ∙ u.1, m.1 ∙ u.0, subst (λ (xs : List ℕ). 1 ≤ length xs) (sym m.1) i.some)
makes-part bytes (events.Load t r b) (Place d part) i m below = absurd m
makes-part bytes (events.Fetch t at b) (Place d part) i m below = absurd m
makes-part bytes (events.Unload t b) (Place d part) i m below = absurd m
makes-part bytes e (Load page r b) i m below = absurd i
makes-part bytes e (Fetch d) i m below = absurd i
makes-part bytes e (Unload t) i m below = absurd i

equal : (x y : ℕ) → x ≡ y → (x == y) ≡ true
equal x y h = grind (arith, nat_tests)

-- a Place under a token is made by a job that names the token's number
needs-place : (t : PageToken) (work : Work) (e : PageEvent) → Makes work e → is_place_under t e ≡ true → places (number_of t) work ≡ true
needs-place t (Place d b) (events.Place u order at placed) m set =
    let same : t ≡ u = token-is t u (is_token-true t u set) in
    equal d.token (number_of t) (sym m.0.token_is ∙ ap (λ (v : PageToken). number_of v) (sym same))
needs-place t (Place d b) (events.Load u g l) m set = absurd m
needs-place t (Place d b) (events.Fetch u at l) m set = absurd m
needs-place t (Place d b) (events.Unload u l) m set = absurd m
needs-place t (Fetch d) (events.Fetch u at b) m set = absurd (let z : ⊥ = cc in z)
needs-place t (Fetch d) (events.Load u r b) m set = absurd m
needs-place t (Fetch d) (events.Place u o at b) m set = absurd m
needs-place t (Fetch d) (events.Unload u b) m set = absurd m
needs-place t (Load page r b) (events.Load u g l) m set = absurd (let z : ⊥ = cc in z)
needs-place t (Load page r b) (events.Fetch u at l) m set = absurd m
needs-place t (Load page r b) (events.Place u o at l) m set = absurd m
needs-place t (Load page r b) (events.Unload u l) m set = absurd m
needs-place t (Unload x) (events.Unload u l) m set = absurd (let z : ⊥ = cc in z)
needs-place t (Unload x) (events.Load u g l) m set = absurd m
needs-place t (Unload x) (events.Fetch u at l) m set = absurd m
needs-place t (Unload x) (events.Place u o at l) m set = absurd m

-- a client's event is no Place
no-place : (heard : List Request) (t : PageToken) (e : PageEvent) → IsGetClientEvent heard e → is_place_under t e ≡ false
no-place heard t (events.Load u r b) h = refl
no-place heard t (events.Fetch u at b) h = refl
no-place heard t (events.Place u o at b) h = absurd h
no-place heard t (events.Unload u b) h = refl

-- ---- the whole

module _ (workers count_is : ℕ) (p : Pasts) (pages : List PageState) (cs ss : List WorkerState) (bytes : List ℕ) (some : 1 ≤ workers) (pool : IsPool count_is)
    (a : AreCoupled workers count_is p pages cs ss) (get : IsGet channels.V1 p.client) (served : IsServer kinds.Get p.server) (copyable : IsCopyable bytes)
    (fills : FillsFrom kinds.Get bytes p.server) (between : AreBetween p) (told : IsAnswered channels.V1 bytes p.client) where
  abbrev works : List Work
  works = works_given p.server

  abbrev run : List Request
  run = get_requests channels.V1 bytes

  tokens : HasPoolTokens p.client
  tokens = pool-tokens workers count_is kinds.Get p pages cs ss some pool.most a served (gets-answer channels.V1 p.client get)

  asked : IsPrefix (requests_sent p.client) run
  asked = registered_gets_ask bytes p.client copyable get tokens told

  asks : AsksFor run p.server
  asks = record {
    asked = prefix-trans (messages_asked p.server) (map request_bytes (requests_sent p.client)) (map request_bytes run) between.to_server (prefix-map request_bytes (requests_sent p.client) run asked);
    read = gets_read channels.V1 bytes copyable;
  }

  refused : NothingRefused p.server
  refused = none-refused kinds.Get workers count_is p pages cs ss some a served

  replied : IsPrefix (replies p.server) (replies_to bytes run) × (length (replies p.server) ≤ length (messages_asked p.server))
  replied = servers_reply kinds.Get bytes run p.server served asks refused fills

  abbrev needed : List Work
  needed = flat_map (jobs_needed bytes) run

  given : IsPrefix works needed
  given = (servers_fetch kinds.Get bytes run p.server served asks refused fills).given

  each-work : Each (IsGetPlace bytes) works
  each-work = each-front (IsGetPlace bytes) works given.0 (subst (λ (ws : List Work). Each (IsGetPlace bytes) ws) (sym given.1) (run-places bytes))

  -- ---- the events of both ends

  abbrev clients : List PageEvent
  clients = all_events (client_lists workers p)

  abbrev servers : List PageEvent
  servers = all_events (server_lists workers p)

  abbrev both : List PageEvent
  both = all_events (client_lists workers p ++ server_lists workers p)

  both-is : both ≡ clients ++ servers
  both-is = flat_map-append (λ (list : List PageEvent). list) (client_lists workers p) (server_lists workers p)

  of-client : (e : PageEvent) → Contains clients e → Contains both e
  of-client e has = subst (λ (es : List PageEvent). Contains es e) (sym both-is) (Contains-append_left clients servers e has)

  of-server : (e : PageEvent) → Contains servers e → Contains both e
  of-server e has = subst (λ (es : List PageEvent). Contains es e) (sym both-is) (Contains-append_right clients servers e has)

  by-end : (e : PageEvent) → Contains both e → Contains clients e ⊎ Contains servers e
  by-end e has = Contains-append_cases clients servers e (subst (λ (es : List PageEvent). Contains es e) both-is has)

  fit : PagesFit 1 (client_lists workers p ++ server_lists workers p)
  fit = (workers-fit lists-fit workers count_is p pages cs ss pool.most a).fit

  client-event : (e : PageEvent) → Contains clients e → IsGetClientEvent (heard p.client) e
  client-event = get-client-events workers count_is p pages cs ss some pool.most a get

  server-made : (e : PageEvent) → Contains servers e → IsMadeBy works e
  server-made = made-by workers workers works (completions_taken p.server) p.pool ss a.servers count_is pages pool.most a.run

  server-places : (e : PageEvent) → Contains servers e → IsPlaceOfPart bytes e
  server-places e has =
      let m = server-made e has in
      makes-part bytes e m.work (each-at (IsGetPlace bytes) works m.n m.work each-work m.at) m.makes m.below

  -- ---- at most one Place is under a token

  once : (t : PageToken) → count_by (is_place_under t) servers ≤ 1
  once t =
      let f = places (number_of t) in
      let few = events-few (is_place_under t) f workers workers works (completions_taken p.server) p.pool ss (needs-place t) a.servers in
      let split : count f needed ≡ count f works + count f given.0 = ap (λ (ws : List Work). count f ws) (sym given.1) ∙ count-append f works given.0 in
      let one = placed-once bytes (number_of t) in
      omega (arith, few, split, one)

  all-servers : (t : PageToken) → count_by (is_place_under t) both ≡ count_by (is_place_under t) servers
  all-servers t =
      let none : count_by (is_place_under t) clients ≡ 0 = count-none (is_place_under t) clients (λ e has. no-place (heard p.client) t e (client-event e has)) in
      let sum : count_by (is_place_under t) both ≡ count_by (is_place_under t) clients + count_by (is_place_under t) servers =
      ap (λ (es : List PageEvent). count_by (is_place_under t) es) both-is ∙ count-joined (is_place_under t) clients servers in
      omega (arith, none, sum)

  -- so it is the first one
  is-first : (t : PageToken) (order at : ℕ) (placed : List ℕ) → Contains both (events.Place t order at placed) → order ≡ 0
  is-first t order at placed has = by_test (nat_lt order (count_by (is_place_under t) both)) refl (fit.contents.orders t order) where
    yes : (x y : Bool) → x ≡ true → y ≡ true → (x && y) ≡ true
    yes x y h k = rw (h, k) refl

    here : 1 ≤ count_by (is_place_at t order) both
    here =
        count-some (is_place_at t order) both (events.Place t order at placed) has
        (yes (is_token t t) (order == order) (is_token-yes t t (record { page = refl; generation = refl })) (equal order order refl))

    by_test : (b : Bool) → nat_lt order (count_by (is_place_under t) both) ≡ b → count_by (is_place_at t order) both ≡ cond b 1 0 → order ≡ 0
    by_test true less h =
        let below : order < count_by (is_place_under t) both = grind (arith, nat_tests) in
        omega (arith, below, all-servers t, once t)
    by_test false less h = absurd (let z : count_by (is_place_at t order) both ≡ 0 = h in omega (arith, here, z))

  server-event : (e : PageEvent) → Contains servers e → IsGetServerEvent bytes e
  server-event e has = by_event e has (server-places e has) where
    by_event : (e : PageEvent) → Contains servers e → IsPlaceOfPart bytes e → IsGetServerEvent bytes e
    by_event (events.Place t order at placed) has i = (is-first t order at placed (of-server (events.Place t order at placed) has), i.0, i.1, i.2)
    by_event (events.Load t r b) has i = absurd i
    by_event (events.Fetch t at b) has i = absurd i
    by_event (events.Unload t b) has i = absurd i

  -- ---- what was answered was placed

  placed : (t : PageToken) → Contains (tokens_named (take (length (replies p.server)) (requests_sent p.client))) t → 1 ≤ length (part_read bytes t)
      → 1 ≤ count_by (is_place_under t) servers
  unfolding RunCase
  placed t has part =
      let x = named-early (requests_sent p.client) run (length (replies p.server)) t asked has in
      ⊎_elim
      (λ (read : (x.request < reads_count bytes) × (x.named_by ≡ read_of channels.V1 (x.request + 1))).
      by_read x.request x.place x.named_by x.descriptor x.below x.request_at read.1 (ap (λ (r : Request). slice_get r.descriptors x.place) (sym read.1) ∙ x.descriptor_at) x.token_is)
      (λ (end : (x.request ≡ reads_count bytes) × (x.named_by ≡ end_request (reads_count bytes + 1) (length bytes))).
      absurd (nothing x.place x.descriptor (ap (λ (r : Request). slice_get r.descriptors x.place) (sym end.1) ∙ x.descriptor_at)))
      (run_case channels.V1 bytes x.request x.named_by x.request_at)
    where
      nothing : (i : ℕ) (d : Descriptor) → slice_get [] i ≡ Some d → ⊥
      nothing i d h = cc

      by_event : (d : Descriptor) (b : List ℕ) (e : PageEvent) → d.token ≡ number_of t → t.page < 16 → Makes (Place d b) e → Contains servers e → page_in e < 256
          → 1 ≤ count_by (is_place_under t) servers
      by_event d b (events.Place u order at moved) number small m listed below =
          let named : number_of u ≡ number_of t = m.0.token_is ∙ number in
          let page : t.page ≡ u.page = omega (arith, named, small, below) in
          let generation : t.generation ≡ u.generation = omega (arith, named, small, below) in
          count-some (is_place_under t) servers (events.Place u order at moved) listed (is_token-yes t u (record { page = page; generation = generation }))
      by_event d b (events.Load u r l) number small m listed below = absurd m
      by_event d b (events.Fetch u at l) number small m listed below = absurd m
      by_event d b (events.Unload u l) number small m listed below = absurd m

      by_place : (k i : ℕ) (r : Request) → k < length (replies p.server) → slice_get run k ≡ Some r → r ≡ read_of channels.V1 (k + 1) → t ≡ token_read (k + 1) i → t.page < 16
          → HasPlace bytes (k + 1) i → 1 ≤ count_by (is_place_under t) servers
      by_place k i r less at read same small place =
          let job : slice_get (jobs_needed bytes r) i ≡ Some (Place place.descriptor place.placed) = ap (λ (q : Request). slice_get (jobs_needed bytes q) i) read ∙ place.at in
          let came = answered-event kinds.Get bytes run p.server served asks refused fills workers p.pool ss some a.servers k i r (Place place.descriptor place.placed) less at job in
          let h = came.1 in
          by_event place.descriptor place.placed h.event (place.token_is ∙ ap (λ (u : PageToken). number_of u) (sym same)) small
          (makes-of (Place place.descriptor place.placed) came.0 h.event h.done) h.listed (server-made h.event h.listed).below

      by_read : (k i : ℕ) (r : Request) (d : Descriptor) → k < length (replies p.server) → slice_get run k ≡ Some r → r ≡ read_of channels.V1 (k + 1)
          → slice_get (read_descriptors 16 0 (k + 1)) i ≡ Some d → t ≡ token_of_descriptor d → 1 ≤ count_by (is_place_under t) servers
      by_read k i r d less at read named token =
          let known = descriptor-read 16 0 (k + 1) i d named in
          let below = known.0 in
          let number : d.token ≡ (k + 1 - 1 + 1) * 256 + (0 + i) = ap (λ (y : Descriptor). y.token) known.1 in
          let t_page : t.page ≡ d.token % 256 = ap (λ (u : PageToken). u.page) token in
          let t_generation : t.generation ≡ d.token / 256 = ap (λ (u : PageToken). u.generation) token in
          let page : t.page ≡ i = omega (arith, t_page, number, below) in
          let generation : t.generation ≡ k + 1 = omega (arith, t_generation, number, below) in
          let same : t ≡ token_read (k + 1) i = token-is t (token_read (k + 1) i) (record { page = page; generation = generation }) in
          by_place k i r less at read same (omega (arith, page, below)) (has-place bytes (k + 1) i (omega arith) below (subst (λ (u : PageToken). 1 ≤ length (part_read bytes u)) same part))

  -- ---- what an Unload brings

  -- a load of a token is of zeros
  record LoadOf (t : PageToken) : Type 0 where
    r : Right
    listed : Contains both (events.Load t r zeros)

  is-load : (t : PageToken) (e : PageEvent) → Contains both e → is_load_of t e ≡ true → LoadOf t
  is-load t (events.Load u r loaded) has set =
      let same : t ≡ u = token-is t u (is_token-true t u set) in
      let at : Contains both (events.Load t r loaded) = subst (λ (v : PageToken). Contains both (events.Load v r loaded)) (sym same) has in
      ⊎_elim
      (λ (own : Contains clients (events.Load t r loaded)). by_right r at (client-event (events.Load t r loaded) own))
      (λ (other : Contains servers (events.Load t r loaded)). absurd (server-places (events.Load t r loaded) other))
      (by-end (events.Load t r loaded) at)
    where
      by_right : (r : Right) → Contains both (events.Load t r loaded) → IsGetClientEvent (heard p.client) (events.Load t r loaded) → LoadOf t
      by_right right.Place at i = record { r = right.Place; listed = subst (λ (xs : List ℕ). Contains both (events.Load t right.Place xs)) i.1 at }
      by_right right.Fetch at i = absurd i
  is-load t (events.Fetch u x b) has set = absurd (let z : ⊥ = cc in z)
  is-load t (events.Place u o x b) has set = absurd (let z : ⊥ = cc in z)
  is-load t (events.Unload u b) has set = absurd (let z : ⊥ = cc in z)

  -- a token that the client heard of was answered
  was-answered : (t : PageToken) (b : List ℕ) → Contains clients (events.Unload t b) → Contains (tokens_named (take (length (replies p.server)) (requests_sent p.client))) t
  was-answered t b has =
      named-front (heard p.client) (take (length (replies p.server)) (requests_sent p.client)) t
      (longer-front (length (replies_in p.client)) (length (replies p.server)) (requests_sent p.client) (heard-few p between))
      (client-event (events.Unload t b) has)

  -- the bytes over which so many Places were made
  by-count : (t : PageToken) (b : List ℕ) (n : ℕ) → Contains clients (events.Unload t b) → count_by (is_place_under t) both ≡ n → IsPlacedOver both t (whole_page zeros) n b → b ≡ page_placed bytes t
  by-count t b zero has is over =
      let none : length (part_read bytes t) ≡ 0 = by_length (length (part_read bytes t)) refl in
      over ∙ whole-zeros ∙ none-placed ∙ ap (λ (part : List ℕ). page_with part) (sym (nothing-in (part_read bytes t) none))
    where
      by_length : (k : ℕ) → length (part_read bytes t) ≡ k → k ≡ 0
      by_length zero e = refl
      by_length (suc k) e =
          let there : 1 ≤ count_by (is_place_under t) servers = placed t (was-answered t b has) (omega (arith, e)) in
          absurd (omega (arith, there, is, all-servers t))
  by-count t b (suc zero) has is over =
      let at = over.0 in
      let part = over.1 in
      let i = by_side at part (by-end (events.Place t 0 at part) over.3) in
      over.5
      ∙ ap (λ (xs : List ℕ). overlaid at part xs) (over.4 ∙ whole-zeros)
      ∙ ap (λ (n : ℕ). overlaid n part zeros) i.0
      ∙ ap (λ (xs : List ℕ). overlaid 0 xs zeros) i.1
      ∙ placed-over (part_read bytes t) (let short = length-take 4096 (drop (65536 * (t.generation - 1) + 4096 * t.page) bytes) in omega (arith, short))
    where
      by_side : (at : ℕ) (part : List ℕ) → Contains clients (events.Place t 0 at part) ⊎ Contains servers (events.Place t 0 at part) → (at ≡ 0) × (part ≡ part_read bytes t)
      by_side at part (inl own) = absurd (client-event (events.Place t 0 at part) own)
      by_side at part (inr other) = (let i = server-places (events.Place t 0 at part) other in (i.0, i.1))
  by-count t b (suc (suc n)) has is over = absurd (omega (arith, is, all-servers t, once t))

  brought : (t : PageToken) (b : List ℕ) → Contains clients (events.Unload t b) → b ≡ page_placed bytes t
  brought t b has =
      let here = of-client (events.Unload t b) has in
      let found = some-counted (is_load_of t) both (fit.contents.loaded (events.Unload t b) here) in
      let l = is-load t found.0 found.1 found.2 in
      by-count t b (count_by (is_place_under t) both) has refl (fit.contents.contents t b zeros l.r here l.listed)

  pub brings-one : (c : Completion) (m : ℕ) → slice_get (completions_in p.client) m ≡ Some c → UnloadBrings (page_placed bytes) (jobs_given p.client) c
  brings-one c m at t job = by_event c.result h.event h.done h.listed where
    h : HandedEvent (client_lists workers p) (Unload t) c.result
    h = handed-event workers 0 (jobs_given p.client) (completions_in p.client) p.pool cs a.clients m c (Unload t) some at job

    by_event : (r : WorkResult) (e : PageEvent) → IsDoneBy (Unload t) r e → Contains clients e → page_bytes r ≡ page_placed bytes t
    by_event (Unloaded b) (events.Unload of left) i has =
        sym i.bytes_are ∙ brought t left (subst (λ (u : PageToken). Contains clients (events.Unload u left)) i.token_is has)
    by_event (Unloaded b) (events.Load u r l) i has = absurd i
    by_event (Unloaded b) (events.Fetch u x l) i has = absurd i
    by_event (Unloaded b) (events.Place u o x l) i has = absurd i
    by_event (Loaded d) e i has = absurd i
    by_event (Fetched b) e i has = absurd i
    by_event Placed e i has = absurd i
    by_event (Refused n) e i has = absurd i

  received : IsPrefix (groups_taken p.client) (groups_of bytes)
  received =
      registered_gets_receive bytes p.client copyable get tokens told
      (unloads-bring (page_placed bytes) (jobs_given p.client) p.client ([], append-nil (jobs_given p.client))
      (each-by-place (UnloadBrings (page_placed bytes) (jobs_given p.client)) (completions_in p.client) (λ m c at. brings-one c m at)))

  pub get-comes-to : GetComesTo workers bytes p
  get-comes-to = record {
    asked = asked;
    refused = refused;
    answered = replied.0;
    follow = replied.1;
    received = received;
    pages = record {
      of_clients = client-event;
      of_servers = server-event;
      loaded = get-named-loaded workers count_is p pages cs ss some pool.most a get kinds.Get served;
      once = once;
      placed = placed;
    };
  }

pub registered-gets-come : RegisteredGetsCome
registered-gets-come workers count_is p pages cs ss bytes some pool a get served copyable fills between told =
    get-comes-to workers count_is p pages cs ss bytes some pool a get served copyable fills between told
