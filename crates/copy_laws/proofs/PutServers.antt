-- A put over registered pages, whole.
use Rattle.std.proofs.Common.{◌≡◌, ℕ, zero, suc, ◌+◌, ◌<◌, ◌≤◌, ◌==◌, ◌&&◌, Bool, true, false, cond, is_none, Option, Some, None, List, [], ◌∷◌, ◌++◌, length, take, map, option_map, count_by, refl, sym, ap, ◌∙◌, subst, arith, ⊎_elim, Contains}
use Rattle.std.specs.Prelude.{slice_get}
use Rattle.std.specs.List.{flat_map}
use mathlib.Core.List.{IsPrefix}
use Rattle.std.proofs.lemmas.Bool.Decides.{nat_tests}
use Rattle.std.proofs.lemmas.List.{append-nil}
use Rattle.std.proofs.lemmas.List.Elements.{Contains-append_right, Contains-append_cases}
use Rattle.std.proofs.lemmas.List.Concat.{flat_map-append}
use Rattle.smbd_base.specs.declared.right.Right.{Right}
use Rattle.smbd_base.specs.declared.right.Right.TheVariants as right
use Rattle.smbd_base.specs.declared.page_event.PageEvent.{PageEvent}
use Rattle.smbd_base.specs.declared.page_event.PageEvent.TheVariants as events
use Rattle.smbd_base.specs.Tokens.{PageToken, number_of}
use Rattle.smbd_base.specs.Pages.{PageState, page_in, whole_page, part_of}
use Rattle.smbd_base.specs.PagesFit.{PagesFit, all_events, is_load_of}
use Rattle.smbd_base.proofs.EventLists.{count-some, is_token-yes, is_token-true, token-is}
use Rattle.smbd_base.proofs.PagesFitLaws.{lists-fit}
use Rattle.buffer_descriptor.specs.declared.descriptor.Descriptor.{Descriptor}
use Rattle.file_messages.specs.declared.kind.CopyKind.TheVariants as kinds
use Rattle.file_messages.specs.declared.kind.Channel.{Channel}
use Rattle.file_messages.specs.declared.kind.Channel.TheVariants as channels
use Rattle.file_messages.specs.declared.message.Request.{Request}
use Rattle.file_messages.specs.declared.job.Work.{Work}
use Rattle.file_messages.specs.declared.job.Work.TheVariants.{Load, Fetch, Place, Unload}
use Rattle.file_messages.specs.declared.job.WorkResult.{WorkResult}
use Rattle.file_messages.specs.declared.job.WorkResult.TheVariants.{Fetched}
use Rattle.file_messages.specs.declared.job.Completion.{Completion}
use Rattle.file_messages.specs.Messages.{READ, request_bytes}
use Rattle.file_messages.specs.Runs.{write_of, windows, groups_of, writes_from, end_request, end_if, put_requests, replies_to}
use Rattle.file_messages.specs.Written.{IsCopyable, IsPool}
use Rattle.file_messages.proofs.WrittenCopies.{puts_read}
use Rattle.file_pasts.specs.ClientPast.{groups_in, is_ended, requests_sent, token_of_descriptor}
use Rattle.file_pasts.specs.PutDue.{IsPut}
use Rattle.file_pasts.specs.PutLaws.{put_over, bytes_in}
use Rattle.file_pasts.specs.PutPages.{tokens_named}
use Rattle.file_pasts.specs.Groups.{AreShort}
use Rattle.file_pasts.specs.InStep.{count}
use Rattle.file_pasts.specs.ServerDue.{ServerEvent, Asked, Filled, Gave, Completed, Replied, Stored, replies, requests, source_for, source_in_hand, standing_status, IsServer}
use Rattle.file_pasts.specs.ServerLaws.{messages_asked, works_given, groups_given, jobs_needed, AsksFor, NothingRefused, FillsFrom, GroupsNamed}
use Rattle.file_pasts.proofs.Lists.{get_of_front, prefix_before}
use Rattle.file_pasts.proofs.InStep.{count-append}
use Rattle.file_pasts.proofs.Naming.{all_short, registered_puts_name}
use Rattle.file_pasts.proofs.PutLaw.{groups_joined}
use Rattle.file_pasts.proofs.ServerReplies.{serves, servers_reply}
use Rattle.file_pasts.proofs.ServerJobs.{servers_fetch}
use Rattle.file_pasts.proofs.ServerGroups.{put_servers_store}
use Rattle.remote_access.specs.Covers.{place_in_page}
use Rattle.page_workers.specs.Jobs.{IsDoneBy}
use Rattle.page_workers.specs.Workers.{WorkerState}
use Rattle.copy_laws.specs.ClientDone.{JobsAnswered}
use Rattle.copy_laws.specs.ServerDone.{completions_taken}
use Rattle.copy_laws.specs.Coupled.{Pasts, AreCoupled}
use Rattle.copy_laws.specs.PagesOfCopies.{IsPartUnder, IsPutServerEvent, is_fetch_under}
use Rattle.copy_laws.specs.Laws.{client_lists, server_lists, AreBetween, PutComesTo, RegisteredPutsCome}
use Rattle.copy_laws.proofs.Eaches.{Each, each-append, each-at, each-front}
use Rattle.copy_laws.proofs.Runs.{Makes, MakesAccess, makes-of}
use Rattle.copy_laws.proofs.Tokens.{prefix-trans, prefix-map, pool-tokens}
use Rattle.copy_laws.proofs.Fitting.{workers-fit}
use Rattle.copy_laws.proofs.PutClients.{put-client-events, put-named-loaded}
use Rattle.copy_laws.proofs.Handed.{IsMadeBy, HandedEvent, made-by, handed-event, named-early, answered-event}
use Rattle.copy_laws.proofs.Apart.{fetches, fetched-once}
use Rattle.copy_laws.proofs.Parts.{content_of, part_under, part-is, all-named}
use Rattle.copy_laws.proofs.Counted.{events-few}
use Rattle.copy_laws.proofs.PutFetches.{NamesPart, IsPartFetch, run-fetched, named-under, named-content, token-named, some-counted, FetchFits, fetches-from}
use Rattle.copy_laws.proofs.StepsLists.{each-by-place}
use Rattle.copy_laws.proofs.StepsClients.{puts-answer}
use Rattle.copy_laws.proofs.StepsRefused.{none-refused}

-- ---- no bytes are handed in for a put

abbrev pub IsNoRead : Request → Type 0
IsNoRead r = (r.op == READ) ≡ false

write-no-read : (channel : Channel) (w k offset : ℕ) (g : List ℕ) → IsNoRead (write_of channel w k offset g)
write-no-read channels.None w k offset g = refl
write-no-read channels.V1 w k offset g = refl

pub no-reads : (channel : Channel) (w k offset : ℕ) (groups : List (List ℕ)) → Each IsNoRead (writes_from channel w k offset groups)
no-reads channel w k offset [] = tt
no-reads channel w k offset (g ∷ groups) = (write-no-read channel w k offset g, no-reads channel w (k + 1) (offset + length g) groups)

pub no-end-read : (k offset : ℕ) (ended : Bool) → Each IsNoRead (end_if ended (end_request k offset))
no-end-read k offset true = (refl, tt)
no-end-read k offset false = tt

never-wanted : (r : Request) (past : List ServerEvent) (most : ℕ) → IsNoRead r → source_for (Some r) past ≡ Some most → ⊥
never-wanted r past most no_read h = by_test (r.op == READ) no_read h where
  by_test : (t : Bool) → t ≡ false → cond ((t && (standing_status past == 0)) && is_none (source_in_hand past)) (Some r.length) None ≡ Some most → ⊥
  by_test true e k = cc
  by_test false e k = cc

pub put-fills : (bytes : List ℕ) (run : List Request) (past : List ServerEvent) → Each IsNoRead run → IsServer kinds.Put past → AsksFor run past → NothingRefused past → FillsFrom kinds.Put bytes past
put-fills bytes run [] no_read p a n = tt
put-fills bytes run (Asked m ∷ past) no_read p a n = put-fills bytes run past no_read p.1 (record { asked = prefix_before (messages_asked past) m _ a.asked; read = a.read }) n
put-fills bytes run (Filled b ∷ past) no_read p a n =
    let before : AsksFor run past = record { asked = a.asked; read = a.read } in
    let fills = put-fills bytes run past no_read p.1 before n in
    let s = serves kinds.Put bytes run past p.1 before n fills in (
      (λ r is.
          let at : slice_get run (length (replies past)) ≡ Some r =
          get_of_front (length (requests kinds.Put past).accepted) run (length (replies past)) r (ap (λ (rs : List Request). slice_get rs (length (replies past))) (sym s.accepted) ∙ is) in
          absurd (never-wanted r past p.0.0 (each-at IsNoRead run (length (replies past)) r no_read at) (ap (λ (o : Option Request). source_for o past) (sym is) ∙ p.0.1))),
      fills,
    )
put-fills bytes run (Gave work ∷ past) no_read p a n = put-fills bytes run past no_read p.1 (record { asked = a.asked; read = a.read }) n
put-fills bytes run (Completed c ∷ past) no_read p a n = put-fills bytes run past no_read p.1 (record { asked = a.asked; read = a.read }) n.1
put-fills bytes run (Replied r ∷ past) no_read p a n = put-fills bytes run past no_read p.1 (record { asked = a.asked; read = a.read }) n
put-fills bytes run (Stored b ∷ past) no_read p a n = put-fills bytes run past no_read p.1 (record { asked = a.asked; read = a.read }) n

-- ---- what a request of a put needs

abbrev NeedsFetches : List ℕ → Request → Type 0
NeedsFetches bytes r = jobs_needed bytes r ≡ map (λ (d : Descriptor). Fetch d) r.descriptors

writes-need : (bytes : List ℕ) (w k offset : ℕ) (groups : List (List ℕ)) → Each (NeedsFetches bytes) (writes_from channels.V1 w k offset groups)
writes-need bytes w k offset [] = tt
writes-need bytes w k offset (g ∷ groups) = (refl, writes-need bytes w (k + 1) (offset + length g) groups)

end-needs : (bytes : List ℕ) (k offset : ℕ) (ended : Bool) → Each (NeedsFetches bytes) (end_if ended (end_request k offset))
end-needs bytes k offset true = (refl, tt)
end-needs bytes k offset false = tt

fetch-at : (ds : List Descriptor) (i : ℕ) (d : Descriptor) → slice_get ds i ≡ Some d → slice_get (map (λ (x : Descriptor). Fetch x) ds) i ≡ Some (Fetch d)
fetch-at [] i d at = absurd (let b : ⊥ = cc in b)
fetch-at (x ∷ ds) zero d at = ap (λ (o : Option Descriptor). option_map (λ (y : Descriptor). Fetch y) o) at
fetch-at (x ∷ ds) (suc i) d at = fetch-at ds i d at

-- ---- the whole

module _ (workers count_is : ℕ) (p : Pasts) (pages : List PageState) (cs ss : List WorkerState) (some : 1 ≤ workers) (pool : IsPool count_is) (a : AreCoupled workers count_is p pages cs ss)
    (put : IsPut (put_over channels.V1 count_is) p.client) (served : IsServer kinds.Put p.server) (copyable : IsCopyable (bytes_in p.client)) (between : AreBetween p) where
  abbrev w : ℕ
  w = windows count_is

  abbrev all : List ℕ
  all = bytes_in p.client

  abbrev ended : Bool
  ended = is_ended p.client

  abbrev groups : List (List ℕ)
  groups = groups_in p.client

  abbrev works : List Work
  works = works_given p.server

  abbrev run : List Request
  run = put_requests channels.V1 count_is ended all

  windows-some : 0 < w
  windows-some = (let least = pool.least in omega (arith, least))

  windows-few : w ≤ 16
  windows-few = (let most = pool.most in omega (arith, most))

  groups-are : groups_of all ≡ groups
  groups-are = groups_joined (put_over channels.V1 count_is) p.client put

  short : AreShort groups
  short = all_short (put_over channels.V1 count_is) p.client put

  abbrev end : List Request
  end = end_if ended (end_request (length (groups_of all) + 1) (length all))

  run-is : run ≡ writes_from channels.V1 w 1 0 groups ++ end
  run-is = ap (λ (gs : List (List ℕ)). writes_from channels.V1 w 1 0 gs ++ end) groups-are

  answered : JobsAnswered p.client
  answered = puts-answer (put_over channels.V1 count_is) p.client put

  asked : IsPrefix (requests_sent p.client) run
  asked = registered_puts_name count_is p.client windows-some put (pool-tokens workers count_is kinds.Put p pages cs ss some pool.most a served answered)

  asks : AsksFor run p.server
  asks = record {
    asked = prefix-trans (messages_asked p.server) (map request_bytes (requests_sent p.client)) (map request_bytes run) between.to_server (prefix-map request_bytes (requests_sent p.client) run asked);
    read = puts_read channels.V1 count_is ended all pool copyable;
  }

  refused : NothingRefused p.server
  refused = none-refused kinds.Put workers count_is p pages cs ss some a served

  fills : FillsFrom kinds.Put all p.server
  fills =
      put-fills all run p.server
      (subst (λ (rs : List Request). Each IsNoRead rs) (sym run-is) (each-append IsNoRead (writes_from channels.V1 w 1 0 groups) end (no-reads channels.V1 w 1 0 groups) (no-end-read (length (groups_of all) + 1) (length all) ended)))
      served asks refused

  replied : IsPrefix (replies p.server) (replies_to all run) × (length (replies p.server) ≤ length (messages_asked p.server))
  replied = servers_reply kinds.Put all run p.server served asks refused fills

  abbrev needed : List Work
  needed = flat_map (jobs_needed all) run

  each-needed : Each (IsPartFetch w groups) needed
  each-needed =
      subst (λ (rs : List Request). Each (IsPartFetch w groups) (flat_map (jobs_needed all) rs)) (sym run-is)
      (run-fetched w (length (groups_of all) + 1) (length all) all groups ended short)

  each-work : Each (IsPartFetch w groups) works
  each-work =
      let given = (servers_fetch kinds.Put all run p.server served asks refused fills).given in
      each-front (IsPartFetch w groups) works given.0 (subst (λ (ws : List Work). Each (IsPartFetch w groups) ws) (sym given.1) each-needed)

  -- ---- the server's events

  server-made : (e : PageEvent) → Contains (all_events (server_lists workers p)) e → IsMadeBy works e
  server-made = made-by workers workers works (completions_taken p.server) p.pool ss a.servers count_is pages pool.most a.run

  fit : PagesFit 1 (client_lists workers p ++ server_lists workers p)
  fit = (workers-fit lists-fit workers count_is p pages cs ss pool.most a).fit

  abbrev both : List PageEvent
  both = all_events (client_lists workers p ++ server_lists workers p)

  both-is : both ≡ all_events (client_lists workers p) ++ all_events (server_lists workers p)
  both-is = flat_map-append (λ (list : List PageEvent). list) (client_lists workers p) (server_lists workers p)

  -- a load of a token is an event of the client's
  record LoadOf (t : PageToken) : Type 0 where
    r : Right
    loaded : List ℕ
    listed : Contains both (events.Load t r loaded)
    part : IsPartUnder w groups t loaded

  client-load : (t : PageToken) (r : Right) (loaded : List ℕ) → Contains both (events.Load t r loaded) → Contains (all_events (client_lists workers p)) (events.Load t r loaded) → LoadOf t
  client-load t right.Fetch loaded has own = record {
    r = right.Fetch;
    loaded = loaded;
    listed = has;
    part = put-client-events workers count_is w kinds.Put p pages cs ss some pool.most windows-some a put served (events.Load t right.Fetch loaded) own;
  }
  client-load t right.Place loaded has own =
      absurd (put-client-events workers count_is w kinds.Put p pages cs ss some pool.most windows-some a put served (events.Load t right.Place loaded) own)

  is-load : (t : PageToken) (e : PageEvent) → Contains both e → is_load_of t e ≡ true → LoadOf t
  is-load t (events.Load u r loaded) has set =
      let same : t ≡ u = token-is t u (is_token-true t u set) in
      let at : Contains both (events.Load t r loaded) = subst (λ (v : PageToken). Contains both (events.Load v r loaded)) (sym same) has in
      ⊎_elim
      (λ (own : Contains (all_events (client_lists workers p)) (events.Load t r loaded)). client-load t r loaded at own)
      (λ (other : Contains (all_events (server_lists workers p)) (events.Load t r loaded)). absurd (not-server r loaded (server-made (events.Load t r loaded) other)))
      (Contains-append_cases (all_events (client_lists workers p)) (all_events (server_lists workers p)) (events.Load t r loaded) (subst (λ (es : List PageEvent). Contains es (events.Load t r loaded)) both-is at))
    where
      not-fetch : (r : Right) (loaded : List ℕ) (work : Work) → IsPartFetch w groups work → Makes work (events.Load t r loaded) → ⊥
      not-fetch r loaded (Load page g b) i m = i
      not-fetch r loaded (Fetch d) i m = m
      not-fetch r loaded (Place d b) i m = i
      not-fetch r loaded (Unload x) i m = i

      not-server : (r : Right) (loaded : List ℕ) → IsMadeBy works (events.Load t r loaded) → ⊥
      not-server r loaded m = not-fetch r loaded m.work (each-at (IsPartFetch w groups) works m.n m.work each-work m.at) m.makes
  is-load t (events.Fetch u x b) has set = absurd (let z : ⊥ = cc in z)
  is-load t (events.Place u o x b) has set = absurd (let z : ⊥ = cc in z)
  is-load t (events.Unload u b) has set = absurd (let z : ⊥ = cc in z)

  -- what is fetched is what the descriptor names
  fetch-content : (d : Descriptor) (t : PageToken) (at : ℕ) (b : List ℕ) → MakesAccess d t at b → t.page < 256 → Contains (all_events (server_lists workers p)) (events.Fetch t at b)
      → b ≡ content_of w groups d
  fetch-content d t at b m below has =
      let here : Contains both (events.Fetch t at b) =
      subst (λ (es : List PageEvent). Contains es (events.Fetch t at b)) (sym both-is)
      (Contains-append_right (all_events (client_lists workers p)) (all_events (server_lists workers p)) (events.Fetch t at b) has) in
      let found = some-counted (is_load_of t) both (fit.contents.loaded (events.Fetch t at b) here) in
      let l = is-load t found.0 found.1 found.2 in
      let same : b ≡ part_of at (length b) (whole_page l.loaded) = (fit.contents.fetches t at b l.loaded l.r here l.listed).1 in
      let under : part_under w groups t ≡ l.loaded = part-is w groups t l.loaded windows-some l.part in
      let token : token_of_descriptor d ≡ t = token-named t d m.token_is below in
      same
      ∙ ap (λ (k : ℕ). part_of k (length b) (whole_page l.loaded)) m.place_is
      ∙ ap (λ (k : ℕ). part_of (place_in_page t.page d) k (whole_page l.loaded)) m.length_is
      ∙ ap (λ (x : List ℕ). part_of (place_in_page t.page d) d.length (whole_page x)) (sym under)
      ∙ ap (λ (u : PageToken). part_of (place_in_page u.page d) d.length (whole_page (part_under w groups u))) (sym token)

  by-maker : (e : PageEvent) (work : Work) → IsPartFetch w groups work → Makes work e → page_in e < 256 → Contains (all_events (server_lists workers p)) e → IsPutServerEvent w groups e
  by-maker (events.Fetch t at b) (Fetch d) i m below has =
      let n : NamesPart w groups d = i in
      let u = named-under w windows-some windows-few groups d t n m.token_is below in
      let same : b ≡ n.part = fetch-content d t at b m below has ∙ named-content w windows-some windows-few groups d n in
      (m.place_is ∙ u.1, subst (λ (x : List ℕ). IsPartUnder w groups t x) (sym same) u.0)
  by-maker (events.Load t r b) (Fetch d) i m below has = absurd m
  by-maker (events.Place t o at b) (Fetch d) i m below has = absurd m
  by-maker (events.Unload t b) (Fetch d) i m below has = absurd m
  by-maker e (Load page r b) i m below has = absurd i
  by-maker e (Place d b) i m below has = absurd i
  by-maker e (Unload t) i m below has = absurd i

  server-events : (e : PageEvent) → Contains (all_events (server_lists workers p)) e → IsPutServerEvent w groups e
  server-events e has =
      let m = server-made e has in
      by-maker e m.work (each-at (IsPartFetch w groups) works m.n m.work each-work m.at) m.makes m.below has

  -- ---- each token is fetched at most once

  needs-fetch : (t : PageToken) (work : Work) (e : PageEvent) → Makes work e → is_fetch_under t e ≡ true → fetches (number_of t) work ≡ true
  needs-fetch t (Fetch d) (events.Fetch u at b) m set =
      let same : t ≡ u = token-is t u (is_token-true t u set) in
      let number : d.token ≡ number_of t = sym m.token_is ∙ ap (λ (v : PageToken). number_of v) (sym same) in
      equal d.token (number_of t) number
    where
      equal : (x y : ℕ) → x ≡ y → (x == y) ≡ true
      equal x y h = grind (arith, nat_tests)
  needs-fetch t (Fetch d) (events.Load u r b) m set = absurd m
  needs-fetch t (Fetch d) (events.Place u o at b) m set = absurd m
  needs-fetch t (Fetch d) (events.Unload u b) m set = absurd m
  needs-fetch t (Load page r b) (events.Load u g l) m set = absurd (let z : ⊥ = cc in z)
  needs-fetch t (Load page r b) (events.Fetch u at l) m set = absurd m
  needs-fetch t (Load page r b) (events.Place u o at l) m set = absurd m
  needs-fetch t (Load page r b) (events.Unload u l) m set = absurd m
  needs-fetch t (Place d b) (events.Place u o at l) m set = absurd (let z : ⊥ = cc in z)
  needs-fetch t (Place d b) (events.Load u g l) m set = absurd m
  needs-fetch t (Place d b) (events.Fetch u at l) m set = absurd m
  needs-fetch t (Place d b) (events.Unload u l) m set = absurd m
  needs-fetch t (Unload x) (events.Unload u l) m set = absurd (let z : ⊥ = cc in z)
  needs-fetch t (Unload x) (events.Load u g l) m set = absurd m
  needs-fetch t (Unload x) (events.Fetch u at l) m set = absurd m
  needs-fetch t (Unload x) (events.Place u o at l) m set = absurd m

  once : (t : PageToken) → count_by (is_fetch_under t) (all_events (server_lists workers p)) ≤ 1
  once t =
      let f = fetches (number_of t) in
      let few = events-few (is_fetch_under t) f workers workers works (completions_taken p.server) p.pool ss (needs-fetch t) a.servers in
      let given = (servers_fetch kinds.Put all run p.server served asks refused fills).given in
      let split : count f needed ≡ count f works + count f given.0 = ap (λ (ws : List Work). count f ws) (sym given.1) ∙ count-append f works given.0 in
      let one : count f needed ≤ 1 =
      subst (λ (rs : List Request). count f (flat_map (jobs_needed all) rs) ≤ 1) (sym run-is)
      (fetched-once w windows-some windows-few all (number_of t) (length (groups_of all) + 1) (length all) ended groups short) in
      omega (arith, few, split, one)

  -- ---- what a completion tells

  fits-one : (c : Completion) (m : ℕ) → slice_get (completions_taken p.server) m ≡ Some c → FetchFits (content_of w groups) works c
  fits-one c m at d b given came = by_event h.event h.done h.listed where
    h : HandedEvent (server_lists workers p) (Fetch d) c.result
    h = handed-event workers workers works (completions_taken p.server) p.pool ss a.servers m c (Fetch d) some at given

    by_event : (e : PageEvent) → IsDoneBy (Fetch d) c.result e → Contains (all_events (server_lists workers p)) e → b ≡ content_of w groups d
    by_event e done has = by_result e (subst (λ (r : WorkResult). IsDoneBy (Fetch d) r e) came done) has where
      by_result : (e : PageEvent) → IsDoneBy (Fetch d) (Fetched b) e → Contains (all_events (server_lists workers p)) e → b ≡ content_of w groups d
      by_result (events.Fetch t x moved) i has =
          let made = server-made (events.Fetch t x moved) has in
          sym i.bytes_are ∙ fetch-content d t x moved (record { token_is = i.token_is; place_is = i.place_is; length_is = i.length_is }) made.below has
      by_result (events.Load t r l) i has = absurd i
      by_result (events.Place t o x l) i has = absurd i
      by_result (events.Unload t l) i has = absurd i

  stored : IsPrefix (groups_given p.server) (groups_of all)
  stored =
      put_servers_store channels.V1 count_is ended all (content_of w groups) p.server pool copyable served asks.asked refused fills
      (fetches-from (content_of w groups) works p.server served ([], append-nil works)
      (each-by-place (FetchFits (content_of w groups) works) (completions_taken p.server) (λ m c at. fits-one c m at)))
      (subst (λ (gs : List (List ℕ)). GroupsNamed (content_of w groups) w 1 gs) (sym groups-are) (all-named w windows-some windows-few groups short))

  -- ---- what was answered was fetched

  each-needs : Each (NeedsFetches all) run
  each-needs =
      subst (λ (rs : List Request). Each (NeedsFetches all) rs) (sym run-is)
      (each-append (NeedsFetches all) (writes_from channels.V1 w 1 0 groups) end (writes-need all w 1 0 groups) (end-needs all (length (groups_of all) + 1) (length all) ended))

  fetched : (t : PageToken) → Contains (tokens_named (take (length (replies p.server)) (requests_sent p.client))) t → 1 ≤ count_by (is_fetch_under t) (all_events (server_lists workers p))
  fetched t has =
      let x = named-early (requests_sent p.client) run (length (replies p.server)) t asked has in
      let job : slice_get (jobs_needed all x.named_by) x.place ≡ Some (Fetch x.descriptor) =
      ap (λ (ws : List Work). slice_get ws x.place) (each-at (NeedsFetches all) run x.request x.named_by each-needs x.request_at)
      ∙ fetch-at x.named_by.descriptors x.place x.descriptor x.descriptor_at in
      let came = answered-event kinds.Put all run p.server served asks refused fills workers p.pool ss some a.servers x.request x.place x.named_by (Fetch x.descriptor) x.below x.request_at job in
      let h = came.1 in
      by_event x.descriptor x.token_is h.event (makes-of (Fetch x.descriptor) came.0 h.event h.done) h.listed (server-made h.event h.listed).below
    where
      by_event : (d : Descriptor) → t ≡ token_of_descriptor d → (e : PageEvent) → Makes (Fetch d) e → Contains (all_events (server_lists workers p)) e → page_in e < 256
          → 1 ≤ count_by (is_fetch_under t) (all_events (server_lists workers p))
      by_event d named (events.Fetch u at b) m listed below =
          let same : t ≡ u = named ∙ token-named u d m.token_is below in
          count-some (is_fetch_under t) (all_events (server_lists workers p)) (events.Fetch u at b) listed
          (is_token-yes t u (record { page = ap (λ (v : PageToken). v.page) same; generation = ap (λ (v : PageToken). v.generation) same }))
      by_event d named (events.Load u r b) m listed below = absurd m
      by_event d named (events.Place u o at b) m listed below = absurd m
      by_event d named (events.Unload u b) m listed below = absurd m

  pub put-comes-to : PutComesTo workers count_is p
  put-comes-to = record {
    asked = asked;
    refused = refused;
    answered = replied.0;
    follow = replied.1;
    stored = stored;
    pages = record {
      of_clients = put-client-events workers count_is w kinds.Put p pages cs ss some pool.most windows-some a put served;
      of_servers = server-events;
      loaded = put-named-loaded workers count_is w kinds.Put p pages cs ss some pool.most windows-some a put served;
      once = once;
      fetched = fetched;
    };
  }

pub registered-puts-come : RegisteredPutsCome
registered-puts-come workers count_is p pages cs ss some pool a put served copyable between = put-comes-to workers count_is p pages cs ss some pool a put served copyable between
