-- By which job each page event of a copy was made.
use Rattle.std.proofs.Common.{◌≡◌, ◌⊎◌, inl, inr, ℕ, ◌+◌, ◌-◌, ◌%◌, ◌<◌, ◌≤◌, ◌==◌, Bool, true, false, cond, Option, Some, None, List, [], ◌∷◌, ◌++◌, map, reverse, refl, sym, ap, ◌∙◌, subst, arith, ⊎_elim}
use Rattle.std.proofs.lemmas.Bool.{cases_eq, cases_lt}
use Rattle.std.proofs.lemmas.Bool.Decides.{nat_tests}
use Rattle.smbd_base.specs.declared.page_event.PageEvent.{PageEvent}
use Rattle.smbd_base.specs.declared.page_event.PageEvent.TheVariants as events
use Rattle.smbd_base.specs.Tokens.{PageToken}
use Rattle.smbd_base.specs.Pages.{Entry, PageState, page_in}
use Rattle.smbd_base.specs.PagesFit.{events_by}
use Rattle.buffer_descriptor.specs.declared.descriptor.Descriptor.{Descriptor}
use Rattle.file_messages.specs.declared.kind.CopyKind.{CopyKind}
use Rattle.file_messages.specs.declared.message.Request.{Request}
use Rattle.file_messages.specs.declared.job.Work.{Work}
use Rattle.file_messages.specs.declared.job.Work.TheVariants.{Load, Fetch, Place, Unload}
use Rattle.file_messages.specs.declared.job.Completion.{Completion}
use Rattle.file_messages.specs.Messages.{WRITE, READ}
use Rattle.file_pasts.specs.ClientPast.{jobs_given}
use Rattle.file_pasts.specs.ServerDue.{ServerEvent, Asked, Filled, Gave, Completed, Replied, Stored, jobs_in_hand, jobs_due, jobs_of, jobs_if_handled, handled, standing_status, places_of, places_in_hand, source_in_hand, IsServer}
use Rattle.file_pasts.specs.ServerLaws.{works_given}
use Rattle.file_pasts.proofs.ServerJobs.{gave_place}
use Rattle.page_workers.specs.Turns.{page_of_work}
use Rattle.page_workers.specs.Laws.{IsOfServer}
use Rattle.page_workers.specs.Runs.{JobRun}
use Rattle.page_workers.specs.Workers.{WorkerState}
use Rattle.copy_laws.specs.Shares.{is_for, jobs_for, completions_of}
use Rattle.copy_laws.specs.ClientDone.{completions_in}
use Rattle.copy_laws.specs.ServerDone.{completions_taken}
use Rattle.copy_laws.specs.Coupled.{Pasts, AreWorkers, AreCoupled}
use Rattle.copy_laws.proofs.Eaches.{Each, each-append, each-weaker, each-both, each-reversed, each-at}
use Rattle.copy_laws.proofs.StepsLists.{get-here}
use Rattle.copy_laws.proofs.Shares.{IsShare, each-share}
use Rattle.copy_laws.proofs.Runs.{Makes, HasMaker, run-made, made-each, load_in}
use Rattle.copy_laws.proofs.Pool.{each-entry, each-among, load-other, LoadsBy}

-- ---- the worker of a place

-- what the worker of a place did, whichever it is
pub record DidAt (workers first place : ℕ) (works : List Work) (handed : List Completion) (pool : List Entry) : Type 0 where
  pub worker : WorkerState
  pub did : JobRun worker.kept worker.waiting (jobs_for workers (place + 1) 0 works) (completions_of workers (place + 1) works handed ++ worker.done) (reverse (events_by (first + place) pool))

pub did-at : (workers first place : ℕ) (works : List Work) (handed : List Completion) (pool : List Entry) (ws : List WorkerState) → AreWorkers workers first works handed pool ws → place < workers
    → DidAt workers first place works handed pool
did-at workers first place works handed pool ws a below =
    let x = get-here ws place (omega (arith, below, a.count)) in
    record { worker = x.0; did = (a.each place x.0 x.1).did }

-- each event of a worker's list was made by one of its jobs
pub made-at : (workers first place : ℕ) (works : List Work) (handed : List Completion) (pool : List Entry) (ws : List WorkerState) → AreWorkers workers first works handed pool ws → place < workers
    → Each (HasMaker (IsShare workers (place + 1) works)) (events_by (first + place) pool)
made-at workers first place works handed pool ws a below =
    let x = did-at workers first place works handed pool ws a below in
    let jobs = jobs_for workers (place + 1) 0 works in
    let made = reverse (events_by (first + place) pool) in
    let by = run-made x.worker.kept x.worker.waiting jobs (completions_of workers (place + 1) works handed ++ x.worker.done) made x.did in
    each-reversed (HasMaker (IsShare workers (place + 1) works)) (events_by (first + place) pool)
    (made-each (IsShare workers (place + 1) works) made jobs by (each-share workers (place + 1) works))

-- ---- an event, and its maker: a job of the client's, or of the server's

pub record IsMadeAt (workers first q : ℕ) (works : List Work) (e : PageEvent) : Type 0 where
  pub place : ℕ
  pub below : place < workers
  pub pass : q ≡ first + place
  pub maker : HasMaker (IsShare workers (place + 1) works) e

abbrev pub IsMade : ℕ → List Work → List Work → ℕ → PageEvent → Type 0
IsMade workers client server q e = IsMadeAt workers 0 q client e ⊎ IsMadeAt workers workers q server e

pub each-made : (workers count : ℕ) (p : Pasts) (pages : List PageState) (cs ss : List WorkerState) → AreCoupled workers count p pages cs ss
    → Each (λ (e : Entry). IsMade workers (jobs_given p.client) (works_given p.server) e.pass e.event) p.pool
each-made workers count p pages cs ss a =
    each-entry (λ (q : ℕ) (e : PageEvent). IsMade workers (jobs_given p.client) (works_given p.server) q e) (workers + workers) p.pool a.by by_pass
  where
    client : (q : ℕ) → q < workers → Each (IsMade workers (jobs_given p.client) (works_given p.server) q) (events_by q p.pool)
    client q below =
        each-weaker (HasMaker (IsShare workers (q + 1) (jobs_given p.client))) (IsMade workers (jobs_given p.client) (works_given p.server) q) (events_by q p.pool)
        (λ e m. inl (record { place = q; below = below; pass = (let z : q ≡ 0 + q = omega arith in z); maker = m }))
        (subst (λ (k : ℕ). Each (HasMaker (IsShare workers (q + 1) (jobs_given p.client))) (events_by k p.pool)) (let z : 0 + q ≡ q = omega arith in z)
        (made-at workers 0 q (jobs_given p.client) (completions_in p.client) p.pool cs a.clients below))

    server : (q place : ℕ) → place < workers → q ≡ workers + place → Each (IsMade workers (jobs_given p.client) (works_given p.server) q) (events_by q p.pool)
    server q place below is =
        each-weaker (HasMaker (IsShare workers (place + 1) (works_given p.server))) (IsMade workers (jobs_given p.client) (works_given p.server) q) (events_by q p.pool)
        (λ e m. inr (record { place = place; below = below; pass = is; maker = m }))
        (subst (λ (k : ℕ). Each (HasMaker (IsShare workers (place + 1) (works_given p.server))) (events_by k p.pool)) (sym is)
        (made-at workers workers place (works_given p.server) (completions_taken p.server) p.pool ss a.servers below))

    by_pass : (q : ℕ) → q < workers + workers → Each (IsMade workers (jobs_given p.client) (works_given p.server) q) (events_by q p.pool)
    by_pass q h =
        ⊎_elim (λ (a : q < workers). client q a)
        (λ (b : workers ≤ q). server q (q - workers) (let x : q - workers < workers = omega (arith, b, h) in x) (let x : q ≡ workers + (q - workers) = omega (arith, b) in x))
        (cases_lt q workers)

-- ---- the page of an event is that of its job

makes-page : (w : Work) (e : PageEvent) → Makes w e → page_in e < 256 → page_of_work w ≡ page_in e
makes-page (Load page r bytes) (events.Load token given loaded) h below = sym h.0.page_is
makes-page (Load p r bytes) (events.Fetch t a b) h below = absurd h
makes-page (Load p r bytes) (events.Place t o a b) h below = absurd h
makes-page (Load p r bytes) (events.Unload t b) h below = absurd h
makes-page (Fetch d) (events.Fetch t a b) h below = (let is = h.token_is in let z : d.token % 256 ≡ t.page = omega (arith, is, below) in z)
makes-page (Fetch d) (events.Load t r b) h below = absurd h
makes-page (Fetch d) (events.Place t o a b) h below = absurd h
makes-page (Fetch d) (events.Unload t b) h below = absurd h
makes-page (Place d bytes) (events.Place t o a b) h below = (let is = h.0.token_is in let z : d.token % 256 ≡ t.page = omega (arith, is, below) in z)
makes-page (Place d bytes) (events.Load t r b) h below = absurd h
makes-page (Place d bytes) (events.Fetch t a b) h below = absurd h
makes-page (Place d bytes) (events.Unload t b) h below = absurd h
makes-page (Unload x) (events.Unload t b) h below = ap (λ (u : PageToken). u.page) (sym h)
makes-page (Unload x) (events.Load t r b) h below = absurd h
makes-page (Unload x) (events.Fetch t a b) h below = absurd h
makes-page (Unload x) (events.Place t o a b) h below = absurd h

own-page : (workers place : ℕ) (w : Work) → is_for workers (place + 1) w ≡ true → page_of_work w % workers ≡ place
own-page workers place w h =
    let same : page_of_work w % workers + 1 ≡ place + 1 = equal (page_of_work w % workers + 1) (place + 1) h in
    omega (arith, same)
  where
    equal : (a b : ℕ) → (a == b) ≡ true → a ≡ b
    equal a b e = grind (arith, nat_tests)

-- an event is on a page of its worker
pub maker-page : (workers place : ℕ) (works : List Work) (e : PageEvent) → HasMaker (IsShare workers (place + 1) works) e → page_in e < 256 → page_in e % workers ≡ place
maker-page workers place works e m below =
    ap (λ (q : ℕ). q % workers) (sym (makes-page m.job.work e m.makes below)) ∙ own-page workers place m.job.work m.own.own

-- ---- a server's jobs are Fetches and Places

of-fetches : (ds : List Descriptor) → Each IsOfServer (map (λ (d : Descriptor). Fetch d) ds)
of-fetches [] = tt
of-fetches (d ∷ ds) = (tt, of-fetches ds)

of-places : (ds : List Descriptor) (bytes : List ℕ) → Each IsOfServer (places_of ds bytes)
of-places [] bytes = tt
of-places (d ∷ ds) [] = tt
of-places (d ∷ ds) (b ∷ bytes) = (tt, of-places ds _)

of-hand : (r : Request) (o : Option (List ℕ)) → Each IsOfServer (places_in_hand r o)
of-hand r None = tt
of-hand r (Some bytes) = of-places r.descriptors bytes

of-due : (kind : CopyKind) (o : Option Request) (past : List ServerEvent) → Each IsOfServer (jobs_if_handled kind o past)
of-due kind None past = tt
of-due kind (Some r) past = by_status (standing_status past == 0) where
  by_read : (t : Bool) → Each IsOfServer (cond t (places_in_hand r (source_in_hand past)) [])
  by_read true = of-hand r (source_in_hand past)
  by_read false = tt

  by_write : (t : Bool) → Each IsOfServer (cond t (map (λ (d : Descriptor). Fetch d) r.descriptors) (cond (r.op == READ) (places_in_hand r (source_in_hand past)) []))
  by_write true = of-fetches r.descriptors
  by_write false = by_read (r.op == READ)

  by_status : (t : Bool) → Each IsOfServer (cond t (jobs_of r past) [])
  by_status true = by_write (r.op == WRITE)
  by_status false = tt

pub server-works : (kind : CopyKind) (past : List ServerEvent) → IsServer kind past → Each IsOfServer (works_given past)
server-works kind [] h = tt
server-works kind (Asked m ∷ past) h = server-works kind past h.1
server-works kind (Filled b ∷ past) h = server-works kind past h.1
server-works kind (Gave w ∷ past) h =
    each-append IsOfServer (works_given past) (w ∷ []) (server-works kind past h.1)
    (each-at IsOfServer (jobs_due kind past) (jobs_in_hand past) w (of-due kind (handled kind past) past) (gave_place kind w past h.0), tt)
server-works kind (Completed c ∷ past) h = server-works kind past h.1
server-works kind (Replied r ∷ past) h = server-works kind past h.1
server-works kind (Stored b ∷ past) h = server-works kind past h.1

-- ---- loads are the client's

pub no-load : (page : ℕ) (w : Work) (e : PageEvent) → IsOfServer w → Makes w e → load_in page e ≡ []
no-load page (Load p r b) e s h = absurd s
no-load page (Fetch d) (events.Fetch t a b) s h = refl
no-load page (Fetch d) (events.Load t r b) s h = absurd h
no-load page (Fetch d) (events.Place t o a b) s h = absurd h
no-load page (Fetch d) (events.Unload t b) s h = absurd h
no-load page (Place d bytes) (events.Place t o a b) s h = refl
no-load page (Place d bytes) (events.Load t r b) s h = absurd h
no-load page (Place d bytes) (events.Fetch t a b) s h = absurd h
no-load page (Place d bytes) (events.Unload t b) s h = absurd h
no-load page (Unload t) e s h = absurd s

-- an event that is a load of the page is on it
load-here : (page : ℕ) (e : PageEvent) → (load_in page e ≡ [] → ⊥) → page_in e ≡ page
load-here page e some = ⊎_elim (λ (here : page_in e ≡ page). here) (λ (other : page_in e ≡ page → ⊥). absurd (some (load-other page e other))) (cases_eq (page_in e) page)

pub each-loads-by : (workers count page : ℕ) (kind : CopyKind) (p : Pasts) (pages : List PageState) (cs ss : List WorkerState) → count ≤ 256 → AreCoupled workers count p pages cs ss
    → IsServer kind p.server → Each (LoadsBy page (page % workers)) p.pool
each-loads-by workers count page kind p pages cs ss few a served =
    each-both (λ (e : Entry). IsMade workers (jobs_given p.client) (works_given p.server) e.pass e.event) (λ (e : Entry). page_in e.event < count) (LoadsBy page (page % workers)) p.pool
    by_maker (each-made workers count p pages cs ss a) (each-among 1 count p.pool pages a.run)
  where
    of_server : Each IsOfServer (works_given p.server)
    of_server = server-works kind p.server served

    by_maker : (e : Entry) → IsMade workers (jobs_given p.client) (works_given p.server) e.pass e.event → page_in e.event < count → LoadsBy page (page % workers) e
    by_maker e (inl m) below some =
        let on : page_in e.event % workers ≡ m.place = maker-page workers m.place (jobs_given p.client) e.event m.maker (omega (arith, below, few)) in
        let at = m.pass in
        subst (λ (q : ℕ). e.pass ≡ q % workers) (load-here page e.event some) (let z : e.pass ≡ page_in e.event % workers = omega (arith, on, at) in z)
    by_maker e (inr m) below some =
        absurd (some (no-load page m.maker.job.work e.event (each-at IsOfServer (works_given p.server) m.maker.job.number m.maker.job.work of_server m.maker.own.at) m.maker.makes))
