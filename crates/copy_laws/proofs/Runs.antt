-- What the course of a worker says of each of its events and completions.
use Rattle.std.proofs.Common.{◌≡◌, ℕ, zero, suc, ◌==◌, Bool, true, false, cond, Option, Some, None, List, [], ◌∷◌, ◌++◌, length, map, refl, sym, ap, ◌∙◌, subst, arith, append_assoc}
use Rattle.std.specs.Prelude.{slice_get}
use mathlib.Core.List.{IsPrefix}
use Rattle.smbd_base.specs.declared.page_event.PageEvent.{PageEvent}
use Rattle.smbd_base.specs.declared.page_event.PageEvent.TheVariants as events
use Rattle.smbd_base.specs.Tokens.{PageToken, IsToken, number_of}
use Rattle.buffer_descriptor.specs.declared.descriptor.Descriptor.{Descriptor}
use Rattle.file_messages.specs.declared.job.Work.{Work}
use Rattle.file_messages.specs.declared.job.Work.TheVariants.{Load, Fetch, Place, Unload}
use Rattle.file_messages.specs.declared.job.WorkResult.{WorkResult}
use Rattle.file_messages.specs.declared.job.WorkResult.TheVariants.{Loaded, Fetched, Placed, Unloaded, Refused}
use Rattle.file_messages.specs.declared.job.Job.{Job}
use Rattle.file_messages.specs.declared.job.Completion.{Completion}
use Rattle.file_pasts.specs.ClientPast.{token_of_descriptor, loaded_by}
use Rattle.file_pasts.specs.PutPages.{load_bytes, bytes_loaded}
use Rattle.registration.specs.Regions.{descriptor_of_page}
use Rattle.remote_access.specs.Covers.{place_in_page}
use Rattle.page_workers.specs.declared.kept.Kept.{Kept}
use Rattle.page_workers.specs.declared.kept.Kept.TheVariants as keeps
use Rattle.page_workers.specs.Jobs.{IsDoneBy, IsDone}
use Rattle.page_workers.specs.Runs.{IsKept, AreLeft, JobRun}
use Rattle.copy_laws.proofs.Eaches.{Each}
use Rattle.copy_laws.proofs.Shares.{works_of}

-- ---- an event that a piece of work makes

pub record MakesLoad (page : ℕ) (bytes : List ℕ) (token : PageToken) (loaded : List ℕ) : Type 0 where
  pub lawful : IsToken token
  pub page_is : token.page ≡ page
  pub bytes_are : loaded ≡ bytes

pub record MakesAccess (d : Descriptor) (token : PageToken) (at : ℕ) (moved : List ℕ) : Type 0 where
  pub token_is : number_of token ≡ d.token
  pub place_is : at ≡ place_in_page token.page d
  pub length_is : length moved ≡ d.length

abbrev pub Makes : Work → PageEvent → Type 0
Makes (Load page r bytes) (events.Load token given loaded) = MakesLoad page bytes token loaded × (given ≡ r)
Makes (Fetch d) (events.Fetch token at bytes) = MakesAccess d token at bytes
Makes (Place d bytes) (events.Place token order at placed) = MakesAccess d token at placed × (placed ≡ bytes)
Makes (Unload t) (events.Unload of left) = of ≡ t
Makes work event = ⊥

pub makes-of : (w : Work) (r : WorkResult) (e : PageEvent) → IsDoneBy w r e → Makes w e
makes-of (Load page right bytes) (Loaded d) (events.Load token given loaded) i = (record { lawful = i.lawful; page_is = i.page_is; bytes_are = i.bytes_are }, i.right_is)
makes-of (Load page right bytes) (Loaded d) (events.Fetch t a b) i = absurd i
makes-of (Load page right bytes) (Loaded d) (events.Place t o a b) i = absurd i
makes-of (Load page right bytes) (Loaded d) (events.Unload t b) i = absurd i
makes-of (Load page right bytes) (Fetched b) e i = absurd i
makes-of (Load page right bytes) Placed e i = absurd i
makes-of (Load page right bytes) (Unloaded b) e i = absurd i
makes-of (Load page right bytes) (Refused n) e i = absurd i
makes-of (Fetch d) (Fetched bytes) (events.Fetch token at fetched) i = record { token_is = i.token_is; place_is = i.place_is; length_is = i.length_is }
makes-of (Fetch d) (Fetched bytes) (events.Load t r b) i = absurd i
makes-of (Fetch d) (Fetched bytes) (events.Place t o a b) i = absurd i
makes-of (Fetch d) (Fetched bytes) (events.Unload t b) i = absurd i
makes-of (Fetch d) (Loaded x) e i = absurd i
makes-of (Fetch d) Placed e i = absurd i
makes-of (Fetch d) (Unloaded b) e i = absurd i
makes-of (Fetch d) (Refused n) e i = absurd i
makes-of (Place d bytes) Placed (events.Place token order at placed) i = (record { token_is = i.token_is; place_is = i.place_is; length_is = i.length_is }, i.bytes_are)
makes-of (Place d bytes) Placed (events.Load t r b) i = absurd i
makes-of (Place d bytes) Placed (events.Fetch t a b) i = absurd i
makes-of (Place d bytes) Placed (events.Unload t b) i = absurd i
makes-of (Place d bytes) (Loaded x) e i = absurd i
makes-of (Place d bytes) (Fetched b) e i = absurd i
makes-of (Place d bytes) (Unloaded b) e i = absurd i
makes-of (Place d bytes) (Refused n) e i = absurd i
makes-of (Unload token) (Unloaded bytes) (events.Unload of left) i = i.token_is
makes-of (Unload token) (Unloaded bytes) (events.Load t r b) i = absurd i
makes-of (Unload token) (Unloaded bytes) (events.Fetch t a b) i = absurd i
makes-of (Unload token) (Unloaded bytes) (events.Place t o a b) i = absurd i
makes-of (Unload token) (Loaded x) e i = absurd i
makes-of (Unload token) (Fetched b) e i = absurd i
makes-of (Unload token) Placed e i = absurd i
makes-of (Unload token) (Refused n) e i = absurd i

-- ---- events and jobs, place by place

abbrev pub MadeBy : List PageEvent → List Job → Type 0
MadeBy [] jobs = Unit {0}
MadeBy (e ∷ made) [] = ⊥
MadeBy (e ∷ made) (j ∷ jobs) = Makes j.work e × MadeBy made jobs

kept-made : (kept : Kept) (j : Job) (jobs : List Job) (made : List PageEvent) → IsKept kept j made → MadeBy made (j ∷ jobs)
kept-made (keeps.Fresh k) j jobs made h = subst (λ (m : List PageEvent). MadeBy m (j ∷ jobs)) (sym h.1) tt
kept-made (keeps.Loaded number token right len) j jobs made h =
    subst (λ (m : List PageEvent). MadeBy m (j ∷ jobs)) (sym h.made_is) (
      subst (λ (x : Job). Makes x.work (events.Load token right h.bytes)) (sym h.job_is) (record { lawful = h.lawful; page_is = refl; bytes_are = refl }, refl),
      tt,
    )
kept-made (keeps.Withdrawn number token) j jobs made h = subst (λ (m : List PageEvent). MadeBy m (j ∷ jobs)) (sym h.1) tt

left-made : (kept : Option Kept) (waiting jobs : List Job) (made : List PageEvent) → AreLeft kept waiting jobs made → MadeBy made jobs
left-made None waiting jobs made h = subst (λ (m : List PageEvent). MadeBy m jobs) (sym h.1) tt
left-made (Some kept) waiting [] made h = absurd h
left-made (Some kept) waiting (j ∷ jobs) made h = kept-made kept j jobs made h.0

-- each event was made by the job in its place
pub run-made : (kept : Option Kept) (waiting jobs : List Job) (sent : List Completion) (made : List PageEvent) → JobRun kept waiting jobs sent made → MadeBy made jobs
run-made kept waiting jobs [] made h = left-made kept waiting jobs made h
run-made kept waiting (j ∷ jobs) (c ∷ sent) (e ∷ made) h = (makes-of j.work c.result e h.0.done, run-made kept waiting jobs sent made h.1)
run-made kept waiting (j ∷ jobs) (c ∷ sent) [] h = absurd h
run-made kept waiting [] (c ∷ sent) made h = absurd h

-- a completion has the job and the event of its place
pub record IsDoneAt (jobs : List Job) (made : List PageEvent) (n : ℕ) (c : Completion) : Type 0 where
  pub job : Job
  pub event : PageEvent
  pub job_at : slice_get jobs n ≡ Some job
  pub event_at : slice_get made n ≡ Some event
  pub done : IsDone job c event

pub run-at : (kept : Option Kept) (waiting jobs : List Job) (sent : List Completion) (made : List PageEvent) (n : ℕ) (c : Completion)
    → JobRun kept waiting jobs sent made → slice_get sent n ≡ Some c → IsDoneAt jobs made n c
run-at kept waiting jobs [] made n c h at = absurd (let b : ⊥ = cc in b)
run-at kept waiting (j ∷ jobs) (d ∷ sent) (e ∷ made) zero c h at =
    record { job = j; event = e; job_at = refl; event_at = refl; done = subst (λ (x : Completion). IsDone j x e) (let is : d ≡ c = cc in is) h.0 }
run-at kept waiting (j ∷ jobs) (d ∷ sent) (e ∷ made) (suc n) c h at =
    let x = run-at kept waiting jobs sent made n c h.1 at in
    record { job = x.job; event = x.event; job_at = x.job_at; event_at = x.event_at; done = x.done }
run-at kept waiting (j ∷ jobs) (d ∷ sent) [] n c h at = absurd h
run-at kept waiting [] (d ∷ sent) made n c h at = absurd h

-- a job that made an event
pub record HasMaker (P : Job → Type 0) (e : PageEvent) : Type 0 where
  pub job : Job
  pub own : P job
  pub makes : Makes job.work e

pub made-each : (P : Job → Type 0) (made : List PageEvent) (jobs : List Job) → MadeBy made jobs → Each P jobs → Each (HasMaker P) made
made-each P [] jobs h p = tt
made-each P (e ∷ made) [] h p = absurd h
made-each P (e ∷ made) (j ∷ jobs) h p = (record { job = j; own = p.0; makes = h.0 }, made-each P made jobs h.1 p.1)

-- ---- the loads of a page

-- a load: its token and its bytes
pub record PageLoad : Type 0 where
  pub token : PageToken
  pub bytes : List ℕ

abbrev pub load_in : ℕ → PageEvent → List PageLoad
load_in page (events.Load token r bytes) = cond (token.page == page) ((record { token = token; bytes = bytes }) ∷ []) []
load_in page (events.Fetch token at bytes) = []
load_in page (events.Place token order at bytes) = []
load_in page (events.Unload token bytes) = []

-- those of a list of events, in its order
abbrev pub loads_in : ℕ → List PageEvent → List PageLoad
loads_in page [] = []
loads_in page (e ∷ made) = load_in page e ++ loads_in page made

abbrev pub load_size : PageLoad → List ℕ
load_size l = l.bytes

abbrev pub load_descriptor : PageLoad → Descriptor
load_descriptor l = descriptor_of_page l.token (length l.bytes)

pub loads_in-append : (page : ℕ) (xs ys : List PageEvent) → loads_in page (xs ++ ys) ≡ loads_in page xs ++ loads_in page ys
loads_in-append page [] ys = refl
loads_in-append page (e ∷ xs) ys =
    ap (λ (ls : List PageLoad). load_in page e ++ ls) (loads_in-append page xs ys) ∙ sym (append_assoc (load_in page e) (loads_in page xs) (loads_in page ys))

-- a Load's event carries the bytes of its job
makes-load : (page : ℕ) (w : Work) (e : PageEvent) → Makes w e → map load_size (load_in page e) ≡ load_bytes page w
unfolding load_bytes
makes-load page (Load p r bytes) (events.Load token given loaded) h =
    subst (λ (q : ℕ). map load_size (cond (token.page == page) ((record { token = token; bytes = loaded }) ∷ []) []) ≡ cond (q == page) (bytes ∷ []) []) h.0.page_is
    (subst (λ (b : List ℕ). map load_size (cond (token.page == page) ((record { token = token; bytes = loaded }) ∷ []) []) ≡ cond (token.page == page) (b ∷ []) []) h.0.bytes_are
    (same (token.page == page)))
  where
    same : (t : Bool) → map load_size (cond t ((record { token = token; bytes = loaded }) ∷ []) []) ≡ cond t (loaded ∷ []) []
    same true = refl
    same false = refl
makes-load page (Load p r bytes) (events.Fetch t a b) h = absurd h
makes-load page (Load p r bytes) (events.Place t o a b) h = absurd h
makes-load page (Load p r bytes) (events.Unload t b) h = absurd h
makes-load page (Fetch d) (events.Fetch t a b) h = refl
makes-load page (Fetch d) (events.Load t r b) h = absurd h
makes-load page (Fetch d) (events.Place t o a b) h = absurd h
makes-load page (Fetch d) (events.Unload t b) h = absurd h
makes-load page (Place d bytes) (events.Place t o a b) h = refl
makes-load page (Place d bytes) (events.Load t r b) h = absurd h
makes-load page (Place d bytes) (events.Fetch t a b) h = absurd h
makes-load page (Place d bytes) (events.Unload t b) h = absurd h
makes-load page (Unload x) (events.Unload t b) h = refl
makes-load page (Unload x) (events.Load t r b) h = absurd h
makes-load page (Unload x) (events.Fetch t a b) h = absurd h
makes-load page (Unload x) (events.Place t o a b) h = absurd h

map-joined : (xs ys : List PageLoad) → map load_size (xs ++ ys) ≡ map load_size xs ++ map load_size ys
map-joined [] ys = refl
map-joined (x ∷ xs) ys = ap (λ (bs : List (List ℕ)). x.bytes ∷ bs) (map-joined xs ys)

-- the loads that were made carry the bytes of the first Loads that were given
pub made-loads : (page : ℕ) (made : List PageEvent) (jobs : List Job) → MadeBy made jobs → IsPrefix (map load_size (loads_in page made)) (bytes_loaded page (works_of jobs))
unfolding bytes_loaded
made-loads page [] jobs h = (bytes_loaded page (works_of jobs), refl)
made-loads page (e ∷ made) [] h = absurd h
made-loads page (e ∷ made) (j ∷ jobs) h =
    let later = made-loads page made jobs h.1 in
    let here : map load_size (load_in page e) ≡ load_bytes page j.work = makes-load page j.work e h.0 in (
      later.0,
      ap (λ (bs : List (List ℕ)). bs ++ later.0) (map-joined (load_in page e) (loads_in page made) ∙ ap (λ (bs : List (List ℕ)). bs ++ map load_size (loads_in page made)) here)
          ∙ append_assoc (load_bytes page j.work) (map load_size (loads_in page made)) later.0
          ∙ ap (λ (bs : List (List ℕ)). load_bytes page j.work ++ bs) later.1,
    )

-- ---- the loads that completions tell of

abbrev pub loads_told : ℕ → List Completion → List Descriptor
loads_told page [] = []
loads_told page (c ∷ later) = loaded_by page c.result ++ loads_told page later

token-page : (t : PageToken) (len : ℕ) → IsToken t → (token_of_descriptor (descriptor_of_page t len)).page ≡ t.page
token-page t len l = (let below = l.page in omega (arith, below))

done-load : (page : ℕ) (w : Work) (r : WorkResult) (e : PageEvent) → IsDoneBy w r e → loaded_by page r ≡ map load_descriptor (load_in page e)
done-load page (Load p right bytes) (Loaded d) (events.Load token given loaded) i =
    let named : d ≡ descriptor_of_page token (length loaded) = i.named ∙ ap (λ (b : List ℕ). descriptor_of_page token (length b)) (sym i.bytes_are) in
    ap (λ (x : Descriptor). loaded_by page (Loaded x)) named
    ∙ by_test ((token_of_descriptor (descriptor_of_page token (length loaded))).page == page) (token.page == page) (ap (λ (q : ℕ). q == page) (token-page token (length loaded) i.lawful))
  where
    by_test : (s t : Bool) → s ≡ t → cond s (descriptor_of_page token (length loaded) ∷ []) [] ≡ map load_descriptor (cond t ((record { token = token; bytes = loaded }) ∷ []) [])
    by_test true true h = refl
    by_test false false h = refl
    by_test true false h = absurd (let b : ⊥ = cc in b)
    by_test false true h = absurd (let b : ⊥ = cc in b)
done-load page (Load p right bytes) (Loaded d) (events.Fetch t a b) i = absurd i
done-load page (Load p right bytes) (Loaded d) (events.Place t o a b) i = absurd i
done-load page (Load p right bytes) (Loaded d) (events.Unload t b) i = absurd i
done-load page (Load p right bytes) (Fetched b) e i = absurd i
done-load page (Load p right bytes) Placed e i = absurd i
done-load page (Load p right bytes) (Unloaded b) e i = absurd i
done-load page (Load p right bytes) (Refused n) e i = absurd i
done-load page (Fetch d) (Fetched bytes) (events.Fetch token at fetched) i = refl
done-load page (Fetch d) (Fetched bytes) (events.Load t r b) i = absurd i
done-load page (Fetch d) (Fetched bytes) (events.Place t o a b) i = absurd i
done-load page (Fetch d) (Fetched bytes) (events.Unload t b) i = absurd i
done-load page (Fetch d) (Loaded x) e i = absurd i
done-load page (Fetch d) Placed e i = absurd i
done-load page (Fetch d) (Unloaded b) e i = absurd i
done-load page (Fetch d) (Refused n) e i = absurd i
done-load page (Place d bytes) Placed (events.Place token order at placed) i = refl
done-load page (Place d bytes) Placed (events.Load t r b) i = absurd i
done-load page (Place d bytes) Placed (events.Fetch t a b) i = absurd i
done-load page (Place d bytes) Placed (events.Unload t b) i = absurd i
done-load page (Place d bytes) (Loaded x) e i = absurd i
done-load page (Place d bytes) (Fetched b) e i = absurd i
done-load page (Place d bytes) (Unloaded b) e i = absurd i
done-load page (Place d bytes) (Refused n) e i = absurd i
done-load page (Unload token) (Unloaded bytes) (events.Unload of left) i = refl
done-load page (Unload token) (Unloaded bytes) (events.Load t r b) i = absurd i
done-load page (Unload token) (Unloaded bytes) (events.Fetch t a b) i = absurd i
done-load page (Unload token) (Unloaded bytes) (events.Place t o a b) i = absurd i
done-load page (Unload token) (Loaded x) e i = absurd i
done-load page (Unload token) (Fetched b) e i = absurd i
done-load page (Unload token) Placed e i = absurd i
done-load page (Unload token) (Refused n) e i = absurd i

descriptors-joined : (xs ys : List PageLoad) → map load_descriptor (xs ++ ys) ≡ map load_descriptor xs ++ map load_descriptor ys
descriptors-joined [] ys = refl
descriptors-joined (x ∷ xs) ys = ap (λ (ds : List Descriptor). load_descriptor x ∷ ds) (descriptors-joined xs ys)

-- completions tell the first of the loads that were made
pub run-loads : (page : ℕ) (kept : Option Kept) (waiting jobs : List Job) (sent : List Completion) (made : List PageEvent) → JobRun kept waiting jobs sent made
    → IsPrefix (loads_told page sent) (map load_descriptor (loads_in page made))
run-loads page kept waiting jobs [] made h = (map load_descriptor (loads_in page made), refl)
run-loads page kept waiting (j ∷ jobs) (c ∷ sent) (e ∷ made) h =
    let later = run-loads page kept waiting jobs sent made h.1 in
    let here : loaded_by page c.result ≡ map load_descriptor (load_in page e) = done-load page j.work c.result e h.0.done in (
      later.0,
      append_assoc (loaded_by page c.result) (loads_told page sent) later.0
          ∙ ap (λ (ds : List Descriptor). loaded_by page c.result ++ ds) later.1
          ∙ ap (λ (ds : List Descriptor). ds ++ map load_descriptor (loads_in page made)) here
          ∙ sym (descriptors-joined (load_in page e) (loads_in page made)),
    )
run-loads page kept waiting (j ∷ jobs) (c ∷ sent) [] h = absurd h
run-loads page kept waiting [] (c ∷ sent) made h = absurd h
