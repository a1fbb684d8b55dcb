-- The page events of the client of a put.
use Rattle.std.proofs.Common.{◌≡◌, ℕ, ◌+◌, ◌-◌, ◌<◌, ◌≤◌, Some, List, [], ◌∷◌, map, sym, ap, ◌∙◌, subst, arith, Contains}
use Rattle.std.specs.Prelude.{slice_get}
use Rattle.smbd_base.specs.declared.right.Right.{Right}
use Rattle.smbd_base.specs.declared.right.Right.TheVariants as right
use Rattle.smbd_base.specs.declared.page_event.PageEvent.{PageEvent}
use Rattle.smbd_base.specs.declared.page_event.PageEvent.TheVariants as events
use Rattle.smbd_base.specs.Tokens.{PageToken}
use Rattle.smbd_base.specs.Pages.{PageState}
use Rattle.smbd_base.specs.PagesFit.{events_by, all_events, HasLoad}
use Rattle.file_messages.specs.declared.kind.CopyKind.{CopyKind}
use Rattle.file_messages.specs.declared.job.Work.{Work}
use Rattle.file_messages.specs.declared.job.Work.TheVariants.{Load, Fetch, Place, Unload}
use Rattle.file_pasts.specs.ClientPast.{groups_in, requests_sent, jobs_given}
use Rattle.file_pasts.specs.PutDue.{IsPut}
use Rattle.file_pasts.specs.PutPages.{bytes_loaded, IsPutJob, ArePutJobs, IsPartOf, tokens_named}
use Rattle.file_pasts.specs.InStep.{over}
use Rattle.file_pasts.specs.ServerDue.{IsServer}
use Rattle.file_pasts.proofs.Lists.{get_of_map}
use Rattle.file_pasts.proofs.PutPageLaws.{loads_carry, jobs_of_a_put, parts_of_groups, named_loaded, unloads_follow}
use Rattle.page_workers.specs.Workers.{WorkerState}
use Rattle.copy_laws.specs.ClientDone.{completions_in}
use Rattle.copy_laws.specs.Coupled.{Pasts, AreCoupled}
use Rattle.copy_laws.specs.PagesOfCopies.{IsPartUnder, IsPutClientEvent}
use Rattle.copy_laws.specs.Laws.{client_lists}
use Rattle.copy_laws.proofs.Eaches.{Each, each-both, each-at, each-contained}
use Rattle.copy_laws.proofs.Shares.{IsShare}
use Rattle.copy_laws.proofs.Runs.{load_size, Makes, HasMaker}
use Rattle.copy_laws.proofs.Pool.{loads_on, IsListed, each-listed}
use Rattle.copy_laws.proofs.Origins.{made-at}
use Rattle.copy_laws.proofs.Tokens.{prefix-get}
use Rattle.copy_laws.proofs.WorkerLists.{each-of-pass, each-lists}
use Rattle.copy_laws.proofs.StepsClients.{puts-answer}
use Rattle.copy_laws.proofs.Loads.{carried-loads, known-load, named-by}
use Rattle.copy_laws.proofs.Heard.{heard, unload-heard}

-- ---- the events

each-put : (works : List Work) → ArePutJobs works → Each IsPutJob works
each-put [] h = tt
each-put (w ∷ works) h = (h.0, each-put works h.1)

module _ (workers count w : ℕ) (kind : CopyKind) (p : Pasts) (pages : List PageState) (cs ss : List WorkerState) (some : 1 ≤ workers) (few : count ≤ 256) (windows : 0 < w)
    (a : AreCoupled workers count p pages cs ss) (put : IsPut (over w) p.client) (served : IsServer kind p.server) where
  part-loaded : (t : PageToken) (r : Right) (b : List ℕ) → IsListed p.pool (events.Load t r b) → IsPartUnder w (groups_in p.client) t b
  part-loaded t r b h =
      let page = t.page in
      let carried : slice_get (bytes_loaded page (jobs_given p.client)) h.0 ≡ Some b =
      prefix-get (map load_size (loads_on page p.pool)) (bytes_loaded page (jobs_given p.client)) h.0 b (carried-loads workers count page kind p pages cs ss some few a served)
      (get_of_map load_size (loads_on page p.pool) h.0 (record { token = t; bytes = b }) h.2) in
      let part = prefix-get (bytes_loaded page (jobs_given p.client)) _ h.0 b (loads_carry w page p.client put) carried in
      subst (λ (n : ℕ). IsPartOf w page n b (groups_in p.client)) (let is : t.generation ≡ h.0 + 1 = ap (λ (u : PageToken). u.generation) h.1 in let z : h.0 ≡ t.generation - 1 = omega (arith, is) in z)
      (parts_of_groups w page h.0 b p.client windows put part)

  by-maker : (n : ℕ) (work : Work) (e : PageEvent) → slice_get (jobs_given p.client) n ≡ Some work → IsPutJob work → Makes work e → IsListed p.pool e
      → IsPutClientEvent w (groups_in p.client) (heard p.client) e
  by-maker n (Load page right.Fetch bytes) (events.Load t r b) at job m l =
      subst (λ (g : Right). IsPutClientEvent w (groups_in p.client) (heard p.client) (events.Load t g b)) (sym m.1) (part-loaded t r b l)
  by-maker n (Load page right.Fetch bytes) (events.Fetch t x b) at job m l = absurd m
  by-maker n (Load page right.Fetch bytes) (events.Place t o x b) at job m l = absurd m
  by-maker n (Load page right.Fetch bytes) (events.Unload t b) at job m l = absurd m
  by-maker n (Load page right.Place bytes) e at job m l = absurd job
  by-maker n (Fetch d) e at job m l = absurd job
  by-maker n (Place d bytes) e at job m l = absurd job
  by-maker n (Unload x) (events.Unload t b) at job m l =
      unload-heard p.client n t (unloads_follow w p.client put).1 (at ∙ ap (λ (u : PageToken). Some (Unload u)) (sym m))
  by-maker n (Unload x) (events.Load t r b) at job m l = absurd m
  by-maker n (Unload x) (events.Fetch t y b) at job m l = absurd m
  by-maker n (Unload x) (events.Place t o y b) at job m l = absurd m

  pub put-client-events : (e : PageEvent) → Contains (all_events (client_lists workers p)) e → IsPutClientEvent w (groups_in p.client) (heard p.client) e
  put-client-events e has =
      each-contained (IsPutClientEvent w (groups_in p.client) (heard p.client)) (all_events (client_lists workers p)) e
      (each-lists (IsPutClientEvent w (groups_in p.client) (heard p.client)) 0 workers p.pool (λ place below.
      each-both (HasMaker (IsShare workers (place + 1) (jobs_given p.client))) (IsListed p.pool) (IsPutClientEvent w (groups_in p.client) (heard p.client)) (events_by (0 + place) p.pool)
      (λ x m l. by-maker m.job.number m.job.work x m.own.at (each-at IsPutJob (jobs_given p.client) m.job.number m.job.work jobs m.own.at) m.makes l)
      (made-at workers 0 place (jobs_given p.client) (completions_in p.client) p.pool cs a.clients below)
      (each-of-pass (IsListed p.pool) (0 + place) p.pool (each-listed count p.pool pages a.run)))) has
    where
      jobs : Each IsPutJob (jobs_given p.client)
      jobs = each-put (jobs_given p.client) (jobs_of_a_put w p.client put)

  pub put-named-loaded : (t : PageToken) → Contains (tokens_named (requests_sent p.client)) t → HasLoad (all_events (client_lists workers p)) t
  put-named-loaded t h =
      let x = named-by (requests_sent p.client) t h in
      let known = named_loaded w x.request x.place x.named_by x.descriptor p.client put x.request_at x.descriptor_at in
      subst (λ (u : PageToken). HasLoad (all_events (client_lists workers p)) u) (sym x.token_is)
      (known-load workers count known.0 kind p pages cs ss x.descriptor some few a served (puts-answer (over w) p.client put) known.1)
