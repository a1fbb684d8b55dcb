-- The lists of all workers fit together, and each event is in the list of the worker of its page.
use Rattle.std.proofs.Common.{◌≡◌, ℕ, ◌+◌, ◌%◌, ◌<◌, ◌≤◌, List, ◌++◌, ap, ◌∙◌, subst, arith, Contains}
use Rattle.smbd_base.specs.declared.page_event.PageEvent.{PageEvent}
use Rattle.smbd_base.specs.Pages.{Entry, PageState, page_in}
use Rattle.smbd_base.specs.PagesFit.{PagesFit, events_by, lists_of}
use Rattle.smbd_base.specs.PageLaws.{MakesFittingLists}
use Rattle.file_messages.specs.declared.job.Work.{Work}
use Rattle.file_messages.specs.declared.job.Completion.{Completion}
use Rattle.file_pasts.specs.ClientPast.{jobs_given}
use Rattle.file_pasts.specs.ServerLaws.{works_given}
use Rattle.page_workers.specs.Workers.{WorkerState}
use Rattle.copy_laws.specs.ClientDone.{completions_in}
use Rattle.copy_laws.specs.ServerDone.{completions_taken}
use Rattle.copy_laws.specs.Coupled.{AreWorkers}
use Rattle.copy_laws.specs.PagesOfCopies.{AreInTurn}
use Rattle.copy_laws.specs.Laws.{lists_from, client_lists, server_lists, WorkersFit}
use Rattle.copy_laws.proofs.Eaches.{Each, each-both, each-contained}
use Rattle.copy_laws.proofs.Shares.{IsShare}
use Rattle.copy_laws.proofs.Runs.{HasMaker}
use Rattle.copy_laws.proofs.Pool.{each-among}
use Rattle.copy_laws.proofs.Origins.{made-at, maker-page}
use Rattle.copy_laws.proofs.WorkerLists.{each-of-pass, list-at, lists-same, lists-split}

-- the events of one end's workers, list by list
in-turn : (workers first count : ℕ) (works : List Work) (handed : List Completion) (pool : List Entry) (pages : List PageState) (ws : List WorkerState) → count ≤ 256
    → AreWorkers workers first works handed pool ws → Each (λ (x : Entry). page_in x.event < count) pool → AreInTurn workers (lists_from first workers pool)
in-turn workers first count works handed pool pages ws few a among place list e at has =
    let found = list-at first workers place pool list at in
    let events = events_by (first + place) pool in
    let each : Each (λ (x : PageEvent). page_in x % workers ≡ place) events =
    each-both (HasMaker (IsShare workers (place + 1) works)) (λ (x : PageEvent). page_in x < count) (λ (x : PageEvent). page_in x % workers ≡ place) events
    (λ x m below. maker-page workers place works x m (omega (arith, below, few)))
    (made-at workers first place works handed pool ws a found.0) (each-of-pass (λ (x : PageEvent). page_in x < count) (first + place) pool among) in
    each-contained (λ (x : PageEvent). page_in x % workers ≡ place) events e each (subst (λ (es : List PageEvent). Contains es e) found.1 has)

pub workers-fit : MakesFittingLists → WorkersFit
workers-fit fitting workers count p pages cs ss few a =
    let among = each-among 1 count p.pool pages a.run in
    record {
      fit = subst (λ (ls : List (List PageEvent)). PagesFit 1 ls) same (fitting 1 count (omega arith) (workers + workers) p.pool pages a.run a.by);
      clients = in-turn workers 0 count (jobs_given p.client) (completions_in p.client) p.pool pages cs few a.clients among;
      servers = in-turn workers workers count (works_given p.server) (completions_taken p.server) p.pool pages ss few a.servers among;
    }
  where
    same : lists_of (workers + workers) p.pool ≡ client_lists workers p ++ server_lists workers p
    same =
        lists-same (workers + workers) p.pool ∙ lists-split 0 workers workers p.pool
        ∙ ap (λ (q : ℕ). lists_from 0 workers p.pool ++ lists_from q workers p.pool) (let z : 0 + workers ≡ workers = omega arith in z)
