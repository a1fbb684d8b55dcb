-- The workers of both ends after one of them went on.
use Rattle.std.proofs.Common.{◌≡◌, ℕ, ◌+◌, ◌<◌, Some, List, [], ◌∷◌, ◌++◌, reverse, refl, sym, ap, ◌∙◌, subst, arith, append_assoc, ⊎_elim}
use Rattle.std.specs.Prelude.{slice_get, slice_set}
use Rattle.std.proofs.lemmas.List.{append-nil, length-set}
use Rattle.smbd_base.specs.declared.page_event.PageEvent.{PageEvent}
use Rattle.smbd_base.specs.Pages.{Entry, PageState, IsPoolRun}
use Rattle.smbd_base.specs.PagesFit.{events_by, AreMadeBy}
use Rattle.smbd_base.proofs.PassLists.{events_by-here, events_by-other}
use Rattle.file_messages.specs.declared.job.Work.{Work}
use Rattle.file_messages.specs.declared.job.Completion.{Completion}
use Rattle.file_pasts.specs.ClientPast.{jobs_given}
use Rattle.file_pasts.specs.ServerLaws.{works_given}
use Rattle.file_pasts.proofs.Lists.{within}
use Rattle.registration.specs.Regions.{RegionState}
use Rattle.page_workers.specs.Runs.{JobRun}
use Rattle.page_workers.specs.Workers.{WorkerState, WentOn}
use Rattle.page_workers.specs.Laws.{with_events}
use Rattle.page_workers.proofs.JobLaws.{steps-extend}
use Rattle.copy_laws.specs.Shares.{jobs_for, completions_of}
use Rattle.copy_laws.specs.ClientDone.{completions_in}
use Rattle.copy_laws.specs.ServerDone.{completions_taken}
use Rattle.copy_laws.specs.Coupled.{IsWorker, AreWorkers}
use Rattle.copy_laws.specs.Steps.{ClientWorks, ServerWorks}
use Rattle.copy_laws.proofs.Eaches.{reverse-cons}
use Rattle.copy_laws.proofs.StepsLists.{set-cases}

-- ---- the events of a pass

pub events-own : (q pass : ℕ) (made : List PageEvent) (pool : List Entry) → pass ≡ q → reverse (events_by q (with_events pass made pool)) ≡ reverse (events_by q pool) ++ made
events-own q pass [] pool same = sym (append-nil (reverse (events_by q pool)))
events-own q pass (e ∷ made) pool same =
    events-own q pass made ((record { pass = pass; event = e }) ∷ pool) same
    ∙ ap (λ (es : List PageEvent). reverse es ++ made) (events_by-here q (record { pass = pass; event = e }) pool same)
    ∙ ap (λ (es : List PageEvent). es ++ made) (reverse-cons e (events_by q pool))
    ∙ append_assoc (reverse (events_by q pool)) (e ∷ []) made

pub events-other : (q pass : ℕ) (made : List PageEvent) (pool : List Entry) → (pass ≡ q → ⊥) → events_by q (with_events pass made pool) ≡ events_by q pool
events-other q pass [] pool other = refl
events-other q pass (e ∷ made) pool other =
    events-other q pass made ((record { pass = pass; event = e }) ∷ pool) other ∙ events_by-other q (record { pass = pass; event = e }) pool other

made-more : (seats pass : ℕ) (made : List PageEvent) (pool : List Entry) → pass < seats → AreMadeBy seats pool → AreMadeBy seats (with_events pass made pool)
made-more seats pass [] pool below by = by
made-more seats pass (e ∷ made) pool below by = made-more seats pass made ((record { pass = pass; event = e }) ∷ pool) below (below, by)

-- ---- one worker

went-own : (workers first place : ℕ) (works : List Work) (handed : List Completion) (pool : List Entry) (w v : WorkerState) (r s : RegionState) (went : WentOn w v r s)
    → IsWorker workers first place works handed pool w → IsWorker workers first place works handed (with_events w.pass went.made pool) v
went-own workers first place works handed pool w v r s went h =
    let sent : (completions_of workers (place + 1) works handed ++ w.done) ++ went.sent ≡ completions_of workers (place + 1) works handed ++ v.done =
    append_assoc (completions_of workers (place + 1) works handed) w.done went.sent
    ∙ ap (λ (cs : List Completion). completions_of workers (place + 1) works handed ++ cs) (sym went.done) in
    record {
      number = went.number ∙ h.number;
      pass = went.pass ∙ h.pass;
      did = subst (λ (cs : List Completion). JobRun v.kept v.waiting (jobs_for workers (place + 1) 0 works) cs (reverse (events_by (first + place) (with_events w.pass went.made pool)))) sent
          (subst (λ (es : List PageEvent). JobRun v.kept v.waiting (jobs_for workers (place + 1) 0 works) ((completions_of workers (place + 1) works handed ++ w.done) ++ went.sent) es)
          (sym (events-own (first + place) w.pass went.made pool h.pass))
          (went.runs (jobs_for workers (place + 1) 0 works) (completions_of workers (place + 1) works handed ++ w.done) (reverse (events_by (first + place) pool)) h.did));
    }

-- another one, whose pass isn't this one
went-other : (workers first place : ℕ) (works : List Work) (handed : List Completion) (pool : List Entry) (w : WorkerState) (pass : ℕ) (made : List PageEvent) → (pass ≡ first + place → ⊥)
    → IsWorker workers first place works handed pool w → IsWorker workers first place works handed (with_events pass made pool) w
went-other workers first place works handed pool w pass made other h = record {
  number = h.number;
  pass = h.pass;
  did = subst (λ (es : List PageEvent). JobRun w.kept w.waiting (jobs_for workers (place + 1) 0 works) (completions_of workers (place + 1) works handed ++ w.done) (reverse es))
      (sym (events-other (first + place) pass made pool other)) h.did;
}

-- ---- the workers of an end

workers-went : (workers first : ℕ) (works : List Work) (handed : List Completion) (pool : List Entry) (ws : List WorkerState) (place : ℕ) (w v : WorkerState) (r s : RegionState) (went : WentOn w v r s)
    → AreWorkers workers first works handed pool ws → slice_get ws place ≡ Some w → AreWorkers workers first works handed (with_events w.pass went.made pool) (slice_set ws place v)
workers-went workers first works handed pool ws place w v r s went h e =
    let pass_is : w.pass ≡ first + place = (h.each place w e).pass in
    record {
      count = length-set ws place v ∙ h.count;
      each = λ q y at. ⊎_elim
          (λ (here : (q ≡ place) × (y ≡ v)).
          subst (λ (z : WorkerState). IsWorker workers first q works handed (with_events w.pass went.made pool) z) (sym here.1)
          (subst (λ (n : ℕ). IsWorker workers first n works handed (with_events w.pass went.made pool) v) (sym here.0)
          (went-own workers first place works handed pool w v r s went (h.each place w e))))
          (λ (other : (q ≡ place → ⊥) × (slice_get ws q ≡ Some y)).
          went-other workers first q works handed pool y w.pass went.made (λ same. other.0 (let z : q ≡ place = omega (arith, same, pass_is) in z)) (h.each q y other.1))
          (set-cases ws place q v y at);
    }

-- those of the other end
workers-stay : (workers first : ℕ) (works : List Work) (handed : List Completion) (pool : List Entry) (ws : List WorkerState) (pass : ℕ) (made : List PageEvent)
    → ((place : ℕ) → place < workers → pass ≡ first + place → ⊥) → AreWorkers workers first works handed pool ws → AreWorkers workers first works handed (with_events pass made pool) ws
workers-stay workers first works handed pool ws pass made other h = record {
  count = h.count;
  each = λ place y at. went-other workers first place works handed pool y pass made
      (other place (subst (λ (n : ℕ). place < n) h.count (within ws place y at))) (h.each place y at);
}

-- ---- the copy

runs-on : (count pass : ℕ) (pool : List Entry) (pages : List PageState) (w v : WorkerState) (r s : RegionState) (went : WentOn w v r s) → IsPoolRun 1 count pool pages → r.pages ≡ pages
    → IsPoolRun 1 count (with_events pass went.made pool) s.pages
runs-on count pass pool pages w v r s went run same =
    steps-extend 1 count pass pool went.made r s (subst (λ (ps : List PageState). IsPoolRun 1 count pool ps) (sym same) run) went.steps

pub client-works : ClientWorks
client-works workers count p pages cs ss place w v r s h e went same =
    let pass_is : w.pass ≡ 0 + place = (h.clients.each place w e).pass in
    let below : place < workers = subst (λ (n : ℕ). place < n) h.clients.count (within cs place w e) in
    record {
      run = runs-on count w.pass p.pool pages w v r s went h.run same;
      by = made-more (workers + workers) w.pass went.made p.pool (omega (arith, pass_is, below)) h.by;
      clients = workers-went workers 0 (jobs_given p.client) (completions_in p.client) p.pool cs place w v r s went h.clients e;
      servers = workers-stay workers workers (works_given p.server) (completions_taken p.server) p.pool ss w.pass went.made (λ q less is. omega (arith, pass_is, below, is)) h.servers;
    }

pub server-works : ServerWorks
server-works workers count p pages cs ss place w v r s h e went same =
    let pass_is : w.pass ≡ workers + place = (h.servers.each place w e).pass in
    let below : place < workers = subst (λ (n : ℕ). place < n) h.servers.count (within ss place w e) in
    record {
      run = runs-on count w.pass p.pool pages w v r s went h.run same;
      by = made-more (workers + workers) w.pass went.made p.pool (omega (arith, pass_is, below)) h.by;
      clients = workers-stay workers 0 (jobs_given p.client) (completions_in p.client) p.pool cs w.pass went.made (λ q less is. omega (arith, pass_is, less, is)) h.clients;
      servers = workers-went workers workers (works_given p.server) (completions_taken p.server) p.pool ss place w v r s went h.servers e;
    }
