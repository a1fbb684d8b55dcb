-- A crew, told by its parts.
use Rattle.std.proofs.Common.{◌≡◌, ℕ, Some, List, length, map, sym, ◌∙◌, subst}
use Rattle.std.specs.Prelude.{slice_get}
use Rattle.std.proofs.lemmas.List.{length-map}
use Rattle.smbd_base.specs.declared.end_id.EndId.{EndId}
use Rattle.smbd_base.specs.declared.end_id.EndId.TheVariants.{Client, Server}
use Rattle.smbd_base.specs.Pages.{Entry, PageState}
use Rattle.smbd_base.proofs.PoolLives.{length-run}
use Rattle.file_messages.specs.declared.job.Work.{Work}
use Rattle.file_messages.specs.declared.job.Completion.{Completion}
use Rattle.file_pasts.specs.ClientPast.{jobs_given}
use Rattle.file_pasts.specs.ServerLaws.{works_given}
use Rattle.file_pasts.proofs.Lists.{got_of_map}
use Rattle.registration.specs.Regions.{RegionState}
use Rattle.page_workers.specs.Workers.{WorkerState}
use Rattle.copy_laws.specs.ClientDone.{completions_in}
use Rattle.copy_laws.specs.ServerDone.{completions_taken}
use Rattle.copy_laws.specs.Coupled.{Pasts, IsWorker, AreWorkers, AreCoupled}
use Rattle.page_crew.specs.Crews.{CrewState, IsCrewOf, told}

abbrev pub crew : RegionState → List WorkerState → List WorkerState → CrewState
crew r cs ss = record { region = r; clients = cs; servers = ss }

-- so many workers and pages are those that there are
pub coupled-of : (workers count : ℕ) (p : Pasts) (pages : List PageState) (cs ss : List WorkerState) → AreCoupled workers count p pages cs ss
    → AreCoupled (length cs) (length pages) p pages cs ss
coupled-of workers count p pages cs ss h =
    subst (λ (n : ℕ). AreCoupled n (length pages) p pages cs ss) (sym h.clients.count)
    (subst (λ (n : ℕ). AreCoupled workers n p pages cs ss) (sym (length-run 1 count p.pool pages h.run)) h)

-- ---- what holds of a crew with other workers of one end

pub by-clients : (P : EndId → CrewState → CrewState → Type 0) (end : EndId) (v a : CrewState) (ws vs : List WorkerState) → end ≡ Client → v ≡ a → ws ≡ vs
    → P Client v (record v { clients = vs }) → P end a (record v { clients = ws })
by-clients P end v a ws vs is same list h =
    subst (λ (e : EndId). P e a (record v { clients = ws })) (sym is) (
    subst (λ (x : CrewState). P Client x (record v { clients = ws })) same (
    subst (λ (us : List WorkerState). P Client v (record v { clients = us })) (sym list) h
    )
    )

pub by-servers : (P : EndId → CrewState → CrewState → Type 0) (end : EndId) (v a : CrewState) (ws vs : List WorkerState) → end ≡ Server → v ≡ a → ws ≡ vs
    → P Server v (record v { servers = vs }) → P end a (record v { servers = ws })
by-servers P end v a ws vs is same list h =
    subst (λ (e : EndId). P e a (record v { servers = ws })) (sym is) (
    subst (λ (x : CrewState). P Server x (record v { servers = ws })) same (
    subst (λ (us : List WorkerState). P Server v (record v { servers = us })) (sym list) h
    )
    )

-- ---- lines that are told

told-workers : (workers first : ℕ) (works : List Work) (handed : List Completion) (pool : List Entry) (ws : List WorkerState)
    → AreWorkers workers first works handed pool ws → AreWorkers workers first works handed pool (map told ws)
told-workers workers first works handed pool ws h = record {
  count = length-map ws told ∙ h.count;
  each = λ place w at.
      let g : (x : WorkerState) × (slice_get ws place ≡ Some x) × (w ≡ told x) = got_of_map told ws place w at in
      subst (λ (v : WorkerState). IsWorker workers first place works handed pool v) (sym g.2)
      (let i : IsWorker workers first place works handed pool g.0 = h.each place g.0 g.1 in record { number = i.number; pass = i.pass; did = i.did });
}

pub told-coupled : (p : Pasts) (a : CrewState) (r : RegionState) (cs ss ws vs : List WorkerState) → crew r cs ss ≡ a → ws ≡ map told cs → vs ≡ map told ss
    → IsCrewOf p a → IsCrewOf p (crew r ws vs)
told-coupled p a r cs ss ws vs same clients servers h =
    let was : IsCrewOf p (crew r cs ss) = subst (λ (x : CrewState). IsCrewOf p x) (sym same) h in
    subst (λ (xs : List WorkerState). IsCrewOf p (crew r xs vs)) (sym clients) (
    subst (λ (xs : List WorkerState). IsCrewOf p (crew r (map told cs) xs)) (sym servers) (
    coupled-of (length cs) (length r.pages) p r.pages (map told cs) (map told ss) (record {
      run = was.run;
      by = was.by;
      clients = told-workers (length cs) 0 (jobs_given p.client) (completions_in p.client) p.pool cs was.clients;
      servers = told-workers (length cs) (length cs) (works_given p.server) (completions_taken p.server) p.pool ss was.servers;
    })
    )
    )
