-- A completion that is taken.
use Rattle.std.proofs.Common.{◌≡◌, ℕ, suc, ◌+◌, Option, Some, None, List, length, refl, sym, ap, ◌∙◌, subst, arith}
use Rattle.std.specs.Prelude.{slice_index_or, slice_set, MatchOption}
use Rattle.std.proofs.lemmas.List.Sums.{sum_by-set}
use Rattle.std.proofs.lemmas.Option.{slice_get_within, get_or_from_slice_get}
use Rattle.smbd_base.specs.declared.end_id.EndId.TheVariants.{Client, Server}
use Rattle.file_messages.specs.declared.job.Completion.{Completion}
use Rattle.file_pasts.specs.ClientPast.{Completed, AnswersJob}
use Rattle.file_pasts.specs.ServerDue as server
use Rattle.page_workers.specs.Workers.{WorkerState}
use Rattle.copy_laws.specs.Coupled.{AreCoupled}
use Rattle.copy_laws.specs.Steps.{client_after, server_after, with_done}
use Rattle.copy_laws.proofs.StepsClients.{client-takes}
use Rattle.copy_laws.proofs.StepsServers.{server-takes}
use Rattle.page_crew.specs.Crews.{CrewState, HasNone, IsTakenFrom, HasTaken, IsHanded, waiting_of, lines_of}
use Rattle.page_crew.proofs.CrewOf.{coupled-of}
use Rattle.page_crew.proofs.Giving.{map-kept}

one-fewer : (c : Completion) (ws vs : List WorkerState) → IsTakenFrom c ws vs → waiting_of ws ≡ waiting_of vs + 1
one-fewer c ws vs t =
    let had : length t.worker.done ≡ suc (length t.rest) = ap (λ (cs : List Completion). length cs) t.oldest in
    let at : slice_index_or ws t.place t.worker ≡ t.worker = get_or_from_slice_get ws t.place t.worker t.worker t.at in
    let sums : waiting_of (slice_set ws t.place (with_done t.rest t.worker)) + length t.worker.done ≡ waiting_of ws + length t.rest =
    ap (λ (w : WorkerState). waiting_of (slice_set ws t.place (with_done t.rest t.worker)) + length w.done) (sym at)
    ∙ sum_by-set (λ (w : WorkerState). length w.done) ws t.place (with_done t.rest t.worker) t.worker (slice_get_within ws t.place t.worker t.at) in
    let left : waiting_of vs ≡ waiting_of (slice_set ws t.place (with_done t.rest t.worker)) = ap (λ (us : List WorkerState). waiting_of us) t.left in
    counted (waiting_of ws) (waiting_of vs) (waiting_of (slice_set ws t.place (with_done t.rest t.worker))) (length t.worker.done) (length t.rest) had sums left where
      counted : (n m k d l : ℕ) → d ≡ suc l → k + d ≡ n + l → m ≡ k → n ≡ m + 1
      counted n m k d l had sums left = omega (arith, had, sums, left)

client-handed : (c : Completion) (a : CrewState) (vs : List WorkerState) → IsTakenFrom c a.clients vs → IsHanded Client c a (record a { clients = vs })
client-handed c a vs t = λ p h.
    let x : AnswersJob p.client c
    × AreCoupled (length a.clients) (length a.region.pages) (client_after (Completed c) p) a.region.pages (slice_set a.clients t.place (with_done t.rest t.worker)) a.servers =
    client-takes (length a.clients) (length a.region.pages) p a.region.pages a.clients a.servers t.place t.worker c t.rest h t.at t.oldest in (
      x.0,
      coupled-of (length a.clients) (length a.region.pages) (client_after (Completed c) p) a.region.pages vs a.servers
          (subst (λ (ws : List WorkerState). AreCoupled (length a.clients) (length a.region.pages) (client_after (Completed c) p) a.region.pages ws a.servers) (sym t.left) x.1),
    )

server-handed : (c : Completion) (a : CrewState) (vs : List WorkerState) → IsTakenFrom c a.servers vs → IsHanded Server c a (record a { servers = vs })
server-handed c a vs t = λ kind p served h.
    let x : server.AnswersJob kind p.server c
    × AreCoupled (length a.clients) (length a.region.pages) (server_after (server.Completed c) p) a.region.pages a.clients (slice_set a.servers t.place (with_done t.rest t.worker)) =
    server-takes kind (length a.clients) (length a.region.pages) p a.region.pages a.clients a.servers t.place t.worker c t.rest h served t.at t.oldest in (
      x.0,
      coupled-of (length a.clients) (length a.region.pages) (server_after (server.Completed c) p) a.region.pages a.clients vs
          (subst (λ (ws : List WorkerState). AreCoupled (length a.clients) (length a.region.pages) (server_after (server.Completed c) p) a.region.pages a.clients ws) (sym t.left) x.1),
    )

pub client-taken : (r : Option Completion) (a : CrewState) (vs : List WorkerState) → MatchOption r (HasNone a.clients × (vs ≡ a.clients)) (λ c. IsTakenFrom c a.clients vs)
    → MatchOption r (HasNone a.clients × (record a { clients = vs } ≡ a)) (λ c. HasTaken Client c a (record a { clients = vs }))
client-taken None a vs h = (h.0, ap (λ (ws : List WorkerState). record a { clients = ws }) h.1)
client-taken (Some c) a vs h = record { handed = client-handed c a vs h; fewer = one-fewer c a.clients vs h }

pub server-taken : (r : Option Completion) (a : CrewState) (vs : List WorkerState) → MatchOption r (HasNone a.servers × (vs ≡ a.servers)) (λ c. IsTakenFrom c a.servers vs)
    → MatchOption r (HasNone a.servers × (record a { servers = vs } ≡ a)) (λ c. HasTaken Server c a (record a { servers = vs }))
server-taken None a vs h = (h.0, ap (λ (ws : List WorkerState). record a { servers = ws }) h.1)
server-taken (Some c) a vs h = record { handed = server-handed c a vs h; fewer = one-fewer c a.servers vs h }

pub taken-lines : (r : Option Completion) (ws vs : List WorkerState) → MatchOption r (HasNone ws × (vs ≡ ws)) (λ c. IsTakenFrom c ws vs) → lines_of vs ≡ lines_of ws
taken-lines None ws vs h = ap (λ (us : List WorkerState). lines_of us) h.1
taken-lines (Some c) ws vs h =
    ap (λ (us : List WorkerState). lines_of us) h.left ∙ map-kept (λ (w : WorkerState). w.lines) ws h.place h.worker (with_done h.rest h.worker) h.at refl
