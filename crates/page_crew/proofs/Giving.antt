-- A job that is given to the worker of its page.
use Rattle.std.proofs.Common.{◌≡◌, ℕ, zero, suc, ◌+◌, ◌-◌, ◌%◌, Result, Ok, Err, Some, List, [], ◌∷◌, length, map, refl, sym, ap, ◌∙◌, subst, arith}
use Rattle.std.specs.Prelude.{slice_get, slice_set, OnOk, OnErr}
use Rattle.smbd_base.specs.declared.end_id.EndId.TheVariants.{Client, Server}
use Rattle.file_messages.specs.declared.job.Job.{Job}
use Rattle.file_pasts.specs.ClientPast.{Gave, jobs_given}
use Rattle.file_pasts.specs.ServerDue as server
use Rattle.page_workers.specs.Turns.{page_of_work}
use Rattle.page_workers.specs.Workers.{WorkerState}
use Rattle.copy_laws.specs.Coupled.{AreCoupled}
use Rattle.copy_laws.specs.Steps.{client_after, server_after, with_job}
use Rattle.copy_laws.proofs.StepsClients.{client-gives}
use Rattle.copy_laws.proofs.StepsServers.{server-gives}
use Rattle.page_crew.specs.Crews.{CrewState, HasGiven, IsGivenAt, lines_of, dones_of}
use Rattle.page_crew.proofs.CrewOf.{coupled-of}

-- the place of the worker of this number
pub place-is : (page count worker place workers : ℕ) → count ≡ workers → worker ≡ page % count + 1 → place ≡ worker - 1 → place ≡ page % workers
place-is page count worker place workers same number is =
    (let z : place ≡ page % count = omega (arith, number, is) in z) ∙ ap (λ (n : ℕ). page % n) same

pub client-given : (j : Job) (a : CrewState) (vs : List WorkerState) (place : ℕ) → place ≡ page_of_work j.work % length a.clients → IsGivenAt place j a.clients vs
    → HasGiven Client j a (record a { clients = vs })
client-given j a vs place here g = λ p next h.
    let workers : ℕ = length a.clients in
    let turn : ℕ = page_of_work j.work % workers in
    let list : slice_set a.clients turn (with_job (record { number = length (jobs_given p.client); work = j.work }) g.worker) ≡ vs =
    ap (λ (n : ℕ). slice_set a.clients turn (with_job (record { number = n; work = j.work }) g.worker)) (sym next.1)
    ∙ ap (λ (n : ℕ). slice_set a.clients n (with_job j g.worker)) (sym here) ∙ sym g.given in
    coupled-of workers (length a.region.pages) (client_after (Gave j.work) p) a.region.pages vs a.servers
    (subst (λ (ws : List WorkerState). AreCoupled workers (length a.region.pages) (client_after (Gave j.work) p) a.region.pages ws a.servers) list
    (client-gives workers (length a.region.pages) p a.region.pages a.clients a.servers j.work g.worker h next.0
    (subst (λ (n : ℕ). slice_get a.clients n ≡ Some g.worker) here g.at)))

pub server-given : (j : Job) (a : CrewState) (vs : List WorkerState) (place : ℕ) → place ≡ page_of_work j.work % length a.clients → IsGivenAt place j a.servers vs
    → HasGiven Server j a (record a { servers = vs })
server-given j a vs place here g = λ p next h.
    let workers : ℕ = length a.clients in
    let turn : ℕ = page_of_work j.work % workers in
    let list : slice_set a.servers turn (with_job (record { number = server.jobs_given p.server; work = j.work }) g.worker) ≡ vs =
    ap (λ (n : ℕ). slice_set a.servers turn (with_job (record { number = n; work = j.work }) g.worker)) (sym next.1)
    ∙ ap (λ (n : ℕ). slice_set a.servers n (with_job j g.worker)) (sym here) ∙ sym g.given in
    coupled-of workers (length a.region.pages) (server_after (server.Gave j.work) p) a.region.pages a.clients vs
    (subst (λ (ws : List WorkerState). AreCoupled workers (length a.region.pages) (server_after (server.Gave j.work) p) a.region.pages a.clients ws) list
    (server-gives next.0.0 workers (length a.region.pages) p a.region.pages a.clients a.servers j.work g.worker h next.0.1
    (subst (λ (n : ℕ). slice_get a.servers n ≡ Some g.worker) here g.at)))

-- ---- what stays

-- what a worker that is written again has as before
pub map-kept : {A B : Type 0} (f : A → B) (xs : List A) (i : ℕ) (x v : A) → slice_get xs i ≡ Some x → f v ≡ f x → map f (slice_set xs i v) ≡ map f xs
map-kept f [] i x v e h = refl
map-kept f (y ∷ xs) zero x v e h =
    let same : y ≡ x = cc in
    ap (λ z. z ∷ map f xs) (h ∙ ap f (sym same))
map-kept f (y ∷ xs) (suc i) x v e h = ap (λ zs. f y ∷ zs) (map-kept f xs i x v e h)

-- what no job changes; without memory the workers stay as they were
given-kept : {A T E : Type 0} (f : WorkerState → A) (r : Result T E) (place : ℕ) (j : Job) (ws vs : List WorkerState) → ((w : WorkerState) → f (with_job j w) ≡ f w)
    → OnOk r (IsGivenAt place j ws vs) → OnErr r (vs ≡ ws) → map f vs ≡ map f ws
given-kept f (Ok x) place j ws vs stays g same = ap (λ (us : List WorkerState). map f us) g.given ∙ map-kept f ws place g.worker (with_job j g.worker) g.at (stays g.worker)
given-kept f (Err e) place j ws vs stays g same = ap (λ (us : List WorkerState). map f us) same

pub given-lines : {T E : Type 0} (r : Result T E) (place : ℕ) (j : Job) (ws vs : List WorkerState) → OnOk r (IsGivenAt place j ws vs) → OnErr r (vs ≡ ws)
    → lines_of vs ≡ lines_of ws
given-lines r place j ws vs g same = given-kept (λ (w : WorkerState). w.lines) r place j ws vs (λ w. refl) g same

pub given-dones : {T E : Type 0} (r : Result T E) (place : ℕ) (j : Job) (ws vs : List WorkerState) → OnOk r (IsGivenAt place j ws vs) → OnErr r (vs ≡ ws)
    → dones_of vs ≡ dones_of ws
given-dones r place j ws vs g same = given-kept (λ (w : WorkerState). w.done) r place j ws vs (λ w. refl) g same
