-- A copy that was just opened.
use Rattle.std.proofs.Common.{◌≡◌, inr, ⊎_elim, Result, Ok, Err, ℕ, zero, suc, ◌+◌, ◌<◌, ◌≤◌, false, Option, None, Some, List, [], length, refl, sym, ap, ◌∙◌, subst, append-nil, arith}
use Rattle.std.specs.Prelude.{slice_get, OnErr}
use Rattle.std.specs.Io.KnownBytes.{Appends, Consumes}
use Rattle.std.specs.Vec.{vec_capacity}
use Rattle.std.proofs.KnownBytes.{Appends-nil, Consumes-nil}
use Rattle.smbd_base.specs.Limits.{IsLawful}
use Rattle.smbd_outside.specs.declared.status.Status.TheVariants.{NoMemory}
use Rattle.file_messages.specs.declared.layout.TheConstants.{GROUP_SIZE}
use Rattle.file_messages.specs.declared.kind.CopyKind.{CopyKind}
use Rattle.file_messages.specs.declared.kind.CopyKind.TheVariants as kinds
use Rattle.file_pasts.proofs.Lists.{get_last}
use Rattle.page_workers.specs.Workers.{WorkerState, opened}
use Rattle.copy_laws.specs.Laws.{lists_from}
use Rattle.copy_laws.specs.Steps.{opened_pasts, workers_opened}
use Rattle.copy_runs.specs.CopyPasts.{bytes_of, ended_of, groups_out}
use Rattle.page_crew.specs.Crews.{CrewState}
use Rattle.copy_parts.specs.declared.options.CopyOptions.{CopyOptions}
use Rattle.copy_parts.specs.Options.{AreLawful}
use Rattle.copy_parts.specs.Steps as parts
use Rattle.end_workers.specs.declared.copy.Copy.{Copy}
use Rattle.end_workers.specs.Progress.{joined, HaveUntold, IsSoFar, IsOpened, IsUntouched, GoesOn}
use Rattle.end_workers.specs.Promise.{Stream, KeepsPromise}
use Rattle.end_workers.proofs.EndingOpened.{keeps-unopened}
use Rattle.end_workers.proofs.Going.{going}

-- a copy of which nothing was read or told
pub record IsFresh (o : CopyOptions) (c : Copy) : Type 0 where
  pub options : c.options ≡ o
  pub parts_are : parts.IsOpened o c.parts
  pub client_told : c.client_told ≡ record { events = 0; next = 1 }
  pub server_told : c.server_told ≡ record { events = 0; next = 1 }
  pub read : c.read ≡ 0
  pub ended : c.ended ≡ false
  pub room : GROUP_SIZE ≤ vec_capacity c.group

pub is-fresh : (o : CopyOptions) (c : Copy) → c.options ≡ o → parts.IsOpened o c.parts → c.client_told ≡ record { events = 0; next = 1 } → c.server_told ≡ record { events = 0; next = 1 }
    → c.read ≡ 0 → c.ended ≡ false → GROUP_SIZE ≤ vec_capacity c.group → IsFresh o c
is-fresh o c options opened client server read ended room =
    record { options = options; parts_are = opened; client_told = client; server_told = server; read = read; ended = ended; room = room }

no-bytes : (kind : CopyKind) → bytes_of kind opened_pasts ≡ []
no-bytes kinds.Put = refl
no-bytes kinds.Get = refl

no-end : (kind : CopyKind) → ended_of kind opened_pasts ≡ false
no-end kinds.Put = refl
no-end kinds.Get = refl

no-groups : (kind : CopyKind) → groups_out kind opened_pasts ≡ []
no-groups kinds.Put = refl
no-groups kinds.Get = refl

-- workers that were just opened have no lines
no-lines : (first count place : ℕ) (w : WorkerState) → slice_get (workers_opened first count) place ≡ Some w → w.lines ≡ []
no-lines first zero place w e = absurd (let b : ⊥ = cc in b)
no-lines first (suc count) place w e =
    ⊎_elim
    (λ (old : slice_get (workers_opened first count) place ≡ Some w). no-lines first count place w old)
    (λ (last : (place ≡ length (workers_opened first count)) × (w ≡ opened (count + 1) (first + count))). ap (λ (v : WorkerState). v.lines) last.1)
    (get_last (workers_opened first count) (opened (count + 1) (first + count)) place w e)

none-untold : (first workers from : ℕ) → HaveUntold first [] [] (workers_opened from workers)
none-untold first workers from = λ place w at. record { made = []; events = refl; lines = no-lines from workers place w at }

stays : (now before : Option (List ℕ)) → now ≡ before → Consumes before now []
stays now before e = subst (λ (x : Option (List ℕ)). Consumes before x []) (sym e) (Consumes-nil before)

stays-too : (now before : Option (List ℕ)) → now ≡ before → Appends before now []
stays-too now before e = subst (λ (x : Option (List ℕ)). Appends before x []) (sym e) (Appends-nil before)

none-some : {A : Type 0} → (gs : List (List ℕ)) → gs ≡ [] → 0 < length (joined gs) → A
none-some gs e some = absurd (let none : length (joined gs) ≡ 0 = ap (λ (xs : List (List ℕ)). length (joined xs)) e in let b : ⊥ = omega (arith, none, some) in b)

fresh-so-far : (o : CopyOptions) (source sink log : Stream) (c : Copy) → IsFresh o c → IsUntouched source → IsUntouched sink → IsUntouched log
    → IsSoFar o source sink log opened_pasts [] (record { client = []; server = []; clients = lists_from 0 o.workers []; servers = lists_from o.workers o.workers [] }) c
fresh-so-far o source sink log c f reads writes logs = record {
  options = f.options;
  stands = f.parts_are.stands;
  read = record {
    bytes = subst (λ (xs : List ℕ). Consumes source.before source.now xs) (sym (no-bytes o.kind)) (stays source.now source.before reads.0);
    count = f.read ∙ ap length (sym (no-bytes o.kind));
    short = (let none = f.read in omega (arith, none));
    ended_is = f.ended ∙ sym (no-end o.kind);
    last = λ e. absurd (let none = f.ended in let b : ⊥ = cc in b);
    whole = λ e. (let none = f.read in omega (arith, none));
    later = (let same = reads.1 in omega (arith, same));
  };
  stored = record {
    got = subst (λ (gs : List (List ℕ)). Appends sink.before sink.now (joined gs)) (sym (no-groups o.kind)) (stays-too sink.now sink.before writes.0);
    later = (let same = writes.1 in omega (arith, same));
  };
  told = record {
    text = [];
    logged = stays-too log.now log.before logs.0;
    is_log = inr (record { world_is = f.parts_are.world; client = refl; server = refl; pool_is = refl; text_is = refl });
    client_is = f.client_told;
    server_is = f.server_told;
    first = λ some. none-some (groups_out o.kind opened_pasts) (no-groups o.kind) some;
    later = (let same = logs.1 in omega (arith, same));
  };
  more = record {
    client = record { events = c.parts.world.client; is = sym (append-nil c.parts.world.client) };
    server = record { events = c.parts.world.server; is = sym (append-nil c.parts.world.server) };
    client_lists_are = refl;
    server_lists_are = refl;
    clients = subst (λ (crew : CrewState). HaveUntold 0 [] [] crew.clients) (sym f.parts_are.crew) (none-untold 0 o.workers 0);
    servers = subst (λ (crew : CrewState). HaveUntold o.workers [] [] crew.servers) (sym f.parts_are.crew) (none-untold o.workers o.workers o.workers);
  };
  room = f.room;
}

pub fresh-opened : (o : CopyOptions) (c : Copy) → IsFresh o c → IsOpened o c
fresh-opened o c f = λ source sink log reads writes logs. record {
  past = opened_pasts;
  pool = [];
  deeds = record { client = []; server = []; clients = lists_from 0 o.workers []; servers = lists_from o.workers o.workers [] };
  so_far = fresh-so-far o source sink log c f reads writes logs;
}

-- whatever the streams are
quiet : Stream
quiet = record { before = None; now = None; faults_before = 0; faults = 0 }

pub fresh-on : (o : CopyOptions) (c : Copy) → IsFresh o c → GoesOn c
unfolding quiet
fresh-on o c f = going o quiet quiet quiet c (fresh-opened o c f quiet quiet quiet (refl, refl) (refl, refl) (refl, refl))

-- ---- a copy that could not be opened

pub unopened : {T E : Type 0} → (r : Result T E) (o : CopyOptions) (from to log : Stream) → AreLawful o → IsLawful o.limits → IsUntouched from → IsUntouched to → IsUntouched log
    → OnErr r (KeepsPromise NoMemory o from to log)
unopened (Ok t) o from to log lawful limits reads writes logs = tt
unopened (Err e) o from to log lawful limits reads writes logs = keeps-unopened o from to log lawful limits reads writes logs
