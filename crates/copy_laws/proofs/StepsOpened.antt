-- Machines, workers and pages of a copy before anything happened.
use Rattle.std.proofs.Common.{◌≡◌, ℕ, zero, suc, ◌+◌, Some, [], ◌∷◌, length, refl, sym, ap, ◌∙◌, subst, arith, length-append, ⊎_elim}
use Rattle.std.specs.Prelude.{slice_get}
use Rattle.file_pasts.proofs.Lists.{get_last}
use Rattle.page_workers.specs.Workers.{WorkerState, opened}
use Rattle.copy_laws.specs.Coupled.{IsWorker, AreWorkers}
use Rattle.copy_laws.specs.Steps.{workers_opened, Opens}

opened-length : (first count : ℕ) → length (workers_opened first count) ≡ count
opened-length first zero = refl
opened-length first (suc count) =
    length-append (workers_opened first count) (opened (count + 1) (first + count) ∷ [])
    ∙ ap (λ (n : ℕ). n + 1) (opened-length first count) ∙ (let z : count + 1 ≡ suc count = omega arith in z)

opened-at : (first count place : ℕ) (w : WorkerState) → slice_get (workers_opened first count) place ≡ Some w → w ≡ opened (place + 1) (first + place)
opened-at first zero place w e = absurd (let b : ⊥ = cc in b)
opened-at first (suc count) place w e =
    ⊎_elim
    (λ (old : slice_get (workers_opened first count) place ≡ Some w). opened-at first count place w old)
    (λ (last : (place ≡ length (workers_opened first count)) × (w ≡ opened (count + 1) (first + count))).
    last.1 ∙ ap (λ (n : ℕ). opened (n + 1) (first + n)) (sym (opened-length first count) ∙ sym last.0))
    (get_last (workers_opened first count) (opened (count + 1) (first + count)) place w e)

fresh : (workers first : ℕ) → AreWorkers workers first [] [] [] (workers_opened first workers)
fresh workers first = record {
  count = opened-length first workers;
  each = λ place w at. subst (λ (x : WorkerState). IsWorker workers first place [] [] [] x) (sym (opened-at first workers place w at))
      (record { number = refl; pass = refl; did = (refl, refl) });
}

pub opens : Opens
opens workers count = record { run = refl; by = tt; clients = fresh workers 0; servers = fresh workers workers }
