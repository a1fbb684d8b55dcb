-- The workers of an end, one after another.
use Rattle.std.proofs.Common.{◌≡◌, ℕ, zero, suc, ◌<◌, List, [], ◌∷◌, ◌++◌, length, map, take, drop, sym, ap, ◌∙◌, arith}
use Rattle.std.specs.Prelude.{slice_index_or, slice_set}
use Rattle.std.proofs.lemmas.List.{set-get_or}
use Rattle.std.proofs.lemmas.Option.{slice_get-get_or}
use Rattle.file_messages.specs.declared.job.Completion.{Completion}
use Rattle.page_workers.specs.Workers.{WorkerState}
use Rattle.page_crew.specs.Crews.{told, HasNone, IsTakenFrom}

-- one more worker has told its lines
pub told-more : (olds news : List WorkerState) (i : ℕ) (d v : WorkerState) → i < length news → take i news ≡ map told (take i olds) → drop i news ≡ drop i olds
    → v ≡ told (slice_index_or news i d) → take (suc i) (slice_set news i v) ≡ map told (take (suc i) olds)
told-more olds [] i d v among front rest h = absurd (omega (arith, among))
told-more [] (b ∷ news) zero d v among front rest h = absurd (let no : ⊥ = cc in no)
told-more (a ∷ olds) (b ∷ news) zero d v among front rest h =
    let first : b ≡ a = cc in
    ap (λ (w : WorkerState). w ∷ []) (h ∙ ap told first)
told-more [] (b ∷ news) (suc i) d v among front rest h = absurd (let no : ⊥ = cc in no)
told-more (a ∷ olds) (b ∷ news) (suc i) d v among front rest h =
    let head : b ≡ told a = cc in
    let tail : take i news ≡ map told (take i olds) = cc in
    ap (λ (w : WorkerState). w ∷ take (suc i) (slice_set news i v)) head
    ∙ ap (λ (ws : List WorkerState). told a ∷ ws) (told-more olds news i d v (omega (arith, among)) tail rest h)

-- one more worker has no completion
pub none-more : (ws : List WorkerState) (i : ℕ) (d : WorkerState) → i < length ws → HasNone (take i ws) → (slice_index_or ws i d).done ≡ [] → HasNone (take (suc i) ws)
none-more [] i d among h e = absurd (omega (arith, among))
none-more (w ∷ ws) zero d among h e = (e, tt)
none-more (w ∷ ws) (suc i) d among h e = (h.0, none-more ws i d (omega (arith, among)) h.1 e)

-- so it stays as it is
pub none-stays : (ws : List WorkerState) (i : ℕ) (d v : WorkerState) → (slice_index_or ws i d).done ≡ [] ++ v.done → v ≡ record (slice_index_or ws i d) { done = v.done }
    → slice_set ws i v ≡ ws
none-stays ws i d v e is =
    let same : v ≡ slice_index_or ws i d = is ∙ ap (λ (cs : List Completion). record (slice_index_or ws i d) { done = cs }) (sym e) in
    ap (λ (w : WorkerState). slice_set ws i w) same ∙ set-get_or ws i d

-- the oldest completion of a worker is taken
pub one-taken : (ws : List WorkerState) (i : ℕ) (d v : WorkerState) (c : Completion) → i < length ws → (slice_index_or ws i d).done ≡ c ∷ v.done
    → v ≡ record (slice_index_or ws i d) { done = v.done } → IsTakenFrom c ws (slice_set ws i v)
one-taken ws i d v c among e is = record {
  place = i;
  worker = slice_index_or ws i d;
  rest = v.done;
  at = slice_get-get_or ws i d among;
  oldest = e;
  left = ap (λ (w : WorkerState). slice_set ws i w) is;
}
