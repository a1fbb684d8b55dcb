-- What one call of a worker answers, and what a call of up to 16 jobs did.
use Rattle.std.proofs.Common.{◌≡◌, ◌≢◌, ℕ, zero, suc, ◌+◌, ◌<◌, ◌≤◌, ◌⊎◌, Bool, true, false, Option, Some, None, List, [], ◌∷◌, ◌++◌, length, refl, sym, ap, ◌∙◌, subst, arith, length-append}
use Rattle.std.specs.Prelude.{option_to_list}
use Rattle.file_messages.specs.declared.job.Completion.{Completion}
use Rattle.event_log.specs.declared.log_line.LogLine.{LogLine}
use Rattle.completion_ring.specs.declared.jobs.Jobs.{Jobs}
use Rattle.completion_ring.specs.Rings.{sent, free, SameJobs}
use Rattle.std.proofs.lemmas.List.{append-nil}
use Rattle.shared_workers.proofs.WentLemmas.{jobs-here}
use Rattle.shared_pages.specs.declared.view.Opening.{Opening}
use Rattle.shared_pages.specs.Calls.{known_by}
use Rattle.page_workers.specs.declared.kept.Kept.{Kept}
use Rattle.page_workers.specs.declared.kept.Tried.{Tried}
use Rattle.page_workers.specs.declared.kept.Tried.TheVariants.{Finished, Begun, Refused}
use Rattle.shared_workers.specs.declared.answer.One.TheVariants as ones
use Rattle.shared_workers.specs.Tries.{HasTried}
use Rattle.shared_workers.specs.Workers.{WorkerState, finished, WentOn, TriedKept, TriedNext, kept_after, told_by, is_finished, HasAnswered, HasFinished, HasTriedJobs, HasRun, IsIdle, IsFull, waits}

-- a job that was tried, and isn't finished
pub tried-left : (pool : Opening) (a b : WorkerState) (kept : Kept) (tried : Tried) (line : Option LogLine) → a.kept ≡ Some kept
    → HasTried pool kept tried line (known_by a.pass) (known_by b.pass) → is_finished tried ≡ false → b.kept ≡ kept_after kept tried → b.number ≡ a.number
    → b.jobs ≡ a.jobs → b.done ≡ a.done → a.unsent ≡ None → b.unsent ≡ None → b.lines ≡ a.lines ++ option_to_list line → TriedKept pool a b false
tried-left pool a b kept tried line is tries over left number jobs done none still lines =
    let same : finished b ≡ finished a = (λ i. sent (done i) ++ option_to_list ((still ∙ sym none) i)) in
    record {
      kept = kept;
      kept_is = is;
      tried = tried;
      line = line;
      tries = tries;
      left = left;
      tells = same ∙ nothing tried over (finished a);
      lines = lines;
      says = sym over;
      number = number;
      jobs = jobs;
      done = subst (λ (j : Jobs Completion). SameJobs a.done j) (sym done) (jobs-here a.done);
      gone = [];
      sends = ap (λ (j : Jobs Completion). sent j) done ∙ sym (append-nil (sent a.done));
      room = let e : free b.done + length (sent b.done) ≡ free a.done + length (sent a.done) = ap (λ (j : Jobs Completion). free j + length (sent j)) done in omega (arith, e);
      full = λ no. absurd (no still);
    }
  where
    nothing : (t : Tried) → is_finished t ≡ false → (cs : List Completion) → cs ≡ cs ++ told_by t
    nothing (Finished c) e cs = absurd (let no : ⊥ = cc in no)
    nothing (Begun k) e cs = sym (append-nil cs)
    nothing Refused e cs = sym (append-nil cs)

-- a job that isn't finished is kept
pub held-tells : (pool : Opening) (a b : WorkerState) → TriedNext pool a b false → (finished b ≡ finished a ++ []) × (b.kept ≢ None)
held-tells pool a b t = by t.tried t.says t.tells t.left where
  by : (tried : Tried) → false ≡ is_finished tried → finished b ≡ finished a ++ told_by tried → b.kept ≡ kept_after t.kept tried → (finished b ≡ finished a ++ []) × (b.kept ≢ None)
  by (Finished c) says tells left = absurd (let no : ⊥ = cc in no)
  by (Begun k) says tells left = (tells, λ none. let some : Some k ≡ None = sym left ∙ none in cc)
  by Refused says tells left = (tells, λ none. let some : Some t.kept ≡ None = sym left ∙ none in cc)

-- ---- a call of up to 16 jobs

pub told-count : (a b : WorkerState) (w : WentOn a b) → length (finished b) ≡ length (finished a) + length w.told
told-count a b w = ap (λ (cs : List Completion). length cs) w.tells ∙ length-append (finished a) w.told

-- one more job was finished
pub finished-more : (pool : Opening) (n : ℕ) (a w b : WorkerState) → HasFinished pool n a w → HasAnswered pool ones.Did w b → HasFinished pool (suc n) a b
finished-more pool zero a w b h t = (b, (subst (λ (x : WorkerState). HasAnswered pool ones.Did x b) h t, refl))
finished-more pool (suc n) a w b h t = (h.0, (h.1.0, finished-more pool n h.0 w b h.1.1 t))

-- where the ring had room for 16 more, none waits
pub all-sent : (a b : WorkerState) (w : WentOn a b) → length w.told ≤ 16 → (b.unsent ≢ None → free b.done ≡ 0) → waits a + 16 ≤ free a.done → b.unsent ≡ None
all-sent a b w most full room = by b.unsent refl where
  by : (o : Option Completion) → b.unsent ≡ o → b.unsent ≡ None
  by None is = is
  by (Some c) is =
      let none : free b.done ≡ 0 = full (λ no. let bad : Some c ≡ None = sym is ∙ no in cc) in
      let one : length (finished b) ≡ length (sent b.done) + 1 =
      ap (λ (o : Option Completion). length (sent b.done ++ option_to_list o)) is ∙ length-append (sent b.done) (c ∷ []) in
      let before : length (finished a) ≡ length (sent a.done) + waits a = length-append (sent a.done) (option_to_list a.unsent) in
      let count = told-count a b w in
      let kept = w.room in
      absurd (omega (arith, none, one, before, count, kept, most, room))

pub has-run : (pool : Opening) (fed : Bool) (n : ℕ) (a b : WorkerState) → WentOn a b → length (finished b) ≡ length (finished a) + n → n ≤ 16
    → HasTriedJobs pool n fed a b → (fed ≡ true → n < 16 → IsIdle b ⊎ (b.kept ≢ None ⊎ IsFull b)) → (b.unsent ≢ None → free b.done ≡ 0) → HasRun pool fed a b
has-run pool fed n a b w count few tries all full =
    let same : length w.told ≡ n = omega (arith, told-count a b w, count) in
    let most : length w.told ≤ 16 = subst (λ (k : ℕ). k ≤ 16) (sym same) few in
    record {
      went = w;
      most = most;
      tries = subst (λ (k : ℕ). HasTriedJobs pool k fed a b) (sym same) tries;
      all = λ f h. all f (subst (λ (k : ℕ). k < 16) same h);
      sent = all-sent a b w most full;
    }
