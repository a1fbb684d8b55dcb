-- What became of the jobs, after one more step of the worker.
use Rattle.std.proofs.Common.{◌≡◌, ℕ, Some, None, List, [], ◌∷◌, ◌++◌, refl, sym, ap, subst}
use Rattle.smbd_base.specs.declared.right.Right.{Right}
use Rattle.smbd_base.specs.declared.page_event.PageEvent.{PageEvent}
use Rattle.smbd_base.specs.declared.page_event.PageEvent.TheVariants as events
use Rattle.smbd_base.specs.Tokens.{PageToken}
use Rattle.file_messages.specs.declared.job.Job.{Job}
use Rattle.file_messages.specs.declared.job.Completion.{Completion}
use Rattle.file_messages.specs.declared.job.WorkResult.TheVariants.{Loaded}
use Rattle.registration.specs.Regions.{descriptor_of_page}
use Rattle.page_workers.specs.declared.kept.Kept.{Kept}
use Rattle.page_workers.specs.declared.kept.Kept.TheVariants as keeps
use Rattle.page_workers.specs.Jobs.{IsDone}
use Rattle.page_workers.specs.Tries.{load_job}
use Rattle.page_workers.specs.Runs.{JobRun, IsKept}

-- the first job that waits is kept
pub run-keep : (waiting : List Job) (j : Job) (jobs : List Job) (sent : List Completion) (made : List PageEvent)
    → JobRun None (j ∷ waiting) jobs sent made → JobRun (Some (keeps.Fresh j)) waiting jobs sent made
run-keep waiting j [] [] made h = absurd (let b : ⊥ = cc in b)
run-keep waiting j (x ∷ jobs) [] made h = ((let same : x ≡ j = cc in same, h.1), (let same : jobs ≡ waiting = cc in same))
run-keep waiting j (x ∷ jobs) (c ∷ sent) (e ∷ made) h = (h.0, run-keep waiting j jobs sent made h.1)
run-keep waiting j (x ∷ jobs) (c ∷ sent) [] h = absurd h
run-keep waiting j [] (c ∷ sent) made h = absurd h

-- the job that is kept, of which no event was made, is finished
abbrev KeepsWhole : Kept → Job → Type 0
KeepsWhole kept j = (x : Job) (made : List PageEvent) → IsKept kept x made → (x ≡ j) × (made ≡ [])

pub run-finish : (kept : Kept) (j : Job) (waiting jobs : List Job) (sent : List Completion) (made : List PageEvent) (c : Completion) (e : PageEvent)
    → KeepsWhole kept j → IsDone j c e → JobRun (Some kept) waiting jobs sent made → JobRun None waiting jobs (sent ++ c ∷ []) (made ++ e ∷ [])
run-finish kept j waiting [] [] made c e whole done h = absurd h
run-finish kept j waiting (x ∷ jobs) [] made c e whole done h =
    subst (λ (m : List PageEvent). JobRun None waiting (x ∷ jobs) (c ∷ []) (m ++ e ∷ [])) (sym (whole x made h.0).1)
    (subst (λ (y : Job). IsDone y c e) (sym (whole x made h.0).0) done, (h.1, refl))
run-finish kept j waiting (x ∷ jobs) (d ∷ sent) (g ∷ made) c e whole done h = (h.0, run-finish kept j waiting jobs sent made c e whole done h.1)
run-finish kept j waiting (x ∷ jobs) (d ∷ sent) [] c e whole done h = absurd h
run-finish kept j waiting [] (d ∷ sent) made c e whole done h = absurd h

-- what is kept of the job changes, and some events are made
pub run-left : (kept left : Kept) (waiting jobs : List Job) (sent : List Completion) (made more : List PageEvent)
    → ((x : Job) (before : List PageEvent) → IsKept kept x before → IsKept left x (before ++ more))
    → JobRun (Some kept) waiting jobs sent made → JobRun (Some left) waiting jobs sent (made ++ more)
run-left kept left waiting [] [] made more goes h = absurd h
run-left kept left waiting (x ∷ jobs) [] made more goes h = (goes x made h.0, h.1)
run-left kept left waiting (x ∷ jobs) (d ∷ sent) (g ∷ made) more goes h = (h.0, run-left kept left waiting jobs sent made more goes h.1)
run-left kept left waiting (x ∷ jobs) (d ∷ sent) [] more goes h = absurd h
run-left kept left waiting [] (d ∷ sent) made more goes h = absurd h

-- the record of a page is issued that was loaded before
pub run-issue : (number : ℕ) (token : PageToken) (right : Right) (len : ℕ) (waiting jobs : List Job) (sent : List Completion) (made : List PageEvent) (c : Completion)
    → c ≡ record { number = number; result = Loaded (descriptor_of_page token len) }
    → JobRun (Some (keeps.Loaded number token right len)) waiting jobs sent made → JobRun None waiting jobs (sent ++ c ∷ []) made
run-issue number token right len waiting [] [] made c says h = absurd h
run-issue number token right len waiting (x ∷ jobs) [] made c says h =
    let was = h.0 in
    subst (λ (m : List PageEvent). JobRun None waiting (x ∷ jobs) (c ∷ []) m) (sym was.made_is) (
      subst (λ (y : Job). IsDone y c (events.Load token right was.bytes)) (sym was.job_is)
          (subst (λ (d : Completion). IsDone (load_job number token.page right was.bytes) d (events.Load token right was.bytes)) (sym says)
          (record {
            number = refl;
            done = record { lawful = was.lawful; page_is = refl; right_is = refl; bytes_are = refl; named = ap (λ (n : ℕ). descriptor_of_page token n) was.length_is };
          })),
      (h.1, refl),
    )
run-issue number token right len waiting (x ∷ jobs) (d ∷ sent) (g ∷ made) c says h = (h.0, run-issue number token right len waiting jobs sent made c says h.1)
run-issue number token right len waiting (x ∷ jobs) (d ∷ sent) [] c says h = absurd h
run-issue number token right len waiting [] (d ∷ sent) made c says h = absurd h
