-- No worker of a copy refuses a job.
use Rattle.std.proofs.Common.{◌≡◌, ℕ, ◌+◌, ◌%◌, ◌<◌, ◌≤◌, true, Option, Some, List, [], ◌∷◌, ◌++◌, reverse, refl, sym, ap, ◌∙◌, subst, arith}
use Rattle.std.specs.Prelude.{slice_get}
use Rattle.smbd_base.specs.declared.page_event.PageEvent.{PageEvent}
use Rattle.smbd_base.specs.Pages.{Entry}
use Rattle.smbd_base.specs.PagesFit.{events_by}
use Rattle.file_messages.specs.declared.job.Work.{Work}
use Rattle.file_messages.specs.declared.job.Work.TheVariants.{Load, Fetch, Place, Unload}
use Rattle.file_messages.specs.declared.job.WorkResult.{WorkResult}
use Rattle.file_messages.specs.declared.job.WorkResult.TheVariants.{Loaded, Fetched, Placed, Unloaded, Refused}
use Rattle.file_messages.specs.declared.job.Completion.{Completion}
use Rattle.file_pasts.specs.ServerDue.{ServerEvent, Asked, Filled, Gave, Completed, Replied, Stored}
use Rattle.file_pasts.specs.ServerLaws.{works_given, IsDone, NothingRefused}
use Rattle.file_pasts.proofs.Lists.{get_in_front}
use Rattle.page_workers.specs.Jobs.{IsDoneBy}
use Rattle.page_workers.specs.Turns.{page_of_work}
use Rattle.page_workers.specs.Workers.{WorkerState}
use Rattle.copy_laws.specs.Shares.{jobs_for, is_some_for, is_answer_of, completions_of}
use Rattle.copy_laws.specs.ServerDone.{completions_taken}
use Rattle.copy_laws.specs.Coupled.{IsWorker}
use Rattle.copy_laws.specs.Steps.{NoneRefused}
use Rattle.copy_laws.proofs.Eaches.{Each, each-at, each-front, each-back}
use Rattle.copy_laws.proofs.Runs.{IsDoneAt, run-at}
use Rattle.copy_laws.proofs.StepsLists.{get-here, each-by-place}
use Rattle.copy_laws.proofs.StepsGiven.{IsGiven, own-job}
use Rattle.copy_laws.proofs.StepsTaken.{answered-at}
use Rattle.copy_laws.proofs.StepsServers.{handed-given}

done-work : (w : Work) (r : WorkResult) (e : PageEvent) → IsDoneBy w r e → IsDone r
done-work w (Loaded d) e i = tt
done-work w (Fetched bytes) e i = tt
done-work w Placed e i = tt
done-work w (Unloaded bytes) e i = tt
done-work (Load page right bytes) (Refused status) e i = absurd i
done-work (Fetch d) (Refused status) e i = absurd i
done-work (Place d bytes) (Refused status) e i = absurd i
done-work (Unload token) (Refused status) e i = absurd i

-- what a worker completed is done
done-own : (workers first place : ℕ) (works : List Work) (handed : List Completion) (pool : List Entry) (w : WorkerState) (n : ℕ) (c : Completion)
    → IsWorker workers first place works handed pool w → slice_get (completions_of workers (place + 1) works handed) n ≡ Some c → IsDone c.result
done-own workers first place works handed pool w n c h e =
    let x : IsDoneAt (jobs_for workers (place + 1) 0 works) (reverse (events_by (first + place) pool)) n c =
    run-at w.kept w.waiting (jobs_for workers (place + 1) 0 works) (completions_of workers (place + 1) works handed ++ w.done) (reverse (events_by (first + place) pool)) n c h.did
    (get_in_front (completions_of workers (place + 1) works handed) w.done n c e) in
    done-work x.job.work c.result x.event x.done.done

abbrev HasDone : Completion → Type 0
HasDone c = IsDone c.result

none-of-each : (past : List ServerEvent) → Each HasDone (completions_taken past) → NothingRefused past
none-of-each [] h = tt
none-of-each (Asked m ∷ past) h = none-of-each past h
none-of-each (Filled bytes ∷ past) h = none-of-each past h
none-of-each (Gave work ∷ past) h = none-of-each past h
none-of-each (Completed c ∷ past) h =
    ((each-back HasDone (completions_taken past) (c ∷ []) h).0, none-of-each past (each-front HasDone (completions_taken past) (c ∷ []) h))
none-of-each (Replied r ∷ past) h = none-of-each past h
none-of-each (Stored bytes ∷ past) h = none-of-each past h

turn-below : (workers page : ℕ) → 1 ≤ workers → page % workers < workers
turn-below workers page h = omega arith

pub none-refused : NoneRefused
none-refused kind workers count p pages cs ss some h lawful =
    none-of-each p.server
    (each-by-place HasDone (completions_taken p.server)
    (λ n c at.
    let given : IsGiven (works_given p.server) c =
    each-at (IsGiven (works_given p.server)) (completions_taken p.server) n c (handed-given kind p.server lawful) at in
    let job = get-here (works_given p.server) c.number given in
    let place : ℕ = page_of_work job.0 % workers in
    let worker = get-here ss place (subst (λ (m : ℕ). place < m) (sym h.servers.count) (turn-below workers (page_of_work job.0) some)) in
    let answers : is_answer_of workers (place + 1) (works_given p.server) c ≡ true =
    ap (λ (o : Option Work). is_some_for workers (place + 1) o) job.1 ∙ own-job workers place job.0 refl in
    let own = answered-at workers (place + 1) (works_given p.server) (completions_taken p.server) n c at answers in
    done-own workers workers place (works_given p.server) (completions_taken p.server) p.pool worker.0 own.0 c (h.servers.each place worker.0 worker.1) own.1))
