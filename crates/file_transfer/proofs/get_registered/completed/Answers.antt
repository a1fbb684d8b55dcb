use Rattle.std.proofs.Common.{◌+◌, ◌++◌, ℕ, ◌∷◌, length, take, map, refl, sym, ap, ◌∙◌, subst, arith}
use Rattle.file_pasts.specs.ClientPast.{Completed}
use Rattle.file_pasts.specs.GetDue.{jobs_due, some_bytes}
use Rattle.file_transfer.specs.GetPagesStand.{sizes, back_in, same_bytes, first_unload}
use Rattle.std.specs.List.{flat_map}
use Rattle.file_transfer.specs.ClientJobs.{JobsStand}
use Rattle.file_transfer.specs.GetRegisteredStands.{loads_after}
use Rattle.file_transfer.proofs.GetRounds.{length-loads}
use Rattle.file_transfer.proofs.GetPagesLemmas.{sizes-short}
use Rattle.file_transfer.proofs.GetRegisteredLemmas.{few-completed, last-of-round, round-goes, round-ends}
use Rattle.file_transfer.proofs.get_registered.completed.Goals as goal

pub overflow_add-rounds : goal.overflow_add-rounds
overflow_add-rounds c =
    let r = c.requires in
    omega (arith, few-completed r.past c.args.completion c.args.rounds.now r.stands.requests.lawful r.stands.rounds r.answers_it, r.stands.requests.asked.sent, c.sent-sent.ensures, c.sent-sent.type_inv)

pub take_pages-requires-clause-room : goal.take_pages-requires-clause-room
take_pages-requires-clause-room c =
    let r = c.requires in
    r.stands.groups.room
    (last-of-round r.past c.args.completion c.args.rounds.now r.stands.requests.lawful r.stands.rounds r.answers_it
    (omega (arith, c.if-rounds-from.true, c.from.ensures, c.sent-sent.ensures, r.stands.requests.asked.sent))).awaited

pub take_pages-requires-clause-short : goal.take_pages-requires-clause-short
take_pages-requires-clause-short c =
    let r = c.requires in
    let l = last-of-round r.past c.args.completion c.args.rounds.now r.stands.requests.lawful r.stands.rounds r.answers_it
    (omega (arith, c.if-rounds-from.true, c.from.ensures, c.sent-sent.ensures, r.stands.requests.asked.sent)) in
    let back = c.note.ensures.back r.past r.stands.requests.lawful r.answers_it l.awaited (r.stands.rounds.back l.awaited) in
    omega (arith, ap sizes back, sizes-short 16 (first_unload r.past) (Completed c.args.completion ∷ r.past) (r.answers_it, r.stands.requests.lawful))

pub begin_next-requires : goal.begin_next-requires
begin_next-requires c = λ whole.
    let r = c.requires in
    let l = last-of-round r.past c.args.completion c.args.rounds.now r.stands.requests.lawful r.stands.rounds r.answers_it
    (omega (arith, c.if-rounds-from.true, c.from.ensures, c.sent-sent.ensures, r.stands.requests.asked.sent)) in
    omega (
      arith,
      ap length (r.stands.rounds.next_loads l.awaited),
      length-loads 16 0,
      c.complete.ensures.kept (jobs_due r.past) r.past r.answers_it.work r.stands.rounds.jobs r.answers_it.is_open,
      l.kept,
    )

pub returns-then-rounds-from : goal.returns-then-rounds-from
returns-then-rounds-from c = λ past s a.
    round-ends past c.args.completion c.args.requests.now c.args.groups.now c.take_pages.new.self c.args.rounds.now
    (record { jobs = c.complete.new.self; slots = c.note.new.slots; next_loads = c.args.rounds.now.next_loads; completed = c.args.rounds.now.completed + 1 }) c.begin_next.new.rounds
    (record {
      stands = s;
      answers_it = a;
      jobs = c.complete.ensures.after (jobs_due past) past a.work c.args.completion s.rounds.jobs a.is_open refl;
      kept = c.complete.ensures.kept (jobs_due past) past a.work s.rounds.jobs a.is_open;
      loaded = c.note.ensures.loaded past s.requests.lawful a s.rounds.loaded;
      back = λ h. c.note.ensures.back past s.requests.lawful a h (s.rounds.back h);
      next_loads = refl;
      completed = refl;
    })
    (omega (arith, c.if-rounds-from.true, c.from.ensures, c.sent-sent.ensures))
    (c.take_pages.ensures ∙ ap (λ (n : ℕ). c.args.groups.now.came.items ++ some_bytes (take n (flat_map same_bytes (map back_in c.note.new.slots.items)))) c.last.ensures)
    (subst (λ (n : ℕ). JobsStand (jobs_due past ++ loads_after n c.args.rounds.now.next_loads.items) (Completed c.args.completion ∷ past) c.begin_next.new.rounds.jobs) c.last-then-rounds-from.ensures
    (c.begin_next.ensures.jobs (jobs_due past) _ (c.complete.ensures.after (jobs_due past) past a.work c.args.completion s.rounds.jobs a.is_open refl)))
    (ap (λ (n : ℕ). c.begin_next.new.rounds.jobs.kept + length (loads_after n c.args.rounds.now.next_loads.items)) (sym c.last-then-rounds-from.ensures) ∙ c.begin_next.ensures.kept)
    (ap (λ v. v.items) c.begin_next.ensures.same.0) c.begin_next.ensures.same.1

pub returns-else-rounds-from : goal.returns-else-rounds-from
returns-else-rounds-from c = λ past s a.
    round-goes past c.args.completion c.args.requests.now c.args.groups.now c.args.rounds.now _
    (record {
      stands = s;
      answers_it = a;
      jobs = c.complete.ensures.after (jobs_due past) past a.work c.args.completion s.rounds.jobs a.is_open refl;
      kept = c.complete.ensures.kept (jobs_due past) past a.work s.rounds.jobs a.is_open;
      loaded = c.note.ensures.loaded past s.requests.lawful a s.rounds.loaded;
      back = λ h. c.note.ensures.back past s.requests.lawful a h (s.rounds.back h);
      next_loads = refl;
      completed = refl;
    })
    (λ e. c.if-rounds-from.false (omega (arith, e, c.from.ensures, c.sent-sent.ensures)))
