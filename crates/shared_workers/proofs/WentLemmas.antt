-- A worker that went on, step by step.
use Rattle.std.proofs.Common.{◌≡◌, ◌+◌, ◌≤◌, inl, inr, Bool, Option, Some, None, List, [], ◌∷◌, ◌++◌, length, map, refl, sym, ap, ◌∙◌, subst, arith, append_assoc}
use Rattle.std.specs.Prelude.{option_to_list, reverse}
use Rattle.std.proofs.lemmas.List.{append-nil, map-append, reverse-append}
use Rattle.smbd_base.specs.declared.page_event.PageEvent.{PageEvent}
use Rattle.smbd_base.specs.declared.page_event.PageEvent.TheVariants as pages
use Rattle.event_log.specs.declared.log_line.LogLine.{LogLine}
use Rattle.event_log.specs.Lines.{logged_page}
use Rattle.file_messages.specs.declared.job.Job.{Job}
use Rattle.file_messages.specs.declared.job.Completion.{Completion}
use Rattle.completion_ring.specs.declared.jobs.Jobs.{Jobs}
use Rattle.completion_ring.specs.declared.done.Done.{Done}
use Rattle.completion_ring.specs.Rings.{sent, received, free, SameJobs, SameDone}
use Rattle.shared_pages.specs.declared.view.Opening.{Opening}
use Rattle.shared_pages.specs.declared.view.Sight.{Sight}
use Rattle.shared_pages.specs.Calls.{known_by}
use Rattle.page_workers.specs.declared.kept.Kept.{Kept}
use Rattle.page_workers.specs.declared.kept.Kept.TheVariants as keeps
use Rattle.page_workers.specs.declared.kept.Tried.{Tried}
use Rattle.page_workers.specs.declared.kept.Tried.TheVariants.{Finished, Begun, Refused}
use Rattle.page_workers.specs.Runs.{JobRun, IsKept}
use Rattle.page_workers.specs.Tries.{unload_job}
use Rattle.page_workers.proofs.RunLemmas.{run-keep, run-finish, run-left, run-issue}
use Rattle.page_workers.proofs.JobLaws.{given-wait}
use Rattle.shared_workers.specs.Tries.{HasTried, Finishes, IsUndone}
use Rattle.shared_workers.specs.Workers.{WorkerState, taken, finished, events, DoesJobs, WentOn, HasKept, kept_after, told_by, TriedKept}

-- ---- rings

same-done : {T : Type 0} (a b c : Done T) → SameDone a b → SameDone b c → SameDone a c
same-done a b c p q = ((q.0.0 ∙ p.0.0, q.0.1 ∙ p.0.1, q.0.2 ∙ p.0.2, q.0.3 ∙ p.0.3), q.1 ∙ p.1)

same-jobs : {T : Type 0} (a b c : Jobs T) → SameJobs a b → SameJobs b c → SameJobs a c
same-jobs a b c p q = ((q.0.0 ∙ p.0.0, q.0.1 ∙ p.0.1, q.0.2 ∙ p.0.2, q.0.3 ∙ p.0.3), q.1 ∙ p.1)

pub done-here : {T : Type 0} (a : Done T) → SameDone a a
done-here a = ((refl, refl, refl, refl), refl)

pub jobs-here : {T : Type 0} (a : Jobs T) → SameJobs a a
jobs-here a = ((refl, refl, refl, refl), refl)

-- ---- a worker that goes on twice, and one that tries nothing

joined : {A : Type 0} (xs ys zs more last : List A) → ys ≡ xs ++ more → zs ≡ ys ++ last → zs ≡ xs ++ (more ++ last)
joined xs ys zs more last one other = other ∙ ap (λ (l : List _). l ++ last) one ∙ append_assoc xs more last

pub went-trans : (a b c : WorkerState) → WentOn a b → WentOn b c → WentOn a c
went-trans a b c x y = record {
  took = x.took ++ y.took;
  told = x.told ++ y.told;
  made = x.made ++ y.made;
  gone = x.gone ++ y.gone;
  number = y.number ∙ x.number;
  pass = y.pass ∙ x.pass;
  jobs = same-done a.jobs b.jobs c.jobs x.jobs y.jobs;
  done = same-jobs a.done b.done c.done x.done y.done;
  takes = joined (taken a) (taken b) (taken c) x.took y.took x.takes y.takes;
  tells = joined (finished a) (finished b) (finished c) x.told y.told x.tells y.tells;
  makes = joined (events a) (events b) (events c) x.made y.made x.makes y.makes;
  sends = joined (sent a.done) (sent b.done) (sent c.done) x.gone y.gone x.sends y.sends;
  room = let one = x.room in let other = y.room in omega arith;
  lines = joined a.lines b.lines c.lines (map logged_page x.made) (map logged_page y.made) x.lines y.lines
      ∙ ap (λ (ls : List LogLine). a.lines ++ ls) (sym (map-append logged_page x.made y.made));
  does = λ h. y.does (x.does h);
}

does-by : (b : WorkerState) (kept : Option Kept) (jobs : List Job) (told : List Completion) (made : List PageEvent)
    → b.kept ≡ kept → taken b ≡ jobs → finished b ≡ told → events b ≡ made → JobRun kept [] jobs told made → DoesJobs b
does-by b kept jobs told made k j t m h =
    subst (λ (o : Option Kept). JobRun o [] (taken b) (finished b) (events b)) (sym k)
    (subst (λ (js : List Job). JobRun kept [] js (finished b) (events b)) (sym j)
    (subst (λ (cs : List Completion). JobRun kept [] jobs cs (events b)) (sym t)
    (subst (λ (es : List PageEvent). JobRun kept [] jobs told es) (sym m) h)))

-- nothing more: a list that stays
stays : {A : Type 0} (xs ys : List A) → ys ≡ xs → ys ≡ xs ++ []
stays xs ys same = same ∙ sym (append-nil xs)

-- the completion that waited may have been sent, and nothing else
pub went-send : (a b : WorkerState) → b ≡ record a { done = b.done; unsent = b.unsent } → SameJobs a.done b.done → finished b ≡ finished a
    → (gone : List Completion) → sent b.done ≡ sent a.done ++ gone → free a.done + length (sent a.done) ≤ free b.done + length (sent b.done) → WentOn a b
went-send a b same ring tells gone sends room =
    let made : events b ≡ events a = ap (λ (w : WorkerState). events w) same in
    let took : taken b ≡ taken a = ap (λ (w : WorkerState). taken w) same in
    record {
      took = [];
      told = [];
      made = [];
      gone = gone;
      number = ap (λ (w : WorkerState). w.number) same;
      pass = ap (λ (w : WorkerState). (known_by w.pass).number) same;
      jobs = subst (λ (j : Done Job). SameDone a.jobs j) (sym (ap (λ (w : WorkerState). w.jobs) same)) (done-here a.jobs);
      done = ring;
      takes = stays (taken a) (taken b) took;
      tells = stays (finished a) (finished b) tells;
      makes = stays (events a) (events b) made;
      sends = sends;
      room = room;
      lines = stays a.lines b.lines (ap (λ (w : WorkerState). w.lines) same);
      does = λ h. does-by b a.kept (taken a) (finished a) (events a) (ap (λ (w : WorkerState). w.kept) same) took tells made h;
    }

-- a job was taken out of the ring, or none; the pass and the completions stay
module _ (a b : WorkerState) (same : b ≡ record a { jobs = b.jobs; kept = b.kept }) (ring : SameDone a.jobs b.jobs) where
  tells-same : finished b ≡ finished a
  tells-same = ap (λ (w : WorkerState). finished w) same

  made-same : events b ≡ events a
  made-same = ap (λ (w : WorkerState). events w) same

  takes-some : (took : List Job) → taken b ≡ taken a ++ took → (DoesJobs a → DoesJobs b) → WentOn a b
  takes-some took takes does = record {
    took = took;
    told = [];
    made = [];
    gone = [];
    number = ap (λ (w : WorkerState). w.number) same;
    pass = ap (λ (w : WorkerState). (known_by w.pass).number) same;
    jobs = ring;
    done = subst (λ (j : Jobs Completion). SameJobs a.done j) (sym (ap (λ (w : WorkerState). w.done) same)) (jobs-here a.done);
    takes = takes;
    tells = stays (finished a) (finished b) tells-same;
    makes = stays (events a) (events b) made-same;
    sends = stays (sent a.done) (sent b.done) (ap (λ (w : WorkerState). sent w.done) same);
    room = let is : free b.done + length (sent b.done) ≡ free a.done + length (sent a.done) = ap (λ (w : WorkerState). free w.done + length (sent w.done)) same in omega (arith, is);
    lines = stays a.lines b.lines (ap (λ (w : WorkerState). w.lines) same);
    does = does;
  }

  pub went-idle : taken b ≡ taken a → b.kept ≡ a.kept → WentOn a b
  went-idle took kept = takes-some [] (stays (taken a) (taken b) took)
      (λ h. does-by b a.kept (taken a) (finished a) (events a) kept took tells-same made-same h)

  pub went-keep : HasKept a b → WentOn a b
  went-keep (kept, (is, inl h)) = went-idle h.1 (is ∙ sym h.0)
  went-keep (kept, (is, inr (none, (job, fresh, takes)))) = takes-some (job ∷ []) takes
      (λ h. does-by b (Some (keeps.Fresh job)) (taken a ++ job ∷ []) (finished a) (events a) (is ∙ ap (λ (k : Kept). Some k) fresh) takes tells-same made-same
      (run-keep [] job (taken a ++ job ∷ []) (finished a) (events a)
      (given-wait None [] (taken a) (finished a) (events a) job
      (subst (λ (o : Option Kept). JobRun o [] (taken a) (finished a) (events a)) none h))))

pub went-same : (w : WorkerState) → WentOn w w
went-same w = went-idle w w refl (done-here w.jobs) refl refl

-- ---- one try

newest : (e : PageEvent) (old new : List PageEvent) → new ≡ e ∷ old → reverse new ≡ reverse old ++ e ∷ []
newest e old new is = ap (λ (l : List PageEvent). reverse l) is ∙ reverse-append (e ∷ []) old

module _ (pool : Opening) (a b : WorkerState) (over : Bool) (t : TriedKept pool a b over) where
  takes-same : taken b ≡ taken a
  takes-same = ap (λ (j : Done Job). received j) t.jobs

  tried : (told : List Completion) (made : List PageEvent) → finished b ≡ finished a ++ told → (known_by b.pass).number ≡ (known_by a.pass).number
      → events b ≡ events a ++ made → b.lines ≡ a.lines ++ map logged_page made → (DoesJobs a → DoesJobs b) → WentOn a b
  tried told made tells number makes lines does = record {
    took = [];
    told = told;
    made = made;
    gone = t.gone;
    number = t.number;
    pass = number;
    jobs = subst (λ (j : Done Job). SameDone a.jobs j) (sym t.jobs) (done-here a.jobs);
    done = t.done;
    takes = stays (taken a) (taken b) takes-same;
    tells = tells;
    makes = makes;
    sends = t.sends;
    room = t.room;
    lines = lines;
    does = does;
  }

  lines-by : (line more : Option LogLine) (ls : List LogLine) → b.lines ≡ a.lines ++ option_to_list line → line ≡ more → option_to_list more ≡ ls → b.lines ≡ a.lines ++ ls
  lines-by line more ls is same this = is ∙ ap (λ (x : List LogLine). a.lines ++ x) (ap (λ (o : Option LogLine). option_to_list o) same ∙ this)

  was : (kept : Kept) → a.kept ≡ Some kept → DoesJobs a → JobRun (Some kept) [] (taken a) (finished a) (events a)
  was kept is h = subst (λ (o : Option Kept). JobRun o [] (taken a) (finished a) (events a)) is h

  finishes : (kept : Kept) (j : Job) (c : Completion) (line : Option LogLine) → ((x : Job) (made : List PageEvent) → IsKept kept x made → (x ≡ j) × (made ≡ []))
      → a.kept ≡ Some kept → b.kept ≡ None → finished b ≡ finished a ++ c ∷ [] → b.lines ≡ a.lines ++ option_to_list line
      → Finishes j c line (known_by a.pass) (known_by b.pass) → WentOn a b
  finishes kept j c line whole is left tells lines f =
      let makes : events b ≡ events a ++ f.event ∷ [] = newest f.event (known_by a.pass).made (known_by b.pass).made f.makes.made in
      tried (c ∷ []) (f.event ∷ []) tells f.makes.number makes (lines-by line (Some (logged_page f.event)) (logged_page f.event ∷ []) lines f.told refl)
      (λ h. does-by b None (taken a) (finished a ++ c ∷ []) (events a ++ f.event ∷ []) left takes-same tells makes
      (run-finish kept j [] (taken a) (finished a) (events a) c f.event whole f.done (was kept is h)))

  undone : (kept : Kept) (line : Option LogLine) → a.kept ≡ Some kept → b.kept ≡ Some kept → finished b ≡ finished a ++ [] → b.lines ≡ a.lines ++ option_to_list line
      → IsUndone pool kept line (known_by a.pass) (known_by b.pass) → WentOn a b
  undone kept line is left tells lines h =
      let makes : events b ≡ events a = ap (λ (l : List PageEvent). reverse l) h.made.made in
      tried [] [] tells h.made.number (stays (events a) (events b) makes) (lines-by line None [] lines h.silent refl)
      (λ d. does-by b a.kept (taken a) (finished a) (events a) (left ∙ sym is) takes-same (tells ∙ append-nil (finished a)) makes d)

  by : (kept : Kept) (some : Tried) (line : Option LogLine) → a.kept ≡ Some kept → b.kept ≡ kept_after kept some → finished b ≡ finished a ++ told_by some
      → b.lines ≡ a.lines ++ option_to_list line → HasTried pool kept some line (known_by a.pass) (known_by b.pass) → WentOn a b
  by (keeps.Fresh j) (Finished c) line is left tells lines h = finishes (keeps.Fresh j) j c line (λ x made this. this) is left tells lines h.0
  by (keeps.Fresh j) (Begun (keeps.Fresh k)) line is left tells lines h = absurd h
  by (keeps.Fresh j) (Begun (keeps.Loaded number token right len)) line is left tells lines h =
      let load = pages.Load token right h.bytes in
      let makes : events b ≡ events a ++ load ∷ [] = newest load (known_by a.pass).made (known_by b.pass).made h.makes.made in
      tried [] (load ∷ []) tells h.makes.number makes (lines-by line (Some (logged_page load)) (logged_page load ∷ []) lines h.told refl)
      (λ d. does-by b (Some (keeps.Loaded number token right len)) (taken a) (finished a) (events a ++ load ∷ []) left takes-same (tells ∙ append-nil (finished a)) makes
      (run-left (keeps.Fresh j) (keeps.Loaded number token right len) [] (taken a) (finished a) (events a) (load ∷ [])
      (λ x before this. record {
        lawful = h.lawful;
        bytes = h.bytes;
        length_is = h.length_is;
        job_is = this.0 ∙ h.load_is;
        made_is = ap (λ (es : List PageEvent). es ++ load ∷ []) this.1;
      })
      (was (keeps.Fresh j) is d)))
  by (keeps.Fresh j) (Begun (keeps.Withdrawn number token)) line is left tells lines h =
      let makes : events b ≡ events a ++ [] = stays (events a) (events b) (ap (λ (l : List PageEvent). reverse l) h.made.made) in
      tried [] [] tells h.made.number makes (lines-by line None [] lines h.silent refl)
      (λ d. does-by b (Some (keeps.Withdrawn number token)) (taken a) (finished a) (events a ++ []) left takes-same (tells ∙ append-nil (finished a)) makes
      (run-left (keeps.Fresh j) (keeps.Withdrawn number token) [] (taken a) (finished a) (events a) []
      (λ x before this. (this.0 ∙ h.unload_is, ap (λ (es : List PageEvent). es ++ []) this.1)) (was (keeps.Fresh j) is d)))
  by (keeps.Fresh j) Refused line is left tells lines h = undone (keeps.Fresh j) line is left tells lines h
  by (keeps.Loaded number token right len) (Finished c) line is left tells lines h =
      let makes : events b ≡ events a = ap (λ (v : Sight). reverse v.made) h.same in
      tried (c ∷ []) [] tells (ap (λ (v : Sight). v.number) h.same) (stays (events a) (events b) makes) (lines-by line None [] lines h.silent refl)
      (λ d. does-by b None (taken a) (finished a ++ c ∷ []) (events a) left takes-same tells makes
      (run-issue number token right len [] (taken a) (finished a) (events a) c h.says (was (keeps.Loaded number token right len) is d)))
  by (keeps.Loaded number token right len) (Begun k) line is left tells lines h = absurd h
  by (keeps.Loaded number token right len) Refused line is left tells lines h = undone (keeps.Loaded number token right len) line is left tells lines h
  by (keeps.Withdrawn number token) (Finished c) line is left tells lines h =
      finishes (keeps.Withdrawn number token) (unload_job number token) c line (λ x made this. this) is left tells lines h.0
  by (keeps.Withdrawn number token) (Begun k) line is left tells lines h = absurd h
  by (keeps.Withdrawn number token) Refused line is left tells lines h = undone (keeps.Withdrawn number token) line is left tells lines h

  pub went-try : WentOn a b
  went-try = by t.kept t.tried t.line t.kept_is t.left t.tells t.lines t.tries
