-- A worker that went on, step by step.
use Rattle.std.proofs.Common.{◌≡◌, ℕ, zero, suc, ◌+◌, ◌<◌, ◌≤◌, ◌⊎◌, inl, inr, take, drop, Bool, true, false, Option, Some, None, List, [], ◌∷◌, ◌++◌, length, map, refl, sym, ap, ◌∙◌, subst, arith, append_assoc, length-append}
use Rattle.std.specs.Prelude.{option_to_list, slice_index_or, slice_set}
use Rattle.std.proofs.lemmas.List.{append-nil, map-append}
use Rattle.smbd_base.specs.declared.page_event.PageEvent.{PageEvent}
use Rattle.smbd_base.specs.declared.page_event.PageEvent.TheVariants as events
use Rattle.smbd_base.specs.Pages.{PageState, IsPoolStep}
use Rattle.event_log.specs.declared.log_line.LogLine.{LogLine}
use Rattle.event_log.specs.Lines.{logged_page}
use Rattle.file_messages.specs.declared.job.Job.{Job}
use Rattle.file_messages.specs.declared.job.Completion.{Completion}
use Rattle.registration.specs.Regions.{RegionState}
use Rattle.page_workers.specs.declared.kept.Kept.{Kept}
use Rattle.page_workers.specs.declared.kept.Kept.TheVariants as keeps
use Rattle.page_workers.specs.declared.kept.Tried.{Tried}
use Rattle.page_workers.specs.declared.kept.Tried.TheVariants.{Finished, Begun, Refused}
use Rattle.page_workers.specs.Tries.{HasTried, Finishes, IsUndone, IsStep, IsRefused, unload_job}
use Rattle.page_workers.specs.Runs.{JobRun, IsKept}
use Rattle.page_workers.specs.Workers.{WorkerState, AreSteps, WentOn, with_next, next_kept, after_try, is_finished, TriedOnce, IsIdle, IsHeld, HasFinished, HasTriedJobs, EndsRun, HasRun, HaveRun}
use Rattle.page_workers.proofs.RunLemmas.{run-keep, run-finish, run-left, run-issue}

-- ---- events one after another

steps-from : (made : List PageEvent) (a b c : RegionState) → b.pages ≡ a.pages → AreSteps made b c → AreSteps made a c
steps-from [] a b c same h = h ∙ same
steps-from (e ∷ made) a b c same h = (h.0, subst (λ (pages : List PageState). IsPoolStep e pages h.0.pages) same h.1, h.2)

pub steps-trans : (made more : List PageEvent) (a b c : RegionState) → AreSteps made a b → AreSteps more b c → AreSteps (made ++ more) a c
steps-trans [] more a b c h k = steps-from more a b c h k
steps-trans (e ∷ made) more a b c h k = (h.0, h.1, steps-trans made more h.0 b c h.2 k)

one-step : (e : PageEvent) (a b : RegionState) → IsStep e a b → AreSteps (e ∷ []) a b
one-step e a b step = (b, step, refl)

-- ---- a worker that does nothing, and one that goes on twice

-- the same runs, with nothing added
no-more : (kept : Option Kept) (waiting jobs : List Job) (sent : List Completion) (made : List PageEvent)
    → JobRun kept waiting jobs sent made → JobRun kept waiting jobs (sent ++ []) (made ++ [])
no-more kept waiting jobs sent made h =
    subst (λ (cs : List Completion). JobRun kept waiting jobs cs (made ++ [])) (sym (append-nil sent))
    (subst (λ (es : List PageEvent). JobRun kept waiting jobs sent es) (sym (append-nil made)) h)

pub went-trans : (a b c : WorkerState) (r s t : RegionState) → WentOn a b r s → WentOn b c s t → WentOn a c r t
went-trans a b c r s t x y = record {
  sent = x.sent ++ y.sent;
  made = x.made ++ y.made;
  number = y.number ∙ x.number;
  pass = y.pass ∙ x.pass;
  done = y.done ∙ ap (λ (cs : List Completion). cs ++ y.sent) x.done ∙ append_assoc a.done x.sent y.sent;
  lines = y.lines ∙ ap (λ (ls : List LogLine). ls ++ map logged_page y.made) x.lines
      ∙ append_assoc a.lines (map logged_page x.made) (map logged_page y.made)
      ∙ ap (λ (ls : List LogLine). a.lines ++ ls) (sym (map-append logged_page x.made y.made));
  steps = steps-trans x.made y.made r s t x.steps y.steps;
  runs = λ jobs before earlier h.
      subst (λ (cs : List Completion). JobRun c.kept c.waiting jobs cs (earlier ++ (x.made ++ y.made))) (append_assoc before x.sent y.sent)
      (subst (λ (es : List PageEvent). JobRun c.kept c.waiting jobs ((before ++ x.sent) ++ y.sent) es) (append_assoc earlier x.made y.made)
      (y.runs jobs (before ++ x.sent) (earlier ++ x.made) (x.runs jobs before earlier h)));
}

pub went-same : (w : WorkerState) (r s : RegionState) → s ≡ r → WentOn w w r s
went-same w r s same = record {
  sent = [];
  made = [];
  number = refl;
  pass = refl;
  done = sym (append-nil w.done);
  lines = sym (append-nil w.lines);
  steps = ap (λ (x : RegionState). x.pages) same;
  runs = λ jobs before earlier h. no-more w.kept w.waiting jobs before earlier h;
}

pub went-keep : (w : WorkerState) (r : RegionState) → WentOn w (next_kept w) r r
went-keep w r = by w.kept w.waiting refl refl where
  by : (kept : Option Kept) (waiting : List Job) → w.kept ≡ kept → w.waiting ≡ waiting → WentOn w (with_next kept waiting w) r r
  by (Some kept) waiting k q = went-same w r r refl
  by None [] k q = went-same w r r refl
  by None (j ∷ waiting) k q = record {
    sent = [];
    made = [];
    number = refl;
    pass = refl;
    done = sym (append-nil w.done);
    lines = sym (append-nil w.lines);
    steps = refl;
    runs = λ jobs before earlier h. no-more (Some (keeps.Fresh j)) waiting jobs before earlier
        (run-keep waiting j jobs before earlier
        (subst (λ (o : Option Kept). JobRun o (j ∷ waiting) jobs before earlier) k
        (subst (λ (js : List Job). JobRun w.kept js jobs before earlier) q h)));
  }

-- ---- one try

module _ (a : WorkerState) (r s : RegionState) (line : Option LogLine) (kept : Kept) (is : a.kept ≡ Some kept) where
  was : (jobs : List Job) (before : List Completion) (earlier : List PageEvent) → JobRun a.kept a.waiting jobs before earlier → JobRun (Some kept) a.waiting jobs before earlier
  was jobs before earlier h = subst (λ (o : Option Kept). JobRun o a.waiting jobs before earlier) is h

  told : (more : List LogLine) (l : Option LogLine) → line ≡ l → option_to_list l ≡ more → a.lines ++ option_to_list line ≡ a.lines ++ more
  told more l same this = ap (λ (ls : List LogLine). a.lines ++ ls) (ap (λ (o : Option LogLine). option_to_list o) same ∙ this)

  finishes : (j : Job) (c : Completion) → ((x : Job) (made : List PageEvent) → IsKept kept x made → (x ≡ j) × (made ≡ []))
      → Finishes j c line r s → WentOn a (after_try (Finished c) line a) r s
  finishes j c whole f = record {
    sent = c ∷ [];
    made = f.event ∷ [];
    number = refl;
    pass = refl;
    done = refl;
    lines = told (logged_page f.event ∷ []) (Some (logged_page f.event)) f.told refl;
    steps = one-step f.event r s f.step;
    runs = λ jobs before earlier h. run-finish kept j a.waiting jobs before earlier c f.event whole f.done (was jobs before earlier h);
  }

  -- nothing is sent, and what is kept is told by another stage of the job
  stays : (left : Kept) (made : List PageEvent) → ((x : Job) (before : List PageEvent) → IsKept kept x before → IsKept left x (before ++ made))
      → a.lines ++ option_to_list line ≡ a.lines ++ map logged_page made → AreSteps made r s → WentOn a (after_try (Begun left) line a) r s
  stays left made goes lines steps = record {
    sent = [];
    made = made;
    number = refl;
    pass = refl;
    done = sym (append-nil a.done);
    lines = lines;
    steps = steps;
    runs = λ jobs before earlier h. subst (λ (cs : List Completion). JobRun (Some left) a.waiting jobs cs (earlier ++ made)) (sym (append-nil before))
        (run-left kept left a.waiting jobs before earlier made goes (was jobs before earlier h));
  }

  silent : line ≡ None → a.lines ++ option_to_list line ≡ a.lines ++ map logged_page []
  silent none = told [] None none refl

  undone : IsUndone kept line r s → WentOn a (after_try Refused line a) r s
  undone h = record {
    sent = [];
    made = [];
    number = refl;
    pass = refl;
    done = sym (append-nil a.done);
    lines = silent h.silent;
    steps = ap (λ (x : RegionState). x.pages) h.region;
    runs = λ jobs before earlier this. no-more a.kept a.waiting jobs before earlier this;
  }

pub went-by : (a : WorkerState) (r s : RegionState) (line : Option LogLine) (kept : Kept) (tried : Tried) → a.kept ≡ Some kept → HasTried kept tried line r s
    → WentOn a (after_try tried line a) r s
went-by a r s line (keeps.Fresh j) (Finished c) is h = finishes a r s line (keeps.Fresh j) is j c (λ x made this. this) h.0
went-by a r s line (keeps.Fresh j) (Begun (keeps.Fresh k)) is h = absurd h
went-by a r s line (keeps.Fresh j) Refused is h = undone a r s line (keeps.Fresh j) is h
went-by a r s line (keeps.Fresh j) (Begun (keeps.Loaded number token right len)) is h =
    stays a r s line (keeps.Fresh j) is (keeps.Loaded number token right len) (events.Load token right h.bytes ∷ [])
    (λ x before this. record {
      lawful = h.lawful;
      bytes = h.bytes;
      length_is = h.length_is;
      job_is = this.0 ∙ h.load_is;
      made_is = ap (λ (es : List PageEvent). es ++ events.Load token right h.bytes ∷ []) this.1;
    })
    (told a r s line (keeps.Fresh j) is (logged_page (events.Load token right h.bytes) ∷ []) (Some (logged_page (events.Load token right h.bytes))) h.told refl)
    (one-step (events.Load token right h.bytes) r s h.step)
went-by a r s line (keeps.Fresh j) (Begun (keeps.Withdrawn number token)) is h =
    stays a r s line (keeps.Fresh j) is (keeps.Withdrawn number token) []
    (λ x before this. (this.0 ∙ h.unload_is, ap (λ (es : List PageEvent). es ++ []) this.1)) (silent a r s line (keeps.Fresh j) is h.silent) h.pages
went-by a r s line (keeps.Loaded number token right len) (Finished c) is h = record {
  sent = c ∷ [];
  made = [];
  number = refl;
  pass = refl;
  done = refl;
  lines = silent a r s line (keeps.Loaded number token right len) is h.silent;
  steps = h.pages;
  runs = λ jobs before earlier this. subst (λ (es : List PageEvent). JobRun None a.waiting jobs (before ++ c ∷ []) es) (sym (append-nil earlier))
      (run-issue number token right len a.waiting jobs before earlier c h.says (was a r s line (keeps.Loaded number token right len) is jobs before earlier this));
}
went-by a r s line (keeps.Loaded number token right len) (Begun k) is h = absurd h
went-by a r s line (keeps.Loaded number token right len) Refused is h = undone a r s line (keeps.Loaded number token right len) is h
went-by a r s line (keeps.Withdrawn number token) (Finished c) is h =
    finishes a r s line (keeps.Withdrawn number token) is (unload_job number token) c (λ x made this. this) h.0
went-by a r s line (keeps.Withdrawn number token) (Begun k) is h = absurd h
went-by a r s line (keeps.Withdrawn number token) Refused is h = undone a r s line (keeps.Withdrawn number token) is h

pub went-tried : (a b : WorkerState) (r s : RegionState) (finished : Bool) → TriedOnce a b r s finished → WentOn a b r s
went-tried a b r s finished t = subst (λ (w : WorkerState). WentOn a w r s) (sym t.after) (went-by a r s t.line t.kept t.tried t.kept_is t.tries)

-- ---- a job that isn't finished is refused

begun-refused : (r s : RegionState) (line : Option LogLine) (kept left : Kept) → HasTried kept (Begun left) line r s → IsRefused left s
begun-refused r s line (keeps.Fresh j) (keeps.Fresh k) h = absurd h
begun-refused r s line (keeps.Fresh j) (keeps.Loaded number token right len) h = h.refused
begun-refused r s line (keeps.Fresh j) (keeps.Withdrawn number token) h = h.refused
begun-refused r s line (keeps.Loaded number token right len) left h = absurd h
begun-refused r s line (keeps.Withdrawn number token) left h = absurd h

undone-refused : (r s : RegionState) (line : Option LogLine) (kept : Kept) → HasTried kept Refused line r s → IsRefused kept s
undone-refused r s line (keeps.Fresh j) h = subst (λ (x : RegionState). IsRefused (keeps.Fresh j) x) (sym h.region) h.refused
undone-refused r s line (keeps.Loaded number token right len) h = subst (λ (x : RegionState). IsRefused (keeps.Loaded number token right len) x) (sym h.region) h.refused
undone-refused r s line (keeps.Withdrawn number token) h = subst (λ (x : RegionState). IsRefused (keeps.Withdrawn number token) x) (sym h.region) h.refused

pub held-tried : (a b : WorkerState) (r s : RegionState) → TriedOnce a b r s false → IsHeld b s
held-tried a b r s t = by t.tried t.says t.tries t.after where
  by : (tried : Tried) → false ≡ is_finished tried → HasTried t.kept tried t.line r s → b ≡ after_try tried t.line a → IsHeld b s
  by (Finished c) says h after = absurd (let no : ⊥ = cc in no)
  by (Begun k) says h after = record { kept = k; kept_is = ap (λ (w : WorkerState). w.kept) after; refused = begun-refused r s t.line t.kept k h }
  by Refused says h after =
      record { kept = t.kept; kept_is = ap (λ (w : WorkerState). w.kept) after ∙ t.kept_is; refused = undone-refused r s t.line t.kept h }

-- as many completions were sent as came to those that wait
pub sent-count : (a b : WorkerState) (r s : RegionState) (w : WentOn a b r s) → length b.done ≡ length a.done + length w.sent
sent-count a b r s w = ap (λ (cs : List Completion). length cs) w.done ∙ length-append a.done w.sent

-- one more job was finished
pub finished-more : (n : ℕ) (a w b : WorkerState) (r q s : RegionState) → HasFinished n a w r q → TriedOnce (next_kept w) b q s true → HasFinished (suc n) a b r s
finished-more zero a w b r q s h t =
    (b, s, subst (λ (x : RegionState). TriedOnce (next_kept a) b x s true) h.1 (subst (λ (x : WorkerState). TriedOnce (next_kept x) b q s true) h.0 t), (refl, refl))
finished-more (suc n) a w b r q s h t = (h.0, h.1, h.2, finished-more n h.0 w b h.1 q s h.3 t)

-- what a worker did when it was called, told by how many completions were sent
pub has-run : (a b : WorkerState) (r s : RegionState) (fed : Bool) (n : ℕ) → WentOn a b r s → length b.done ≡ length a.done + n → n ≤ 16
    → HasTriedJobs n a b r s fed → (fed ≡ true → n < 16 → IsIdle b ⊎ IsHeld b s) → HasRun a b r s fed
has-run a b r s fed n w count few tries all =
    let same : length w.sent ≡ n = omega (arith, sent-count a b r s w, count) in
    record {
      went = w;
      most = subst (λ (k : ℕ). k ≤ 16) (sym same) few;
      tries = subst (λ (k : ℕ). HasTriedJobs k a b r s fed) (sym same) tries;
      all = λ f h. all f (subst (λ (k : ℕ). k < 16) same h);
    }

-- ---- workers in turn

-- where memory didn't run out, it makes no matter whether it may have
ends-weaker : (n : ℕ) (a b : WorkerState) (r s : RegionState) (fed : Bool) → EndsRun n true a b r s → EndsRun n fed a b r s
ends-weaker n a b r s fed (inl h) = inl h
ends-weaker n a b r s fed (inr (inl h)) = inr (inl h)
ends-weaker n a b r s fed (inr (inr (inl h))) = inr (inr (inl h))
ends-weaker n a b r s fed (inr (inr (inr h))) = absurd (let no : ⊥ = cc in no)

weaker : (a b : WorkerState) (r s : RegionState) (fed : Bool) → HasRun a b r s true → HasRun a b r s fed
weaker a b r s fed h = record {
  went = h.went;
  most = h.most;
  tries = record {
    worker = h.tries.worker;
    region = h.tries.region;
    finished = h.tries.finished;
    ends = ends-weaker (length h.went.sent) h.tries.worker b h.tries.region s fed h.tries.ends;
  };
  all = λ f. h.all refl;
}

idle-all : (ws : List WorkerState) (r : RegionState) → HaveRun ws ws r r false
unfolding went-same
idle-all [] r = refl
idle-all (w ∷ ws) r =
    let no : false ≡ true → ⊥ = λ e. cc in (
      r,
      record {
        went = went-same w r r refl;
        most = (let few : 0 ≤ 16 = omega arith in few);
        tries = record { worker = w; region = r; finished = (refl, refl); ends = inr (inr (inr (refl, (inl refl, refl)))) };
        all = λ f h. absurd (no f);
      },
      idle-all ws r,
    )

empty : (i : ℕ) → ◌≡◌ {A = List WorkerState} (drop i []) []
empty zero = refl
empty (suc i) = refl

-- one more worker had its turn
pub turn-more : (olds news : List WorkerState) (i : ℕ) (d v : WorkerState) (r m s : RegionState) → i < length news → HaveRun (take i olds) (take i news) r m true
    → drop i news ≡ drop i olds → HasRun (slice_index_or news i d) v m s true → HaveRun (take (suc i) olds) (take (suc i) (slice_set news i v)) r s true
turn-more olds [] i d v r m s among front rest h = absurd (omega (arith, among))
turn-more [] (b ∷ news) zero d v r m s among front rest h = absurd (let no : ⊥ = cc in no)
turn-more (a ∷ olds) (b ∷ news) zero d v r m s among front rest h =
    let first : b ≡ a = cc in
    (s, subst (λ (x : RegionState). HasRun a v x s true) front (subst (λ (x : WorkerState). HasRun x v m s true) first h), refl)
turn-more [] (b ∷ news) (suc i) d v r m s among front rest h = absurd front
turn-more (a ∷ olds) (b ∷ news) (suc i) d v r m s among front rest h =
    (front.0, front.1, turn-more olds news i d v front.0 m s (omega (arith, among)) front.2 rest h)

-- the last of those that had a turn; those after it stay as they are
pub turn-stops : (olds news : List WorkerState) (i : ℕ) (d v : WorkerState) (r m s : RegionState) → i < length news → HaveRun (take i olds) (take i news) r m true
    → drop i news ≡ drop i olds → HasRun (slice_index_or news i d) v m s false → HaveRun olds (slice_set news i v) r s false
turn-stops olds [] i d v r m s among front rest h = absurd (omega (arith, among))
turn-stops [] (b ∷ news) zero d v r m s among front rest h = absurd (let no : ⊥ = cc in no)
turn-stops (a ∷ olds) (b ∷ news) zero d v r m s among front rest h =
    let first : b ≡ a = cc in
    let later : news ≡ olds = cc in (
      s,
      subst (λ (x : RegionState). HasRun a v x s false) front (subst (λ (x : WorkerState). HasRun x v m s false) first h),
      subst (λ (ws : List WorkerState). HaveRun olds ws s s false) (sym later) (idle-all olds s),
    )
turn-stops [] (b ∷ news) (suc i) d v r m s among front rest h = absurd front
turn-stops (a ∷ olds) (b ∷ news) (suc i) d v r m s among front rest h =
    (front.0, weaker a b r front.0 false front.1, turn-stops olds news i d v front.0 m s (omega (arith, among)) front.2 rest h)

pub rest-more : (olds news : List WorkerState) (i : ℕ) (v : WorkerState) → i < length news → drop i news ≡ drop i olds
    → drop (suc i) (slice_set news i v) ≡ drop (suc i) olds
rest-more olds [] i v among rest = absurd (omega (arith, among))
rest-more [] (b ∷ news) zero v among rest = absurd (let no : ⊥ = cc in no)
rest-more [] (b ∷ news) (suc i) v among rest = rest-more [] news i v (omega (arith, among)) (rest ∙ sym (empty i))
rest-more (a ∷ olds) (b ∷ news) zero v among rest = let same : news ≡ olds = cc in same
rest-more (a ∷ olds) (b ∷ news) (suc i) v among rest = rest-more olds news i v (omega (arith, among)) rest
