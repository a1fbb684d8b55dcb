-- The crew after its workers did their jobs in turn.
use Rattle.std.proofs.Common.{◌≡◌, ◌⊎◌, inl, inr, ℕ, zero, suc, ◌+◌, ◌<◌, ◌≤◌, Bool, true, Result, Ok, Err, Some, List, [], ◌∷◌, ◌++◌, length, reverse, refl, sym, ap, ◌∙◌, subst, arith, append_assoc, length-append}
use Rattle.std.specs.Prelude.{slice_get, slice_set, is_ok, OnOk}
use Rattle.std.proofs.lemmas.List.{append-nil, length-set, set_at}
use Rattle.smbd_base.specs.declared.page_event.PageEvent.{PageEvent}
use Rattle.smbd_base.specs.Pages.{Entry, PageState, page_in, page_at, page_after}
use Rattle.smbd_base.specs.PagesFit.{events_by}
use Rattle.file_pasts.proofs.Lists.{within}
use Rattle.registration.specs.Regions.{RegionState}
use Rattle.page_workers.specs.Workers.{WorkerState, WentOn, HaveRun, AreSteps}
use Rattle.page_workers.specs.Laws.{with_events}
use Rattle.copy_laws.specs.Coupled.{Pasts, AreCoupled}
use Rattle.copy_laws.proofs.StepsLists.{get-middle}
use Rattle.copy_laws.proofs.StepsWent.{client-works, server-works, events-own, events-other}
use Rattle.page_crew.specs.Crews.{CrewState, IsSized, IsCrewOf, AreAsMany, HaveTurned, Grew, AllGrew, GoesOn}
use Rattle.page_crew.proofs.CrewOf.{crew, coupled-of}

-- ---- as many workers and pages

steps-count : (made : List PageEvent) (a b : RegionState) → AreSteps made a b → length b.pages ≡ length a.pages
steps-count [] a b h = ap (λ (ps : List PageState). length ps) h
steps-count (e ∷ made) a b h =
    steps-count made h.0 b h.2 ∙ ap (λ (ps : List PageState). length ps) h.1.after ∙ length-set a.pages (page_in e) (page_after e (page_at (page_in e) a.pages))

run-count : (olds news : List WorkerState) (r s : RegionState) (fed : Bool) → HaveRun olds news r s fed → (length news ≡ length olds) × (length s.pages ≡ length r.pages)
run-count [] [] r s fed h = (refl, ap (λ (x : RegionState). length x.pages) h)
run-count [] (v ∷ news) r s fed h = absurd h
run-count (w ∷ olds) [] r s fed h = absurd h
run-count (w ∷ olds) (v ∷ news) r s fed h =
    let later : (length news ≡ length olds) × (length s.pages ≡ length h.0.pages) = run-count olds news h.0 s fed h.2 in
    (ap suc later.0, later.1 ∙ steps-count h.1.went.made r h.0 h.1.went.steps)

-- the client's workers alone
pub many-clients : (a : CrewState) (r m : RegionState) (cs ws ss : List WorkerState) (fed : Bool) → crew r cs ss ≡ a → HaveRun cs ws r m fed → AreAsMany a (crew m ws ss)
many-clients a r m cs ws ss fed same h =
    subst (λ (x : CrewState). AreAsMany x (crew m ws ss)) same (record {
      clients = (run-count cs ws r m fed h).0;
      servers = refl;
      pages = (run-count cs ws r m fed h).1;
    })

-- and after them the server's
pub many-workers : (a : CrewState) (r m s : RegionState) (cs ws ss vs : List WorkerState) (fed more : Bool) → crew r cs ss ≡ a → HaveRun cs ws r m fed
    → HaveRun ss vs m s more → AreAsMany a (crew s ws vs)
many-workers a r m s cs ws ss vs fed more same h g =
    subst (λ (x : CrewState). AreAsMany x (crew s ws vs)) same (record {
      clients = (run-count cs ws r m fed h).0;
      servers = (run-count ss vs m s more g).0;
      pages = (run-count ss vs m s more g).1 ∙ (run-count cs ws r m fed h).1;
    })

pub sized-still : (a b : CrewState) → AreAsMany a b → IsSized a → IsSized b
sized-still a b m h = record {
  some = omega (arith, m.clients, h.some);
  few = omega (arith, m.clients, h.few);
  even = m.servers ∙ h.even ∙ sym m.clients;
  least = omega (arith, m.pages, h.least);
  most = omega (arith, m.pages, h.most);
}

-- ---- the events of one worker more

-- passes out of these made no event
abbrev Stay : ℕ → ℕ → List Entry → List Entry → Type 0
Stay from count before after = (q : ℕ) → (q < from) ⊎ (from + count ≤ q) → events_by q after ≡ events_by q before

out-more : (from count q : ℕ) → (q < from) ⊎ (from + suc count ≤ q) → (q < from + 1) ⊎ (from + 1 + count ≤ q)
out-more from count q (inl h) = inl (omega (arith, h))
out-more from count q (inr h) = inr (omega (arith, h))

out-other : (from count q : ℕ) → (q < from) ⊎ (from + suc count ≤ q) → from ≡ q → ⊥
out-other from count q (inl h) e = omega (arith, h, e)
out-other from count q (inr h) e = omega (arith, h, e)

grew-more : (from : ℕ) (before after : List Entry) (w v : WorkerState) (olds news : List WorkerState) → Grew from before after w v
    → AllGrew (from + 1) before after olds news → AllGrew from before after (w ∷ olds) (v ∷ news)
grew-more from before after w v olds news one rest zero a b at to =
    let first : w ≡ a = cc in
    let second : v ≡ b = cc in
    subst (λ (n : ℕ). Grew n before after a b) (let z : from ≡ from + zero = omega arith in z)
    (subst (λ (x : WorkerState). Grew from before after x b) first (subst (λ (y : WorkerState). Grew from before after w y) second one))
grew-more from before after w v olds news one rest (suc place) a b at to =
    subst (λ (n : ℕ). Grew n before after a b) (let z : from + 1 + place ≡ from + suc place = omega arith in z) (rest place a b at to)

-- the past began earlier, with events of other passes
grew-earlier : (from : ℕ) (earlier before after : List Entry) (olds news : List WorkerState)
    → ((place : ℕ) → place < length olds → events_by (from + place) before ≡ events_by (from + place) earlier)
    → AllGrew from before after olds news → AllGrew from earlier after olds news
grew-earlier from earlier before after olds news same all = λ place w v at to.
    let g : Grew (from + place) before after w v = all place w v at to in
    record {
      made = g.made;
      events = g.events ∙ ap (λ (es : List PageEvent). reverse es ++ g.made) (same place (within olds place w at));
      lines = g.lines;
    }

-- the past went on, with events of other passes
grew-later : (from : ℕ) (before after later : List Entry) (olds news : List WorkerState)
    → ((place : ℕ) → place < length olds → events_by (from + place) later ≡ events_by (from + place) after)
    → AllGrew from before after olds news → AllGrew from before later olds news
grew-later from before after later olds news same all = λ place w v at to.
    let g : Grew (from + place) before after w v = all place w v at to in
    record {
      made = g.made;
      events = ap (λ (es : List PageEvent). reverse es) (same place (within olds place w at)) ∙ g.events;
      lines = g.lines;
    }

-- workers that did nothing
grew-none : (from : ℕ) (before after : List Entry) (ws : List WorkerState)
    → ((place : ℕ) → place < length ws → events_by (from + place) after ≡ events_by (from + place) before) → AllGrew from before after ws ws
grew-none from before after ws same = λ place w v at to.
    let one : v ≡ w = (let e : Some v ≡ Some w = sym to ∙ at in let z : v ≡ w = cc in z) in
    record {
      made = [];
      events = ap (λ (es : List PageEvent). reverse es) (same place (within ws place w at)) ∙ sym (append-nil (reverse (events_by (from + place) before)));
      lines = ap (λ (x : WorkerState). x.lines) one ∙ sym (append-nil w.lines);
    }

-- ---- the workers of an end, one after another

-- what holds of the past of the pages, the pages and the workers of an end is kept by each worker that goes on
module _ (P : List Entry → List PageState → List WorkerState → Type 0) (first : ℕ)
    (works : (pool : List Entry) (ws : List WorkerState) (place : ℕ) (w v : WorkerState) (r s : RegionState) → P pool r.pages ws → slice_get ws place ≡ Some w
    → (went : WentOn w v r s) → P (with_events w.pass went.made pool) s.pages (slice_set ws place v))
    (passes : (pool : List Entry) (pages : List PageState) (ws : List WorkerState) (place : ℕ) (w : WorkerState) → P pool pages ws → slice_get ws place ≡ Some w
    → w.pass ≡ first + place) where
  -- those before it are in their new state, and those after it in the old one
  all-went : (done olds news : List WorkerState) (from : ℕ) (pool : List Entry) (r s : RegionState) (fed : Bool) → from ≡ first + length done
      → HaveRun olds news r s fed → P pool r.pages (done ++ olds)
      → (after : List Entry) × P after s.pages (done ++ news) × AllGrew from pool after olds news × Stay from (length olds) pool after
  all-went done [] [] from pool r s fed is h x = (
    pool,
    subst (λ (y : RegionState). P pool y.pages (done ++ [])) (sym h) x,
    (λ place w v at to. absurd (let no : ⊥ = cc in no)),
    (λ q out. refl),
  )
  all-went done [] (v ∷ news) from pool r s fed is h x = absurd h
  all-went done (w ∷ olds) [] from pool r s fed is h x = absurd h
  all-went done (w ∷ olds) (v ∷ news) from pool r s fed is h x =
      let went : WentOn w v r h.0 = h.1.went in
      let next : List Entry = with_events w.pass went.made pool in
      let pass : w.pass ≡ from = passes pool r.pages (done ++ w ∷ olds) (length done) w x (get-middle done olds w) ∙ sym is in
      let moved : slice_set (done ++ w ∷ olds) (length done) v ≡ (done ++ v ∷ []) ++ olds = set_at done w olds v (length done) refl ∙ sym (append_assoc done (v ∷ []) olds) in
      let one : P next h.0.pages ((done ++ v ∷ []) ++ olds) =
      subst (λ (ws : List WorkerState). P next h.0.pages ws) moved (works pool (done ++ w ∷ olds) (length done) w v r h.0 x (get-middle done olds w) went) in
      let more : from + 1 ≡ first + length (done ++ v ∷ []) = (let z : length (done ++ v ∷ []) ≡ length done + 1 = length-append done (v ∷ []) in omega (arith, z, is)) in
      let later : (after : List Entry) × P after s.pages ((done ++ v ∷ []) ++ news) × AllGrew (from + 1) next after olds news × Stay (from + 1) (length olds) next after =
      all-went (done ++ v ∷ []) olds news (from + 1) next h.0 s fed more h.2 one in
      let other : (q : ℕ) → (from ≡ q → ⊥) → events_by q next ≡ events_by q pool = λ q differs. events-other q w.pass went.made pool (λ same. differs (sym pass ∙ same)) in
      let grew : Grew from pool later.0 w v = record {
        made = went.made;
        events = ap (λ (es : List PageEvent). reverse es) (later.3 from (inl (let z : from < from + 1 = omega arith in z))) ∙ events-own from w.pass went.made pool pass;
        lines = went.lines;
      } in (
        later.0,
        subst (λ (ws : List WorkerState). P later.0 s.pages ws) (append_assoc done (v ∷ []) news) later.1,
        grew-more from pool later.0 w v olds news grew
            (grew-earlier (from + 1) pool next later.0 olds news (λ place less. other (from + 1 + place) (λ e. omega (arith, e))) later.2),
        (λ q out. later.3 q (out-more from (length olds) q out) ∙ other q (out-other from (length olds) q out)),
      )

-- ---- the workers of both ends

module _ (workers count : ℕ) (p : Pasts) where
  clients-went : (r m : RegionState) (cs ws ss : List WorkerState) (fed : Bool) → HaveRun cs ws r m fed → AreCoupled workers count p r.pages cs ss
      → (pool : List Entry) × AreCoupled workers count (record p { pool = pool }) m.pages ws ss × AllGrew 0 p.pool pool cs ws × Stay 0 (length cs) p.pool pool
  clients-went r m cs ws ss fed h x =
      all-went (λ pool pages us. AreCoupled workers count (record p { pool = pool }) pages us ss) 0
      (λ pool us place w v a b y at went. client-works workers count (record p { pool = pool }) a.pages us ss place w v a b y at went refl)
      (λ pool pages us place w y at. (y.clients.each place w at).pass)
      [] cs ws 0 p.pool r m fed refl h x

  servers-went : (m s : RegionState) (cs ss vs : List WorkerState) (pool : List Entry) (fed : Bool) → HaveRun ss vs m s fed → AreCoupled workers count (record p { pool = pool }) m.pages cs ss
      → (after : List Entry) × AreCoupled workers count (record p { pool = after }) s.pages cs vs × AllGrew workers pool after ss vs × Stay workers (length ss) pool after
  servers-went m s cs ss vs pool fed h x =
      all-went (λ after pages us. AreCoupled workers count (record p { pool = after }) pages cs us) workers
      (λ after us place w v a b y at went. server-works workers count (record p { pool = after }) a.pages cs us place w v a b y at went refl)
      (λ after pages us place w y at. (y.servers.each place w at).pass)
      [] ss vs workers pool m s fed (let z : workers ≡ workers + length {A = WorkerState} [] = omega arith in z) h x

-- the client's workers alone
pub clients-go : (a : CrewState) (r m : RegionState) (cs ws ss : List WorkerState) (fed : Bool) → crew r cs ss ≡ a → HaveRun cs ws r m fed
    → (p : Pasts) → IsCrewOf p a → GoesOn p a (crew m ws ss)
clients-go a r m cs ws ss fed same h p x =
    let was : IsCrewOf p (crew r cs ss) = subst (λ (y : CrewState). IsCrewOf p y) (sym same) x in
    let g = clients-went (length cs) (length r.pages) p r m cs ws ss fed h was in
    subst (λ (y : CrewState). GoesOn p y (crew m ws ss)) same (record {
      pool = g.0;
      coupled = coupled-of (length cs) (length r.pages) (record p { pool = g.0 }) m.pages ws ss g.1;
      clients = g.2;
      servers = grew-none (length cs) p.pool g.0 ss (λ place less. g.3 (length cs + place) (inr (let z : 0 + length cs ≤ length cs + place = omega arith in z)));
    })

-- and after them the server's
pub workers-go : (a : CrewState) (r m s : RegionState) (cs ws ss vs : List WorkerState) (fed more : Bool) → crew r cs ss ≡ a → HaveRun cs ws r m fed
    → HaveRun ss vs m s more → (p : Pasts) → IsCrewOf p a → GoesOn p a (crew s ws vs)
workers-go a r m s cs ws ss vs fed more same h k p x =
    let was : IsCrewOf p (crew r cs ss) = subst (λ (y : CrewState). IsCrewOf p y) (sym same) x in
    let g = clients-went (length cs) (length r.pages) p r m cs ws ss fed h was in
    let f = servers-went (length cs) (length r.pages) p m s ws ss vs g.0 more k g.1 in
    subst (λ (y : CrewState). GoesOn p y (crew s ws vs)) same (record {
      pool = f.0;
      coupled = coupled-of (length cs) (length r.pages) (record p { pool = f.0 }) s.pages ws vs f.1;
      clients = grew-later 0 p.pool g.0 f.0 cs ws (λ place less. f.3 (0 + place) (inl (let z : 0 + place < length cs = omega (arith, less) in z))) g.2;
      servers = grew-earlier (length cs) p.pool g.0 f.0 ss vs
          (λ place less. g.3 (length cs + place) (inr (let z : 0 + length cs ≤ length cs + place = omega arith in z))) f.2;
    })

-- ---- with memory enough

pub when-ok : {T E : Type 0} (r : Result T E) (P : Bool → Type 0) (Q : Type 0) → (P true → Q) → P (is_ok r) → OnOk r Q
when-ok (Ok x) P Q f h = f h
when-ok (Err e) P Q f h = tt

pub have-turned : (a : CrewState) (r m s : RegionState) (cs ws ss vs : List WorkerState) → crew r cs ss ≡ a → HaveRun cs ws r m true → HaveRun ss vs m s true
    → HaveTurned a (crew s ws vs)
have-turned a r m s cs ws ss vs same h k = subst (λ (x : CrewState). HaveTurned x (crew s ws vs)) same (record { between = m; clients = h; servers = k })
