-- The workers of an end, opened one after another, and a crew that is opened.
use Rattle.std.proofs.Common.{◌≡◌, ℕ, zero, suc, ◌+◌, ◌-◌, ◌*◌, ◌≤◌, List, [], ◌∷◌, ◌++◌, length, replicate, refl, sym, ap, ◌∙◌, subst, add-one, arith}
use Rattle.std.specs.List.{range_with_len}
use Rattle.std.proofs.lemmas.List.{length-replicate}
use Rattle.smbd_base.specs.Pages.{PageState, opened_page}
use Rattle.registration.specs.Regions.{RegionState}
use Rattle.page_workers.specs.Workers.{WorkerState, opened}
use Rattle.copy_laws.specs.Coupled.{AreCoupled}
use Rattle.copy_laws.specs.Steps.{opened_pasts, workers_opened}
use Rattle.copy_laws.proofs.StepsOpened.{opens}
use Rattle.page_crew.specs.Crews.{IsSized}
use Rattle.page_crew.proofs.CrewOf.{coupled-of}

-- the next of the numbers from the first one on
pub next-number : (first seats n q : ℕ) (left after : List ℕ) → left ≡ range_with_len (first + n) (seats - n) → left ≡ q ∷ after
    → (q ≡ first + n) × (after ≡ range_with_len (first + (n + 1)) (seats - (n + 1)))
next-number first seats n q left after is more = by_count (seats - n) refl (sym more ∙ is) where
  by_count : (k : ℕ) → seats - n ≡ k → q ∷ after ≡ range_with_len (first + n) k
      → (q ≡ first + n) × (after ≡ range_with_len (first + (n + 1)) (seats - (n + 1)))
  by_count zero e h = absurd (let no : ⊥ = cc in no)
  by_count (suc k) e h =
      let rest : after ≡ range_with_len (first + n + 1) k = cc in (
        (let head : q ≡ first + n = cc in head),
        rest
            ∙ ap (λ (a : ℕ). range_with_len a k) (let z : first + n + 1 ≡ first + (n + 1) = omega arith in z)
            ∙ ap (λ (m : ℕ). range_with_len (first + (n + 1)) m) (let z : k ≡ seats - (n + 1) = omega (arith, e) in z),
      )

-- one more worker
pub one-more : (first n q : ℕ) (ws vs : List WorkerState) (w : WorkerState) → vs ≡ ws ++ w ∷ [] → w ≡ opened (n + 1) q → ws ≡ workers_opened first n → q ≡ first + n
    → vs ≡ workers_opened first (n + 1)
one-more first n q ws vs w pushed new is same =
    pushed
    ∙ ap (λ (v : WorkerState). ws ++ v ∷ []) new
    ∙ ap (λ (us : List WorkerState). us ++ opened (n + 1) q ∷ []) is
    ∙ ap (λ (k : ℕ). workers_opened first n ++ opened (n + 1) k ∷ []) same
    ∙ ap (λ (k : ℕ). workers_opened first k) (sym (add-one n))

-- ---- a crew that is opened

-- the workers of both ends have the passes one after another
pub both-opened : (workers : ℕ) (passes left : List ℕ) (cs ss : List WorkerState) → passes ≡ range_with_len 0 (2 * workers)
    → ((first seats : ℕ) → passes ≡ range_with_len first seats → cs ≡ workers_opened first workers)
    → ((first seats : ℕ) → passes ≡ range_with_len first seats → left ≡ range_with_len (first + workers) (seats - workers))
    → ((first seats : ℕ) → left ≡ range_with_len first seats → ss ≡ workers_opened first workers)
    → (cs ≡ workers_opened 0 workers) × (ss ≡ workers_opened workers workers)
both-opened workers passes left cs ss is clients rest servers = (
  clients 0 (2 * workers) is,
  servers workers workers (
      rest 0 (2 * workers) is
      ∙ ap (λ (a : ℕ). range_with_len a (2 * workers - workers)) (let z : 0 + workers ≡ workers = omega arith in z)
      ∙ ap (λ (n : ℕ). range_with_len workers n) (let z : 2 * workers - workers ≡ workers = omega arith in z)
      ),
)

pub opened-sized : (workers count : ℕ) (r : RegionState) (cs ss : List WorkerState) → 1 ≤ workers → workers ≤ 8 → 16 ≤ count → count ≤ 255
    → r.pages ≡ replicate count (opened_page 1) → cs ≡ workers_opened 0 workers → ss ≡ workers_opened workers workers
    → IsSized (record { region = r; clients = cs; servers = ss })
opened-sized workers count r cs ss some few least most pages clients servers =
    let h : AreCoupled workers count opened_pasts (replicate count (opened_page 1)) (workers_opened 0 workers) (workers_opened workers workers) = opens workers count in
    let n : length cs ≡ workers = ap (λ (ws : List WorkerState). length ws) clients ∙ h.clients.count in
    let m : length ss ≡ workers = ap (λ (ws : List WorkerState). length ws) servers ∙ h.servers.count in
    let k : length r.pages ≡ count = ap (λ (ps : List PageState). length ps) pages ∙ length-replicate count (opened_page 1) in
    record {
      some = omega (arith, n, some);
      few = omega (arith, n, few);
      even = m ∙ sym n;
      least = omega (arith, k, least);
      most = omega (arith, k, most);
    }

pub opened-coupled : (workers count : ℕ) (pages : List PageState) (cs ss : List WorkerState) → pages ≡ replicate count (opened_page 1)
    → cs ≡ workers_opened 0 workers → ss ≡ workers_opened workers workers → AreCoupled (length cs) (length pages) opened_pasts pages cs ss
opened-coupled workers count pages cs ss is clients servers =
    coupled-of workers count opened_pasts pages cs ss (
    subst (λ (ps : List PageState). AreCoupled workers count opened_pasts ps cs ss) (sym is) (
    subst (λ (ws : List WorkerState). AreCoupled workers count opened_pasts (replicate count (opened_page 1)) ws ss) (sym clients) (
    subst (λ (ws : List WorkerState). AreCoupled workers count opened_pasts (replicate count (opened_page 1)) (workers_opened 0 workers) ws) (sym servers)
    (opens workers count)
    )
    )
    )
