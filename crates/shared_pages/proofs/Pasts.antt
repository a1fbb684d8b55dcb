-- The one past of all pages, and what a pass has seen of it.
use Rattle.std.proofs.Common.{◌≡◌, ℕ, zero, suc, ◌<◌, List, [], ◌∷◌, ◌++◌, slice_set, refl, sym, ap, ◌∙◌, subst, arith, ◌⊎◌, inl, inr, ⊎_elim, set}
use mathlib.Core.Option.{some}
use lib.ListN.{get_elem?}
use Rattle.std.proofs.lemmas.Bool.{cases_eq, cond-true, cond-false, eq-eqb, ne_eqb}
use Rattle.std.proofs.lemmas.List.{append-nil}
use Rattle.smbd_base.specs.declared.page_event.PageEvent.{PageEvent}
use Rattle.smbd_base.specs.Pages.{Entry, PageState, IsPageStep, IsPoolRun, page_in, page_after, page_at, page_state, entries_on}
use Rattle.smbd_base.specs.PagesFit.{AreMadeBy, events_by}
use Rattle.smbd_base.proofs.PageGenerations.{events_in}
use Rattle.smbd_base.proofs.PassLists.{events_by-here, events_by-other}
use Rattle.smbd_base.proofs.PoolLives.{entries_on-here, entries_on-other, length-run, state-of-run}
use Rattle.shared_pages.specs.declared.view.Opening.{Opening}
use Rattle.shared_pages.specs.declared.view.Sight.{Sight}
use Rattle.shared_pages.specs.Rule.{Log, Ends, AllEnd, AreParts, made_by, IsPast, PastFits, IsPastAfter, Compare, longer, longest, holding, gave, let_go, learned, new_sight}
use Rattle.shared_pages.proofs.Logs.{inside, there_is, same_length, end_at, one_longer}
use Rattle.shared_pages.proofs.Learning.{ends-trans, longer-by, longer-left, longer-right}

pub made_by-here : (n : ℕ) (e : Entry) (l : Log) → e.pass ≡ n → made_by n (e ∷ l) ≡ e ∷ made_by n l
made_by-here n e l here = cond-true _ _ _ (eq-eqb e.pass n here)

pub made_by-other : (n : ℕ) (e : Entry) (l : Log) → (e.pass ≡ n → ⊥) → made_by n (e ∷ l) ≡ made_by n l
made_by-other n e l other = cond-false _ _ _ (ne_eqb e.pass n other)

-- ---- the past of the pool

pub no-past : (pool : Opening) → IsPast pool []
no-past pool = record { pages = _; run = refl; by = tt }

older-run : (first count : ℕ) (newer past : Log) (pages : List PageState) → IsPoolRun first count (newer ++ past) pages
    → (before : List PageState) × IsPoolRun first count past before
older-run first count [] past pages run = (pages, run)
older-run first count (e ∷ newer) past pages run = older-run first count newer past run.0 run.1

older-by : (seats : ℕ) (newer past : Log) → AreMadeBy seats (newer ++ past) → AreMadeBy seats past
older-by seats [] past by = by
older-by seats (e ∷ newer) past by = older-by seats newer past by.1

-- an older part of a past is one
pub older-past : (pool : Opening) (older past : Log) → Ends older past → IsPast pool past → IsPast pool older
older-past pool older past e h =
    let run = older-run pool.first pool.pages e.0 older h.pages (subst (λ (l : Log). IsPoolRun pool.first pool.pages l h.pages) (sym e.1) h.run) in
    record { pages = run.0; run = run.1; by = older-by pool.seats e.0 older (subst (AreMadeBy pool.seats) (sym e.1) h.by) }

-- a page makes a step
pub more-past : (pool : Opening) (e : Entry) (p : ℕ) (l past : Log) → page_in e.event ≡ p → p < pool.pages → e.pass < pool.seats
    → entries_on p past ≡ l → IsPageStep e.event (page_state pool.first l) → IsPast pool past → IsPast pool (e ∷ past)
more-past pool e p l past here low by part may h =
    let long = length-run pool.first pool.pages past h.pages h.run in
    let at : page_at (page_in e.event) h.pages ≡ page_state pool.first l =
    ap (λ (q : ℕ). page_at q h.pages) here ∙ state-of-run pool.first pool.pages past h.pages h.run p low ∙ ap (page_state pool.first) part in
    record {
      pages = slice_set h.pages (page_in e.event) (page_after e.event (page_at (page_in e.event) h.pages));
      run = (h.pages, h.run, record { among = omega arith; step = subst (IsPageStep e.event) (sym at) may; after = refl });
      by = (by, h.by);
    }

-- ---- what a pass has seen of it

-- the events of a pass are those of its entries
pub events_of : (n : ℕ) (l : Log) → events_by n l ≡ events_in (made_by n l)
events_of n [] = refl
events_of n (e ∷ l) = ⊎_elim
    (λ (here : e.pass ≡ n).
    events_by-here n e l here ∙ ap (λ (es : List PageEvent). e.event ∷ es) (events_of n l) ∙ ap events_in (sym (made_by-here n e l here)))
    (λ (other : e.pass ≡ n → ⊥).
    events_by-other n e l other ∙ events_of n l ∙ ap events_in (sym (made_by-other n e l other)))
    (cases_eq e.pass n)

-- the same entries are the same events
pub list-same : (n : ℕ) (a b : Log) → made_by n a ≡ made_by n b → events_by n a ≡ events_by n b
list-same n a b same = events_of n a ∙ ap events_in same ∙ sym (events_of n b)

-- another pass makes an entry
pub past-grows : (past : Log) (v : Sight) (e : Entry) → (e.pass ≡ v.number → ⊥) → PastFits past v → PastFits (e ∷ past) v
past-grows past v e other h = record {
  parts = h.parts;
  other_parts = h.other_parts;
  seen = (e ∷ h.seen.0, ap (λ (l : Log). e ∷ l) h.seen.1);
  other = (e ∷ h.other.0, ap (λ (l : Log). e ∷ l) h.other.1);
  own = made_by-other v.number e past other ∙ h.own;
  list = h.list;
}

-- the logs of the pages are all of the past
abbrev pub IsWhole : Log → List Log → Type 0
IsWhole past logs = (p : ℕ) (l : Log) → get_elem? logs p ≡ some l → entries_on p past ≡ l

-- what was seen of the logs is in the past
whole-parts : (past : Log) (lists logs : List Log) → IsWhole past logs → AllEnd lists logs → AreParts past lists
whole-parts past lists logs whole ends p l x =
    let log = there_is logs p (let low = inside lists p l x in let same = same_length lists logs ends in omega arith) in
    subst (Ends l) (sym (whole p log.0 log.1)) (end_at lists logs p l log.0 ends x log.1)

entries_on-append : (p : ℕ) (xs ys : Log) → entries_on p (xs ++ ys) ≡ entries_on p xs ++ entries_on p ys
entries_on-append p [] ys = refl
entries_on-append p (x ∷ xs) ys = ⊎_elim
    (λ (here : page_in x.event ≡ p).
    entries_on-here p x (xs ++ ys) here ∙ ap (λ (l : Log). x ∷ l) (entries_on-append p xs ys)
    ∙ ap (λ (l : Log). l ++ entries_on p ys) (sym (entries_on-here p x xs here)))
    (λ (other : page_in x.event ≡ p → ⊥).
    entries_on-other p x (xs ++ ys) other ∙ entries_on-append p xs ys
    ∙ ap (λ (l : Log). l ++ entries_on p ys) (sym (entries_on-other p x xs other)))
    (cases_eq (page_in x.event) p)

-- an older part of the past has of each page an older part
ends-part : (p : ℕ) (a b : Log) → Ends a b → Ends (entries_on p a) (entries_on p b)
ends-part p a b e = (entries_on p e.0, sym (entries_on-append p e.0 a) ∙ ap (entries_on p) e.1)

parts-more : (a b : Log) (lists : List Log) → Ends a b → AreParts a lists → AreParts b lists
parts-more a b lists e parts p l x = ends-trans l (entries_on p a) (entries_on p b) (parts p l x) (ends-part p a b e)

longest-at : (xs ys : List Log) (p : ℕ) (l : Log) → get_elem? (longest xs ys) p ≡ some l → (get_elem? xs p ≡ some l) ⊎ (get_elem? ys p ≡ some l)
longest-at [] ys p l x = inl x
longest-at (a ∷ xs) [] p l x = inl x
longest-at (a ∷ xs) (b ∷ ys) zero l x = longer-by (λ (m : Log). some m ≡ some l → (some a ≡ some l) ⊎ (some b ≡ some l)) a b
    (λ le. λ is. inr is) (λ less. λ is. inl is) x
longest-at (a ∷ xs) (b ∷ ys) (suc p) l x = longest-at xs ys p l x

longest-parts : (a b : Log) (xs ys : List Log) → Compare a b → AreParts a xs → AreParts b ys → AreParts (longer a b) (longest xs ys)
longest-parts a b xs ys compare left right p l x = ⊎_elim
    (λ (here : get_elem? xs p ≡ some l). parts-more a (longer a b) xs (longer-left a b compare) left p l here)
    (λ (there : get_elem? ys p ≡ some l). parts-more b (longer a b) ys (longer-right a b compare) right p l there)
    (longest-at xs ys p l x)

-- a pass that sees all of the past has made no entry since
pub sees-after : (page : ℕ) (v : Sight) (log past : Log) → entries_on page past ≡ log → PastFits past v → IsPastAfter page v log past
sees-after page v log past part h = record { extends = h.seen; own = h.own; part = part }

-- it takes a page, and sees all of it
pub past-holds : (past : Log) (v : Sight) (p : ℕ) (l : Log) (logs : List Log) → PastFits past v → IsWhole past logs → AllEnd (set v.seen p l) logs
    → PastFits past (holding v p l past)
past-holds past v p l logs h whole ends = record {
  parts = whole-parts past (set v.seen p l) logs whole ends;
  other_parts = h.other_parts;
  seen = ([], refl);
  other = h.other;
  own = refl;
  list = h.list ∙ sym (list-same v.number past v.past h.own);
}

-- it gives the page back with an entry of its own
pub past-gives : (past : Log) (v : Sight) (p : ℕ) (event : PageEvent) (l : Log) (logs : List Log) → PastFits past v
    → IsWhole ((record { pass = v.number; event = event }) ∷ past) logs → AllEnd (set v.seen p ((record { pass = v.number; event = event }) ∷ l)) logs
    → PastFits ((record { pass = v.number; event = event }) ∷ past) (gave v p event l past)
past-gives past v p event l logs h whole ends =
    let e : Entry = record { pass = v.number; event = event } in
    record {
      parts = whole-parts (e ∷ past) (set v.seen p (e ∷ l)) logs whole ends;
      other_parts = h.other_parts;
      seen = ([], refl);
      other = (e ∷ h.other.0, ap (λ (z : Log). e ∷ z) h.other.1);
      own = refl;
      list = ap (λ (es : List PageEvent). event ∷ es) (h.list ∙ sym (list-same v.number past v.past h.own)) ∙ sym (events_by-here v.number e past refl);
    }

-- it gives it back as it was
pub past-stays : (past : Log) (v : Sight) → PastFits past v → PastFits past (let_go v)
past-stays past v h = record { parts = h.parts; other_parts = h.other_parts; seen = h.seen; other = h.other; own = h.own; list = h.list }

-- it meets another pass
pub past-meets : (past : Log) (v : Sight) → PastFits past v → PastFits past (learned v) × Compare v.past v.other_past
past-meets past v h =
    let f = one_longer v.number v.past v.other_past past h.seen h.other h.own in (
      record {
        seen = f.0;
        other = h.other;
        own = f.1;
        list = h.list ∙ list-same v.number v.past (longer v.past v.other_past) (sym h.own ∙ f.1);
        parts = longest-parts v.past v.other_past v.seen v.other f.2 h.parts h.other_parts;
        other_parts = h.other_parts;
      },
      f.2,
    )

-- it was just made
pub past-begins : (past : Log) (n : ℕ) (lists : List Log) → made_by n past ≡ [] → AreParts [] lists → PastFits past (new_sight n lists)
past-begins past n lists none parts = record { parts = parts; other_parts = parts; seen = (past, append-nil past); other = (past, append-nil past); own = none; list = refl }
