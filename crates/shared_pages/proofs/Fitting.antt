-- The lists of passes that have seen the same fit together.
use Rattle.std.proofs.Common.{◌≡◌, ℕ, zero, suc, ◌+◌, ◌<◌, ◌≤◌, List, [], ◌∷◌, ◌++◌, length, map, replicate, slice_index_or, slice_set, refl, sym, ap, ◌∙◌, subst, arith, ⊎_elim, ◌⊎◌, inl, inr, length-append, All}
use Rattle.std.proofs.lemmas.Bool.{cases_eq, cases_lt}
use Rattle.std.proofs.lemmas.List.{append-nil, length-replicate}
use Rattle.std.proofs.Math.Seq.{get_or-append_seam, set-append_seam}
use mathlib.Core.Option.{some, some-injective, some-ne-none}
use lib.ListN.{get_elem?}
use Rattle.smbd_base.specs.declared.page_event.PageEvent.{PageEvent}
use Rattle.smbd_base.specs.declared.page_event.PageEvent.TheVariants.{Fetch, Place, Unload}
use Rattle.smbd_base.specs.Pages.{PageState, IsPageLife, IsPageStep, IsPoolRun, page_in, page_at, page_after, page_state, opened_page}
use Rattle.smbd_base.specs.PagesFit.{PagesFit, AreMadeBy, events_by, lists_of}
use Rattle.smbd_base.proofs.EventLists.{Contains-nil}
use Rattle.smbd_base.proofs.PageContents.{none-from}
use Rattle.smbd_base.proofs.PassLists.{events_by-here, events_by-other}
use Rattle.smbd_base.proofs.PagesFitLaws.{lists-fit}
use Rattle.shared_pages.specs.declared.view.Opening.{Opening}
use Rattle.shared_pages.specs.declared.view.Sight.{Sight}
use Rattle.shared_pages.specs.Rule.{Log, events_on, AreWithin, Knows}
use Rattle.shared_pages.specs.Meets.{HaveSeen, lists_made, MeetingMakesFit}
use Rattle.shared_pages.proofs.Logs.{there_is}
use Rattle.shared_pages.proofs.Making.{events_on-here, events_on-other}
use Rattle.shared_pages.proofs.Parts.{SameParts, AllAlike, events_on-append, fits-alike}

-- the lives of all pages, one after the other
abbrev joined : List Log → Log
joined [] = []
joined (l ∷ ls) = l ++ joined ls

-- the logs are lives of the pages from this one on
abbrev AreLives : ℕ → ℕ → List Log → Type 0
AreLives first k ls = (i : ℕ) (l : Log) → get_elem? ls i ≡ some l → IsPageLife first (k + i) l

lives-head : (first k : ℕ) (l : Log) (ls : List Log) → AreLives first k (l ∷ ls) → IsPageLife first k l
lives-head first k l ls lives = subst (λ (p : ℕ). IsPageLife first p l) (omega arith) (lives 0 l refl)

lives-tail : (first k : ℕ) (l : Log) (ls : List Log) → AreLives first k (l ∷ ls) → AreLives first (suc k) ls
lives-tail first k l ls lives i m x = subst (λ (p : ℕ). IsPageLife first p m) (omega arith) (lives (suc i) m x)

-- ---- a run of the pool

run-page : (first count : ℕ) (front rest : List PageState) (below l : Log) → IsPageLife first (length front) l
    → IsPoolRun first count below (front ++ opened_page first ∷ rest) → IsPoolRun first count (l ++ below) (front ++ page_state first l ∷ rest)
run-page first count front rest below [] life run = run
run-page first count front rest below (e ∷ l) life run =
    let before = front ++ page_state first l ∷ rest in
    let at : page_at (page_in e.event) before ≡ page_state first l =
    ap (λ (p : ℕ). page_at p before) life.0 ∙ get_or-append_seam front (page_state first l) rest (opened_page 1) in
    let here = life.0 in (
      before,
      run-page first count front rest below l life.2 run,
      record {
        among = omega (arith, length-append front (page_state first l ∷ rest));
        step = subst (IsPageStep e.event) (sym at) life.1;
        after = sym (ap (λ (z : ℕ × PageState). slice_set before z.0 (page_after e.event z.1)) (λ i. (life.0 i, at i))
            ∙ set-append_seam front (page_state first l) rest (page_after e.event (page_state first l)));
      },
    )

shifted : (k : ℕ) (o : PageState) (rest : List PageState) → o ∷ (replicate k o ++ rest) ≡ replicate k o ++ o ∷ rest
shifted zero o rest = refl
shifted (suc k) o rest = ap (λ (z : List PageState). o ∷ z) (shifted k o rest)

run-all : (first count k : ℕ) (ls : List Log) → k + length ls ≡ count → AreLives first k ls
    → IsPoolRun first count (joined ls) (replicate k (opened_page first) ++ map (page_state first) ls)
run-all first count k [] all lives =
    append-nil (replicate k (opened_page first)) ∙ ap (λ (n : ℕ). replicate n (opened_page first)) (omega arith)
run-all first count k (l ∷ ls) all lives =
    let o = opened_page first in
    run-page first count (replicate k o) (map (page_state first) ls) (joined ls) l
    (subst (λ (p : ℕ). IsPageLife first p l) (sym (length-replicate k o)) (lives-head first k l ls lives))
    (subst (IsPoolRun first count (joined ls)) (shifted k o (map (page_state first) ls))
    (run-all first count (suc k) ls (omega arith) (lives-tail first k l ls lives)))

made-append : (seats : ℕ) (xs ys : Log) → AreMadeBy seats xs → AreMadeBy seats ys → AreMadeBy seats (xs ++ ys)
made-append seats [] ys a b = b
made-append seats (x ∷ xs) ys a b = (a.0, made-append seats xs ys a.1 b)

made-all : (seats : ℕ) (ls : List Log) → ((i : ℕ) (l : Log) → get_elem? ls i ≡ some l → AreMadeBy seats l) → AreMadeBy seats (joined ls)
made-all seats [] each = tt
made-all seats (l ∷ ls) each = made-append seats l (joined ls) (each 0 l refl) (made-all seats ls (λ i m x. each (suc i) m x))

-- ---- the events of one pass, page by page

pub events_by-append : (n : ℕ) (xs ys : Log) → events_by n (xs ++ ys) ≡ events_by n xs ++ events_by n ys
events_by-append n [] ys = refl
events_by-append n (x ∷ xs) ys = ⊎_elim
    (λ (here : x.pass ≡ n).
    events_by-here n x (xs ++ ys) here ∙ ap (λ (es : List PageEvent). x.event ∷ es) (events_by-append n xs ys)
    ∙ ap (λ (es : List PageEvent). es ++ events_by n ys) (sym (events_by-here n x xs here)))
    (λ (other : x.pass ≡ n → ⊥).
    events_by-other n x (xs ++ ys) other ∙ events_by-append n xs ys
    ∙ ap (λ (es : List PageEvent). es ++ events_by n ys) (sym (events_by-other n x xs other)))
    (cases_eq x.pass n)

-- the events of a page's life are on it
on-life : (first page n : ℕ) (l : Log) → IsPageLife first page l → events_on page (events_by n l) ≡ events_by n l
on-life first page n [] life = refl
on-life first page n (e ∷ l) life = ⊎_elim
    (λ (here : e.pass ≡ n).
    ap (events_on page) (events_by-here n e l here) ∙ events_on-here page e.event (events_by n l) life.0
    ∙ ap (λ (es : List PageEvent). e.event ∷ es) (on-life first page n l life.2) ∙ sym (events_by-here n e l here))
    (λ (other : e.pass ≡ n → ⊥).
    ap (events_on page) (events_by-other n e l other) ∙ on-life first page n l life.2 ∙ sym (events_by-other n e l other))
    (cases_eq e.pass n)

off-life : (first page n q : ℕ) (l : Log) → (page ≡ q → ⊥) → IsPageLife first page l → events_on q (events_by n l) ≡ []
off-life first page n q [] off life = refl
off-life first page n q (e ∷ l) off life = ⊎_elim
    (λ (here : e.pass ≡ n).
    ap (events_on q) (events_by-here n e l here) ∙ events_on-other q e.event (events_by n l) (λ is. off (sym life.0 ∙ is))
    ∙ off-life first page n q l off life.2)
    (λ (other : e.pass ≡ n → ⊥). ap (events_on q) (events_by-other n e l other) ∙ off-life first page n q l off life.2)
    (cases_eq e.pass n)

parts-cons : (n q : ℕ) (l : Log) (ls : List Log) → events_on q (events_by n (joined (l ∷ ls))) ≡ events_on q (events_by n l) ++ events_on q (events_by n (joined ls))
parts-cons n q l ls = ap (events_on q) (events_by-append n l (joined ls)) ∙ events_on-append q (events_by n l) (events_by n (joined ls))

part-none : (first n q k : ℕ) (ls : List Log) → AreLives first k ls → (q < k) ⊎ (k + length ls ≤ q) → events_on q (events_by n (joined ls)) ≡ []
part-none first n q k [] lives out = refl
part-none first n q k (l ∷ ls) lives out =
    let off : k ≡ q → ⊥ = λ is. ⊎_elim (λ (low : q < k). omega arith) (λ (high : k + suc (length ls) ≤ q). omega arith) out in
    let later : (q < suc k) ⊎ (suc k + length ls ≤ q) = ⊎_elim (λ (low : q < k). inl (omega arith)) (λ (high : k + suc (length ls) ≤ q). inr (omega arith)) out in
    parts-cons n q l ls ∙ ap (λ (es : List PageEvent). es ++ events_on q (events_by n (joined ls))) (off-life first k n q l off (lives-head first k l ls lives))
    ∙ part-none first n q (suc k) ls (lives-tail first k l ls lives) later

part-at : (first n q k i : ℕ) (ls : List Log) (l : Log) → AreLives first k ls → get_elem? ls i ≡ some l → q ≡ k + i → events_on q (events_by n (joined ls)) ≡ events_by n l
part-at first n q k i [] l lives x is = absurd (some-ne-none l (sym x))
part-at first n q k zero (m ∷ ls) l lives x is =
    parts-cons n q m ls
    ∙ ap (λ (es : List PageEvent). events_on q (events_by n m) ++ es) (part-none first n q (suc k) ls (lives-tail first k m ls lives) (inl (omega arith)))
    ∙ append-nil (events_on q (events_by n m))
    ∙ on-life first q n m (subst (λ (p : ℕ). IsPageLife first p m) (omega arith) (lives-head first k m ls lives))
    ∙ ap (events_by n) (some-injective m l x)
part-at first n q k (suc i) (m ∷ ls) l lives x is =
    parts-cons n q m ls
    ∙ ap (λ (es : List PageEvent). es ++ events_on q (events_by n (joined ls))) (off-life first k n q m (λ at. omega arith) (lives-head first k m ls lives))
    ∙ part-at first n q (suc k) i ls l (lives-tail first k m ls lives) x (omega arith)

outside : (count q : ℕ) (events : List PageEvent) → AreWithin count events → count ≤ q → events_on q events ≡ []
outside count q [] within out = refl
outside count q (e ∷ events) within out =
    let low = within.0 in events_on-other q e events (λ is. omega arith) ∙ outside count q events within.1 out

-- what a pass made is, page by page, its part of the joined lives
same-parts : (pool : Opening) (v : Sight) → Knows pool v → SameParts (events_by v.number (joined v.seen)) v.made
same-parts pool v knows q =
    let lives : AreLives pool.first 0 v.seen = λ i l x. subst (λ (p : ℕ). IsPageLife pool.first p l) (omega arith) (knows.lives i l x) in
    ⊎_elim
    (λ (low : q < length v.seen).
    let l = there_is v.seen q low in
    part-at pool.first v.number q 0 q v.seen l.0 lives l.1 (omega arith) ∙ sym (knows.own.parts q l.0 l.1))
    (λ (high : length v.seen ≤ q).
    part-none pool.first v.number q 0 v.seen lives (inr (omega arith)) ∙ sym (outside (length v.seen) q v.made knows.own.within high))
    (cases_lt q (length v.seen))

-- ---- all passes

abbrev lists_from : ℕ → ℕ → Log → List (List PageEvent)
lists_from k zero past = []
lists_from k (suc n) past = events_by k past ∷ lists_from (suc k) n past

from-snoc : (k n : ℕ) (past : Log) → lists_from k n past ++ events_by (n + k) past ∷ [] ≡ lists_from k (suc n) past
from-snoc k zero past = let none : 0 + k ≡ k = omega arith in ap (λ (m : ℕ). events_by m past ∷ []) none
from-snoc k (suc n) past =
    let more : suc n + k ≡ n + suc k = omega arith in
    ap (λ (z : List (List PageEvent)). events_by k past ∷ z)
    (ap (λ (m : ℕ). lists_from (suc k) n past ++ events_by m past ∷ []) more ∙ from-snoc (suc k) n past)

lists-are : (n : ℕ) (past : Log) → lists_of n past ≡ lists_from 0 n past
lists-are zero past = refl
lists-are (suc n) past =
    let same : n ≡ n + 0 = omega arith in
    ap (λ (z : List (List PageEvent)). z ++ events_by n past ∷ []) (lists-are n past)
    ∙ ap (λ (m : ℕ). lists_from 0 n past ++ events_by m past ∷ []) same ∙ from-snoc 0 n past

all-alike : (pool : Opening) (seen : List Log) (k : ℕ) (vs : List Sight) → ((i : ℕ) (d : Sight) → i < length vs → (slice_index_or vs i d).number ≡ k + i)
    → All (λ (v : Sight). Knows pool v) vs → HaveSeen seen vs → AllAlike (lists_from k (length vs) (joined seen)) (lists_made vs)
all-alike pool seen k [] numbered know saw = tt
all-alike pool seen k (v ∷ vs) numbered know saw =
    let number : v.number ≡ k = numbered 0 v (omega arith) ∙ omega arith in
    let sees : v.seen ≡ seen = saw 0 v (omega arith) in (
      (λ q. ap (λ (z : ℕ × List Log). events_on q (events_by z.0 (joined z.1))) (λ i. (sym number i, sym sees i)) ∙ same-parts pool v (know 0 v (omega arith)) q),
      all-alike pool seen (suc k) vs (λ i d low. numbered (suc i) d (omega arith) ∙ omega arith) (λ i d low. know (suc i) d (omega arith)) (λ i d low. saw (suc i) d (omega arith)),
    )

-- of no pass at all
none-fit : (first : ℕ) → PagesFit first []
none-fit first = record {
  turns = record {
    loads = λ t. omega arith;
    unloads = λ t. omega arith;
    from = λ t has. absurd (omega arith);
    steps = λ t has above. absurd (omega arith);
    ended = λ t u has later here below. absurd (omega arith);
  };
  contents = record {
    loaded = λ e h. absurd (Contains-nil e h);
    orders = λ t n. sym (none-from n 0 (omega arith));
    fetches = λ t at bytes loaded r h l. absurd (Contains-nil (Fetch t at bytes) h);
    places = λ t n at bytes loaded r h l. absurd (Contains-nil (Place t n at bytes) h);
    contents = λ t bytes loaded r h l. absurd (Contains-nil (Unload t bytes) h);
  };
  order = tt;
}

pub met-fit : MeetingMakesFit
met-fit pool seen [] all know saw = none-fit pool.first
met-fit pool seen (v ∷ vs) all know saw =
    let knows = know 0 v (omega arith) in
    let sees : v.seen ≡ seen = saw 0 v (omega arith) in
    let lives : AreLives pool.first 0 seen =
    λ i l x. subst (λ (p : ℕ). IsPageLife pool.first p l) (omega arith) (knows.lives i l (ap (λ (z : List Log). get_elem? z i) sees ∙ x)) in
    let made = made-all pool.seats seen (λ i l x. knows.by i l (ap (λ (z : List Log). get_elem? z i) sees ∙ x)) in
    let run = run-all pool.first (length seen) 0 seen (omega arith) lives in
    let fit = lists-fit pool.first (length seen) knows.least pool.seats (joined seen) (replicate 0 (opened_page pool.first) ++ map (page_state pool.first) seen) run made in
    fits-alike pool.first (lists_from 0 (length (v ∷ vs)) (joined seen)) (lists_made (v ∷ vs))
    (all-alike pool seen 0 (v ∷ vs) (λ i d low. all.numbered i d low ∙ omega arith) know saw)
    (subst (PagesFit pool.first) (lists-are pool.seats (joined seen) ∙ ap (λ (n : ℕ). lists_from 0 n (joined seen)) (sym all.count)) fit)
