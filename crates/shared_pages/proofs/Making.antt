-- What a pass has made, and what it knows.
use Rattle.std.proofs.Common.{suc, length, ◌≤◌, ◌≡◌, ◌≢◌, ℕ, ◌<◌, List, [], ◌∷◌, ◌++◌, set, sym, refl, ap, ◌∙◌, subst, arith, ⊎_elim, length-set}
use Rattle.std.proofs.lemmas.Bool.{cases_eq, cond-true, cond-false, eq-eqb, ne_eqb}
use mathlib.Core.Option.{some}
use lib.ListN.{get_elem?}
use Rattle.atomic_table.specs.Table.{State}
use Rattle.atomic_table.proofs.Lists.{at_set}
use Rattle.smbd_base.specs.declared.page_event.PageEvent.{PageEvent}
use Rattle.smbd_base.specs.Pages.{Entry, IsPageLife, page_in}
use Rattle.smbd_base.specs.PagesFit.{AreMadeBy, events_by}
use Rattle.smbd_base.proofs.PageGenerations.{events_in}
use Rattle.smbd_base.proofs.PassLists.{events_by-here, events_by-other}
use Rattle.shared_pages.specs.declared.view.Opening.{Opening}
use Rattle.shared_pages.specs.declared.view.Sight.{Sight}
use Rattle.shared_pages.specs.declared.view.View.{View}
use Rattle.shared_pages.specs.Rule.{Slot, Log, Ends, made_by, events_on, AreWithin, IsMade, SightFits, Kept, Knows}
use Rattle.shared_pages.proofs.Pasts.{events_of, older-past}
use Rattle.shared_pages.proofs.Logs.{inside, there_is, same_length, end_at, seen_at}

pub events_on-here : (page : ℕ) (e : PageEvent) (events : List PageEvent) → page_in e ≡ page → events_on page (e ∷ events) ≡ e ∷ events_on page events
events_on-here page e events here = cond-true _ _ _ (eq-eqb (page_in e) page here)

pub events_on-other : (page : ℕ) (e : PageEvent) (events : List PageEvent) → (page_in e ≡ page → ⊥) → events_on page (e ∷ events) ≡ events_on page events
events_on-other page e events other = cond-false _ _ _ (ne_eqb (page_in e) page other)

module _ (n : ℕ) (made : List PageEvent) (logs : List Log) (p : ℕ) (e : Entry) (l : Log) where
  -- the pass makes one event more
  pub makes_new : e.pass ≡ n → page_in e.event ≡ p → IsMade n made logs → get_elem? logs p ≡ some l → IsMade n (e.event ∷ made) (set logs p (e ∷ l))
  makes_new by here h log = record {
    parts = λ q m x. ⊎_elim
        (λ (t : (q ≡ p) × (e ∷ l ≡ m)). subst (λ (z : ℕ × Log). events_on z.0 (e.event ∷ made) ≡ events_by n z.1) (λ i. (sym t.0 i, t.1 i))
        (events_on-here p e.event made here ∙ ap (λ (es : List PageEvent). e.event ∷ es) (h.parts p l log) ∙ sym (events_by-here n e l by)))
        (λ (t : (q ≢ p) × (get_elem? logs q ≡ some m)).
        events_on-other q e.event made (λ is. t.0 (sym is ∙ here)) ∙ h.parts q m t.1)
        (at_set logs p q (e ∷ l) m x);
    within = subst (λ (count : ℕ). (page_in e.event < count) × AreWithin count made) (sym (length-set logs p (e ∷ l)))
        (let low = inside logs p l log in (omega arith), h.within);
  }

  -- another pass makes one
  pub makes_other : e.pass ≢ n → IsMade n made logs → get_elem? logs p ≡ some l → IsMade n made (set logs p (e ∷ l))
  makes_other ne h log = record {
    parts = λ q m x. ⊎_elim
        (λ (t : (q ≡ p) × (e ∷ l ≡ m)). subst (λ (z : ℕ × Log). events_on z.0 made ≡ events_by n z.1) (λ i. (sym t.0 i, t.1 i))
        (h.parts p l log ∙ sym (events_by-other n e l ne)))
        (λ (t : (q ≢ p) × (get_elem? logs q ≡ some m)). h.parts q m t.1)
        (at_set logs p q (e ∷ l) m x);
    within = subst (λ (count : ℕ). AreWithin count made) (sym (length-set logs p (e ∷ l))) h.within;
  }

length-in : (l : Log) → length (events_in l) ≡ length l
length-in [] = refl
length-in (e ∷ l) = ap suc (length-in l)

on-most : (page : ℕ) (events : List PageEvent) → length (events_on page events) ≤ length events
on-most page [] = omega arith
on-most page (e ∷ events) =
    let most = on-most page events in
    ⊎_elim
    (λ (here : page_in e ≡ page). let is = ap (λ (es : List PageEvent). length es) (events_on-here page e events here) in omega arith)
    (λ (other : page_in e ≡ page → ⊥). let is = ap (λ (es : List PageEvent). length es) (events_on-other page e events other) in omega arith)
    (cases_eq (page_in e) page)

-- a pass has no more entries on a page than it made events
pub made-few : (n : ℕ) (made : List PageEvent) (logs : List Log) (p : ℕ) (l : Log) → IsMade n made logs → get_elem? logs p ≡ some l → length (made_by n l) ≤ length made
made-few n made logs p l h log =
    let same = ap (λ (es : List PageEvent). length es) (h.parts p l log ∙ events_of n l) in
    let most = on-most p made in
    omega (arith, length-in (made_by n l))

older-life : (first page : ℕ) (newer log : Log) → IsPageLife first page (newer ++ log) → IsPageLife first page log
older-life first page [] log life = life
older-life first page (e ∷ newer) log life = older-life first page newer log life.2

older-made : (seats : ℕ) (newer log : Log) → AreMadeBy seats (newer ++ log) → AreMadeBy seats log
older-made seats [] log made = made
older-made seats (e ∷ newer) log made = older-made seats newer log made.1

-- what a pass knows, by the rule
pub knows : (pool : Opening) (s : State Slot View) (r : Kept pool s) (v : Sight) → SightFits pool.seats s.words r.logs r.past v → Knows pool v
knows pool s r v fits =
    let same = same_length v.seen r.logs fits.seen in
    let log_at : (p : ℕ) (log : Log) → get_elem? v.seen p ≡ some log → (l : Log) × (get_elem? r.logs p ≡ some l) =
    λ p log x. let low = inside v.seen p log x in there_is r.logs p (omega arith) in
    let end : (p : ℕ) (log : Log) (x : get_elem? v.seen p ≡ some log) → Ends log (log_at p log x).0 =
    λ p log x. end_at v.seen r.logs p log (log_at p log x).0 fits.seen x (log_at p log x).1 in
    record {
      least = r.least;
      pages = same ∙ r.all;
      lives = λ p log x. older-life pool.first p (end p log x).0 log
          (subst (IsPageLife pool.first p) (sym (end p log x).1) (r.lawful p (log_at p log x).0 (log_at p log x).1));
      by = λ p log x. older-made pool.seats (end p log x).0 log
          (subst (AreMadeBy pool.seats) (sym (end p log x).1) (r.made p (log_at p log x).0 (log_at p log x).1));
      own = record {
        parts = λ p log x. let l = log_at p log x in
            fits.made.parts p l.0 l.1 ∙ events_of v.number l.0
            ∙ ap events_in (seen_at v.number v.seen r.logs p log l.0 fits.own x l.1) ∙ sym (events_of v.number log);
        within = subst (λ (count : ℕ). AreWithin count v.made) (sym same) fits.made.within;
      };
      past = older-past pool v.past r.past fits.pasts.seen r.whole;
      list = fits.pasts.list;
      parts = fits.pasts.parts;
    }
