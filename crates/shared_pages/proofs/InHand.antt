-- A pass has a page in hand: what it may do with it, and what it knows afterwards.
use Rattle.std.proofs.Common.{◌≤◌, ◌+◌, arith, ◌≡◌, ℕ, zero, suc, List, [], ◌∷◌, length, set, sym, refl, ap, ◌∙◌, subst}
use mathlib.Core.Option.{some}
use lib.ListN.{get_elem?}
use Rattle.smbd_base.specs.declared.page_event.PageEvent.{PageEvent}
use Rattle.smbd_base.specs.Pages.{PageState, IsPageStep, page_in, page_after}
use Rattle.shared_pages.specs.declared.view.Sight.{Sight}
use Rattle.shared_pages.specs.declared.view.Hold.TheVariants.{Free}
use Rattle.shared_pages.specs.declared.view.View.TheVariants.{One}
use Rattle.shared_pages.specs.Rule.{Log, Sat, IsPastAfter, HasGiven, sight_of, holding, gave, let_go}
use Rattle.shared_pages.proofs.Learning.{ends-trans}
use Rattle.shared_pages.specs.Calls.{MayMake, IsInHand, MayGive, MayLetGo, with_log, with_event}

-- a pass at rest
pub rests_by : (me : Sat) (w : Sight) → me ≡ (One w, []) → w.hold ≡ Free → (me ≡ (One (sight_of me.0), [])) × ((sight_of me.0).hold ≡ Free)
rests_by me w e free = (e ∙ (λ i. (One (sight_of (sym e i).0), [])), ap (λ (m : Sat). (sight_of m.0).hold) e ∙ free)

set-set : {A : Type 0} (xs : List A) (i : ℕ) (a b : A) → set (set xs i a) i b ≡ set xs i b
set-set [] i a b = refl
set-set (x ∷ xs) zero a b = refl
set-set (x ∷ xs) (suc i) a b = λ j. x ∷ set-set xs i a b j

module _ (first page count : ℕ) (old new : Sat) (content : PageState) (h : IsInHand first page old new count content) where
  abbrev v : Sight
  v = sight_of old.0

  pub may_let_go : MayLetGo first page new count content
  may_let_go = record { log = h.log; sight = holding v page h.log h.past; seat = h.seat; hold = refl; seen = h.seen; stands = h.stands; counted = h.counted }

  pub may_give : (event : PageEvent) (after : PageState) → page_in event ≡ page → IsPageStep event content → after ≡ page_after event content → MayMake v
      → MayGive first page event new count after
  may_give event after on step is few = record {
    log = h.log;
    sight = holding v page h.log h.past;
    seat = h.seat;
    hold = refl;
    seen = h.seen;
    on = on;
    step = subst (IsPageStep event) h.stands step;
    after = is ∙ ap (page_after event) h.stands;
    counted = h.counted;
    countable = h.countable;
    few = let most = h.few in omega arith;
  }

  sight : sight_of new.0 ≡ holding v page h.log h.past
  sight = ap (λ (m : Sat). sight_of m.0) h.seat

  pub let_go-seat : (me : Sat) → me ≡ (One (let_go (sight_of new.0)), []) → v.hold ≡ Free → me ≡ (One (with_log v page h.log h.past), [])
  let_go-seat me is free = is ∙ ap (λ (w : Sight). (One (let_go w), [])) sight
      ∙ (λ i. (One (record { number = v.number; made = v.made; past = h.past; seen = set v.seen page h.log; other_past = v.other_past; other = v.other; hold = sym free i; refusals = v.refusals }), []))

  -- the past goes on from what the pass saw when it took the page
  given-after : (past : Log) → IsPastAfter page (holding v page h.log h.past) h.log past → IsPastAfter page v h.log past
  given-after past after = record {
    extends = ends-trans v.past h.past past h.after.extends after.extends;
    own = after.own ∙ h.after.own;
    part = after.part;
  }

  pub given-seat : (event : PageEvent) (me : Sat) → HasGiven event page new me → v.hold ≡ Free
      → (past : Log) × (me ≡ (One (with_event v page event h.log past), [])) × IsPastAfter page v h.log past
  given-seat event me given free =
      let g = subst (λ (w : Sight). (l : Log) → get_elem? w.seen page ≡ some l
      → (past : Log) × (me ≡ (One (gave w page event l past), [])) × IsPastAfter page w l past) sight given h.log h.seen in (
        g.0,
        g.1 ∙ (λ i. (
          One (record {
            number = v.number;
            made = event ∷ v.made;
            past = (record { pass = v.number; event = event }) ∷ g.0;
            seen = set-set v.seen page h.log ((record { pass = v.number; event = event }) ∷ h.log) i;
            other_past = v.other_past;
            other = v.other;
            hold = sym free i;
            refusals = v.refusals;
          }),
          [],
        )),
        given-after g.0 g.2,
      )

  -- it has made one event more
  pub given-few : (event : PageEvent) (me : Sat) → HasGiven event page new me → v.hold ≡ Free → length (sight_of me.0).made ≤ length v.made + 1
  given-few event me given free = let count = ap (λ (m : Sat). length (sight_of m.0).made) (given-seat event me given free).1 in omega arith
