-- Passes that have seen the same past of all pages.
use Rattle.std.proofs.Common.{◌≡◌, ℕ, ◌<◌, List, [], ◌∷◌, ◌++◌, length, slice_index_or, refl, sym, ap, ◌∙◌, subst, arith, ⊎_elim, length-append}
use Rattle.std.proofs.lemmas.Bool.{cases_eq}
use lib.ListN.{get_elem?}
use Rattle.smbd_base.specs.declared.page_event.PageEvent.{PageEvent}
use Rattle.smbd_base.specs.Pages.{page_in, entries_on}
use Rattle.smbd_base.specs.PagesFit.{AreMadeBy, events_by}
use Rattle.smbd_base.proofs.PassLists.{events_by-here, events_by-other}
use Rattle.smbd_base.proofs.PoolLives.{entries_on-here, entries_on-other}
use Rattle.shared_pages.specs.declared.view.Sight.{Sight}
use Rattle.shared_pages.specs.Rule.{Log, Ends, IsPast, AreParts, events_on}
use Rattle.shared_pages.specs.Meets.{MeetingMakesOnePast, MeetingSeesAll}
use Rattle.shared_pages.proofs.Fitting.{events_by-append}
use Rattle.shared_pages.proofs.Making.{events_on-here, events_on-other}
use Rattle.shared_pages.proofs.Pasts.{no-past}

pub one-past : MeetingMakesOnePast
one-past pool past [] know saw = record {
  past = [];
  whole = no-past pool;
  seen = λ i d low. absurd (omega arith);
  lists = λ i d low. absurd (omega arith);
  parts = λ i d low. absurd (omega arith);
}
one-past pool past (v ∷ vs) know saw = record {
  past = past;
  whole = subst (IsPast pool) (saw 0 v (omega arith)) (know 0 v (omega arith)).past;
  seen = saw;
  lists = λ i d low. (know i d low).list ∙ ap (events_by (slice_index_or (v ∷ vs) i d).number) (saw i d low);
  parts = λ i d low. subst (λ (l : Log). AreParts l (slice_index_or (v ∷ vs) i d).seen) (saw i d low) (know i d low).parts;
}

-- the entries of a page that a pass made, and the events that it made on the page
events-on-page : (p n : ℕ) (past : Log) → events_on p (events_by n past) ≡ events_by n (entries_on p past)
events-on-page p n [] = refl
events-on-page p n (e ∷ past) = ⊎_elim
    (λ (own : e.pass ≡ n). ⊎_elim
    (λ (here : page_in e.event ≡ p).
    ap (events_on p) (events_by-here n e past own) ∙ events_on-here p e.event (events_by n past) here
    ∙ ap (λ (es : List PageEvent). e.event ∷ es) (events-on-page p n past)
    ∙ sym (ap (events_by n) (entries_on-here p e past here) ∙ events_by-here n e (entries_on p past) own))
    (λ (off : page_in e.event ≡ p → ⊥).
    ap (events_on p) (events_by-here n e past own) ∙ events_on-other p e.event (events_by n past) off
    ∙ events-on-page p n past ∙ sym (ap (events_by n) (entries_on-other p e past off)))
    (cases_eq (page_in e.event) p))
    (λ (other : e.pass ≡ n → ⊥). ⊎_elim
    (λ (here : page_in e.event ≡ p).
    ap (events_on p) (events_by-other n e past other) ∙ events-on-page p n past
    ∙ sym (ap (events_by n) (entries_on-here p e past here) ∙ events_by-other n e (entries_on p past) other))
    (λ (off : page_in e.event ≡ p → ⊥).
    ap (events_on p) (events_by-other n e past other) ∙ events-on-page p n past ∙ sym (ap (events_by n) (entries_on-other p e past off)))
    (cases_eq (page_in e.event) p))
    (cases_eq e.pass n)

by-on-page : (seats p : ℕ) (past : Log) → AreMadeBy seats past → AreMadeBy seats (entries_on p past)
by-on-page seats p [] by = tt
by-on-page seats p (e ∷ past) by = ⊎_elim
    (λ (here : page_in e.event ≡ p). subst (AreMadeBy seats) (sym (entries_on-here p e past here)) (by.0, by-on-page seats p past by.1))
    (λ (off : page_in e.event ≡ p → ⊥). subst (AreMadeBy seats) (sym (entries_on-other p e past off)) (by-on-page seats p past by.1))
    (cases_eq (page_in e.event) p)

-- where no pass has an entry more, the older part is all
none-more : (seats : ℕ) (older newer log : Log) → newer ++ older ≡ log → AreMadeBy seats log
    → ((n : ℕ) → n < seats → events_by n log ≡ events_by n older) → log ≡ older
none-more seats older [] log is by same = sym is
none-more seats older (x ∷ xs) log is by same =
    let made : AreMadeBy seats (x ∷ (xs ++ older)) = subst (AreMadeBy seats) (sym is) by in
    let e : x.event ∷ (events_by x.pass xs ++ events_by x.pass older) ≡ events_by x.pass older =
    ap (λ (es : List PageEvent). x.event ∷ es) (sym (events_by-append x.pass xs older)) ∙ sym (events_by-here x.pass x (xs ++ older) refl)
    ∙ ap (events_by x.pass) is ∙ same x.pass made.0 in
    let long = ap (λ (es : List PageEvent). length es) e in
    absurd (omega (arith, length-append (events_by x.pass xs) (events_by x.pass older)))

pub sees-all : MeetingSeesAll
sees-all pool past seen [] least all know saw sees page log at = absurd (let none = all.count in omega arith)
sees-all pool past seen (v ∷ vs) least all know saw sees page log at =
    let sights : List Sight = v ∷ vs in
    let begun : (past_is : v.past ≡ past) → (seen_is : v.seen ≡ seen) → Ends log (entries_on page past) =
    λ past_is seen_is. subst (λ (l : Log). Ends log (entries_on page l)) past_is
    ((know 0 v (omega arith)).parts page log (ap (λ (ls : List Log). get_elem? ls page) seen_is ∙ at)) in
    let e = begun (saw 0 v (omega arith)) (sees 0 v (omega arith)) in
    let by : AreMadeBy pool.seats past = subst (AreMadeBy pool.seats) (saw 0 v (omega arith)) (know 0 v (omega arith)).past.by in
    none-more pool.seats log e.0 (entries_on page past) e.1 (by-on-page pool.seats page past by) (λ n low.
    let among : n < length sights = let count = all.count in omega arith in
    let w : Sight = slice_index_or sights n v in
    let number : w.number ≡ n = all.numbered n v among in
    let list : w.made ≡ events_by w.number past = (know n v among).list ∙ ap (events_by w.number) (saw n v among) in
    let part : events_on page w.made ≡ events_by w.number log =
    (know n v among).own.parts page log (ap (λ (ls : List Log). get_elem? ls page) (sees n v among) ∙ at) in
    subst (λ (k : ℕ). events_by k (entries_on page past) ≡ events_by k log) number
    (sym (events-on-page page w.number past) ∙ ap (events_on page) (sym list) ∙ part))
