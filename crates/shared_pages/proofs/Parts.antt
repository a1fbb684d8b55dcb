-- Lists of events that agree page by page fit together where one of them does.
use Rattle.std.proofs.Common.{◌≡◌, ℕ, nat_lt, Bool, cond, List, [], ◌∷◌, ◌++◌, count_by, refl, sym, ap, ◌∙◌, subst, arith, ⊎_elim}
use Rattle.std.specs.List.{Contains}
use Rattle.std.specs.List.Sorted.{IsPermutation}
use Rattle.std.proofs.lemmas.Bool.{cases_eq}
use Rattle.std.proofs.lemmas.List.Sorted.{sum_by-IsPermutation, Contains-permutation, IsPermutation-refl, IsPermutation-sym, IsPermutation-cons, IsPermutation-trans, IsPermutation-middle, IsPermutation-append}
use Rattle.smbd_base.specs.declared.page_event.PageEvent.{PageEvent}
use Rattle.smbd_base.specs.declared.page_event.PageEvent.TheVariants.{Load, Fetch, Place, Unload}
use Rattle.smbd_base.specs.Pages.{token_in, page_in, whole_page}
use Rattle.smbd_base.specs.PagesFit.{is_load_of, is_unload_of, is_place_under, is_place_at, token_before, IsPlacedOver, AreLoadsInTurn, AgreeWithLoads, MayPrecede, AllMayPrecede, IsInOrder, AreInOrder, all_events, PagesFit}
use Rattle.smbd_base.proofs.PageContents.{IsPlacedOver-more}
use Rattle.shared_pages.specs.Rule.{events_on}
use Rattle.shared_pages.proofs.Making.{events_on-here, events_on-other}

-- the same events on each page, in the same order
abbrev pub SameParts : List PageEvent → List PageEvent → Type 0
SameParts xs ys = (page : ℕ) → events_on page xs ≡ events_on page ys

pub events_on-append : (page : ℕ) (xs ys : List PageEvent) → events_on page (xs ++ ys) ≡ events_on page xs ++ events_on page ys
events_on-append page [] ys = refl
events_on-append page (x ∷ xs) ys = ⊎_elim
    (λ (here : page_in x ≡ page).
    events_on-here page x (xs ++ ys) here ∙ ap (λ (es : List PageEvent). x ∷ es) (events_on-append page xs ys)
    ∙ ap (λ (es : List PageEvent). es ++ events_on page ys) (sym (events_on-here page x xs here)))
    (λ (other : page_in x ≡ page → ⊥).
    events_on-other page x (xs ++ ys) other ∙ events_on-append page xs ys
    ∙ ap (λ (es : List PageEvent). es ++ events_on page ys) (sym (events_on-other page x xs other)))
    (cases_eq (page_in x) page)

-- a list is cut at its first event on the page
pub record IsCutAt (page : ℕ) (x : PageEvent) (zs ys : List PageEvent) : Type 0 where
  pub front : List PageEvent
  pub back : List PageEvent
  pub is : ys ≡ front ++ x ∷ back
  pub before : events_on page front ≡ []
  pub after : events_on page back ≡ zs

cut-at : (page : ℕ) (x : PageEvent) (zs ys : List PageEvent) → events_on page ys ≡ x ∷ zs → IsCutAt page x zs ys
cut-at page x zs [] e = absurd cc
cut-at page x zs (y ∷ ys) e = ⊎_elim
    (λ (here : page_in y ≡ page).
    let f : y ∷ events_on page ys ≡ x ∷ zs = sym (events_on-here page y ys here) ∙ e in
    let head : y ≡ x = cc in
    let tail : events_on page ys ≡ zs = cc in
    record { front = []; back = ys; is = ap (λ (z : PageEvent). z ∷ ys) head; before = refl; after = tail })
    (λ (other : page_in y ≡ page → ⊥).
    let r = cut-at page x zs ys (sym (events_on-other page y ys other) ∙ e) in
    record { front = y ∷ r.front; back = r.back; is = ap (λ (es : List PageEvent). y ∷ es) r.is; before = events_on-other page y r.front other ∙ r.before; after = r.after })
    (cases_eq (page_in y) page)

permuted : (xs ys : List PageEvent) → SameParts xs ys → IsPermutation xs ys
permuted [] [] same = IsPermutation-refl []
permuted [] (y ∷ ys) same = absurd (let e : [] ≡ y ∷ events_on (page_in y) ys = same (page_in y) ∙ events_on-here (page_in y) y ys refl in cc)
permuted (x ∷ xs) ys same =
    let p = page_in x in
    let c = cut-at p x (events_on p xs) ys (sym (same p) ∙ events_on-here p x xs refl) in
    let less : SameParts xs (c.front ++ c.back) = λ q. ⊎_elim
    (λ (here : p ≡ q).
    subst (λ (z : ℕ). events_on z xs ≡ events_on z (c.front ++ c.back)) here
    (sym c.after ∙ ap (λ (es : List PageEvent). es ++ events_on p c.back) (sym c.before) ∙ sym (events_on-append p c.front c.back)))
    (λ (other : p ≡ q → ⊥).
    sym (events_on-other q x xs other) ∙ same q ∙ ap (events_on q) c.is ∙ events_on-append q c.front (x ∷ c.back)
    ∙ ap (λ (es : List PageEvent). events_on q c.front ++ es) (events_on-other q x c.back other) ∙ sym (events_on-append q c.front c.back))
    (cases_eq p q) in
    subst (IsPermutation (x ∷ xs)) (sym c.is)
    (IsPermutation-trans (x ∷ xs) (x ∷ (c.front ++ c.back)) (c.front ++ x ∷ c.back)
    (IsPermutation-cons x xs (c.front ++ c.back) (permuted xs (c.front ++ c.back) less))
    (IsPermutation-sym (c.front ++ x ∷ c.back) (x ∷ (c.front ++ c.back)) (IsPermutation-middle c.front x c.back)))

-- ---- the order of one list

apart : (x e : PageEvent) → (page_in x ≡ page_in e → ⊥) → MayPrecede x e
apart x e differ = record {
  load_first = λ r bytes is. differ (sym (ap page_in is));
  unload_last = λ bytes is. differ (ap page_in is);
  orders_rise = λ t m n at to old new was is. absurd (differ (ap page_in was ∙ sym (ap page_in is)));
  generations_rise = λ same. absurd (differ same);
}

precede-on : (page : ℕ) (past : List PageEvent) (e : PageEvent) → AllMayPrecede past e → AllMayPrecede (events_on page past) e
precede-on page [] e h = tt
precede-on page (x ∷ past) e h = ⊎_elim
    (λ (here : page_in x ≡ page). subst (λ (es : List PageEvent). AllMayPrecede es e) (sym (events_on-here page x past here)) (h.0, precede-on page past e h.1))
    (λ (other : page_in x ≡ page → ⊥). subst (λ (es : List PageEvent). AllMayPrecede es e) (sym (events_on-other page x past other)) (precede-on page past e h.1))
    (cases_eq (page_in x) page)

precede-of : (past : List PageEvent) (e : PageEvent) → AllMayPrecede (events_on (page_in e) past) e → AllMayPrecede past e
precede-of [] e h = tt
precede-of (x ∷ past) e h = ⊎_elim
    (λ (here : page_in x ≡ page_in e).
    let k : AllMayPrecede (x ∷ events_on (page_in e) past) e = subst (λ (es : List PageEvent). AllMayPrecede es e) (events_on-here (page_in e) x past here) h in
    (k.0, precede-of past e k.1))
    (λ (other : page_in x ≡ page_in e → ⊥).
    (apart x e other, precede-of past e (subst (λ (es : List PageEvent). AllMayPrecede es e) (events_on-other (page_in e) x past other) h)))
    (cases_eq (page_in x) (page_in e))

order-on : (page : ℕ) (xs : List PageEvent) → IsInOrder xs → IsInOrder (events_on page xs)
order-on page [] h = tt
order-on page (x ∷ xs) h = ⊎_elim
    (λ (here : page_in x ≡ page). subst IsInOrder (sym (events_on-here page x xs here)) (precede-on page xs x h.0, order-on page xs h.1))
    (λ (other : page_in x ≡ page → ⊥). subst IsInOrder (sym (events_on-other page x xs other)) (order-on page xs h.1))
    (cases_eq (page_in x) page)

order-of : (xs : List PageEvent) → ((page : ℕ) → IsInOrder (events_on page xs)) → IsInOrder xs
order-of [] h = tt
order-of (x ∷ xs) h =
    let own : IsInOrder (x ∷ events_on (page_in x) xs) = subst IsInOrder (events_on-here (page_in x) x xs refl) (h (page_in x)) in (
      precede-of xs x own.0,
      order-of xs (λ page. ⊎_elim
          (λ (here : page_in x ≡ page).
          let k : IsInOrder (x ∷ events_on page xs) = subst IsInOrder (events_on-here page x xs here) (h page) in k.1)
          (λ (other : page_in x ≡ page → ⊥). subst IsInOrder (events_on-other page x xs other) (h page))
          (cases_eq (page_in x) page)),
    )

-- ---- all lists

abbrev pub AllAlike : List (List PageEvent) → List (List PageEvent) → Type 0
AllAlike [] [] = Unit {0}
AllAlike [] (ys ∷ others) = ⊥
AllAlike (xs ∷ lists) [] = ⊥
AllAlike (xs ∷ lists) (ys ∷ others) = SameParts xs ys × AllAlike lists others

all-permuted : (lists others : List (List PageEvent)) → AllAlike lists others → IsPermutation (all_events lists) (all_events others)
all-permuted [] [] h = IsPermutation-refl []
all-permuted [] (ys ∷ others) h = absurd h
all-permuted (xs ∷ lists) [] h = absurd h
all-permuted (xs ∷ lists) (ys ∷ others) h =
    IsPermutation-append xs ys (all_events lists) (all_events others) (permuted xs ys h.0) (all-permuted lists others h.1)

all-ordered : (lists others : List (List PageEvent)) → AllAlike lists others → AreInOrder lists → AreInOrder others
all-ordered [] [] h ordered = tt
all-ordered [] (ys ∷ others) h ordered = absurd h
all-ordered (xs ∷ lists) [] h ordered = absurd h
all-ordered (xs ∷ lists) (ys ∷ others) h ordered =
    (order-of ys (λ page. subst IsInOrder (h.0 page) (order-on page xs ordered.0)), all-ordered lists others h.1 ordered.1)

-- the same events in another order
module _ (xs ys : List PageEvent) (same : IsPermutation xs ys) where
  counted : (q : PageEvent → Bool) → count_by q ys ≡ count_by q xs
  counted q = sum_by-IsPermutation (λ (x : PageEvent). cond (q x) 1 0) xs ys same

  found : (x : PageEvent) → Contains ys x → Contains xs x
  found x h = Contains-permutation ys xs x (IsPermutation-sym xs ys same) h

  lost : (x : PageEvent) → Contains xs x → Contains ys x
  lost x h = Contains-permutation xs ys x same h

  in-turn : (first : ℕ) → AreLoadsInTurn first xs → AreLoadsInTurn first ys
  in-turn first h = record {
    loads = λ t. omega (arith, counted (is_load_of t), h.loads t);
    unloads = λ t. omega (arith, counted (is_unload_of t), h.unloads t);
    from = λ t has. h.from t (omega (arith, counted (is_load_of t)));
    steps = λ t has above.
        let before = h.steps t (omega (arith, counted (is_load_of t))) above in
        omega (arith, counted (is_load_of (token_before t)));
    ended = λ t u has later here below.
        let gone = h.ended t u (omega (arith, counted (is_load_of t))) (omega (arith, counted (is_load_of u))) here below in
        omega (arith, counted (is_unload_of t));
  }

  agree : AgreeWithLoads xs → AgreeWithLoads ys
  agree a = record {
    loaded = λ e h. let old = a.loaded e (found e h) in omega (arith, counted (is_load_of (token_in e)));
    orders = λ t n.
        counted (is_place_at t n) ∙ a.orders t n ∙ ap (λ (c : ℕ). cond {A = ℕ} (nat_lt n c) 1 0) (sym (counted (is_place_under t)));
    fetches = λ t at bytes loaded r h l. a.fetches t at bytes loaded r (found (Fetch t at bytes) h) (found (Load t r loaded) l);
    places = λ t n at bytes loaded r h l. a.places t n at bytes loaded r (found (Place t n at bytes) h) (found (Load t r loaded) l);
    contents = λ t bytes loaded r h l.
        subst (λ (c : ℕ). IsPlacedOver ys t (whole_page loaded) c bytes) (sym (counted (is_place_under t)))
        (IsPlacedOver-more xs ys t (whole_page loaded) (count_by (is_place_under t) xs) bytes (λ n at b. lost (Place t n at b))
        (a.contents t bytes loaded r (found (Unload t bytes) h) (found (Load t r loaded) l)));
  }

pub fits-alike : (first : ℕ) (lists others : List (List PageEvent)) → AllAlike lists others → PagesFit first lists → PagesFit first others
fits-alike first lists others alike fit =
    let same = all-permuted lists others alike in
    record {
      turns = in-turn (all_events lists) (all_events others) same first fit.turns;
      contents = agree (all_events lists) (all_events others) same fit.contents;
      order = all-ordered lists others alike fit.order;
    }
