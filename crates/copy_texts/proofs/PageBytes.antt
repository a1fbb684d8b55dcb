-- What page events carry follows from their kinds and their tokens: what is loaded, fetched and placed, as the copy's bytes are known, and
-- what is unloaded, as it is what was loaded with what was placed over it.
use Rattle.std.proofs.Common.{◌≡◌, ◌⊎◌, ℕ, zero, suc, ◌+◌, ◌<◌, ◌^◌, Bool, true, cond, List, [], ◌∷◌, ◌++◌, count_by, Contains, decimal, sym, ap, ◌∙◌, subst, refl, arith, ⊎_elim}
use Rattle.std.proofs.lemmas.Fmt.{decimal_injective}
use Rattle.std.proofs.lemmas.List.Elements.{Contains-append_left, Contains-append_right, Contains-append_cases}
use Rattle.std.proofs.lemmas.List.Sums.{sum_by-cons}
use Rattle.std.proofs.lemmas.List.Concat.{flat_map-append}
use Rattle.smbd_base.specs.declared.right.Right.{Right}
use Rattle.smbd_base.specs.declared.page_event.PageEvent.{PageEvent}
use Rattle.smbd_base.specs.declared.page_event.PageEvent.TheVariants.{Load, Fetch, Place, Unload}
use Rattle.smbd_base.specs.Tokens.{PageToken, number_of}
use Rattle.smbd_base.specs.Pages.{token_in, whole_page, overlaid}
use Rattle.smbd_base.specs.PagesFit.{is_token, is_load_of, is_place_under, HasLoad, IsPlacedOver, AgreeWithLoads, all_events}
use Rattle.smbd_base.proofs.EventLists.{Contains-head, Contains-tail, is_token-true, token-is}
use Rattle.copy_laws.proofs.Eaches.{Each, each-front, each-back}
use Rattle.copy_laws.proofs.PutFetches.{some-counted}
use Rattle.copy_texts.proofs.Pairs.{Pairwise, pairwise-same, pairwise-stronger, pairwise-append}
use Rattle.copy_texts.proofs.PageShapes.{page_letter, IsLikeTold}

-- ---- kinds and tokens

-- a token with numbers so small that no other has its number's text
pub record HasText (t : PageToken) : Type 0 where
  pub page : t.page < 256
  pub generation : t.generation < 2 ^ 40

token-same : (t u : PageToken) → HasText t → HasText u → decimal (number_of t) ≡ decimal (number_of u) → t ≡ u
token-same t u h k e =
    let page = h.page in
    let other_page = k.page in
    let generation = h.generation in
    let other_generation = k.generation in
    let same : number_of t ≡ number_of u = decimal_injective (number_of t) (number_of u) (omega arith) (omega arith) e in
    token-is t u (record { page = omega (arith, same); generation = omega (arith, same) })

-- events of one kind on one token
abbrev pub IsShaped : PageEvent → PageEvent → Type 0
IsShaped e f = (page_letter e ≡ page_letter f) × (token_in e ≡ token_in f)

shaped : (e f : PageEvent) → HasText (token_in e) → HasText (token_in f) → IsLikeTold e f → IsShaped e f
shaped e f h k like = (like.0, token-same (token_in e) (token_in f) h k like.1)

-- ---- as many places

place-shaped : (t : PageToken) (e f : PageEvent) → IsShaped e f → is_place_under t e ≡ is_place_under t f
place-shaped t (Load u r b) (Load v q c) s = refl
place-shaped t (Load u r b) f s = absurd (let alike = s.0 in let b : ⊥ = omega (arith, alike) in b)
place-shaped t (Fetch u at b) (Fetch v to c) s = refl
place-shaped t (Fetch u at b) f s = absurd (let alike = s.0 in let b : ⊥ = omega (arith, alike) in b)
place-shaped t (Place u n at b) (Place v m to c) s = ap (λ (w : PageToken). is_token t w) s.1
place-shaped t (Place u n at b) f s = absurd (let alike = s.0 in let b : ⊥ = omega (arith, alike) in b)
place-shaped t (Unload u b) (Unload v c) s = refl
place-shaped t (Unload u b) f s = absurd (let alike = s.0 in let b : ⊥ = omega (arith, alike) in b)

places-same : (t : PageToken) (xs ys : List PageEvent) → Pairwise IsShaped xs ys → count_by (is_place_under t) xs ≡ count_by (is_place_under t) ys
places-same t [] [] r = refl
places-same t [] (y ∷ ys) r = absurd r
places-same t (x ∷ xs) [] r = absurd r
places-same t (x ∷ xs) (y ∷ ys) r =
    sum_by-cons (λ (e : PageEvent). cond (is_place_under t e) 1 0) x xs
    ∙ ap (λ (b : Bool). cond b 1 0 + count_by (is_place_under t) xs) (place-shaped t x y r.0)
    ∙ ap (λ (n : ℕ). cond (is_place_under t y) 1 0 + n) (places-same t xs ys r.1)
    ∙ sym (sum_by-cons (λ (e : PageEvent). cond (is_place_under t e) 1 0) y ys)

pairs-joined : (R : PageEvent → PageEvent → Type 0) (xs ys : List (List PageEvent)) → Pairwise (Pairwise R) xs ys → Pairwise R (all_events xs) (all_events ys)
pairs-joined R [] [] r = tt
pairs-joined R [] (y ∷ ys) r = absurd r
pairs-joined R (x ∷ xs) [] r = absurd r
pairs-joined R (x ∷ xs) (y ∷ ys) r = pairwise-append R x y (all_events xs) (all_events ys) r.0 (pairs-joined R xs ys r.1)

-- ---- what a copy's events carry

-- Loads are for one right. What a token's load carries is known, and so is what is fetched or placed under it, at the page's front.
abbrev pub IsOfCopy : Right → (PageToken → List ℕ → Type 0) → (PageToken → List ℕ → Type 0) → PageEvent → Type 0
IsOfCopy right load part (Load t r bytes) = (r ≡ right) × load t bytes
IsOfCopy right load part (Fetch t at bytes) = (at ≡ 0) × part t bytes
IsOfCopy right load part (Place t order at bytes) = (order ≡ 0) × (at ≡ 0) × part t bytes
IsOfCopy right load part (Unload t bytes) = Unit {0}

-- a token has it of one list alone
abbrev pub IsOne : (PageToken → List ℕ → Type 0) → Type 0
IsOne has = (t : PageToken) (a b : List ℕ) → has t a → has t b → a ≡ b

-- the load of a token
pub load-of : (events : List PageEvent) (t : PageToken) → HasLoad events t → (r : Right) × (bytes : List ℕ) × Contains events (Load t r bytes)
load-of events t h = (let found = some-counted (is_load_of t) events h in by_event found.0 found.1 found.2) where
  by_event : (e : PageEvent) → Contains events e → is_load_of t e ≡ true → (r : Right) × (bytes : List ℕ) × Contains events (Load t r bytes)
  by_event (Load u r b) at is = (r, b, subst (λ (v : PageToken). Contains events (Load v r b)) (sym (token-is t u (is_token-true t u is))) at)
  by_event (Fetch u to b) at is = absurd (let x : ⊥ = cc in x)
  by_event (Place u n to b) at is = absurd (let x : ⊥ = cc in x)
  by_event (Unload u b) at is = absurd (let x : ⊥ = cc in x)

same-over : (a b : ℕ) (x y m n : List ℕ) → a ≡ b → x ≡ y → m ≡ n → overlaid a x m ≡ overlaid b y n
same-over a b x y m n p q r = rw (p, q, r) refl

same-load : (t u : PageToken) (r q : Right) (b c : List ℕ) → t ≡ u → r ≡ q → b ≡ c → Load t r b ≡ Load u q c
same-load t u r q b c x y z = rw (x, y, z) refl

same-fetch : (t u : PageToken) (at to : ℕ) (b c : List ℕ) → t ≡ u → at ≡ to → b ≡ c → Fetch t at b ≡ Fetch u to c
same-fetch t u at to b c x y z = rw (x, y, z) refl

same-place : (t u : PageToken) (n m at to : ℕ) (b c : List ℕ) → t ≡ u → n ≡ m → at ≡ to → b ≡ c → Place t n at b ≡ Place u m to c
same-place t u n m at to b c x w y z = rw (x, w, y, z) refl

same-unload : (t u : PageToken) (b c : List ℕ) → t ≡ u → b ≡ c → Unload t b ≡ Unload u c
same-unload t u b c x z = rw (x, z) refl

-- the events of all workers of a copy
record IsRun (right : Right) (load part : PageToken → List ℕ → Type 0) (events : List PageEvent) : Type 0 where
  each : (e : PageEvent) → Contains events e → IsOfCopy right load part e
  agree : AgreeWithLoads events

-- two such, with as many places under each token
module _ (right : Right) (load part : PageToken → List ℕ → Type 0) (load-one : IsOne load) (part-one : IsOne part) (events others : List PageEvent)
    (run : IsRun right load part events) (other : IsRun right load part others)
    (places : (t : PageToken) → count_by (is_place_under t) events ≡ count_by (is_place_under t) others) where
  placed-same : (t : PageToken) (loaded : List ℕ) (n : ℕ) (content left : List ℕ) → IsPlacedOver events t loaded n content → IsPlacedOver others t loaded n left → content ≡ left
  placed-same t loaded zero content left p q = p ∙ sym q
  placed-same t loaded (suc n) content left p q =
      let here = run.each (Place t n p.0 p.1) p.3 in
      let there = other.each (Place t n q.0 q.1) q.3 in
      p.5
      ∙ same-over p.0 q.0 p.1 q.1 p.2 q.2 (here.1 ∙ sym there.1) (part-one t p.1 q.1 here.2 there.2) (placed-same t loaded n p.2 q.2 p.4 q.4)
      ∙ sym q.5

  unloaded-same : (t : PageToken) (b c : List ℕ) → Contains events (Unload t b) → Contains others (Unload t c) → b ≡ c
  unloaded-same t b c at to =
      let l = load-of events t (run.agree.loaded (Unload t b) at) in
      let m = load-of others t (other.agree.loaded (Unload t c) to) in
      let loaded : m.1 ≡ l.1 = load-one t m.1 l.1 (other.each (Load t m.0 m.1) m.2).1 (run.each (Load t l.0 l.1) l.2).1 in
      let here = run.agree.contents t b l.1 l.0 at l.2 in
      let there = other.agree.contents t c m.1 m.0 to m.2 in
      placed-same t (whole_page l.1) (count_by (is_place_under t) events) b c here
      (subst (λ (n : ℕ). IsPlacedOver others t (whole_page l.1) n c) (sym (places t))
      (subst (λ (x : List ℕ). IsPlacedOver others t (whole_page x) (count_by (is_place_under t) others) c) loaded there))

  event-same : (e f : PageEvent) → Contains events e → Contains others f → IsShaped e f → e ≡ f
  event-same (Load t r b) (Load u q c) at to s =
      let here = run.each (Load t r b) at in
      let there = other.each (Load u q c) to in
      same-load t u r q b c s.1 (here.0 ∙ sym there.0) (load-one t b c here.1 (subst (λ (v : PageToken). load v c) (sym s.1) there.1))
  event-same (Load t r b) f at to s = absurd (let alike = s.0 in let b : ⊥ = omega (arith, alike) in b)
  event-same (Fetch t m b) (Fetch u n c) at to s =
      let here = run.each (Fetch t m b) at in
      let there = other.each (Fetch u n c) to in
      same-fetch t u m n b c s.1 (here.0 ∙ sym there.0) (part-one t b c here.1 (subst (λ (v : PageToken). part v c) (sym s.1) there.1))
  event-same (Fetch t m b) f at to s = absurd (let alike = s.0 in let b : ⊥ = omega (arith, alike) in b)
  event-same (Place t i m b) (Place u j n c) at to s =
      let here = run.each (Place t i m b) at in
      let there = other.each (Place u j n c) to in
      same-place t u i j m n b c s.1 (here.0 ∙ sym there.0) (here.1 ∙ sym there.1) (part-one t b c here.2 (subst (λ (v : PageToken). part v c) (sym s.1) there.2))
  event-same (Place t i m b) f at to s = absurd (let alike = s.0 in let b : ⊥ = omega (arith, alike) in b)
  event-same (Unload t b) (Unload u c) at to s =
      same-unload t u b c s.1 (unloaded-same t b c at (subst (λ (v : PageToken). Contains others (Unload v c)) (sym s.1) to))
  event-same (Unload t b) f at to s = absurd (let alike = s.0 in let b : ⊥ = omega (arith, alike) in b)

  lists-same : (xs ys : List (List PageEvent)) → Each (Each (λ (e : PageEvent). Contains events e)) xs → Each (Each (λ (e : PageEvent). Contains others e)) ys
      → Pairwise (Pairwise IsShaped) xs ys → xs ≡ ys
  lists-same xs ys h k r =
      pairwise-same (Each (λ (e : PageEvent). Contains events e)) (Each (λ (e : PageEvent). Contains others e)) (Pairwise IsShaped) xs ys
      (λ list more in_list in_more shapes.
      pairwise-same (λ (e : PageEvent). Contains events e) (λ (e : PageEvent). Contains others e) IsShaped list more (λ e f at to s. event-same e f at to s) in_list in_more shapes)
      h k r

-- ---- the lists of both ends

each-from : (P : PageEvent → Type 0) (xs : List PageEvent) → ((e : PageEvent) → Contains xs e → P e) → Each P xs
each-from P [] f = tt
each-from P (x ∷ xs) f = (f x (Contains-head x xs), each-from P xs (λ e h. f e (Contains-tail x xs e h)))

lists-each : (P : PageEvent → Type 0) (lists : List (List PageEvent)) → ((e : PageEvent) → Contains (all_events lists) e → P e) → Each (Each P) lists
lists-each P [] f = tt
lists-each P (x ∷ xs) f = (
  each-from P x (λ e h. f e (Contains-append_left x (all_events xs) e h)),
  lists-each P xs (λ e h. f e (Contains-append_right x (all_events xs) e h)),
)

-- an event of the workers of both ends is one of the client's or of the server's
pub of-either : (clients servers : List (List PageEvent)) (e : PageEvent) → Contains (all_events (clients ++ servers)) e
    → Contains (all_events clients) e ⊎ Contains (all_events servers) e
of-either clients servers e h =
    Contains-append_cases (all_events clients) (all_events servers) e
    (subst (λ (es : List PageEvent). Contains es e) (flat_map-append (λ (list : List PageEvent). list) clients servers) h)

pub record IsPaged (right : Right) (load part : PageToken → List ℕ → Type 0) (clients servers : List (List PageEvent)) : Type 0 where
  pub of_clients : (e : PageEvent) → Contains (all_events clients) e → IsOfCopy right load part e
  pub of_servers : (e : PageEvent) → Contains (all_events servers) e → IsOfCopy right load part e
  pub texts : (t : PageToken) (r : Right) (bytes : List ℕ) → Contains (all_events (clients ++ servers)) (Load t r bytes) → HasText t
  pub agree : AgreeWithLoads (all_events (clients ++ servers))

module _ (right : Right) (load part : PageToken → List ℕ → Type 0) (clients servers : List (List PageEvent)) (p : IsPaged right load part clients servers) where
  abbrev all : List PageEvent
  all = all_events (clients ++ servers)

  paged-run : IsRun right load part all
  paged-run = record {
    each = λ e h.
        ⊎_elim (λ (c : Contains (all_events clients) e). p.of_clients e c) (λ (s : Contains (all_events servers) e). p.of_servers e s) (of-either clients servers e h);
    agree = p.agree;
  }

  texts-each : Each (Each (λ (e : PageEvent). HasText (token_in e))) (clients ++ servers)
  texts-each = lists-each (λ (e : PageEvent). HasText (token_in e)) (clients ++ servers) (λ e h.
      let l = load-of all (token_in e) (p.agree.loaded e h) in p.texts (token_in e) l.0 l.1 l.2)

  inside-each : Each (Each (λ (e : PageEvent). Contains all e)) (clients ++ servers)
  inside-each = lists-each (λ (e : PageEvent). Contains all e) (clients ++ servers) (λ e h. h)

lists-shaped : (xs ys : List (List PageEvent)) → Each (Each (λ (e : PageEvent). HasText (token_in e))) xs → Each (Each (λ (e : PageEvent). HasText (token_in e))) ys
    → Pairwise (Pairwise IsLikeTold) xs ys → Pairwise (Pairwise IsShaped) xs ys
lists-shaped xs ys h k r =
    pairwise-stronger (Each (λ (e : PageEvent). HasText (token_in e))) (Each (λ (e : PageEvent). HasText (token_in e))) (Pairwise IsLikeTold) (Pairwise IsShaped) xs ys
    (λ list more texts others likes.
    pairwise-stronger (λ (e : PageEvent). HasText (token_in e)) (λ (e : PageEvent). HasText (token_in e)) IsLikeTold IsShaped list more (λ e f a b l. shaped e f a b l) texts others likes)
    h k r

-- two copies with the same bytes, whose events are told alike, have the same lists
pub pages-same : (right : Right) (load part : PageToken → List ℕ → Type 0) → IsOne load → IsOne part → (clients servers cs ss : List (List PageEvent))
    → IsPaged right load part clients servers → IsPaged right load part cs ss
    → Pairwise (Pairwise IsLikeTold) clients cs → Pairwise (Pairwise IsLikeTold) servers ss → (clients ≡ cs) × (servers ≡ ss)
pages-same right load part load-one part-one clients servers cs ss p q client_likes server_likes =
    let H : List PageEvent → Type 0 = Each (λ (e : PageEvent). HasText (token_in e)) in
    let In : List PageEvent → Type 0 = Each (λ (e : PageEvent). Contains (all_events (clients ++ servers)) e) in
    let InOther : List PageEvent → Type 0 = Each (λ (e : PageEvent). Contains (all_events (cs ++ ss)) e) in
    let texts = texts-each right load part clients servers p in
    let other_texts = texts-each right load part cs ss q in
    let inside = inside-each right load part clients servers p in
    let other_inside = inside-each right load part cs ss q in
    let client_shapes = lists-shaped clients cs (each-front H clients servers texts) (each-front H cs ss other_texts) client_likes in
    let server_shapes = lists-shaped servers ss (each-back H clients servers texts) (each-back H cs ss other_texts) server_likes in
    let shapes = pairs-joined IsShaped (clients ++ servers) (cs ++ ss) (pairwise-append (Pairwise IsShaped) clients cs servers ss client_shapes server_shapes) in
    let run = paged-run right load part clients servers p in
    let other = paged-run right load part cs ss q in
    let events = all_events (clients ++ servers) in
    let others = all_events (cs ++ ss) in
    let places : (t : PageToken) → count_by (is_place_under t) events ≡ count_by (is_place_under t) others = λ t. places-same t events others shapes in (
      lists-same right load part load-one part-one events others run other places clients cs (each-front In clients servers inside) (each-front InOther cs ss other_inside)
          client_shapes,
      lists-same right load part load-one part-one events others run other places servers ss (each-back In clients servers inside) (each-back InOther cs ss other_inside)
          server_shapes,
    )
