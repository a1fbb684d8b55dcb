-- The first pass meets the others, one after the other.
use Rattle.std.proofs.Common.{◌≡◌, ℕ, zero, suc, ◌+◌, ◌<◌, List, [], ◌∷◌, length, slice_index_or, slice_set, sym, refl, ap, ◌∙◌, subst, arith, ⊎_elim, map}
use Rattle.std.proofs.lemmas.Bool.{cases_eq}
use Rattle.std.proofs.lemmas.List.{length-set, get_or_default, get_or-set_same, get_or-set_other}
use Rattle.std.proofs.lemmas.List.Elements.{All-map}
use Rattle.smbd_base.specs.PagesFit.{PagesFit}
use Rattle.shared_pages.specs.declared.pages.Pages.{Pages}
use Rattle.shared_pages.specs.declared.page_pass.PagePass.{PagePass}
use Rattle.shared_pages.specs.declared.view.Sight.{Sight}
use Rattle.shared_pages.specs.Rule.{Log, AllEnd, AllCompare, longest, Knows}
use Rattle.shared_pages.specs.Calls.{IsOf, MadeAsMuch, PastsMet, known_by, opening_of}
use Rattle.shared_pages.specs.Meets.{AreAll, HaveOnePast, lists_made}
use Rattle.shared_pages.specs.Sweeps.{seen_by, HasMet, HaveMet, Swept, HaveMetFirst, HaveAllMet}
use Rattle.shared_pages.proofs.Learning.{AllEnd-refl, AllEnd-trans, longest-left, longest-right, longest-same}
use Rattle.shared_pages.proofs.Fitting.{met-fit}
use Rattle.shared_pages.proofs.OnePast.{one-past}

made-again : (a b c : Sight) → MadeAsMuch a b → MadeAsMuch b c → MadeAsMuch a c
made-again a b c x y = record { number = y.number ∙ x.number; made = y.made ∙ x.made }

met-again : (pool : Pages) (a b c : PagePass) → HasMet pool a b → HasMet pool b c → HasMet pool a c
met-again pool a b c x y = record {
  own = y.own;
  made = made-again (known_by a) (known_by b) (known_by c) x.made y.made;
  older = AllEnd-trans (seen_by a) (seen_by b) (seen_by c) x.older y.older;
  knows = y.knows;
}

-- what a meeting tells
pub two-met : (pool : Pages) (one other now then : PagePass) → IsOf pool now × IsOf pool then
    → (known_by now).seen ≡ longest (known_by one).seen (known_by other).seen → (known_by then).seen ≡ (known_by now).seen
    → MadeAsMuch (known_by one) (known_by now) × MadeAsMuch (known_by other) (known_by then)
    → AllCompare (known_by one).seen (known_by other).seen → PastsMet (known_by one) (known_by other) (known_by now) (known_by then)
    → Knows (opening_of pool) (known_by now) × Knows (opening_of pool) (known_by then) → HaveMet pool one other now then
two-met pool one other now then own seen even_seen made compare_seen pasts knows =
    let is : seen_by now ≡ longest (seen_by one) (seen_by other) = λ i. pasts.first i ∷ seen i in
    let even : seen_by then ≡ seen_by now = λ i. pasts.even i ∷ even_seen i in
    let compare : AllCompare (seen_by one) (seen_by other) = (pasts.compare, compare_seen) in
    record {
      first = record {
        own = own.0;
        made = made.0;
        older = subst (AllEnd (seen_by one)) (sym is) (longest-left (seen_by one) (seen_by other) compare);
        knows = knows.0;
      };
      second = record {
        own = own.1;
        made = made.1;
        older = subst (AllEnd (seen_by other)) (sym is ∙ sym even) (longest-right (seen_by one) (seen_by other) compare);
        knows = knows.1;
      };
      even = even;
      still = λ less. is ∙ longest-same (seen_by one) (seen_by other) less;
    }

pub none-swept : (pool : Pages) (one : PagePass) (olds : List PagePass) → IsOf pool one → Swept pool 0 one one olds olds
none-swept pool one olds own = record {
  count = refl;
  own = own;
  made = record { number = refl; made = refl };
  older = AllEnd-refl (seen_by one);
  knows = λ k. k;
  met = λ i d low. absurd (omega arith);
  below = λ i d low. absurd (omega arith);
  above = λ i d high. refl;
  even = λ all. (refl, λ i d low. absurd (omega arith));
}

module _ (pool : Pages) (k : ℕ) (one now : PagePass) (olds news : List PagePass) (s : Swept pool k one now olds news) (low : k < length olds)
    (next last : PagePass) (h : HaveMet pool now (slice_index_or news k last) next last) where
  abbrev swept : List PagePass
  swept = slice_set news k last

  here : (i : ℕ) (d : PagePass) → i ≡ k → slice_index_or swept i d ≡ last
  here i d is = ap (λ (n : ℕ). slice_index_or swept n d) is ∙ get_or-set_same news k last d (let c = s.count in omega arith)

  there : (i : ℕ) (d : PagePass) → (i ≡ k → ⊥) → slice_index_or swept i d ≡ slice_index_or news i d
  there i d ne = get_or-set_other news k i last d ne

  -- the pass that is met is as it was at first
  was : (i : ℕ) (d : PagePass) → i ≡ k → slice_index_or news k last ≡ slice_index_or olds i d
  was i d is = get_or_default news k last d (let c = s.count in omega arith) ∙ s.above k d (omega arith) ∙ ap (λ (n : ℕ). slice_index_or olds n d) (sym is)

  pub swept-more : Swept pool (k + 1) one next olds swept
  swept-more = record {
    count = length-set news k last ∙ s.count;
    own = h.first.own;
    made = made-again (known_by one) (known_by now) (known_by next) s.made h.first.made;
    older = AllEnd-trans (seen_by one) (seen_by now) (seen_by next) s.older h.first.older;
    knows = λ _. h.first.knows;
    met = λ i d below. ⊎_elim
        (λ (is : i ≡ k). subst (λ (z : PagePass × PagePass). HasMet pool z.0 z.1) (λ j. (was i d is j, sym (here i d is) j)) h.second)
        (λ (ne : i ≡ k → ⊥). subst (HasMet pool (slice_index_or olds i d)) (sym (there i d ne)) (s.met i d (omega arith)))
        (cases_eq i k);
    below = λ i d below. ⊎_elim
        (λ (is : i ≡ k). subst (λ (x : PagePass). AllEnd (seen_by x) (seen_by next)) (sym (here i d is))
        (subst (λ (l : List Log). AllEnd l (seen_by next)) (sym h.even) (AllEnd-refl (seen_by next))))
        (λ (ne : i ≡ k → ⊥). subst (λ (x : PagePass). AllEnd (seen_by x) (seen_by next)) (sym (there i d ne))
        (AllEnd-trans (seen_by (slice_index_or news i d)) (seen_by now) (seen_by next) (s.below i d (omega arith)) h.first.older))
        (cases_eq i k);
    above = λ i d high. there i d (λ is. omega arith) ∙ s.above i d (omega arith);
    even = λ all.
        let e = s.even all in
        let less : AllEnd (seen_by (slice_index_or news k last)) (seen_by now) =
        subst (λ (z : List Log × List Log). AllEnd z.0 z.1) (λ j. (seen_by (sym (was k last refl) j), sym e.0 j)) (all k last low) in
        let same = h.still less in (
          same ∙ e.0,
          (λ i d below. ⊎_elim
              (λ (is : i ≡ k). ap seen_by (here i d is) ∙ h.even)
              (λ (ne : i ≡ k → ⊥). ap seen_by (there i d ne) ∙ e.1 i d (omega arith) ∙ sym same)
              (cases_eq i k)),
        );
  }

-- a second sweep leaves all even
pub swept-twice : (pool : Pages) (begun one mid now : PagePass) (olds mids news : List PagePass) → known_by one ≡ known_by begun → Knows (opening_of pool) (known_by one)
    → Swept pool (length olds) one mid olds mids → Swept pool (length mids) mid now mids news → HaveMetFirst pool begun now olds news
swept-twice pool begun one mid now olds mids news same knows a b =
    let long = a.count in
    let e = b.even (λ i d low. a.below i d (omega arith)) in
    record {
      count = b.count ∙ a.count;
      first = record {
        own = b.own;
        made = subst (λ (v : Sight). MadeAsMuch v (known_by now)) same (made-again (known_by one) (known_by mid) (known_by now) a.made b.made);
        older = subst (λ (v : Sight). AllEnd (v.past ∷ v.seen) (seen_by now)) same (AllEnd-trans (seen_by one) (seen_by mid) (seen_by now) a.older b.older);
        knows = b.knows (a.knows knows);
      };
      met = λ i d low. met-again pool (slice_index_or olds i d) (slice_index_or mids i d) (slice_index_or news i d) (a.met i d low) (b.met i d (omega arith));
      even = λ i d low. e.1 i d (omega arith);
    }

pub all-met : (pool : Pages) (one now : PagePass) (olds news : List PagePass) → HaveMetFirst pool one now olds news → HaveAllMet pool (one ∷ olds) (now ∷ news)
all-met pool one now olds news h = record {
  count = ap suc h.count;
  past = (known_by now).past;
  seen = (known_by now).seen;
  met = λ i d low. met-at i d low;
  even = λ i d low. even-at i d low;
}
  where
    met-at : (i : ℕ) (d : PagePass) → i < length (one ∷ olds) → HasMet pool (slice_index_or (one ∷ olds) i d) (slice_index_or (now ∷ news) i d)
    met-at zero d low = h.first
    met-at (suc i) d low = h.met i d (omega arith)

    even-at : (i : ℕ) (d : PagePass) → i < length (one ∷ olds) → seen_by (slice_index_or (now ∷ news) i d) ≡ seen_by now
    even-at zero d low = refl
    even-at (suc i) d low = h.even i d (omega arith)

-- no pass at all
pub none-met : (pool : Pages) (passes : List PagePass) → length passes ≡ 0 → HaveAllMet pool passes passes
none-met pool passes none = record {
  count = refl;
  past = [];
  seen = [];
  met = λ i d low. absurd (omega arith);
  even = λ i d low. absurd (omega arith);
}

head_of : {a b : Log} {xs ys : List Log} → a ∷ xs ≡ b ∷ ys → a ≡ b
head_of e = cc

rest_of : {a b : Log} {xs ys : List Log} → a ∷ xs ≡ b ∷ ys → xs ≡ ys
rest_of e = cc

pub all-fit : (pool : Pages) (olds news : List PagePass) → HaveAllMet pool olds news
    → AreAll (opening_of pool) (map known_by news) → PagesFit (opening_of pool).first (lists_made (map known_by news))
all-fit pool olds news h all =
    let long = h.count in
    met-fit (opening_of pool) h.seen (map known_by news) all
    (All-map (λ (v : Sight). Knows (opening_of pool) v) known_by news (λ i d low. (h.met i d (omega arith)).knows))
    (All-map (λ (v : Sight). v.seen ≡ h.seen) known_by news (λ i d low. rest_of (h.even i d (omega arith))))

pub all-past : (pool : Pages) (olds news : List PagePass) → HaveAllMet pool olds news → HaveOnePast (opening_of pool) (map known_by news)
all-past pool olds news h =
    let long = h.count in
    one-past (opening_of pool) h.past (map known_by news)
    (All-map (λ (v : Sight). Knows (opening_of pool) v) known_by news (λ i d low. (h.met i d (omega arith)).knows))
    (All-map (λ (v : Sight). v.past ≡ h.past) known_by news (λ i d low. head_of (h.even i d (omega arith))))
