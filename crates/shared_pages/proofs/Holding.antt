-- A pass takes a page, and gives it back.
use Rattle.std.proofs.Common.{◌≡◌, ◌≢◌, ℕ, zero, suc, ◌+◌, ◌<◌, ◌≤◌, List, [], ◌∷◌, length, slice_index, set, sym, refl, ap, ◌∙◌, subst, arith, length-set, ⊎_elim}
use Rattle.std.specs.Prelude.{Some}
use mathlib.Core.Option.{some, none, some-injective}
use mathlib.Core.Logic.{dite}
use native.Mathlib.Decide.{ℕ_discrete}
use lib.ListN.{get_elem?}
use lib.Seq.{set-get_or}
use Rattle.atomic_table.specs.Table.{State, step, stepped, keeps, takes, gives, Allows}
use Rattle.atomic_table.proofs.Lists.{at_set, set_else, set_here}
use Rattle.smbd_base.specs.declared.page_event.PageEvent.{PageEvent}
use Rattle.smbd_base.specs.Pages.{Entry, PageState, IsPageLife, IsPageStep, page_in, page_state, page_after, entries_on}
use Rattle.smbd_base.specs.PagesFit.{AreMadeBy}
use Rattle.shared_pages.specs.declared.view.Opening.{Opening}
use Rattle.shared_pages.specs.declared.view.Hold.{Hold}
use Rattle.shared_pages.specs.declared.view.Hold.TheVariants.{Free, Has}
use Rattle.shared_pages.specs.declared.view.Sight.{Sight}
use Rattle.shared_pages.specs.declared.view.View.{View}
use Rattle.shared_pages.specs.declared.view.View.TheVariants.{Spent, Rest, One, Copy}
use Rattle.shared_pages.specs.Rule.{refused, Slot, Log, mark, most_events, made_by, IsHeld, SightFits, ViewFits, Rests, Kept, holding, gave, let_go, held, given, kept}
use Rattle.shared_pages.proofs.Making.{makes_new, makes_other, made-few}
use Rattle.shared_pages.proofs.Pasts.{IsWhole, made_by-other, more-past, past-grows, past-gives, past-holds, past-stays, sees-after}
use Rattle.smbd_base.proofs.PoolLives.{entries_on-here, entries_on-other}
use Rattle.shared_pages.proofs.Logs.{few-more, bounded, inside, there_is, same_length, end_at, seen_at, sees, sees_own, grows, grows_other, sees_new, sees_new_own}

pub one_is : (v w : Sight) → One v ≡ One w → v ≡ w
one_is v w e = cc

-- a seat's sight becomes another with the same number: what a seat has now, it had with the same number
pub old_sight : (views : List View) (id i : ℕ) (v w a : Sight) → get_elem? views id ≡ some (One v) → w.number ≡ v.number → get_elem? (set views id (One w)) i ≡ some (One a) → (b : Sight) × (get_elem? views i ≡ some (One b)) × (a.number ≡ b.number)
old_sight views id i v w a at same now = ⊎_elim
    (λ (t : (i ≡ id) × (One w ≡ One a)). (v, subst (λ (z : ℕ). get_elem? views z ≡ some (One v)) (sym t.0) at, ap (λ (z : Sight). z.number) (sym (one_is w a t.1)) ∙ same))
    (λ (t : (i ≢ id) × (get_elem? views i ≡ some (One a))). (a, t.1, refl))
    (at_set views id i (One w) (One a) now)

pub numbers_apart : (pool : Opening) (s : State Slot View) (r : Kept pool s) (id : ℕ) (v w : Sight) → get_elem? s.views id ≡ some (One v) → w.number ≡ v.number
    → (i j : ℕ) (a b : Sight) → get_elem? (set s.views id (One w)) i ≡ some (One a) → get_elem? (set s.views id (One w)) j ≡ some (One b) → a.number ≡ b.number → i ≡ j
numbers_apart pool s r id v w at same i j a b x y e = let c = old_sight s.views id i v w a at same x in let d = old_sight s.views id j v w b at same y in
    r.apart i j c.0 d.0 c.1 d.1 (sym c.2 ∙ (e ∙ d.2))

-- a right that is there now was there before
pub old_rest : (views : List View) (id j k : ℕ) (w : Sight) (lists : List Log) → get_elem? (set views id (One w)) j ≡ some (Rest k lists) → get_elem? views j ≡ some (Rest k lists)
old_rest views id j k w lists now = ⊎_elim (λ (t : (j ≡ id) × (One w ≡ Rest k lists)). let e = t.1 in absurd cc) (λ (t : (j ≢ id) × (get_elem? views j ≡ some (Rest k lists))). t.1) (at_set views id j (One w) (Rest k lists) now)

all_below : (pool : Opening) (s : State Slot View) (r : Kept pool s) (id : ℕ) (v w : Sight) → get_elem? s.views id ≡ some (One v) → w.number ≡ v.number
    → (i j k : ℕ) (a : Sight) (lists : List Log) → get_elem? (set s.views id (One w)) i ≡ some (One a) → get_elem? (set s.views id (One w)) j ≡ some (Rest k lists) → a.number < k
all_below pool s r id v w at same i j k a lists x y = let c = old_sight s.views id i v w a at same x in let h = r.below i j k c.0 lists c.1 (old_rest s.views id j k w lists y) in let e = c.2 in omega arith

only_rest : (pool : Opening) (s : State Slot View) (r : Kept pool s) (id : ℕ) (w : Sight) (i j k m : ℕ) (lists others : List Log) → get_elem? (set s.views id (One w)) i ≡ some (Rest k lists) → get_elem? (set s.views id (One w)) j ≡ some (Rest m others) → i ≡ j
only_rest pool s r id w i j k m lists others x y = r.one_rest i j k m lists others (old_rest s.views id i k w lists x) (old_rest s.views id j m w others y)

marked : (h : Hold) (words : List ℕ) (seen logs : List Log) (p : ℕ) → p < length words → IsHeld h words seen logs → IsHeld h (set words p mark) seen logs
marked Free words seen logs p low h = tt
marked (Has q) words seen logs p low h = (dite (ℕ_discrete q p) (λ e. subst (λ (z : ℕ). get_elem? (set words p mark) z ≡ some mark) (sym e) (set_here words p mark low)) (λ ne. set_else words p q mark ne ∙ h.0), h.1)

others_marked : (seats : ℕ) (words : List ℕ) (logs : List Log) (past : Log) (p : ℕ) (u : View) → p < length words → ViewFits seats words logs past u → ViewFits seats (set words p mark) logs past u
others_marked seats words logs past p Spent low h = tt
others_marked seats words logs past p (Rest k lists) low h = h
others_marked seats words logs past p (One v) low h = record { among = h.among; made = h.made; pasts = h.pasts; seen = h.seen; other = h.other; own = h.own; held = marked v.hold words v.seen logs p low h.held }
others_marked seats words logs past p (Copy c older) low h = h

-- the page of a hold
held_at : (h : Hold) (words : List ℕ) (seen logs : List Log) (p : ℕ) → h ≡ Has p → IsHeld h words seen logs → (get_elem? words p ≡ some mark) × (get_elem? seen p ≡ get_elem? logs p)
held_at h words seen logs p e x = subst (λ (z : Hold). IsHeld z words seen logs) e x

has_one : (p q : ℕ) → Has p ≡ Has q → p ≡ q
has_one p q e = cc

-- the views may be others where each fits, and each end among them was there before, with its number and its hold
pub reviewed : (pool : Opening) (s : State Slot View) (r : Kept pool s) (views : List View) → ((j : ℕ) (u : View) → get_elem? views j ≡ some u → ViewFits pool.seats s.words r.logs r.past u)
    → ((j : ℕ) (a : Sight) → get_elem? views j ≡ some (One a) → (b : Sight) × (get_elem? s.views j ≡ some (One b)) × (a.number ≡ b.number) × (a.hold ≡ b.hold))
    → ((j k : ℕ) (lists : List Log) → get_elem? views j ≡ some (Rest k lists) → get_elem? s.views j ≡ some (Rest k lists))
    → Kept pool record { words = s.words; homes = s.homes; views = views }
reviewed pool s r views fits old rests = record {
  logs = r.logs;
  least = r.least;
  seats = r.seats;
  words = r.words;
  homes = r.homes;
  all = r.all;
  past = r.past;
  whole = r.whole;
  parts = r.parts;
  lawful = r.lawful;
  made = r.made;
  few = r.few;
  rests = r.rests;
  views = fits;
  apart = λ i j a b x y e. let c = old i a x in let d = old j b y in r.apart i j c.0 d.0 c.1 d.1 (sym c.2 ∙ (e ∙ d.2));
  one_holder = λ i j a b p x y f g. let c = old i a x in let d = old j b y in r.one_holder i j c.0 d.0 p c.1 d.1 (sym c.3 ∙ f) (sym d.3 ∙ g);
  below = λ i j k a lists x y. let c = old i a x in let h = r.below i j k c.0 lists c.1 (rests j k lists y) in let e = c.2 in omega arith;
  one_rest = λ i j k m lists others x y. r.one_rest i j k m lists others (rests i k lists x) (rests j m others y);
}

-- a sight changes in what it has seen alone
pub resighted : (pool : Opening) (s : State Slot View) (r : Kept pool s) (id : ℕ) (v w : Sight) → get_elem? s.views id ≡ some (One v) → SightFits pool.seats s.words r.logs r.past w → w.number ≡ v.number → w.hold ≡ v.hold
    → Kept pool record { words = s.words; homes = s.homes; views = set s.views id (One w) }
resighted pool s r id v w at fits number hold = reviewed pool s r (set s.views id (One w))
    (λ j u x. ⊎_elim (λ (t : (j ≡ id) × (One w ≡ u)). subst (ViewFits pool.seats s.words r.logs r.past) t.1 fits) (λ (t : (j ≢ id) × (get_elem? s.views j ≡ some u)). r.views j u t.1) (at_set s.views id j (One w) u x))
    (λ j a x. ⊎_elim
    (λ (t : (j ≡ id) × (One w ≡ One a)). let is = one_is w a t.1 in
    (v, subst (λ (z : ℕ). get_elem? s.views z ≡ some (One v)) (sym t.0) at, ap (λ (z : Sight). z.number) (sym is) ∙ number, ap (λ (z : Sight). z.hold) (sym is) ∙ hold))
    (λ (t : (j ≢ id) × (get_elem? s.views j ≡ some (One a))). (a, t.1, refl, refl))
    (at_set s.views id j (One w) (One a) x))
    (λ j k lists x. old_rest s.views id j k w lists x)

unchanged : (pool : Opening) (s : State Slot View) (id p : ℕ) (v : Sight) → Kept pool s → get_elem? s.views id ≡ some (One v) → slice_index s.words p ≡ mark → Kept pool (stepped s p mark id [] (One (refused v)) keeps)
unchanged pool s id p v r at is = subst (λ (z : List ℕ). Kept pool record { words = z; homes = s.homes; views = set s.views id (One (refused v)) })
    (sym (ap (λ (x : ℕ). set s.words p x) (sym is) ∙ set-get_or s.words p 0))
    (let m = r.views id (One v) at in resighted pool s r id v (refused v) at (record { among = m.among; made = m.made; pasts = record { parts = m.pasts.parts; other_parts = m.pasts.other_parts; seen = m.pasts.seen; other = m.pasts.other; own = m.pasts.own; list = m.pasts.list }; seen = m.seen; other = m.other; own = m.own; held = m.held }) refl refl)

module _ (pool : Opening) (s : State Slot View) (r : Kept pool s) (id p : ℕ) (v : Sight) (at : get_elem? s.views id ≡ some (One v)) (l : Log) (log : get_elem? r.logs p ≡ some l) where
  mine : SightFits pool.seats s.words r.logs r.past v
  mine = r.views id (One v) at

  low : p < length s.words
  low = let a = inside r.logs p l log in let b = r.words in let c = r.all in omega arith

  low_home : p < length s.homes
  low_home = let a = inside r.logs p l log in let b = r.homes in let c = r.all in omega arith

  low_seen : p < length v.seen
  low_seen = let a = inside r.logs p l log in let b = same_length v.seen r.logs mine.seen in omega arith

  not_marked : (j : ℕ) (a : Sight) (q : ℕ) → get_elem? s.words p ≢ some mark → get_elem? s.views j ≡ some (One a) → a.hold ≡ Has q → q ≢ p
  not_marked j a q free x h e = free (held_at a.hold s.words a.seen r.logs p (h ∙ ap Has e) (r.views j (One a) x).held).0

  takes_page : get_elem? s.words p ≢ some mark → Kept pool record { words = set s.words p mark; homes = set s.homes p none; views = set s.views id (One (holding v p l r.past)) }
  takes_page free = record {
    logs = r.logs;
    least = r.least;
    seats = r.seats;
    words = length-set s.words p mark ∙ r.words;
    homes = length-set s.homes p none ∙ r.homes;
    all = r.all;
    past = r.past;
    whole = r.whole;
    parts = r.parts;
    lawful = r.lawful;
    made = r.made;
    few = r.few;
    rests = λ q m x y. dite (ℕ_discrete q p)
        (λ is. absurd (y (subst (λ (z : ℕ). get_elem? (set s.words p mark) z ≡ some mark) (sym is) (set_here s.words p mark low))))
        (λ ne. let old = r.rests q m x (λ z. y (set_else s.words p q mark ne ∙ z)) in record { counted = set_else s.words p q mark ne ∙ old.counted; lies = set_else s.homes p q none ne ∙ old.lies });
    views = λ j u x. ⊎_elim
        (λ (t : (j ≡ id) × (One (holding v p l r.past) ≡ u)). subst (ViewFits pool.seats (set s.words p mark) r.logs r.past) t.1 record {
          among = mine.among;
          made = mine.made;
          pasts = past-holds r.past v p l r.logs mine.pasts r.parts (sees v.seen r.logs p l mine.seen log);
          seen = sees v.seen r.logs p l mine.seen log;
          other = mine.other;
          own = sees_own v.number v.seen r.logs p l mine.own log;
          held = (set_here s.words p mark low, set_here v.seen p l low_seen ∙ sym log);
        })
        (λ (t : (j ≢ id) × (get_elem? s.views j ≡ some u)). others_marked pool.seats s.words r.logs r.past p u low (r.views j u t.1))
        (at_set s.views id j (One (holding v p l r.past)) u x);
    apart = numbers_apart pool s r id v (holding v p l r.past) at refl;
    below = all_below pool s r id v (holding v p l r.past) at refl;
    one_rest = only_rest pool s r id (holding v p l r.past);
    one_holder = λ i j a b q x y f g. ⊎_elim
        (λ (t : (i ≡ id) × (One (holding v p l r.past) ≡ One a)). ⊎_elim
        (λ (u : (j ≡ id) × (One (holding v p l r.past) ≡ One b)). t.0 ∙ sym u.0)
        (λ (u : (j ≢ id) × (get_elem? s.views j ≡ some (One b))). absurd (not_marked j b q free u.1 g (sym (has_one p q (ap (λ (z : Sight). z.hold) (one_is (holding v p l r.past) a t.1) ∙ f)))))
        (at_set s.views id j (One (holding v p l r.past)) (One b) y))
        (λ (t : (i ≢ id) × (get_elem? s.views i ≡ some (One a))). ⊎_elim
        (λ (u : (j ≡ id) × (One (holding v p l r.past) ≡ One b)). absurd (not_marked i a q free t.1 f (sym (has_one p q (ap (λ (z : Sight). z.hold) (one_is (holding v p l r.past) b u.1) ∙ g)))))
        (λ (u : (j ≢ id) × (get_elem? s.views j ≡ some (One b))). r.one_holder i j a b q t.1 u.1 f g)
        (at_set s.views id j (One (holding v p l r.past)) (One b) y))
        (at_set s.views id i (One (holding v p l r.past)) (One a) x);
  }

pub holds : (pool : Opening) (slots id p : ℕ) (v : Sight) → p < pool.pages → v.hold ≡ Free → Allows (Kept pool) slots id (One v, []) p (λ _. mark) (held pool.first (step slots p mark 0 none) (One v, []))
holds pool slots id p v low free s r wide at small = let x : ℕ = slice_index s.words p in dite (ℕ_discrete x mark)
    (λ busy. (One (refused v), keeps, tt, unchanged pool s id p v r at busy, ((λ _. refl), (λ ne. absurd (ne busy)))))
    (λ ne. let found = there_is r.logs p (let a = r.all in omega arith) in let l = found.0 in
    let word : get_elem? s.words p ≡ some x = read s.words p (let a = r.words in omega arith) in
    let idle : get_elem? s.words p ≢ some mark = λ e. ne (some-injective x mark (sym word ∙ e)) in
    let old = r.rests p l found.1 idle in (
      One (holding v p l r.past),
      takes p (Some (page_state pool.first l)),
      old.lies,
      takes_page pool s r id p v at l found.1 idle,
      (
        (λ is. absurd (ne is)),
        (λ _. (
          l,
          r.past,
          refl,
          some-injective x (length l) (sym word ∙ old.counted),
          r.lawful p l found.1,
          λ older y. (end_at v.seen r.logs p older l (r.views id (One v) at).seen y found.1, seen_at v.number v.seen r.logs p older l (r.views id (One v) at).own y found.1),
          bounded pool.seats l r.seats (r.made p l found.1) (λ n. r.few n p l found.1),
          set_here v.seen p l (low_seen pool s r id p v at l found.1),
          made-few v.number v.made r.logs p l (r.views id (One v) at).made found.1,
          sees-after p v l r.past (r.parts p l found.1) (r.views id (One v) at).pasts,
        )),
      ),
    ))
  where
    read : (xs : List ℕ) (i : ℕ) → i < length xs → get_elem? xs i ≡ some (slice_index xs i)
    read [] i h = absurd (omega arith)
    read (y ∷ ys) zero h = refl
    read (y ∷ ys) (suc i) h = read ys i (omega arith)

pub no_hold : (q : ℕ) → Free ≡ Has q → ⊥
no_hold q e = cc

held_else : (h : Hold) (words : List ℕ) (seen logs : List Log) (p x : ℕ) (e : Log) → (h ≡ Has p → ⊥) → IsHeld h words seen logs → IsHeld h (set words p x) seen (set logs p e)
held_else Free words seen logs p x e ne h = tt
held_else (Has q) words seen logs p x e ne h = let off : q ≢ p = λ is. ne (ap Has is) in (set_else words p q x off ∙ h.0, h.1 ∙ sym (set_else logs p q e off))

others_grow : (seats : ℕ) (words : List ℕ) (logs : List Log) (past : Log) (p x : ℕ) (e : Entry) (l : Log) (u : View) → get_elem? logs p ≡ some l → ((w : Sight) → One w ≡ u → (e.pass ≢ w.number) × (w.hold ≡ Has p → ⊥))
    → ((k : ℕ) (lists : List Log) → Rest k lists ≡ u → e.pass < k) → ViewFits seats words logs past u → ViewFits seats (set words p x) (set logs p (e ∷ l)) (e ∷ past) u
others_grow seats words logs past p x e l Spent log off low h = tt
others_grow seats words logs past p x e l (Rest k lists) log off low h = (
  grows lists logs p e l h.0 log,
  (λ n more. let a = low k lists refl in grows_other n lists logs p e l (λ is. omega arith) (h.1 n more) log),
  (λ n more. let a = low k lists refl in makes_other n [] logs p e l (λ is. omega arith) (h.2 n more) log),
  (λ n more. let a = low k lists refl in made_by-other n e past (λ is. omega arith) ∙ h.3 n more),
  h.4,
)
others_grow seats words logs past p x e l (One w) log off low h = record {
  among = h.among;
  made = makes_other w.number w.made logs p e l (off w refl).0 h.made log;
  pasts = past-grows past w e (off w refl).0 h.pasts;
  seen = grows w.seen logs p e l h.seen log;
  other = grows w.other logs p e l h.other log;
  own = grows_other w.number w.seen logs p e l (off w refl).0 h.own log;
  held = held_else w.hold words w.seen logs p x (e ∷ l) (off w refl).1 h.held;
}
others_grow seats words logs past p x e l (Copy c older) log off low h = (grows c logs p e l h.0 log, (e ∷ h.1.0, ap (λ (z : Log). e ∷ z) h.1.1), h.2)

module _ (pool : Opening) (s : State Slot View) (r : Kept pool s) (id p : ℕ) (v : Sight) (at : get_elem? s.views id ≡ some (One v)) (l : Log) (log : get_elem? r.logs p ≡ some l) (turn : v.hold ≡ Has p) where
  gives_page : (event : PageEvent) → page_in event ≡ p → IsPageStep event (page_state pool.first l) → length (made_by v.number l) < most_events
      → Kept pool record {
        words = set s.words p (length l + 1);
        homes = set s.homes p (some (Some (page_state pool.first ((record { pass = v.number; event = event }) ∷ l))));
        views = set s.views id (One (gave v p event l r.past));
      }
  gives_page event here may few = let e : Entry = record { pass = v.number; event = event } in let w : Sight = gave v p event l r.past in
      let whole : IsWhole (e ∷ r.past) (set r.logs p (e ∷ l)) =
      λ q m x. ⊎_elim
      (λ (t : (q ≡ p) × (e ∷ l ≡ m)). ap (λ (z : ℕ). entries_on z (e ∷ r.past)) t.0 ∙ entries_on-here p e r.past here ∙ ap (λ (z : Log). e ∷ z) (r.parts p l log) ∙ t.1)
      (λ (t : (q ≢ p) × (get_elem? r.logs q ≡ some m)). entries_on-other q e r.past (λ is. t.0 (sym is ∙ here)) ∙ r.parts q m t.1)
      (at_set r.logs p q (e ∷ l) m x) in
      record {
        logs = set r.logs p (e ∷ l);
        least = r.least;
        seats = r.seats;
        words = length-set s.words p (length l + 1) ∙ r.words;
        homes = length-set s.homes p (some (Some (page_state pool.first (e ∷ l)))) ∙ r.homes;
        all = length-set r.logs p (e ∷ l) ∙ r.all;
        past = e ∷ r.past;
        whole = more-past pool e p l r.past here (let a = inside r.logs p l log in let b = r.all in omega arith) (mine pool s r id p v at l log).among (r.parts p l log) may r.whole;
        parts = whole;
        lawful = λ q m x. ⊎_elim
            (λ (t : (q ≡ p) × (e ∷ l ≡ m)). subst (λ (z : ℕ × Log). IsPageLife pool.first z.0 z.1) (λ i. (sym t.0 i, t.1 i)) (here, may, r.lawful p l log))
            (λ (t : (q ≢ p) × (get_elem? r.logs q ≡ some m)). r.lawful q m t.1)
            (at_set r.logs p q (e ∷ l) m x);
        made = λ q m x. ⊎_elim
            (λ (t : (q ≡ p) × (e ∷ l ≡ m)). subst (AreMadeBy pool.seats) t.1 ((mine pool s r id p v at l log).among, r.made p l log))
            (λ (t : (q ≢ p) × (get_elem? r.logs q ≡ some m)). r.made q m t.1)
            (at_set r.logs p q (e ∷ l) m x);
        few = λ n q m x. ⊎_elim
            (λ (t : (q ≡ p) × (e ∷ l ≡ m)). subst (λ (z : Log). length (made_by n z) ≤ most_events) t.1
            (few-more n e l few (r.few n p l log)))
            (λ (t : (q ≢ p) × (get_elem? r.logs q ≡ some m)). r.few n q m t.1)
            (at_set r.logs p q (e ∷ l) m x);
        rests = λ q m x y. ⊎_elim
            (λ (t : (q ≡ p) × (e ∷ l ≡ m)). subst (λ (z : ℕ × Log). Rests (set s.words p (length l + 1)) (set s.homes p (some (Some (page_state pool.first (e ∷ l))))) pool.first z.0 z.1) (λ i. (sym t.0 i, t.1 i)) record {
              counted = set_here s.words p (length l + 1) (low pool s r id p v at l log) ∙ ap (λ (z : ℕ). some z) (omega arith);
              lies = set_here s.homes p (some (Some (page_state pool.first (e ∷ l)))) (low_home pool s r id p v at l log);
            })
            (λ (t : (q ≢ p) × (get_elem? r.logs q ≡ some m)). let old = r.rests q m t.1 (λ z. y (set_else s.words p q (length l + 1) t.0 ∙ z)) in
            record { counted = set_else s.words p q (length l + 1) t.0 ∙ old.counted; lies = set_else s.homes p q (some (Some (page_state pool.first (e ∷ l)))) t.0 ∙ old.lies })
            (at_set r.logs p q (e ∷ l) m x);
        views = λ j u x. ⊎_elim
            (λ (t : (j ≡ id) × (One w ≡ u)). subst (ViewFits pool.seats (set s.words p (length l + 1)) (set r.logs p (e ∷ l)) (e ∷ r.past)) t.1 record {
              among = (mine pool s r id p v at l log).among;
              made = makes_new v.number v.made r.logs p e l refl here (mine pool s r id p v at l log).made log;
              pasts = past-gives r.past v p event l (set r.logs p (e ∷ l)) (mine pool s r id p v at l log).pasts whole (sees_new v.seen r.logs p (e ∷ l) (mine pool s r id p v at l log).seen);
              seen = sees_new v.seen r.logs p (e ∷ l) (mine pool s r id p v at l log).seen;
              other = grows v.other r.logs p e l (mine pool s r id p v at l log).other log;
              own = sees_new_own v.number v.seen r.logs p (e ∷ l) (mine pool s r id p v at l log).own;
              held = tt;
            })
            (λ (t : (j ≢ id) × (get_elem? s.views j ≡ some u)). others_grow pool.seats s.words r.logs r.past p (length l + 1) e l u log
            (λ a is. let here : get_elem? s.views j ≡ some (One a) = t.1 ∙ ap (λ (z : View). some z) (sym is) in
            ((λ same. t.0 (r.apart j id a v here at (sym same))), (λ h. t.0 (r.one_holder j id a v p here at h turn))))
            (λ k lists is. let low = r.below id j k v lists at (t.1 ∙ ap (λ (z : View). some z) (sym is)) in omega arith)
            (r.views j u t.1))
            (at_set s.views id j (One w) u x);
        apart = numbers_apart pool s r id v w at refl;
        below = all_below pool s r id v w at refl;
        one_rest = only_rest pool s r id w;
        one_holder = λ i j a b q x y f g. ⊎_elim
            (λ (t : (i ≡ id) × (One w ≡ One a)). absurd (no_hold q (ap (λ (z : Sight). z.hold) (one_is w a t.1) ∙ f)))
            (λ (t : (i ≢ id) × (get_elem? s.views i ≡ some (One a))). ⊎_elim
            (λ (u : (j ≡ id) × (One w ≡ One b)). absurd (no_hold q (ap (λ (z : Sight). z.hold) (one_is w b u.1) ∙ g)))
            (λ (u : (j ≢ id) × (get_elem? s.views j ≡ some (One b))). r.one_holder i j a b q t.1 u.1 f g)
            (at_set s.views id j (One w) (One b) y))
            (at_set s.views id i (One w) (One a) x);
      }

-- a page that was taken goes back with an event more
pub gives_back : (pool : Opening) (slots id p x : ℕ) (v : Sight) (l : Log) (event : PageEvent) (content : PageState) → v.hold ≡ Has p → get_elem? v.seen p ≡ some l
    → page_in event ≡ p → IsPageStep event (page_state pool.first l) → length (made_by v.number l) < most_events
    → x ≡ length l + 1 → content ≡ page_after event (page_state pool.first l)
    → Allows (Kept pool) slots id (One v, (p, Some content) ∷ []) p (λ _. x) (λ _. given event (step slots p x 0 none) (One v, (p, Some content) ∷ []) x)
gives_back pool slots id p x v l event content turn seen here may few is whole s r wide at small =
    let e : Entry = record { pass = v.number; event = event } in
    let h = held_at v.hold s.words v.seen r.logs p turn (r.views id (One v) at).held in
    let log : get_elem? r.logs p ≡ some l = sym h.1 ∙ seen in (
      One (gave v p event l r.past),
      gives,
      tt,
      subst (λ (z : ℕ × PageState). Kept pool record { words = set s.words p z.0; homes = set s.homes p (some (Some z.1)); views = set s.views id (One (gave v p event l r.past)) }) (λ i. (sym is i, sym whole i))
          (gives_page pool s r id p v at l log turn event here may few),
      (λ m there. let same = some-injective l m (sym seen ∙ there) in
          (r.past, (λ i. (One (gave v p event (same i) r.past), [])), sees-after p v m r.past (r.parts p l log ∙ same) (r.views id (One v) at).pasts)),
    )

held_off : (h : Hold) (words : List ℕ) (seen logs : List Log) (p x : ℕ) → (h ≡ Has p → ⊥) → IsHeld h words seen logs → IsHeld h (set words p x) seen logs
held_off Free words seen logs p x ne h = tt
held_off (Has q) words seen logs p x ne h = let off : q ≢ p = λ is. ne (ap Has is) in (set_else words p q x off ∙ h.0, h.1)

others_stay : (seats : ℕ) (words : List ℕ) (logs : List Log) (past : Log) (p x : ℕ) (u : View) → ((w : Sight) → One w ≡ u → w.hold ≡ Has p → ⊥) → ViewFits seats words logs past u → ViewFits seats (set words p x) logs past u
others_stay seats words logs past p x Spent off h = tt
others_stay seats words logs past p x (Rest k lists) off h = h
others_stay seats words logs past p x (One w) off h = record { among = h.among; made = h.made; pasts = h.pasts; seen = h.seen; other = h.other; own = h.own; held = held_off w.hold words w.seen logs p x (off w refl) h.held }
others_stay seats words logs past p x (Copy c older) off h = h

module _ (pool : Opening) (s : State Slot View) (r : Kept pool s) (id p : ℕ) (v : Sight) (at : get_elem? s.views id ≡ some (One v)) (l : Log) (log : get_elem? r.logs p ≡ some l) (turn : v.hold ≡ Has p) where
  lets_page : Kept pool record { words = set s.words p (length l); homes = set s.homes p (some (Some (page_state pool.first l))); views = set s.views id (One (let_go v)) }
  lets_page = let w : Sight = let_go v in let own = mine pool s r id p v at l log in record {
    logs = r.logs;
    least = r.least;
    seats = r.seats;
    words = length-set s.words p (length l) ∙ r.words;
    homes = length-set s.homes p (some (Some (page_state pool.first l))) ∙ r.homes;
    all = r.all;
    past = r.past;
    whole = r.whole;
    parts = r.parts;
    lawful = r.lawful;
    made = r.made;
    few = r.few;
    rests = λ q m x y. dite (ℕ_discrete q p)
        (λ is. let same : l ≡ m = some-injective l m (sym log ∙ subst (λ (z : ℕ). get_elem? r.logs z ≡ some m) is x) in
        subst (λ (z : ℕ × Log). Rests (set s.words p (length l)) (set s.homes p (some (Some (page_state pool.first l)))) pool.first z.0 z.1) (λ i. (sym is i, same i)) record {
          counted = set_here s.words p (length l) (low pool s r id p v at l log);
          lies = set_here s.homes p (some (Some (page_state pool.first l))) (low_home pool s r id p v at l log);
        })
        (λ ne. let old = r.rests q m x (λ z. y (set_else s.words p q (length l) ne ∙ z)) in
        record { counted = set_else s.words p q (length l) ne ∙ old.counted; lies = set_else s.homes p q (some (Some (page_state pool.first l))) ne ∙ old.lies });
    views = λ j u x. ⊎_elim
        (λ (t : (j ≡ id) × (One w ≡ u)). subst (ViewFits pool.seats (set s.words p (length l)) r.logs r.past) t.1 record { among = own.among; made = own.made; pasts = past-stays r.past v own.pasts; seen = own.seen; other = own.other; own = own.own; held = tt })
        (λ (t : (j ≢ id) × (get_elem? s.views j ≡ some u)). others_stay pool.seats s.words r.logs r.past p (length l) u
        (λ a is h. t.0 (r.one_holder j id a v p (t.1 ∙ ap (λ (z : View). some z) (sym is)) at h turn))
        (r.views j u t.1))
        (at_set s.views id j (One w) u x);
    apart = numbers_apart pool s r id v w at refl;
    below = all_below pool s r id v w at refl;
    one_rest = only_rest pool s r id w;
    one_holder = λ i j a b q x y f g. ⊎_elim
        (λ (t : (i ≡ id) × (One w ≡ One a)). absurd (no_hold q (ap (λ (z : Sight). z.hold) (one_is w a t.1) ∙ f)))
        (λ (t : (i ≢ id) × (get_elem? s.views i ≡ some (One a))). ⊎_elim
        (λ (u : (j ≡ id) × (One w ≡ One b)). absurd (no_hold q (ap (λ (z : Sight). z.hold) (one_is w b u.1) ∙ g)))
        (λ (u : (j ≢ id) × (get_elem? s.views j ≡ some (One b))). r.one_holder i j a b q t.1 u.1 f g)
        (at_set s.views id j (One w) (One b) y))
        (at_set s.views id i (One w) (One a) x);
  }

-- a page that was taken goes back as it was
pub lets_go : (pool : Opening) (slots id p x : ℕ) (v : Sight) (l : Log) (content : PageState) → v.hold ≡ Has p → get_elem? v.seen p ≡ some l
    → x ≡ length l → content ≡ page_state pool.first l
    → Allows (Kept pool) slots id (One v, (p, Some content) ∷ []) p (λ _. x) (λ _. kept (step slots p x 0 none) (One v, (p, Some content) ∷ []) x)
lets_go pool slots id p x v l content turn seen is whole s r wide at small =
    let h = held_at v.hold s.words v.seen r.logs p turn (r.views id (One v) at).held in
    let log : get_elem? r.logs p ≡ some l = sym h.1 ∙ seen in (
      One (let_go v),
      gives,
      tt,
      subst (λ (z : ℕ × PageState). Kept pool record { words = set s.words p z.0; homes = set s.homes p (some (Some z.1)); views = set s.views id (One (let_go v)) }) (λ i. (sym is i, sym whole i))
          (lets_page pool s r id p v at l log turn),
      refl,
    )

abbrev pub out_first : List (ℕ × Slot) → Slot → Slot
out_first [] other = other
out_first (x ∷ xs) other = x.1

-- what was taken out is what lay there
pub taken_out : (p : ℕ) (a : Slot) (c d : PageState) (xs ys ms : List (ℕ × Slot)) → ms ≡ (p, a) ∷ xs → ms ≡ (p, Some c) ∷ ys → a ≡ Some d → d ≡ c
taken_out p a c d xs ys ms h k is = let e : a ≡ Some c = ap (λ (l : List (ℕ × Slot)). out_first l a) (sym h ∙ k) in cc
