-- The logs, and what was seen of them.
use Rattle.std.proofs.Common.{◌≡◌, ◌≢◌, ℕ, zero, suc, ◌<◌, ◌≤◌, Bool, true, false, if◌then◌else◌, nat_eq, ne_eqb, List, [], ◌∷◌, ◌++◌, length, set, sym, refl, ap, ◌∙◌, subst, ⊎_elim, arith, length-append, ◌⊎◌, inl, inr}
use mathlib.Core.Option.{some, some-injective, some-ne-none}
use lib.ListN.{get_elem?}
use Rattle.smbd_base.specs.Pages.{Entry}
use Rattle.smbd_base.specs.PagesFit.{AreMadeBy}
use Rattle.shared_pages.specs.Rule.{Log, mark, most_passes, most_events, Ends, AllEnd, AllSeen, made_by, longer, longest, AllCompare}
use Rattle.std.proofs.lemmas.Bool.{le-leb, lt-leb, cases_eq, eq-eqb}
use Rattle.std.proofs.lemmas.Bool.Decides.{nat_tests}
use Rattle.std.specs.Prelude.{nat_lt, ◌==◌, ◌*◌, ◌+◌}
use mathlib.Core.Logic.{dite}
use native.Mathlib.Decide.{dec_le}

pub inside : {A : Type 0} (l : List A) (i : ℕ) (a : A) → get_elem? l i ≡ some a → i < length l
inside [] i a e = absurd (some-ne-none a (sym e))
inside (x ∷ xs) zero a e = omega arith
inside (x ∷ xs) (suc i) a e = let h = inside xs i a e in omega arith

pub there_is : {A : Type 0} (l : List A) (i : ℕ) → i < length l → (a : A) × (get_elem? l i ≡ some a)
there_is [] i h = absurd (omega arith)
there_is (x ∷ xs) zero h = (x, refl)
there_is (x ∷ xs) (suc i) h = there_is xs i (omega arith)

pub same_length : (ms ls : List Log) → AllEnd ms ls → length ms ≡ length ls
same_length [] [] h = refl
same_length [] (l ∷ ls) h = absurd h
same_length (m ∷ ms) [] h = absurd h
same_length (m ∷ ms) (l ∷ ls) h = ap suc (same_length ms ls h.1)

pub end_at : (ms ls : List Log) (p : ℕ) (m l : Log) → AllEnd ms ls → get_elem? ms p ≡ some m → get_elem? ls p ≡ some l → Ends m l
end_at [] ls p m l h a b = absurd (some-ne-none m (sym a))
end_at (x ∷ ms) [] p m l h a b = absurd (some-ne-none l (sym b))
end_at (x ∷ ms) (y ∷ ls) zero m l h a b = subst (λ (z : Log × Log). Ends z.0 z.1) (λ i. (some-injective x m a i, some-injective y l b i)) h.0
end_at (x ∷ ms) (y ∷ ls) (suc p) m l h a b = end_at ms ls p m l h.1 a b

pub seen_at : (n : ℕ) (ms ls : List Log) (p : ℕ) (m l : Log) → AllSeen n ms ls → get_elem? ms p ≡ some m → get_elem? ls p ≡ some l → made_by n l ≡ made_by n m
seen_at n [] ls p m l h a b = absurd (some-ne-none m (sym a))
seen_at n (x ∷ ms) [] p m l h a b = absurd (some-ne-none l (sym b))
seen_at n (x ∷ ms) (y ∷ ls) zero m l h a b = subst (λ (z : Log × Log). made_by n z.1 ≡ made_by n z.0) (λ i. (some-injective x m a i, some-injective y l b i)) h.0
seen_at n (x ∷ ms) (y ∷ ls) (suc p) m l h a b = seen_at n ms ls p m l h.1 a b

-- a page's whole log was seen
pub sees : (ms ls : List Log) (p : ℕ) (l : Log) → AllEnd ms ls → get_elem? ls p ≡ some l → AllEnd (set ms p l) ls
sees [] ls p l h a = h
sees (m ∷ ms) [] p l h a = absurd h
sees (m ∷ ms) (y ∷ ls) zero l h a = (([], sym (some-injective y l a)), h.1)
sees (m ∷ ms) (y ∷ ls) (suc p) l h a = (h.0, sees ms ls p l h.1 a)

pub sees_own : (n : ℕ) (ms ls : List Log) (p : ℕ) (l : Log) → AllSeen n ms ls → get_elem? ls p ≡ some l → AllSeen n (set ms p l) ls
sees_own n [] ls p l h a = h
sees_own n (m ∷ ms) [] p l h a = absurd (some-ne-none l (sym a))
sees_own n (m ∷ ms) (y ∷ ls) zero l h a = (ap (made_by n) (some-injective y l a), h.1)
sees_own n (m ∷ ms) (y ∷ ls) (suc p) l h a = (h.0, sees_own n ms ls p l h.1 a)

-- a log grows by one entry
pub grows : (ms ls : List Log) (p : ℕ) (e : Entry) (l : Log) → AllEnd ms ls → get_elem? ls p ≡ some l → AllEnd ms (set ls p (e ∷ l))
grows [] [] p e l h a = h
grows [] (y ∷ ls) p e l h a = absurd h
grows (m ∷ ms) [] p e l h a = absurd h
grows (m ∷ ms) (y ∷ ls) zero e l h a = ((e ∷ h.0.0, (λ i. e ∷ h.0.1 i) ∙ (λ i. e ∷ some-injective y l a i)), h.1)
grows (m ∷ ms) (y ∷ ls) (suc p) e l h a = (h.0, grows ms ls p e l h.1 a)

pub grows_other : (n : ℕ) (ms ls : List Log) (p : ℕ) (e : Entry) (l : Log) → e.pass ≢ n → AllSeen n ms ls → get_elem? ls p ≡ some l → AllSeen n ms (set ls p (e ∷ l))
grows_other n [] ls p e l ne h a = tt
grows_other n (m ∷ ms) [] p e l ne h a = h
grows_other n (m ∷ ms) (y ∷ ls) zero e l ne h a =
    (ap (λ (b : Bool). if b then e ∷ made_by n l else made_by n l) (ne_eqb e.pass n ne) ∙ (ap (made_by n) (sym (some-injective y l a)) ∙ h.0), h.1)
grows_other n (m ∷ ms) (y ∷ ls) (suc p) e l ne h a = (h.0, grows_other n ms ls p e l ne h.1 a)

pub sees_new : (ms ls : List Log) (p : ℕ) (l : Log) → AllEnd ms ls → AllEnd (set ms p l) (set ls p l)
sees_new [] [] p l h = h
sees_new [] (y ∷ ls) p l h = absurd h
sees_new (m ∷ ms) [] p l h = absurd h
sees_new (m ∷ ms) (y ∷ ls) zero l h = (([], refl), h.1)
sees_new (m ∷ ms) (y ∷ ls) (suc p) l h = (h.0, sees_new ms ls p l h.1)

pub sees_new_own : (n : ℕ) (ms ls : List Log) (p : ℕ) (l : Log) → AllSeen n ms ls → AllSeen n (set ms p l) (set ls p l)
sees_new_own n [] ls p l h = tt
sees_new_own n (m ∷ ms) [] zero l h = tt
sees_new_own n (m ∷ ms) [] (suc p) l h = tt
sees_new_own n (m ∷ ms) (y ∷ ls) zero l h = (refl, h.1)
sees_new_own n (m ∷ ms) (y ∷ ls) (suc p) l h = (h.0, sees_new_own n ms ls p l h.1)

-- of two older parts of one log the shorter is an older part of the longer
pub comparable : (a b l : Log) → Ends a l → Ends b l → length a ≤ length b → Ends a b
comparable a b l x y le = go x.0 y.0 l x.1 y.1
  where
    go : (xs ys l : Log) → xs ++ a ≡ l → ys ++ b ≡ l → Ends a b
    go xs [] l p q = (xs, p ∙ sym q)
    go [] (y ∷ ys) l p q = let e = ap (λ (z : Log). length z) (p ∙ sym q) in absurd (omega (arith, length-append ys b))
    go (x ∷ xs) (y ∷ ys) [] p q = absurd cc
    go (x ∷ xs) (y ∷ ys) (z ∷ l) p q = let p' : xs ++ a ≡ l = cc in let q' : ys ++ b ≡ l = cc in go xs ys l p' q'

made_more : (n : ℕ) (x : Entry) (b : Bool) (xs ys zs : Log) → zs ≡ xs ++ ys → (if b then x ∷ zs else zs) ≡ (if b then x ∷ xs else xs) ++ ys
made_more n x true xs ys zs e = λ i. x ∷ e i
made_more n x false xs ys zs e = e

made_by-append : (n : ℕ) (xs ys : Log) → made_by n (xs ++ ys) ≡ made_by n xs ++ made_by n ys
made_by-append n [] ys = refl
made_by-append n (x ∷ xs) ys = made_more n x (nat_eq x.pass n) (made_by n xs) (made_by n ys) (made_by n (xs ++ ys)) (made_by-append n xs ys)

empty_of : {A : Type 0} (xs : List A) → length xs ≡ 0 → xs ≡ []
empty_of [] h = refl
empty_of (x ∷ xs) h = absurd (omega arith)

-- where the shorter list has all that a pass made, so has the longer one
between : (n : ℕ) (a b l : Log) → Ends a b → Ends b l → made_by n l ≡ made_by n a → made_by n l ≡ made_by n b
between n a b l x y e =
    let p : made_by n x.0 ++ made_by n a ≡ made_by n b = sym (made_by-append n x.0 a) ∙ ap (made_by n) x.1 in
    let q : made_by n y.0 ++ made_by n b ≡ made_by n l = sym (made_by-append n y.0 b) ∙ ap (made_by n) y.1 in
    let lp = ap (λ (z : Log). length z) p in let lq = ap (λ (z : Log). length z) q in let le = ap (λ (z : Log). length z) e in
    let none : made_by n y.0 ≡ [] = empty_of (made_by n y.0) (omega (arith, length-append (made_by n y.0) (made_by n b), length-append (made_by n x.0) (made_by n a))) in
    sym q ∙ ap (λ (z : Log). z ++ made_by n b) none

pub one_longer : (n : ℕ) (a b l : Log) → Ends a l → Ends b l → made_by n l ≡ made_by n a → Ends (longer a b) l × (made_by n l ≡ made_by n (longer a b)) × (Ends a b ⊎ Ends b a)
one_longer n a b l x y e = dite (dec_le (length a) (length b))
    (λ le. let c = comparable a b l x y le in subst (λ (t : Bool). Ends (if t then b else a) l × (made_by n l ≡ made_by n (if t then b else a)) × (Ends a b ⊎ Ends b a)) (sym (le-leb (length a) (length b) le)) (y, between n a b l c y e, inl c))
    (λ nle. subst (λ (t : Bool). Ends (if t then b else a) l × (made_by n l ≡ made_by n (if t then b else a)) × (Ends a b ⊎ Ends b a)) (sym (lt-leb (length a) (length b) (omega arith))) (x, e, inr (comparable b a l y x (omega arith))))

-- the longer lists are those of the logs, and have all that the pass made
pub longest_fits : (n : ℕ) (xs ys ls : List Log) → AllEnd xs ls → AllEnd ys ls → AllSeen n xs ls → AllEnd (longest xs ys) ls × AllSeen n (longest xs ys) ls × AllCompare xs ys
longest_fits n [] [] [] x y z = (tt, tt, tt)
longest_fits n [] (b ∷ ys) [] x y z = absurd y
longest_fits n [] ys (l ∷ ls) x y z = absurd x
longest_fits n (a ∷ xs) ys [] x y z = absurd x
longest_fits n (a ∷ xs) [] (l ∷ ls) x y z = absurd y
longest_fits n (a ∷ xs) (b ∷ ys) (l ∷ ls) x y z = let h = one_longer n a b l x.0 y.0 z.0 in let t = longest_fits n xs ys ls x.1 y.1 z.1 in ((h.0, t.0), (h.1, t.1), (h.2, t.2))

pub few-more : (n : ℕ) (e : Entry) (l : Log) → length (made_by e.pass l) < most_events → length (made_by n l) ≤ most_events → length (made_by n (e ∷ l)) ≤ most_events
few-more n e l own h = ⊎_elim
    (λ (is : e.pass ≡ n). let now : length (made_by n l) < most_events = subst (λ (z : ℕ). length (made_by z l) < most_events) is own in rw (eq-eqb e.pass n is) (omega arith))
    (λ (ne : e.pass ≡ n → ⊥). rw (ne_eqb e.pass n ne) h)
    (cases_eq e.pass n)

-- how many entries are of passes below this one
below : ℕ → Log → ℕ
below k [] = 0
below k (e ∷ l) = (if nat_lt e.pass k then 1 else 0) + below k l

one_pass : (k : ℕ) (e : Entry) (own : Log) → length (if e.pass == k then e ∷ own else own) + (if nat_lt e.pass k then 1 else 0) ≡ length own + (if nat_lt e.pass (suc k) then 1 else 0)
one_pass k e own = grind (arith, nat_tests)

below-none : (l : Log) → below 0 l ≡ 0
unfolding below
below-none [] = refl
below-none (e ∷ l) = let h = below-none l in let no : nat_lt e.pass 0 ≡ false = grind (arith, nat_tests) in rw no (omega arith)

below-suc : (k : ℕ) (l : Log) → below (suc k) l ≡ below k l + length (made_by k l)
unfolding below
below-suc k [] = refl
below-suc k (e ∷ l) = let h = below-suc k l in let one = one_pass k e (made_by k l) in omega arith

below-all : (k : ℕ) (l : Log) → AreMadeBy k l → below k l ≡ length l
unfolding below
below-all k [] made = refl
below-all k (e ∷ l) made = let h = below-all k l made.1 in let low = made.0 in let yes : nat_lt e.pass k ≡ true = grind (arith, nat_tests) in rw yes (omega arith)

below-most : (k m : ℕ) (l : Log) → ((n : ℕ) → length (made_by n l) ≤ m) → below k l ≤ k * m
below-most zero m l few = let h = below-none l in omega arith
below-most (suc k) m l few = let h = below-most k m l few in let more = below-suc k l in let own = few k in omega arith

-- a page's entries can be counted
pub bounded : (seats : ℕ) (l : Log) → seats ≤ most_passes → AreMadeBy seats l → ((n : ℕ) → length (made_by n l) ≤ most_events) → length l + 1 < mark
bounded seats l fits made few = let all = below-all seats l made in let most = below-most seats most_events l few in omega arith
