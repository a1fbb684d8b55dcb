-- What two passes have seen after they met.
use Rattle.std.proofs.Common.{◌≡◌, ℕ, ◌<◌, ◌≤◌, Bool, if◌then◌else◌, List, [], ◌∷◌, ◌++◌, length, sym, refl, ap, ◌∙◌, subst, arith, append_assoc, length-append, ⊎_elim, ◌⊎◌}
use Rattle.std.proofs.lemmas.Bool.{le-leb, lt-leb}
use mathlib.Core.Logic.{dite}
use native.Mathlib.Decide.{dec_le}
use Rattle.shared_pages.specs.Rule.{Log, Ends, AllEnd, longer, longest, AllCompare}

ends-short : (older log : Log) → Ends older log → length older ≤ length log
ends-short older log e = let long = ap (λ (l : Log). length l) e.1 in omega (arith, length-append e.0 older)

ends-same : (older log : Log) → Ends older log → length log ≤ length older → older ≡ log
ends-same older log e most = go e.0 e.1
  where
    go : (newer : Log) → newer ++ older ≡ log → older ≡ log
    go [] is = is
    go (x ∷ newer) is = let long = ap (λ (l : Log). length l) is in absurd (omega (arith, length-append newer older))

ends-refl : (l : Log) → Ends l l
ends-refl l = ([], refl)

pub ends-trans : (a b c : Log) → Ends a b → Ends b c → Ends a c
ends-trans a b c x y = (y.0 ++ x.0, append_assoc y.0 x.0 a ∙ ap (λ (l : Log). y.0 ++ l) x.1 ∙ y.1)

pub longer-by : (P : Log → Type 0) (a b : Log) → (length a ≤ length b → P b) → (length b < length a → P a) → P (longer a b)
longer-by P a b short long = dite (dec_le (length a) (length b))
    (λ le. subst (λ (t : Bool). P (if t then b else a)) (sym (le-leb (length a) (length b) le)) (short le))
    (λ nle. let less : length b < length a = omega arith in subst (λ (t : Bool). P (if t then b else a)) (sym (lt-leb (length a) (length b) less)) (long less))

pub longer-left : (a b : Log) → Ends a b ⊎ Ends b a → Ends a (longer a b)
longer-left a b c = longer-by (λ (l : Log). Ends a l) a b
    (λ le. ⊎_elim (λ (e : Ends a b). e) (λ (e : Ends b a). subst (λ (l : Log). Ends l b) (ends-same b a e le) (ends-refl b)) c)
    (λ less. ends-refl a)

pub longer-right : (a b : Log) → Ends a b ⊎ Ends b a → Ends b (longer a b)
longer-right a b c = longer-by (λ (l : Log). Ends b l) a b
    (λ le. ends-refl b)
    (λ less. ⊎_elim (λ (e : Ends a b). let le = ends-short a b e in absurd (omega arith)) (λ (e : Ends b a). e) c)

longer-same : (a b : Log) → Ends b a → longer a b ≡ a
longer-same a b e = longer-by (λ (l : Log). l ≡ a) a b (λ le. ends-same b a e le) (λ less. refl)

pub longer-again : (a b : Log) → longer b (longer a b) ≡ longer a b
longer-again a b = longer-by (λ (l : Log). longer b l ≡ l) a b
    (λ le. longer-by (λ (l : Log). l ≡ b) b b (λ le. refl) (λ less. refl))
    (λ less. longer-by (λ (l : Log). l ≡ a) b a (λ le. refl) (λ other. absurd (omega arith)))

pub AllEnd-refl : (xs : List Log) → AllEnd xs xs
AllEnd-refl [] = tt
AllEnd-refl (x ∷ xs) = (ends-refl x, AllEnd-refl xs)

pub AllEnd-trans : (xs ys zs : List Log) → AllEnd xs ys → AllEnd ys zs → AllEnd xs zs
AllEnd-trans [] [] zs a b = b
AllEnd-trans [] (y ∷ ys) zs a b = absurd a
AllEnd-trans (x ∷ xs) [] zs a b = absurd a
AllEnd-trans (x ∷ xs) (y ∷ ys) [] a b = absurd b
AllEnd-trans (x ∷ xs) (y ∷ ys) (z ∷ zs) a b = (ends-trans x y z a.0 b.0, AllEnd-trans xs ys zs a.1 b.1)

pub length-longest : (xs ys : List Log) → length (longest xs ys) ≡ length xs
length-longest [] ys = refl
length-longest (x ∷ xs) [] = refl
length-longest (x ∷ xs) (y ∷ ys) = let e = length-longest xs ys in omega arith

longest-again : (xs ys : List Log) → length xs ≡ length ys → longest ys (longest xs ys) ≡ longest xs ys
longest-again [] [] long = refl
longest-again [] (y ∷ ys) long = absurd (omega arith)
longest-again (x ∷ xs) [] long = absurd (omega arith)
longest-again (x ∷ xs) (y ∷ ys) long = λ i. longer-again x y i ∷ longest-again xs ys (omega arith) i

-- the second pass takes in what the first has learnt
pub both-same : (pages : ℕ) (a b one other : List Log) → one ≡ longest a b → other ≡ longest b one → length one ≡ pages → length other ≡ pages → other ≡ one
both-same pages a b one other is_one is_other long same =
    let left : length a ≡ pages = sym (length-longest a b) ∙ ap (λ (l : List Log). length l) (sym is_one) ∙ long in
    let right : length b ≡ pages = sym (length-longest b one) ∙ ap (λ (l : List Log). length l) (sym is_other) ∙ same in
    is_other ∙ ap (longest b) is_one ∙ longest-again a b (left ∙ sym right) ∙ sym is_one

pub longest-left : (xs ys : List Log) → AllCompare xs ys → AllEnd xs (longest xs ys)
longest-left [] [] c = tt
longest-left [] (y ∷ ys) c = absurd c
longest-left (x ∷ xs) [] c = absurd c
longest-left (x ∷ xs) (y ∷ ys) c = (longer-left x y c.0, longest-left xs ys c.1)

pub longest-right : (xs ys : List Log) → AllCompare xs ys → AllEnd ys (longest xs ys)
longest-right [] [] c = tt
longest-right [] (y ∷ ys) c = absurd c
longest-right (x ∷ xs) [] c = absurd c
longest-right (x ∷ xs) (y ∷ ys) c = (longer-right x y c.0, longest-right xs ys c.1)

-- nothing is learnt from an older part
pub longest-same : (xs ys : List Log) → AllEnd ys xs → longest xs ys ≡ xs
longest-same [] ys h = refl
longest-same (x ∷ xs) [] h = absurd h
longest-same (x ∷ xs) (y ∷ ys) h = λ i. longer-same x y h.0 i ∷ longest-same xs ys h.1 i
