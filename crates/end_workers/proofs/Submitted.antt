-- How many messages were submitted, counted event by event.
use Rattle.std.proofs.Common.{◌≡◌, ℕ, ◌+◌, ◌≤◌, Some, List, [], ◌∷◌, ◌++◌, length, take, drop, reverse, refl, sym, ap, ◌∙◌, add-one, append-nil, append_assoc, take-append-drop, length-append, arith}
use Rattle.std.specs.Prelude.{slice_get}
use Rattle.std.proofs.lemmas.List.{reverse-append}
use Rattle.smbd_base.specs.declared.event.Event.{Event}
use Rattle.smbd_base.specs.declared.event.Event.TheVariants.{Post, Submit, Emit, Take, Cut}
use Rattle.smbd_base.specs.History.{messages_submitted}
use Rattle.file_pasts.proofs.Lists.{take_one_more}

submitted-append : (xs ys : List Event) → messages_submitted (xs ++ ys) ≡ messages_submitted ys ++ messages_submitted xs
submitted-append [] ys = sym (append-nil (messages_submitted ys))
submitted-append (Post n ∷ xs) ys = submitted-append xs ys
submitted-append (Submit m ∷ xs) ys = ap (λ (ms : List (List ℕ)). ms ++ m ∷ []) (submitted-append xs ys) ∙ append_assoc (messages_submitted ys) (messages_submitted xs) (m ∷ [])
submitted-append (Emit f ∷ xs) ys = submitted-append xs ys
submitted-append (Take f ∷ xs) ys = submitted-append xs ys
submitted-append (Cut ∷ xs) ys = submitted-append xs ys

-- of events in the order of time
abbrev pub count_of : List Event → ℕ
count_of events = length (messages_submitted (reverse events))

-- of one event
abbrev pub count_one : Event → ℕ
count_one (Post n) = 0
count_one (Submit m) = 1
count_one (Emit f) = 0
count_one (Take f) = 0
count_one Cut = 0

count-next : (e : Event) (past : List Event) → length (messages_submitted (e ∷ past)) ≡ length (messages_submitted past) + count_one e
count-next (Post n) past = omega arith
count-next (Submit m) past = length-append (messages_submitted past) (m ∷ [])
count-next (Emit f) past = omega arith
count-next (Take f) past = omega arith
count-next Cut past = omega arith

pub count-more : (k : ℕ) (events : List Event) (e : Event) → slice_get events k ≡ Some e → count_of (take (k + 1) events) ≡ count_of (take k events) + count_one e
count-more k events e at =
    let front : take (k + 1) events ≡ take k events ++ e ∷ [] = ap (λ (n : ℕ). take n events) (add-one k) ∙ take_one_more k events e at in
    ap (λ (es : List Event). count_of es) front ∙ ap (λ (es : List Event). length (messages_submitted es)) (reverse-append (take k events) (e ∷ []))
    ∙ count-next e (reverse (take k events))

pub count-most : (k : ℕ) (events : List Event) → count_of (take k events) ≤ count_of events
count-most k events =
    let early : List Event = take k events in
    let late : List Event = drop k events in
    let all : count_of events ≡ length (messages_submitted (reverse early) ++ messages_submitted (reverse late)) =
    ap (λ (es : List Event). count_of es) (sym (take-append-drop k events)) ∙ ap (λ (es : List Event). length (messages_submitted es)) (reverse-append early late)
    ∙ ap (λ (ms : List (List ℕ)). length ms) (submitted-append (reverse late) (reverse early)) in
    let parts = length-append (messages_submitted (reverse early)) (messages_submitted (reverse late)) in
    omega (arith, all, parts)

pub count-none : (e : Event) → ((m : List ℕ) → e ≡ Submit m → ⊥) → count_one e ≡ 0
count-none (Post n) other = refl
count-none (Submit m) other = absurd (other m refl)
count-none (Emit f) other = refl
count-none (Take f) other = refl
count-none Cut other = refl
