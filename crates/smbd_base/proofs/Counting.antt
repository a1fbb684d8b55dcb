-- The counts of a history as lengths and sums over the frames that were sent and taken.
use Rattle.std.proofs.Common.{◌≡◌, ℕ, ◌+◌, ◌≤◌, Bool, true, false, cond, List, [], ◌∷◌, ◌++◌, length, refl, sym, arith}
use Rattle.std.proofs.lemmas.List.{length-append}
use Rattle.smbd_base.specs.declared.end_id.EndId.{EndId}
use Rattle.smbd_base.specs.declared.event.Event.{Event}
use Rattle.smbd_base.specs.declared.event.Event.TheVariants.{Post, Submit, Emit, Take, Cut}
use Rattle.smbd_base.specs.Grant.{credits_in}
use Rattle.smbd_base.specs.Counts.{frames_sent, frames_taken, credits_granted, credits_earned, is_silent, is_unheard, is_out_of_turn, peer_of}
use Rattle.smbd_base.specs.Joint.{emitted_frames, taken_frames}

-- there is nothing in the list
abbrev pub is_empty : {A : Type 0} → List A → Bool
is_empty [] = true
is_empty (x ∷ xs) = false

pub is_empty-more : {A : Type 0} (xs : List A) (x : A) → is_empty (xs ++ x ∷ []) ≡ false
is_empty-more [] x = refl
is_empty-more (y ∷ xs) x = refl

-- ---- lengths

pub sent_is : (past : List Event) → frames_sent past ≡ length (emitted_frames past)
sent_is [] = refl
sent_is (Post n ∷ past) = sent_is past
sent_is (Submit m ∷ past) = sent_is past
sent_is (Emit f ∷ past) = omega (arith, sent_is past, length-append (emitted_frames past) (f ∷ []))
sent_is (Take f ∷ past) = sent_is past
sent_is (Cut ∷ past) = sent_is past

pub silent_is : (past : List Event) → is_silent past ≡ is_empty (emitted_frames past)
silent_is [] = refl
silent_is (Post n ∷ past) = silent_is past
silent_is (Submit m ∷ past) = silent_is past
silent_is (Emit f ∷ past) = sym (is_empty-more (emitted_frames past) f)
silent_is (Take f ∷ past) = silent_is past
silent_is (Cut ∷ past) = silent_is past

pub unheard_is : (past : List Event) → is_unheard past ≡ is_empty (taken_frames past)
unheard_is [] = refl
unheard_is (Post n ∷ past) = unheard_is past
unheard_is (Submit m ∷ past) = unheard_is past
unheard_is (Emit f ∷ past) = unheard_is past
unheard_is (Take f ∷ past) = sym (is_empty-more (taken_frames past) f)
unheard_is (Cut ∷ past) = unheard_is past

by_turn : (turn : Bool) (n : ℕ) → cond turn n (n + 1) ≤ n + 1
by_turn true n = omega arith
by_turn false n = omega arith

-- a frame that came out of turn does not count
pub taken_most : (side : EndId) (past : List Event) → frames_taken side past ≤ length (taken_frames past)
taken_most side [] = omega arith
taken_most side (Post n ∷ past) = taken_most side past
taken_most side (Submit m ∷ past) = taken_most side past
taken_most side (Emit f ∷ past) = taken_most side past
taken_most side (Take f ∷ past) =
    omega (arith, taken_most side past, length-append (taken_frames past) (f ∷ []), by_turn (is_out_of_turn side past) (frames_taken side past))
taken_most side (Cut ∷ past) = taken_most side past

-- ---- sums

-- what later frames grant
abbrev pub later_grants : EndId → List (List ℕ) → ℕ
later_grants side [] = 0
later_grants side (f ∷ frames) = credits_in side false f + later_grants side frames

-- what the frames of an end grant, from its first one on
abbrev pub grants_in : EndId → List (List ℕ) → ℕ
grants_in side [] = 0
grants_in side (f ∷ frames) = credits_in side true f + later_grants side frames

later_grants-append : (side : EndId) (frames more : List (List ℕ)) → later_grants side (frames ++ more) ≡ later_grants side frames + later_grants side more
later_grants-append side [] more = omega arith
later_grants-append side (f ∷ frames) more = omega (arith, later_grants-append side frames more)

pub grants_in-more : (side : EndId) (frames : List (List ℕ)) (f : List ℕ) → grants_in side (frames ++ f ∷ []) ≡ grants_in side frames + credits_in side (is_empty frames) f
grants_in-more side [] f = omega arith
grants_in-more side (first ∷ frames) f = omega (arith, later_grants-append side frames (f ∷ []))

-- the first frames grant no more than all
pub grants_in-front : (side : EndId) (frames more : List (List ℕ)) → grants_in side frames ≤ grants_in side (frames ++ more)
grants_in-front side [] more = omega arith
grants_in-front side (first ∷ frames) more = omega (arith, later_grants-append side frames more)

pub granted_is : (side : EndId) (past : List Event) → credits_granted side past ≡ 1 + grants_in side (emitted_frames past)
granted_is side [] = refl
granted_is side (Post n ∷ past) = granted_is side past
granted_is side (Submit m ∷ past) = granted_is side past
granted_is side (Emit f ∷ past) = rw (silent_is past) (omega (arith, granted_is side past, grants_in-more side (emitted_frames past) f))
granted_is side (Take f ∷ past) = granted_is side past
granted_is side (Cut ∷ past) = granted_is side past

earned_by : (turn : Bool) (earned grant : ℕ) → cond turn earned (earned + grant) ≤ earned + grant
earned_by true earned grant = omega arith
earned_by false earned grant = omega arith

-- a frame that came out of turn earns nothing
pub earned_most : (side : EndId) (past : List Event) → credits_earned side past ≤ 1 + grants_in (peer_of side) (taken_frames past)
earned_most side [] = omega arith
earned_most side (Post n ∷ past) = earned_most side past
earned_most side (Submit m ∷ past) = earned_most side past
earned_most side (Emit f ∷ past) = earned_most side past
earned_most side (Take f ∷ past) =
    let grant : ℕ = credits_in (peer_of side) (is_empty (taken_frames past)) f in
    let here : credits_earned side (Take f ∷ past) ≤ credits_earned side past + grant =
    rw (sym (unheard_is past)) (earned_by (is_out_of_turn side past) (credits_earned side past) (credits_in (peer_of side) (is_unheard past) f)) in
    omega (arith, earned_most side past, grants_in-more (peer_of side) (taken_frames past) f, here)
earned_most side (Cut ∷ past) = earned_most side past
