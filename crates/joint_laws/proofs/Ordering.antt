-- No frame is taken before it is sent: what each event leaves of that.
use Rattle.std.proofs.Common.{◌≡◌, ℕ, ◌+◌, ◌≤◌, ◌==◌, Bool, true, false, cond, List, [], ◌∷◌, ◌++◌, length, refl, ap, sym, ◌∙◌, append_assoc, arith}
use Rattle.std.proofs.lemmas.Bool.Decides.{nat_tests}
use Rattle.std.proofs.lemmas.List.{length-append}
use mathlib.Core.List.{IsPrefix}
use Rattle.smbd_base.specs.declared.event.Event.{Event}
use Rattle.smbd_base.specs.declared.event.Event.TheVariants.{Post, Submit, Emit, Take, Cut}
use Rattle.smbd_base.specs.Counts.{frames_sent}
use Rattle.smbd_base.specs.Joint.{emitted_frames, taken_frames, taken_before_sending, sent_before_taking, IsAfter}
use Rattle.smbd_base.proofs.Counting.{sent_is}
use Rattle.joint_laws.specs.Growth.{IsNextFrame}
use Rattle.joint_laws.specs.Halves.{IsInTime}

taken_before_emit : (t : Bool) (now before all : ℕ) → now ≤ all → before ≤ all → cond t now before ≤ all
taken_before_emit true now before all h h' = h
taken_before_emit false now before all h h' = h'

-- no more frames were taken before one was sent than were taken in all
pub taken_before_most : (number : ℕ) (past : List Event) → taken_before_sending number past ≤ length (taken_frames past)
taken_before_most number [] = omega arith
taken_before_most number (Post n ∷ past) = taken_before_most number past
taken_before_most number (Submit m ∷ past) = taken_before_most number past
taken_before_most number (Emit f ∷ past) =
    taken_before_emit (frames_sent past + 1 == number) (length (taken_frames past)) (taken_before_sending number past) (length (taken_frames past))
    (omega arith) (taken_before_most number past)
taken_before_most number (Take f ∷ past) = omega (arith, taken_before_most number past, length-append (taken_frames past) (f ∷ []))
taken_before_most number (Cut ∷ past) = taken_before_most number past

-- an end takes a frame when it has sent all that its peer has taken
after_take : (own peer : List Event) (f : List ℕ) → length (taken_frames peer) ≤ frames_sent own → IsAfter own peer → IsAfter (Take f ∷ own) peer
after_take own peer f sent after = record { each = each } where
  each : (number : ℕ) → 1 ≤ number → number ≤ length (taken_frames own ++ f ∷ [])
      → taken_before_sending number peer ≤ cond (length (taken_frames own) + 1 == number) (frames_sent own) (sent_before_taking number own)
  each number one most = by_test (length (taken_frames own) + 1 == number) refl where
    by_test : (t : Bool) → (length (taken_frames own) + 1 == number) ≡ t → taken_before_sending number peer ≤ cond t (frames_sent own) (sent_before_taking number own)
    by_test true is = omega (arith, taken_before_most number peer, sent)
    by_test false is =
        let long = length-append (taken_frames own) (f ∷ []) in
        let differ : number ≤ length (taken_frames own) = grind (arith, nat_tests) in
        after.each number one differ

-- a frame that the peer sends was not taken yet
after_emit : (own peer : List Event) (f : List ℕ) → length (taken_frames own) ≤ frames_sent peer → IsAfter own peer → IsAfter own (Emit f ∷ peer)
after_emit own peer f sent after = record { each = each } where
  each : (number : ℕ) → 1 ≤ number → number ≤ length (taken_frames own)
      → cond (frames_sent peer + 1 == number) (length (taken_frames peer)) (taken_before_sending number peer) ≤ sent_before_taking number own
  each number one most = by_test (frames_sent peer + 1 == number) refl where
    by_test : (t : Bool) → (frames_sent peer + 1 == number) ≡ t → cond t (length (taken_frames peer)) (taken_before_sending number peer) ≤ sent_before_taking number own
    by_test true is = absurd (let b : ⊥ = grind (arith, nat_tests) in b)
    by_test false is = after.each number one most

-- ---- of one end

-- no more was taken than was sent
pub taken_sent : (own peer : List Event) → IsPrefix (taken_frames own) (emitted_frames peer) → length (taken_frames own) ≤ frames_sent peer
taken_sent own peer front =
    omega (arith, sent_is peer, ap (λ (fs : List (List ℕ)). length fs) front.1, length-append (taken_frames own) front.0)

longer : (xs ys more : List (List ℕ)) → IsPrefix xs ys → IsPrefix xs (ys ++ more)
longer xs ys more front = (front.0 ++ more, sym (append_assoc xs front.0 more) ∙ ap (λ (fs : List (List ℕ)). fs ++ more) front.1)

-- an event of the end, whatever its peer has done; only a Take asks anything of the peer
module _ (own peer : List Event) (h : IsInTime own peer) where
  pub time-posts_own : (n : ℕ) → IsInTime (Post n ∷ own) peer
  time-posts_own n = record { front = h.front; after = record { each = h.after.each } }

  pub time-submits_own : (m : List ℕ) → IsInTime (Submit m ∷ own) peer
  time-submits_own m = record { front = h.front; after = record { each = h.after.each } }

  pub time-emits_own : (f : List ℕ) → IsInTime (Emit f ∷ own) peer
  time-emits_own f = record { front = h.front; after = record { each = h.after.each } }

  pub time-takes_own : (f : List ℕ) → IsNextFrame f own peer → length (taken_frames peer) ≤ frames_sent own → IsInTime (Take f ∷ own) peer
  time-takes_own f next sent = record {
    front = (next.later, append_assoc (taken_frames own) (f ∷ []) next.later ∙ sym next.sent);
    after = after_take own peer f sent h.after;
  }

  pub time-cuts_own : IsInTime (Cut ∷ own) peer
  time-cuts_own = record { front = h.front; after = record { each = h.after.each } }

  -- an event of its peer
  pub time-posts_peer : (n : ℕ) → IsInTime own (Post n ∷ peer)
  time-posts_peer n = record { front = h.front; after = record { each = h.after.each } }

  pub time-submits_peer : (m : List ℕ) → IsInTime own (Submit m ∷ peer)
  time-submits_peer m = record { front = h.front; after = record { each = h.after.each } }

  pub time-emits_peer : (f : List ℕ) → IsInTime own (Emit f ∷ peer)
  time-emits_peer f = record {
    front = longer (taken_frames own) (emitted_frames peer) (f ∷ []) h.front;
    after = after_emit own peer f (taken_sent own peer h.front) h.after;
  }

  pub time-takes_peer : (f : List ℕ) → IsInTime own (Take f ∷ peer)
  time-takes_peer f = record { front = h.front; after = record { each = h.after.each } }

  pub time-cuts_peer : IsInTime own (Cut ∷ peer)
  time-cuts_peer = record { front = h.front; after = record { each = h.after.each } }
