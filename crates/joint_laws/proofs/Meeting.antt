-- The frames of one end meet receives of the other.
use Rattle.std.proofs.Common.{◌≡◌, inl, inr, ℕ, zero, suc, ◌+◌, ◌≤◌, ◌==◌, Bool, true, false, cond, List, [], ◌∷◌, ◌++◌, length, take, refl, ap, subst, sym, ◌∙◌, arith}
use Rattle.std.proofs.lemmas.Bool.Decides.{nat_tests}
use Rattle.std.proofs.lemmas.List.{length-append, take-append-le, take_all}
use Rattle.smbd_base.specs.declared.end_id.EndId.{EndId}
use Rattle.smbd_base.specs.declared.end_id.EndId.TheVariants.{Client, Server}
use Rattle.smbd_base.specs.declared.event.Event.{Event}
use Rattle.smbd_base.specs.declared.event.Event.TheVariants.{Post, Submit, Emit, Take, Cut}
use Rattle.smbd_base.specs.Limits.{Limits, IsLawful}
use Rattle.smbd_base.specs.Counts.{peer_of, receives_posted, frames_sent}
use Rattle.smbd_base.specs.History.{is_new, IsLegal}
use Rattle.smbd_base.specs.Joint.{AreJoint, emitted_frames, taken_frames, taken_before_sending}
use Rattle.smbd_base.proofs.BalanceLemmas.{balanced, holds_one}
use Rattle.smbd_base.proofs.Inversion.{emits, posts}
use Rattle.joint_laws.specs.Credits.{AreBalanced}
use Rattle.joint_laws.specs.Receives.{posted_before_sending, IsOpened, MeetReceives}
use Rattle.joint_laws.specs.Halves.{AreBeside}
use Rattle.joint_laws.proofs.Accounts.{peer-peer}
use Rattle.smbd_base.proofs.Counting.{sent_is, grants_in, granted_is, earned_most}
use Rattle.joint_laws.proofs.Growing.{client_beside, turned}
use Rattle.joint_laws.proofs.Ordering.{taken_sent, taken_before_most}

-- ---- the opening

opened_post : (side : EndId) (limits : Limits) (n : ℕ) → IsLegal side limits (Post n ∷ []) → IsOpened limits (Post n ∷ [])
opened_post side limits n legal =
    elim (posts side limits [] n legal.0).1 as (λ _. IsOpened limits (Post n ∷ [])) [
      | inl opening ↦ record { later = []; events = ap (λ (k : ℕ). Post k ∷ []) (sym opening.1) }
      | inr later ↦ absurd (let b : ⊥ = (let o = later.0 in cc) in b)
    ]

pub opened : (side : EndId) (limits : Limits) (past : List Event) → IsLegal side limits past → is_new past ≡ false → IsOpened limits past
opened side limits [] legal new = absurd cc
opened side limits (Post n ∷ []) legal new = opened_post side limits n legal
opened side limits (Submit m ∷ []) legal new = absurd (let b : ⊥ = (let o = legal.0 in cc) in b)
opened side limits (Emit f ∷ []) legal new = absurd (let b : ⊥ = (let o = (emits side limits [] f legal.0).going.opened in cc) in b)
opened side limits (Take f ∷ []) legal new = absurd (let b : ⊥ = (let o = legal.0 in cc) in b)
opened side limits (Cut ∷ []) legal new = absurd (let b : ⊥ = (let o = legal.0.1 in cc) in b)
opened side limits (event ∷ e ∷ past) legal new =
    let h = opened side limits (e ∷ past) legal.1 refl in
    record { later = event ∷ h.later; events = ap (λ (es : List Event). event ∷ es) h.events }

-- ---- what a frame needs

-- the credits that an end had earned when it sent the frame of this number
sent_with : (side : EndId) (limits : Limits) (past : List Event) (number : ℕ) → IsLawful limits → IsLegal side limits past → 1 ≤ number → number ≤ frames_sent past
    → number ≤ 1 + grants_in (peer_of side) (take (taken_before_sending number past) (taken_frames past))
sent_with side limits [] number lawful legal one most = absurd (omega arith)
sent_with side limits (Post n ∷ past) number lawful legal one most = sent_with side limits past number lawful legal.1 one most
sent_with side limits (Submit m ∷ past) number lawful legal one most = sent_with side limits past number lawful legal.1 one most
sent_with side limits (Emit f ∷ past) number lawful legal one most = by_test (frames_sent past + 1 == number) refl (sent_with side limits past number lawful legal.1 one) where
  by_test : (t : Bool) → (frames_sent past + 1 == number) ≡ t
      → (number ≤ frames_sent past → number ≤ 1 + grants_in (peer_of side) (take (taken_before_sending number past) (taken_frames past)))
      → number ≤ 1 + grants_in (peer_of side) (take (cond t (length (taken_frames past)) (taken_before_sending number past)) (taken_frames past))
  by_test true is earlier =
      let e = emits side limits past f legal.0 in
      let b = balanced side limits past lawful legal.1 e.going.opened in
      let last : frames_sent past + 1 ≡ number = grind (arith, nat_tests) in
      rw (take_all (length (taken_frames past)) (taken_frames past) (omega arith))
      (omega (arith, b.spent, holds_one side limits past f b e, earned_most side past))
  by_test false is earlier = earlier (grind (arith, nat_tests))
sent_with side limits (Take f ∷ past) number lawful legal one most =
    rw (take-append-le (taken_before_sending number past) (taken_frames past) (f ∷ []) (taken_before_most number past))
    (sent_with side limits past number lawful legal.1 one most)
sent_with side limits (Cut ∷ past) number lawful legal one most = sent_with side limits past number lawful legal.1 one most

-- what an end grants with its first frames was posted before the last of them
posted_for : (side : EndId) (limits : Limits) (past : List Event) (number : ℕ) → IsLawful limits → IsLegal side limits past → 1 ≤ number → number ≤ frames_sent past
    → 1 + grants_in side (take number (emitted_frames past)) ≤ posted_before_sending number past
posted_for side limits [] number lawful legal one most = absurd (omega arith)
posted_for side limits (Post n ∷ past) number lawful legal one most = posted_for side limits past number lawful legal.1 one most
posted_for side limits (Submit m ∷ past) number lawful legal one most = posted_for side limits past number lawful legal.1 one most
posted_for side limits (Emit f ∷ past) number lawful legal one most = by_test (frames_sent past + 1 == number) refl (posted_for side limits past number lawful legal.1 one) where
  by_test : (t : Bool) → (frames_sent past + 1 == number) ≡ t
      → (number ≤ frames_sent past → 1 + grants_in side (take number (emitted_frames past)) ≤ posted_before_sending number past)
      → 1 + grants_in side (take number (emitted_frames past ++ f ∷ [])) ≤ cond t (receives_posted past) (posted_before_sending number past)
  by_test true is earlier =
      let b = balanced side limits (Emit f ∷ past) lawful legal refl in
      let last : frames_sent past + 1 ≡ number = grind (arith, nat_tests) in
      let long = length-append (emitted_frames past) (f ∷ []) in
      rw (take_all number (emitted_frames past ++ f ∷ []) (omega (arith, sent_is past)))
      (omega (arith, b.granted, granted_is side (Emit f ∷ past)))
  by_test false is earlier =
      let before : number ≤ frames_sent past = grind (arith, nat_tests) in
      rw (take-append-le number (emitted_frames past) (f ∷ []) (omega (arith, sent_is past))) (earlier before)
posted_for side limits (Take f ∷ past) number lawful legal one most = posted_for side limits past number lawful legal.1 one most
posted_for side limits (Cut ∷ past) number lawful legal one most = posted_for side limits past number lawful legal.1 one most

-- ---- of two ends

module _ (side : EndId) (own_limits peer_limits : Limits) (own peer : List Event) (lawful : IsLawful own_limits) (lawful' : IsLawful peer_limits)
    (h : AreBeside side own_limits peer_limits own peer) where
  -- the frames that the peer had taken are the first ones that the end sent
  granted_then : (number : ℕ) → 1 ≤ number → number ≤ frames_sent peer → number ≤ 1 + grants_in side (take (taken_before_sending number peer) (emitted_frames own))
  granted_then number one most =
      let same : take (taken_before_sending number peer) (emitted_frames own) ≡ take (taken_before_sending number peer) (taken_frames peer) =
      ap (λ (fs : List (List ℕ)). take (taken_before_sending number peer) fs) (sym h.there.in_time.front.1)
      ∙ take-append-le (taken_before_sending number peer) (taken_frames peer) h.there.in_time.front.0 (taken_before_most number peer) in
      let there : number ≤ 1 + grants_in side (take (taken_before_sending number peer) (taken_frames peer)) =
      subst (λ (x : EndId). number ≤ 1 + grants_in x (take (taken_before_sending number peer) (taken_frames peer))) (peer-peer side)
      (sent_with (peer_of side) peer_limits peer number lawful' h.there.legal one most) in
      subst (λ (fs : List (List ℕ)). number ≤ 1 + grants_in side fs) (sym same) there

  grants_none : (n : ℕ) (number : ℕ) (frames : List (List ℕ)) → 2 ≤ number → number ≤ 1 + grants_in side (take n frames) → 1 ≤ n
  grants_none zero number frames two granted = absurd (omega arith)
  grants_none (suc n) number frames two granted = omega arith

  heard_before : (number : ℕ) → 2 ≤ number → number ≤ frames_sent peer → 1 ≤ taken_before_sending number peer
  heard_before number two most = grants_none (taken_before_sending number peer) number (emitted_frames own) two (granted_then number (omega arith) most)

  pub meet : MeetReceives own_limits own peer
  meet = record {
    opened = opened side own_limits own h.here.legal h.here.opened;
    heard = heard_before;
    posted = λ number two most.
        (let within : taken_before_sending number peer ≤ frames_sent own = omega (arith, taken_before_most number peer, taken_sent peer own h.there.in_time.front) in
        let posted = posted_for side own_limits own (taken_before_sending number peer) lawful h.here.legal (heard_before number two most) within in
        let granted = granted_then number (omega arith) most in
        omega arith);
  }

pub client_meets : (client_limits server_limits : Limits) (client server : List Event) → IsLawful client_limits → IsLawful server_limits
    → AreJoint client_limits server_limits client server → MeetReceives client_limits client server
client_meets client_limits server_limits client server lawful lawful' j =
    meet Client client_limits server_limits client server lawful lawful' (client_beside client_limits server_limits client server lawful lawful' j)

pub server_meets : (client_limits server_limits : Limits) (client server : List Event) → IsLawful client_limits → IsLawful server_limits
    → AreJoint client_limits server_limits client server → MeetReceives server_limits server client
server_meets client_limits server_limits client server lawful lawful' j =
    meet Server server_limits client_limits server client lawful' lawful
    (turned client_limits server_limits client server lawful lawful' (client_beside client_limits server_limits client server lawful lawful' j))

-- ---- the credits

pub balances : (client_limits server_limits : Limits) (client server : List Event) → IsLawful client_limits → IsLawful server_limits
    → AreJoint client_limits server_limits client server → AreBalanced client_limits server_limits client server
balances client_limits server_limits client server lawful lawful' j =
    let h = client_beside client_limits server_limits client server lawful lawful' j in
    let c = j.client_credits in
    let s = j.server_credits in
    record {
      to_server = omega (arith, s.grants, s.granted, h.here.holds.all);
      to_client = omega (arith, c.grants, c.granted, h.there.holds.all);
      of_client = omega (arith, s.sum, s.most);
      of_server = omega (arith, c.sum, c.most);
      left = omega (arith, s.grants, c.grants, h.here.holds.all, h.there.holds.all, h.left);
    }
