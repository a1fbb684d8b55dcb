-- What each event leaves of what holds of an end beside its peer: an event of the end, and one of its peer.
use Rattle.std.proofs.Common.{◌≡◌, inl, inr, ℕ, ◌+◌, ◌<◌, ◌≤◌, Option, None, is_some, List, ◌∷◌, length, refl, ap, arith}
use mathlib.Core.List.{IsPrefix}
use Rattle.smbd_base.specs.declared.end_id.EndId.{EndId}
use Rattle.smbd_base.specs.declared.event.Event.{Event}
use Rattle.smbd_base.specs.declared.event.Event.TheVariants.{Post, Submit, Emit, Take, Cut}
use Rattle.smbd_base.specs.declared.faults.TakeFault.{TakeFault}
use Rattle.smbd_base.specs.Limits.{Limits, IsLawful}
use Rattle.smbd_base.specs.Balance.{IsBalanced}
use Rattle.smbd_base.specs.Grant.{credits_in}
use Rattle.smbd_base.specs.Counts.{peer_of, receives_posted, frames_sent, credits_granted, credits_earned, credits_held, is_silent}
use Rattle.smbd_base.specs.History.{take_fault, MayFollow}
use Rattle.smbd_base.specs.Joint.{emitted_frames, taken_frames}
use Rattle.smbd_base.proofs.BalanceLemmas.{balanced, holds_one}
use Rattle.smbd_base.proofs.Inversion.{emits, in_turn}
use Rattle.joint_laws.specs.Growth.{IsNextFrame}
use Rattle.joint_laws.specs.Halves.{IsInTime, IsBeside, AreCreditsLeft}
use Rattle.joint_laws.proofs.Accounts.{earned_granted, granted_earned, holds_emit, holds_take}
use Rattle.joint_laws.proofs.Granting.{LeavesOne, leaves}
use Rattle.joint_laws.proofs.Ordering.{taken_sent, time-posts_own, time-submits_own, time-emits_own, time-takes_own, time-cuts_own, time-posts_peer, time-submits_peer, time-emits_peer, time-takes_peer, time-cuts_peer}
use Rattle.joint_laws.proofs.Speaking.{taken_is}

-- ---- of one end, whatever its peer has done

module _ (side : EndId) (limits : Limits) (own peer : List Event) (h : IsBeside side limits own peer) where
  pub balances_own : IsLawful limits → IsBalanced side limits own
  balances_own lawful = balanced side limits own lawful h.legal h.opened

  -- an end has no more unused receives than credits
  pub posted_most : IsLawful limits → receives_posted own ≤ length (taken_frames own) + limits.credits
  posted_most lawful = omega (arith, (balances_own lawful).posted, taken_is side limits own h.accepted)

  -- ---- an event of the end

  pub posts_own : (n : ℕ) → MayFollow side limits (Post n) own → IsBeside side limits (Post n ∷ own) peer
  posts_own n may = record {
    legal = (may, h.legal);
    accepted = h.accepted;
    opened = refl;
    holds = record { all = h.holds.all };
    in_time = time-posts_own own peer h.in_time n;
  }

  pub submits_own : (m : List ℕ) → MayFollow side limits (Submit m) own → IsBeside side limits (Submit m ∷ own) peer
  submits_own m may = record {
    legal = (may, h.legal);
    accepted = h.accepted;
    opened = refl;
    holds = record { all = h.holds.all };
    in_time = time-submits_own own peer h.in_time m;
  }

  pub emits_own : (f : List ℕ) → IsLawful limits → MayFollow side limits (Emit f) own → IsBeside side limits (Emit f ∷ own) peer
  emits_own f lawful may = record {
    legal = (may, h.legal);
    accepted = h.accepted;
    opened = refl;
    holds = holds_emit side own f (holds_one side limits own f (balances_own lawful) (emits side limits own f may)) h.holds;
    in_time = time-emits_own own peer h.in_time f;
  }

  pub cuts_own : MayFollow side limits Cut own → IsBeside side limits (Cut ∷ own) peer
  cuts_own may = record {
    legal = (may, h.legal);
    accepted = h.accepted;
    opened = refl;
    holds = record { all = h.holds.all };
    in_time = time-cuts_own own peer h.in_time;
  }

  -- ---- an event of its peer

  still : (later : List Event) → IsInTime own later → IsBeside side limits own later
  still later in_time = record { legal = h.legal; accepted = h.accepted; opened = h.opened; holds = h.holds; in_time = in_time }

  pub posts_peer : (n : ℕ) → IsBeside side limits own (Post n ∷ peer)
  posts_peer n = still (Post n ∷ peer) (time-posts_peer own peer h.in_time n)

  pub submits_peer : (m : List ℕ) → IsBeside side limits own (Submit m ∷ peer)
  submits_peer m = still (Submit m ∷ peer) (time-submits_peer own peer h.in_time m)

  pub emits_peer : (f : List ℕ) → IsBeside side limits own (Emit f ∷ peer)
  emits_peer f = still (Emit f ∷ peer) (time-emits_peer own peer h.in_time f)

  pub takes_peer : (f : List ℕ) → IsBeside side limits own (Take f ∷ peer)
  takes_peer f = still (Take f ∷ peer) (time-takes_peer own peer h.in_time f)

  pub cuts_peer : IsBeside side limits own (Cut ∷ peer)
  cuts_peer = still (Cut ∷ peer) (time-cuts_peer own peer h.in_time)

-- ---- of an end and its peer

-- a credit is left after one was spent
left_by : (grant held held_there sent sent_there earned earned_there granted granted_there : ℕ) → LeavesOne grant held held_there
    → held + sent ≡ earned → held_there + sent_there ≡ earned_there → earned ≤ granted_there → earned_there ≤ granted
    → sent + sent_there + 1 ≤ granted + granted_there → sent + 1 + sent_there + 1 ≤ granted + grant + granted_there
left_by grant held held_there sent sent_there earned earned_there granted granted_there h e e' g g' left =
    elim h.why as (λ _. sent + 1 + sent_there + 1 ≤ granted + grant + granted_there) [
      | inl some ↦ omega arith
      | inr more ↦ omega arith
    ]

module _ (side : EndId) (own_limits peer_limits : Limits) (own peer : List Event) (lawful : IsLawful own_limits) (lawful' : IsLawful peer_limits)
    (here : IsBeside side own_limits own peer) (there : IsBeside (peer_of side) peer_limits peer own) where
  there_balances : IsBalanced (peer_of side) peer_limits peer
  there_balances = balances_own (peer_of side) peer_limits peer own there lawful'

  -- the frames in flight are no more than the receives that the peer keeps
  pub flight_most : frames_sent own ≤ length (taken_frames peer) + peer_limits.credits
  flight_most =
      let b = there_balances in
      omega (arith, here.holds.all, earned_granted side own peer here.in_time.front, b.granted, b.posted, taken_is (peer_of side) peer_limits peer there.accepted)

  -- and fewer, where the end may send one
  pub flight_less : (f : List ℕ) → MayFollow side own_limits (Emit f) own → frames_sent own < length (taken_frames peer) + peer_limits.credits
  flight_less f may =
      let b = there_balances in
      let one = holds_one side own_limits own f (balances_own side own_limits own peer here lawful) (emits side own_limits own f may) in
      omega (arith, one, here.holds.all, earned_granted side own peer here.in_time.front, b.granted, b.posted, taken_is (peer_of side) peer_limits peer there.accepted)

  -- the last credit is spent only with a grant
  pub emits_left : (f : List ℕ) → MayFollow side own_limits (Emit f) own → AreCreditsLeft side own peer → AreCreditsLeft side (Emit f ∷ own) peer
  emits_left f may left =
      let b = balances_own side own_limits own peer here lawful in
      let l = leaves side own_limits peer_limits own peer f lawful b there_balances here.accepted there.legal there.in_time.front (emits side own_limits own f may) in
      left_by (credits_in side (is_silent own) f) (credits_held side own) (credits_held (peer_of side) peer) (frames_sent own) (frames_sent peer)
      (credits_earned side own) (credits_earned (peer_of side) peer) (credits_granted side own) (credits_granted (peer_of side) peer) l
      here.holds.all there.holds.all (earned_granted side own peer here.in_time.front) (granted_earned side own peer there.in_time.front) left

  -- what an end earns with the next frame, its peer has granted
  small_enough : (f : List ℕ) → IsPrefix (taken_frames (Take f ∷ own)) (emitted_frames peer) → credits_earned side (Take f ∷ own) ≤ frames_sent own + 65535
  small_enough f front =
      let b = there_balances in
      omega (arith, earned_granted side (Take f ∷ own) peer front, b.granted, b.posted, lawful'.credits.1, taken_is (peer_of side) peer_limits peer there.accepted, taken_sent peer own there.in_time.front)

  pub takes_own : (f : List ℕ) → MayFollow side own_limits (Take f) own → IsNextFrame f own peer → take_fault side own_limits own f ≡ None
      → IsBeside side own_limits (Take f ∷ own) peer
  takes_own f may next accepted =
      let in_time = time-takes_own own peer here.in_time f next (taken_sent peer own there.in_time.front) in
      let turn = in_turn side own_limits own f (ap (λ (o : Option TakeFault). is_some o) accepted) in
      record {
        legal = (may, here.legal);
        accepted = (accepted, here.accepted);
        opened = refl;
        holds = holds_take side own f turn (small_enough f in_time.front) here.holds;
        in_time = in_time;
      }
