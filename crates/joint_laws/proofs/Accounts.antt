-- The credits of each direction balance.
use Rattle.std.proofs.Common.{◌≡◌, ℕ, ◌+◌, ◌≤◌, Bool, false, min, cond, List, ◌∷◌, refl, ap, subst, arith}
use mathlib.Core.List.{IsPrefix}
use Rattle.smbd_base.specs.declared.end_id.EndId.{EndId}
use Rattle.smbd_base.specs.declared.end_id.EndId.TheVariants.{Client, Server}
use Rattle.smbd_base.specs.declared.event.Event.{Event}
use Rattle.smbd_base.specs.declared.event.Event.TheVariants.{Emit, Take}
use Rattle.smbd_base.specs.Limits.{Limits}
use Rattle.smbd_base.specs.Balance.{IsBalanced}
use Rattle.smbd_base.specs.Grant.{credits_in}
use Rattle.smbd_base.specs.Counts.{peer_of, frames_sent, frames_taken, credits_granted, credits_earned, credits_held, is_unheard, is_out_of_turn}
use Rattle.smbd_base.specs.Joint.{AreAccounted, emitted_frames, taken_frames}
use Rattle.smbd_base.proofs.Counting.{taken_most, grants_in, grants_in-front, granted_is, earned_most}
use Rattle.joint_laws.specs.Halves.{HoldsEarned}
use Rattle.joint_laws.proofs.Ordering.{taken_sent}

pub peer-peer : (side : EndId) → peer_of (peer_of side) ≡ side
peer-peer Client = refl
peer-peer Server = refl

-- ---- where the ends took the first of the frames that were sent

-- an end earned no more than its peer granted
pub earned_granted : (side : EndId) (own peer : List Event) → IsPrefix (taken_frames own) (emitted_frames peer)
    → credits_earned side own ≤ credits_granted (peer_of side) peer
earned_granted side own peer front =
    let part : grants_in (peer_of side) (taken_frames own) ≤ grants_in (peer_of side) (emitted_frames peer) =
    subst (λ (fs : List (List ℕ)). grants_in (peer_of side) (taken_frames own) ≤ grants_in (peer_of side) fs) front.1
    (grants_in-front (peer_of side) (taken_frames own) front.0) in
    omega (arith, part, earned_most side own, granted_is (peer_of side) peer)

-- and granted no less than its peer earned
pub granted_earned : (side : EndId) (own peer : List Event) → IsPrefix (taken_frames peer) (emitted_frames own)
    → credits_earned (peer_of side) peer ≤ credits_granted side own
granted_earned side own peer front =
    subst (λ (x : EndId). credits_earned (peer_of side) peer ≤ credits_granted x own) (peer-peer side) (earned_granted (peer_of side) peer own front)

-- the credits of one direction balance
pub accounted : (side : EndId) (limits : Limits) (own peer : List Event) → IsBalanced side limits own → IsPrefix (taken_frames own) (emitted_frames peer)
    → IsPrefix (taken_frames peer) (emitted_frames own) → HoldsEarned (peer_of side) peer → AreAccounted side limits own peer
accounted side limits own peer b to_own to_peer holds =
    let flight : frames_taken side own ≤ frames_sent peer = omega (arith, taken_most side own, taken_sent own peer to_own) in
    let grants : credits_earned (peer_of side) peer ≤ credits_granted side own = granted_earned side own peer to_peer in
    record {
      flight = flight;
      grants = grants;
      granted = b.granted;
      sum = omega (arith, holds.all, b.granted);
      most = omega (arith, b.posted);
    }

pub accounted_holds : (side : EndId) (limits : Limits) (own peer : List Event) → IsBalanced side limits own → AreAccounted side limits own peer
    → HoldsEarned (peer_of side) peer
accounted_holds side limits own peer b a =
    record { all = omega (arith, a.sum, a.flight, a.grants, a.granted, b.taken) }

-- ---- one event more

pub holds_emit : (side : EndId) (past : List Event) (f : List ℕ) → 1 ≤ credits_held side past → HoldsEarned side past → HoldsEarned side (Emit f ∷ past)
holds_emit side past f one holds = record { all = omega (arith, holds.all) }

pub earned_take : (side : EndId) (past : List Event) (f : List ℕ) → is_out_of_turn side past ≡ false
    → credits_earned side (Take f ∷ past) ≡ credits_earned side past + credits_in (peer_of side) (is_unheard past) f
earned_take side past f turn =
    ap (λ (t : Bool). cond t (credits_earned side past) (credits_earned side past + credits_in (peer_of side) (is_unheard past) f)) turn

-- what an end holds never reaches 65,535
pub holds_take : (side : EndId) (past : List Event) (f : List ℕ) → is_out_of_turn side past ≡ false → credits_earned side (Take f ∷ past) ≤ frames_sent past + 65535
    → HoldsEarned side past → HoldsEarned side (Take f ∷ past)
holds_take side past f turn small holds =
    let earned = earned_take side past f turn in
    let held : credits_held side (Take f ∷ past) ≡ min 65535 (credits_held side past + credits_in (peer_of side) (is_unheard past) f) =
    ap (λ (t : Bool). cond t (credits_held side past) (min 65535 (credits_held side past + credits_in (peer_of side) (is_unheard past) f))) turn in
    record { all = omega (arith, earned, held, small, holds.all) }
