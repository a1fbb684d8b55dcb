-- What an end's share of a round leaves.
use Rattle.std.proofs.Common.{◌≡◌, ℕ, ◌+◌, ◌<◌, ◌≤◌, Bool, true, false, Result, Ok, Err, length, sym, ap, ◌∙◌, subst, arith}
use Rattle.std.specs.Prelude.{IfOk}
use Rattle.smbd_base.specs.declared.end_id.EndId.{EndId}
use Rattle.smbd_base.specs.declared.no_memory.NoMemory.{NoMemory}
use Rattle.smbd_base.specs.History.{is_cut}
use Rattle.sim_adapter.specs.declared.link.Link.{Link}
use Rattle.sim_adapter.specs.declared.view.EndView.{EndView}
use Rattle.link_ends.specs.declared.link_end.LinkEnd.{LinkEnd}
use Rattle.link_ends.specs.Ends.{view_of, GoesOnAt}
use Rattle.end_shares.specs.Turns.{IsOn, HasActed, HasAdded, IsIdle, IsAtRest, TakesNothing}
use Rattle.end_shares.specs.Shares.{IsThrough, HasDoneAtMost}
use Rattle.end_shares.proofs.Turning.{rests}

-- ---- a turn

pub still_on : (link : Link) (side : EndId) (e f : LinkEnd) → IsOn link side e → HasActed (view_of e) (view_of f) → GoesOnAt link f → IsOn link side f
still_on link side e f on acted at = record { at = at; side_is = acted.side ∙ on.side_is }

-- three steps, of which the first two added nothing
pub most_after : (u v w : EndView) → length v.past ≡ length u.past → HasDoneAtMost 1 v w → HasDoneAtMost 1 u w
most_after u v w same most = omega arith

pub nothing_added : (v w : EndView) → TakesNothing v w → length w.past ≡ length v.past
nothing_added v w t = ap (λ (x : EndView). length x.past) t.0

pub same_long : (v w : EndView) → w ≡ v → length w.past ≡ length v.past
same_long v w is = ap (λ (x : EndView). length x.past) is

pub one_after : (r : Result Bool NoMemory) (u v w : EndView) → length v.past ≡ length u.past → IfOk r (λ did. did ≡ true → HasAdded 1 v w) → IfOk r (λ did. did ≡ true → HasAdded 1 u w)
one_after (Err fault) u v w same one = tt
one_after (Ok did) u v w same one = λ e. let n : length w.past ≡ length v.past + 1 = one e in omega arith

-- nothing was done in the turn
pub rest_after : (r : Result Bool NoMemory) (v w x : EndView) → IsIdle v → is_cut v.past ≡ false → TakesNothing v w → IfOk r (λ sent. sent ≡ false → x ≡ w)
    → IfOk r (λ did. did ≡ false → IsAtRest x × (is_cut x.past ≡ false))
rest_after (Err fault) v w x idle uncut t same = tt
rest_after (Ok did) v w x idle uncut t same = λ e. subst (λ (y : EndView). IsAtRest y × (is_cut y.past ≡ false)) (sym (same e)) (rests v w idle uncut t)

-- ---- a round

pub through : (u v w : EndView) → HasActed u v → HasActed v w → IsAtRest w → is_cut w.past ≡ false → IsThrough u w
through u v w a b rest uncut = record { uncut = uncut; idle = rest.idle; taken = (let x = a.seen in let y = b.seen in let z = rest.taken in omega arith) }

pub most_more : (n : ℕ) (u v w : EndView) → n < 64 → HasAdded n u v → HasDoneAtMost 1 v w → HasDoneAtMost 64 u w
most_more n u v w turn added most = let a : length v.past ≡ length u.past + n = added in omega arith

pub most_so_far : (n : ℕ) (u v : EndView) → n ≤ 64 → HasAdded n u v → HasDoneAtMost 64 u v
most_so_far n u v turn added = let a : length v.past ≡ length u.past + n = added in omega arith

pub added_more : (n : ℕ) (u v w : EndView) → HasAdded n u v → HasAdded 1 v w → HasAdded (n + 1) u w
added_more n u v w a b = let x : length v.past ≡ length u.past + n = a in let y : length w.past ≡ length v.past + 1 = b in omega arith
