-- The frames that an end sends in a step.
use Rattle.std.proofs.Common.{◌≡◌, ℕ, ◌+◌, Bool, false, List, [], ◌∷◌, Option, Some, None, Result, Ok, Err, length-append, refl, sym, ap, ◌∙◌, subst, arith}
use Rattle.std.specs.Prelude.{if◌then◌else◌, OnOk}
use Rattle.smbd_base.specs.declared.end_id.EndId.{EndId}
use Rattle.smbd_base.specs.declared.end_id.EndId.TheVariants.{Client}
use Rattle.smbd_base.specs.declared.event.Event.{Event}
use Rattle.smbd_base.specs.declared.event.Event.TheVariants.{Post, Submit, Emit, Take, Cut}
use Rattle.smbd_base.specs.declared.no_memory.NoMemory.{NoMemory}
use Rattle.smbd_base.specs.declared.next.Next.{Next}
use Rattle.smbd_base.specs.declared.next.Next.TheVariants as due
use Rattle.smbd_base.specs.History.{next_event, is_ready}
use Rattle.smbd_base.specs.Counts.{peer_of}
use Rattle.smbd_base.specs.Joint.{emitted_frames}
use Rattle.world_core.specs.declared.choice.Choice.{Choice}
use Rattle.world_core.specs.declared.choice.Choice.TheVariants as choices
use Rattle.world_core.specs.Choices.{end_of, cuts_link, is_emit}
use Rattle.world_core.specs.Linked.{driven}
use Rattle.world_core.specs.Run.{State, past_of, limits_of, frames_in_flight, event_chosen, past_after, step_of, AreJointIn}
use Rattle.copy_ends.specs.Turns.{IsUp, IsSendable}
use Rattle.copy_ends.specs.Cuts.{AreLeft, HasSentNext, HasSentNone, frames_next, frames_sent}
use Rattle.copy_ends.proofs.Turning.{Carries, stepped, driven_up, carried_up, submitted_event}

sent_in : Option Event → ℕ
sent_in None = 0
sent_in (Some (Post n)) = 0
sent_in (Some (Submit m)) = 0
sent_in (Some (Emit f)) = 1
sent_in (Some (Take f)) = 0
sent_in (Some Cut) = 0

sent_after : (past : List Event) (added : Option Event) → frames_sent (past_after past added) ≡ frames_sent past + sent_in added
unfolding sent_in
sent_after past None = omega arith
sent_after past (Some (Post n)) = omega arith
sent_after past (Some (Submit m)) = omega arith
sent_after past (Some (Emit f)) = length-append (emitted_frames past) (f ∷ [])
sent_after past (Some (Take f)) = omega arith
sent_after past (Some Cut) = omega arith

-- a step that added this event
sent_by : (end : EndId) (w now : State) (choice : Choice) (added : Option Event) → end_of choice ≡ end → cuts_link choice ≡ false → event_chosen w choice ≡ added → now ≡ step_of w choice
    → frames_sent (past_of end now) ≡ frames_sent (past_of end w) + sent_in added
sent_by end w now choice added own uncut chosen is =
    ap frames_sent (stepped end w now choice added own uncut chosen is).own ∙ sent_after (past_of end w) added

driven_sent : (next : Next) → sent_in (driven false next) ≡ (if is_emit next then 1 else 0)
unfolding sent_in
driven_sent (due.Post n) = refl
driven_sent (due.Emit f) = refl
driven_sent due.Close = refl
driven_sent due.Idle = refl

pub drove_sent : (end : EndId) (w now : State) → IsUp w → now ≡ step_of w (choices.Drive end) → HasSentNext end w now
drove_sent end w now up is =
    sent_by end w now (choices.Drive end) (driven false (next_event end (limits_of end w) (past_of end w))) refl refl (driven_up end w up) is
    ∙ ap (λ (k : ℕ). frames_sent (past_of end w) + k) (driven_sent (next_event end (limits_of end w) (past_of end w)))

carried_sent : (ready : Bool) (frames : List (List ℕ)) (added : Option Event) → Carries ready frames added → sent_in added ≡ 0
unfolding Carries sent_in
carried_sent ready frames None c = refl
carried_sent ready frames (Some (Post n)) c = absurd c
carried_sent ready frames (Some (Submit m)) c = absurd c
carried_sent ready frames (Some (Emit f)) c = absurd c
carried_sent ready frames (Some (Take f)) c = refl
carried_sent ready frames (Some Cut) c = absurd c

pub carried_none : (end : EndId) (w now : State) → IsUp w → now ≡ step_of w (choices.Carry end) → HasSentNone end w now
carried_none end w now up is =
    let same = sent_by end w now (choices.Carry end) (event_chosen w (choices.Carry end)) refl refl refl is in
    let none = carried_sent (is_ready end (limits_of end w) (past_of end w)) (frames_in_flight (past_of end w) (past_of (peer_of end) w)) (event_chosen w (choices.Carry end)) (carried_up end w up) in
    omega arith

pub submitted_none : (end : EndId) (w now : State) (m : List ℕ) → AreJointIn w → IsUp w → IsSendable m → now ≡ step_of w (choices.Submit end m) → HasSentNone end w now
unfolding sent_in
submitted_none end w now m j up fits is =
    let same : frames_sent (past_of end now) ≡ frames_sent (past_of end w) + 0 = sent_by end w now (choices.Submit end m) (Some (Submit m)) refl refl (submitted_event end w m j up fits) is in
    omega arith

-- ---- a turn

-- an end that was driven, and sent nothing besides
pub sent_in_turn : (end : EndId) (old v w x : State) (r : Result Bool NoMemory) → HasSentNext end old v → HasSentNone end v w → OnOk r (HasSentNone end w x) → OnOk r (HasSentNext end old x)
sent_in_turn end old v w x (Err fault) next none more = tt
sent_in_turn end old v w x (Ok did) next none more = more ∙ none ∙ next

-- what was left, with what came next counted, is left after the turn
pub left_after_turn : (number left : Option ℕ) (old v new : State) → v ≡ old → AreLeft number (frames_sent old.client + frames_next Client old.client_limits old.client) left
    → HasSentNext Client v new → AreLeft number (frames_sent new.client) left
left_after_turn number left old v new same counted sent =
    subst (λ (count : ℕ). AreLeft number count left)
    (sym (sent ∙ ap (λ (s : State). frames_sent s.client + frames_next Client s.client_limits s.client) same)) counted
