-- What the calls of an end on a link answer.
use Rattle.std.specs.Prelude.{◌≡◌, ℕ, ◌≤◌, Option, None, option_to_list, List, ◌++◌, length}
use Rattle.smbd_base.specs.declared.event.Event.TheVariants.{Post, Cut}
use Rattle.smbd_base.specs.declared.next.Next.{Next}
use Rattle.smbd_base.specs.declared.next.Next.TheVariants as due
use Rattle.smbd_base.specs.Delivery.{messages_delivered}
use Rattle.smbd_base.specs.History.{take_fault}
use Rattle.smbd_base.specs.Joint.{taken_frames}
use Rattle.sim_adapter.specs.declared.view.EndView.{EndView}
use Rattle.sim_adapter.specs.Plays.{with_event, emits, takes_frame, was_cut, saw}
use Rattle.link_ends.specs.declared.answer.Driven.{Driven}
use Rattle.link_ends.specs.declared.answer.Driven.TheVariants as driven
use Rattle.link_ends.specs.declared.answer.Received.{Received}
use Rattle.link_ends.specs.declared.answer.Received.TheVariants as received
use Rattle.link_ends.specs.Beside.{limits_in}

-- What came next was done, on the link as at the end. A frame was sent, or the look of this call showed that the link is cut, and
-- the end was cut in its place.
abbrev pub HasDriven : Driven → Next → EndView → EndView → Type 0
HasDriven driven.Posted next v after = (n : ℕ) × (next ≡ due.Post n) × (after ≡ with_event v (Post n))
HasDriven driven.Sent next v after = (frame : List ℕ) × (next ≡ due.Emit frame) × (after ≡ emits v frame)
HasDriven driven.Cut next v after = (frame : List ℕ) × (next ≡ due.Emit frame) × (after ≡ with_event (was_cut v) Cut)
HasDriven driven.Idle next v after = (next ≡ due.Idle) × (after ≡ v)

-- the peer's next frame was taken, of which this many were seen by now, and it is not refused
pub record HasTakenFrame (v after : EndView) : Type 0 where
  pub frame : List ℕ
  pub seen : ℕ
  pub more : v.seen ≤ seen
  pub accepted : take_fault v.side (limits_in v) v.past frame ≡ None
  pub after_is : after ≡ takes_frame (saw v seen) frame

-- a frame was taken, and the messages that the end has delivered are one more, where it ends one
pub record HasHeard (message : Option (List ℕ)) (v after : EndView) : Type 0 where
  pub took : HasTakenFrame v after
  pub delivered : messages_delivered after.side (limits_in after) after.past ≡ messages_delivered v.side (limits_in v) v.past ++ option_to_list message

-- A frame was taken; or the look of this call showed just as many frames of the peer as were taken, which is no fewer than were
-- seen before; or it showed that the link is cut, and the end was cut.
abbrev pub HasReceived : Received → EndView → EndView → Type 0
HasReceived (received.Frame message) v after = HasHeard message v after
HasReceived received.Nothing v after = (after ≡ saw v (length (taken_frames v.past))) × (v.seen ≤ length (taken_frames v.past))
HasReceived received.Cut v after = after ≡ with_event (was_cut v) Cut
