-- What the calls of a link answer.
use Rattle.std.specs.Prelude.{◌≡◌, ℕ, ◌≤◌, List, length}
use Rattle.smbd_base.specs.Joint.{taken_frames}
use Rattle.sim_adapter.specs.declared.answer.Emit.{Emit}
use Rattle.sim_adapter.specs.declared.answer.Emit.TheVariants as sending
use Rattle.sim_adapter.specs.declared.answer.Taken.{Taken}
use Rattle.sim_adapter.specs.declared.answer.Taken.TheVariants as taking
use Rattle.sim_adapter.specs.declared.view.EndView.{EndView}
use Rattle.sim_adapter.specs.Plays.{emits, was_cut, saw, takes_frame, TakesWell}

-- A frame was sent, or it comes back where the look of this call showed that the link is cut.
abbrev pub IsEmitted : Emit → List ℕ → EndView → EndView → Type 0
IsEmitted sending.Sent frame e after = after ≡ emits e frame
IsEmitted (sending.Cut back) frame e after = (back ≡ frame) × (after ≡ was_cut e)

-- A frame was taken, the history with it is legal, and it is not refused. None was in flight where the look of this call
-- showed just as many as were taken, which is no fewer than the pass had seen. Or its look showed that the link is cut.
abbrev pub IsTaken : Taken → EndView → EndView → Type 0
IsTaken (taking.Got frame) e after = ((n : ℕ) × (e.seen ≤ n) × (after ≡ takes_frame (saw e n) frame)) × TakesWell e frame
IsTaken taking.Empty e after = (after ≡ saw e (length (taken_frames e.past))) × (e.seen ≤ length (taken_frames e.past))
IsTaken taking.Cut e after = after ≡ was_cut e
