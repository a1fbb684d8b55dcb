-- Which event an end may add, beside the past of its peer. A past is a list of events, the newest one first.
use Rattle.std.specs.Prelude.{◌≡◌, ℕ, None, List, ◌∷◌, ◌++◌}
use Rattle.smbd_base.specs.declared.end_id.EndId.{EndId}
use Rattle.smbd_base.specs.declared.event.Event.{Event}
use Rattle.smbd_base.specs.declared.event.Event.TheVariants.{Post, Submit, Emit, Take, Cut}
use Rattle.smbd_base.specs.Limits.{Limits}
use Rattle.smbd_base.specs.History.{take_fault, MayFollow}
use Rattle.smbd_base.specs.Joint.{emitted_frames, taken_frames}

-- the frame is the oldest one in flight to an end from its peer
pub record IsNextFrame (frame : List ℕ) (own peer : List Event) : Type 0 where
  pub later : List (List ℕ)
  pub sent : emitted_frames peer ≡ taken_frames own ++ frame ∷ later

-- a frame that is taken is the oldest one in flight, and is not refused
abbrev pub MayArrive : EndId → Limits → Event → List Event → List Event → Type 0
MayArrive side limits (Post n) own peer = Unit {0}
MayArrive side limits (Submit m) own peer = Unit {0}
MayArrive side limits (Emit f) own peer = Unit {0}
MayArrive side limits (Take f) own peer = IsNextFrame f own peer × (take_fault side limits own f ≡ None)
MayArrive side limits Cut own peer = Unit {0}

-- the event may follow the end's own past, beside that of its peer
abbrev pub MayAdd : EndId → Limits → Event → List Event → List Event → Type 0
MayAdd side limits event own peer = MayFollow side limits event own × MayArrive side limits event own peer
