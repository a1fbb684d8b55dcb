-- How an end and its pass stand to each other.
use Rattle.std.specs.Prelude.{◌≡◌, ℕ, Bool, false, Option, None, List, ◌∷◌}
use Rattle.connection_core.specs.Shown.{Shown}
use Rattle.smbd_base.specs.declared.end_id.EndId.{EndId}
use Rattle.smbd_base.specs.declared.event.Event.{Event}
use Rattle.smbd_base.specs.declared.event.Event.TheVariants.{Submit}
use Rattle.smbd_base.specs.Limits.{Limits}
use Rattle.smbd_base.specs.History.{is_new, is_refused, submit_fault}
use Rattle.sim_adapter.specs.declared.view.EndView.{EndView}
use Rattle.sim_adapter.specs.Rule.{limits_of}

-- the limits of the end that knows this
abbrev pub limits_in : EndView → Limits
limits_in v = limits_of v.ends v.side

-- the end that knows this, with a prepared event or none
abbrev pub end_in : EndView → Option Event → Shown
end_in v prepared = record { side = v.side; limits = limits_in v; past = v.past; prepared = prepared }

-- The end and its pass tell the same, unless the end is over. It was opened, and the last frame that it took was not refused.
abbrev pub IsOneWith : EndId → Bool → Shown → EndView → Type 0
IsOneWith side over end v =
    (v.side ≡ side)
    × (over ≡ false → end ≡ end_in v end.prepared)
    × (is_new v.past ≡ false)
    × (is_refused v.side (limits_in v) v.past ≡ false)

-- a message was submitted at the end, of which its pass does not know yet
pub record IsSubmitted (end : Shown) (v : EndView) : Type 0 where
  pub message : List ℕ
  pub newest : end.past ≡ Submit message ∷ v.past
  pub accepted : submit_fault v.side (limits_in v) v.past message ≡ None
