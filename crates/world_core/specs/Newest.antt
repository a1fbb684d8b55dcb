-- The message that the newest event of an end has delivered. A past is a list of events, the newest one first.
use Rattle.std.specs.Prelude.{ℕ, Option, None, List, [], ◌∷◌}
use Rattle.smbd_base.specs.declared.end_id.EndId.{EndId}
use Rattle.smbd_base.specs.declared.event.Event.{Event}
use Rattle.smbd_base.specs.declared.event.Event.TheVariants.{Post, Submit, Emit, Take, Cut}
use Rattle.smbd_base.specs.Delivery.{message_brought}
use Rattle.smbd_base.specs.Limits.{Limits}

-- the message that the newest event brought: none where it is no Take, or the Take of a frame that ends no message
abbrev pub newest_brought : EndId → Limits → List Event → Option (List ℕ)
newest_brought side limits [] = None
newest_brought side limits (Post n ∷ past) = None
newest_brought side limits (Submit m ∷ past) = None
newest_brought side limits (Emit f ∷ past) = None
newest_brought side limits (Take f ∷ past) = message_brought side limits past f
newest_brought side limits (Cut ∷ past) = None
