-- What a choice says.
use Rattle.std.specs.Prelude.{Bool, true, false, Option, Some, None}
use Rattle.smbd_base.specs.declared.end_id.EndId.{EndId}
use Rattle.smbd_base.specs.declared.event.Event.{Event}
use Rattle.smbd_base.specs.declared.next.Next.{Next}
use Rattle.smbd_base.specs.declared.next.Next.TheVariants as due
use Rattle.world_core.specs.declared.choice.Choice.{Choice}
use Rattle.world_core.specs.declared.choice.Choice.TheVariants as choices
use Rattle.world_core.specs.declared.choice.Step.{Step}
use Rattle.world_core.specs.declared.choice.Step.TheVariants.{Did, Nothing}

-- the end whose turn it is
abbrev pub end_of : Choice → EndId
end_of (choices.Submit end message) = end
end_of (choices.Drive end) = end
end_of (choices.Carry end) = end
end_of (choices.Cut end) = end

-- the link is cut
abbrev pub cuts_link : Choice → Bool
cuts_link (choices.Submit end message) = false
cuts_link (choices.Drive end) = false
cuts_link (choices.Carry end) = false
cuts_link (choices.Cut end) = true

-- what came of a choice that added this event, or none
abbrev pub answer_of : Option Event → Step
answer_of None = Nothing
answer_of (Some event) = Did

-- a frame is what comes next
abbrev pub is_emit : Next → Bool
is_emit (due.Post n) = false
is_emit (due.Emit frame) = true
is_emit due.Close = false
is_emit due.Idle = false
