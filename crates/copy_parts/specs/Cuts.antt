-- The cut of a copy: where it is asked for, the client cuts the link in the place of one of its frames. A past is a list of events, the
-- newest one first.
use Rattle.std.specs.Prelude.{◌≡◌, ◌⊎◌, ℕ, ◌+◌, ◌<◌, true, Option, Some, None, List, ◌∷◌}
use Rattle.smbd_base.specs.declared.end_id.EndId.TheVariants.{Client}
use Rattle.smbd_base.specs.declared.event.Event.{Event}
use Rattle.smbd_base.specs.declared.event.Event.TheVariants.{Cut}
use Rattle.smbd_base.specs.Limits.{Limits}
use Rattle.smbd_base.specs.History.{next_event, is_cut}
use Rattle.world_core.specs.Choices.{is_emit}
use Rattle.world_core.specs.Run.{State}
use Rattle.copy_ends.specs.Cuts.{frames_sent}
use Rattle.copy_ends.specs.Turns.{IsUp}
use Rattle.copy_parts.specs.declared.options.CopyOptions.{CopyOptions}

-- fewer frames were sent than the number of the one in whose place the link is to be cut, where it is to be cut
abbrev pub EmitsFewer : Option ℕ → List Event → Type 0
EmitsFewer None past = Unit {0}
EmitsFewer (Some number) past = frames_sent past < number

-- the client was cut in the place of the frame of this number: a frame came next, and one fewer was sent
pub record IsCutInPlace (limits : Limits) (number : ℕ) (client : List Event) : Type 0 where
  pub before : List Event
  pub is : client ≡ Cut ∷ before
  pub next : is_emit (next_event Client limits before) ≡ true
  pub number_is : frames_sent before + 1 ≡ number

-- the client has cut the link in the place of the frame that was asked for, and the server was cut with it
pub record HasCut (o : CopyOptions) (world : State) : Type 0 where
  pub number : ℕ
  pub asked : o.cut ≡ Some number
  pub place : IsCutInPlace o.limits number world.client
  pub server : is_cut world.server ≡ true
  pub link : world.link_cut ≡ true

-- nothing is cut, or the client has cut the link
abbrev pub IsLinked : CopyOptions → State → Type 0
IsLinked o world = IsUp world ⊎ HasCut o world
