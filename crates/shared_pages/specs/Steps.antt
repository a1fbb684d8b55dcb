-- The events of steps.
use Rattle.std.specs.Prelude.{ℕ, List}
use Rattle.smbd_base.specs.declared.page_event.PageEvent.{PageEvent}
use Rattle.smbd_base.specs.declared.page_event.PageEvent.TheVariants as events
use Rattle.shared_pages.specs.declared.view.Step.{Step}
use Rattle.shared_pages.specs.declared.view.Step.TheVariants.{Load, Fetch, Place, Unload}

-- the event of the step, with these bytes
abbrev pub event_of : Step → List ℕ → PageEvent
event_of (Load token right) bytes = events.Load token right bytes
event_of (Fetch token at) bytes = events.Fetch token at bytes
event_of (Place token order at) bytes = events.Place token order at bytes
event_of (Unload token) bytes = events.Unload token bytes
