-- What is noted of a choice that added an event, and of one that added none.
use Rattle.std.proofs.Common.{◌≡◌, Bool, ◌||◌, Option, Some, None, List, ◌∷◌, refl}
use Rattle.smbd_base.specs.declared.end_id.EndId.{EndId}
use Rattle.smbd_base.specs.declared.event.Event.{Event}
use Rattle.world_core.specs.declared.choice.Choice.{Choice}
use Rattle.world_core.specs.declared.choice.Step.{Step}
use Rattle.world_core.specs.declared.choice.Step.TheVariants.{Did, Nothing}
use Rattle.world_core.specs.Choices.{answer_of, cuts_link, end_of}
use Rattle.world_core.specs.Run.{link_after, order_after}

pub link_noted : (link_cut : Bool) (choice : Choice) (o : Option Event) → Did ≡ answer_of o → (link_cut || cuts_link choice) ≡ link_after link_cut choice o
link_noted link_cut choice None is = absurd cc
link_noted link_cut choice (Some event) is = refl

pub order_noted : (order : List EndId) (choice : Choice) (o : Option Event) → Did ≡ answer_of o → (end_of choice ∷ order) ≡ order_after order choice o
order_noted order choice None is = absurd cc
order_noted order choice (Some event) is = refl

pub no_link_noted : (link_cut : Bool) (choice : Choice) (o : Option Event) → Nothing ≡ answer_of o → link_cut ≡ link_after link_cut choice o
no_link_noted link_cut choice None is = refl
no_link_noted link_cut choice (Some event) is = absurd cc

pub no_order_noted : (order : List EndId) (choice : Choice) (o : Option Event) → Nothing ≡ answer_of o → order ≡ order_after order choice o
no_order_noted order choice None is = refl
no_order_noted order choice (Some event) is = absurd cc
