-- A message that an end refuses.
use Rattle.std.proofs.Common.{◌≡◌, cond, is_none, Option, Some, None, List, ℕ, refl, subst}
use Rattle.smbd_base.specs.declared.event.Event.{Event}
use Rattle.smbd_base.specs.declared.event.Event.TheVariants.{Submit}
use Rattle.smbd_base.specs.declared.faults.SubmitFault.{SubmitFault}
use Rattle.smbd_base.specs.declared.faults.SubmitFault.TheVariants as refusals
use Rattle.smbd_base.specs.History.{submit_fault}
use Rattle.connection_core.specs.Answered.{IsSubmitFault}
use Rattle.world_core.specs.Linked.{Linked, submission}

not_submitted : (o : Option SubmitFault) (fault : SubmitFault) (message : List ℕ) → IsSubmitFault o fault → (fault ≡ refusals.NoMemory → ⊥)
    → cond {A = Option Event} (is_none o) (Some (Submit message)) None ≡ None
not_submitted None fault message is other = absurd (other is)
not_submitted (Some applies) fault message is other = refl

-- for another cause than memory: it adds no event
pub refused : (own : Linked) (message copy : List ℕ) (fault : SubmitFault) → copy ≡ message → IsSubmitFault (submit_fault own.side own.limits own.past copy) fault
    → (fault ≡ refusals.NoMemory → ⊥) → submission own message ≡ None
refused own message copy fault same is other =
    not_submitted (submit_fault own.side own.limits own.past message) fault message
    (subst (λ (m : List ℕ). IsSubmitFault (submit_fault own.side own.limits own.past m) fault) same is) other
