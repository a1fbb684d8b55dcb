-- What an end answers.
use Rattle.std.specs.Prelude.{◌≡◌, ◌⊎◌, ℕ, Option, Some, None, List, ◌∷◌}
use Rattle.smbd_base.specs.declared.event.Event.TheVariants.{Take}
use Rattle.smbd_base.specs.declared.faults.SubmitFault.{SubmitFault}
use Rattle.smbd_base.specs.declared.faults.SubmitFault.TheVariants as refusals
use Rattle.smbd_base.specs.declared.faults.TakeFault.{TakeFault}
use Rattle.smbd_base.specs.declared.faults.TakeFault.TheVariants as faults
use Rattle.smbd_base.specs.History.{take_fault}
use Rattle.connection_core.specs.Shown.{Shown}

-- a message is refused for the fault that applies, and where none applies for want of memory
abbrev pub IsSubmitFault : Option SubmitFault → SubmitFault → Type 0
IsSubmitFault None fault = fault ≡ refusals.NoMemory
IsSubmitFault (Some applies) fault = fault ≡ applies

-- a frame is refused for want of memory, and nothing has changed; or for the fault that applies, and its Take is in the history
abbrev pub IsTakeRefused : Shown → List ℕ → TakeFault → Shown → Type 0
IsTakeRefused old frame fault new =
    ((fault ≡ faults.NoMemory) × (new ≡ old))
    ⊎ ((take_fault old.side old.limits old.past frame ≡ Some fault) × (new ≡ record old { past = Take frame ∷ old.past; prepared = None }))
