-- What a barrier comes to.
use Rattle.std.specs.Prelude.{◌≡◌, Bool, true, false}
use Rattle.smbd_outside.specs.declared.status.Status.{Status}
use Rattle.smbd_outside.specs.declared.status.Status.TheVariants as statuses
use Rattle.copy_laws.specs.Kinds.{is_over}
use Rattle.copy_ends.specs.Turns.{IsUp}
use Rattle.copy_parts.specs.declared.options.CopyOptions.{CopyOptions}
use Rattle.end_workers.specs.declared.barrier.Barrier.{Barrier}
use Rattle.end_workers.specs.declared.barrier.Barrier.TheVariants.{More, Done, Stop}
use Rattle.end_workers.specs.declared.copy.Copy.{Copy}
use Rattle.end_workers.specs.Progress.{GoesOn, IsAfterBarrier, IsStoredAll}
use Rattle.end_workers.specs.Promise.{Stream, KeepsPromise}

-- nothing is left to do at this barrier, nothing is cut, and the client has taken END's reply, or not
pub record GoesToRound (over : Bool) (o : CopyOptions) (source sink log : Stream) (c : Copy) : Type 0 where
  pub after : IsAfterBarrier o source sink log c
  pub over_is : is_over o.kind after.settled.past.client ≡ over
  pub on : GoesOn c
  pub up : IsUp c.parts.world

abbrev pub HasEnded : Bool → CopyOptions → Stream → Stream → Stream → Copy → Type 0
HasEnded true o source sink log c = GoesToRound true o source sink log c × KeepsPromise statuses.Done o source sink log
HasEnded false o source sink log c = GoesToRound false o source sink log c

-- the promise is kept with this status; and a copy that is cut has given the sink all groups that came
abbrev pub StopsBy : Status → CopyOptions → Stream → Stream → Stream → Copy → Type 0
StopsBy status o source sink log c = KeepsPromise status o source sink log × (status ≡ statuses.Cut → IsStoredAll o source sink log c)

-- `More` comes where all was done and END's reply was not taken, `Done` where it was and the promise is kept, and `Stop` where the promise
-- is kept with that status
abbrev pub Settles : Barrier → CopyOptions → Stream → Stream → Stream → Copy → Type 0
Settles More o source sink log c = HasEnded false o source sink log c
Settles Done o source sink log c = HasEnded true o source sink log c
Settles (Stop status) o source sink log c = StopsBy status o source sink log c
