-- A copy that was just opened has its options.
use Rattle.std.proofs.Common.{◌≡◌, None, refl, sym, subst}
use Rattle.copy_parts.specs.declared.options.CopyOptions.{CopyOptions}
use Rattle.end_workers.specs.declared.copy.Copy.{Copy}
use Rattle.end_workers.specs.Progress.{IsOpened}
use Rattle.end_workers.specs.Promise.{Stream}

-- a stream that tells nothing
none : Stream
none = record { before = None; now = None; faults_before = 0; faults = 0 }

pub options-are : (o : CopyOptions) (c : Copy) → IsOpened o c → c.options ≡ o
unfolding none
options-are o c opened = (opened none none none (refl, refl) (refl, refl) (refl, refl)).so_far.options

pub opened-so : (o : CopyOptions) (c : Copy) → IsOpened o c → IsOpened c.options c
opened-so o c opened = subst (λ (x : CopyOptions). IsOpened x c) (sym (options-are o c opened)) opened
