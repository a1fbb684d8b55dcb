use Rattle.std.proofs.Common.{◌≡◌, drop, map}
use Rattle.file_transfer.specs.ClientStands.{pages_named}
use Rattle.file_transfer.specs.GetPagesStand.{loaded_in, all_of}
use Rattle.file_transfer.proofs.GetPagesLemmas.{in_front_of}
use Rattle.file_transfer.proofs.get_pages.all_loaded.Given as goal

abbrev pub invariant-loop-slot : goal.invariant-loop-slot
invariant-loop-slot l = all_of (map loaded_in l.slots.items) ≡ in_front_of (pages_named l.found) (all_of (map loaded_in (drop l.slot-index l.slots.items)))
