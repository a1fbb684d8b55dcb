-- How the pool was opened.
use Rattle.shared_pages.proofs.sweeps.sweep_twice.Given as goal

abbrev pub ghosts-look : goal.ghosts-look
ghosts-look a = record { opening = a.self.now.table.shared.key }
