-- How the pool was opened.
use Rattle.shared_pages.proofs.pages.Pages.meet.Given as goal

abbrev pub ghosts-learn : goal.ghosts-learn
ghosts-learn a = record { opening = a.self.now.table.shared.key }
