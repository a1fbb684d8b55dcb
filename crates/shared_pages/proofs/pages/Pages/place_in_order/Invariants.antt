-- How the pool was opened, and which event the page is given back with.
use Rattle.shared_pages.specs.Steps.{event_of}
use Rattle.shared_pages.proofs.pages.Pages.place_in_order.Given as goal

abbrev pub ghosts-hold : goal.ghosts-hold
ghosts-hold a = record { opening = a.self.now.table.shared.key }

abbrev pub ghosts-give_back : goal.ghosts-give_back
ghosts-give_back a = record { event = event_of a.step a.bytes.now }
