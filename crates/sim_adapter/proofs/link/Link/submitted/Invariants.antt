use Rattle.sim_adapter.proofs.link.Link.submitted.Given as goal

abbrev pub ghosts-submit : goal.ghosts-submit
ghosts-submit a = record { message = a.message.now }
