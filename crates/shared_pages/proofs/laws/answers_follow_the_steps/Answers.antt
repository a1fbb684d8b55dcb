use Rattle.shared_pages.proofs.StepAnswers.{loads-by-step, fetches-by-step, all-places-by-step, unloads-by-step}
use Rattle.shared_pages.proofs.laws.answers_follow_the_steps.Goals as goal

pub returns-clause-loads : goal.returns-clause-loads
returns-clause-loads c = loads-by-step

pub returns-clause-fetches : goal.returns-clause-fetches
returns-clause-fetches c = fetches-by-step

pub returns-clause-places : goal.returns-clause-places
returns-clause-places c = all-places-by-step

pub returns-clause-unloads : goal.returns-clause-unloads
returns-clause-unloads c = unloads-by-step
