-- What was handed to a client's machine of its jobs (this project's own).
use Rattle.std.specs.Prelude.{List, [], ◌∷◌, ◌++◌}
use Rattle.file_messages.specs.declared.job.Completion.{Completion}
use Rattle.file_pasts.specs.ClientPast.{ClientEvent, Group, End, Sent, Replied, Gave, Completed, Received, AnswersJob}

-- the completions, the oldest first
abbrev pub completions_in : List ClientEvent → List Completion
completions_in [] = []
completions_in (Group bytes ∷ past) = completions_in past
completions_in (End ∷ past) = completions_in past
completions_in (Sent r ∷ past) = completions_in past
completions_in (Replied m ∷ past) = completions_in past
completions_in (Gave work ∷ past) = completions_in past
completions_in (Completed c ∷ past) = completions_in past ++ c ∷ []
completions_in (Received bytes ∷ past) = completions_in past

-- each of them answered a job that was open
abbrev pub JobsAnswered : List ClientEvent → Type 0
JobsAnswered [] = Unit {0}
JobsAnswered (Group bytes ∷ past) = JobsAnswered past
JobsAnswered (End ∷ past) = JobsAnswered past
JobsAnswered (Sent r ∷ past) = JobsAnswered past
JobsAnswered (Replied m ∷ past) = JobsAnswered past
JobsAnswered (Gave work ∷ past) = JobsAnswered past
JobsAnswered (Completed c ∷ past) = AnswersJob past c × JobsAnswered past
JobsAnswered (Received bytes ∷ past) = JobsAnswered past
