-- What was handed to a server's machine of its jobs (this project's own).
use Rattle.std.specs.Prelude.{List, [], ◌∷◌, ◌++◌}
use Rattle.file_messages.specs.declared.job.Completion.{Completion}
use Rattle.file_pasts.specs.ServerDue.{ServerEvent, Asked, Filled, Gave, Completed, Replied, Stored}

-- the completions, the oldest first
abbrev pub completions_taken : List ServerEvent → List Completion
completions_taken [] = []
completions_taken (Asked m ∷ past) = completions_taken past
completions_taken (Filled bytes ∷ past) = completions_taken past
completions_taken (Gave work ∷ past) = completions_taken past
completions_taken (Completed c ∷ past) = completions_taken past ++ c ∷ []
completions_taken (Replied r ∷ past) = completions_taken past
completions_taken (Stored bytes ∷ past) = completions_taken past
