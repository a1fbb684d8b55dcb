-- The bytes that a get puts together are those of the pages that its Unloads took back.
use Rattle.std.specs.Prelude.{◌≡◌, ℕ, ◌+◌, ◌≤◌, Some, List, [], ◌∷◌, length, take, drop}
use Rattle.std.specs.List.{flat_map}
use Rattle.smbd_base.specs.Tokens.{PageToken}
use Rattle.file_messages.specs.declared.kind.Channel.{Channel}
use Rattle.file_messages.specs.declared.job.Work.{Work}
use Rattle.file_messages.specs.declared.job.Work.TheVariants.{Load, Fetch, Place, Unload}
use Rattle.file_pasts.specs.ClientPast.{ClientEvent, Group, End, Sent, Replied, Gave, Completed, Received, jobs_given, open_jobs, job_at}
use Rattle.file_pasts.specs.GetDue.{jobs_completed, page_bytes, pages_back, IsGet}

-- what a job brings, where the page of each token holds such bytes: an Unload brings those of its page
abbrev pub brought_by : (PageToken → List ℕ) → Work → List ℕ
brought_by content (Load page right bytes) = []
brought_by content (Fetch d) = []
brought_by content (Place d bytes) = []
brought_by content (Unload t) = content t

-- each Unload that is completed brought the bytes of its token's page
abbrev pub UnloadsBring : (PageToken → List ℕ) → List ClientEvent → Type 0
UnloadsBring content [] = Unit {0}
UnloadsBring content (Group bytes ∷ past) = UnloadsBring content past
UnloadsBring content (End ∷ past) = UnloadsBring content past
UnloadsBring content (Sent r ∷ past) = UnloadsBring content past
UnloadsBring content (Replied m ∷ past) = UnloadsBring content past
UnloadsBring content (Gave work ∷ past) = UnloadsBring content past
UnloadsBring content (Completed c ∷ past) =
    ((t : PageToken) → job_at c.number (open_jobs past) ≡ Some (Unload t) → page_bytes c.result ≡ content t) × UnloadsBring content past
UnloadsBring content (Received bytes ∷ past) = UnloadsBring content past

-- each job that was given is completed once, or open
abbrev pub JobsAreCounted : Type 0
JobsAreCounted = (channel : Channel) (past : List ClientEvent) → IsGet channel past → jobs_completed past + length (open_jobs past) ≡ length (jobs_given past)

-- where each job is completed, the bytes of some jobs in a row are those of their pages
abbrev pub PagesComeBack : Type 0
PagesComeBack = (channel : Channel) (content : PageToken → List ℕ) (past : List ClientEvent) (count n : ℕ) → IsGet channel past → UnloadsBring content past
    → jobs_completed past ≡ length (jobs_given past) → n + count ≤ length (jobs_given past)
    → pages_back count n past ≡ flat_map (brought_by content) (take count (drop n (jobs_given past)))
