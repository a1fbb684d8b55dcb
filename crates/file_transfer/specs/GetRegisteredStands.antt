-- How a get over registered pages stands after its past.
use Rattle.std.specs.Prelude.{ℕ, ◌*◌, ◌<◌, ◌==◌, nat_le, ◌||◌, Bool, List, [], length, if◌then◌else◌}
use Rattle.file_messages.specs.declared.layout.TheConstants.{GROUP_SIZE}
use Rattle.file_messages.specs.declared.kind.Channel.TheVariants as channels
use Rattle.file_messages.specs.declared.job.Completion.{Completion}
use Rattle.file_messages.specs.declared.job.Work.{Work}
use Rattle.file_pasts.specs.ClientPast.{ClientEvent, requests_sent, AnswersJob}
use Rattle.file_pasts.specs.GetDue.{IsGet}
use Rattle.file_transfer.specs.declared.get_requests.GetRequests.{GetRequests}
use Rattle.file_transfer.specs.declared.get_groups.GetGroups.{GetGroups}
use Rattle.file_transfer.specs.declared.get_registered.GetRounds.{GetRounds}
use Rattle.file_transfer.specs.GetStands.{GetStands, GroupsStand}
use Rattle.file_transfer.specs.GetPagesStand.{RoundsStand}

-- the jobs of so many rounds are completed
abbrev pub are_back : ℕ → ℕ → Bool
are_back completed sent = sent == 0 || nat_le (32 * sent) completed

-- the Loads that come due after a READ of this count
abbrev pub loads_after : ℕ → List Work → List Work
loads_after count works = if count == GROUP_SIZE then works else []

pub record RegisteredGetStands (past : List ClientEvent) (q : GetRequests) (g : GetGroups) (r : GetRounds) : Type 0 where
  pub requests : GetStands channels.V1 past q
  pub groups : GroupsStand channels.V1 past g
  pub rounds : RoundsStand past r

-- the ids of the requests have 32 bits
pub record MayGive (r : GetRounds) : Type 0 where
  pub past : List ClientEvent
  pub lawful : IsGet channels.V1 past
  pub stands : RoundsStand past r
  pub few : length (requests_sent past) < 4294967296

-- the next request has a number
pub record MayAsk (q : GetRequests) (g : GetGroups) (r : GetRounds) : Type 0 where
  pub past : List ClientEvent
  pub stands : RegisteredGetStands past q g r
  pub few : length (requests_sent past) < 4294967295

-- a completion answers a job that was given and is not completed
pub record MayComplete (q : GetRequests) (g : GetGroups) (r : GetRounds) (c : Completion) : Type 0 where
  pub past : List ClientEvent
  pub stands : RegisteredGetStands past q g r
  pub answers_it : AnswersJob past c
