-- How the client's machine of a get stands after its past.
use Rattle.std.specs.Prelude.{◌≡◌, ℕ, ◌<◌, Option, Some, None, List, length}
use Rattle.file_messages.specs.declared.kind.Channel.{Channel}
use Rattle.file_messages.specs.declared.kind.Channel.TheVariants as channels
use Rattle.file_messages.specs.declared.job.Completion.{Completion}
use Rattle.file_pasts.specs.ClientPast.{ClientEvent, requests_sent, answers, reply_fault, AnswersJob}
use Rattle.file_pasts.specs.GetDue.{IsGet}
use Rattle.file_transfer.specs.declared.get_client.GetClient.{GetClient}
use Rattle.file_transfer.specs.declared.get_requests.GetRequests.{GetRequests}
use Rattle.file_transfer.specs.declared.get_groups.GetGroups.{GetGroups}
use Rattle.file_transfer.specs.declared.get_registered.GetRounds.{GetRounds}
use Rattle.file_transfer.specs.GetStands.{GetStands, GroupsStand}
use Rattle.file_transfer.specs.GetPagesStand.{RoundsStand}

-- ---- without registered pages

pub record InlineGetStands (past : List ClientEvent) (q : GetRequests) (g : GetGroups) : Type 0 where
  pub requests : GetStands channels.None past q
  pub groups : GroupsStand channels.None past g

-- the next request has a number
pub record MayAskInline (q : GetRequests) (g : GetGroups) : Type 0 where
  pub past : List ClientEvent
  pub stands : InlineGetStands past q g
  pub few : length (requests_sent past) < 4294967295

-- a reply that is taken
pub record MayTakeReply (g : GetGroups) (message : List ℕ) : Type 0 where
  pub past : List ClientEvent
  pub lawful : IsGet channels.None past
  pub stands : GroupsStand channels.None past g
  pub fine : reply_fault (answers past) message ≡ None

-- ---- the machine

-- registered pages are there where the bytes travel through them
pub record RoundsCame (channel : Channel) (past : List ClientEvent) (r : GetRounds) : Type 0 where
  pub over : channel ≡ channels.V1
  pub stands : RoundsStand past r

abbrev pub RoundsIfAny : Channel → List ClientEvent → Option GetRounds → Type 0
RoundsIfAny channel past None = channel ≡ channels.None
RoundsIfAny channel past (Some r) = RoundsCame channel past r

-- the machine of such a get came to stand so by this past
pub record CameBy (channel : Channel) (past : List ClientEvent) (m : GetClient) : Type 0 where
  pub requests : GetStands channel past m.requests
  pub groups : GroupsStand channel past m.groups
  pub rounds : RoundsIfAny channel past m.rounds

pub record HasCome (m : GetClient) : Type 0 where
  pub channel : Channel
  pub past : List ClientEvent
  pub came : CameBy channel past m

-- a completion answers a job that was given and is not completed
pub record MayComplete (m : GetClient) (c : Completion) : Type 0 where
  pub channel : Channel
  pub past : List ClientEvent
  pub came : CameBy channel past m
  pub answers_it : AnswersJob past c

-- the next request has a number
pub record MaySend (m : GetClient) : Type 0 where
  pub channel : Channel
  pub past : List ClientEvent
  pub came : CameBy channel past m
  pub few : length (requests_sent past) < 4294967295
