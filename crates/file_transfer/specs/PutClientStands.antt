-- How the client's machine of a put stands after its past.
use Rattle.std.specs.Prelude.{◌≡◌, ℕ, ◌<◌, ◌≤◌, true, List, length, map}
use Rattle.file_messages.specs.declared.layout.TheConstants.{GROUP_SIZE}
use Rattle.file_messages.specs.declared.job.Completion.{Completion}
use Rattle.file_pasts.specs.ClientPast.{ClientEvent, Group, requests_sent, answers, AnswersJob}
use Rattle.file_pasts.specs.PutDue.{Setup, IsPut, Follows, wants_group}
use Rattle.file_pasts.specs.InStep.{over}
use Rattle.file_transfer.specs.declared.loaded_page.LoadedPage.{LoadedPage}
use Rattle.file_transfer.specs.declared.put_client.PutClient.{PutClient}
use Rattle.file_transfer.specs.declared.put_client.Groups.{Groups}
use Rattle.file_transfer.specs.declared.put_client.Groups.TheVariants.{Inline, Registered}
use Rattle.file_transfer.specs.declared.put_inline.InlineGroups.{InlineGroups}
use Rattle.file_transfer.specs.declared.put_registered.RegisteredGroups.{RegisteredGroups}
use Rattle.file_transfer.specs.ClientStands.{descriptor_in, first_named}
use Rattle.file_transfer.specs.PutStands.{RequestsStand}
use Rattle.file_transfer.specs.PutInlineStands.{InlineStands, without_pages}
use Rattle.file_transfer.specs.PutRegisteredStands.{RegisteredStand}

-- the groups, as they travel
pub record InlineCame (s : Setup) (past : List ClientEvent) (groups : InlineGroups) : Type 0 where
  pub setup : s ≡ without_pages s.windows
  pub stands : InlineStands past groups

pub record RegisteredCame (s : Setup) (past : List ClientEvent) (groups : RegisteredGroups) : Type 0 where
  pub setup : s ≡ over s.windows
  pub stands : RegisteredStand s.windows past groups

abbrev pub GroupsCame : Setup → List ClientEvent → Groups → Type 0
GroupsCame s past (Inline groups) = InlineCame s past groups
GroupsCame s past (Registered groups) = RegisteredCame s past groups

pub record MayTakeGroup (g : Groups) (bytes : List ℕ) : Type 0 where
  pub setup : Setup
  pub past : List ClientEvent
  pub came : GroupsCame setup past g
  pub lawful : IsPut setup past
  pub follows : Follows setup (Group bytes) past
  pub few : length (requests_sent past) < 4294967296

pub record MayGiveJob (g : Groups) : Type 0 where
  pub setup : Setup
  pub past : List ClientEvent
  pub came : GroupsCame setup past g
  pub few : length (requests_sent past) < 4294967296

pub record MayCompleteJob (g : Groups) (c : Completion) : Type 0 where
  pub setup : Setup
  pub past : List ClientEvent
  pub came : GroupsCame setup past g
  pub answers_it : AnswersJob past c

pub record MayUnloadPages (g : Groups) (pages : List LoadedPage) : Type 0 where
  pub setup : Setup
  pub past : List ClientEvent
  pub came : GroupsCame setup past g
  pub named : map descriptor_in pages ≡ first_named (answers past).unanswered

-- the machine of such a put came to stand so by this past
pub record CameBy (s : Setup) (past : List ClientEvent) (m : PutClient) : Type 0 where
  pub requests : RequestsStand s past m.requests
  pub groups : GroupsCame s past m.groups

pub record HasCome (m : PutClient) : Type 0 where
  pub setup : Setup
  pub past : List ClientEvent
  pub came : CameBy setup past m

-- a group may be handed in: it is wanted, and has from 1 to 65,536 bytes
pub record MayHand (m : PutClient) (bytes : List ℕ) : Type 0 where
  pub setup : Setup
  pub past : List ClientEvent
  pub came : CameBy setup past m
  pub wanted : wants_group setup past ≡ true
  pub some : 1 ≤ length bytes
  pub short : length bytes ≤ GROUP_SIZE

-- a completion answers a job that was given and is not completed
pub record MayComplete (m : PutClient) (c : Completion) : Type 0 where
  pub setup : Setup
  pub past : List ClientEvent
  pub came : CameBy setup past m
  pub answers_it : AnswersJob past c

-- the next request has a number
pub record MaySend (m : PutClient) : Type 0 where
  pub setup : Setup
  pub past : List ClientEvent
  pub came : CameBy setup past m
  pub few : length (requests_sent past) < 4294967295
