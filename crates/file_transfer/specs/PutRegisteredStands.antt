-- How the groups of a put over registered pages stand after its past.
use Rattle.std.specs.Prelude.{◌≡◌, ℕ, ◌+◌, ◌*◌, ◌<◌, ◌≤◌, Some, List, ◌∷◌, length, drop, map, vec_capacity}
use Rattle.buffer_descriptor.specs.declared.descriptor.Descriptor.{Descriptor}
use Rattle.file_messages.specs.declared.job.Completion.{Completion}
use Rattle.file_messages.specs.declared.job.WorkResult.TheVariants.{Loaded, Unloaded}
use Rattle.file_pasts.specs.ClientPast.{ClientEvent, Group, Completed, groups_in, requests_sent, answers, page_freed, AnswersJob}
use Rattle.file_pasts.specs.PutDue.{IsPut, Follows, jobs_due}
use Rattle.file_pasts.specs.InStep.{over}
use Rattle.file_transfer.specs.declared.put_registered.RegisteredGroups.{RegisteredGroups}
use Rattle.file_transfer.specs.declared.put_requests.PutRequests.{PutRequests}
use Rattle.file_transfer.specs.ClientJobs.{JobsStand}
use Rattle.file_transfer.specs.PutStands.{RequestsStand}
use Rattle.file_transfer.specs.PutPagesStand.{SlotsStand, windows_from, under_way_of, named_total}

-- how many bytes a group has
abbrev pub size_of : List ℕ → ℕ
size_of group = length group

-- w windows of 16 pages
pub record RegisteredStand (w : ℕ) (past : List ClientEvent) (g : RegisteredGroups) : Type 0 where
  pub lawful : IsPut (over w) past
  pub due : JobsStand (jobs_due w past) past g.jobs
  pub kept : g.jobs.kept ≡ named_total (answers past).unanswered
  pub slots : SlotsStand w past g.slots.items
  pub under_way : g.under_way.items ≡ under_way_of past (windows_from w 1 (groups_in past))
  pub count : g.count ≡ length (groups_in past)
  pub waiting : g.waiting.items ≡ map size_of (drop (length (requests_sent past)) (groups_in past))
  pub pool : length g.slots.items ≡ 16 * w
  pub some : 1 ≤ w
  pub few : w ≤ 15
  pub room : w ≤ vec_capacity g.under_way

pub record RegisteredPutStands (w : ℕ) (past : List ClientEvent) (q : PutRequests) (g : RegisteredGroups) : Type 0 where
  pub requests : RequestsStand (over w) past q
  pub groups : RegisteredStand w past g

pub record IsRegistered (g : RegisteredGroups) : Type 0 where
  pub windows : ℕ
  pub past : List ClientEvent
  pub stands : RegisteredStand windows past g

-- the ids of the requests have 32 bits
pub record MayGive (g : RegisteredGroups) : Type 0 where
  pub windows : ℕ
  pub past : List ClientEvent
  pub stands : RegisteredStand windows past g
  pub few : length (requests_sent past) < 4294967296

-- a group may be handed in
pub record MayTake (g : RegisteredGroups) (bytes : List ℕ) : Type 0 where
  pub windows : ℕ
  pub past : List ClientEvent
  pub stands : RegisteredStand windows past g
  pub follows : Follows (over windows) (Group bytes) past
  pub few : length (requests_sent past) < 4294967296

-- a completion answers a job that is not completed
pub record MayComplete (g : RegisteredGroups) (c : Completion) : Type 0 where
  pub windows : ℕ
  pub past : List ClientEvent
  pub stands : RegisteredStand windows past g
  pub answers_it : AnswersJob past c

-- the job of a completion is no longer outstanding, and its page is as before
pub record JobClosed (w : ℕ) (past : List ClientEvent) (c : Completion) (g : RegisteredGroups) : Type 0 where
  pub lawful : IsPut (over w) past
  pub answers_it : AnswersJob past c
  pub due : JobsStand (jobs_due w past) (Completed c ∷ past) g.jobs
  pub kept : g.jobs.kept ≡ named_total (answers past).unanswered + 1
  pub slots : SlotsStand w past g.slots.items
  pub under_way : g.under_way.items ≡ under_way_of past (windows_from w 1 (groups_in past))
  pub count : g.count ≡ length (groups_in past)
  pub waiting : g.waiting.items ≡ map size_of (drop (length (requests_sent past)) (groups_in past))
  pub pool : length g.slots.items ≡ 16 * w
  pub some : 1 ≤ w
  pub few : w ≤ 15
  pub room : w ≤ vec_capacity g.under_way

pub record MayLoad (g : RegisteredGroups) (d : Descriptor) : Type 0 where
  pub windows : ℕ
  pub past : List ClientEvent
  pub number : ℕ
  pub closed : JobClosed windows past (record { number = number; result = Loaded d }) g

pub record MayUnload (g : RegisteredGroups) (page : ℕ) : Type 0 where
  pub windows : ℕ
  pub past : List ClientEvent
  pub number : ℕ
  pub bytes : List ℕ
  pub closed : JobClosed windows past (record { number = number; result = Unloaded bytes }) g
  pub freed : page_freed (record { number = number; result = Unloaded bytes }) past ≡ Some page

-- the next request has a number
pub record MayAskRegistered (q : PutRequests) (g : RegisteredGroups) : Type 0 where
  pub windows : ℕ
  pub past : List ClientEvent
  pub stands : RegisteredPutStands windows past q g
  pub few : length (requests_sent past) < 4294967295
