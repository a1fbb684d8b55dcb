-- How the requests of a put stand after its past.
use Rattle.std.specs.Prelude.{◌≡◌, ◌≤◌, nat_lt, not, ◌&&◌, Bool, List, length, take}
use Rattle.file_transfer.specs.declared.put_requests.PutRequests.{PutRequests}
use Rattle.file_pasts.specs.ClientPast.{ClientEvent, groups_in, is_ended, requests_sent, total, are_answered}
use Rattle.file_pasts.specs.PutDue.{Setup, IsPut, are_whole}
use Rattle.file_transfer.specs.ClientStands.{AskedStand}

pub record RequestsStand (s : Setup) (past : List ClientEvent) (q : PutRequests) : Type 0 where
  pub lawful : IsPut s past
  pub asked : AskedStand past q.asked
  pub offset : q.offset ≡ total (take (length (requests_sent past)) (groups_in past))
  pub ended : q.ended ≡ is_ended past
  pub whole : q.whole ≡ are_whole (groups_in past)
  pub end_sent : q.end_sent ≡ nat_lt (length (groups_in past)) (length (requests_sent past))

-- each group was sent
pub record AllSent (past : List ClientEvent) : Type 0 where
  pub all : length (groups_in past) ≤ length (requests_sent past)

abbrev pub takes_groups : List ClientEvent → Bool
takes_groups past = not (is_ended past) && are_whole (groups_in past)

-- the groups have ended, END was not given, and each request has its reply
abbrev pub is_over : List ClientEvent → Bool
is_over past = (is_ended past && not (nat_lt (length (groups_in past)) (length (requests_sent past)))) && are_answered past
