-- How the requests of a get and the groups that came stand after its past.
use Rattle.std.specs.Prelude.{◌≡◌, ℕ, ◌+◌, ◌*◌, ◌<◌, ◌≤◌, nat_lt, not, ◌&&◌, ◌||◌, Bool, true, Option, Some, None, List, [], ◌∷◌, length, drop, vec_len, vec_capacity}
use Rattle.std.specs.VecDeque.{deque_len, deque_capacity}
use Rattle.std.specs.declared.vec.Vec.{Vec}
use Rattle.std.specs.declared.alloc.Global.{Global}
use Rattle.file_messages.specs.declared.layout.TheConstants.{GROUP_SIZE}
use Rattle.file_messages.specs.declared.kind.Channel.{Channel}
use Rattle.file_messages.specs.declared.kind.Channel.TheVariants as channels
use Rattle.file_messages.specs.declared.message.Request.{Request}
use Rattle.file_messages.specs.Runs.{channel_number, end_request}
use Rattle.file_pasts.specs.ClientPast.{ClientEvent, Received, requests_sent, has_failed, are_answered}
use Rattle.file_pasts.specs.GetDue.{IsGet, sent, counts_taken, sum_of, last_count, has_ended, jobs_completed, groups_came, groups_received, read_request}
use Rattle.file_transfer.specs.declared.loaded_page.LoadedPage.{LoadedPage}
use Rattle.file_transfer.specs.declared.get_requests.GetRequests.{GetRequests}
use Rattle.file_transfer.specs.declared.get_groups.GetGroups.{GetGroups}
use Rattle.file_transfer.specs.ClientStands.{AskedStand, pages_named}

-- ---- requests

pub record GetStands (channel : Channel) (past : List ClientEvent) (q : GetRequests) : Type 0 where
  pub lawful : IsGet channel past
  pub asked : AskedStand past q.asked
  pub offset : q.offset ≡ sum_of (counts_taken past)
  pub last : q.last ≡ last_count (counts_taken past)
  pub end_sent : q.end_sent ≡ has_ended (requests_sent past)

-- no reply was refused, END was not given, and each request has its reply
abbrev pub may_ask : List ClientEvent → Bool
may_ask past = not (has_failed past || has_ended (requests_sent past)) && are_answered past

-- the READ that names these pages, and END, where they come next
abbrev pub read_after : GetRequests → Channel → Vec LoadedPage Global → Request
read_after q channel pages = read_request (channel_number channel) (q.asked.sent + 1) q.offset (pages_named pages)

abbrev pub end_after : GetRequests → Request
end_after q = end_request (q.asked.sent + 1) q.offset

pub record IsOfAGet (q : GetRequests) : Type 0 where
  pub channel : Channel
  pub past : List ClientEvent
  pub stands : GetStands channel past q

-- ---- groups

-- a READ was given, and what it asked for has not come
abbrev pub awaits : Channel → List ClientEvent → Bool
awaits channels.None past = not (has_ended (requests_sent past)) && not (are_answered past)
awaits channels.V1 past = not (has_ended (requests_sent past)) && nat_lt (jobs_completed past) (32 * sent past)

-- room for the bytes of a group
abbrev pub IsRoom : Option (Vec ℕ Global) → Type 0
IsRoom None = ⊥
IsRoom (Some room) = (room.items ≡ []) × (vec_len room ≡ 0) × (GROUP_SIZE ≤ vec_capacity room)

-- room for a group, and a place behind those that came
pub record HasRoom (g : GetGroups) : Type 0 where
  pub spare : deque_len g.came < deque_capacity g.came
  pub room : IsRoom g.room

pub record GroupsStand (channel : Channel) (past : List ClientEvent) (g : GetGroups) : Type 0 where
  pub came : g.came.items ≡ drop (groups_received past) (groups_came channel past)
  pub in_turn : groups_received past ≤ length (groups_came channel past)
  pub room : awaits channel past ≡ true → HasRoom g

abbrev pub after_receiving : Option (List ℕ) → List ClientEvent → List ClientEvent
after_receiving None past = past
after_receiving (Some bytes) past = Received bytes ∷ past
