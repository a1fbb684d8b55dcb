-- How a server stands after its past.
use Rattle.std.specs.Prelude.{◌≡◌, ℕ, ◌+◌, ◌-◌, ◌*◌, ◌<◌, ◌≤◌, Bool, true, false, Option, Some, None, Result, Ok, Err, IsOk, List, [], ◌∷◌, ◌++◌, length, drop}
use Rattle.std.specs.VecDeque.{deque_len, deque_capacity}
use Rattle.std.specs.Vec.{vec_capacity}
use Rattle.file_messages.specs.declared.layout.TheConstants.{GROUP_SIZE}
use Rattle.file_messages.specs.declared.kind.CopyKind.{CopyKind}
use Rattle.file_messages.specs.declared.fault.FileFault.{FileFault}
use Rattle.file_messages.specs.declared.fault.FileFault.TheVariants.{NoMemory}
use Rattle.file_messages.specs.declared.message.Request.{Request}
use Rattle.file_messages.specs.declared.message.Reply.{Reply}
use Rattle.file_messages.specs.declared.job.Job.{Job}
use Rattle.file_messages.specs.declared.job.Completion.{Completion}
use Rattle.file_messages.specs.Messages.{READ}
use Rattle.file_pasts.specs.ServerDue.{ServerEvent, Asked, Gave, Replied, Stored, replies, jobs_given, jobs_in_hand, result_at, source_in_hand, groups_stored, requests, judgement, has_ended, written, counted, handled, standing_status, jobs_due, wants_source, group_in_hand, groups_replied, IsServer, AnswersJob}
use Rattle.file_server.specs.declared.server_turn.Turn.{Turn}
use Rattle.file_server.specs.declared.server_course.Course.{Course}
use Rattle.file_server.specs.declared.server.FileServer.{FileServer}
use Rattle.file_server.specs.ServerTurn.{outcomes_so_far, all_of, total_in, filled_for, AreAsked, AreFitting}

-- bytes are there only for a READ that is handled, and at most so many as it asks for
abbrev pub IsSource : Option Request → Option (List ℕ) → Type 0
IsSource r None = Unit {0}
IsSource None (Some bytes) = ⊥
IsSource (Some r) (Some bytes) = (r.op ≡ READ) × (length bytes ≤ r.length)

-- facts of such a past alone
pub record IsInTurn (kind : CopyKind) (past : List ServerEvent) : Type 0 where
  pub lawful : IsServer kind past
  pub replied : length (replies past) ≤ length (requests kind past).accepted
  pub stored : groups_stored past ≤ length (groups_replied kind past ++ group_in_hand kind past)
  pub few : length (requests kind past).accepted < 4294967296
  pub source : IsSource (handled kind past) (source_in_hand past)
  pub in_hand : jobs_in_hand past ≤ length (jobs_due kind past)
  pub due : length (jobs_due kind past) ≤ 16
  pub before : jobs_in_hand past ≤ jobs_given past
  pub given : jobs_given past ≤ 16 * length (replies past) + jobs_in_hand past
  pub ahead : (n : ℕ) → jobs_given past ≤ n → result_at n past ≡ None
  pub counts : counted (replies past) ≤ GROUP_SIZE * length (replies past)
  pub read : AreAsked (requests kind past).accepted
  pub fitting : AreFitting (jobs_due kind past) (outcomes_so_far kind past)

-- the request that is handled stands so
pub record TurnCame (kind : CopyKind) (past : List ServerEvent) (t : Turn) : Type 0 where
  pub first : t.first ≡ jobs_given past - jobs_in_hand past
  pub due : t.due.items ≡ drop (jobs_in_hand past) (jobs_due kind past)
  pub outcomes : t.outcomes.items ≡ outcomes_so_far kind past
  pub filled : t.filled ≡ filled_for (handled kind past) (source_in_hand past)
  pub empty : t.room.items ≡ []
  pub room : all_of (outcomes_so_far kind past) ≡ None → total_in (jobs_due kind past) ≤ vec_capacity t.room

-- what the next request has to say
pub record CourseCame (kind : CopyKind) (past : List ServerEvent) (c : Course) : Type 0 where
  pub accepted : c.accepted ≡ length (requests kind past).accepted
  pub ended : c.ended ≡ has_ended (requests kind past).accepted
  pub written : c.written ≡ written (requests kind past).accepted
  pub counted : c.counted ≡ counted (replies past)

-- the server came to stand so by this past
pub record CameBy (kind : CopyKind) (past : List ServerEvent) (m : FileServer) : Type 0 where
  pub kind_is : m.kind ≡ kind
  pub waiting : m.waiting.items ≡ drop (length (replies past)) (requests kind past).accepted
  pub course : CourseCame kind past m.course
  pub fault : m.fault ≡ (requests kind past).fault
  pub status : m.status ≡ standing_status past
  pub given : m.given ≡ jobs_given past
  pub turn : TurnCame kind past m.turn
  pub groups : m.groups.items ≡ drop (groups_stored past) (groups_replied kind past ++ group_in_hand kind past)
  pub spare : deque_len m.groups + 1 ≤ deque_capacity m.groups + length (group_in_hand kind past)
  pub in_turn : IsInTurn kind past

-- ---- what the calls ask for, and what they leave

pub record HasCome (m : FileServer) : Type 0 where
  pub kind : CopyKind
  pub past : List ServerEvent
  pub came : CameBy kind past m

-- bytes are wanted, and at least so many
pub record MayFill (m : FileServer) (bytes : List ℕ) : Type 0 where
  pub kind : CopyKind
  pub past : List ServerEvent
  pub came : CameBy kind past m
  pub most : ℕ
  pub wanted : wants_source kind past ≡ Some most
  pub short : length bytes ≤ most

-- some message says this request, and it is accepted
pub record MayAccept (m : FileServer) (r : Request) : Type 0 where
  pub kind : CopyKind
  pub past : List ServerEvent
  pub came : CameBy kind past m
  pub message : List ℕ
  pub accepted : judgement kind (requests kind past) (replies past) message ≡ Ok r

-- the completion answers a job of this server
pub record MayComplete (m : FileServer) (c : Completion) : Type 0 where
  pub kind : CopyKind
  pub past : List ServerEvent
  pub came : CameBy kind past m
  pub answers : AnswersJob kind past c

-- a fault of the message itself
abbrev pub lasts : FileFault → Bool
lasts NoMemory = false
lasts fault = true

-- an answer to a request, where it was judged so: want of memory says nothing of it
abbrev pub AnswersRequest : Result Unit FileFault → Result Request FileFault → Type 0
AnswersRequest (Ok u) judged = IsOk judged
AnswersRequest (Err NoMemory) judged = Unit {0}
AnswersRequest (Err fault) judged = judged ≡ Err fault

-- the past then: without memory the request was not handed in
abbrev pub after_request : Result Unit FileFault → List ℕ → List ServerEvent → List ServerEvent
after_request (Err NoMemory) message past = past
after_request answer message past = Asked message ∷ past

abbrev pub after_giving : Option Job → List ServerEvent → List ServerEvent
after_giving None past = past
after_giving (Some job) past = Gave job.work ∷ past

abbrev pub after_replying : Option Reply → List ServerEvent → List ServerEvent
after_replying None past = past
after_replying (Some r) past = Replied r ∷ past

abbrev pub after_storing : Option (List ℕ) → List ServerEvent → List ServerEvent
after_storing None past = past
after_storing (Some bytes) past = Stored bytes ∷ past
