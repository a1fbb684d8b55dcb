-- A server gives no more groups than it was sent requests.
use Rattle.std.proofs.Common.{◌≡◌, ℕ, ◌+◌, ◌≤◌, ◌==◌, ◌&&◌, Bool, true, false, cond, Option, Some, None, Result, Ok, Err, List, [], ◌∷◌, ◌++◌, length, refl, arith, length-append}
use Rattle.std.specs.List.{flat_map}
use Rattle.file_messages.specs.declared.kind.CopyKind.{CopyKind}
use Rattle.file_messages.specs.declared.fault.FileFault.{FileFault}
use Rattle.file_messages.specs.declared.message.Request.{Request}
use Rattle.file_messages.specs.declared.message.Reply.{Reply}
use Rattle.file_messages.specs.declared.job.WorkResult.{WorkResult}
use Rattle.file_pasts.specs.ServerDue.{ServerEvent, Asked, Filled, Gave, Completed, Replied, Stored, replies, Requests, requests, judgement, with_judged, handled, standing_status, status_of, fetched, results, reply_if_handled, next_reply, group_of, group_if_handled, group_in_hand, groups_replied, groups_stored, IsServer}
use Rattle.file_pasts.specs.ServerLaws.{messages_asked, groups_given}
use Rattle.file_pasts.proofs.Lists.{within}

-- ---- requests

judged-few : (j : Result Request FileFault) (q : Requests) → length (with_judged j q).accepted ≤ length q.accepted + 1
judged-few (Ok r) q = (let more : length (q.accepted ++ r ∷ []) ≡ length q.accepted + 1 = length-append q.accepted (r ∷ []) in omega (arith, more))
judged-few (Err fault) q = (let same : length q.accepted ≤ length q.accepted + 1 = omega arith in same)

judged-all : (j : Result Request FileFault) (q : Requests) → length q.accepted ≤ length (with_judged j q).accepted
judged-all (Ok r) q = (let more : length (q.accepted ++ r ∷ []) ≡ length q.accepted + 1 = length-append q.accepted (r ∷ []) in omega (arith, more))
judged-all (Err fault) q = (let same : length q.accepted ≤ length q.accepted = omega arith in same)

accepted-few : (kind : CopyKind) (past : List ServerEvent) → length (requests kind past).accepted ≤ length (messages_asked past)
accepted-few kind [] = omega arith
accepted-few kind (Asked m ∷ past) =
    let more : length (messages_asked past ++ m ∷ []) ≡ length (messages_asked past) + 1 = length-append (messages_asked past) (m ∷ []) in
    omega (arith, more, accepted-few kind past, judged-few (judgement kind (requests kind past) (replies past) m) (requests kind past))
accepted-few kind (Filled bytes ∷ past) = accepted-few kind past
accepted-few kind (Gave work ∷ past) = accepted-few kind past
accepted-few kind (Completed c ∷ past) = accepted-few kind past
accepted-few kind (Replied r ∷ past) = accepted-few kind past
accepted-few kind (Stored bytes ∷ past) = accepted-few kind past

-- ---- the request that is handled

abbrev one_if : Option Request → ℕ
one_if None = 0
one_if (Some q) = 1

handled-among : (kind : CopyKind) (past : List ServerEvent) → length (replies past) ≤ length (requests kind past).accepted
    → length (replies past) + one_if (handled kind past) ≤ length (requests kind past).accepted
handled-among kind past few = by_handled (handled kind past) refl where
  by_handled : (o : Option Request) → handled kind past ≡ o → length (replies past) + one_if o ≤ length (requests kind past).accepted
  by_handled None h = (let z : length (replies past) + 0 ≤ length (requests kind past).accepted = omega (arith, few) in z)
  by_handled (Some q) h = (let z : length (replies past) + 1 ≤ length (requests kind past).accepted = omega (arith, within (requests kind past).accepted (length (replies past)) q h) in z)

-- a reply is given to a request that is handled
handled-due : (kind : CopyKind) (past : List ServerEvent) (r : Reply) → next_reply kind past ≡ Some r → one_if (handled kind past) ≡ 1
handled-due kind past r e = by_handled (handled kind past) e where
  by_handled : (o : Option Request) → reply_if_handled kind o past ≡ Some r → one_if o ≡ 1
  by_handled None h = absurd (let b : ⊥ = cc in b)
  by_handled (Some q) h = refl

replied-among : (kind : CopyKind) (past : List ServerEvent) → IsServer kind past → length (replies past) ≤ length (requests kind past).accepted
replied-among kind [] s = omega arith
replied-among kind (Asked m ∷ past) s = omega (arith, replied-among kind past s.1, judged-all (judgement kind (requests kind past) (replies past) m) (requests kind past))
replied-among kind (Filled bytes ∷ past) s = replied-among kind past s.1
replied-among kind (Gave work ∷ past) s = replied-among kind past s.1
replied-among kind (Completed c ∷ past) s = replied-among kind past s.1
replied-among kind (Replied r ∷ past) s =
    let more : length (replies past ++ r ∷ []) ≡ length (replies past) + 1 = length-append (replies past) (r ∷ []) in
    omega (arith, more, handled-among kind past (replied-among kind past s.1), handled-due kind past r s.0)
replied-among kind (Stored bytes ∷ past) s = replied-among kind past s.1

-- ---- groups

group-one : (q : Request) (o : Option (List WorkResult)) → length (group_of q o) ≤ 1
group-one q None = omega arith
group-one q (Some works) = by_test ((q.op == 1) && (status_of works == 0)) where
  by_test : (t : Bool) → length (cond t (cond (q.channel == 0) q.inline (flat_map fetched works) ∷ []) []) ≤ 1
  by_test true = omega arith
  by_test false = omega arith

in-hand-one : (kind : CopyKind) (o : Option Request) (past : List ServerEvent) → length (group_if_handled kind o past) ≤ one_if o
in-hand-one kind None past = omega arith
in-hand-one kind (Some q) past = by_test (standing_status past == 0) where
  by_test : (t : Bool) → length (cond t (group_of q (results kind past)) []) ≤ 1
  by_test true = group-one q (results kind past)
  by_test false = omega arith

groups-few : (kind : CopyKind) (past : List ServerEvent) → IsServer kind past → length (groups_replied kind past) ≤ length (replies past)
groups-few kind [] s = omega arith
groups-few kind (Asked m ∷ past) s = groups-few kind past s.1
groups-few kind (Filled bytes ∷ past) s = groups-few kind past s.1
groups-few kind (Gave work ∷ past) s = groups-few kind past s.1
groups-few kind (Completed c ∷ past) s = groups-few kind past s.1
groups-few kind (Replied r ∷ past) s =
    let more : length (replies past ++ r ∷ []) ≡ length (replies past) + 1 = length-append (replies past) (r ∷ []) in
    omega (arith, more, length-append (groups_replied kind past) (group_in_hand kind past), groups-few kind past s.1, in-hand-one kind (handled kind past) past, handled-due kind past r s.0)
groups-few kind (Stored bytes ∷ past) s = groups-few kind past s.1

stored-given : (past : List ServerEvent) → groups_stored past ≡ length (groups_given past)
stored-given [] = refl
stored-given (Asked m ∷ past) = stored-given past
stored-given (Filled bytes ∷ past) = stored-given past
stored-given (Gave work ∷ past) = stored-given past
stored-given (Completed c ∷ past) = stored-given past
stored-given (Replied r ∷ past) = stored-given past
stored-given (Stored bytes ∷ past) =
    let more : length (groups_given past ++ bytes ∷ []) ≡ length (groups_given past) + 1 = length-append (groups_given past) (bytes ∷ []) in
    omega (arith, more, stored-given past)

given-among : (kind : CopyKind) (past : List ServerEvent) → IsServer kind past → length (groups_given past) ≤ length (requests kind past).accepted
given-among kind [] s = omega arith
given-among kind (Asked m ∷ past) s = omega (arith, given-among kind past s.1, judged-all (judgement kind (requests kind past) (replies past) m) (requests kind past))
given-among kind (Filled bytes ∷ past) s = given-among kind past s.1
given-among kind (Gave work ∷ past) s = given-among kind past s.1
given-among kind (Completed c ∷ past) s = given-among kind past s.1
given-among kind (Replied r ∷ past) s = given-among kind past s.1
given-among kind (Stored bytes ∷ past) s =
    let more : length (groups_given past ++ bytes ∷ []) ≡ length (groups_given past) + 1 = length-append (groups_given past) (bytes ∷ []) in
    let there = within (groups_replied kind past ++ group_in_hand kind past) (groups_stored past) bytes s.0 in
    omega (
      arith,
      more,
      there,
      stored-given past,
      length-append (groups_replied kind past) (group_in_hand kind past),
      groups-few kind past s.1,
      in-hand-one kind (handled kind past) past,
      handled-among kind past (replied-among kind past s.1),
    )

pub groups-asked : (kind : CopyKind) (past : List ServerEvent) → IsServer kind past → length (groups_given past) ≤ length (messages_asked past)
groups-asked kind past s = omega (arith, given-among kind past s, accepted-few kind past)
