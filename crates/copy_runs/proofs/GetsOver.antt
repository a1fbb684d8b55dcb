-- A get of either channel, where the reply to END was taken.
use Rattle.std.proofs.Common.{◌≡◌, ℕ, zero, suc, ◌+◌, ◌≤◌, ◌==◌, ◌&&◌, ◌||◌, Bool, true, false, cond, Option, Some, None, List, [], ◌∷◌, ◌++◌, length, refl, ap, ◌∙◌, arith, length-append}
use Rattle.std.specs.Prelude.{slice_get, is_some}
use mathlib.Core.List.{IsPrefix}
use Rattle.std.proofs.lemmas.List.{length-map}
use Rattle.file_messages.specs.declared.kind.Channel.{Channel}
use Rattle.file_messages.specs.declared.kind.Channel.TheVariants as channels
use Rattle.file_messages.specs.declared.fault.ReplyFault.{ReplyFault}
use Rattle.file_messages.specs.declared.message.Request.{Request}
use Rattle.file_messages.specs.Messages.{reply_bytes}
use Rattle.file_messages.specs.Runs.{read_of, reads_from, reads_count, end_request, get_requests, reply_to, replies_to}
use Rattle.file_pasts.specs.ClientPast.{ClientEvent, Group, End, Sent, Replied, Gave, Completed, Received, requests_sent, answers, are_answered}
use Rattle.file_pasts.specs.GetDue.{has_ended, groups_came, groups_received, next_group, is_finished}
use Rattle.file_pasts.specs.GetLaws.{replies_in, IsAnswered, groups_taken}
use Rattle.copy_runs.proofs.EndLists.{front-few, none-at, length-get}
use Rattle.copy_runs.proofs.AllAnswered.{all-heard, none-faulty}

-- ---- END is the last request

read-no-end : (channel : Channel) (k : ℕ) → ((read_of channel k).op == 3) ≡ false
read-no-end channels.None k = refl
read-no-end channels.V1 k = refl

ended-all : (channel : Channel) (count k : ℕ) (end : Request) (rs : List Request) → IsPrefix rs (reads_from channel count k ++ end ∷ []) → has_ended rs ≡ true
    → rs ≡ reads_from channel count k ++ end ∷ []
ended-all channel count k end [] p e = absurd (let b : ⊥ = cc in b)
ended-all channel zero k end (r ∷ []) p e =
    let whole : r ∷ p.0 ≡ end ∷ [] = p.1 in
    let head : r ≡ end = cc in
    ap (λ (q : Request). q ∷ []) head
ended-all channel zero k end (r ∷ (s ∷ rs)) p e = absurd (let whole : r ∷ (s ∷ (rs ++ p.0)) ≡ end ∷ [] = p.1 in let b : ⊥ = cc in b)
ended-all channel (suc count) k end (r ∷ rs) p e =
    let whole : r ∷ (rs ++ p.0) ≡ read_of channel k ∷ (reads_from channel count (k + 1) ++ end ∷ []) = p.1 in
    let head : r ≡ read_of channel k = cc in
    let rest : rs ++ p.0 ≡ reads_from channel count (k + 1) ++ end ∷ [] = cc in
    let later = ended-all channel count (k + 1) end rs (p.0, rest) (later-ended (r.op == 3) (has_ended rs) (ap (λ (q : Request). q.op == 3) head ∙ read-no-end channel k) e) in
    ap (λ (q : Request). q ∷ rs) head ∙ ap (λ (qs : List Request). read_of channel k ∷ qs) later
  where
    later-ended : (x y : Bool) → x ≡ false → (x || y) ≡ true → y ≡ true
    later-ended false y h k = k
    later-ended true y h k = absurd (let b : ⊥ = cc in b)

both : (x y : Bool) → (x && y) ≡ true → (x ≡ true) × (y ≡ true)
both true true e = (refl, refl)
both true false e = absurd (let b : ⊥ = cc in b)
both false y e = absurd (let b : ⊥ = cc in b)

-- ---- groups

pub received-taken : (past : List ClientEvent) → groups_received past ≡ length (groups_taken past)
received-taken [] = refl
received-taken (Group b ∷ past) = received-taken past
received-taken (End ∷ past) = received-taken past
received-taken (Sent q ∷ past) = received-taken past
received-taken (Replied m ∷ past) = received-taken past
received-taken (Gave work ∷ past) = received-taken past
received-taken (Completed c ∷ past) = received-taken past
received-taken (Received b ∷ past) = (let z = received-taken past in let more : length (groups_taken past ++ b ∷ []) ≡ length (groups_taken past) + 1 = length-append (groups_taken past) (b ∷ []) in omega (arith, z, more))

-- where no group is left, all that came were given
pub came-taken : (channel : Channel) (past : List ClientEvent) → (answers past).fault ≡ None → next_group channel past ≡ None → length (groups_came channel past) ≤ length (groups_taken past)
came-taken channel past fine none =
    let left = none-at (groups_came channel past) (groups_received past) (by_fault (answers past).fault fine none) in
    omega (arith, left, received-taken past)
  where
    by_fault : (o : Option ReplyFault) → o ≡ None → cond (is_some o) None (slice_get (groups_came channel past) (groups_received past)) ≡ None
        → slice_get (groups_came channel past) (groups_received past) ≡ None
    by_fault None e h = h
    by_fault (Some f) e h = absurd (let b : ⊥ = cc in b)

-- ---- it is over

pub record GetIsOver (channel : Channel) (bytes : List ℕ) (past : List ClientEvent) : Type 0 where
  pub sent_all : requests_sent past ≡ get_requests channel bytes
  pub heard_all : length (replies_in past) ≡ reads_count bytes + 1
  pub fine : (answers past).fault ≡ None

pub get-is-over : (channel : Channel) (bytes : List ℕ) (past : List ClientEvent) → IsPrefix (requests_sent past) (get_requests channel bytes) → IsAnswered channel bytes past
    → is_finished past ≡ true → GetIsOver channel bytes past
get-is-over channel bytes past asked told over = record {
  sent_all = all;
  heard_all = omega (arith, long, size, heard, few);
  fine = none-faulty past parts.1 (omega (arith, long, size, few));
} where
  parts : (has_ended (requests_sent past) ≡ true) × (are_answered past ≡ true)
  parts = both (has_ended (requests_sent past)) (are_answered past) over

  all : requests_sent past ≡ get_requests channel bytes
  all = ended-all channel (reads_count bytes) 1 (end_request (reads_count bytes + 1) (length bytes)) (requests_sent past) asked parts.0

  size : length (requests_sent past) ≡ length (get_requests channel bytes)
  size = ap (λ (rs : List Request). length rs) all

  long : length (get_requests channel bytes) ≡ reads_count bytes + 1
  long = length-get channel bytes

  heard : length (requests_sent past) ≤ length (replies_in past)
  heard = all-heard past parts.1

  few : length (replies_in past) ≤ length (get_requests channel bytes)
  few =
      (let front = front-few (replies_in past) _ told in
      let replies = length-map (replies_to bytes (get_requests channel bytes)) reply_bytes in
      let requests = length-map (get_requests channel bytes) (reply_to bytes) in
      omega (arith, front, replies, requests))
