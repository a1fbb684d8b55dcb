-- A get has at most one request under way.
use Rattle.std.proofs.Common.{◌≡◌, ◌+◌, ◌≤◌, ◌==◌, not, ◌&&◌, ◌||◌, Bool, true, false, cond, Some, None, List, [], ◌∷◌, ◌++◌, length, refl, ap, arith, length-append}
use Rattle.std.proofs.lemmas.Bool.Decides.{nat_tests}
use Rattle.file_messages.specs.declared.kind.Channel.{Channel}
use Rattle.file_messages.specs.declared.kind.Channel.TheVariants as channels
use Rattle.file_messages.specs.declared.message.Request.{Request}
use Rattle.file_messages.specs.Runs.{end_request}
use Rattle.file_pasts.specs.ClientPast.{ClientEvent, Group, End, Sent, Replied, Gave, Completed, Received, requests_sent, answers, has_failed, are_answered}
use Rattle.file_pasts.specs.PutPages.{requests_replied}
use Rattle.file_pasts.specs.GetDue.{counts_taken, sum_of, sent, goes_on, has_ended, is_between_rounds, read_due, next_request, IsGet}
use Rattle.file_pasts.specs.GetLaws.{replies_in}
use Rattle.file_pasts.proofs.PutPageLaws.{requests_answered}
use Rattle.copy_laws.proofs.Heard.{replied-few}

-- a request is due where all before it have their replies
all-answered : (channel : Channel) (past : List ClientEvent) (r : Request) → next_request channel past ≡ Some r → length (answers past).unanswered ≡ 0
all-answered channel past r e = by_tests (has_failed past || has_ended (requests_sent past)) (is_between_rounds channel past) refl e where
  first_of : (x y : Bool) → (x && y) ≡ true → x ≡ true
  first_of true y h = refl
  first_of false y h = absurd (let b : ⊥ = cc in b)

  between : (c : Channel) → is_between_rounds c past ≡ true → are_answered past ≡ true
  between channels.None h = h
  between channels.V1 h = first_of (are_answered past) _ h

  by_tests : (a b : Bool) → is_between_rounds channel past ≡ b
      → cond a None (cond (not b) None (cond (goes_on past) (read_due channel past) (Some (end_request (sent past + 1) (sum_of (counts_taken past)))))) ≡ Some r
      → length (answers past).unanswered ≡ 0
  by_tests true b p h = absurd (let x : ⊥ = cc in x)
  by_tests false false p h = absurd (let x : ⊥ = cc in x)
  by_tests false true p h = (let x : (length (answers past).unanswered == 0) ≡ true = between channel p in grind (arith, nat_tests))

sent-heard : (past : List ClientEvent) → length (requests_sent past) ≤ length (answers past).unanswered + length (replies_in past)
sent-heard past =
    let all : length (requests_sent past) ≡ length (requests_replied past ++ (answers past).unanswered) = ap length (requests_answered past) in
    omega (arith, all, length-append (requests_replied past) (answers past).unanswered, replied-few past)

pub sent-few : (channel : Channel) (past : List ClientEvent) → IsGet channel past → length (requests_sent past) ≤ length (replies_in past) + 1
sent-few channel [] g = omega arith
sent-few channel (Group bytes ∷ past) g = absurd g.0
sent-few channel (End ∷ past) g = absurd g.0
sent-few channel (Sent r ∷ past) g =
    let more : length (requests_sent past ++ r ∷ []) ≡ length (requests_sent past) + 1 = length-append (requests_sent past) (r ∷ []) in
    omega (arith, more, all-answered channel past r g.0, sent-heard past)
sent-few channel (Replied m ∷ past) g =
    let more : length (replies_in past ++ m ∷ []) ≡ length (replies_in past) + 1 = length-append (replies_in past) (m ∷ []) in
    omega (arith, more, sent-few channel past g.1)
sent-few channel (Gave work ∷ past) g = sent-few channel past g.1
sent-few channel (Completed c ∷ past) g = sent-few channel past g.1
sent-few channel (Received bytes ∷ past) g = sent-few channel past g.1
