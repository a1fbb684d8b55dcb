-- A client whose requests are all answered.
use Rattle.std.proofs.Common.{◌≡◌, ℕ, ◌+◌, ◌≤◌, Option, Some, None, List, [], ◌∷◌, ◌++◌, length, refl, ap, ◌∙◌, true, arith, length-append}
use Rattle.std.proofs.lemmas.Bool.Decides.{nat_tests}
use Rattle.file_messages.specs.declared.fault.ReplyFault.{ReplyFault}
use Rattle.file_messages.specs.declared.message.Request.{Request}
use Rattle.file_pasts.specs.ClientPast.{ClientEvent, Group, End, Sent, Replied, Gave, Completed, Received, requests_sent, Answers, reply_fault, replied, answers, are_answered}
use Rattle.file_pasts.specs.PutPages.{first_if_taken, requests_replied}
use Rattle.file_pasts.specs.GetLaws.{replies_in}
use Rattle.file_pasts.proofs.PutPageLaws.{requests_answered}

abbrev one_if : Option ReplyFault → ℕ
one_if None = 0
one_if (Some fault) = 1

-- each reply that was taken is one that came, and one that was refused is another
taken-few : (past : List ClientEvent) → length (requests_replied past) + one_if (answers past).fault ≤ length (replies_in past)
taken-few [] = omega arith
taken-few (Group b ∷ past) = taken-few past
taken-few (End ∷ past) = taken-few past
taken-few (Sent r ∷ past) = taken-few past
taken-few (Replied m ∷ past) = by_fault (reply_fault (answers past) m) (answers past) (taken-few past) where
  more : length (replies_in past ++ m ∷ []) ≡ length (replies_in past) + 1
  more = length-append (replies_in past) (m ∷ [])

  first-few : (rs : List Request) → length (first_if_taken None rs) ≤ 1
  first-few [] = omega arith
  first-few (r ∷ rs) = (let z : length (r ∷ []) ≤ 1 = omega arith in z)

  by_fault : (o : Option ReplyFault) (a : Answers) → length (requests_replied past) + one_if a.fault ≤ length (replies_in past)
      → length (requests_replied past ++ first_if_taken o a.unanswered) + one_if (replied o a).fault ≤ length (replies_in past ++ m ∷ [])
  by_fault (Some f) a h = (let long = length-append (requests_replied past) [] in omega (arith, h, long, more))
  by_fault None a h = (let long = length-append (requests_replied past) (first_if_taken None a.unanswered) in let few = first-few a.unanswered in omega (arith, h, long, few, more))
taken-few (Gave w ∷ past) = taken-few past
taken-few (Completed c ∷ past) = taken-few past
taken-few (Received b ∷ past) = taken-few past

all-taken : (past : List ClientEvent) → are_answered past ≡ true → length (requests_sent past) ≡ length (requests_replied past)
all-taken past e =
    let none : length (answers past).unanswered ≡ 0 = grind (arith, nat_tests) in
    let all : length (requests_sent past) ≡ length (requests_replied past) + length (answers past).unanswered =
    ap (λ (rs : List Request). length rs) (requests_answered past) ∙ length-append (requests_replied past) (answers past).unanswered in
    omega (arith, none, all)

-- as many replies came
pub all-heard : (past : List ClientEvent) → are_answered past ≡ true → length (requests_sent past) ≤ length (replies_in past)
all-heard past e = (let all = all-taken past e in let few = taken-few past in omega (arith, all, few))

-- where no more came, none was refused
pub none-faulty : (past : List ClientEvent) → are_answered past ≡ true → length (replies_in past) ≤ length (requests_sent past) → (answers past).fault ≡ None
none-faulty past e h = by_fault (answers past).fault refl where
  by_fault : (o : Option ReplyFault) → (answers past).fault ≡ o → (answers past).fault ≡ None
  by_fault None k = k
  by_fault (Some f) k =
      let all = all-taken past e in
      let few = taken-few past in
      let one : one_if (answers past).fault ≡ 1 = ap (λ (o : Option ReplyFault). one_if o) k in
      absurd (omega (arith, all, few, one, h))
