-- The requests of a put, and their replies.
use Rattle.std.proofs.Common.{◌≡◌, inl, inr, ℕ, zero, suc, ◌+◌, ◌<◌, ◌≤◌, ◌==◌, nat_lt, not, ◌&&◌, Bool, true, false, cond, Option, Some, None, List, [], ◌∷◌, ◌++◌, length, take, refl, sym, ap, ◌∙◌, subst, add-one, length-append, arith}
use Rattle.std.specs.Prelude.{slice_get, option_map}
use Rattle.std.proofs.lemmas.Bool.Decides.{nat_tests}
use Rattle.std.proofs.lemmas.List.{take-append-le}
use Rattle.buffer_descriptor.specs.declared.descriptor.Descriptor.{Descriptor}
use Rattle.file_messages.specs.declared.kind.Channel.{Channel}
use Rattle.file_messages.specs.declared.kind.Channel.TheVariants as channels
use Rattle.file_messages.specs.declared.message.Request.{Request}
use Rattle.file_transfer.specs.declared.put_requests.PutRequests.{PutRequests}
use Rattle.file_transfer.specs.declared.client_requests.Unanswered.{Unanswered}
use Rattle.file_messages.specs.Runs.{inline_write, registered_write, end_request, page_of, pages_of}
use Rattle.file_pasts.specs.ClientPast.{ClientEvent, Group, Sent, groups_in, requests_sent, total, has_failed, are_answered}
use Rattle.file_pasts.specs.PutDue.{Setup, Follows, next_request, write_due, is_finished, bytes_before, descriptors_for}
use Rattle.file_transfer.specs.ClientStands.{Awaited, AskedStand, awaited_in, awaited_by, past_after_sending}
use Rattle.file_transfer.specs.PutStands.{RequestsStand, AllSent, is_over}
use Rattle.file_pasts.proofs.GroupLemmas.{past_end, are_whole-append, take_whole}
use Rattle.file_pasts.proofs.PutLaw.{SentCase, sent_case, wants_parts}
use Rattle.file_pasts.proofs.Naming.{in_turn, place_within}

-- ---- a group is handed in

pub stand-group : (s : Setup) (past : List ClientEvent) (m n : PutRequests) (bytes : List ℕ) → RequestsStand s past m → Follows s (Group bytes) past
    → n.whole ≡ (m.whole && length bytes == 65536)
    → n.asked ≡ m.asked → n.offset ≡ m.offset → n.ended ≡ m.ended → n.end_sent ≡ m.end_sent → RequestsStand s (Group bytes ∷ past) n
stand-group s past m n bytes c f whole asked offset ended end_sent =
    let within : length (requests_sent past) ≤ length (groups_in past) = (in_turn s past c.lawful).1 (wants_parts s past f.0).0 in
    record {
      lawful = (f, c.lawful);
      asked = subst (AskedStand (Group bytes ∷ past)) (sym asked) (let a = c.asked in record { unanswered = a.unanswered; sent = a.sent; fault = a.fault });
      offset = offset ∙ c.offset ∙ ap total (sym (take-append-le (length (requests_sent past)) (groups_in past) (bytes ∷ []) within));
      ended = ended ∙ c.ended;
      whole = whole ∙ ap (λ (t : Bool). t && length bytes == 65536) c.whole ∙ sym (are_whole-append (groups_in past) bytes);
      end_sent = end_sent ∙ c.end_sent ∙ not_sent (length (groups_in past)) (length (groups_in past ++ bytes ∷ [])) (length (requests_sent past)) within (length-append (groups_in past) (bytes ∷ []));
    } where
      not_sent : (a b n : ℕ) → n ≤ a → b ≡ a + 1 → nat_lt a n ≡ nat_lt b n
      not_sent a b n h e =
          let one : nat_lt a n ≡ false = grind (arith, nat_tests) in
          let two : nat_lt b n ≡ false = grind (arith, nat_tests) in
          one ∙ sym two

-- ---- a request is given

-- a WRITE says how long its group is
pub IsWriteOf : List ℕ → Request → Type 0
IsWriteOf group r = (r.op ≡ 1) × (r.length ≡ length group)

pub write-is : (s : Setup) (k : ℕ) (group : List ℕ) (past : List ClientEvent) (r : Request) → write_due s k group past ≡ Some r → IsWriteOf group r
unfolding IsWriteOf
write-is s k group past r e = by_channel s.channel refl e where
  same : (q : Request) → IsWriteOf group q → Some q ≡ Some r → IsWriteOf group r
  same q h f = let g : q ≡ r = cc in subst (IsWriteOf group) g h

  by_pages : (o : Option (List Descriptor)) → option_map (registered_write k (bytes_before k past) group) o ≡ Some r → IsWriteOf group r
  by_pages None f = absurd (let b : ⊥ = cc in b)
  by_pages (Some ds) f = same (registered_write k (bytes_before k past) group ds) (refl, refl) f

  by_channel : (c : Channel) → s.channel ≡ c → (elim c [
    | channels.None ↦ Some (inline_write k (bytes_before k past) group)
    | channels.V1 ↦ option_map (registered_write k (bytes_before k past) group) (descriptors_for (page_of s.windows k 0) (pages_of group) past)
  ]) ≡ Some r → IsWriteOf group r
  by_channel channels.None c f = same (inline_write k (bytes_before k past) group) (refl, refl) f
  by_channel channels.V1 c f = by_pages (descriptors_for (page_of s.windows k 0) (pages_of group) past) f

-- the numbers after a request
pub record IsCounted (past : List ClientEvent) (r : Request) : Type 0 where
  pub offset : total (take (length (requests_sent past ++ r ∷ [])) (groups_in past)) ≡ total (take (length (requests_sent past)) (groups_in past)) + r.length
  pub end_sent : nat_lt (length (groups_in past)) (length (requests_sent past ++ r ∷ [])) ≡ (r.op == 3)

next_sum : (n : ℕ) (xs : List (List ℕ)) (x : List ℕ) → slice_get xs n ≡ Some x → total (take (suc n) xs) ≡ total (take n xs) + length x
next_sum n [] x e = absurd (let b : ⊥ = cc in b)
next_sum zero (y ∷ ys) x e = let same : y ≡ x = cc in omega (arith, ap length same)
next_sum (suc n) (y ∷ ys) x e = omega (arith, next_sum n ys x e)

pub counted : (s : Setup) (past : List ClientEvent) (r : Request) → next_request s past ≡ Some r → IsCounted past r
unfolding SentCase IsWriteOf
counted s past r e = by_case (sent_case s past r e) where
  more : length (requests_sent past ++ r ∷ []) ≡ suc (length (requests_sent past))
  more = length-append (requests_sent past) (r ∷ []) ∙ add-one (length (requests_sent past))

  test_of : (a b op : ℕ) → (t : Bool) → nat_lt a b ≡ t → (op == 3) ≡ t → nat_lt a b ≡ (op == 3)
  test_of a b op t p q = p ∙ sym q

  by_case : SentCase s past r → IsCounted past r
  by_case (inl x) =
      let w = write-is s (length (requests_sent past) + 1) x.0 past r x.2 in
      let within : length (requests_sent past) < length (groups_in past) = place_within (groups_in past) (length (requests_sent past)) x.0 x.1 in
      record {
        offset = ap (λ (k : ℕ). total (take k (groups_in past))) more ∙ next_sum (length (requests_sent past)) (groups_in past) x.0 x.1
            ∙ ap (λ (k : ℕ). total (take (length (requests_sent past)) (groups_in past)) + k) (sym w.1);
        end_sent = test_of (length (groups_in past)) (length (requests_sent past ++ r ∷ [])) r.op false
            (not_beyond (length (groups_in past)) (length (requests_sent past ++ r ∷ [])) (omega (arith, within, more))) (ap (λ (k : ℕ). k == 3) w.0);
      }
    where
      not_beyond : (a b : ℕ) → b ≤ a → nat_lt a b ≡ false
      not_beyond a b h = grind (arith, nat_tests)
  by_case (inr x) =
      let op_is : r.op ≡ 3 = ap (λ (q : Request). q.op) x.2 in
      let none : r.length ≡ 0 = ap (λ (q : Request). q.length) x.2 in
      let same : take (length (requests_sent past ++ r ∷ [])) (groups_in past) ≡ take (length (requests_sent past)) (groups_in past) =
      take_whole (length (requests_sent past ++ r ∷ [])) (groups_in past) (omega (arith, more, x.1)) ∙ sym (take_whole (length (requests_sent past)) (groups_in past) (omega (arith, x.1))) in
      record {
        offset = omega (arith, ap total same, none);
        end_sent = test_of (length (groups_in past)) (length (requests_sent past ++ r ∷ [])) r.op true
            (beyond (length (groups_in past)) (length (requests_sent past ++ r ∷ [])) (omega (arith, more, x.1))) (ap (λ (k : ℕ). k == 3) op_is);
      }
    where
      beyond : (a b : ℕ) → a < b → nat_lt a b ≡ true
      beyond a b h = grind (arith, nat_tests)

pub stand-sent : (s : Setup) (past : List ClientEvent) (m n : PutRequests) (r : Request) (q : Unanswered) → RequestsStand s past m → next_request s past ≡ Some r
    → awaited_in q ≡ awaited_by r → AskedStand (Sent r ∷ past) n.asked → n.offset ≡ m.offset + q.asked.length → n.end_sent ≡ (q.asked.op == 3)
    → n.ended ≡ m.ended → n.whole ≡ m.whole → RequestsStand s (Sent r ∷ past) n
stand-sent s past m n r q c due is asked offset end_sent ended whole =
    let k = counted s past r due in
    record {
      lawful = (due, c.lawful);
      asked = asked;
      offset = offset ∙ ap (λ (x : ℕ). x + q.asked.length) c.offset
          ∙ ap (λ (x : Awaited). total (take (length (requests_sent past)) (groups_in past)) + x.asked.length) is ∙ sym k.offset;
      ended = ended ∙ c.ended;
      whole = whole ∙ c.whole;
      end_sent = end_sent ∙ ap (λ (x : Awaited). x.asked.op == 3) is ∙ sym k.end_sent;
    }

-- END was given, where it was due
pub stand-ended : (s : Setup) (past : List ClientEvent) (m n : PutRequests) → RequestsStand s past m → next_request s past ≡ Some (end_request (m.asked.sent + 1) m.offset)
    → AskedStand (Sent (end_request (m.asked.sent + 1) m.offset) ∷ past) n.asked → n.offset ≡ m.offset → n.end_sent ≡ true
    → n.ended ≡ m.ended → n.whole ≡ m.whole → RequestsStand s (Sent (end_request (m.asked.sent + 1) m.offset) ∷ past) n
stand-ended s past m n c due asked offset end_sent ended whole =
    let r : Request = end_request (m.asked.sent + 1) m.offset in
    let k = counted s past r due in
    record {
      lawful = (due, c.lawful);
      asked = asked;
      offset = omega (arith, offset, c.offset, k.offset);
      ended = ended ∙ c.ended;
      whole = whole ∙ c.whole;
      end_sent = end_sent ∙ sym k.end_sent;
    }

-- ---- END

-- whether END is due, where each group was sent and no reply was refused
pub end-due : (s : Setup) (past : List ClientEvent) (m : PutRequests) → RequestsStand s past m → AllSent past → has_failed past ≡ false
    → next_request s past ≡ cond (is_over past) (Some (end_request (m.asked.sent + 1) m.offset)) None
end-due s past m c a h =
    let going : has_failed past ≡ false = h in
    let none : slice_get (groups_in past) (length (requests_sent past)) ≡ None = past_end (length (requests_sent past)) (groups_in past) a.all in
    let bytes : total (groups_in past) ≡ m.offset = sym (c.offset ∙ ap total (take_whole (length (requests_sent past)) (groups_in past) a.all)) in
    let same : (length (requests_sent past) == length (groups_in past)) ≡ not (nat_lt (length (groups_in past)) (length (requests_sent past))) =
    equal_is (length (requests_sent past)) (length (groups_in past)) a.all (in_turn s past c.lawful).0 in
    rw (going, none, same, bytes, c.asked.sent) refl
  where
    equal_is : (n g : ℕ) → g ≤ n → n ≤ g + 1 → (n == g) ≡ not (nat_lt g n)
    equal_is n g lo hi = by_test (nat_lt g n) refl where
      by_test : (t : Bool) → nat_lt g n ≡ t → (n == g) ≡ not t
      by_test true e = let h : g < n = grind (arith, nat_tests) in let apart : (n == g) ≡ false = grind (arith, nat_tests) in apart
      by_test false e = let h : n ≤ g = grind (arith, nat_tests) in let same : (n == g) ≡ true = grind (arith, nat_tests) in same

pub failed-none : (s : Setup) (past : List ClientEvent) (m : PutRequests) → RequestsStand s past m → has_failed past ≡ true → next_request s past ≡ None
failed-none s past m c h = rw h refl

pub stand-none : (s : Setup) (past : List ClientEvent) (m : PutRequests) → RequestsStand s past m → next_request s past ≡ None → RequestsStand s (past_after_sending (next_request s past) past) m
stand-none s past m c e = subst (λ (r : Option Request). RequestsStand s (past_after_sending r past) m) (sym e) c

-- END is due, or nothing
pub end-none : (s : Setup) (past : List ClientEvent) (m : PutRequests) → RequestsStand s past m → AllSent past → is_over past ≡ false → next_request s past ≡ None
end-none s past m c a e = by_fault (has_failed past) refl where
  by_fault : (t : Bool) → has_failed past ≡ t → next_request s past ≡ None
  by_fault true h = failed-none s past m c h
  by_fault false h = end-due s past m c a h ∙ ap (λ (t : Bool). cond t (Some (end_request (m.asked.sent + 1) m.offset)) None) e

pub end-some : (s : Setup) (past : List ClientEvent) (m : PutRequests) → RequestsStand s past m → AllSent past → has_failed past ≡ false → is_over past ≡ true
    → next_request s past ≡ Some (end_request (m.asked.sent + 1) m.offset)
end-some s past m c a h e = end-due s past m c a h ∙ ap (λ (t : Bool). cond t (Some (end_request (m.asked.sent + 1) m.offset)) None) e

pub finished-is : (s : Setup) (past : List ClientEvent) (m : PutRequests) → RequestsStand s past m → (m.end_sent && are_answered past) ≡ is_finished past
finished-is s past m c =
    let sent : m.end_sent ≡ (length (requests_sent past) == length (groups_in past) + 1) = c.end_sent ∙ last (length (groups_in past)) (length (requests_sent past)) (in_turn s past c.lawful).0 in
    rw sent refl
  where
    last : (g n : ℕ) → n ≤ g + 1 → nat_lt g n ≡ (n == g + 1)
    last g n h = by_test (nat_lt g n) refl where
      by_test : (t : Bool) → nat_lt g n ≡ t → t ≡ (n == g + 1)
      by_test true e = let k : g < n = grind (arith, nat_tests) in let same : (n == g + 1) ≡ true = grind (arith, nat_tests) in sym same
      by_test false e = let k : n ≤ g = grind (arith, nat_tests) in let apart : (n == g + 1) ≡ false = grind (arith, nat_tests) in sym apart

-- ---- what comes next

-- where each group was sent the next request is END
pub end-only : (s : Setup) (past : List ClientEvent) (r : Request) → AllSent past → next_request s past ≡ Some r
    → r ≡ end_request (length (requests_sent past) + 1) (total (groups_in past))
unfolding SentCase
end-only s past r a e = by_case (sent_case s past r e) where
  by_case : SentCase s past r → r ≡ end_request (length (requests_sent past) + 1) (total (groups_in past))
  by_case (inl x) = absurd (let h : length (requests_sent past) < length (groups_in past) = place_within (groups_in past) (length (requests_sent past)) x.0 x.1 in let b = a.all in omega arith)
  by_case (inr x) = x.2
