-- A get asks for the READs of its bytes, in order, and END after them.
use Rattle.std.proofs.Common.{◌≡◌, ◌⊎◌, inl, inr, ℕ, zero, suc, ◌+◌, ◌-◌, ◌*◌, ◌/◌, ◌^◌, ◌<◌, ◌≤◌, ◌==◌, nat_lt, nat_le, not, ◌&&◌, ◌||◌, Bool, true, false, cond, is_some, Option, Some, None, option_map, Result, Ok, Err, List, [], ◌∷◌, ◌++◌, length, take, drop, map, refl, sym, ap, ◌∙◌, subst, add-one, length-append, lit<, arith}
use Rattle.std.specs.Prelude.{slice_get}
use Rattle.std.proofs.lemmas.Bool.Decides.{nat_tests}
use Rattle.std.proofs.lemmas.List.{length-drop, drop-append-le}
use Rattle.smbd_base.specs.Fields.{u32_at}
use Rattle.buffer_descriptor.specs.declared.descriptor.Descriptor.{Descriptor}
use Rattle.file_messages.specs.declared.kind.Channel.{Channel}
use Rattle.file_messages.specs.declared.kind.Channel.TheVariants as channels
use Rattle.file_messages.specs.declared.fault.FileFault.{FileFault}
use Rattle.file_messages.specs.declared.fault.ReplyFault.{ReplyFault}
use Rattle.file_messages.specs.declared.message.Request.{Request}
use Rattle.file_messages.specs.declared.message.Reply.{Reply}
use Rattle.file_messages.specs.Messages.{asked_by, reply_bytes, reply_fields, fault_in_reply, value_or_fault}
use Rattle.file_messages.specs.Runs.{end_request, read_of, reads_from, reads_count, get_requests, read_descriptors, reply_to, replies_to}
use Rattle.file_messages.specs.Written.{IsCopyable, Replies}
use Rattle.file_messages.proofs.WrittenMessages.{replies_read}
use Rattle.file_pasts.specs.ClientPast.{ClientEvent, Group, End, Sent, Replied, Gave, Completed, Received, requests_sent, Answers, fault_of_reply, lasting_or, reply_fault, replied, answers, has_failed, are_answered}
use Rattle.file_pasts.specs.GetDue.{counts_taken, sum_of, sent, last_count, goes_on, has_ended, is_between_rounds, descriptors_loaded, read_request, read_due, next_request, IsGet}
use Rattle.file_pasts.specs.PutTokens.{HasPoolTokens}
use Rattle.file_pasts.specs.ServerDue.{counted, has_ended as has_ended_among}
use Rattle.file_pasts.specs.GetLaws.{replies_in, IsAnswered, GetsAsk, RegisteredGetsAsk}
use Rattle.file_pasts.proofs.Lists.{within, take_one_more, front_of, prefix_before, last_mapped, got_of_map, left_at, length_front, front_whole}
use Rattle.file_pasts.proofs.GetTokens.{read_named}

-- ---- the replies of a get are read

length-took : (n : ℕ) (xs : List ℕ) → length (take n xs) ≤ n
length-took zero xs = omega arith
length-took (suc n) [] = omega arith
length-took (suc n) (x ∷ xs) = omega (arith, length-took n xs)

-- how many bytes the k-th READ gets
got : List ℕ → ℕ → ℕ
got bytes k = length (take 65536 (drop (65536 * (k - 1)) bytes))

at_most : (x n : ℕ) → x ≤ n → nat_le x n ≡ true
at_most x n h = grind (arith, nat_tests)

same_number : (x : ℕ) → (x == x) ≡ true
same_number x = grind (arith, nat_tests)

read_answered : (channel : Channel) (bytes : List ℕ) (k : ℕ) → k < 2 ^ 32 → Replies (asked_by (read_of channel k)) (reply_to bytes (read_of channel k))
read_answered channels.None bytes k small = record {
  asked_op = lit< tt;
  op = refl;
  status = lit< tt;
  id = refl;
  id_fits = small;
  count_fits = (let x = length-took 65536 (drop (65536 * (k - 1)) bytes) in omega (arith, x));
  count =
      both (nat_le (length (take 65536 (drop (65536 * (k - 1)) bytes))) 65536) (length (take 65536 (drop (65536 * (k - 1)) bytes)) == length (take 65536 (drop (65536 * (k - 1)) bytes)))
      (at_most (length (take 65536 (drop (65536 * (k - 1)) bytes))) 65536 (length-took 65536 (drop (65536 * (k - 1)) bytes)))
      (same_number (length (take 65536 (drop (65536 * (k - 1)) bytes))));
  inline = λ e. absurd (let b : ⊥ = cc in b);
} where
  both : (x y : Bool) → x ≡ true → y ≡ true → (x && y) ≡ true
  both x y p q = rw (p, q) refl
read_answered channels.V1 bytes k small = record {
  asked_op = lit< tt;
  op = refl;
  status = lit< tt;
  id = refl;
  id_fits = small;
  count_fits = (let x = length-took 65536 (drop (65536 * (k - 1)) bytes) in omega (arith, x));
  count =
      first (nat_le (length (take 65536 (drop (65536 * (k - 1)) bytes))) 65536)
      (at_most (length (take 65536 (drop (65536 * (k - 1)) bytes))) 65536 (length-took 65536 (drop (65536 * (k - 1)) bytes)));
  inline = λ e. refl;
} where
  first : (x : Bool) → x ≡ true → (x && true) ≡ true
  first x p = rw p refl

end_answered : (bytes : List ℕ) (k offset : ℕ) → k < 2 ^ 32 → Replies (asked_by (end_request k offset)) (reply_to bytes (end_request k offset))
end_answered bytes k offset small = record {
  asked_op = lit< tt;
  op = refl;
  status = lit< tt;
  id = refl;
  id_fits = small;
  count_fits = lit< tt;
  count = refl;
  inline = λ e. refl;
}

-- ---- what stands where in the run

length-reads : (channel : Channel) (m k : ℕ) → length (reads_from channel m k) ≡ m
length-reads channel zero k = refl
length-reads channel (suc m) k = omega (arith, length-reads channel m (k + 1))

read-at : (channel : Channel) (m k n : ℕ) (tail : List Request) → n < m → slice_get (reads_from channel m k ++ tail) n ≡ Some (read_of channel (k + n))
read-at channel zero k n tail h = absurd (omega arith)
read-at channel (suc m) k zero tail h = ap (λ (x : ℕ). Some (read_of channel x)) (let z : k ≡ k + 0 = omega arith in z)
read-at channel (suc m) k (suc n) tail h = read-at channel m (k + 1) n tail (omega arith) ∙ ap (λ (x : ℕ). Some (read_of channel x)) (let z : k + 1 + n ≡ k + suc n = omega arith in z)

end-at : (channel : Channel) (m k : ℕ) (e : Request) → slice_get (reads_from channel m k ++ e ∷ []) m ≡ Some e
end-at channel zero k e = refl
end-at channel (suc m) k e = end-at channel m (k + 1) e

length-get : (channel : Channel) (bytes : List ℕ) → length (get_requests channel bytes) ≡ reads_count bytes + 1
length-get channel bytes =
    length-append (reads_from channel (reads_count bytes) 1) (end_request (reads_count bytes + 1) (length bytes) ∷ []) ∙ ap (λ (x : ℕ). x + 1) (length-reads channel (reads_count bytes) 1)

-- a request of a get is a READ, or END
unfoldable pub RunCase : Channel → List ℕ → ℕ → Request → Type 0
RunCase channel bytes n r = ((n < reads_count bytes) × (r ≡ read_of channel (n + 1))) ⊎ ((n ≡ reads_count bytes) × (r ≡ end_request (reads_count bytes + 1) (length bytes)))

pub run_case : (channel : Channel) (bytes : List ℕ) (n : ℕ) (r : Request) → slice_get (get_requests channel bytes) n ≡ Some r → RunCase channel bytes n r
unfolding RunCase
run_case channel bytes n r e = by_place (nat_lt n (reads_count bytes)) refl where
  same : (x y : Request) → Some x ≡ Some y → y ≡ x
  same x y h = cc

  by_place : (t : Bool) → nat_lt n (reads_count bytes) ≡ t → ((n < reads_count bytes) × (r ≡ read_of channel (n + 1))) ⊎ ((n ≡ reads_count bytes) × (r ≡ end_request (reads_count bytes + 1) (length bytes)))
  by_place true t =
      let less : n < reads_count bytes = grind (arith, nat_tests) in
      inl (less, same (read_of channel (1 + n)) r (sym (read-at channel (reads_count bytes) 1 n (end_request (reads_count bytes + 1) (length bytes) ∷ []) less) ∙ e) ∙ ap (read_of channel) (let z : 1 + n ≡ n + 1 = omega arith in z))
  by_place false t =
      let more : reads_count bytes ≤ n = grind (arith, nat_tests) in
      let few : n < length (get_requests channel bytes) = within (get_requests channel bytes) n r e in
      let at : n ≡ reads_count bytes = omega (arith, few, length-get channel bytes) in
      inr (at, same (end_request (reads_count bytes + 1) (length bytes)) r (sym (end-at channel (reads_count bytes) 1 (end_request (reads_count bytes + 1) (length bytes))) ∙ ap (slice_get (get_requests channel bytes)) (sym at) ∙ e))

case_answered : (channel : Channel) (bytes : List ℕ) (n : ℕ) (r : Request) → IsCopyable bytes → RunCase channel bytes n r → Replies (asked_by r) (reply_to bytes r)
unfolding RunCase
case_answered channel bytes n r few (inl x) = subst (λ (q : Request). Replies (asked_by q) (reply_to bytes q)) (sym x.1) (read_answered channel bytes (n + 1) (let a = x.0 in omega (arith, a)))
case_answered channel bytes n r few (inr x) = subst (λ (q : Request). Replies (asked_by q) (reply_to bytes q)) (sym x.1) (end_answered bytes (reads_count bytes + 1) (length bytes) (omega arith))

-- ---- counts

-- the counts of the first n READs
counts_to : List ℕ → ℕ → ℕ → List ℕ
counts_to bytes k zero = []
counts_to bytes k (suc n) = got bytes k ∷ counts_to bytes (k + 1) n

counts-more : (bytes : List ℕ) (k n : ℕ) → counts_to bytes k n ++ got bytes (k + n) ∷ [] ≡ counts_to bytes k (suc n)
unfolding counts_to
counts-more bytes k zero = ap (λ (x : ℕ). got bytes x ∷ []) (let z : k + 0 ≡ k = omega arith in z)
counts-more bytes k (suc n) = ap (λ (t : List ℕ). got bytes k ∷ t) (ap (λ (x : ℕ). counts_to bytes (k + 1) n ++ got bytes x ∷ []) (let z : k + suc n ≡ k + 1 + n = omega arith in z) ∙ counts-more bytes (k + 1) n)

length-take-of : (n : ℕ) (xs : List ℕ) → (n ≤ length xs → length (take n xs) ≡ n) × (length xs ≤ n → length (take n xs) ≡ length xs)
length-take-of zero xs = ((λ h. refl), (λ h. omega (arith, h)))
length-take-of (suc n) [] = ((λ h. omega (arith, h)), (λ h. refl))
length-take-of (suc n) (x ∷ xs) =
    let ih = length-take-of n xs in
    ((λ (h : suc n ≤ suc (length xs)). ap suc (ih.0 (omega (arith, h)))), (λ (h : suc (length xs) ≤ suc n). ap suc (ih.1 (omega (arith, h)))))

got-whole : (bytes : List ℕ) (k : ℕ) → 65536 * (k - 1) + 65536 ≤ length bytes → got bytes k ≡ 65536
unfolding got
got-whole bytes k h = (length-take-of 65536 (drop (65536 * (k - 1)) bytes)).0 (omega (arith, length-drop (65536 * (k - 1)) bytes))

got-rest : (bytes : List ℕ) (k : ℕ) → length bytes ≤ 65536 * (k - 1) + 65536 → got bytes k ≡ length bytes - 65536 * (k - 1)
unfolding got
got-rest bytes k h = (length-take-of 65536 (drop (65536 * (k - 1)) bytes)).1 (omega (arith, length-drop (65536 * (k - 1)) bytes)) ∙ length-drop (65536 * (k - 1)) bytes

sum-append : (xs : List ℕ) (x : ℕ) → sum_of (xs ++ x ∷ []) ≡ sum_of xs + x
sum-append [] x = omega arith
sum-append (y ∷ ys) x = omega (arith, sum-append ys x)

last-append : (xs : List ℕ) (x : ℕ) → last_count (xs ++ x ∷ []) ≡ x
last-append [] x = refl
last-append (y ∷ []) x = refl
last-append (y ∷ (z ∷ zs)) x = last-append (z ∷ zs) x

-- so far each READ got its whole length
whole-so-far : (bytes : List ℕ) (n : ℕ) → n ≤ length bytes / 65536 → (sum_of (counts_to bytes 1 n) ≡ 65536 * n) × (last_count (counts_to bytes 1 n) ≡ 65536)
unfolding counts_to
whole-so-far bytes zero h = (refl, refl)
whole-so-far bytes (suc n) h =
    let w : got bytes (1 + n) ≡ 65536 = got-whole bytes (1 + n) (let z : 1 + n - 1 ≡ n = omega arith in omega (arith, z)) in
    let ih = whole-so-far bytes n (omega arith) in (
      ap sum_of (sym (counts-more bytes 1 n)) ∙ sum-append (counts_to bytes 1 n) (got bytes (1 + n)) ∙ (let z : sum_of (counts_to bytes 1 n) + got bytes (1 + n) ≡ 65536 * suc n = omega (arith, w, ih.0) in z),
      ap last_count (sym (counts-more bytes 1 n)) ∙ last-append (counts_to bytes 1 n) (got bytes (1 + n)) ∙ w,
    )

-- the last READ gets what is left
all-counted : (bytes : List ℕ) → (sum_of (counts_to bytes 1 (reads_count bytes)) ≡ length bytes) × (last_count (counts_to bytes 1 (reads_count bytes)) < 65536)
all-counted bytes =
    let f : ℕ = length bytes / 65536 in
    let suc_is : reads_count bytes ≡ suc f = add-one f in
    let back : 1 + f - 1 ≡ f = omega arith in
    let rest : got bytes (1 + f) ≡ length bytes - 65536 * (1 + f - 1) = got-rest bytes (1 + f) (omega (arith, back)) in
    let so_far = whole-so-far bytes f (omega arith) in
    let split : counts_to bytes 1 (reads_count bytes) ≡ counts_to bytes 1 f ++ got bytes (1 + f) ∷ [] = ap (counts_to bytes 1) suc_is ∙ sym (counts-more bytes 1 f) in
    let sum : sum_of (counts_to bytes 1 (reads_count bytes)) ≡ sum_of (counts_to bytes 1 f) + got bytes (1 + f) = ap sum_of split ∙ sum-append (counts_to bytes 1 f) (got bytes (1 + f)) in
    let last : last_count (counts_to bytes 1 (reads_count bytes)) ≡ got bytes (1 + f) = ap last_count split ∙ last-append (counts_to bytes 1 f) (got bytes (1 + f)) in
    (omega (arith, sum, so_far.0, rest, back), omega (arith, last, rest, back))

-- ---- by induction on the past

record Fine (bytes : List ℕ) (past : List ClientEvent) : Type 0 where
  few : length (replies_in past) ≤ length (requests_sent past)
  waiting : (answers past).unanswered ≡ drop (length (replies_in past)) (requests_sent past)
  counts : length (replies_in past) ≤ reads_count bytes → counts_taken past ≡ counts_to bytes 1 (length (replies_in past))

record Got (channel : Channel) (bytes : List ℕ) (past : List ClientEvent) : Type 0 where
  front : requests_sent past ≡ take (length (requests_sent past)) (get_requests channel bytes)
  fine : (answers past).fault ≡ None → Fine bytes past

-- that a request is due says that the one before was answered, that END was not sent, and which it is
record Due (channel : Channel) (past : List ClientEvent) (r : Request) : Type 0 where
  fine : (answers past).fault ≡ None
  unended : has_ended (requests_sent past) ≡ false
  answered : length (answers past).unanswered ≡ 0
  which : cond (goes_on past) (read_due channel past) (Some (end_request (sent past + 1) (sum_of (counts_taken past)))) ≡ Some r

due_is : (channel : Channel) (past : List ClientEvent) (r : Request) → next_request channel past ≡ Some r → Due channel past r
due_is channel past r e =
    by_tests (has_failed past) (has_ended (requests_sent past)) (is_between_rounds channel past) refl refl refl e where
      no_fault : (o : Option ReplyFault) → is_some o ≡ false → o ≡ None
      no_fault None h = refl
      no_fault (Some f) h = absurd (let b : ⊥ = cc in b)

      first_of : (x y : Bool) → (x && y) ≡ true → x ≡ true
      first_of true y h = refl
      first_of false y h = absurd (let b : ⊥ = cc in b)

      all_answered : (c : Channel) → is_between_rounds c past ≡ true → are_answered past ≡ true
      all_answered channels.None h = h
      all_answered channels.V1 h = first_of (are_answered past) _ h

      by_tests : (a b c : Bool) → has_failed past ≡ a → has_ended (requests_sent past) ≡ b → is_between_rounds channel past ≡ c
          → cond (a || b) None (cond (not c) None (cond (goes_on past) (read_due channel past) (Some (end_request (sent past + 1) (sum_of (counts_taken past)))))) ≡ Some r → Due channel past r
      by_tests true b c p q s h = absurd (let x : ⊥ = cc in x)
      by_tests false true c p q s h = absurd (let x : ⊥ = cc in x)
      by_tests false false false p q s h = absurd (let x : ⊥ = cc in x)
      by_tests false false true p q s h = record {
        fine = no_fault (answers past).fault p;
        unended = q;
        answered = (let x : (length (answers past).unanswered == 0) ≡ true = all_answered channel s in grind (arith, nat_tests));
        which = h;
      }

ended-run : (channel : Channel) (m k : ℕ) (e : Request) → has_ended (reads_from channel m k ++ e ∷ []) ≡ has_ended (e ∷ [])
ended-run channel zero k e = refl
ended-run channels.None (suc m) k e = ended-run channels.None m (k + 1) e
ended-run channels.V1 (suc m) k e = ended-run channels.V1 m (k + 1) e

-- each of these is a READ of the next bytes
NamesReads : Channel → List ClientEvent → Type 0
NamesReads channels.None past = Unit {0}
NamesReads channels.V1 past = (ds : List Descriptor) → descriptors_loaded 16 0 (sent past) past ≡ Some ds → ds ≡ read_descriptors 16 0 (sent past + 1)

read_is : (channel : Channel) (past : List ClientEvent) (r : Request) → NamesReads channel past → sum_of (counts_taken past) ≡ 65536 * sent past → read_due channel past ≡ Some r
    → r ≡ read_of channel (sent past + 1)
unfolding NamesReads
read_is channels.None past r n s e =
    same (read_request 0 (sent past + 1) (sum_of (counts_taken past)) []) r e
    ∙ ap (λ (o : ℕ). read_request 0 (sent past + 1) o []) (s ∙ ap (λ (x : ℕ). 65536 * x) (let z : sent past ≡ sent past + 1 - 1 = omega arith in z))
  where
    same : (x y : Request) → Some x ≡ Some y → y ≡ x
    same x y h = cc
read_is channels.V1 past r n s e = by_descriptors (descriptors_loaded 16 0 (sent past) past) refl e where
  same : (x y : Request) → Some x ≡ Some y → y ≡ x
  same x y h = cc

  by_descriptors : (o : Option (List Descriptor)) → descriptors_loaded 16 0 (sent past) past ≡ o → option_map (read_request 1 (sent past + 1) (sum_of (counts_taken past))) o ≡ Some r
      → r ≡ read_of channels.V1 (sent past + 1)
  by_descriptors None p h = absurd (let b : ⊥ = cc in b)
  by_descriptors (Some ds) p h =
      same (read_request 1 (sent past + 1) (sum_of (counts_taken past)) ds) r h
      ∙ ap (λ (o : ℕ). read_request 1 (sent past + 1) o ds) (s ∙ ap (λ (x : ℕ). 65536 * x) (let z : sent past ≡ sent past + 1 - 1 = omega arith in z))
      ∙ ap (λ (x : List Descriptor). read_request 1 (sent past + 1) (65536 * (sent past + 1 - 1)) x) (n ds p)

-- the request that is due is the next one of the run
next_of_run : (channel : Channel) (bytes : List ℕ) (past : List ClientEvent) (r : Request) → NamesReads channel past → Got channel bytes past → Due channel past r
    → slice_get (get_requests channel bytes) (sent past) ≡ Some r
next_of_run channel bytes past r names g d =
    let f : Fine bytes past = g.fine d.fine in
    let n : ℕ = sent past in
    let run : List Request = get_requests channel bytes in
    let last : Request = end_request (reads_count bytes + 1) (length bytes) in
    let none = d.answered in let less = f.few in
    let long_wait : length (answers past).unanswered ≡ n - length (replies_in past) = ap length f.waiting ∙ length-drop (length (replies_in past)) (requests_sent past) in
    let all : length (replies_in past) ≡ n = omega (arith, none, less, long_wait) in
    let long : length run ≡ reads_count bytes + 1 = length-get channel bytes in
    let most : n ≤ reads_count bytes + 1 = (let x : length (take n run) ≤ length run = length_front n run in omega (arith, ap length g.front, x, long)) in
    let not_all : n ≡ reads_count bytes + 1 → ⊥ = (λ (h : n ≡ reads_count bytes + 1).
    ended (sym d.unended ∙ ap has_ended (g.front ∙ front_whole n run (omega (arith, h, long))) ∙ ended-run channel (reads_count bytes) 1 last)) in
    let within_reads : n ≤ reads_count bytes = omega (arith, most, not_all) in
    let counted : counts_taken past ≡ counts_to bytes 1 n = f.counts (omega (arith, all, within_reads)) ∙ ap (counts_to bytes 1) all in
    by_end (nat_lt n (reads_count bytes)) refl (goes_on past) refl counted within_reads d.which
  where
    ended : false ≡ true → ⊥
    ended h = cc

    same : (x y : Request) → Some x ≡ Some y → y ≡ x
    same x y h = cc

    by_end : (t : Bool) → nat_lt (sent past) (reads_count bytes) ≡ t → (b : Bool) → (last_count (counts_taken past) == 65536) ≡ b → counts_taken past ≡ counts_to bytes 1 (sent past) → sent past ≤ reads_count bytes
        → cond b (read_due channel past) (Some (end_request (sent past + 1) (sum_of (counts_taken past)))) ≡ Some r → slice_get (get_requests channel bytes) (sent past) ≡ Some r
    by_end true p true q c w h =
        let less : sent past < reads_count bytes = grind (arith, nat_tests) in
        let so_far = whole-so-far bytes (sent past) (omega (arith, less)) in
        read-at channel (reads_count bytes) 1 (sent past) (end_request (reads_count bytes + 1) (length bytes) ∷ []) less
        ∙ ap (λ (k : ℕ). Some (read_of channel k)) (let z : 1 + sent past ≡ sent past + 1 = omega arith in z)
        ∙ ap (λ (x : Request). Some x) (sym (read_is channel past r names (ap sum_of c ∙ so_far.0) h))
    by_end true p false q c w h =
        let less : sent past < reads_count bytes = grind (arith, nat_tests) in
        let so_far = whole-so-far bytes (sent past) (omega (arith, less)) in
        absurd (let x : last_count (counts_taken past) ≡ 65536 = ap last_count c ∙ so_far.1 in let y : (last_count (counts_taken past) == 65536) ≡ true = grind (arith, nat_tests) in two y q)
      where
        two : {b : Bool} → b ≡ true → b ≡ false → ⊥
        two x y = cc
    by_end false p true q c w h =
        let more : reads_count bytes ≤ sent past = grind (arith, nat_tests) in
        let at : sent past ≡ reads_count bytes = omega (arith, more, w) in
        let x : last_count (counts_taken past) ≡ 65536 = grind (arith, nat_tests) in
        absurd (let y = (all-counted bytes).1 in let b : ⊥ = omega (arith, y, x, ap last_count (c ∙ ap (counts_to bytes 1) at)) in b)
    by_end false p false q c w h =
        let more : reads_count bytes ≤ sent past = grind (arith, nat_tests) in
        let at : sent past ≡ reads_count bytes = omega (arith, more, w) in
        ap (slice_get (get_requests channel bytes)) at ∙ end-at channel (reads_count bytes) 1 (end_request (reads_count bytes + 1) (length bytes))
        ∙ ap (λ (x : Request). Some x) (sym (same (end_request (sent past + 1) (sum_of (counts_taken past))) r h
        ∙ ap (λ (k : ℕ). end_request (k + 1) (sum_of (counts_taken past))) at
        ∙ ap (end_request (reads_count bytes + 1)) (ap sum_of (c ∙ ap (counts_to bytes 1) at) ∙ (all-counted bytes).0)))

-- what the reply to a READ of the run counts
told : (channel : Channel) (bytes : List ℕ) (j : ℕ) (q : Request) → IsCopyable bytes → j < reads_count bytes → RunCase channel bytes j q → u32_at 8 (reply_bytes (reply_to bytes q)) ≡ got bytes (1 + j)
unfolding RunCase got
told channel bytes j q few less (inr x) = absurd (let a = x.0 in let b : ⊥ = omega (arith, a) in b)
told channel bytes j q few less (inl x) =
    read_count (fault_in_reply (asked_by q) (reply_bytes (reply_to bytes q))) (replies_read (asked_by q) (reply_to bytes q) (case_answered channel bytes j q few (inl x)))
    ∙ ap (λ (r : Request). (reply_to bytes r).count) x.1 ∙ by_channel channel
  where
    read_count : (o : Option FileFault) → value_or_fault o (reply_fields (asked_by q) (reply_bytes (reply_to bytes q))) ≡ Ok (reply_to bytes q) → u32_at 8 (reply_bytes (reply_to bytes q)) ≡ (reply_to bytes q).count
    read_count None e = ap (λ (r : Result Reply FileFault). elim r [ Ok y ↦ y.count | Err f ↦ 0 ]) e
    read_count (Some f) e = absurd (let b : ⊥ = cc in b)

    by_channel : (c : Channel) → (reply_to bytes (read_of c (j + 1))).count ≡ length (take 65536 (drop (65536 * (1 + j - 1)) bytes))
    by_channel channels.None = ap (λ (k : ℕ). length (take 65536 (drop (65536 * (k - 1)) bytes))) (let z : j + 1 ≡ 1 + j = omega arith in z)
    by_channel channels.V1 = ap (λ (k : ℕ). length (take 65536 (drop (65536 * (k - 1)) bytes))) (let z : j + 1 ≡ 1 + j = omega arith in z)

pub told-length : (channel : Channel) (bytes : List ℕ) (j : ℕ) (q : Request) → IsCopyable bytes → j < reads_count bytes → RunCase channel bytes j q
    → u32_at 8 (reply_bytes (reply_to bytes q)) ≡ length (take 65536 (drop (65536 * j) bytes))
unfolding got
told-length channel bytes j q few less run =
    told channel bytes j q few less run ∙ ap (λ (k : ℕ). length (take 65536 (drop (65536 * k) bytes))) (let z : 1 + j - 1 ≡ j = omega arith in z)

got-sent : (channel : Channel) (bytes : List ℕ) (r : Request) (past : List ClientEvent) → NamesReads channel past → Got channel bytes past → next_request channel past ≡ Some r → Got channel bytes (Sent r ∷ past)
got-sent channel bytes r past names g e =
    let at : slice_get (get_requests channel bytes) (sent past) ≡ Some r = next_of_run channel bytes past r names g (due_is channel past r e) in
    let more : length (requests_sent past ++ r ∷ []) ≡ suc (sent past) = length-append (requests_sent past) (r ∷ []) ∙ add-one (sent past) in
    record {
      front = ap (λ (t : List Request). t ++ r ∷ []) g.front ∙ sym (take_one_more (sent past) (get_requests channel bytes) r at) ∙ ap (λ (k : ℕ). take k (get_requests channel bytes)) (sym more);
      fine = λ h. (let f : Fine bytes past = g.fine h in let less = f.few in record {
        few = omega (arith, less, more);
        waiting = ap (λ (t : List Request). t ++ r ∷ []) f.waiting ∙ sym (drop-append-le (length (replies_in past)) (requests_sent past) (r ∷ []) less);
        counts = f.counts;
      });
    }

got-replied : (channel : Channel) (bytes : List ℕ) (m : List ℕ) (past : List ClientEvent) (q : Request) → IsCopyable bytes → Got channel bytes past
    → slice_get (get_requests channel bytes) (length (replies_in past)) ≡ Some q → m ≡ reply_bytes (reply_to bytes q) → Got channel bytes (Replied m ∷ past)
got-replied channel bytes m past q few g at m_is = record {
  front = g.front;
  fine = λ h. by_fault (reply_fault (answers past) m) refl h;
} where
  parts : (fault found : Option ReplyFault) → lasting_or fault found ≡ None → (fault ≡ None) × (found ≡ None)
  parts None found e = (refl, e)
  parts (Some f) found e = absurd (let b : ⊥ = cc in b)

  same : (x y : Request) → Some x ≡ Some y → x ≡ y
  same x y h = cc

  by_open : (rs : List Request) → (answers past).unanswered ≡ rs → fault_of_reply rs m ≡ None → reply_fault (answers past) m ≡ None → Fine bytes past → Fine bytes (Replied m ∷ past)
  by_open [] u e h f = absurd (let b : ⊥ = cc in b)
  by_open (r ∷ later) u e h f =
      let j : ℕ = length (replies_in past) in
      let more : length (replies_in past ++ m ∷ []) ≡ suc j = length-append (replies_in past) (m ∷ []) ∙ add-one j in
      let l = left_at j (requests_sent past) r later (sym f.waiting ∙ u) in
      let less : j < length (requests_sent past) = within (requests_sent past) j r l.0 in
      let now : answers (Replied m ∷ past) ≡ record { unanswered = drop 1 (answers past).unanswered; fault = None } = ap (λ (o : Option ReplyFault). replied o (answers past)) h in
      record {
        few = omega (arith, less, more);
        waiting = ap (λ (a : Answers). a.unanswered) now ∙ ap (drop 1) u ∙ sym l.1 ∙ ap (λ (k : ℕ). drop k (requests_sent past)) (sym more);
        counts = λ c.
            (let less_reads : j < reads_count bytes = omega (arith, c, more) in
            ap (λ (o : Option ReplyFault). counts_taken past ++ (elim o [ None ↦ u32_at 8 m ∷ [] | Some fault ↦ [] ])) h
            ∙ ap (λ (t : List ℕ). t ++ u32_at 8 m ∷ []) (f.counts (omega (arith, less_reads)))
            ∙ ap (λ (x : ℕ). counts_to bytes 1 j ++ x ∷ []) (ap (u32_at 8) m_is ∙ told channel bytes j q few less_reads (run_case channel bytes j q at))
            ∙ counts-more bytes 1 j ∙ ap (counts_to bytes 1) (sym more));
      }

  by_fault : (o : Option ReplyFault) → reply_fault (answers past) m ≡ o → (answers (Replied m ∷ past)).fault ≡ None → Fine bytes (Replied m ∷ past)
  by_fault (Some f) e h = absurd (never (sym (ap (λ (o : Option ReplyFault). (replied o (answers past)).fault) e) ∙ h)) where
    never : Some f ≡ None → ⊥
    never k = cc
  by_fault None e h =
      let p = parts (answers past).fault (fault_of_reply (answers past).unanswered m) e in
      by_open (answers past).unanswered refl p.1 e (g.fine p.0)

-- at each READ that was sent
AllNamed : Channel → List ClientEvent → Type 0
AllNamed channel [] = Unit {0}
AllNamed channel (Group b ∷ past) = AllNamed channel past
AllNamed channel (End ∷ past) = AllNamed channel past
AllNamed channel (Sent q ∷ past) = NamesReads channel past × AllNamed channel past
AllNamed channel (Replied m ∷ past) = AllNamed channel past
AllNamed channel (Gave work ∷ past) = AllNamed channel past
AllNamed channel (Completed c ∷ past) = AllNamed channel past
AllNamed channel (Received b ∷ past) = AllNamed channel past

gets : (channel : Channel) (bytes : List ℕ) (past : List ClientEvent) → IsCopyable bytes → IsGet channel past → AllNamed channel past → IsAnswered channel bytes past → Got channel bytes past
unfolding AllNamed counts_to
gets channel bytes [] few p a r = record { front = refl; fine = λ h. record { few = omega arith; waiting = refl; counts = λ c. refl } }
gets channel bytes (Group b ∷ past) few p a r = absurd p.0
gets channel bytes (End ∷ past) few p a r = absurd p.0
gets channel bytes (Sent q ∷ past) few p a r = got-sent channel bytes q past a.0 (gets channel bytes past few p.1 a.1 r) p.0
gets channel bytes (Replied m ∷ past) few p a r =
    let one = last_mapped reply_bytes (replies_in past) m (replies_to bytes (get_requests channel bytes)) r in
    let q = got_of_map (reply_to bytes) (get_requests channel bytes) (length (replies_in past)) one.0 one.1 in
    got-replied channel bytes m past q.0 few (gets channel bytes past few p.1 a (prefix_before (replies_in past) m _ r)) q.1 (one.2 ∙ ap reply_bytes q.2)
gets channel bytes (Gave work ∷ past) few p a r =
    let g = gets channel bytes past few p.1 a r in record { front = g.front; fine = λ h. (let f = g.fine h in record { few = f.few; waiting = f.waiting; counts = f.counts }) }
gets channel bytes (Completed c ∷ past) few p a r =
    let g = gets channel bytes past few p.1 a r in record { front = g.front; fine = λ h. (let f = g.fine h in record { few = f.few; waiting = f.waiting; counts = f.counts }) }
gets channel bytes (Received b ∷ past) few p a r =
    let g = gets channel bytes past few p.1 a r in record { front = g.front; fine = λ h. (let f = g.fine h in record { few = f.few; waiting = f.waiting; counts = f.counts }) }

inline-named : (past : List ClientEvent) → AllNamed channels.None past
unfolding AllNamed NamesReads
inline-named [] = tt
inline-named (Group b ∷ past) = inline-named past
inline-named (End ∷ past) = inline-named past
inline-named (Sent q ∷ past) = (tt, inline-named past)
inline-named (Replied m ∷ past) = inline-named past
inline-named (Gave work ∷ past) = inline-named past
inline-named (Completed c ∷ past) = inline-named past
inline-named (Received b ∷ past) = inline-named past

registered-named : (past : List ClientEvent) → IsGet channels.V1 past → HasPoolTokens past → AllNamed channels.V1 past
unfolding AllNamed NamesReads
registered-named [] p k = tt
registered-named (Group b ∷ past) p k = absurd p.0
registered-named (End ∷ past) p k = absurd p.0
registered-named (Sent q ∷ past) p k = ((λ ds e. read_named 16 0 (sent past) past ds p.1 k e), registered-named past p.1 k)
registered-named (Replied m ∷ past) p k = registered-named past p.1 k
registered-named (Gave work ∷ past) p k = registered-named past p.1 k
registered-named (Completed c ∷ past) p k = registered-named past p.1 k.1
registered-named (Received b ∷ past) p k = registered-named past p.1 k

pub gets_ask : GetsAsk
gets_ask bytes past few p r =
    front_of (sent past) (requests_sent past) (get_requests channels.None bytes) (gets channels.None bytes past few p (inline-named past) r).front

pub registered_gets_ask : RegisteredGetsAsk
registered_gets_ask bytes past few p k r =
    front_of (sent past) (requests_sent past) (get_requests channels.V1 bytes) (gets channels.V1 bytes past few p (registered-named past p k) r).front

-- ---- what the server of a get has to see in the next request

front_reads : (channel : Channel) (m k n : ℕ) (tail : List Request) → n ≤ m → take n (reads_from channel m k ++ tail) ≡ reads_from channel n k
front_reads channel m k zero tail h = refl
front_reads channel zero k (suc n) tail h = absurd (omega arith)
front_reads channel (suc m) k (suc n) tail h = ap (λ (t : List Request). read_of channel k ∷ t) (front_reads channel m (k + 1) n tail (omega arith))

take_mapped : (bytes : List ℕ) (n : ℕ) (rs : List Request) → take n (map (reply_to bytes) rs) ≡ map (reply_to bytes) (take n rs)
take_mapped bytes zero rs = refl
take_mapped bytes (suc n) [] = refl
take_mapped bytes (suc n) (r ∷ rs) = ap (λ (t : List Reply). reply_to bytes r ∷ t) (take_mapped bytes n rs)

counted_reads : (channel : Channel) (bytes : List ℕ) (k n : ℕ) → counted (map (reply_to bytes) (reads_from channel n k)) ≡ sum_of (counts_to bytes k n)
unfolding counts_to got
counted_reads channel bytes k zero = refl
counted_reads channels.None bytes k (suc n) = ap (λ (x : ℕ). length (take 65536 (drop (65536 * (k - 1)) bytes)) + x) (counted_reads channels.None bytes (k + 1) n)
counted_reads channels.V1 bytes k (suc n) = ap (λ (x : ℕ). length (take 65536 (drop (65536 * (k - 1)) bytes)) + x) (counted_reads channels.V1 bytes (k + 1) n)

unended_reads : (channel : Channel) (n k : ℕ) → has_ended_among (reads_from channel n k) ≡ false
unended_reads channel zero k = refl
unended_reads channels.None (suc n) k = unended_reads channels.None n (k + 1)
unended_reads channels.V1 (suc n) k = unended_reads channels.V1 n (k + 1)

-- its number and offset, by the replies before it
pub record IsNextOfGet (channel : Channel) (bytes : List ℕ) (n : ℕ) (r : Request) : Type 0 where
  pub id_is : r.id ≡ n + 1
  pub unended : has_ended_among (take n (get_requests channel bytes)) ≡ false
  pub reads : (r.op == 1) ≡ false
  pub offset_is : r.offset ≡ counted (take n (replies_to bytes (get_requests channel bytes)))

pub next_of_get : (channel : Channel) (bytes : List ℕ) (n : ℕ) (r : Request) → RunCase channel bytes n r → IsNextOfGet channel bytes n r
unfolding RunCase
next_of_get channel bytes n r (inl x) =
    let less : n < reads_count bytes = x.0 in
    let front : take n (get_requests channel bytes) ≡ reads_from channel n 1 = front_reads channel (reads_count bytes) 1 n (end_request (reads_count bytes + 1) (length bytes) ∷ []) (omega arith) in
    let so_far = whole-so-far bytes n (omega (arith, less)) in
    record {
      id_is = ap (λ (q : Request). q.id) x.1 ∙ by_channel channel;
      unended = ap has_ended_among front ∙ unended_reads channel n 1;
      reads = ap (λ (q : Request). q.op == 1) x.1 ∙ no_write channel;
      offset_is = ap (λ (q : Request). q.offset) x.1 ∙ at channel ∙ sym so_far.0 ∙ sym (counted_reads channel bytes 1 n)
          ∙ ap (λ (rs : List Request). counted (map (reply_to bytes) rs)) (sym front) ∙ ap counted (sym (take_mapped bytes n (get_requests channel bytes)));
    }
  where
    by_channel : (c : Channel) → (read_of c (n + 1)).id ≡ n + 1
    by_channel channels.None = refl
    by_channel channels.V1 = refl

    no_write : (c : Channel) → ((read_of c (n + 1)).op == 1) ≡ false
    no_write channels.None = refl
    no_write channels.V1 = refl

    at : (c : Channel) → (read_of c (n + 1)).offset ≡ 65536 * n
    at channels.None = (let z : 65536 * (n + 1 - 1) ≡ 65536 * n = omega arith in z)
    at channels.V1 = (let z : 65536 * (n + 1 - 1) ≡ 65536 * n = omega arith in z)
next_of_get channel bytes n r (inr x) =
    let same : n ≡ reads_count bytes = x.0 in
    let front : take n (get_requests channel bytes) ≡ reads_from channel n 1 = front_reads channel (reads_count bytes) 1 n (end_request (reads_count bytes + 1) (length bytes) ∷ []) (omega (arith, same)) in
    let all = all-counted bytes in
    record {
      id_is = ap (λ (q : Request). q.id) x.1 ∙ ap (λ (k : ℕ). k + 1) (sym same);
      unended = ap has_ended_among front ∙ unended_reads channel n 1;
      reads = ap (λ (q : Request). q.op == 1) x.1;
      offset_is = ap (λ (q : Request). q.offset) x.1 ∙ sym all.0 ∙ ap (λ (k : ℕ). sum_of (counts_to bytes 1 k)) (sym same) ∙ sym (counted_reads channel bytes 1 n)
          ∙ ap (λ (rs : List Request). counted (map (reply_to bytes) rs)) (sym front) ∙ ap counted (sym (take_mapped bytes n (get_requests channel bytes)));
    }

-- ---- what is known of a get over registered pages while no reply was refused

last-is : (bytes : List ℕ) (m : ℕ) → 1 ≤ m → last_count (counts_to bytes 1 m) ≡ length (take 65536 (drop (65536 * (m - 1)) bytes))
unfolding got
last-is bytes zero h = absurd (omega (arith, h))
last-is bytes (suc j) h =
    ap last_count (sym (counts-more bytes 1 j)) ∙ last-append (counts_to bytes 1 j) (got bytes (1 + j))
    ∙ ap (λ (x : ℕ). length (take 65536 (drop (65536 * x) bytes))) (let z : 1 + j - 1 ≡ suc j - 1 = omega arith in z)

pub record Fares (bytes : List ℕ) (past : List ClientEvent) : Type 0 where
  pub few : length (replies_in past) ≤ length (requests_sent past)
  pub waiting : (answers past).unanswered ≡ drop (length (replies_in past)) (requests_sent past)
  pub front : requests_sent past ≡ take (length (requests_sent past)) (get_requests channels.V1 bytes)
  pub last : 1 ≤ length (replies_in past) → length (replies_in past) ≤ reads_count bytes
      → last_count (counts_taken past) ≡ length (take 65536 (drop (65536 * (length (replies_in past) - 1)) bytes))
  pub goes : length (replies_in past) < reads_count bytes → goes_on past ≡ true
  pub stops : length (replies_in past) ≡ reads_count bytes → goes_on past ≡ false

pub fares : (bytes : List ℕ) (past : List ClientEvent) → IsCopyable bytes → IsGet channels.V1 past → HasPoolTokens past → IsAnswered channels.V1 bytes past → (answers past).fault ≡ None
    → Fares bytes past
fares bytes past few p k r none =
    let g = gets channels.V1 bytes past few p (registered-named past p k) r in
    let f : Fine bytes past = g.fine none in
    record {
      few = f.few;
      waiting = f.waiting;
      front = g.front;
      last = λ some within. ap last_count (f.counts within) ∙ last-is bytes (length (replies_in past)) some;
      goes = λ h. is_whole (last_count (counts_taken past)) (ap last_count (f.counts (omega (arith, h))) ∙ (whole-so-far bytes (length (replies_in past)) (omega (arith, h))).1);
      stops = λ h. is_short (last_count (counts_taken past)) (let a = (all-counted bytes).1 in omega (arith, a, ap last_count (f.counts (omega (arith, h)) ∙ ap (counts_to bytes 1) h)));
    }
  where
    is_whole : (x : ℕ) → x ≡ 65536 → (x == 65536) ≡ true
    is_whole x h = grind (arith, nat_tests)

    is_short : (x : ℕ) → x < 65536 → (x == 65536) ≡ false
    is_short x h = grind (arith, nat_tests)
