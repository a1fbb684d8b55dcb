-- What a get waits for: its requests come one by one, and each reply counts at most what was asked for.
use Rattle.std.proofs.Common.{◌≡◌, ◌⊎◌, inl, inr, ℕ, suc, ◌+◌, ◌*◌, ◌≤◌, ◌==◌, nat_lt, nat_le, not, ◌&&◌, ◌||◌, Bool, true, false, cond, Option, Some, None, option_map, List, [], ◌∷◌, ◌++◌, length, drop, refl, sym, ap, ◌∙◌, subst, length-append, length-drop, arith}
use Rattle.std.proofs.lemmas.Bool.Decides.{nat_tests}
use Rattle.std.proofs.lemmas.List.{append-nil}
use Rattle.smbd_base.specs.Fields.{u16_at, u32_at}
use Rattle.buffer_descriptor.specs.declared.descriptor.Descriptor.{Descriptor}
use Rattle.file_messages.specs.declared.kind.Channel.{Channel}
use Rattle.file_messages.specs.declared.kind.Channel.TheVariants as channels
use Rattle.file_messages.specs.declared.fault.FileFault.{FileFault}
use Rattle.file_messages.specs.declared.fault.FileFault.TheVariants.{Short, Op, Length, Order}
use Rattle.file_messages.specs.declared.fault.ReplyFault.{ReplyFault}
use Rattle.file_messages.specs.declared.fault.ReplyFault.TheVariants.{Status}
use Rattle.file_messages.specs.declared.message.Request.{Request}
use Rattle.file_messages.specs.Messages.{WRITE, READ, END, asked_by, reply_fields, carries_bytes, has_count, fault_in_reply, value_or_fault}
use Rattle.file_messages.specs.Runs.{channel_number, end_request}
use Rattle.file_pasts.specs.ClientPast.{ClientEvent, Group, End, Sent, Replied, Gave, Completed, Received, requests_sent, fault_of_reply, fault_of_reading, lasting_or, reply_fault, replied, answers, has_failed, are_answered}
use Rattle.file_pasts.specs.GetDue.{counts_taken, sum_of, sent, goes_on, has_ended, is_between_rounds, jobs_completed, descriptors_loaded, read_request, read_due, next_request, IsGet}

-- ---- what it says that a request is due

-- the pages of the last round are unloaded
abbrev pub IsBack : Channel → List ClientEvent → Type 0
IsBack channels.None past = Unit {0}
IsBack channels.V1 past = (sent past ≡ 0) ⊎ (32 * sent past ≤ jobs_completed past)

pub record NextGet (channel : Channel) (past : List ClientEvent) (r : Request) : Type 0 where
  pub unended : has_ended (requests_sent past) ≡ false
  pub answered : (answers past).unanswered ≡ []
  pub back : IsBack channel past
  pub which : cond (goes_on past) (read_due channel past) (Some (end_request (sent past + 1) (sum_of (counts_taken past)))) ≡ Some r

pub no_items : {A : Type 0} (xs : List A) → (length xs == 0) ≡ true → xs ≡ []
no_items [] h = refl
no_items (x ∷ xs) h = absurd (not_zero (length xs) h) where
  not_zero : (n : ℕ) → (suc n == 0) ≡ true → ⊥
  not_zero n k = (let e : (suc n == 0) ≡ false = grind (arith, nat_tests) in both k e) where
    both : {b : Bool} → b ≡ true → b ≡ false → ⊥
    both x y = cc

pub next_get : (channel : Channel) (past : List ClientEvent) (r : Request) → next_request channel past ≡ Some r → NextGet channel past r
next_get channel past r e = by_tests (has_failed past) (has_ended (requests_sent past)) (is_between_rounds channel past) refl refl e where
  parts : (x y : Bool) → (x && y) ≡ true → (x ≡ true) × (y ≡ true)
  parts true y h = (refl, h)
  parts false y h = absurd (let b : ⊥ = cc in b)

  all_answered : (c : Channel) → is_between_rounds c past ≡ true → are_answered past ≡ true
  all_answered channels.None h = h
  all_answered channels.V1 h = (parts (are_answered past) _ h).0

  by_either : (x y : Bool) → (sent past == 0) ≡ x → nat_le (32 * sent past) (jobs_completed past) ≡ y → (x || y) ≡ true → (sent past ≡ 0) ⊎ (32 * sent past ≤ jobs_completed past)
  by_either true y p q h = inl (grind (arith, nat_tests))
  by_either false true p q h = inr (grind (arith, nat_tests))
  by_either false false p q h = absurd (let b : ⊥ = cc in b)

  all_back : (c : Channel) → is_between_rounds c past ≡ true → IsBack c past
  all_back channels.None h = tt
  all_back channels.V1 h = by_either (sent past == 0) (nat_le (32 * sent past) (jobs_completed past)) refl refl (parts (are_answered past) _ h).1

  by_tests : (a b c : Bool) → has_ended (requests_sent past) ≡ b → is_between_rounds channel past ≡ c
      → cond (a || b) None (cond (not c) None (cond (goes_on past) (read_due channel past) (Some (end_request (sent past + 1) (sum_of (counts_taken past)))))) ≡ Some r → NextGet channel past r
  by_tests true b c q s h = absurd (let x : ⊥ = cc in x)
  by_tests false true c q s h = absurd (let x : ⊥ = cc in x)
  by_tests false false false q s h = absurd (let x : ⊥ = cc in x)
  by_tests false false true q s h = record {
    unended = q;
    answered = no_items (answers past).unanswered (all_answered channel s);
    back = all_back channel s;
    which = h;
  }

pub end_known : (rs : List Request) (r : Request) → has_ended (rs ++ r ∷ []) ≡ (has_ended rs || r.op == END)
end_known [] r = by_test (r.op == END) where
  by_test : (t : Bool) → (t || false) ≡ t
  by_test true = refl
  by_test false = refl
end_known (x ∷ xs) r = by_test (x.op == END) (end_known xs r) where
  by_test : (t : Bool) → has_ended (xs ++ r ∷ []) ≡ (has_ended xs || r.op == END) → (t || has_ended (xs ++ r ∷ [])) ≡ ((t || has_ended xs) || r.op == END)
  by_test true h = refl
  by_test false h = h

-- ---- a reply that is taken

-- a READ of this channel
pub record IsRead (channel : Channel) (r : Request) : Type 0 where
  pub op : r.op ≡ READ
  pub size : r.length ≡ 65536
  pub number : r.channel ≡ channel_number channel

pub record IsTaken (r : Request) (m : List ℕ) : Type 0 where
  pub long : 12 ≤ length m
  pub read : r.op ≡ READ → u32_at 8 m ≤ r.length
  pub inline : r.op ≡ READ → r.channel ≡ 0 → length m ≡ 12 + u32_at 8 m
  pub ended : r.op ≡ END → u32_at 8 m ≡ 0

both_not : {b : Bool} → b ≡ true → b ≡ false → ⊥
both_not x y = cc

-- the fault of a reply, by its tests
tests_passed : (short other uncounted late : Bool) → cond short (Some Short) (cond other (Some Op) (cond uncounted (Some Length) (cond late (Some Order) None))) ≡ None
    → (short ≡ false) × (uncounted ≡ false)
tests_passed true o u l e = absurd (let b : ⊥ = cc in b)
tests_passed false true u l e = absurd (let b : ⊥ = cc in b)
tests_passed false false true l e = absurd (let b : ⊥ = cc in b)
tests_passed false false false l e = (refl, refl)

count_read : (fine write read le plain equal zero other : Bool) → fine ≡ true → write ≡ false → read ≡ true
    → cond (not fine) zero (cond write other (cond read (le && (not plain || equal)) zero)) ≡ true → (le ≡ true) × (plain ≡ true → equal ≡ true)
count_read true false true true true true z o p q r h = (refl, λ x. refl)
count_read true false true true true false z o p q r h = absurd (let b : ⊥ = cc in b)
count_read true false true true false e z o p q r h = (refl, λ x. absurd (let b : ⊥ = cc in b))
count_read true false true false pl e z o p q r h = absurd (let b : ⊥ = cc in b)
count_read false w rd l pl e z o p q r h = absurd (let b : ⊥ = cc in b)
count_read true true rd l pl e z o p q r h = absurd (let b : ⊥ = cc in b)
count_read true false false l pl e z o p q r h = absurd (let b : ⊥ = cc in b)

count_end : (fine write read rest zero other : Bool) → fine ≡ true → write ≡ false → read ≡ false
    → cond (not fine) zero (cond write other (cond read rest zero)) ≡ true → zero ≡ true
count_end true false false rest z o p q r h = h
count_end false w rd rest z o p q r h = absurd (let b : ⊥ = cc in b)
count_end true true rd rest z o p q r h = absurd (let b : ⊥ = cc in b)
count_end true false true rest z o p q r h = absurd (let b : ⊥ = cc in b)

pub taken : (r : Request) (later : List Request) (m : List ℕ) → fault_of_reply (r ∷ later) m ≡ None → IsTaken r m
unfolding fault_in_reply
taken r later m e = by_fault (fault_in_reply (asked_by r) m) refl e where
  by_status : (t : Bool) → cond {A = Option ReplyFault} t None (Some (Status (u16_at 2 m))) ≡ None → t ≡ true
  by_status true h = refl
  by_status false h = absurd (let b : ⊥ = cc in b)

  not_not : (b : Bool) → not b ≡ false → b ≡ true
  not_not true h = refl
  not_not false h = absurd (let b : ⊥ = cc in b)

  by_fault : (o : Option FileFault) → fault_in_reply (asked_by r) m ≡ o → fault_of_reading (value_or_fault o (reply_fields (asked_by r) m)) ≡ None → IsTaken r m
  by_fault (Some f) p h = absurd (let b : ⊥ = cc in b)
  by_fault None p h =
      let fine : (u16_at 2 m == 0) ≡ true = by_status (u16_at 2 m == 0) h in
      let passed = tests_passed (nat_lt (length m) 12) (not (u16_at 0 m == r.op + 32768)) (not (has_count (asked_by r) (reply_fields (asked_by r) m))) (not (u32_at 4 m == r.id)) p in
      let counted : has_count (asked_by r) (reply_fields (asked_by r) m) ≡ true = not_not (has_count (asked_by r) (reply_fields (asked_by r) m)) passed.1 in
      record {
        long = (let x : nat_lt (length m) 12 ≡ false = passed.0 in grind (arith, nat_tests));
        read = λ op. (let x : nat_le (u32_at 8 m) r.length ≡ true = (of_read fine counted op).0 in grind (arith, nat_tests));
        inline = λ op plain. in_line op plain ((of_read fine counted op).1 (itself r.channel plain)) fine (let x : nat_lt (length m) 12 ≡ false = passed.0 in grind (arith, nat_tests));
        ended = λ op. (let x : (u32_at 8 m == 0) ≡ true = count_end (u16_at 2 m == 0) (r.op == WRITE) (r.op == READ) _ (u32_at 8 m == 0) _ fine (ap (λ (n : ℕ). n == WRITE) op) (ap (λ (n : ℕ). n == READ) op) counted in grind (arith, nat_tests));
      }
    where
      itself : (n : ℕ) → n ≡ 0 → (n == 0) ≡ true
      itself n h = grind (arith, nat_tests)

      of_read : (u16_at 2 m == 0) ≡ true → has_count (asked_by r) (reply_fields (asked_by r) m) ≡ true → r.op ≡ READ
          → (nat_le (u32_at 8 m) r.length ≡ true) × ((r.channel == 0) ≡ true → (length (cond (carries_bytes (asked_by r) m) (drop 12 m) []) == u32_at 8 m) ≡ true)
      of_read fine counted op =
          count_read (u16_at 2 m == 0) (r.op == WRITE) (r.op == READ) (nat_le (u32_at 8 m) r.length) (r.channel == 0) (length (cond (carries_bytes (asked_by r) m) (drop 12 m) []) == u32_at 8 m)
          (u32_at 8 m == 0) (u32_at 8 m == r.length) fine (ap (λ (n : ℕ). n == WRITE) op) (ap (λ (n : ℕ). n == READ) op) counted

      in_line : r.op ≡ READ → r.channel ≡ 0 → (length (cond (carries_bytes (asked_by r) m) (drop 12 m) []) == u32_at 8 m) ≡ true → (u16_at 2 m == 0) ≡ true → 12 ≤ length m → length m ≡ 12 + u32_at 8 m
      in_line op plain h fine long =
          let c : carries_bytes (asked_by r) m ≡ true =
          ap (λ (n : ℕ). n == READ && r.channel == 0 && u16_at 2 m == 0) op ∙ ap (λ (n : ℕ). n == 0 && u16_at 2 m == 0) plain ∙ fine in
          let same : length (drop 12 m) ≡ u32_at 8 m = (let x : (length (drop 12 m) == u32_at 8 m) ≡ true = sym (ap (λ (t : Bool). length (cond t (drop 12 m) []) == u32_at 8 m) c) ∙ h in grind (arith, nat_tests)) in
          omega (arith, same, length-drop 12 m, long)

-- a reply is taken as that of the oldest request
pub taken_first : (fault : Option ReplyFault) (rs : List Request) (m : List ℕ) → lasting_or fault (fault_of_reply rs m) ≡ None → fault_of_reply rs m ≡ None
taken_first None rs m e = e
taken_first (Some f) rs m e = absurd (let b : ⊥ = cc in b)

pub none_taken : (rs : List Request) (m : List ℕ) → rs ≡ [] → fault_of_reply rs m ≡ None → ⊥
none_taken [] m e h = cc
none_taken (x ∷ xs) m e h = cc

-- ---- what is waited for

-- a READ, or END
abbrev pub KindWaited : Channel → List ClientEvent → Request → Type 0
KindWaited channel past r = (IsRead channel r × (has_ended (requests_sent past) ≡ false)) ⊎ ((r.op ≡ END) × (has_ended (requests_sent past) ≡ true))

-- at most one request has no reply
abbrev pub Waits : Channel → List ClientEvent → Type 0
Waits channel past = ((answers past).unanswered ≡ []) ⊎ ((r : Request) × ((answers past).unanswered ≡ r ∷ []) × KindWaited channel past r)

read-is : (channel : Channel) (past : List ClientEvent) (r : Request) → read_due channel past ≡ Some r → IsRead channel r
read-is channels.None past r e = let same : read_request 0 (sent past + 1) (sum_of (counts_taken past)) [] ≡ r = cc in subst (IsRead channels.None) same (record { op = refl; size = refl; number = refl })
read-is channels.V1 past r e = by_loaded (descriptors_loaded 16 0 (sent past) past) e where
  by_loaded : (o : Option (List Descriptor)) → option_map (read_request 1 (sent past + 1) (sum_of (counts_taken past))) o ≡ Some r → IsRead channels.V1 r
  by_loaded None h = absurd (let b : ⊥ = cc in b)
  by_loaded (Some ds) h =
      let same : read_request 1 (sent past + 1) (sum_of (counts_taken past)) ds ≡ r = cc in subst (IsRead channels.V1) same (record { op = refl; size = refl; number = refl })

waits-sent : (channel : Channel) (past : List ClientEvent) (q : Request) → NextGet channel past q → Waits channel (Sent q ∷ past)
waits-sent channel past q n = inr (q, ap (λ (rs : List Request). rs ++ q ∷ []) n.answered, by_going (goes_on past) n.which) where
  known : (has_ended (requests_sent past ++ q ∷ [])) ≡ (q.op == END)
  known = end_known (requests_sent past) q ∙ ap (λ (t : Bool). t || q.op == END) n.unended

  by_going : (t : Bool) → cond t (read_due channel past) (Some (end_request (sent past + 1) (sum_of (counts_taken past)))) ≡ Some q → KindWaited channel (Sent q ∷ past) q
  by_going true h = let k = read-is channel past q h in inl (k, known ∙ ap (λ (n : ℕ). n == END) k.op)
  by_going false h =
      let same : end_request (sent past + 1) (sum_of (counts_taken past)) ≡ q = cc in
      inr (ap (λ (x : Request). x.op) (sym same), known ∙ ap (λ (x : Request). x.op == END) (sym same))

waits-replied : (channel : Channel) (past : List ClientEvent) (m : List ℕ) → Waits channel past → Waits channel (Replied m ∷ past)
waits-replied channel past m w = by_fault (reply_fault (answers past) m) refl w where
  by_fault : (o : Option ReplyFault) → reply_fault (answers past) m ≡ o → Waits channel past → Waits channel (Replied m ∷ past)
  by_fault (Some f) e (inl x) = inl (ap (λ (o : Option ReplyFault). (replied o (answers past)).unanswered) e ∙ x)
  by_fault (Some f) e (inr x) = inr (x.0, ap (λ (o : Option ReplyFault). (replied o (answers past)).unanswered) e ∙ x.1, x.2)
  by_fault None e (inl x) = absurd (none_taken (answers past).unanswered m x (taken_first (answers past).fault (answers past).unanswered m e))
  by_fault None e (inr x) = inl (ap (λ (o : Option ReplyFault). (replied o (answers past)).unanswered) e ∙ ap (drop 1) x.1)

pub waits_of : (channel : Channel) (past : List ClientEvent) → IsGet channel past → Waits channel past
waits_of channel [] p = inl refl
waits_of channel (Group b ∷ past) p = absurd p.0
waits_of channel (End ∷ past) p = absurd p.0
waits_of channel (Sent q ∷ past) p = waits-sent channel past q (next_get channel past q p.0)
waits_of channel (Replied m ∷ past) p = waits-replied channel past m (waits_of channel past p.1)
waits_of channel (Gave work ∷ past) p = waits_of channel past p.1
waits_of channel (Completed c ∷ past) p = waits_of channel past p.1
waits_of channel (Received b ∷ past) p = waits_of channel past p.1

-- ---- the bytes that came

pub count-taken : (channel : Channel) (past : List ClientEvent) (r : Request) (m : List ℕ) → KindWaited channel past r → IsTaken r m → u32_at 8 m ≤ 65536
count-taken channel past r m (inl k) t = subst (λ (n : ℕ). u32_at 8 m ≤ n) k.0.size (t.read k.0.op)
count-taken channel past r m (inr k) t = omega (arith, t.ended k.0)

pub sum-append : (xs : List ℕ) (x : ℕ) → sum_of (xs ++ x ∷ []) ≡ sum_of xs + x
sum-append [] x = omega arith
sum-append (y ∷ ys) x = omega (arith, sum-append ys x)

pub bytes-bound : (channel : Channel) (past : List ClientEvent) → IsGet channel past → sum_of (counts_taken past) + 65536 * length (answers past).unanswered ≤ 65536 * sent past
bytes-bound channel [] p = omega arith
bytes-bound channel (Group b ∷ past) p = absurd p.0
bytes-bound channel (End ∷ past) p = absurd p.0
bytes-bound channel (Sent q ∷ past) p =
    omega (arith, bytes-bound channel past p.1, length-append (answers past).unanswered (q ∷ []), length-append (requests_sent past) (q ∷ []))
bytes-bound channel (Replied m ∷ past) p = by_fault (reply_fault (answers past) m) refl (bytes-bound channel past p.1) (waits_of channel past p.1) where
  by_fault : (o : Option ReplyFault) → reply_fault (answers past) m ≡ o → sum_of (counts_taken past) + 65536 * length (answers past).unanswered ≤ 65536 * sent past → Waits channel past
      → sum_of (counts_taken (Replied m ∷ past)) + 65536 * length (answers (Replied m ∷ past)).unanswered ≤ 65536 * sent past
  by_fault (Some f) e h w =
      let left : (answers (Replied m ∷ past)).unanswered ≡ (answers past).unanswered = ap (λ (o : Option ReplyFault). (replied o (answers past)).unanswered) e in
      let same : counts_taken (Replied m ∷ past) ≡ counts_taken past =
      ap (λ (o : Option ReplyFault). counts_taken past ++ (elim o [ None ↦ u32_at 8 m ∷ [] | Some fault ↦ [] ])) e ∙ append-nil (counts_taken past) in
      omega (arith, h, ap length left, ap sum_of same)
  by_fault None e h (inl x) = absurd (none_taken (answers past).unanswered m x (taken_first (answers past).fault (answers past).unanswered m e))
  by_fault None e h (inr x) =
      let left : (answers (Replied m ∷ past)).unanswered ≡ [] = ap (λ (o : Option ReplyFault). (replied o (answers past)).unanswered) e ∙ ap (drop 1) x.1 in
      let more : counts_taken (Replied m ∷ past) ≡ counts_taken past ++ u32_at 8 m ∷ [] =
      ap (λ (o : Option ReplyFault). counts_taken past ++ (elim o [ None ↦ u32_at 8 m ∷ [] | Some fault ↦ [] ])) e in
      let t = taken x.0 [] m (ap (λ (rs : List Request). fault_of_reply rs m) (sym x.1) ∙ taken_first (answers past).fault (answers past).unanswered m e) in
      omega (arith, h, ap length left, ap length x.1, ap sum_of more, sum-append (counts_taken past) (u32_at 8 m), count-taken channel past x.0 m x.2 t)
bytes-bound channel (Gave work ∷ past) p = bytes-bound channel past p.1
bytes-bound channel (Completed c ∷ past) p = bytes-bound channel past p.1
bytes-bound channel (Received b ∷ past) p = bytes-bound channel past p.1
