-- The groups of a get that came and were not given.
use Rattle.std.proofs.Common.{◌≡◌, inl, inr, ℕ, ◌+◌, ◌≤◌, ◌==◌, Bool, true, false, not, ◌&&◌, cond, Option, Some, None, List, [], ◌∷◌, ◌++◌, length, drop, refl, sym, ap, ◌∙◌, subst, add-one, length-append, arith}
use Rattle.std.specs.Prelude.{option_to_list, slice_get}
use Rattle.std.proofs.lemmas.Bool.Decides.{nat_tests}
use Rattle.std.proofs.lemmas.List.{append-nil, drop-append-le}
use Rattle.smbd_base.specs.Fields.{u32_at}
use Rattle.file_messages.specs.declared.kind.Channel.{Channel}
use Rattle.file_messages.specs.declared.kind.Channel.TheVariants as channels
use Rattle.file_messages.specs.declared.fault.ReplyFault.{ReplyFault}
use Rattle.file_messages.specs.declared.message.Request.{Request}
use Rattle.file_messages.specs.declared.job.Job.{Job}
use Rattle.file_messages.specs.declared.job.Work.{Work}
use Rattle.file_messages.specs.declared.job.Completion.{Completion}
use Rattle.file_pasts.specs.ClientPast.{ClientEvent, Group, End, Sent, Replied, Gave, Completed, Received, requests_sent, jobs_given, open_jobs, job_at, without_job, fault_of_reply, reply_fault, replied, answers, has_failed, AnswersJob}
use Rattle.file_pasts.specs.GetDue.{has_ended, some_bytes, bytes_carried, groups_came, groups_received, next_group, IsGet}
use Rattle.file_pasts.proofs.GetGroups.{no_jobs}
use Rattle.file_pasts.proofs.Lists.{within, left_at}
use Rattle.file_transfer.specs.declared.get_groups.GetGroups.{GetGroups}
use Rattle.file_transfer.specs.ClientJobs.{after_giving}
use Rattle.file_transfer.specs.GetStands.{GroupsStand, HasRoom, awaits, after_receiving}
use Rattle.file_server.proofs.ServerLists.{none_at}
use Rattle.file_transfer.proofs.GetWaits.{IsTaken, taken, taken_first, none_taken, KindWaited, Waits, waits_of}

-- ---- a group is given

pub groups-received : (channel : Channel) (past : List ClientEvent) (m n : GetGroups) (o : Option (List ℕ)) → GroupsStand channel past m
    → m.came.items ≡ option_to_list o ++ n.came.items → (HasRoom m → HasRoom n) → GroupsStand channel (after_receiving o past) n
groups-received channel past m n None s items room = record { came = sym items ∙ s.came; in_turn = s.in_turn; room = λ h. room (s.room h) }
groups-received channel past m n (Some b) s items room =
    let left = left_at (groups_received past) (groups_came channel past) b n.came.items (sym s.came ∙ items) in
    let less = within (groups_came channel past) (groups_received past) b left.0 in
    record {
      came = sym left.1 ∙ ap (λ (k : ℕ). drop k (groups_came channel past)) (sym (add-one (groups_received past))) ∙ by_came channel;
      in_turn = by_length channel (omega (arith, less));
      room = λ h. room (s.room (by_awaits channel h));
    }
  where
    by_came : (c : Channel) → drop (groups_received past + 1) (groups_came c past) ≡ drop (groups_received past + 1) (groups_came c (Received b ∷ past))
    by_came channels.None = refl
    by_came channels.V1 = refl

    by_length : (c : Channel) → groups_received past + 1 ≤ length (groups_came c past) → groups_received past + 1 ≤ length (groups_came c (Received b ∷ past))
    by_length channels.None h = h
    by_length channels.V1 h = h

    by_awaits : (c : Channel) → awaits c (Received b ∷ past) ≡ true → awaits c past ≡ true
    by_awaits channels.None h = h
    by_awaits channels.V1 h = h

-- ---- what leaves the groups as they are

pub groups-gave : (channel : Channel) (past : List ClientEvent) (m : GetGroups) (o : Option Job) → GroupsStand channel past m → GroupsStand channel (after_giving o past) m
groups-gave channel past m None s = s
groups-gave channel past m (Some job) s = by_channel channel s where
  by_channel : (c : Channel) → GroupsStand c past m → GroupsStand c (Gave job.work ∷ past) m
  by_channel channels.None t = record { came = t.came; in_turn = t.in_turn; room = t.room }
  by_channel channels.V1 t = record { came = t.came; in_turn = t.in_turn; room = t.room }

-- a request is given: room for its group was made, if it asks for one
pub groups-sent : (channel : Channel) (past : List ClientEvent) (m n : GetGroups) (r : Request) → GroupsStand channel past m → n.came.items ≡ m.came.items
    → (awaits channel (Sent r ∷ past) ≡ true → HasRoom n) → GroupsStand channel (Sent r ∷ past) n
groups-sent channel past m n r s came room = by_channel channel s room where
  by_channel : (c : Channel) → GroupsStand c past m → (awaits c (Sent r ∷ past) ≡ true → HasRoom n) → GroupsStand c (Sent r ∷ past) n
  by_channel channels.None t f = record { came = came ∙ t.came; in_turn = t.in_turn; room = f }
  by_channel channels.V1 t f = record { came = came ∙ t.came; in_turn = t.in_turn; room = f }

-- after END nothing is awaited
pub ended-awaits : (channel : Channel) (past : List ClientEvent) (r : Request) → has_ended (requests_sent past ++ r ∷ []) ≡ true → awaits channel (Sent r ∷ past) ≡ true → ⊥
ended-awaits channel past r e h = by_channel channel h where
  ended : (t u : Bool) → t ≡ true → (not t && u) ≡ true → ⊥
  ended true u p q = cc
  ended false u p q = cc

  by_channel : (c : Channel) → awaits c (Sent r ∷ past) ≡ true → ⊥
  by_channel channels.None k = ended (has_ended (requests_sent past ++ r ∷ [])) _ e k
  by_channel channels.V1 k = ended (has_ended (requests_sent past ++ r ∷ [])) _ e k

-- ---- a reply without registered pages

-- the bytes that a reply carries are those that were asked for
pub record IsCarried (past : List ClientEvent) (m : List ℕ) : Type 0 where
  pub long : 12 + u32_at 8 m ≤ length m
  pub short : u32_at 8 m ≤ 65536
  pub awaited : awaits channels.None past ≡ true

pub carried : (past : List ClientEvent) (m : List ℕ) → IsGet channels.None past → reply_fault (answers past) m ≡ None → 1 ≤ u32_at 8 m → IsCarried past m
carried past m p fine some = by_waits (waits_of channels.None past p) where
  fault_none : fault_of_reply (answers past).unanswered m ≡ None
  fault_none = taken_first (answers past).fault (answers past).unanswered m fine

  one_waits : (r : Request) → (answers past).unanswered ≡ r ∷ [] → has_ended (requests_sent past) ≡ false → awaits channels.None past ≡ true
  one_waits r e h =
      ap (λ (t : Bool). not t && not (length (answers past).unanswered == 0)) h ∙ ap (λ (rs : List Request). not (length rs == 0)) e ∙ ap not one_zero where
        one_zero : (1 == 0) ≡ false
        one_zero = grind (arith, nat_tests)

  by_waits : Waits channels.None past → IsCarried past m
  by_waits (inl x) = absurd (none_taken (answers past).unanswered m x fault_none)
  by_waits (inr x) = by_kind x.2 (taken x.0 [] m (ap (λ (rs : List Request). fault_of_reply rs m) (sym x.1) ∙ fault_none)) where
    by_kind : KindWaited channels.None past x.0 → IsTaken x.0 m → IsCarried past m
    by_kind (inl k) t =
        let long = t.inline k.0.op k.0.number in
        record { long = omega (arith, long); short = omega (arith, t.read k.0.op, k.0.size); awaited = one_waits x.0 x.1 k.1 }
    by_kind (inr k) t = absurd (omega (arith, t.ended k.0, some))

pub groups-carried : (past : List ClientEvent) (m : List ℕ) (g n : GetGroups) → IsGet channels.None past → GroupsStand channels.None past g → reply_fault (answers past) m ≡ None
    → n.came.items ≡ g.came.items ++ some_bytes (bytes_carried m) → GroupsStand channels.None (Replied m ∷ past) n
groups-carried past m g n p s fine came =
    let all : groups_came channels.None past ++ some_bytes (bytes_carried m) ≡ groups_came channels.None (Replied m ∷ past) =
    ap (λ (o : Option ReplyFault). groups_came channels.None past ++ (elim o [ None ↦ some_bytes (bytes_carried m) | Some fault ↦ [] ])) (sym fine) in
    record {
      came = came ∙ ap (λ (gs : List (List ℕ)). gs ++ some_bytes (bytes_carried m)) s.came
          ∙ sym (drop-append-le (groups_received past) (groups_came channels.None past) (some_bytes (bytes_carried m)) s.in_turn) ∙ ap (drop (groups_received past)) all;
      in_turn = omega (arith, s.in_turn, ap length all, length-append (groups_came channels.None past) (some_bytes (bytes_carried m)));
      room = λ h. absurd (by_waits (waits_of channels.None past p) h);
    }
  where
    fault_none : fault_of_reply (answers past).unanswered m ≡ None
    fault_none = taken_first (answers past).fault (answers past).unanswered m fine

    left : (answers (Replied m ∷ past)).unanswered ≡ drop 1 (answers past).unanswered
    left = ap (λ (o : Option ReplyFault). (replied o (answers past)).unanswered) fine

    none_left : (t : Bool) (rs : List Request) → rs ≡ [] → (t && not (length rs == 0)) ≡ true → ⊥
    none_left true [] e h = cc
    none_left false rs e h = cc
    none_left true (x ∷ xs) e h = cc

    by_waits : Waits channels.None past → awaits channels.None (Replied m ∷ past) ≡ true → ⊥
    by_waits (inl x) h = none_taken (answers past).unanswered m x fault_none
    by_waits (inr x) h = none_left (not (has_ended (requests_sent past))) (answers (Replied m ∷ past)).unanswered (left ∙ ap (drop 1) x.1) h

-- a reply that is refused
pub groups-refused : (channel : Channel) (past : List ClientEvent) (m : List ℕ) (fault : ReplyFault) (g : GetGroups) → GroupsStand channel past g → reply_fault (answers past) m ≡ Some fault
    → GroupsStand channel (Replied m ∷ past) g
groups-refused channel past m fault g s e = by_channel channel s where
  left : (answers (Replied m ∷ past)).unanswered ≡ (answers past).unanswered
  left = ap (λ (o : Option ReplyFault). (replied o (answers past)).unanswered) e

  by_channel : (c : Channel) → GroupsStand c past g → GroupsStand c (Replied m ∷ past) g
  by_channel channels.None t =
      let same : groups_came channels.None (Replied m ∷ past) ≡ groups_came channels.None past =
      ap (λ (o : Option ReplyFault). groups_came channels.None past ++ (elim o [ None ↦ some_bytes (bytes_carried m) | Some f ↦ [] ])) e ∙ append-nil (groups_came channels.None past) in
      record {
        came = t.came ∙ ap (drop (groups_received past)) (sym same);
        in_turn = subst (λ (gs : List (List ℕ)). groups_received past ≤ length gs) (sym same) t.in_turn;
        room = λ h. t.room (ap (λ (rs : List Request). not (has_ended (requests_sent past)) && not (length rs == 0)) (sym left) ∙ h);
      }
  by_channel channels.V1 t =
      let same : groups_came channels.V1 (Replied m ∷ past) ≡ groups_came channels.V1 past = append-nil (groups_came channels.V1 past) in
      record {
        came = t.came ∙ ap (drop (groups_received past)) (sym same);
        in_turn = subst (λ (gs : List (List ℕ)). groups_received past ≤ length gs) (sym same) t.in_turn;
        room = t.room;
      }

-- over registered pages a reply brings no group
pub groups-replied : (past : List ClientEvent) (m : List ℕ) (g : GetGroups) → GroupsStand channels.V1 past g → GroupsStand channels.V1 (Replied m ∷ past) g
groups-replied past m g t =
    let same : groups_came channels.V1 (Replied m ∷ past) ≡ groups_came channels.V1 past = append-nil (groups_came channels.V1 past) in
    record {
      came = t.came ∙ ap (drop (groups_received past)) (sym same);
      in_turn = subst (λ (gs : List (List ℕ)). groups_received past ≤ length gs) (sym same) t.in_turn;
      room = t.room;
    }

-- ---- without registered pages there are no jobs

pub none_answers : (channel : Channel) (past : List ClientEvent) (c : Completion) → channel ≡ channels.None → IsGet channel past → AnswersJob past c → ⊥
none_answers channel past c e p a = none_some (open_jobs past) (no_jobs past (subst (λ (k : Channel). IsGet k past) e p)) a.work a.is_open where
  none_some : (jobs : List Job) → jobs ≡ [] → (work : Work) → job_at c.number jobs ≡ Some work → ⊥
  none_some [] h work k = cc
  none_some (x ∷ xs) h work k = cc

-- ---- the first of those that wait

pub group-is : (channel : Channel) (past : List ClientEvent) (g : GetGroups) (o : Option (List ℕ)) (rest : List (List ℕ)) → GroupsStand channel past g → has_failed past ≡ false
    → g.came.items ≡ option_to_list o ++ rest → rest ≡ drop 1 g.came.items → o ≡ next_group channel past
group-is channel past g o rest s fine items later = by_first o items ∙ sym (ap (λ (t : Bool). cond t None (slice_get (groups_came channel past) (groups_received past))) fine) where
  empty : (xs : List (List ℕ)) → xs ≡ drop 1 xs → xs ≡ []
  empty [] e = refl
  empty (x ∷ xs) e = absurd (omega (arith, ap length e))

  by_first : (p : Option (List ℕ)) → g.came.items ≡ option_to_list p ++ rest → p ≡ slice_get (groups_came channel past) (groups_received past)
  by_first None e = sym (none_at (groups_received past) (groups_came channel past) (sym s.came ∙ empty g.came.items (e ∙ later)))
  by_first (Some b) e = sym (left_at (groups_received past) (groups_came channel past) b rest (sym s.came ∙ e)).0
