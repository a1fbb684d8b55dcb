-- The requests of a get, and their replies.
use Rattle.std.proofs.Common.{◌≡◌, ℕ, ◌+◌, ◌*◌, ◌≤◌, ◌==◌, not, ◌&&◌, ◌||◌, Bool, true, false, cond, Option, Some, None, List, [], ◌∷◌, ◌++◌, length, map, refl, sym, ap, ◌∙◌, subst, arith}
use Rattle.std.specs.Prelude.{option_map}
use Rattle.std.specs.List.{flat_map}
use Rattle.std.specs.declared.vec.Vec.{Vec}
use Rattle.std.specs.declared.alloc.Global.{Global}
use Rattle.std.proofs.lemmas.List.{append-nil}
use Rattle.smbd_base.specs.Fields.{u32_at}
use Rattle.buffer_descriptor.specs.Descriptors.{descriptor_bytes}
use Rattle.file_messages.specs.declared.kind.Channel.{Channel}
use Rattle.file_messages.specs.declared.kind.Channel.TheVariants as channels
use Rattle.file_messages.specs.declared.fault.ReplyFault.{ReplyFault}
use Rattle.file_messages.specs.declared.message.Request.{Request}
use Rattle.file_messages.specs.declared.job.Job.{Job}
use Rattle.file_messages.specs.declared.job.Work.{Work}
use Rattle.file_messages.specs.Messages.{END, header_bytes, request_bytes}
use Rattle.file_messages.specs.Runs.{end_request}
use Rattle.file_pasts.specs.ClientPast.{ClientEvent, Sent, Replied, requests_sent, jobs_given, reply_fault, answers, has_failed, are_answered}
use Rattle.file_pasts.specs.PutDue.{numbered}
use Rattle.file_pasts.specs.GetDue.{counts_taken, sum_of, sent, last_count, goes_on, has_ended, is_between_rounds, descriptors_loaded, read_request, read_due, next_request, next_job, next_group}
use Rattle.file_transfer.specs.declared.loaded_page.LoadedPage.{LoadedPage}
use Rattle.file_transfer.specs.declared.get_requests.GetRequests.{GetRequests}
use Rattle.file_transfer.specs.ClientJobs.{after_giving}
use Rattle.file_transfer.specs.ClientStands.{AskedStand, descriptor_in, pages_named, past_after_sending}
use Rattle.file_transfer.specs.GetStands.{GetStands, may_ask, read_after, after_receiving}
use Rattle.file_transfer.proofs.GetWaits.{end_known, bytes-bound, sum-append}

-- ---- what comes next

none_by : (over answered between : Bool) (o : Option Request) → (not over && answered) ≡ false → (answered ≡ false → between ≡ false)
    → cond over None (cond (not between) None o) ≡ None
none_by true a b o h f = refl
none_by false true b o h f = absurd (let x : ⊥ = cc in x)
none_by false false b o h f = ap (λ (t : Bool). cond (not t) None o) (f refl)

-- no request is due before the last one has its reply, nor after END, nor after a fault
pub none-asked : (channel : Channel) (past : List ClientEvent) → may_ask past ≡ false → next_request channel past ≡ None
none-asked channel past h = none_by (has_failed past || has_ended (requests_sent past)) (are_answered past) (is_between_rounds channel past) _ h (by_channel channel) where
  by_channel : (c : Channel) → are_answered past ≡ false → is_between_rounds c past ≡ false
  by_channel channels.None e = e
  by_channel channels.V1 e = rw e refl

next_by : (over between : Bool) (o : Option Request) → over ≡ false → between ≡ true → cond over None (cond (not between) None o) ≡ o
next_by false true o p q = refl
next_by true b o p q = absurd (let x : ⊥ = cc in x)
next_by false false o p q = absurd (let x : ⊥ = cc in x)

pub may_parts : (past : List ClientEvent) → may_ask past ≡ true → ((has_failed past || has_ended (requests_sent past)) ≡ false) × (are_answered past ≡ true)
may_parts past h = parts (has_failed past || has_ended (requests_sent past)) (are_answered past) h where
  parts : (x y : Bool) → (not x && y) ≡ true → (x ≡ false) × (y ≡ true)
  parts true y h = absurd (let b : ⊥ = cc in b)
  parts false y h = (refl, h)

pub next-is : (channel : Channel) (past : List ClientEvent) → may_ask past ≡ true → is_between_rounds channel past ≡ true
    → next_request channel past ≡ cond (goes_on past) (read_due channel past) (Some (end_request (sent past + 1) (sum_of (counts_taken past))))
next-is channel past h b = next_by (has_failed past || has_ended (requests_sent past)) (is_between_rounds channel past) _ (may_parts past h).0 b

-- where the last READ gave less, END is due
pub end-is : (channel : Channel) (past : List ClientEvent) (m : GetRequests) → GetStands channel past m → may_ask past ≡ true → is_between_rounds channel past ≡ true → goes_on past ≡ false
    → next_request channel past ≡ Some (end_request (m.asked.sent + 1) m.offset)
end-is channel past m s h b g =
    next-is channel past h b ∙ ap (λ (t : Bool). cond t (read_due channel past) (Some (end_request (sent past + 1) (sum_of (counts_taken past))))) g
    ∙ ap (λ (n : ℕ). Some (end_request (n + 1) (sum_of (counts_taken past)))) (sym s.asked.sent) ∙ ap (λ (n : ℕ). Some (end_request (m.asked.sent + 1) n)) (sym s.offset)

-- and else the READ of the loads of its round, once they are completed
pub read-is : (past : List ClientEvent) (m : GetRequests) (pages : Vec LoadedPage Global) → GetStands channels.V1 past m → may_ask past ≡ true → is_between_rounds channels.V1 past ≡ true
    → goes_on past ≡ true → descriptors_loaded 16 0 (sent past) past ≡ Some (pages_named pages) → next_request channels.V1 past ≡ Some (read_after m channels.V1 pages)
read-is past m pages s h b g loaded =
    next-is channels.V1 past h b ∙ ap (λ (t : Bool). cond t (read_due channels.V1 past) (Some (end_request (sent past + 1) (sum_of (counts_taken past))))) g
    ∙ ap (option_map (read_request 1 (sent past + 1) (sum_of (counts_taken past)))) loaded
    ∙ ap (λ (n : ℕ). Some (read_request 1 (n + 1) (sum_of (counts_taken past)) (pages_named pages))) (sym s.asked.sent)
    ∙ ap (λ (n : ℕ). Some (read_request 1 (m.asked.sent + 1) n (pages_named pages))) (sym s.offset)

pub read-inline : (past : List ClientEvent) (m : GetRequests) (pages : Vec LoadedPage Global) → GetStands channels.None past m → may_ask past ≡ true
    → goes_on past ≡ true → pages.items ≡ [] → next_request channels.None past ≡ Some (read_after m channels.None pages)
read-inline past m pages s h g none =
    next-is channels.None past h (may_parts past h).1 ∙ ap (λ (t : Bool). cond t (read_due channels.None past) (Some (end_request (sent past + 1) (sum_of (counts_taken past))))) g
    ∙ ap (λ (n : ℕ). Some (read_request 0 (n + 1) (sum_of (counts_taken past)) [])) (sym s.asked.sent)
    ∙ ap (λ (n : ℕ). Some (read_request 0 (m.asked.sent + 1) n [])) (sym s.offset)
    ∙ ap (λ (ps : List LoadedPage). Some (read_request 0 (m.asked.sent + 1) m.offset (map descriptor_in ps))) (sym none)

-- where none is due
pub stand-none : (channel : Channel) (past : List ClientEvent) (P : List ClientEvent → Type 0) → next_request channel past ≡ None → P past → P (past_after_sending (next_request channel past) past)
stand-none channel past P e h = subst (λ (o : Option Request). P (past_after_sending o past)) (sym e) h

pub ended-by : (past : List ClientEvent) (r : Request) → (r.op == END) ≡ true → has_ended (requests_sent past ++ r ∷ []) ≡ true
ended-by past r op = end_known (requests_sent past) r ∙ ap (λ (t : Bool). has_ended (requests_sent past) || t) op ∙ or_true (has_ended (requests_sent past)) where
  or_true : (t : Bool) → (t || true) ≡ true
  or_true true = refl
  or_true false = refl

pub unended-by : (past : List ClientEvent) (r : Request) → has_ended (requests_sent past) ≡ false → (r.op == END) ≡ false → has_ended (requests_sent past ++ r ∷ []) ≡ false
unended-by past r h op = end_known (requests_sent past) r ∙ ap (λ (t : Bool). t || r.op == END) h ∙ op

pub unfailed : (past : List ClientEvent) → may_ask past ≡ true → (has_failed past ≡ false) × (has_ended (requests_sent past) ≡ false)
unfailed past h = parts (has_failed past) (has_ended (requests_sent past)) (may_parts past h).0 where
  parts : (x y : Bool) → (x || y) ≡ false → (x ≡ false) × (y ≡ false)
  parts false y h = (refl, h)
  parts true y h = absurd (let b : ⊥ = cc in b)

-- ---- a request is given

pub stand-read : (channel : Channel) (past : List ClientEvent) (m n : GetRequests) (r : Request) → GetStands channel past m → next_request channel past ≡ Some r
    → AskedStand (Sent r ∷ past) n.asked → (r.op == END) ≡ false → n.offset ≡ m.offset → n.last ≡ m.last → n.end_sent ≡ m.end_sent → GetStands channel (Sent r ∷ past) n
stand-read channel past m n r s due asked op offset last end_sent = record {
  lawful = (due, s.lawful);
  asked = asked;
  offset = offset ∙ s.offset;
  last = last ∙ s.last;
  end_sent = end_sent ∙ s.end_sent ∙ sym (end_known (requests_sent past) r ∙ ap (λ (t : Bool). has_ended (requests_sent past) || t) op ∙ or_false (has_ended (requests_sent past)));
} where
  or_false : (t : Bool) → (t || false) ≡ t
  or_false true = refl
  or_false false = refl

pub stand-end : (channel : Channel) (past : List ClientEvent) (m n : GetRequests) (r : Request) → GetStands channel past m → next_request channel past ≡ Some r
    → AskedStand (Sent r ∷ past) n.asked → (r.op == END) ≡ true → n.offset ≡ m.offset → n.last ≡ m.last → n.end_sent ≡ true → GetStands channel (Sent r ∷ past) n
stand-end channel past m n r s due asked op offset last end_sent = record {
  lawful = (due, s.lawful);
  asked = asked;
  offset = offset ∙ s.offset;
  last = last ∙ s.last;
  end_sent = end_sent ∙ sym (end_known (requests_sent past) r ∙ ap (λ (t : Bool). has_ended (requests_sent past) || t) op ∙ or_true (has_ended (requests_sent past)));
} where
  or_true : (t : Bool) → (t || true) ≡ true
  or_true true = refl
  or_true false = refl

pub length-named : (ps : List LoadedPage) → length (map descriptor_in ps) ≡ length ps
length-named [] = refl
length-named (p ∷ ps) = omega (arith, length-named ps)

pub read-bytes : (channel id offset : ℕ) (pages : List LoadedPage)
    → header_bytes 2 channel id offset 65536 (length pages) ++ flat_map descriptor_bytes (map descriptor_in pages) ≡ request_bytes (read_request channel id offset (map descriptor_in pages))
read-bytes channel id offset pages =
    ap (λ (t : List ℕ). header_bytes 2 channel id offset 65536 (length pages) ++ t) (sym (append-nil (flat_map descriptor_bytes (map descriptor_in pages))))
    ∙ ap (λ (n : ℕ). header_bytes 2 channel id offset 65536 n ++ (flat_map descriptor_bytes (map descriptor_in pages) ++ [])) (sym (length-named pages))

-- ---- a reply is handed in

last-append : (xs : List ℕ) (x : ℕ) → last_count (xs ++ x ∷ []) ≡ x
last-append [] x = refl
last-append (y ∷ []) x = refl
last-append (y ∷ (z ∷ zs)) x = last-append (z ∷ zs) x

pub counts-taken : (past : List ClientEvent) (m : List ℕ) → reply_fault (answers past) m ≡ None → counts_taken (Replied m ∷ past) ≡ counts_taken past ++ u32_at 8 m ∷ []
counts-taken past m e = ap (λ (o : Option ReplyFault). counts_taken past ++ (elim o [ None ↦ u32_at 8 m ∷ [] | Some fault ↦ [] ])) e

pub counts-refused : (past : List ClientEvent) (m : List ℕ) (f : ReplyFault) → reply_fault (answers past) m ≡ Some f → counts_taken (Replied m ∷ past) ≡ counts_taken past
counts-refused past m f e = ap (λ (o : Option ReplyFault). counts_taken past ++ (elim o [ None ↦ u32_at 8 m ∷ [] | Some fault ↦ [] ])) e ∙ append-nil (counts_taken past)

pub stand-taken : (channel : Channel) (past : List ClientEvent) (m n : GetRequests) (message : List ℕ) → GetStands channel past m → reply_fault (answers past) message ≡ None
    → AskedStand (Replied message ∷ past) n.asked → n.offset ≡ m.offset + u32_at 8 message → n.last ≡ u32_at 8 message → n.end_sent ≡ m.end_sent → GetStands channel (Replied message ∷ past) n
stand-taken channel past m n message s fine asked offset last end_sent =
    let more : counts_taken (Replied message ∷ past) ≡ counts_taken past ++ u32_at 8 message ∷ [] = counts-taken past message fine in
    record {
      lawful = (tt, s.lawful);
      asked = asked;
      offset = offset ∙ ap (λ (k : ℕ). k + u32_at 8 message) s.offset ∙ sym (sum-append (counts_taken past) (u32_at 8 message)) ∙ ap sum_of (sym more);
      last = last ∙ sym (last-append (counts_taken past) (u32_at 8 message)) ∙ ap last_count (sym more);
      end_sent = end_sent ∙ s.end_sent;
    }

pub stand-refused : (channel : Channel) (past : List ClientEvent) (m n : GetRequests) (message : List ℕ) (f : ReplyFault) → GetStands channel past m → reply_fault (answers past) message ≡ Some f
    → AskedStand (Replied message ∷ past) n.asked → n.offset ≡ m.offset → n.last ≡ m.last → n.end_sent ≡ m.end_sent → GetStands channel (Replied message ∷ past) n
stand-refused channel past m n message f s e asked offset last end_sent =
    let same : counts_taken (Replied message ∷ past) ≡ counts_taken past = counts-refused past message f e in
    record {
      lawful = (tt, s.lawful);
      asked = asked;
      offset = offset ∙ s.offset ∙ ap sum_of (sym same);
      last = last ∙ s.last ∙ ap last_count (sym same);
      end_sent = end_sent ∙ s.end_sent;
    }

pub offset-few : (channel : Channel) (past : List ClientEvent) (m : GetRequests) → GetStands channel past m → m.offset ≤ 65536 * m.asked.sent
offset-few channel past m s = omega (arith, s.offset, s.asked.sent, bytes-bound channel past s.lawful)

-- ---- what leaves the requests as they are

pub stand-gave : (channel : Channel) (past : List ClientEvent) (m : GetRequests) (o : Option Job) → GetStands channel past m → next_job channel past ≡ o → GetStands channel (after_giving o past) m
stand-gave channel past m None s e = s
stand-gave channel past m (Some job) s e = record {
  lawful = (e ∙ ap (λ (n : ℕ). Some (record { number = n; work = job.work })) (number-is channel past job e), s.lawful);
  asked = let a = s.asked in record { unanswered = a.unanswered; sent = a.sent; fault = a.fault };
  offset = s.offset;
  last = s.last;
  end_sent = s.end_sent;
} where
  by_tests : (t : Bool) (c : Channel) (n : ℕ) (o : Option Work) → cond t None (elim c [ channels.None ↦ None | channels.V1 ↦ numbered n o ]) ≡ Some job → job.number ≡ n
  by_tests true c n o h = absurd (let b : ⊥ = cc in b)
  by_tests false channels.None n o h = absurd (let b : ⊥ = cc in b)
  by_tests false channels.V1 n None h = absurd (let b : ⊥ = cc in b)
  by_tests false channels.V1 n (Some work) h = ap (λ (p : Option Job). elim p [ None ↦ job.number | Some j ↦ j.number ]) (sym h)

  number-is : (c : Channel) (p : List ClientEvent) (j : Job) → next_job channel past ≡ Some job → job.number ≡ length (jobs_given past)
  number-is c p j h = by_tests (has_failed past) channel (length (jobs_given past)) _ h

pub stand-received : (channel : Channel) (past : List ClientEvent) (m : GetRequests) (o : Option (List ℕ)) → GetStands channel past m → next_group channel past ≡ o
    → GetStands channel (after_receiving o past) m
stand-received channel past m None s e = s
stand-received channel past m (Some bytes) s e = record {
  lawful = (e, s.lawful);
  asked = let a = s.asked in record { unanswered = a.unanswered; sent = a.sent; fault = a.fault };
  offset = s.offset;
  last = s.last;
  end_sent = s.end_sent;
}
