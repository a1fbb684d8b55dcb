-- The client's machine of a put.
use Rattle.std.proofs.Common.{◌≡◌, ℕ, ◌<◌, nat_lt, not, ◌&&◌, Bool, true, false, cond, Option, Some, None, List, [], ◌∷◌, length, take, refl, sym, ap, ◌∙◌, subst, arith}
use Rattle.std.proofs.lemmas.Bool.Decides.{nat_tests}
use Rattle.std.specs.Prelude.{Result, Ok, Err, OnErr, slice_get}
use Rattle.file_messages.specs.declared.kind.Channel.{Channel}
use Rattle.file_messages.specs.declared.kind.Channel.TheVariants as channels
use Rattle.file_messages.specs.declared.fault.ReplyFault.{ReplyFault}
use Rattle.file_messages.specs.declared.job.Job.{Job}
use Rattle.file_messages.specs.declared.job.Work.{Work}
use Rattle.file_messages.specs.declared.job.Completion.{Completion}
use Rattle.file_pasts.specs.ClientPast.{ClientEvent, Group, End, Sent, Replied, Gave, Completed, Received, groups_in, is_ended, requests_sent, jobs_given, open_jobs, job_at, without_job, total, answers, has_failed, reply_fault, AnswersJob}
use Rattle.file_pasts.specs.PutDue.{Setup, IsPut, wants_group, next_job, jobs_due, numbered, are_whole, writes_open}
use Rattle.file_pasts.proofs.GroupLemmas.{total-take-short, take_whole}
use Rattle.file_pasts.proofs.Naming.{all_short}
use Rattle.file_transfer.specs.declared.put_inline.InlineGroups.{InlineGroups}
use Rattle.file_transfer.specs.declared.put_registered.RegisteredGroups.{RegisteredGroups}
use Rattle.file_transfer.specs.declared.put_client.Groups.{Groups}
use Rattle.file_transfer.specs.declared.put_client.Groups.TheVariants.{Inline, Registered}
use Rattle.file_transfer.specs.declared.put_requests.PutRequests.{PutRequests}
use Rattle.file_transfer.specs.ClientJobs.{after_giving}
use Rattle.file_transfer.specs.PutStands.{RequestsStand}
use Rattle.file_transfer.specs.PutInlineStands.{InlineStands, without_pages}
use Rattle.file_transfer.specs.PutRegisteredStands.{RegisteredStand}
use Rattle.file_transfer.specs.PutPagesStand.{windows_from}
use Rattle.file_transfer.specs.PutClientStands.{GroupsCame, InlineCame, RegisteredCame}
use Rattle.file_transfer.proofs.PutRegisteredLemmas.{under_way-same, stand-refused}

-- ---- without registered pages there are no jobs

pub no_job : (s : Setup) (past : List ClientEvent) → s ≡ without_pages s.windows → next_job s past ≡ None
no_job s past e = ap (λ (t : Setup). next_job t past) e ∙ by_test (has_failed past) where
  by_test : (t : Bool) → cond {A = Option Job} t None None ≡ None
  by_test true = refl
  by_test false = refl

none_open : (w : ℕ) (past : List ClientEvent) → IsPut (without_pages w) past → open_jobs past ≡ []
none_open w [] p = refl
none_open w (Group bytes ∷ past) p = none_open w past p.1
none_open w (End ∷ past) p = none_open w past p.1
none_open w (Sent r ∷ past) p = none_open w past p.1
none_open w (Replied m ∷ past) p = none_open w past p.1
none_open w (Gave work ∷ past) p = absurd (let e : next_job (without_pages w) past ≡ None = no_job (without_pages w) past refl in let f = p.0 in none_some (next_job (without_pages w) past) (record { number = length (jobs_given past); work = work }) e f) where
  none_some : (o : Option Job) (job : Job) → o ≡ None → o ≡ Some job → ⊥
  none_some o job e f = cc
none_open w (Completed c ∷ past) p = ap (without_job c.number) (none_open w past p.1)
none_open w (Received bytes ∷ past) p = absurd p.0

pub none_answers : (s : Setup) (past : List ClientEvent) (c : Completion) → s ≡ without_pages s.windows → IsPut s past → AnswersJob past c → ⊥
none_answers s past c e p a = empty (none_open s.windows past (subst (λ (t : Setup). IsPut t past) e p)) where
  empty : open_jobs past ≡ [] → ⊥
  empty none = none_some a.work (sym (ap (job_at c.number) none) ∙ a.is_open) where
    none_some : (work : Work) → None ≡ Some work → ⊥
    none_some work f = cc

-- ---- events that leave the groups as they are

pub inline-end : (past : List ClientEvent) (g : InlineGroups) → InlineStands past g → InlineStands (End ∷ past) g
inline-end past g s = record { waiting = s.waiting; count = s.count; bytes = s.bytes }

pub inline-replied : (past : List ClientEvent) (m : List ℕ) (g : InlineGroups) → InlineStands past g → InlineStands (Replied m ∷ past) g
inline-replied past m g s = record { waiting = s.waiting; count = s.count; bytes = s.bytes }

pub registered-end : (w : ℕ) (past : List ClientEvent) (g : RegisteredGroups) → RegisteredStand w past g → RegisteredStand w (End ∷ past) g
registered-end w past g s = record {
  lawful = (tt, s.lawful);
  due = let j = s.due in record { due = j.due; in_turn = j.in_turn; given = j.given; outstanding = j.outstanding };
  kept = s.kept;
  slots = record { each = λ page it at. let old = s.slots.each page it at in record { waiting = old.waiting; fresh = old.fresh; free = old.free; used = old.used; unloads = old.unloads } };
  under_way = s.under_way ∙ under_way-same past (End ∷ past) (windows_from w 1 (groups_in past)) (record { same = λ page. refl });
  count = s.count;
  waiting = s.waiting;
  pool = s.pool;
  some = s.some;
  few = s.few;
  room = s.room;
}

pub groups-end : (s : Setup) (past : List ClientEvent) (g : Groups) → GroupsCame s past g → GroupsCame s (End ∷ past) g
groups-end s past (Inline g) c = record { setup = c.setup; stands = inline-end past g c.stands }
groups-end s past (Registered g) c = record { setup = c.setup; stands = registered-end s.windows past g c.stands }

pub groups-refused : (s : Setup) (past : List ClientEvent) (m : List ℕ) (fault : ReplyFault) (g : Groups) → GroupsCame s past g → reply_fault (answers past) m ≡ Some fault
    → GroupsCame s (Replied m ∷ past) g
groups-refused s past m fault (Inline g) c e = record { setup = c.setup; stands = inline-replied past m g c.stands }
groups-refused s past m fault (Registered g) c e = record { setup = c.setup; stands = stand-refused s.windows past m fault g c.stands e }

pub groups-none : (s : Setup) (past : List ClientEvent) (g : Groups) → GroupsCame s past g → next_job s past ≡ None → GroupsCame s (after_giving (next_job s past) past) g
groups-none s past g c e = subst (λ (o : Option Job). GroupsCame s (after_giving o past) g) (sym e) c

-- ---- what a machine's groups are

pub as_inline : (s : Setup) (past : List ClientEvent) (m : Groups) (g : InlineGroups) → GroupsCame s past m → m ≡ Inline g → InlineCame s past g
as_inline s past m g c e = subst (GroupsCame s past) e c

pub as_registered : (s : Setup) (past : List ClientEvent) (m : Groups) (g : RegisteredGroups) → GroupsCame s past m → m ≡ Registered g → RegisteredCame s past g
as_registered s past m g c e = subst (GroupsCame s past) e c

-- ---- bounds

pub inline-fits : (s : Setup) (past : List ClientEvent) → s ≡ without_pages s.windows → IsPut s past → wants_group s past ≡ true → length (requests_sent past) < 4294967296
    → (length (groups_in past) < 1099511627776) × (total (groups_in past) < 1152921504606846976)
inline-fits s past e p wanted few = fits (wants (is_ended past) (are_whole (groups_in past)) (nat_lt (writes_open past) 4) refl (sym (ap (λ (t : Setup). wants_group t past) e) ∙ wanted)) where
  wants : (a b c : Bool) → nat_lt (writes_open past) 4 ≡ c → ((not a && b) && c) ≡ true → writes_open past < 4
  wants true b c h f = absurd (let x : ⊥ = cc in x)
  wants false false c h f = absurd (let x : ⊥ = cc in x)
  wants false true true h f = grind (arith, nat_tests)
  wants false true false h f = absurd (let x : ⊥ = cc in x)

  fits : writes_open past < 4 → (length (groups_in past) < 1099511627776) × (total (groups_in past) < 1152921504606846976)
  fits open_few =
      let count : length (groups_in past) < 1099511627776 = omega arith in
      let bytes = total-take-short (length (groups_in past)) (groups_in past) (all_short s past p) in
      let whole : take (length (groups_in past)) (groups_in past) ≡ groups_in past = take_whole (length (groups_in past)) (groups_in past) (omega arith) in
      (count, omega (arith, ap total whole, bytes, count))

-- ---- a job is given

job-number : (t : Bool) (channel : Channel) (n : ℕ) (o : Option Work) (job : Job)
    → cond t None (elim channel [ channels.None ↦ None | channels.V1 ↦ numbered n o ]) ≡ Some job → job.number ≡ n
job-number true channel n o job e = absurd (let b : ⊥ = cc in b)
job-number false channels.None n o job e = absurd (let b : ⊥ = cc in b)
job-number false channels.V1 n None job e = absurd (let b : ⊥ = cc in b)
job-number false channels.V1 n (Some work) job e = ap (λ (p : Option Job). elim p [ None ↦ job.number | Some j ↦ j.number ]) (sym e)

pub requests-gave : (s : Setup) (past : List ClientEvent) (q : PutRequests) (o : Option Job) → RequestsStand s past q → next_job s past ≡ o → RequestsStand s (after_giving o past) q
requests-gave s past q None r e = r
requests-gave s past q (Some job) r e =
    let number : job.number ≡ length (jobs_given past) = job-number (has_failed past) s.channel (length (jobs_given past)) (slice_get (jobs_due s.windows past) (length (jobs_given past))) job e in
    record {
      lawful = (e ∙ ap (λ (n : ℕ). Some (record { number = n; work = job.work })) number, r.lawful);
      asked = let a = r.asked in record { unanswered = a.unanswered; sent = a.sent; fault = a.fault };
      offset = r.offset;
      ended = r.ended;
      whole = r.whole;
      end_sent = r.end_sent;
    }

pub on_err-of : {X E A : Type 0} (r : Result X E) → A → OnErr r A
on_err-of (Ok x) h = tt
on_err-of (Err e) h = h
