-- The loads of a get's pages have the descriptors of their rounds, where a pool gives the tokens.
use Rattle.std.proofs.Common.{◌≡◌, ◌⊎◌, inl, inr, ℕ, zero, suc, ◌+◌, ◌-◌, ◌*◌, ◌==◌, Bool, true, false, cond, Option, Some, None, List, [], ◌∷◌, ◌++◌, length, refl, sym, ap, ◌∙◌, subst, arith}
use Rattle.std.specs.Prelude.{slice_get}
use Rattle.std.proofs.lemmas.Bool.Decides.{nat_tests}
use Rattle.std.proofs.lemmas.List.{append-nil}
use Rattle.buffer_descriptor.specs.declared.descriptor.Descriptor.{Descriptor}
use Rattle.file_messages.specs.declared.kind.Channel.TheVariants as channels
use Rattle.file_messages.specs.declared.fault.ReplyFault.{ReplyFault}
use Rattle.file_messages.specs.declared.message.Request.{Request}
use Rattle.file_messages.specs.declared.job.Job.{Job}
use Rattle.file_messages.specs.declared.job.Work.{Work}
use Rattle.file_messages.specs.declared.job.Work.TheVariants.{Load, Fetch, Place, Unload}
use Rattle.file_messages.specs.declared.job.WorkResult.{WorkResult}
use Rattle.file_messages.specs.declared.job.WorkResult.TheVariants.{Loaded, Unloaded, Fetched, Placed, Refused}
use Rattle.file_messages.specs.Runs.{descriptor_of_load, read_descriptors}
use Rattle.file_pasts.specs.ClientPast.{ClientEvent, Group, End, Sent, Replied, Gave, Completed, Received, jobs_given, open_jobs, job_at, without_job, descriptors_on, loaded_by, token_of_descriptor, reply_fault, answers, has_failed, IsOfKind}
use Rattle.file_pasts.specs.PutDue.{in_front, numbered, if_taken, unloads_of, unloads_of_first}
use Rattle.file_pasts.specs.GetDue.{page_loads, begins_round, jobs_due, next_job, descriptors_loaded, IsGet}
use Rattle.file_pasts.specs.PutTokens.{IsNextToken, HasPoolTokens}
use Rattle.file_pasts.proofs.Lists.{get_last}

-- ---- Loads carry whole pages

IsWhole : Work → Type 0
IsWhole (Load p r bytes) = length bytes ≡ 4096
IsWhole (Fetch d) = Unit {0}
IsWhole (Place d bytes) = Unit {0}
IsWhole (Unload t) = Unit {0}

AreWhole : List Work → Type 0
AreWhole [] = Unit {0}
AreWhole (work ∷ later) = IsWhole work × AreWhole later

JobsWhole : List Job → Type 0
JobsWhole [] = Unit {0}
JobsWhole (job ∷ later) = IsWhole job.work × JobsWhole later

whole-append : (xs ys : List Work) → AreWhole xs → AreWhole ys → AreWhole (xs ++ ys)
unfolding AreWhole
whole-append [] ys a b = b
whole-append (x ∷ xs) ys a b = (a.0, whole-append xs ys a.1 b)

whole-loads : (count i : ℕ) → AreWhole (page_loads count i)
unfolding AreWhole IsWhole
whole-loads zero i = tt
whole-loads (suc count) i = (refl, whole-loads count (i + 1))

whole-unloads : (ds : List Descriptor) → AreWhole (unloads_of ds)
unfolding AreWhole IsWhole
whole-unloads [] = tt
whole-unloads (d ∷ ds) = (tt, whole-unloads ds)

whole-replied : (o : Option ReplyFault) (rs : List Request) → AreWhole (if_taken o (unloads_of_first rs))
unfolding AreWhole
whole-replied (Some fault) rs = tt
whole-replied None [] = tt
whole-replied None (r ∷ rs) = whole-unloads r.descriptors

whole-begun : (t : Bool) → AreWhole (cond t (page_loads 16 0) [])
unfolding AreWhole
whole-begun true = whole-loads 16 0
whole-begun false = tt

due-whole : (past : List ClientEvent) → AreWhole (jobs_due past)
due-whole [] = whole-loads 16 0
due-whole (Group bytes ∷ past) = due-whole past
due-whole (End ∷ past) = due-whole past
due-whole (Sent r ∷ past) = due-whole past
due-whole (Replied m ∷ past) = whole-append (jobs_due past) (if_taken (reply_fault (answers past) m) (unloads_of_first (answers past).unanswered)) (due-whole past) (whole-replied (reply_fault (answers past) m) (answers past).unanswered)
due-whole (Gave work ∷ past) = due-whole past
due-whole (Completed c ∷ past) = whole-append (jobs_due past) (cond (begins_round past) (page_loads 16 0) []) (due-whole past) (whole-begun (begins_round past))
due-whole (Received bytes ∷ past) = due-whole past

whole-at : (works : List Work) (n : ℕ) (work : Work) → AreWhole works → slice_get works n ≡ Some work → IsWhole work
unfolding AreWhole
whole-at [] n work a e = absurd (let b : ⊥ = cc in b)
whole-at (x ∷ xs) zero work a e = subst IsWhole (let same : x ≡ work = cc in same) a.0
whole-at (x ∷ xs) (suc n) work a e = whole-at xs n work a.1 e

jobs-more : (jobs : List Job) (job : Job) → JobsWhole jobs → IsWhole job.work → JobsWhole (jobs ++ job ∷ [])
unfolding JobsWhole
jobs-more [] job a b = (b, tt)
jobs-more (x ∷ xs) job a b = (a.0, jobs-more xs job a.1 b)

jobs-without : (n : ℕ) (jobs : List Job) → JobsWhole jobs → JobsWhole (without_job n jobs)
unfolding JobsWhole
jobs-without n [] a = tt
jobs-without n (job ∷ later) a = by_test (job.number == n) (jobs-without n later a.1) where
  by_test : (t : Bool) → JobsWhole (without_job n later) → JobsWhole (cond t later (job ∷ without_job n later))
  by_test true r = a.1
  by_test false r = (a.0, r)

jobs-at : (n : ℕ) (jobs : List Job) (work : Work) → JobsWhole jobs → job_at n jobs ≡ Some work → IsWhole work
unfolding JobsWhole
jobs-at n [] work a e = absurd (let b : ⊥ = cc in b)
jobs-at n (job ∷ later) work a e = by_test (job.number == n) e (λ (h : job_at n later ≡ Some work). jobs-at n later work a.1 h) where
  by_test : (t : Bool) → cond t (Some job.work) (job_at n later) ≡ Some work → (job_at n later ≡ Some work → IsWhole work) → IsWhole work
  by_test true h f = subst IsWhole (let same : job.work ≡ work = cc in same) a.0
  by_test false h f = f h

-- what was given was due
pub given_due : (past : List ClientEvent) (work : Work) → next_job channels.V1 past ≡ Some (record { number = length (jobs_given past); work = work })
    → slice_get (jobs_due past) (length (jobs_given past)) ≡ Some work
given_due past work e = by_failed (has_failed past) (slice_get (jobs_due past) (length (jobs_given past))) e where
  same : (x : Work) → ◌≡◌ {A = Option Job} (Some (record { number = length (jobs_given past); work = x })) (Some (record { number = length (jobs_given past); work = work })) → Some x ≡ Some work
  same x h = ap (λ (o : Option Job). elim o [ None ↦ None | Some j ↦ Some j.work ]) h

  by_failed : (t : Bool) (o : Option Work) → cond t None (numbered (length (jobs_given past)) o) ≡ Some (record { number = length (jobs_given past); work = work }) → o ≡ Some work
  by_failed true o h = absurd (let b : ⊥ = cc in b)
  by_failed false None h = absurd (let b : ⊥ = cc in b)
  by_failed false (Some x) h = same x h

open-whole : (past : List ClientEvent) → IsGet channels.V1 past → JobsWhole (open_jobs past)
unfolding JobsWhole
open-whole [] p = tt
open-whole (Group bytes ∷ past) p = absurd p.0
open-whole (End ∷ past) p = absurd p.0
open-whole (Sent r ∷ past) p = open-whole past p.1
open-whole (Replied m ∷ past) p = open-whole past p.1
open-whole (Gave work ∷ past) p =
    jobs-more (open_jobs past) (record { number = length (jobs_given past); work = work }) (open-whole past p.1)
    (whole-at (jobs_due past) (length (jobs_given past)) work (due-whole past) (given_due past work p.0))
open-whole (Completed c ∷ past) p = jobs-without c.number (open_jobs past) (open-whole past p.1)
open-whole (Received bytes ∷ past) p = open-whole past p.1

-- ---- tokens

same_descriptor : (d e : Descriptor) → d.offset ≡ e.offset → d.token ≡ e.token → d.length ≡ e.length → d ≡ e
same_descriptor d e a b c = made a b c where
  made : {o p t u l m : ℕ} → o ≡ p → t ≡ u → l ≡ m → ◌≡◌ {A = Descriptor} (record { offset = o; token = t; length = l }) (record { offset = p; token = u; length = m })
  made x y z = rw (x, y, z) refl

loaded_is : (work : Work) (d : Descriptor) (past : List ClientEvent) → IsOfKind work (Loaded d) → IsWhole work → IsNextToken (Loaded d) past
    → d ≡ descriptor_of_load (token_of_descriptor d).page (length (descriptors_on (token_of_descriptor d).page past)) 4096
unfolding IsWhole
loaded_is (Load p r bytes) d past k w t =
    same_descriptor d (descriptor_of_load (token_of_descriptor d).page (length (descriptors_on (token_of_descriptor d).page past)) 4096)
    (k.0 ∙ ap (λ (x : ℕ). x * 4096) (sym k.1)) t (k.3 ∙ w)
loaded_is (Fetch e) d past k w t = absurd k
loaded_is (Place e bytes) d past k w t = absurd k
loaded_is (Unload u) d past k w t = absurd k

pub get_owned : (page turn : ℕ) (d : Descriptor) (past : List ClientEvent) → IsGet channels.V1 past → HasPoolTokens past → slice_get (descriptors_on page past) turn ≡ Some d
    → d ≡ descriptor_of_load page turn 4096
get_owned page turn d [] p k e = absurd (let b : ⊥ = cc in b)
get_owned page turn d (Group bytes ∷ past) p k e = absurd p.0
get_owned page turn d (End ∷ past) p k e = absurd p.0
get_owned page turn d (Sent r ∷ past) p k e = get_owned page turn d past p.1 k e
get_owned page turn d (Replied m ∷ past) p k e = get_owned page turn d past p.1 k e
get_owned page turn d (Gave work ∷ past) p k e = get_owned page turn d past p.1 k e
get_owned page turn d (Completed c ∷ past) p k e =
    by_result c.result (λ x y. loaded_is p.0.work x past (subst (IsOfKind p.0.work) y p.0.fits) (jobs-at c.number (open_jobs past) p.0.work (open-whole past p.1) p.0.is_open) (subst (λ (r : WorkResult). IsNextToken r past) y k.0))
    e (λ h. get_owned page turn d past p.1 k.1 h)
  where
    unchanged : slice_get (descriptors_on page past ++ []) turn ≡ Some d → slice_get (descriptors_on page past) turn ≡ Some d
    unchanged h = ap (λ (t : List Descriptor). slice_get t turn) (sym (append-nil (descriptors_on page past))) ∙ h

    by_page : (x : Descriptor) (t : Bool) → ((token_of_descriptor x).page == page) ≡ t → x ≡ descriptor_of_load (token_of_descriptor x).page (length (descriptors_on (token_of_descriptor x).page past)) 4096
        → slice_get (descriptors_on page past ++ cond t (x ∷ []) []) turn ≡ Some d → (slice_get (descriptors_on page past) turn ≡ Some d → d ≡ descriptor_of_load page turn 4096) → d ≡ descriptor_of_load page turn 4096
    by_page x false q own h ih = ih (unchanged h)
    by_page x true q own h ih = by_last (get_last (descriptors_on page past) x turn d h) where
      same : (token_of_descriptor x).page ≡ page
      same = grind (arith, nat_tests)

      by_last : (slice_get (descriptors_on page past) turn ≡ Some d) ⊎ ((turn ≡ length (descriptors_on page past)) × (d ≡ x)) → d ≡ descriptor_of_load page turn 4096
      by_last (inl a) = ih a
      by_last (inr a) = a.1 ∙ own ∙ ap (λ (z : ℕ). descriptor_of_load z (length (descriptors_on z past)) 4096) same ∙ ap (λ (z : ℕ). descriptor_of_load page z 4096) (sym a.0)

    by_result : (r : WorkResult) → ((x : Descriptor) → c.result ≡ Loaded x → x ≡ descriptor_of_load (token_of_descriptor x).page (length (descriptors_on (token_of_descriptor x).page past)) 4096)
        → slice_get (descriptors_on page past ++ loaded_by page c.result) turn ≡ Some d → (slice_get (descriptors_on page past) turn ≡ Some d → d ≡ descriptor_of_load page turn 4096) → d ≡ descriptor_of_load page turn 4096
    by_result r own h ih = go c.result refl (ap (λ (x : WorkResult). slice_get (descriptors_on page past ++ loaded_by page x) turn) refl ∙ h) where
      go : (x : WorkResult) → c.result ≡ x → slice_get (descriptors_on page past ++ loaded_by page x) turn ≡ Some d → d ≡ descriptor_of_load page turn 4096
      go (Loaded x) q f = by_page x ((token_of_descriptor x).page == page) refl (own x q) f ih
      go (Fetched bytes) q f = ih (unchanged f)
      go Placed q f = ih (unchanged f)
      go (Unloaded bytes) q f = ih (unchanged f)
      go (Refused status) q f = ih (unchanged f)
get_owned page turn d (Received bytes ∷ past) p k e = get_owned page turn d past p.1 k e

-- the descriptors of a READ are those of its round
pub read_named : (count i rounds : ℕ) (past : List ClientEvent) (ds : List Descriptor) → IsGet channels.V1 past → HasPoolTokens past → descriptors_loaded count i rounds past ≡ Some ds
    → ds ≡ read_descriptors count i (rounds + 1)
read_named zero i rounds past ds p k e = (let h : ds ≡ [] = cc in h)
read_named (suc count) i rounds past ds p k e =
    by_parts (slice_get (descriptors_on i past) rounds) (descriptors_loaded count (i + 1) rounds past) refl refl e (λ later h. read_named count (i + 1) rounds past later p k h) where
      same : (xs ys : List Descriptor) → Some xs ≡ Some ys → ys ≡ xs
      same xs ys h = cc

      by_parts : (o : Option Descriptor) (l : Option (List Descriptor)) → slice_get (descriptors_on i past) rounds ≡ o → descriptors_loaded count (i + 1) rounds past ≡ l → in_front o l ≡ Some ds
          → ((later : List Descriptor) → descriptors_loaded count (i + 1) rounds past ≡ Some later → later ≡ read_descriptors count (i + 1) (rounds + 1))
          → ds ≡ descriptor_of_load i (rounds + 1 - 1) 4096 ∷ read_descriptors count (i + 1) (rounds + 1)
      by_parts None l q r h ih = absurd (let b : ⊥ = cc in b)
      by_parts (Some d) None q r h ih = absurd (let b : ⊥ = cc in b)
      by_parts (Some d) (Some later) q r h ih =
          same (d ∷ later) ds h
          ∙ ap (λ (x : Descriptor). x ∷ later) (get_owned i rounds d past p k q ∙ ap (λ (n : ℕ). descriptor_of_load i n 4096) (let z : rounds ≡ rounds + 1 - 1 = omega arith in z))
          ∙ ap (λ (x : List Descriptor). descriptor_of_load i (rounds + 1 - 1) 4096 ∷ x) (ih later r)
