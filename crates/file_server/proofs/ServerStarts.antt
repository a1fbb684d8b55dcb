-- What is due as soon as a request is handled.
use Rattle.std.proofs.Common.{◌≡◌, ℕ, ◌-◌, ◌≤◌, ◌==◌, ◌&&◌, Bool, true, false, cond, Option, Some, None, List, [], ◌∷◌, length, map, refl, ap, ◌∙◌, arith}
use Rattle.std.specs.Prelude.{if◌then◌else◌}
use Rattle.std.proofs.lemmas.Bool.Decides.{nat_tests}
use Rattle.buffer_descriptor.specs.declared.descriptor.Descriptor.{Descriptor}
use Rattle.file_messages.specs.declared.kind.CopyKind.{CopyKind}
use Rattle.file_messages.specs.declared.message.Request.{Request}
use Rattle.file_messages.specs.declared.job.Work.{Work}
use Rattle.file_messages.specs.declared.job.Work.TheVariants.{Fetch}
use Rattle.file_messages.specs.declared.job.WorkResult.{WorkResult}
use Rattle.file_messages.specs.Messages.{WRITE, READ}
use Rattle.file_pasts.specs.ServerDue.{ServerEvent, handled, standing_status, source_in_hand, jobs_given, jobs_in_hand, jobs_due, jobs_of, jobs_if_handled, places_in_hand, group_in_hand, group_of, result_at}
use Rattle.file_server.specs.ServerTurn.{outcomes_so_far, all_of, total_in, IsWithinBounds, first_jobs, jobs_at_start, first_group, group_at_start}
use Rattle.file_server.proofs.ServerOutcomes.{outcomes-ahead, total-fetches}
use Rattle.file_server.proofs.ServerPasts.{group_with, group-is}

abbrev jobs_with : Request → Option (List ℕ) → List Work
jobs_with r source = if r.op == WRITE then map (λ (d : Descriptor). Fetch d) r.descriptors else if r.op == READ then places_in_hand r source else []

pub due-start : (kind : CopyKind) (past : List ServerEvent) → source_in_hand past ≡ None → jobs_due kind past ≡ jobs_at_start (standing_status past) (handled kind past)
due-start kind past e = by_handled (handled kind past) where
  by_handled : (o : Option Request) → jobs_if_handled kind o past ≡ jobs_at_start (standing_status past) o
  by_handled None = refl
  by_handled (Some r) =
      let jobs : jobs_of r past ≡ jobs_with r None = ap (λ (s : Option (List ℕ)). jobs_with r s) e in
      let none : cond (r.op == READ) (places_in_hand r None) [] ≡ [] = by_op (r.op == READ) in
      ap (λ (ws : List Work). cond (standing_status past == 0) ws []) (jobs ∙ ap (λ (ws : List Work). cond (r.op == WRITE) (map (λ (d : Descriptor). Fetch d) r.descriptors) ws) none)
    where
      by_op : (t : Bool) → cond {A = List Work} t [] [] ≡ []
      by_op true = refl
      by_op false = refl

pub outcomes-start : (kind : CopyKind) (past : List ServerEvent) → jobs_in_hand past ≡ 0 → ((n : ℕ) → jobs_given past ≤ n → result_at n past ≡ None)
    → outcomes_so_far kind past ≡ map (λ (w : Work). None) (jobs_due kind past)
outcomes-start kind past e ahead = outcomes-ahead (jobs_given past - jobs_in_hand past) (jobs_due kind past) past (λ m h. ahead m (omega arith))

-- the group is there at once just where no page is to be read
group-first : (r : Request) (status : ℕ) → IsWithinBounds r → group_with (Some r) status (all_of (map (λ (w : Work). None) (first_jobs status r))) ≡ first_group status r
group-first r status q = by_status (status == 0) refl where
  by_status : (t : Bool) → (status == 0) ≡ t → group_with (Some r) status (all_of (map (λ (w : Work). None) (first_jobs status r))) ≡ first_group status r
  by_status false e = rw e refl
  by_status true e = rw e (by_op (r.op == WRITE) refl) where
    by_op : (t : Bool) → (r.op == WRITE) ≡ t
        → group_of r (all_of (map (λ (w : Work). None) (cond (r.op == WRITE) (map (λ (d : Descriptor). Fetch d) r.descriptors) []))) ≡ cond (r.op == WRITE && r.channel == 0) (r.inline ∷ []) []
    by_op false w = rw w (rw w refl)
    by_op true w = by_channel (r.channel == 0) refl where
      by_channel : (t : Bool) → (r.channel == 0) ≡ t
          → group_of r (all_of (map (λ (w : Work). None) (cond (r.op == WRITE) (map (λ (d : Descriptor). Fetch d) r.descriptors) []))) ≡ cond (r.op == WRITE && r.channel == 0) (r.inline ∷ []) []
      by_channel true h =
          let none : r.descriptors ≡ [] = q.plain (rw (w, h) refl) in
          rw (w, none, h) (rw w refl)
      by_channel false h =
          let some : 1 ≤ length r.descriptors = q.some (rw (w, h) refl) in
          rw (w, h) (missing r.descriptors some)
        where
          missing : (ds : List Descriptor) → 1 ≤ length ds → group_of r (all_of (map (λ (w : Work). None) (map (λ (d : Descriptor). Fetch d) ds))) ≡ []
          missing [] h = absurd (omega arith)
          missing (d ∷ ds) h = refl

pub group-start : (kind : CopyKind) (past : List ServerEvent) → source_in_hand past ≡ None → jobs_in_hand past ≡ 0
    → ((n : ℕ) → jobs_given past ≤ n → result_at n past ≡ None) → ((r : Request) → handled kind past ≡ Some r → IsWithinBounds r)
    → group_in_hand kind past ≡ group_at_start (standing_status past) (handled kind past)
group-start kind past s e ahead read = group-is kind past
    ∙ ap (λ (os : List (Option WorkResult)). group_with (handled kind past) (standing_status past) (all_of os))
    (outcomes-start kind past e ahead ∙ ap (λ (ws : List Work). map (λ (w : Work). None) ws) (due-start kind past s))
    ∙ by_handled (handled kind past) read
  where
    by_handled : (o : Option Request) → ((r : Request) → o ≡ Some r → IsWithinBounds r)
        → group_with o (standing_status past) (all_of (map (λ (w : Work). None) (jobs_at_start (standing_status past) o))) ≡ group_at_start (standing_status past) o
    by_handled None q = refl
    by_handled (Some r) q = group-first r (standing_status past) (q r refl)

length-fetches : (ds : List Descriptor) → length (map (λ (d : Descriptor). Fetch d) ds) ≡ length ds
length-fetches [] = refl
length-fetches (d ∷ ds) = omega (arith, length-fetches ds)

pub few-start : (status : ℕ) (o : Option Request) → ((r : Request) → o ≡ Some r → IsWithinBounds r) → length (jobs_at_start status o) ≤ 16
few-start status None q = at_least 16 where
  at_least : (n : ℕ) → 0 ≤ n
  at_least n = omega arith
few-start status (Some r) q = by_status (status == 0) (r.op == WRITE) where
  few : length (map (λ (d : Descriptor). Fetch d) r.descriptors) ≤ 16
  few = omega (arith, (q r refl).few, length-fetches r.descriptors)

  by_status : (t w : Bool) → length (cond {A = List Work} t (cond w (map (λ (d : Descriptor). Fetch d) r.descriptors) []) []) ≤ 16
  by_status true true = few
  by_status true false = at_least 16 where
    at_least : (n : ℕ) → 0 ≤ n
    at_least n = omega arith
  by_status false w = at_least 16 where
    at_least : (n : ℕ) → 0 ≤ n
    at_least n = omega arith

-- ---- a WRITE over registered pages

pub jobs-fetched : (status : ℕ) (r : Request) → status ≡ 0 → r.op ≡ 1 → first_jobs status r ≡ map (λ (d : Descriptor). Fetch d) r.descriptors
jobs-fetched status r s w =
    let going : (status == 0) ≡ true = grind (arith, nat_tests) in
    let write : (r.op == WRITE) ≡ true = grind (arith, nat_tests) in
    rw (going, write) refl

pub group-fetched : (status : ℕ) (r : Request) → (r.channel ≡ 0 → ⊥) → first_group status r ≡ []
group-fetched status r far =
    let over : (r.channel == 0) ≡ false = grind (arith, nat_tests) in
    rw over (by_tests (status == 0) (r.op == WRITE))
  where
    by_tests : (s w : Bool) → cond s (cond (w && false) (r.inline ∷ []) []) [] ≡ []
    by_tests true true = refl
    by_tests true false = refl
    by_tests false w = refl

pub room-fetched : (status : ℕ) (r : Request) → status ≡ 0 → r.op ≡ 1 → (r.channel ≡ 0 → ⊥) → IsWithinBounds r → total_in (first_jobs status r) ≡ r.length
room-fetched status r s w far q =
    let over : (r.channel == 0) ≡ false = grind (arith, nat_tests) in
    let write : (r.op == WRITE) ≡ true = grind (arith, nat_tests) in
    ap (λ (ws : List Work). total_in ws) (jobs-fetched status r s w) ∙ total-fetches r.descriptors ∙ q.whole (rw (write, over) refl)
