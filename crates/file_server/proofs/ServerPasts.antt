-- What is due at a server, by the request that is handled and what came of its jobs.
use Rattle.std.proofs.Common.{◌≡◌, ℕ, zero, suc, ◌-◌, ◌==◌, Bool, true, false, cond, Option, Some, None, List, [], ◌∷◌, length, refl, sym, ap, ◌∙◌, subst}
use Rattle.std.specs.Prelude.{slice_get, if◌then◌else◌}
use Rattle.file_messages.specs.declared.kind.CopyKind.{CopyKind}
use Rattle.file_messages.specs.declared.message.Request.{Request}
use Rattle.file_messages.specs.declared.message.Reply.{Reply}
use Rattle.file_messages.specs.declared.job.Work.{Work}
use Rattle.file_messages.specs.declared.job.WorkResult.{WorkResult}
use Rattle.file_messages.specs.Messages.{refusal}
use Rattle.file_pasts.specs.ServerDue.{ServerEvent, replies, requests, handled, standing_status, source_in_hand, jobs_given, jobs_in_hand, jobs_due, jobs_of, jobs_if_handled, results, group_in_hand, group_if_handled, group_of, next_reply, reply_if_handled, answer_with}
use Rattle.file_server.specs.declared.server.FileServer.{FileServer}
use Rattle.file_server.specs.ServerTurn.{outcomes_so_far, all_of, IsWithinBounds, AreAsked}
use Rattle.file_server.specs.ServerStands.{CameBy}
use Rattle.file_server.proofs.ServerLists.{next_at, none_at}
use Rattle.file_server.proofs.ServerOutcomes.{results-all}

abbrev pub group_with : Option Request → ℕ → Option (List WorkResult) → List (List ℕ)
group_with None status works = []
group_with (Some r) status works = if status == 0 then group_of r works else []

abbrev pub reply_with : Option Request → ℕ → Option (List ℕ) → Option (List WorkResult) → Option Reply
reply_with None status source works = None
reply_with (Some r) status source works = if status == 0 then answer_with r source works else Some (refusal r status)

pub results-is : (kind : CopyKind) (past : List ServerEvent) → results kind past ≡ all_of (outcomes_so_far kind past)
results-is kind past = results-all (jobs_given past - jobs_in_hand past) (jobs_due kind past) past

pub group-is : (kind : CopyKind) (past : List ServerEvent) → group_in_hand kind past ≡ group_with (handled kind past) (standing_status past) (all_of (outcomes_so_far kind past))
group-is kind past = by_handled (handled kind past) ∙ ap (λ (works : Option (List WorkResult)). group_with (handled kind past) (standing_status past) works) (results-is kind past) where
  by_handled : (o : Option Request) → group_if_handled kind o past ≡ group_with o (standing_status past) (results kind past)
  by_handled None = refl
  by_handled (Some r) = refl

pub reply-is : (kind : CopyKind) (past : List ServerEvent) → next_reply kind past ≡ reply_with (handled kind past) (standing_status past) (source_in_hand past) (all_of (outcomes_so_far kind past))
reply-is kind past = by_handled (handled kind past)
    ∙ ap (λ (works : Option (List WorkResult)). reply_with (handled kind past) (standing_status past) (source_in_hand past) works) (results-is kind past) where
      by_handled : (o : Option Request) → reply_if_handled kind o past ≡ reply_with o (standing_status past) (source_in_hand past) (results kind past)
      by_handled None = refl
      by_handled (Some r) = refl

-- ---- the request that is handled

pub handled-some : (kind : CopyKind) (past : List ServerEvent) (m : FileServer) (r : Request) (later : List Request) → CameBy kind past m → m.waiting.items ≡ r ∷ later
    → handled kind past ≡ Some r
handled-some kind past m r later c e = next_at (length (replies past)) (requests kind past).accepted r later (sym c.waiting ∙ e)

pub handled-none : (kind : CopyKind) (past : List ServerEvent) (m : FileServer) → CameBy kind past m → m.waiting.items ≡ [] → handled kind past ≡ None
handled-none kind past m c e = none_at (length (replies past)) (requests kind past).accepted (sym c.waiting ∙ e)

-- a request is handled that no refusal came before, wherever a job is due
pub record HasJobs (kind : CopyKind) (past : List ServerEvent) (r : Request) : Type 0 where
  pub handles : handled kind past ≡ Some r
  pub going : (standing_status past == 0) ≡ true
  pub jobs : jobs_due kind past ≡ jobs_of r past

pub has_jobs : (kind : CopyKind) (past : List ServerEvent) (place : ℕ) (work : Work) → slice_get (jobs_due kind past) place ≡ Some work
    → (r : Request) × HasJobs kind past r
has_jobs kind past place work e = by_handled (handled kind past) refl where
  by_handled : (o : Option Request) → handled kind past ≡ o → (r : Request) × HasJobs kind past r
  by_handled None h = absurd (let none : slice_get (jobs_if_handled kind None past) place ≡ Some work = ap (λ (o : Option Request). slice_get (jobs_if_handled kind o past) place) (sym h) ∙ e in let b : ⊥ = cc in b)
  by_handled (Some r) h = by_status (standing_status past == 0) refl where
    by_status : (t : Bool) → (standing_status past == 0) ≡ t → (r : Request) × HasJobs kind past r
    by_status true s = (
      r,
      record {
        handles = h;
        going = s;
        jobs = ap (λ (o : Option Request). jobs_if_handled kind o past) h ∙ ap (λ (t : Bool). cond t (jobs_of r past) []) s;
      },
    )
    by_status false s = absurd (let none : slice_get (cond false (jobs_of r past) []) place ≡ Some work =
        ap (λ (t : Bool). slice_get (cond t (jobs_of r past) []) place) (sym s) ∙ ap (λ (o : Option Request). slice_get (jobs_if_handled kind o past) place) (sym h) ∙ e in let b : ⊥ = cc in b)

pub request_at : (n : ℕ) (rs : List Request) (r : Request) → AreAsked rs → slice_get rs n ≡ Some r → IsWithinBounds r
request_at n [] r q e = absurd (let b : ⊥ = cc in b)
request_at zero (x ∷ rs) r q e = let same : x ≡ r = cc in subst (λ (y : Request). IsWithinBounds y) same q.0
request_at (suc n) (x ∷ rs) r q e = request_at n rs r q.1 e
