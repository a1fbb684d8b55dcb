use Rattle.std.proofs.Common.{ℕ, refl, sym, ap, ◌∙◌}
use Rattle.std.specs.List.{position}
use Rattle.file_pasts.specs.ClientPast.{open_jobs, job_at}
use Rattle.file_transfer.proofs.ClientJobsLemmas.{not_found, frees-is, stand-completed, is_number}
use Rattle.file_transfer.proofs.client_jobs.Jobs.complete.Goals as goal

pub returns-in_default-clause-kept : goal.returns-in_default-clause-kept
returns-in_default-clause-kept c = λ came_due past work s h. absurd (not_found c.args.number (open_jobs past) work c.args.self.now.outstanding.items s.outstanding h c.in_default.ensures.value)

pub returns-in_default-clause-page : goal.returns-in_default-clause-page
returns-in_default-clause-page c = λ came_due past work s h. absurd (not_found c.args.number (open_jobs past) work c.args.self.now.outstanding.items s.outstanding h c.in_default.ensures.value)

pub returns-in_default-clause-after : goal.returns-in_default-clause-after
returns-in_default-clause-after c = λ came_due past work d s h e. absurd (not_found c.args.number (open_jobs past) work c.args.self.now.outstanding.items s.outstanding h c.in_default.ensures.value)

pub returns-clause-page : goal.returns-clause-page
returns-clause-page c = λ came_due past work s h. frees-is c.args.number c.in-Some.place (open_jobs past) work c.args.self.now.outstanding.items c.remove-job.result s.outstanding h c.in-Some.ensures.value c.remove-job.ensures.value

pub returns-clause-after : goal.returns-clause-after
returns-clause-after c = λ came_due past work d s h e.
    stand-completed came_due past work d c.args.self.now _ c.in-Some.place s (ap (λ (n : ℕ). job_at n (open_jobs past)) e ∙ h)
    (c.in-Some.ensures.value ∙ ap (λ (n : ℕ). position (is_number n) c.args.self.now.outstanding.items) (sym e)) refl refl c.remove-job.ensures.items
