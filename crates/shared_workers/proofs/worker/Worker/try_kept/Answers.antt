use Rattle.std.proofs.Common.{rules, ap, sym, subst}
use Rattle.shared_pages.specs.declared.page_pass.PagePass.{PagePass}
use Rattle.shared_pages.specs.Calls.{known_by, opening_of}
use Rattle.page_workers.specs.declared.kept.Tried.{Tried}
use Rattle.shared_workers.specs.Tries.{HasTried}
use Rattle.shared_workers.specs.Workers.{WorkerState, kept_after, is_finished}
use Rattle.shared_workers.proofs.AnswerLemmas.{tried-left}
use Rattle.shared_workers.proofs.worker.Worker.try_kept.Goals as goal

pub returns-in-Begun-clause-tried : goal.returns-in-Begun-clause-tried
returns-in-Begun-clause-tried c =
    let t = c.try_once-tried.result.tried in
    let is = c.self.view_is in
    tried-left (opening_of c.args.region.now.pages) c.args.self.now _ c.in-Some.kept t c.try_once-tried.result.line (search rules)
    (subst (λ (p : PagePass). HasTried (opening_of c.args.region.now.pages) c.in-Some.kept t c.try_once-tried.result.line (known_by p) (known_by c.try_once-tried.new.pass))
    (ap (λ (w : WorkerState). w.pass) is) c.try_once-tried.ensures.tried)
    (ap (λ (x : Tried). is_finished x) c.in-Begun.is) (sym (ap (λ (x : Tried). kept_after c.in-Some.kept x) c.in-Begun.is))
    (ap (λ (w : WorkerState). w.number) is) (ap (λ (w : WorkerState). w.jobs) is) (ap (λ (w : WorkerState). w.done) is) c.requires.sent (search rules) (search rules)

pub returns-in-Refused-clause-tried : goal.returns-in-Refused-clause-tried
returns-in-Refused-clause-tried c =
    let t = c.try_once-tried.result.tried in
    let is = c.self.view_is in
    tried-left (opening_of c.args.region.now.pages) c.args.self.now _ c.in-Some.kept t c.try_once-tried.result.line (search rules)
    (subst (λ (p : PagePass). HasTried (opening_of c.args.region.now.pages) c.in-Some.kept t c.try_once-tried.result.line (known_by p) (known_by c.try_once-tried.new.pass))
    (ap (λ (w : WorkerState). w.pass) is) c.try_once-tried.ensures.tried)
    (ap (λ (x : Tried). is_finished x) c.in-Refused.is) (search rules)
    (ap (λ (w : WorkerState). w.number) is) (ap (λ (w : WorkerState). w.jobs) is) (ap (λ (w : WorkerState). w.done) is) c.requires.sent (search rules) (search rules)
