use Rattle.std.proofs.Common.{◌≡◌, List, length, map, ap, ◌∙◌}
use Rattle.std.proofs.lemmas.List.{with_items_is}
use Rattle.page_workers.specs.Workers.{WorkerState}
use Rattle.page_crew.specs.Crews.{told}
use Rattle.page_crew.proofs.CrewOf.{told-coupled}
use Rattle.page_crew.proofs.crew.Crew.clear_lines.Goals as goal

pub returns-clause-coupled : goal.returns-clause-coupled
returns-clause-coupled c = λ p h.
    let first : length c.clear_all.new.workers ≡ c.self.inside.clients.len = search in
    let second : length c.clear_all-2.new.workers ≡ c.self.inside.servers.len = search in
    told-coupled p c.args.self.now c.self.inside.region c.self.inside.clients.items c.self.inside.servers.items _ _ c.self.view_is
    (with_items_is c.self.inside.clients c.clear_all.new.workers first ∙ c.clear_all.ensures ∙ ap (λ (ws : List WorkerState). map told ws) c.deref_mut.ensures.value)
    (with_items_is c.self.inside.servers c.clear_all-2.new.workers second ∙ c.clear_all-2.ensures ∙ ap (λ (ws : List WorkerState). map told ws) c.deref_mut-2.ensures.value)
    h
