use Rattle.std.proofs.Common.{Bool, refl}
use Rattle.std.specs.Prelude.{is_ok}
use Rattle.page_workers.specs.Workers.{HaveRun}
use Rattle.page_crew.proofs.CrewOf.{crew}
use Rattle.page_crew.proofs.Running.{many-clients, many-workers, sized-still, clients-go, workers-go, when-ok, have-turned}
use Rattle.page_crew.proofs.crew.Crew.run.Goals as goal

pub invariant_of-self : goal.invariant_of-self
invariant_of-self c =
    let i = c.self.inside in
    let a = crew i.region i.clients.items i.servers.items in
    let b = crew c.run_all.new.region c.run_all.new.workers.items i.servers.items in
    sized-still a b (many-clients a a.region b.region a.clients b.clients a.servers (is_ok c.run_all.result) refl c.run_all.ensures) c.self.invariant

pub returns-in_err-run_all-clause-grew : goal.returns-in_err-run_all-clause-grew
returns-in_err-run_all-clause-grew c =
    let i = c.self.inside in
    clients-go c.args.self.now i.region c.run_all.new.region i.clients.items c.run_all.new.workers.items i.servers.items (is_ok c.run_all.result) c.self.view_is c.run_all.ensures

pub returns-in_err-run_all-clause-count : goal.returns-in_err-run_all-clause-count
returns-in_err-run_all-clause-count c =
    let i = c.self.inside in
    many-clients c.args.self.now i.region c.run_all.new.region i.clients.items c.run_all.new.workers.items i.servers.items (is_ok c.run_all.result) c.self.view_is c.run_all.ensures

pub invariant_of-self-2 : goal.invariant_of-self-2
invariant_of-self-2 c =
    let i = c.self.inside in
    let a = crew i.region i.clients.items i.servers.items in
    let b = crew c.run_all-2.new.region c.run_all.new.workers.items c.run_all-2.new.workers.items in
    sized-still a b
    (many-workers a a.region c.run_all.new.region b.region a.clients b.clients a.servers b.servers (is_ok c.run_all.result) (is_ok c.run_all-2.result) refl c.run_all.ensures c.run_all-2.ensures)
    c.self.invariant

pub returns-clause-turned : goal.returns-clause-turned
returns-clause-turned c =
    let i = c.self.inside in
    when-ok c.run_all-2.result (λ (fed : Bool). HaveRun i.servers.items c.run_all-2.new.workers.items c.run_all.new.region c.run_all-2.new.region fed) _
    (have-turned c.args.self.now i.region c.run_all.new.region c.run_all-2.new.region i.clients.items c.run_all.new.workers.items i.servers.items c.run_all-2.new.workers.items
    c.self.view_is c.in_ok-run_all.ensures)
    c.run_all-2.ensures

pub returns-clause-grew : goal.returns-clause-grew
returns-clause-grew c =
    let i = c.self.inside in
    workers-go c.args.self.now i.region c.run_all.new.region c.run_all-2.new.region i.clients.items c.run_all.new.workers.items i.servers.items c.run_all-2.new.workers.items
    (is_ok c.run_all.result) (is_ok c.run_all-2.result) c.self.view_is c.run_all.ensures c.run_all-2.ensures

pub returns-clause-count : goal.returns-clause-count
returns-clause-count c =
    let i = c.self.inside in
    many-workers c.args.self.now i.region c.run_all.new.region c.run_all-2.new.region i.clients.items c.run_all.new.workers.items i.servers.items c.run_all-2.new.workers.items
    (is_ok c.run_all.result) (is_ok c.run_all-2.result) c.self.view_is c.run_all.ensures c.run_all-2.ensures
