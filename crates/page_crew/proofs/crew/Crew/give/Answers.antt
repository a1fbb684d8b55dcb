use Rattle.std.proofs.Common.{◌≡◌, ◌%◌, List, length, sym, ap, ◌∙◌, subst}
use Rattle.std.specs.Prelude.{OnOk}
use Rattle.std.proofs.lemmas.List.{with_items_is}
use Rattle.std.proofs.lemmas.Result.{on_ok_weaker}
use Rattle.page_workers.specs.Turns.{page_of_work}
use Rattle.page_workers.specs.Workers.{WorkerState}
use Rattle.page_crew.specs.Crews.{CrewState, workers_of, lines_of, dones_of, HasGiven, IsGivenAt}
use Rattle.page_crew.proofs.CrewOf.{crew, by-clients, by-servers}
use Rattle.page_crew.proofs.Giving.{place-is, client-given, server-given, given-lines, given-dones}
use Rattle.page_crew.proofs.crew.Crew.give.Goals as goal

pub returns-in-Client-clause-given : goal.returns-in-Client-clause-given
returns-in-Client-clause-given c =
    let news = c.give_to.new.workers in
    let whole : length news ≡ c.self.inside.clients.len = search in
    let was = crew c.self.inside.region c.self.inside.clients.items c.self.inside.servers.items in
    let count : c.count.result ≡ length was.clients = c.count.ensures.number ∙ ap (λ (x : CrewState). length x.clients) (sym c.self.view_is) in
    let place : c.from-place.result ≡ page_of_work c.args.job.work % length was.clients =
    place-is (page_of_work c.args.job.work) c.count.result c.worker_for-worker.result c.from-place.result (length was.clients) count c.worker_for-worker.ensures.number c.from-place.ensures in
    by-clients (λ end a b. OnOk c.give_to.result (HasGiven end c.args.job a b)) c.args.end was c.args.self.now _ news c.in-Client.is c.self.view_is
    (with_items_is c.self.inside.clients news whole)
    (on_ok_weaker c.give_to.result (client-given c.args.job was news c.from-place.result place)
    (subst (λ (ws : List WorkerState). OnOk c.give_to.result (IsGivenAt c.from-place.result c.args.job ws news)) c.deref_mut.ensures.value c.give_to.ensures.given))

pub returns-in-Client-clause-lines : goal.returns-in-Client-clause-lines
returns-in-Client-clause-lines c =
    let news = c.give_to.new.workers in
    let whole : length news ≡ c.self.inside.clients.len = search in
    by-clients (λ end a b. lines_of (workers_of end b) ≡ lines_of (workers_of end a)) c.args.end
    (crew c.self.inside.region c.self.inside.clients.items c.self.inside.servers.items) c.args.self.now _ news c.in-Client.is c.self.view_is
    (with_items_is c.self.inside.clients news whole)
    (subst (λ (ws : List WorkerState). lines_of news ≡ lines_of ws) c.deref_mut.ensures.value
    (given-lines c.give_to.result c.from-place.result c.args.job c.deref_mut.result.now news c.give_to.ensures.given c.give_to.ensures.same))

pub returns-in-Client-clause-done : goal.returns-in-Client-clause-done
returns-in-Client-clause-done c =
    let news = c.give_to.new.workers in
    let whole : length news ≡ c.self.inside.clients.len = search in
    by-clients (λ end a b. dones_of (workers_of end b) ≡ dones_of (workers_of end a)) c.args.end
    (crew c.self.inside.region c.self.inside.clients.items c.self.inside.servers.items) c.args.self.now _ news c.in-Client.is c.self.view_is
    (with_items_is c.self.inside.clients news whole)
    (subst (λ (ws : List WorkerState). dones_of news ≡ dones_of ws) c.deref_mut.ensures.value
    (given-dones c.give_to.result c.from-place.result c.args.job c.deref_mut.result.now news c.give_to.ensures.given c.give_to.ensures.same))

pub returns-in-Server-clause-given : goal.returns-in-Server-clause-given
returns-in-Server-clause-given c =
    let news = c.give_to-in-Server.new.workers in
    let whole : length news ≡ c.self.inside.servers.len = search in
    let was = crew c.self.inside.region c.self.inside.clients.items c.self.inside.servers.items in
    let count : c.count.result ≡ length was.clients = c.count.ensures.number ∙ ap (λ (x : CrewState). length x.clients) (sym c.self.view_is) in
    let place : c.from-place.result ≡ page_of_work c.args.job.work % length was.clients =
    place-is (page_of_work c.args.job.work) c.count.result c.worker_for-worker.result c.from-place.result (length was.clients) count c.worker_for-worker.ensures.number c.from-place.ensures in
    by-servers (λ end a b. OnOk c.give_to-in-Server.result (HasGiven end c.args.job a b)) c.args.end was c.args.self.now _ news c.in-Server.is c.self.view_is
    (with_items_is c.self.inside.servers news whole)
    (on_ok_weaker c.give_to-in-Server.result (server-given c.args.job was news c.from-place.result place)
    (subst (λ (ws : List WorkerState). OnOk c.give_to-in-Server.result (IsGivenAt c.from-place.result c.args.job ws news)) c.deref_mut-in-Server.ensures.value c.give_to-in-Server.ensures.given))

pub returns-in-Server-clause-lines : goal.returns-in-Server-clause-lines
returns-in-Server-clause-lines c =
    let news = c.give_to-in-Server.new.workers in
    let whole : length news ≡ c.self.inside.servers.len = search in
    by-servers (λ end a b. lines_of (workers_of end b) ≡ lines_of (workers_of end a)) c.args.end
    (crew c.self.inside.region c.self.inside.clients.items c.self.inside.servers.items) c.args.self.now _ news c.in-Server.is c.self.view_is
    (with_items_is c.self.inside.servers news whole)
    (subst (λ (ws : List WorkerState). lines_of news ≡ lines_of ws) c.deref_mut-in-Server.ensures.value
    (given-lines c.give_to-in-Server.result c.from-place.result c.args.job c.deref_mut-in-Server.result.now news c.give_to-in-Server.ensures.given c.give_to-in-Server.ensures.same))

pub returns-in-Server-clause-done : goal.returns-in-Server-clause-done
returns-in-Server-clause-done c =
    let news = c.give_to-in-Server.new.workers in
    let whole : length news ≡ c.self.inside.servers.len = search in
    by-servers (λ end a b. dones_of (workers_of end b) ≡ dones_of (workers_of end a)) c.args.end
    (crew c.self.inside.region c.self.inside.clients.items c.self.inside.servers.items) c.args.self.now _ news c.in-Server.is c.self.view_is
    (with_items_is c.self.inside.servers news whole)
    (subst (λ (ws : List WorkerState). dones_of news ≡ dones_of ws) c.deref_mut-in-Server.ensures.value
    (given-dones c.give_to-in-Server.result c.from-place.result c.args.job c.deref_mut-in-Server.result.now news c.give_to-in-Server.ensures.given c.give_to-in-Server.ensures.same))
