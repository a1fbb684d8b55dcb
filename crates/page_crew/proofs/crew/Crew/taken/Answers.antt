use Rattle.std.proofs.Common.{◌≡◌, List, length, subst}
use Rattle.std.specs.Prelude.{MatchOption}
use Rattle.std.proofs.lemmas.List.{with_items_is}
use Rattle.page_workers.specs.Workers.{WorkerState}
use Rattle.page_crew.specs.Crews.{workers_of, lines_of, HasNone, IsTakenFrom, HasTaken}
use Rattle.page_crew.proofs.CrewOf.{crew, by-clients, by-servers}
use Rattle.page_crew.proofs.Taking.{client-taken, server-taken, taken-lines}
use Rattle.page_crew.proofs.crew.Crew.taken.Goals as goal

pub returns-in-Client-clause-taken : goal.returns-in-Client-clause-taken
returns-in-Client-clause-taken c =
    let news = c.take_from.new.workers in
    let r = c.take_from.result in
    let whole : length news ≡ c.self.inside.clients.len = search in
    let was = crew c.self.inside.region c.self.inside.clients.items c.self.inside.servers.items in
    by-clients (λ end a b. MatchOption r (HasNone (workers_of end a) × (b ≡ a)) (λ d. HasTaken end d a b)) c.args.end was c.args.self.now _ news c.in-Client.is c.self.view_is
    (with_items_is c.self.inside.clients news whole)
    (client-taken r was news
    (subst (λ (ws : List WorkerState). MatchOption r (HasNone ws × (news ≡ ws)) (λ d. IsTakenFrom d ws news)) c.deref_mut.ensures.value c.take_from.ensures))

pub returns-in-Client-clause-lines : goal.returns-in-Client-clause-lines
returns-in-Client-clause-lines c =
    let news = c.take_from.new.workers in
    let whole : length news ≡ c.self.inside.clients.len = search in
    by-clients (λ end a b. lines_of (workers_of end b) ≡ lines_of (workers_of end a)) c.args.end
    (crew c.self.inside.region c.self.inside.clients.items c.self.inside.servers.items) c.args.self.now _ news c.in-Client.is c.self.view_is
    (with_items_is c.self.inside.clients news whole)
    (subst (λ (ws : List WorkerState). lines_of news ≡ lines_of ws) c.deref_mut.ensures.value
    (taken-lines c.take_from.result c.deref_mut.result.now news c.take_from.ensures))

pub returns-in-Server-clause-taken : goal.returns-in-Server-clause-taken
returns-in-Server-clause-taken c =
    let news = c.take_from-in-Server.new.workers in
    let r = c.take_from-in-Server.result in
    let whole : length news ≡ c.self.inside.servers.len = search in
    let was = crew c.self.inside.region c.self.inside.clients.items c.self.inside.servers.items in
    by-servers (λ end a b. MatchOption r (HasNone (workers_of end a) × (b ≡ a)) (λ d. HasTaken end d a b)) c.args.end was c.args.self.now _ news c.in-Server.is c.self.view_is
    (with_items_is c.self.inside.servers news whole)
    (server-taken r was news
    (subst (λ (ws : List WorkerState). MatchOption r (HasNone ws × (news ≡ ws)) (λ d. IsTakenFrom d ws news)) c.deref_mut-in-Server.ensures.value c.take_from-in-Server.ensures))

pub returns-in-Server-clause-lines : goal.returns-in-Server-clause-lines
returns-in-Server-clause-lines c =
    let news = c.take_from-in-Server.new.workers in
    let whole : length news ≡ c.self.inside.servers.len = search in
    by-servers (λ end a b. lines_of (workers_of end b) ≡ lines_of (workers_of end a)) c.args.end
    (crew c.self.inside.region c.self.inside.clients.items c.self.inside.servers.items) c.args.self.now _ news c.in-Server.is c.self.view_is
    (with_items_is c.self.inside.servers news whole)
    (subst (λ (ws : List WorkerState). lines_of news ≡ lines_of ws) c.deref_mut-in-Server.ensures.value
    (taken-lines c.take_from-in-Server.result c.deref_mut-in-Server.result.now news c.take_from-in-Server.ensures))
