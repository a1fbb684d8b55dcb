-- Completions that are handed to the machines of a copy, and jobs that they give.
use Rattle.std.proofs.Common.{◌≡◌, Result, Ok, Err, OnOk, List, [], ◌∷◌, refl, sym, ap, ◌∙◌, subst}
use Rattle.smbd_base.specs.declared.end_id.EndId.TheVariants.{Client, Server}
use Rattle.file_pasts.specs.ClientPast.{ClientEvent}
use Rattle.file_pasts.specs.ServerDue.{ServerEvent}
use Rattle.file_pasts.specs.ServerLaws.{groups_given}
use Rattle.file_server.specs.declared.server.FileServer.{FileServer}
use Rattle.page_workers.specs.Workers.{WorkerState}
use Rattle.copy_laws.specs.Coupled.{Pasts}
use Rattle.copy_ends.specs.declared.client_machine.ClientMachine.{ClientMachine}
use Rattle.page_crew.specs.Crews.{CrewState, HasNone, dones_of}
use Rattle.copy_jobs.specs.Jobs.{ClientWith, ServerWith, IsSameBut, ClientHanded, ServerHanded, client_completed, server_completed, ClientGiven, ServerGiven, client_gave, server_gave}
use Rattle.copy_parts.specs.declared.options.CopyOptions.{CopyOptions}
use Rattle.copy_parts.specs.declared.parts.Parts.{Parts}
use Rattle.copy_parts.specs.Copies.{IsUnderWay, Stands}
use Rattle.copy_parts.specs.Steps.{KeepsBytes, KeepsHistory, NoneWaits, HasHanded, HasGiven}
use Rattle.copy_parts.proofs.JobsLeave.{left-given, wants-given}
use Rattle.copy_parts.proofs.Quiet.{SaysSame, BringsSame, RepliesSame, FillsSame, completed-says, completed-brings, served-replies, served-fills, served-groups, gave-says, gave-brings, works-replies, works-fills, works-groups}
use Rattle.copy_parts.proofs.Manned.{IsAsLarge, large-client, large-server, manned-so}
use Rattle.copy_parts.proofs.UnderWay.{client-lawful, carries-server, client-bytes, server-bytes, bytes-kept, copyable-kept, client-on, server-on}

-- ---- both machines and all workers went on

abbrev with_both : List ClientEvent → List ServerEvent → Pasts → Pasts
with_both client server p = record p { client = client; server = server }

abbrev parts_after : Parts → ClientMachine → FileServer → CrewState → Parts
parts_after a m s d = record { world = a.world; client = m; server = s; crew = d; left = a.left }

record HaveGoneOn (o : CopyOptions) (p q : Pasts) (a b : Parts) : Type 0 where
  stands : Stands o q b
  bytes : KeepsBytes o p q
  history : KeepsHistory p q a b

both-on : (o : CopyOptions) (p : Pasts) (client : List ClientEvent) (server : List ServerEvent) (a : Parts) (m : ClientMachine) (s : FileServer) (c d : CrewState)
    → Stands o p a → SaysSame p.client client → BringsSame p.client client → IsSameBut Client a.crew c → ClientWith o.kind o.channel o.limits.pages (record p { client = client }) m c
    → RepliesSame p.server server → FillsSame p.server server → groups_given server ≡ groups_given p.server → IsSameBut Server c d → ServerWith o.kind (with_both client server p) s d
    → HaveGoneOn o p (with_both client server p) a (parts_after a m s d)
both-on o p client server a m s c d h says brings same first replies fills groups also second =
    let q : Pasts = record p { client = client } in
    let r : Pasts = with_both client server p in
    let less : IsAsLarge a.crew c = large-client a.crew c same in
    let more : IsAsLarge c d = large-server c d also in
    let client-kept : KeepsBytes o p q = client-bytes o p client brings in
    let server-kept : KeepsBytes o q r = server-bytes o q server fills groups in
    let u : IsUnderWay o q a.world c =
    client-on o p client a.world a.crew c says (client-lawful o.kind o.channel o.limits.pages client m first.came)
    (copyable-kept o p q client-kept h.under_way.ruled.copyable)
    (manned-so o p q a.crew c less.clients less.servers less.pages first.coupled h.under_way.manned) h.under_way in
    record {
      stands = record {
        under_way = server-on o q server a.world c d replies second.came.in_turn.lawful (copyable-kept o q r server-kept u.ruled.copyable)
            (carries-server o.kind o.channel q server fills u.ruled.carried) (manned-so o q r c d more.clients more.servers more.pages second.coupled u.manned) u;
        client = first.came;
        server = second.came;
        left = h.left;
      };
      bytes = bytes-kept o p q r client-kept server-kept;
      history = record {
        pool = refl;
        world = refl;
        clients = more.client_lines ∙ less.client_lines;
        servers = more.server_lines ∙ less.server_lines;
      };
    }

-- ---- completions

pub handed : (o : CopyOptions) (p : Pasts) (a : Parts) (m : ClientMachine) (s : FileServer) (c d : CrewState) → Stands o p a
    → ClientHanded o.kind o.channel o.limits.pages p m c → IsSameBut Client a.crew c → HasNone c.clients
    → ((q : Pasts) → ServerWith o.kind q a.server c → ServerHanded o.kind q s d) → IsSameBut Server c d → HasNone d.servers
    → HasHanded o p a (parts_after a m s d)
handed o p a m s c d h first same none then also empty =
    let client : List ClientEvent = client_completed first.completions p.client in
    let second : ServerHanded o.kind (record p { client = client }) s d = then (record p { client = client }) (record { came = h.server; coupled = first.stands.coupled }) in
    let server : List ServerEvent = server_completed second.completions p.server in
    let on : HaveGoneOn o p (with_both client server p) a (parts_after a m s d) =
    both-on o p client server a m s c d h (completed-says first.completions p.client) (completed-brings first.completions p.client) same first.stands
    (served-replies second.completions p.server) (served-fills second.completions p.server) (served-groups second.completions p.server) also second.stands in
    record {
      later = with_both client server p;
      stands = on.stands;
      bytes = on.bytes;
      history = on.history;
      none = record { clients = subst (λ (ws : List WorkerState). HasNone ws) (sym (ap (λ (x : CrewState). x.clients) also.others)) none; servers = empty };
    }

-- ---- jobs

none-still : (ws vs : List WorkerState) → dones_of vs ≡ dones_of ws → HasNone ws → HasNone vs
none-still [] [] e h = tt
none-still [] (v ∷ vs) e h = absurd (let no : ⊥ = cc in no)
none-still (w ∷ ws) [] e h = absurd (let no : ⊥ = cc in no)
none-still (w ∷ ws) (v ∷ vs) e h =
    let head : v.done ≡ w.done = cc in
    let tail : dones_of vs ≡ dones_of ws = cc in
    (head ∙ h.0, none-still ws vs tail h.1)

none-waits : (a c d : CrewState) → IsSameBut Client a c → dones_of c.clients ≡ dones_of a.clients → IsSameBut Server c d → dones_of d.servers ≡ dones_of c.servers
    → NoneWaits a → NoneWaits d
none-waits a c d same clients also servers none = record {
  clients = none-still a.clients d.clients (ap (λ (x : CrewState). dones_of x.clients) also.others ∙ clients) none.clients;
  servers = none-still a.servers d.servers (servers ∙ ap (λ (x : CrewState). dones_of x.servers) same.others) none.servers;
}

all-given : (o : CopyOptions) (p : Pasts) (a : Parts) (m : ClientMachine) (s : FileServer) (c d : CrewState) → Stands o p a
    → (first : ClientGiven o.kind o.channel o.limits.pages p m c) → IsSameBut Client a.crew c → dones_of c.clients ≡ dones_of a.crew.clients
    → ServerGiven o.kind (record p { client = client_gave first.works p.client }) s d → IsSameBut Server c d → dones_of d.servers ≡ dones_of c.servers
    → HasGiven o p a (parts_after a m s d)
all-given o p a m s c d h first same clients second also servers =
    let client : List ClientEvent = client_gave first.works p.client in
    let server : List ServerEvent = server_gave second.works p.server in
    let on : HaveGoneOn o p (with_both client server p) a (parts_after a m s d) =
    both-on o p client server a m s c d h (gave-says first.works p.client) (gave-brings first.works p.client) same first.stands
    (works-replies second.works p.server) (works-fills second.works p.server) (works-groups second.works p.server) also second.stands in
    record {
      later = with_both client server p;
      stands = on.stands;
      bytes = on.bytes;
      history = on.history;
      none = record { client = first.none; server = second.none };
      left = left-given o.kind o.channel first.works second.works p;
      wants = wants-given o.kind o.channel o.limits.pages first.works second.works p;
      waits = none-waits a.crew c d same clients also servers;
    }

pub given : {T E : Type 0} (r : Result T E) (o : CopyOptions) (p : Pasts) (a : Parts) (m : ClientMachine) (s : FileServer) (c d : CrewState) → Stands o p a
    → ClientGiven o.kind o.channel o.limits.pages p m c → IsSameBut Client a.crew c → dones_of c.clients ≡ dones_of a.crew.clients
    → ((q : Pasts) → ServerWith o.kind q a.server c → OnOk r (ServerGiven o.kind q s d)) → OnOk r (IsSameBut Server c d) → OnOk r (dones_of d.servers ≡ dones_of c.servers)
    → OnOk r (HasGiven o p a (parts_after a m s d))
given (Ok x) o p a m s c d h first same clients then also servers =
    all-given o p a m s c d h first same clients
    (then (record p { client = client_gave first.works p.client }) (record { came = h.server; coupled = first.stands.coupled })) also servers
given (Err e) o p a m s c d h first same clients then also servers = tt
