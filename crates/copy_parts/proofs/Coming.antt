-- A group that waits for the sink comes out.
use Rattle.std.proofs.Common.{◌≡◌, ℕ, ◌+◌, ◌-◌, ◌<◌, ◌≤◌, ◌==◌, cond, Option, Some, None, List, [], ◌∷◌, ◌++◌, length, drop, refl, sym, ap, ◌∙◌, subst, arith, length-drop}
use Rattle.std.specs.Prelude.{IfSome, MatchOption}
use Rattle.world_core.specs.Run.{State}
use Rattle.file_messages.specs.declared.kind.Channel.{Channel}
use Rattle.file_messages.specs.declared.kind.CopyKind.{CopyKind}
use Rattle.file_messages.specs.declared.kind.CopyKind.TheVariants as kinds
use Rattle.file_messages.specs.declared.message.Request.{Request}
use Rattle.file_messages.specs.declared.job.Work.{Work}
use Rattle.file_messages.specs.declared.job.WorkResult.{WorkResult}
use Rattle.file_messages.specs.Written.{IsCopyable}
use Rattle.file_pasts.specs.ClientPast.{ClientEvent, Received}
use Rattle.file_pasts.specs.GetDue as gets
use Rattle.file_pasts.specs.ServerDue as server
use Rattle.file_pasts.specs.ServerDue.{ServerEvent, Stored}
use Rattle.file_transfer.specs.GetStands.{after_receiving}
use Rattle.file_server.specs.declared.server.FileServer.{FileServer}
use Rattle.file_server.specs.ServerStands.{CameBy, after_storing}
use Rattle.copy_laws.specs.Coupled.{Pasts}
use Rattle.copy_laws.specs.Kinds.{IsClient, group_due}
use Rattle.copy_laws.specs.Steps.{client_after, server_after}
use Rattle.copy_runs.specs.CopyPasts.{bytes_of, ended_of, group_left}
use Rattle.copy_runs.proofs.CopiesCarry.{servers-carry}
use Rattle.copy_ends.specs.declared.client_machine.ClientMachine.{ClientMachine}
use Rattle.copy_ends.specs.declared.client_machine.ClientMachine.TheVariants.{Put, Get}
use Rattle.copy_ends.specs.Clients.{ClientCameBy}
use Rattle.page_crew.specs.Crews.{CrewState}
use Rattle.copy_parts.specs.declared.options.CopyOptions.{CopyOptions}
use Rattle.copy_parts.specs.declared.parts.Parts.{Parts}
use Rattle.copy_parts.specs.Copies.{IsUnderWay, Stands}
use Rattle.copy_parts.specs.Steps.{groups_at, groups_waiting, HasComeOut, HasNoGroup}
use Rattle.copy_parts.proofs.UnderWay.{copy-of, client-on, server-on}
use Rattle.copy_parts.proofs.Manned.{client-manned, server-manned}

-- ---- out of a put's server

stored-bytes : (kind : CopyKind) (group : List ℕ) (p : Pasts) → bytes_of kind (server_after (Stored group) p) ≡ bytes_of kind p
stored-bytes kinds.Put group p = refl
stored-bytes kinds.Get group p = refl

stored-ended : (kind : CopyKind) (group : List ℕ) (p : Pasts) → ended_of kind (server_after (Stored group) p) ≡ ended_of kind p
stored-ended kinds.Put group p = refl
stored-ended kinds.Get group p = refl

stored-on : (o : CopyOptions) (p : Pasts) (group : List ℕ) (w : State) (c : CrewState) → server.next_group o.kind p.server ≡ Some group → IsUnderWay o p w c
    → IsUnderWay o (server_after (Stored group) p) w c
stored-on o p group w c due u =
    server-on o p (Stored group ∷ p.server) w c c (record { replied = refl; asked = refl }) (due, u.ruled.server)
    (subst (λ (bytes : List ℕ). IsCopyable bytes) (sym (stored-bytes o.kind group p)) u.ruled.copyable)
    (servers-carry o.kind o.channel o.workers o.limits.pages p c.region.pages c.clients c.servers (Stored group) (copy-of o p w c u) due)
    (server-manned o p c (Stored group ∷ p.server) (record { given = refl; done = refl }) u.manned) u

pub put-next : (o : CopyOptions) (p : Pasts) (found : Option (List ℕ)) (a : Parts) (m : FileServer) → o.kind ≡ kinds.Put → Stands o p a → found ≡ server.next_group o.kind p.server
    → CameBy o.kind (after_storing (server.next_group o.kind p.server) p.server) m
    → MatchOption found (HasNoGroup o p a (record a { server = m })) (λ group. HasComeOut o p group a (record a { server = m }))
put-next o p None a m put s due after = record {
  none = subst (λ (k : CopyKind). group_left k o.channel p ≡ None) (sym put) (ap (λ (k : CopyKind). server.next_group k p.server) (sym put) ∙ sym due);
  stands = record {
    under_way = s.under_way;
    client = s.client;
    server = subst (λ (x : Option (List ℕ)). CameBy o.kind (after_storing x p.server) m) (sym due) after;
    left = s.left;
  };
  history = record { pool = refl; world = refl; clients = refl; servers = refl };
  crew = refl;
}
put-next o p (Some group) a m put s due after = record {
  later = server_after (Stored group) p;
  stands = record {
    under_way = stored-on o p group a.world a.crew (sym due) s.under_way;
    client = s.client;
    server = subst (λ (x : Option (List ℕ)). CameBy o.kind (after_storing x p.server) m) (sym due) after;
    left = s.left;
  };
  bytes = stored-bytes o.kind group p;
  ended = stored-ended o.kind group p;
  groups = rw put refl;
  history = record { pool = refl; world = refl; clients = refl; servers = refl };
  crew = refl;
}

-- fewer wait there

results-stored : (group : List ℕ) (past : List ServerEvent) (n : ℕ) (works : List Work) → server.results_from n works (Stored group ∷ past) ≡ server.results_from n works past
results-stored group past n [] = refl
results-stored group past n (work ∷ later) =
    ap (λ (rs : Option (List WorkResult)). server.result_in_front (server.result_at n past) rs) (results-stored group past (n + 1) later)

hand-stored : (kind : CopyKind) (group : List ℕ) (past : List ServerEvent) → server.group_in_hand kind (Stored group ∷ past) ≡ server.group_in_hand kind past
hand-stored kind group past = by_handled (server.handled kind past) where
  due : (o : Option Request) → server.jobs_if_handled kind o (Stored group ∷ past) ≡ server.jobs_if_handled kind o past
  due None = refl
  due (Some r) = refl

  found : server.results kind (Stored group ∷ past) ≡ server.results kind past
  found =
      results-stored group past (server.jobs_given past - server.jobs_in_hand past) (server.jobs_due kind (Stored group ∷ past))
      ∙ ap (λ (works : List Work). server.results_from (server.jobs_given past - server.jobs_in_hand past) works past) (due (server.handled kind past))

  by_handled : (o : Option Request) → server.group_if_handled kind o (Stored group ∷ past) ≡ server.group_if_handled kind o past
  by_handled None = refl
  by_handled (Some r) =
      ap (λ (rs : Option (List WorkResult)). cond (server.standing_status past == 0) (server.group_of r rs) []) found

put-fewer : (kind : CopyKind) (past : List ServerEvent) (group : List ℕ) (m n : FileServer) → CameBy kind past m → CameBy kind (Stored group ∷ past) n
    → length n.groups.items < length m.groups.items
put-fewer kind past group m n was now =
    let groups : List (List ℕ) = server.groups_replied kind past ++ server.group_in_hand kind past in
    let later : List (List ℕ) = server.groups_replied kind past ++ server.group_in_hand kind (Stored group ∷ past) in
    let same : length later ≡ length groups =
    ap (λ (gs : List (List ℕ)). length (server.groups_replied kind past ++ gs)) (hand-stored kind group past) in
    let before : length m.groups.items ≡ length groups - server.groups_stored past =
    ap (λ (gs : List (List ℕ)). length gs) was.groups ∙ length-drop (server.groups_stored past) groups in
    let after : length n.groups.items ≡ length later - (server.groups_stored past + 1) =
    ap (λ (gs : List (List ℕ)). length gs) now.groups ∙ length-drop (server.groups_stored past + 1) later in
    let within : server.groups_stored past + 1 ≤ length later = now.in_turn.stored in
    omega (arith, same, before, after, within)

pub put-waiting : (kind : CopyKind) (o : CopyOptions) (p : Pasts) (found : Option (List ℕ)) (a : Parts) (m : FileServer) → kind ≡ kinds.Put → Stands o p a
    → found ≡ server.next_group o.kind p.server → CameBy o.kind (after_storing (server.next_group o.kind p.server) p.server) m
    → IfSome found (λ group. groups_waiting kind (record a { server = m }) < groups_waiting kind a)
put-waiting kind o p None a m put s due after = tt
put-waiting kind o p (Some group) a m put s due after =
    rw put (put-fewer o.kind p.server group a.server m s.server (subst (λ (x : Option (List ℕ)). CameBy o.kind (after_storing x p.server) m) (sym due) after))

-- ---- out of a get's client

taken-bytes : (kind : CopyKind) (group : List ℕ) (p : Pasts) → bytes_of kind (client_after (Received group) p) ≡ bytes_of kind p
taken-bytes kinds.Put group p = refl
taken-bytes kinds.Get group p = refl

taken-ended : (kind : CopyKind) (group : List ℕ) (p : Pasts) → ended_of kind (client_after (Received group) p) ≡ ended_of kind p
taken-ended kinds.Put group p = refl
taken-ended kinds.Get group p = refl

received-rules : (kind : CopyKind) (channel : Channel) (pages : ℕ) (group : List ℕ) (past : List ClientEvent) → group_due kind channel past ≡ Some group
    → IsClient kind channel pages past → IsClient kind channel pages (Received group ∷ past)
received-rules kinds.Put channel pages group past due h = absurd (let x : ⊥ = cc in x)
received-rules kinds.Get channel pages group past due h = (due, h)

received-on : (o : CopyOptions) (p : Pasts) (group : List ℕ) (w : State) (c : CrewState) → group_due o.kind o.channel p.client ≡ Some group → IsUnderWay o p w c
    → IsUnderWay o (client_after (Received group) p) w c
received-on o p group w c due u =
    client-on o p (Received group ∷ p.client) w c c (record { sent = refl; heard = refl })
    (received-rules o.kind o.channel o.limits.pages group p.client due u.ruled.client)
    (subst (λ (bytes : List ℕ). IsCopyable bytes) (sym (taken-bytes o.kind group p)) u.ruled.copyable)
    (client-manned o p c (Received group ∷ p.client) (record { given = refl; done = refl }) u.manned) u

pub get-next : (o : CopyOptions) (p : Pasts) (found : Option (List ℕ)) (a : Parts) (m : ClientMachine) → o.kind ≡ kinds.Get → Stands o p a → found ≡ group_due o.kind o.channel p.client
    → ClientCameBy o.kind o.channel o.limits.pages (after_receiving (group_due o.kind o.channel p.client) p.client) m
    → MatchOption found (HasNoGroup o p a (record a { client = m })) (λ group. HasComeOut o p group a (record a { client = m }))
get-next o p None a m get s due after = record {
  none = subst (λ (k : CopyKind). group_left k o.channel p ≡ None) (sym get) (ap (λ (k : CopyKind). group_due k o.channel p.client) (sym get) ∙ sym due);
  stands = record {
    under_way = s.under_way;
    client = subst (λ (x : Option (List ℕ)). ClientCameBy o.kind o.channel o.limits.pages (after_receiving x p.client) m) (sym due) after;
    server = s.server;
    left = s.left;
  };
  history = record { pool = refl; world = refl; clients = refl; servers = refl };
  crew = refl;
}
get-next o p (Some group) a m get s due after = record {
  later = client_after (Received group) p;
  stands = record {
    under_way = received-on o p group a.world a.crew (sym due) s.under_way;
    client = subst (λ (x : Option (List ℕ)). ClientCameBy o.kind o.channel o.limits.pages (after_receiving x p.client) m) (sym due) after;
    server = s.server;
    left = s.left;
  };
  bytes = taken-bytes o.kind group p;
  ended = taken-ended o.kind group p;
  groups = rw get refl;
  history = record { pool = refl; world = refl; clients = refl; servers = refl };
  crew = refl;
}

fewer-came : (channel : Channel) (past : List ClientEvent) (was now : List (List ℕ)) → was ≡ drop (gets.groups_received past) (gets.groups_came channel past)
    → now ≡ drop (gets.groups_received past + 1) (gets.groups_came channel past) → gets.groups_received past + 1 ≤ length (gets.groups_came channel past)
    → length now < length was
fewer-came channel past was now w n within =
    let before : length was ≡ length (gets.groups_came channel past) - gets.groups_received past =
    ap (λ (gs : List (List ℕ)). length gs) w ∙ length-drop (gets.groups_received past) (gets.groups_came channel past) in
    let after : length now ≡ length (gets.groups_came channel past) - (gets.groups_received past + 1) =
    ap (λ (gs : List (List ℕ)). length gs) n ∙ length-drop (gets.groups_received past + 1) (gets.groups_came channel past) in
    omega (arith, before, after, within)

get-fewer : (kind : CopyKind) (channel : Channel) (pages : ℕ) (past : List ClientEvent) (group : List ℕ) (m n : ClientMachine) → kind ≡ kinds.Get
    → ClientCameBy kind channel pages past m → ClientCameBy kind channel pages (Received group ∷ past) n → groups_at n < groups_at m
get-fewer kinds.Put channel pages past group m n get was now = absurd (let x : ⊥ = cc in x)
get-fewer kinds.Get channel pages past group (Put m) n get was now = absurd was
get-fewer kinds.Get channel pages past group (Get m) (Put n) get was now = absurd now
get-fewer kinds.Get channel pages past group (Get m) (Get n) get was now =
    fewer-came channel past m.groups.came.items n.groups.came.items was.groups.came now.groups.came now.groups.in_turn

pub get-waiting : (kind : CopyKind) (o : CopyOptions) (p : Pasts) (found : Option (List ℕ)) (a : Parts) (m : ClientMachine) → o.kind ≡ kind → kind ≡ kinds.Get → Stands o p a
    → found ≡ group_due o.kind o.channel p.client → ClientCameBy o.kind o.channel o.limits.pages (after_receiving (group_due o.kind o.channel p.client) p.client) m
    → IfSome found (λ group. groups_waiting kind (record a { client = m }) < groups_waiting kind a)
get-waiting kind o p None a m e get s due after = tt
get-waiting kind o p (Some group) a m e get s due after =
    rw get (get-fewer o.kind o.channel o.limits.pages p.client group a.client m (e ∙ get) s.client
    (subst (λ (x : Option (List ℕ)). ClientCameBy o.kind o.channel o.limits.pages (after_receiving x p.client) m) (sym due) after))
