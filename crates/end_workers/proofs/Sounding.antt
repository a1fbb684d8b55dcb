-- A copy under way is a sound course.
use Rattle.std.proofs.Common.{◌≡◌, ℕ, zero, suc, ◌+◌, ◌<◌, ◌≤◌, Bool, List, [], length, take, refl, sym, ap, ◌∙◌, subst, arith}
use Rattle.std.proofs.lemmas.List.{length-take}
use mathlib.Core.List.{IsPrefix}
use Rattle.smbd_base.specs.declared.end_id.EndId.TheVariants.{Client, Server}
use Rattle.smbd_base.specs.declared.event.Event.{Event}
use Rattle.smbd_base.specs.declared.page_event.PageEvent.{PageEvent}
use Rattle.smbd_base.specs.Limits.{Limits}
use Rattle.smbd_base.specs.Pages.{Entry}
use Rattle.smbd_base.specs.History.{messages_submitted}
use Rattle.smbd_base.specs.Delivery.{messages_delivered}
use Rattle.smbd_base.specs.Joint.{AreJoint}
use Rattle.smbd_base.proofs.PagesFitLaws.{lists-fit}
use Rattle.empty_frames.proofs.Bounding.{bounded_lawful}
use Rattle.joint_laws.proofs.Meeting.{balances, client_meets, server_meets}
use Rattle.world_core.specs.Run.{State}
use Rattle.file_messages.specs.declared.kind.CopyKind.{CopyKind}
use Rattle.file_messages.specs.declared.kind.CopyKind.TheVariants as kinds
use Rattle.file_messages.specs.declared.kind.Channel.{Channel}
use Rattle.file_messages.specs.Runs.{groups_of}
use Rattle.file_pasts.proofs.Lists.{front_of}
use Rattle.page_crew.specs.Crews.{CrewState}
use Rattle.copy_laws.specs.Coupled.{Pasts}
use Rattle.copy_laws.specs.Laws.{FitTogether, lists_from, client_lists, server_lists}
use Rattle.copy_laws.proofs.Fitting.{workers-fit}
use Rattle.copy_laws.proofs.Tokens.{prefix-trans}
use Rattle.copy_runs.specs.Runs.{Messages, IsRun, brought_by, request_messages, reply_messages}
use Rattle.copy_runs.specs.CopyPasts.{bytes_of, ended_of, groups_out}
use Rattle.copy_runs.proofs.CopiesRun.{copies-run}
use Rattle.copy_log.specs.CopyLogs.{Deeds, IsLog}
use Rattle.copy_ends.specs.Ends.{RepliesFollow}
use Rattle.copy_ends.specs.Turns.{HasGrown}
use Rattle.copy_parts.specs.declared.options.CopyOptions.{CopyOptions}
use Rattle.copy_parts.specs.Copies.{IsUnderWay}
use Rattle.end_workers.specs.Promise as promise
use Rattle.end_workers.specs.Promise.{Course, IsSoundCourse, IsToldFirst, HaveBrought, groups_begun, usable}
use Rattle.end_workers.specs.Progress.{WasToldFirst, delivered_at, joined}
use Rattle.end_workers.proofs.Cutting.{as-asked}
use Rattle.end_workers.proofs.SoundingGroups.{prefix-of, take-prefix, joined-prefix, joined-groups, begun-most, usable-front}
use Rattle.end_workers.proofs.SoundingCopies.{is-copy, messages-are, delivered-more}

-- the course of a copy that came so far
abbrev pub course_of : CopyOptions → Pasts → State → List ℕ → Bool → List ℕ → List ℕ → Course
course_of o p world bytes ended stored text = record {
  client = world.client;
  server = world.server;
  clients = client_lists o.workers p;
  servers = server_lists o.workers p;
  bytes = bytes;
  ended = ended;
  stored = stored;
  text = text;
}

-- ---- the run of a copy under way

-- the histories of both ends tell its run
pub run-of : (o : CopyOptions) (p : Pasts) (world : State) (crew : CrewState) → IsUnderWay o p world crew
    → IsRun o.kind o.channel o.limits.pages (ended_of o.kind p) (bytes_of o.kind p) (promise.messages_of o world.client world.server) (client_lists o.workers p) (server_lists o.workers p)
    (groups_out o.kind p)
run-of o p world crew u =
    subst
    (λ (m : Messages). IsRun o.kind o.channel o.limits.pages (ended_of o.kind p) (bytes_of o.kind p) m (client_lists o.workers p) (server_lists o.workers p) (groups_out o.kind p))
    (messages-are o p world crew u)
    (copies-run o.kind o.channel o.workers o.limits.pages p crew.region.pages crew.clients crew.servers (is-copy o p world crew u))

-- fewer groups came out
run-front : (kind : CopyKind) (channel : Channel) (pages : ℕ) (ended : Bool) (bytes : List ℕ) (m : Messages) (clients servers : List (List PageEvent)) (groups : List (List ℕ)) (count : ℕ)
    → IsRun kind channel pages ended bytes m clients servers groups → count ≤ length groups → IsRun kind channel pages ended bytes m clients servers (take count (groups_of bytes))
run-front kind channel pages ended bytes m clients servers groups count r few = record {
  requests = r.requests;
  replies = r.replies;
  follow = r.follow;
  pages_used = r.pages_used;
  groups_are = front_of count (take count (groups_of bytes)) (groups_of bytes) refl;
  brought = (let brought = r.brought in let long = length-take count (groups_of bytes) in omega (arith, few, brought, long));
}

-- the same of equal bytes
run-same : (kind : CopyKind) (channel : Channel) (pages : ℕ) (ended now : Bool) (bytes more : List ℕ) (m : Messages) (clients servers : List (List PageEvent)) (count : ℕ)
    → now ≡ ended → more ≡ bytes → IsRun kind channel pages ended bytes m clients servers (take count (groups_of bytes))
    → IsRun kind channel pages now more m clients servers (take count (groups_of more))
run-same kind channel pages ended now bytes more m clients servers count ended_is bytes_are r =
    subst (λ (t : Bool). IsRun kind channel pages t more m clients servers (take count (groups_of more))) (sym ended_is)
    (subst (λ (bs : List ℕ). IsRun kind channel pages ended bs m clients servers (take count (groups_of bs))) (sym bytes_are) r)

-- ---- told first

brought-at : (kind : CopyKind) (o : CopyOptions) (d : Deeds) (client server : List Event) → d.client ≡ client → d.server ≡ server
    → brought_by kind (promise.messages_of o client server) ≡ delivered_at kind o d
brought-at kinds.Put o d client server c s = ap (λ (past : List Event). length (messages_delivered Server o.limits past)) (sym s)
brought-at kinds.Get o d client server c s = ap (λ (past : List Event). length (messages_delivered Client o.limits past)) (sym c)

-- the log tells what brought the groups that came out, where it tells all that the ends did
pub told-now : (o : CopyOptions) (p : Pasts) (world : State) (crew : CrewState) (d : Deeds) (text : List ℕ) → IsUnderWay o p world crew → IsLog d text
    → d.client ≡ world.client → d.server ≡ world.server → WasToldFirst o world (length (groups_out o.kind p)) text
told-now o p world crew d text u log client server = record {
  earlier = d;
  client_more = record { events = []; is = sym client };
  server_more = record { events = []; is = sym server };
  whole = text;
  log = log;
  begins = prefix-of text text refl;
  brought = subst (λ (n : ℕ). length (groups_out o.kind p) ≤ n) (brought-at o.kind o d world.client world.server client server) (run-of o p world crew u).brought;
}

-- what was delivered at an earlier moment, as many messages as these
brought-then : (kind : CopyKind) (o : CopyOptions) (count : ℕ) (ended : Bool) (bytes : List ℕ) (e : Deeds) (client server : List Event) (clients servers : List (List PageEvent))
    (groups : List (List ℕ)) → IsRun kind o.channel o.limits.pages ended bytes (promise.messages_of o client server) clients servers groups
    → IsPrefix (messages_delivered Server o.limits server) (messages_submitted client) → IsPrefix (messages_delivered Client o.limits client) (messages_submitted server)
    → HasGrown e.client client → HasGrown e.server server → count ≤ delivered_at kind o e → HaveBrought kind o count ended bytes e.client e.server
brought-then kinds.Put o count ended bytes e client server clients servers groups r to_server to_client c s few =
    let then = messages_delivered Server o.limits e.server in
    let now = messages_delivered Server o.limits server in
    let all = request_messages kinds.Put o.channel o.limits.pages ended bytes in
    take-prefix count then all
    (prefix-trans then now all (delivered-more Server o.limits e.server server s) (prefix-trans now (messages_submitted client) all to_server r.requests)) few
brought-then kinds.Get o count ended bytes e client server clients servers groups r to_server to_client c s few =
    let then = messages_delivered Client o.limits e.client in
    let now = messages_delivered Client o.limits client in
    let all = reply_messages kinds.Get o.channel o.limits.pages ended bytes in
    take-prefix count then all
    (prefix-trans then now all (delivered-more Client o.limits e.client client c) (prefix-trans now (messages_submitted server) all to_client r.replies)) few

-- ---- a sound course

-- the machine at the source was handed the bytes of which requests can be made, and the sink got a front of the groups that came out
pub record IsOf (o : CopyOptions) (p : Pasts) (bytes : List ℕ) (ended : Bool) (stored : List ℕ) : Type 0 where
  pub bytes_are : usable ended bytes ≡ bytes_of o.kind p
  pub ended_is : ended ≡ ended_of o.kind p
  pub stores : IsPrefix stored (joined (groups_out o.kind p))

length-lists : (first count : ℕ) (pool : List Entry) → length (lists_from first count pool) ≡ count
length-lists first zero pool = refl
length-lists first (suc count) pool = (let z = length-lists (first + 1) count pool in omega (arith, z))

module _ (o : CopyOptions) (p : Pasts) (world : State) (crew : CrewState) (u : IsUnderWay o p world crew) where
  joint : AreJoint o.limits o.limits world.client world.server
  joint =
      subst (λ (l : Limits). AreJoint l o.limits world.client world.server) u.connected.client_limits
      (subst (λ (l : Limits). AreJoint world.client_limits l world.client world.server) u.connected.server_limits u.connected.joint)

  to_server : IsPrefix (messages_delivered Server o.limits world.server) (messages_submitted world.client)
  to_server = subst (λ (l : Limits). IsPrefix (messages_delivered Server l world.server) (messages_submitted world.client)) u.connected.server_limits u.connected.delivered.to_server

  to_client : IsPrefix (messages_delivered Client o.limits world.client) (messages_submitted world.server)
  to_client = subst (λ (l : Limits). IsPrefix (messages_delivered Client l world.client) (messages_submitted world.server)) u.connected.client_limits u.connected.delivered.to_client

  fitting : FitTogether o.workers p
  fitting =
      let copy = is-copy o p world crew u in
      let few = copy.pool.most in
      workers-fit lists-fit o.workers o.limits.pages p crew.region.pages crew.clients crew.servers (omega (arith, few)) copy.coupled

  module _ (bytes : List ℕ) (ended : Bool) (stored text : List ℕ) (is : IsOf o p bytes ended stored) where
    begun : groups_begun stored ≤ length (groups_out o.kind p)
    begun = begun-most stored (bytes_of o.kind p) (groups_out o.kind p) (run-of o p world crew u).groups_are is.stores

    run-now : IsRun o.kind o.channel o.limits.pages ended (usable ended bytes) (promise.messages_of o world.client world.server) (client_lists o.workers p) (server_lists o.workers p)
        (take (groups_begun stored) (groups_of (usable ended bytes)))
    run-now =
        let m = promise.messages_of o world.client world.server in
        run-same o.kind o.channel o.limits.pages (ended_of o.kind p) ended (bytes_of o.kind p) (usable ended bytes) m (client_lists o.workers p) (server_lists o.workers p)
        (groups_begun stored) is.ended_is is.bytes_are
        (run-front o.kind o.channel o.limits.pages (ended_of o.kind p) (bytes_of o.kind p) m (client_lists o.workers p) (server_lists o.workers p) (groups_out o.kind p)
        (groups_begun stored) (run-of o p world crew u) begun)

    stores : IsPrefix stored bytes
    stores =
        let all : IsPrefix (joined (groups_out o.kind p)) (usable ended bytes) =
        subst (λ (bs : List ℕ). IsPrefix (joined (groups_out o.kind p)) bs) (joined-groups (bytes_of o.kind p) ∙ sym is.bytes_are)
        (joined-prefix (groups_out o.kind p) (groups_of (bytes_of o.kind p)) (run-of o p world crew u).groups_are) in
        prefix-trans stored (joined (groups_out o.kind p)) bytes is.stores (prefix-trans (joined (groups_out o.kind p)) (usable ended bytes) bytes all (usable-front ended bytes))

    told-first : WasToldFirst o world (length (groups_out o.kind p)) text → IsToldFirst o (course_of o p world bytes ended stored text)
    told-first t = record {
      earlier = t.earlier;
      client_more = t.client_more;
      server_more = t.server_more;
      text = t.whole;
      log = t.log;
      begins = t.begins;
      brought = brought-then o.kind o (groups_begun stored) ended (usable ended bytes) t.earlier world.client world.server (client_lists o.workers p) (server_lists o.workers p)
          (take (groups_begun stored) (groups_of (usable ended bytes))) run-now to_server to_client t.client_more t.server_more
          (let few = begun in let brought = t.brought in omega (arith, few, brought));
    }

    sound : (0 < length stored → WasToldFirst o world (length (groups_out o.kind p)) text) → IsSoundCourse o (course_of o p world bytes ended stored text)
    sound first = record {
      joint = joint;
      cuts = as-asked o.cut o world refl u.connected.link u.connected.few;
      credits = balances o.limits o.limits world.client world.server u.connected.lawful u.connected.lawful joint;
      few_empty = bounded_lawful o.limits o.limits world.client world.server u.connected.lawful u.connected.lawful joint;
      client_receives = client_meets o.limits o.limits world.client world.server u.connected.lawful u.connected.lawful joint;
      server_receives = server_meets o.limits o.limits world.client world.server u.connected.lawful u.connected.lawful joint;
      to_server = to_server;
      to_client = to_client;
      answered = subst (λ (l : Limits). RepliesFollow l world.server) u.connected.server_limits u.connected.follows;
      clients_are = length-lists 0 o.workers p.pool;
      servers_are = length-lists o.workers o.workers p.pool;
      pages = fitting.fit;
      clients_turn = fitting.clients;
      servers_turn = fitting.servers;
      run = run-now;
      stores = stores;
      told_first = λ some. told-first (first some);
    }

pub sounds : (o : CopyOptions) (p : Pasts) (world : State) (crew : CrewState) (bytes : List ℕ) (ended : Bool) (stored text : List ℕ) → IsUnderWay o p world crew
    → IsOf o p bytes ended stored → (0 < length stored → WasToldFirst o world (length (groups_out o.kind p)) text)
    → IsSoundCourse o (course_of o p world bytes ended stored text)
sounds o p world crew bytes ended stored text u is first = sound o p world crew u bytes ended stored text is first
