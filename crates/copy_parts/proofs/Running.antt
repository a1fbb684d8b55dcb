-- A round: what is under way goes on by what each part does.
use Rattle.std.proofs.Common.{◌≡◌, ◌⊎◌, inl, inr, ℕ, ◌+◌, Bool, true, false, Option, Some, None, List, [], ◌∷◌, ◌++◌, length, refl, sym, ap, ◌∙◌, subst, arith}
use Rattle.smbd_base.specs.declared.event.Event.{Event}
use Rattle.smbd_base.specs.declared.event.Event.TheVariants.{Cut}
use Rattle.smbd_base.specs.declared.end_id.EndId.{EndId}
use Rattle.smbd_base.specs.declared.end_id.EndId.TheVariants as side
use Rattle.smbd_base.specs.Limits.{Limits}
use Rattle.smbd_base.specs.Pages.{Entry}
use Rattle.smbd_base.specs.declared.next.Next.TheVariants as due
use Rattle.smbd_base.specs.History.{messages_submitted, next_event, is_cut}
use Rattle.smbd_base.specs.Delivery.{messages_delivered}
use Rattle.world_core.specs.Choices.{is_emit}
use Rattle.world_core.specs.Run.{State, AreJointIn, AreDelivered, frames_in_flight}
use Rattle.file_messages.specs.declared.kind.Channel.{Channel}
use Rattle.file_messages.specs.declared.kind.CopyKind.{CopyKind}
use Rattle.file_messages.specs.declared.kind.CopyKind.TheVariants as kinds
use Rattle.file_pasts.specs.ClientPast.{ClientEvent}
use Rattle.file_pasts.specs.ServerDue.{ServerEvent}
use Rattle.file_pasts.specs.ServerLaws.{groups_given}
use Rattle.file_server.specs.declared.server.FileServer.{FileServer}
use Rattle.file_server.specs.ServerStands.{CameBy}
use Rattle.copy_laws.specs.Coupled.{Pasts}
use Rattle.copy_laws.specs.Kinds.{request_due}
use Rattle.copy_runs.specs.CopyPasts.{Carries}
use Rattle.copy_runs.proofs.CopiesCarry.{clients-carry}
use Rattle.copy_ends.specs.declared.client_machine.ClientMachine.{ClientMachine}
use Rattle.copy_ends.specs.Clients.{ClientCameBy}
use Rattle.copy_ends.specs.declared.round.Share.{Share}
use Rattle.copy_ends.specs.declared.round.Share.TheVariants as shares
use Rattle.copy_ends.specs.Cuts.{frames_sent, AreLeft, IsLast, HasBeenCut, rests}
use Rattle.copy_ends.specs.Ends.{ClientStands, ClientGoesOn, GoesOnTalking, MayTalk, RepliesFollow, ServerStands, ServerGoesOn, GoesOnServing, MayServe}
use Rattle.copy_ends.specs.Turns.{IsUp, HasGrown, HasActed, HasAdded}
use Rattle.page_crew.specs.Crews.{CrewState, AreAsMany, AllGrew, GoesOn, HaveTurned}
use Rattle.copy_parts.specs.Cuts.{EmitsFewer, IsCutInPlace}
use Rattle.copy_parts.specs.declared.options.CopyOptions.{CopyOptions}
use Rattle.copy_parts.specs.declared.parts.Parts.{Parts}
use Rattle.copy_parts.specs.Copies.{IsConnected, AreTied, IsUnderWay, Stands}
use Rattle.copy_parts.specs.Steps.{KeepsBytes, HasRun, HaveEndsRun, MayRun, ClientIsIdle, ServerIsIdle}
use Rattle.copy_parts.proofs.Quiet.{BringsSame, WorksSame, FillsSame, ServesSame, talk-brings, talk-works, serving-fills, serving-works, serving-groups}
use Rattle.copy_parts.proofs.UnderWay.{between, copy-of, client-lawful, carries-server, client-bytes, server-bytes, bytes-kept, copyable-kept}
use Rattle.copy_parts.proofs.Manned.{client-manned, server-manned, manned-so}

-- ---- the client's end

-- its end fits its machine
client-stands : (o : CopyOptions) (p : Pasts) (a : Parts) → Stands o p a → ClientStands o.kind o.channel o.limits.pages p.client a.client a.world
client-stands o p a s = record { came = s.client; sent = s.under_way.tied.sent; heard = s.under_way.tied.heard }

pub may-talk : (a : Parts) → MayRun a → MayTalk 64 a.client a.world
may-talk a may = record {
  up = may.up;
  kind = may.options.kind;
  channel = may.options.channel;
  pages = may.options.limits.pages;
  past = may.past.client;
  stands = client-stands may.options may.past a may.stands;
  few = may.few;
}

module _ (o : CopyOptions) (p : Pasts) (later : List ClientEvent) (m : ClientMachine) (v w : State) (c : CrewState) (u : IsUnderWay o p v c) (acted : HasActed side.Client v w)
    (up : IsUp w) (few : EmitsFewer o.cut w.client) (joint : AreJointIn w) (delivered : AreDelivered w) (talked : GoesOnTalking p.client later)
    (stands : ClientStands o.kind o.channel o.limits.pages later m w) where
  abbrev q : Pasts
  q = record p { client = later }

  client-connected : IsConnected o w
  client-connected = record {
    link = inl up;
    few = few;
    client_limits = acted.own_limits ∙ u.connected.client_limits;
    server_limits = acted.peer_limits ∙ u.connected.server_limits;
    lawful = u.connected.lawful;
    joint = joint;
    delivered = delivered;
    follows = subst (λ (l : Limits). RepliesFollow l w.server) (sym acted.peer_limits)
        (subst (λ (es : List Event). RepliesFollow v.server_limits es) (sym acted.peer) u.connected.follows);
  }

  client-tied : AreTied q w
  client-tied = record {
    sent = stands.sent;
    heard = stands.heard;
    replied = ap (λ (es : List Event). messages_submitted es) acted.peer ∙ u.tied.replied;
    asked = u.tied.asked ∙ ap (λ (l : Limits). messages_delivered side.Server l v.server) (sym acted.peer_limits)
        ∙ ap (λ (es : List Event). messages_delivered side.Server w.server_limits es) (sym acted.peer);
  }

  client-works : WorksSame p.client later
  client-works = subst (λ (past : List ClientEvent). WorksSame p.client past) (sym talked.is) (talk-works talked.talk p.client talked.only)

  pub client-keeps : KeepsBytes o p q
  client-keeps = client-bytes o p later (subst (λ (past : List ClientEvent). BringsSame p.client past) (sym talked.is) (talk-brings talked.talk p.client talked.only))

  pub client-goes : IsUnderWay o q w c
  client-goes = record {
    connected = client-connected;
    tied = client-tied;
    manned = client-manned o p c later client-works u.manned;
    ruled = record {
      client = client-lawful o.kind o.channel o.limits.pages later m stands.came;
      server = u.ruled.server;
      copyable = copyable-kept o p q client-keeps u.ruled.copyable;
      carried = clients-carry o.kind o.channel o.workers o.limits.pages p c.region.pages c.clients c.servers later (copy-of o p v c u) (between o q w client-connected client-tied);
    };
  }

-- so many frames are left before the one in whose place the link is to be cut
few-left : (cut left : Option ℕ) (past : List Event) → AreLeft cut (frames_sent past) left → EmitsFewer cut past
few-left None left past h = tt
few-left (Some number) left past h = (let sum = h.2 in omega (arith, sum))

-- unless it cuts the link, the client's end did 64 events, or nothing was left to do
client-shared : (o : CopyOptions) (p : Pasts) (m : ClientMachine) (v w : State) (share : Share) → HasActed side.Client v w → (share ≡ shares.Full → HasAdded 64 side.Client v w)
    → (g : ClientGoesOn o.kind o.channel o.limits.pages p.client 64 (rests share) m w) → (share ≡ shares.Cuts → ⊥)
    → HasAdded 64 side.Client v w ⊎ ClientIsIdle o (record p { client = g.later }) v w
client-shared o p m v w shares.Full acted full g uncut = inl (full refl)
client-shared o p m v w shares.Rests acted full g uncut =
    let r = g.at_rest refl in
    inr (record {
      idle = r.end.idle;
      taken = λ here. subst (λ (es : List Event). frames_in_flight w.client es ≡ []) acted.peer r.end.none_in_flight;
      due = λ here. r.due;
    })
client-shared o p m v w shares.Cuts acted full g uncut = absurd (uncut refl)

-- the parts after the client's share of a round, whose past began with this one
pub record ClientRan (o : CopyOptions) (p : Pasts) (a : Parts) (m : ClientMachine) (w : State) (left : Option ℕ) (share : Share) : Type 0 where
  pub later : List ClientEvent
  pub did : (share ≡ shares.Cuts → ⊥) → HasAdded 64 side.Client a.world w ⊎ ClientIsIdle o (record p { client = later }) a.world w
  pub under_way : IsUnderWay o (record p { client = later }) w a.crew
  pub came : ClientCameBy o.kind o.channel o.limits.pages later m
  pub bytes : KeepsBytes o p (record p { client = later })
  pub before : AreLeft o.cut (frames_sent w.client) left

pub client-ran : (o : CopyOptions) (p : Pasts) (a : Parts) (m : ClientMachine) (w : State) (left : Option ℕ) (share : Share) → HasActed side.Client a.world w → IsUp w → AreJointIn w
    → AreDelivered w → (share ≡ shares.Full → HasAdded 64 side.Client a.world w)
    → ((kind : CopyKind) (channel : Channel) (pages : ℕ) (past : List ClientEvent) → ClientStands kind channel pages past a.client a.world
    → ClientGoesOn kind channel pages past 64 (rests share) m w)
    → ((cut : Option ℕ) → AreLeft cut (frames_sent a.world.client) a.left → AreLeft cut (frames_sent w.client) left) → Stands o p a → ClientRan o p a m w left share
client-ran o p a m w left share acted up joint delivered full on before s =
    let g = on o.kind o.channel o.limits.pages p.client (client-stands o p a s) in
    let now : AreLeft o.cut (frames_sent w.client) left = before o.cut s.left in
    let few : EmitsFewer o.cut w.client = few-left o.cut left w.client now in
    record {
      later = g.later;
      did = λ uncut. client-shared o p m a.world w share acted full g uncut;
      under_way = client-goes o p g.later m a.world w a.crew s.under_way acted up few joint delivered g.talked g.stands;
      came = g.stands.came;
      bytes = client-keeps o p g.later m a.world w a.crew s.under_way acted up few joint delivered g.talked g.stands;
      before = now;
    }

-- ---- the server's end

server-stands : (o : CopyOptions) (p : Pasts) (m : FileServer) (w : State) (c : CrewState) → IsUnderWay o p w c → CameBy o.kind p.server m → ServerStands o.kind p.server m w
server-stands o p m w c u came = record { came = came; sent = u.tied.replied; heard = u.tied.asked; follows = u.connected.follows }

pub may-serve : (a : Parts) (n : ClientMachine) (w : State) (left : Option ℕ) (share : Share) → IsUp w
    → ((o : CopyOptions) (p : Pasts) → Stands o p a → ClientRan o p a n w left share) → MayRun a → MayServe a.server w
may-serve a n w left share up ran may =
    let o = may.options in
    let x = ran o may.past may.stands in
    record {
      up = up;
      kind = o.kind;
      past = may.past.server;
      stands = server-stands o (record may.past { client = x.later }) a.server w a.crew x.under_way may.stands.server;
    }

module _ (o : CopyOptions) (p : Pasts) (later : List ServerEvent) (m : FileServer) (v w : State) (c : CrewState) (u : IsUnderWay o p v c) (acted : HasActed side.Server v w)
    (up : IsUp w) (joint : AreJointIn w) (delivered : AreDelivered w) (follows : RepliesFollow w.server_limits w.server) (talked : GoesOnServing p.server later)
    (stands : ServerStands o.kind later m w) where
  server-connected : IsConnected o w
  server-connected = record {
    link = inl up;
    few = subst (λ (es : List Event). EmitsFewer o.cut es) (sym acted.peer) u.connected.few;
    client_limits = acted.peer_limits ∙ u.connected.client_limits;
    server_limits = acted.own_limits ∙ u.connected.server_limits;
    lawful = u.connected.lawful;
    joint = joint;
    delivered = delivered;
    follows = follows;
  }

  server-tied : AreTied (record p { server = later }) w
  server-tied = record {
    sent = ap (λ (es : List Event). messages_submitted es) acted.peer ∙ u.tied.sent;
    heard = u.tied.heard ∙ ap (λ (l : Limits). messages_delivered side.Client l v.client) (sym acted.peer_limits)
        ∙ ap (λ (es : List Event). messages_delivered side.Client w.client_limits es) (sym acted.peer);
    replied = stands.sent;
    asked = stands.heard;
  }

  server-works : ServesSame p.server later
  server-works = subst (λ (past : List ServerEvent). ServesSame p.server past) (sym talked.is) (serving-works talked.talk p.server talked.only)

  server-fills : FillsSame p.server later
  server-fills = subst (λ (past : List ServerEvent). FillsSame p.server past) (sym talked.is) (serving-fills talked.talk p.server talked.only)

  pub server-keeps : KeepsBytes o p (record p { server = later })
  server-keeps = server-bytes o p later server-fills
      (ap (λ (past : List ServerEvent). groups_given past) talked.is ∙ serving-groups talked.talk p.server talked.only)

  pub server-goes : IsUnderWay o (record p { server = later }) w c
  server-goes = record {
    connected = server-connected;
    tied = server-tied;
    manned = server-manned o p c later server-works u.manned;
    ruled = record {
      client = u.ruled.client;
      server = stands.came.in_turn.lawful;
      copyable = copyable-kept o p (record p { server = later }) server-keeps u.ruled.copyable;
      carried = carries-server o.kind o.channel p later server-fills u.ruled.carried;
    };
  }

server-shared : (o : CopyOptions) (p : Pasts) (m : FileServer) (v w : State) (rests : Bool) → (rests ≡ false → HasAdded 64 side.Server v w)
    → (g : ServerGoesOn o.kind p.server rests m w) → HasAdded 64 side.Server v w ⊎ ServerIsIdle o (record p { server = g.later }) w
server-shared o p m v w false full g = inl (full refl)
server-shared o p m v w true full g = let r = g.at_rest refl in inr (record { idle = r.end.idle; taken = λ here. r.end.none_in_flight; due = λ here. r.due })

-- the parts after the server's share of a round
pub record ServerRan (o : CopyOptions) (p : Pasts) (c : CrewState) (m : FileServer) (v w : State) : Type 0 where
  pub later : List ServerEvent
  pub share : HasAdded 64 side.Server v w ⊎ ServerIsIdle o (record p { server = later }) w
  pub under_way : IsUnderWay o (record p { server = later }) w c
  pub came : CameBy o.kind later m
  pub bytes : KeepsBytes o p (record p { server = later })

pub server-ran : (o : CopyOptions) (p : Pasts) (m n : FileServer) (v w : State) (c : CrewState) (rests : Bool) → HasActed side.Server v w → IsUp w → AreJointIn w → AreDelivered w
    → (rests ≡ false → HasAdded 64 side.Server v w) → ((kind : CopyKind) (past : List ServerEvent) → ServerStands kind past m v → ServerGoesOn kind past rests n w)
    → IsUnderWay o p v c → CameBy o.kind p.server m → ServerRan o p c n v w
server-ran o p m n v w c rests acted up joint delivered full on u came =
    let g = on o.kind p.server (server-stands o p m v c u came) in
    let follows : RepliesFollow w.server_limits w.server = g.stands.follows in
    record {
      later = g.later;
      share = server-shared o p n v w rests full g;
      under_way = server-goes o p g.later n v w c u acted up joint delivered follows g.talked g.stands;
      came = g.stands.came;
      bytes = server-keeps o p g.later n v w c u acted up joint delivered follows g.talked g.stands;
    }

-- ---- both ends

client-grew : (u v w : State) → HasActed side.Client u v → HasActed side.Server v w → HasGrown u.client w.client
client-grew u v w a b = record { events = a.own.events; is = b.peer ∙ a.own.is }

server-grew : (u v w : State) → HasActed side.Client u v → HasActed side.Server v w → HasGrown u.server w.server
server-grew u v w a b = record { events = b.own.events; is = b.own.is ∙ ap (λ (es : List Event). b.own.events ++ es) a.peer }

-- the client's share, once the server has done its own
client-after : (o : CopyOptions) (p later : Pasts) (u v w : State) → later.client ≡ p.client → HasActed side.Server v w → HasAdded 64 side.Client u v ⊎ ClientIsIdle o p u v
    → HasAdded 64 side.Client u w ⊎ ClientIsIdle o later u w
client-after o p later u v w e b (inl added) = inl (ap (λ (es : List Event). length es) b.peer ∙ added)
client-after o p later u v w e b (inr idles) =
    let same : is_cut w.client ≡ is_cut v.client = ap (λ (es : List Event). is_cut es) b.peer in
    inr (record {
      idle = ap (λ (es : List Event). next_event side.Client w.client_limits es) b.peer
          ∙ ap (λ (l : Limits). next_event side.Client l v.client) b.peer_limits ∙ idles.idle;
      taken = λ uncut. ap (λ (es : List Event). frames_in_flight es u.server) b.peer ∙ idles.taken (sym same ∙ uncut);
      due = λ uncut. ap (λ (past : List ClientEvent). request_due o.kind o.channel o.limits.pages past) e ∙ idles.due (sym same ∙ uncut);
    })

server-after : (o : CopyOptions) (later : Pasts) (u v w : State) → HasActed side.Client u v → HasAdded 64 side.Server v w ⊎ ServerIsIdle o later w → HasAdded 64 side.Server u w ⊎ ServerIsIdle o later w
server-after o later u v w a (inl added) = inl (added ∙ ap (λ (es : List Event). length es + 64) a.peer)
server-after o later u v w a (inr idles) = inr idles

-- the server did its share after the client's
have-served : (o : CopyOptions) (p : Pasts) (a : Parts) (n : ClientMachine) (m : FileServer) (v w : State) (left : Option ℕ) (share : Share) → HasActed side.Client a.world v
    → HasActed side.Server v w → (x : ClientRan o p a n v left share) → ServerRan o (record p { client = x.later }) a.crew m v w → (share ≡ shares.Cuts → ⊥)
    → HaveEndsRun o p a (record a { world = w; client = n; server = m; left = left })
have-served o p a n m v w left share first second x y uncut =
    let q : Pasts = record p { client = x.later } in
    let r : Pasts = record p { client = x.later; server = y.later } in
    record {
      later = r;
      stands = record {
        under_way = y.under_way;
        client = x.came;
        server = y.came;
        left = subst (λ (es : List Event). AreLeft o.cut (frames_sent es) left) (sym second.peer) x.before;
      };
      bytes = bytes-kept o p q r x.bytes y.bytes;
      pool = refl;
      client = client-grew a.world v w first second;
      server = server-grew a.world v w first second;
      client_share = client-after o q r a.world v w refl second (x.did uncut);
      server_share = server-after o r a.world v w first y.share;
      crew = refl;
    }

not-cuts : (share : Share) → (share ≡ shares.Full) ⊎ (share ≡ shares.Rests) → share ≡ shares.Cuts → ⊥
not-cuts share (inl full) cuts = cc
not-cuts share (inr done) cuts = cc

pub served-so : (o : CopyOptions) (p : Pasts) (a b : Parts) (n : ClientMachine) (m : FileServer) (v w : State) (left : Option ℕ) (share : Share)
    → b ≡ record a { world = w; client = n; server = m; left = left } → HasActed side.Client a.world v → HasActed side.Server v w → (x : ClientRan o p a n v left share)
    → (AreJointIn w → AreDelivered w → ServerRan o (record p { client = x.later }) a.crew m v w) → (share ≡ shares.Full) ⊎ (share ≡ shares.Rests) → AreJointIn b.world → AreDelivered b.world
    → HaveEndsRun o p a b
served-so o p a b n m v w left share is first second x then goes joint delivered =
    subst (λ (y : Parts). AreJointIn y.world → AreDelivered y.world → HaveEndsRun o p a y) (sym is)
    (λ (j : AreJointIn w) (d : AreDelivered w). have-served o p a n m v w left share first second x (then j d) (not-cuts share goes)) joint delivered

-- ---- the link is cut

-- the client was cut in the place of the frame that was asked for
record IsAskedCut (cut : Option ℕ) (limits : Limits) (client : List Event) : Type 0 where
  number : ℕ
  asked : cut ≡ Some number
  place : IsCutInPlace limits number client

asked-cut : (cut left : Option ℕ) (limits : Limits) (before : List Event) → AreLeft cut (frames_sent before) left → left ≡ Some 0
    → is_emit (next_event side.Client limits before) ≡ true → IsAskedCut cut limits (Cut ∷ before)
asked-cut None left limits before h none next = absurd (let b : ⊥ = cc in b)
asked-cut (Some number) left limits before h none next =
    let count : h.0 ≡ 0 = cc in
    let sum = h.2 in
    record { number = number; asked = refl; place = record { before = before; is = refl; next = next; number_is = omega (arith, count, sum) } }

follows-cut : (limits : Limits) (past : List Event) → RepliesFollow limits past → RepliesFollow limits (Cut ∷ past)
follows-cut limits [] h = (omega arith, tt)
follows-cut limits (e ∷ past) h = (h.0, h)

idle-cut : (end : EndId) (limits : Limits) (past : List Event) → next_event end limits (Cut ∷ past) ≡ due.Idle
unfolding next_event
idle-cut end limits past = refl

not-cut : {A : Type 0} (past before : List Event) → past ≡ Cut ∷ before → is_cut past ≡ false → A
not-cut past before is uncut = absurd (let here : is_cut past ≡ true = ap (λ (es : List Event). is_cut es) is in let b : ⊥ = cc in b)

module _ (o : CopyOptions) (p : Pasts) (v w : State) (left : Option ℕ) (c : CrewState) (u : IsUnderWay o p v c) (before : AreLeft o.cut (frames_sent v.client) left) (last : IsLast v left)
    (cut : HasBeenCut v w) (joint : AreJointIn w) (delivered : AreDelivered w) where
  is-asked : IsAskedCut o.cut o.limits w.client
  is-asked =
      subst (λ (es : List Event). IsAskedCut o.cut o.limits es) (sym cut.client)
      (asked-cut o.cut left o.limits v.client before last.none (ap (λ (l : Limits). is_emit (next_event side.Client l v.client)) (sym u.connected.client_limits) ∙ last.frame))

  cut-connected : IsConnected o w
  cut-connected = record {
    link = inr (record {
      number = is-asked.number;
      asked = is-asked.asked;
      place = is-asked.place;
      server = ap (λ (es : List Event). is_cut es) cut.server;
      link = cut.link;
    });
    few = subst (λ (es : List Event). EmitsFewer o.cut es) (sym cut.client) (few-left o.cut left (Cut ∷ v.client) before);
    client_limits = cut.client_limits ∙ u.connected.client_limits;
    server_limits = cut.server_limits ∙ u.connected.server_limits;
    lawful = u.connected.lawful;
    joint = joint;
    delivered = delivered;
    follows = subst (λ (l : Limits). RepliesFollow l w.server) (sym cut.server_limits)
        (subst (λ (es : List Event). RepliesFollow v.server_limits es) (sym cut.server) (follows-cut v.server_limits v.server u.connected.follows));
  }

  cut-tied : AreTied p w
  cut-tied = record {
    sent = ap (λ (es : List Event). messages_submitted es) cut.client ∙ u.tied.sent;
    heard = u.tied.heard ∙ ap (λ (l : Limits). messages_delivered side.Client l v.client) (sym cut.client_limits)
        ∙ ap (λ (es : List Event). messages_delivered side.Client w.client_limits es) (sym cut.client);
    replied = ap (λ (es : List Event). messages_submitted es) cut.server ∙ u.tied.replied;
    asked = u.tied.asked ∙ ap (λ (l : Limits). messages_delivered side.Server l v.server) (sym cut.server_limits)
        ∙ ap (λ (es : List Event). messages_delivered side.Server w.server_limits es) (sym cut.server);
  }

  pub cut-goes : IsUnderWay o p w c
  cut-goes = record { connected = cut-connected; tied = cut-tied; manned = u.manned; ruled = u.ruled }

  pub client-idle : (later : Pasts) (old : State) → ClientIsIdle o later old w
  client-idle later old = record {
    idle = ap (λ (es : List Event). next_event side.Client w.client_limits es) cut.client ∙ idle-cut side.Client w.client_limits v.client;
    taken = λ uncut. not-cut w.client v.client cut.client uncut;
    due = λ uncut. not-cut w.client v.client cut.client uncut;
  }

  pub server-idle : (later : Pasts) → ServerIsIdle o later w
  server-idle later = record {
    idle = ap (λ (es : List Event). next_event side.Server w.server_limits es) cut.server ∙ idle-cut side.Server w.server_limits v.server;
    taken = λ uncut. not-cut w.server v.server cut.server uncut;
    due = λ uncut. not-cut w.server v.server cut.server uncut;
  }

-- the client came to the frame in whose place the link was to be cut
have-cut : (o : CopyOptions) (p : Pasts) (a : Parts) (n : ClientMachine) (v w : State) (left : Option ℕ) (share : Share) → HasActed side.Client a.world v → IsLast v left
    → HasBeenCut v w → AreJointIn w → AreDelivered w → Stands o p a → ClientRan o p a n v left share → HaveEndsRun o p a (record a { world = w; client = n; left = left })
have-cut o p a n v w left share first last cut joint delivered s x =
    let q : Pasts = record p { client = x.later } in
    record {
      later = q;
      stands = record {
        under_way = cut-goes o q v w left a.crew x.under_way x.before last cut joint delivered;
        client = x.came;
        server = s.server;
        left = subst (λ (es : List Event). AreLeft o.cut (frames_sent es) left) (sym cut.client) x.before;
      };
      bytes = x.bytes;
      pool = refl;
      client = record { events = Cut ∷ first.own.events; is = cut.client ∙ ap (λ (es : List Event). Cut ∷ es) first.own.is };
      server = record { events = Cut ∷ []; is = cut.server ∙ ap (λ (es : List Event). Cut ∷ es) first.peer };
      client_share = inr (client-idle o q v w left a.crew x.under_way x.before last cut joint delivered q a.world);
      server_share = inr (server-idle o q v w left a.crew x.under_way x.before last cut joint delivered q);
      crew = refl;
    }

pub cut-so : (o : CopyOptions) (p : Pasts) (a b : Parts) (n : ClientMachine) (v w : State) (left : Option ℕ) (share : Share) → b ≡ record a { world = w; client = n; left = left }
    → HasActed side.Client a.world v → IsLast v left → HasBeenCut v w → Stands o p a → ClientRan o p a n v left share → AreJointIn b.world → AreDelivered b.world → HaveEndsRun o p a b
cut-so o p a b n v w left share is first last cut s x joint delivered =
    subst (λ (y : Parts). AreJointIn y.world → AreDelivered y.world → HaveEndsRun o p a y) (sym is)
    (λ (j : AreJointIn w) (d : AreDelivered w). have-cut o p a n v w left share first last cut j d s x) joint delivered

-- ---- the workers

pool-keeps : (o : CopyOptions) (p : Pasts) (pool : List Entry) → KeepsBytes o p (record p { pool = pool })
pool-keeps o p pool = by_kind o.kind refl where
  by_kind : (k : CopyKind) → o.kind ≡ k → KeepsBytes o p (record p { pool = pool })
  by_kind kinds.Put e = record { bytes = rw e refl; ended = rw e refl; groups = rw e refl }
  by_kind kinds.Get e = record { bytes = rw e refl; ended = rw e refl; groups = rw e refl }

pool-carries : (kind : CopyKind) (channel : Channel) (p : Pasts) (pool : List Entry) → Carries kind channel p → Carries kind channel (record p { pool = pool })
pool-carries kinds.Put channel p pool h = h
pool-carries kinds.Get channel p pool h = h

crew-goes : (o : CopyOptions) (p : Pasts) (w : State) (c d : CrewState) (g : GoesOn p c d) → AreAsMany c d → IsUnderWay o p w c → IsUnderWay o (record p { pool = g.pool }) w d
crew-goes o p w c d g many u = record {
  connected = u.connected;
  tied = record { sent = u.tied.sent; heard = u.tied.heard; replied = u.tied.replied; asked = u.tied.asked };
  manned = manned-so o p (record p { pool = g.pool }) c d many.clients many.servers many.pages g.coupled u.manned;
  ruled = record {
    client = u.ruled.client;
    server = u.ruled.server;
    copyable = copyable-kept o p (record p { pool = g.pool }) (pool-keeps o p g.pool) u.ruled.copyable;
    carried = pool-carries o.kind o.channel p g.pool u.ruled.carried;
  };
}

-- ---- the whole round

client-later : (o : CopyOptions) (p : Pasts) (old new : State) (pool : List Entry) → HasAdded 64 side.Client old new ⊎ ClientIsIdle o p old new
    → HasAdded 64 side.Client old new ⊎ ClientIsIdle o (record p { pool = pool }) old new
client-later o p old new pool (inl added) = inl added
client-later o p old new pool (inr idles) = inr (record { idle = idles.idle; taken = idles.taken; due = idles.due })

server-later : (o : CopyOptions) (p : Pasts) (old new : State) (pool : List Entry) → HasAdded 64 side.Server old new ⊎ ServerIsIdle o p new
    → HasAdded 64 side.Server old new ⊎ ServerIsIdle o (record p { pool = pool }) new
server-later o p old new pool (inl added) = inl added
server-later o p old new pool (inr idles) = inr (record { idle = idles.idle; taken = idles.taken; due = idles.due })

pub have-run : (o : CopyOptions) (p : Pasts) (a b : Parts) (d : CrewState) → Stands o p a → (e : HaveEndsRun o p a b) → GoesOn e.later b.crew d → AreAsMany b.crew d → HaveTurned b.crew d
    → HasRun o p a (record b { crew = d })
have-run o p a b d s e g many turned =
    let r : Pasts = e.later in
    let pool : List Entry = g.pool in
    let clients : AllGrew 0 p.pool pool b.crew.clients d.clients = subst (λ (then : List Entry). AllGrew 0 then pool b.crew.clients d.clients) e.pool g.clients in
    let servers : AllGrew (length b.crew.clients) p.pool pool b.crew.servers d.servers =
    subst (λ (then : List Entry). AllGrew (length b.crew.clients) then pool b.crew.servers d.servers) e.pool g.servers in
    record {
      later = record r { pool = pool };
      stands = record { under_way = crew-goes o r b.world b.crew d g many e.stands.under_way; client = e.stands.client; server = e.stands.server; left = e.stands.left };
      bytes = bytes-kept o p r (record r { pool = pool }) e.bytes (pool-keeps o r pool);
      client = e.client;
      server = e.server;
      clients = subst (λ (c : CrewState). AllGrew 0 p.pool pool c.clients d.clients) e.crew clients;
      servers = subst (λ (k : ℕ). AllGrew k p.pool pool a.crew.servers d.servers) s.under_way.manned.workers
          (subst (λ (c : CrewState). AllGrew (length c.clients) p.pool pool c.servers d.servers) e.crew servers);
      client_share = client-later o r a.world b.world pool e.client_share;
      server_share = server-later o r a.world b.world pool e.server_share;
      turned = subst (λ (c : CrewState). HaveTurned c d) e.crew turned;
    }
