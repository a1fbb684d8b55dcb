-- Bytes that are wanted can be handed in.
use Rattle.std.proofs.Common.{◌≡◌, ℕ, ◌+◌, ◌<◌, ◌≤◌, ◌^◌, ◌==◌, nat_lt, not, ◌&&◌, ◌||◌, Bool, true, false, is_some, Option, Some, None, List, [], ◌∷◌, ◌++◌, length, refl, sym, ap, ◌∙◌, subst, arith, length-append}
use Rattle.std.proofs.lemmas.Bool.{false≢true}
use Rattle.std.proofs.lemmas.Bool.Decides.{nat_tests}
use Rattle.std.proofs.lemmas.List.{append-nil, flat_map_more}
use Rattle.world_core.specs.Run.{State}
use Rattle.file_messages.specs.declared.layout.TheConstants.{GROUP_SIZE}
use Rattle.file_messages.specs.declared.kind.CopyKind.{CopyKind}
use Rattle.file_messages.specs.declared.kind.CopyKind.TheVariants as kinds
use Rattle.file_messages.specs.Written.{IsCopyable}
use Rattle.file_pasts.specs.ClientPast.{ClientEvent, Group, End, groups_in, is_ended}
use Rattle.file_pasts.specs.PutDue.{are_whole, has_room}
use Rattle.file_pasts.specs.PutLaws.{put_over, bytes_in}
use Rattle.file_pasts.specs.ServerDue as server
use Rattle.file_pasts.specs.ServerDue.{Filled, Follows}
use Rattle.copy_laws.specs.Coupled.{Pasts}
use Rattle.copy_laws.specs.Kinds.{IsClient, group_wanted, after_end}
use Rattle.copy_laws.specs.Steps.{server_after}
use Rattle.copy_runs.specs.CopyPasts.{is_short, bytes_of, IsCopy}
use Rattle.copy_runs.proofs.CopiesCarry.{servers-carry}
use Rattle.copy_runs.proofs.ServersWant.{servers-want}
use Rattle.file_server.specs.declared.server.FileServer.{FileServer}
use Rattle.file_server.specs.ServerStands.{CameBy, MayFill}
use Rattle.copy_ends.specs.declared.client_machine.ClientMachine.{ClientMachine}
use Rattle.copy_ends.specs.Clients.{ClientCameBy}
use Rattle.page_crew.specs.Crews.{CrewState}
use Rattle.copy_parts.specs.declared.options.CopyOptions.{CopyOptions}
use Rattle.copy_parts.specs.declared.parts.Parts.{Parts}
use Rattle.copy_parts.specs.Copies.{IsUnderWay, Stands, wants_bytes}
use Rattle.copy_parts.specs.Steps.{AreWanted, HasMore, HasTaken, MayTake}
use Rattle.copy_parts.proofs.Quiet.{SaysSame, WorksSame}
use Rattle.copy_parts.proofs.UnderWay.{copy-of, client-on, server-on}
use Rattle.copy_parts.proofs.Manned.{client-manned, server-manned}

-- ---- a put's client

-- it was handed these bytes
abbrev pub with_group : List ℕ → List ClientEvent → List ClientEvent
with_group [] past = past
with_group (b ∷ bytes) past = Group (b ∷ bytes) ∷ past

-- and told their end where it was seen
abbrev pub with_end : Bool → List ClientEvent → List ClientEvent
with_end false past = past
with_end true past = End ∷ past

abbrev pub client_taken : List ℕ → Bool → Pasts → Pasts
client_taken bytes ended p = record p { client = with_end ended (with_group bytes p.client) }

not-ended : (t whole room : Bool) → (not t && whole && room) ≡ true → t ≡ false
not-ended false whole room e = refl
not-ended true whole room e = absurd (false≢true e)

bytes-in : (ended : Bool) (bytes : List ℕ) (past : List ClientEvent) → bytes_in (with_end ended (with_group bytes past)) ≡ bytes_in past ++ bytes
bytes-in false [] past = sym (append-nil (bytes_in past))
bytes-in true [] past = sym (append-nil (bytes_in past))
bytes-in false (b ∷ bytes) past = sym (flat_map_more (λ (group : List ℕ). group) [] (groups_in past) (b ∷ bytes))
bytes-in true (b ∷ bytes) past = sym (flat_map_more (λ (group : List ℕ). group) [] (groups_in past) (b ∷ bytes))

end-told : (ended : Bool) (bytes : List ℕ) (past : List ClientEvent) → is_ended past ≡ false → is_ended (with_end ended (with_group bytes past)) ≡ ended
end-told true bytes past e = refl
end-told false [] past e = e
end-told false (b ∷ bytes) past e = e

group-rules : (kind : CopyKind) (o : CopyOptions) (bytes : List ℕ) (past : List ClientEvent) → kind ≡ kinds.Put → group_wanted kind o.channel o.limits.pages past ≡ true → length bytes ≤ GROUP_SIZE
    → IsClient kind o.channel o.limits.pages past → IsClient kind o.channel o.limits.pages (with_group bytes past)
group-rules kinds.Put o [] past e wanted short h = h
group-rules kinds.Put o (b ∷ bytes) past e wanted short h = ((wanted, (let some : 1 ≤ length (b ∷ bytes) = omega arith in some), short), h)
group-rules kinds.Get o bytes past e wanted short h = absurd (let x : ⊥ = cc in x)

end-rules : (kind : CopyKind) (o : CopyOptions) (ended : Bool) (past : List ClientEvent) → kind ≡ kinds.Put → IsClient kind o.channel o.limits.pages past
    → IsClient kind o.channel o.limits.pages (with_end ended past)
end-rules kinds.Put o false past e h = h
end-rules kinds.Put o true past e h = (tt, h)
end-rules kinds.Get o ended past e h = absurd (let x : ⊥ = cc in x)

taken-says : (ended : Bool) (bytes : List ℕ) (past : List ClientEvent) → SaysSame past (with_end ended (with_group bytes past))
taken-says false [] past = record { sent = refl; heard = refl }
taken-says false (b ∷ bytes) past = record { sent = refl; heard = refl }
taken-says true [] past = record { sent = refl; heard = refl }
taken-says true (b ∷ bytes) past = record { sent = refl; heard = refl }

taken-works : (ended : Bool) (bytes : List ℕ) (past : List ClientEvent) → WorksSame past (with_end ended (with_group bytes past))
taken-works false [] past = record { given = refl; done = refl }
taken-works false (b ∷ bytes) past = record { given = refl; done = refl }
taken-works true [] past = record { given = refl; done = refl }
taken-works true (b ∷ bytes) past = record { given = refl; done = refl }

-- ---- bytes that are wanted

within : (ended : Bool) (n : ℕ) → (ended ≡ false → n ≡ GROUP_SIZE) → (ended ≡ true → n < GROUP_SIZE) → n ≤ GROUP_SIZE
within false n whole part = (let e = whole refl in omega arith)
within true n whole part = (let e = part refl in omega arith)

pub put-wants : (o : CopyOptions) (p : Pasts) (bytes : List ℕ) (ended : Bool) → o.kind ≡ kinds.Put → AreWanted o p bytes ended
    → group_wanted o.kind o.channel o.limits.pages p.client ≡ true
put-wants o p bytes ended put h = subst (λ (k : CopyKind). group_wanted k o.channel o.limits.pages p.client ≡ true) (sym put)
    (subst (λ (k : CopyKind). wants_bytes k o.channel o.limits.pages p ≡ true) put h.wanted)

copyable-more : (o : CopyOptions) (p q : Pasts) (bytes : List ℕ) → bytes_of o.kind q ≡ bytes_of o.kind p ++ bytes → length (bytes_of o.kind p) + length bytes < 2 ^ 39
    → IsCopyable (bytes_of o.kind q)
copyable-more o p q bytes e few =
    let long : length (bytes_of o.kind q) ≡ length (bytes_of o.kind p) + length bytes =
    ap (λ (l : List ℕ). length l) e ∙ length-append (bytes_of o.kind p) bytes in
    omega (arith, long, few)

module _ (o : CopyOptions) (p : Pasts) (bytes : List ℕ) (ended : Bool) (w : State) (c : CrewState) (u : IsUnderWay o p w c) (h : AreWanted o p bytes ended) where
  short : length bytes ≤ GROUP_SIZE
  short = within ended (length bytes) h.whole h.part

  -- ---- by a put

  module _ (put : o.kind ≡ kinds.Put) where
    group-wanted : group_wanted kinds.Put o.channel o.limits.pages p.client ≡ true
    group-wanted = subst (λ (k : CopyKind). group_wanted k o.channel o.limits.pages p.client ≡ true) put (put-wants o p bytes ended put h)

    put-bytes : bytes_of o.kind (client_taken bytes ended p) ≡ bytes_of o.kind p ++ bytes
    put-bytes = rw put (bytes-in ended bytes p.client)

    pub put-more : HasMore o p (client_taken bytes ended p) bytes ended
    put-more = record {
      bytes_are = put-bytes;
      ended_is = rw put (end-told ended bytes p.client (not-ended (is_ended p.client) (are_whole (groups_in p.client)) (has_room (put_over o.channel o.limits.pages) p.client) group-wanted));
      groups = rw put refl;
      pool = refl;
    }

    pub put-takes : IsUnderWay o (client_taken bytes ended p) w c
    put-takes = client-on o p (with_end ended (with_group bytes p.client)) w c c (taken-says ended bytes p.client)
        (end-rules o.kind o ended (with_group bytes p.client) put
        (group-rules o.kind o bytes p.client put (put-wants o p bytes ended put h) short u.ruled.client))
        (copyable-more o p (client_taken bytes ended p) bytes put-bytes h.few)
        (client-manned o p c (with_end ended (with_group bytes p.client)) (taken-works ended bytes p.client) u.manned) u

  -- ---- by a get

  module _ (get : o.kind ≡ kinds.Get) where
    copy : IsCopy kinds.Get o.channel o.workers o.limits.pages p c.region.pages c.clients c.servers
    copy = subst (λ (k : CopyKind). IsCopy k o.channel o.workers o.limits.pages p c.region.pages c.clients c.servers) get (copy-of o p w c u)

    -- a READ wants a whole group, and the end of the bytes was not seen
    pub record IsRead : Type 0 where
      pub wants : server.wants_source kinds.Get p.server ≡ Some GROUP_SIZE
      pub goes_on : is_short p.server ≡ false

    by-most : (x : Option ℕ) → server.wants_source kinds.Get p.server ≡ x → is_some x ≡ true → IsRead
    by-most None e some = absurd (false≢true some)
    by-most (Some most) e some =
        let whole = servers-want o.channel o.workers o.limits.pages p c.region.pages c.clients c.servers most copy e in
        record { wants = e ∙ ap (λ (n : ℕ). Some n) whole.whole; goes_on = whole.goes_on }

    pub read : IsRead
    read = by-most (server.wants_source kinds.Get p.server) refl (subst (λ (k : CopyKind). wants_bytes k o.channel o.limits.pages p ≡ true) get h.wanted)

    seen : (t s : Bool) (n : ℕ) → s ≡ false → (t ≡ false → n ≡ GROUP_SIZE) → (t ≡ true → n < GROUP_SIZE) → (nat_lt n GROUP_SIZE || s) ≡ t
    seen false s n e whole part = rw (whole refl, e) refl
    seen true s n e whole part = (let less : n < GROUP_SIZE = part refl in let test : nat_lt n GROUP_SIZE ≡ true = grind (arith, nat_tests) in rw test refl)

    get-bytes : bytes_of o.kind (server_after (Filled bytes) p) ≡ bytes_of o.kind p ++ bytes
    get-bytes = rw get refl

    pub get-more : HasMore o p (server_after (Filled bytes) p) bytes ended
    get-more = record {
      bytes_are = get-bytes;
      ended_is = rw get (seen ended (is_short p.server) (length bytes) read.goes_on h.whole h.part);
      groups = rw get refl;
      pool = refl;
    }

    pub get-takes : IsUnderWay o (server_after (Filled bytes) p) w c
    get-takes =
        let follows : Follows o.kind (Filled bytes) p.server = (GROUP_SIZE, subst (λ (k : CopyKind). server.wants_source k p.server ≡ Some GROUP_SIZE) (sym get) read.wants, short) in
        server-on o p (Filled bytes ∷ p.server) w c c (record { replied = refl; asked = refl }) (follows, u.ruled.server)
        (copyable-more o p (server_after (Filled bytes) p) bytes get-bytes h.few)
        (servers-carry o.kind o.channel o.workers o.limits.pages p c.region.pages c.clients c.servers (Filled bytes) (copy-of o p w c u) follows)
        (server-manned o p c (Filled bytes ∷ p.server) (record { given = refl; done = refl }) u.manned) u

-- ---- by either kind

-- bytes that are wanted can be handed in: with them, too, the copy is one under way
pub record CanBeTaken (o : CopyOptions) (p : Pasts) (bytes : List ℕ) (ended : Bool) (world : State) (crew : CrewState) : Type 0 where
  pub later : Pasts
  pub under_way : IsUnderWay o later world crew
  pub more : HasMore o p later bytes ended

pub takes-lawfully : (o : CopyOptions) (p : Pasts) (bytes : List ℕ) (ended : Bool) (world : State) (crew : CrewState) → IsUnderWay o p world crew → AreWanted o p bytes ended
    → CanBeTaken o p bytes ended world crew
takes-lawfully o p bytes ended world crew u h = by_kind o.kind refl where
  by_kind : (k : CopyKind) → o.kind ≡ k → CanBeTaken o p bytes ended world crew
  by_kind kinds.Put e = record { later = client_taken bytes ended p; under_way = put-takes o p bytes ended world crew u h e; more = put-more o p bytes ended world crew u h e }
  by_kind kinds.Get e = record { later = server_after (Filled bytes) p; under_way = get-takes o p bytes ended world crew u h e; more = get-more o p bytes ended world crew u h e }

-- ---- the machines that are handed them

-- a put's client was handed its group, if it has bytes, and nothing else has changed
pub record HasGrouped (o : CopyOptions) (p : Pasts) (bytes : List ℕ) (a b : Parts) : Type 0 where
  pub came : ClientCameBy o.kind o.channel o.limits.pages (with_group bytes p.client) b.client
  pub same : b ≡ record a { client = b.client }

with-some : (bytes : List ℕ) (past : List ClientEvent) → false ≡ (length bytes == 0) → Group bytes ∷ past ≡ with_group bytes past
with-some [] past some = absurd (false≢true some)
with-some (b ∷ bytes) past some = refl

with-none : (bytes : List ℕ) (past : List ClientEvent) → true ≡ (length bytes == 0) → past ≡ with_group bytes past
with-none [] past none = refl
with-none (b ∷ bytes) past none = absurd (let empty : length (b ∷ bytes) ≡ 0 = grind (arith, nat_tests) in omega (arith, empty))

pub some-grouped : (o : CopyOptions) (p : Pasts) (bytes : List ℕ) (a b : Parts) (m : ClientMachine) → b ≡ record a { client = m } → false ≡ (length bytes == 0)
    → ClientCameBy o.kind o.channel o.limits.pages (Group bytes ∷ p.client) m → HasGrouped o p bytes a b
some-grouped o p bytes a b m is some came = record {
  came = rw is (subst (λ (past : List ClientEvent). ClientCameBy o.kind o.channel o.limits.pages past m) (with-some bytes p.client some) came);
  same = rw is refl;
}

pub none-grouped : (o : CopyOptions) (p : Pasts) (bytes : List ℕ) (a b : Parts) → b ≡ a → true ≡ (length bytes == 0) → ClientCameBy o.kind o.channel o.limits.pages p.client a.client
    → HasGrouped o p bytes a b
none-grouped o p bytes a b is none came = record {
  came = rw is (subst (λ (past : List ClientEvent). ClientCameBy o.kind o.channel o.limits.pages past a.client) (with-none bytes p.client none) came);
  same = rw is refl;
}

pub told-end : (o : CopyOptions) (bytes : List ℕ) (past : List ClientEvent) (m : ClientMachine) → o.kind ≡ kinds.Put
    → ClientCameBy o.kind o.channel o.limits.pages (after_end o.kind (with_group bytes past)) m → ClientCameBy o.kind o.channel o.limits.pages (with_end true (with_group bytes past)) m
told-end o bytes past m put came = subst (λ (k : CopyKind). ClientCameBy o.kind o.channel o.limits.pages (after_end k (with_group bytes past)) m) put came

pub put-taken : (o : CopyOptions) (p : Pasts) (bytes : List ℕ) (ended : Bool) (a b : Parts) (m : ClientMachine) → o.kind ≡ kinds.Put → Stands o p a → AreWanted o p bytes ended
    → HasGrouped o p bytes a b → ClientCameBy o.kind o.channel o.limits.pages (with_end ended (with_group bytes p.client)) m → HasTaken o p bytes ended a (record b { client = m })
put-taken o p bytes ended a b m put s h g came =
    subst (λ (x : Parts). HasTaken o p bytes ended a (record x { client = m })) (sym g.same) (record {
      later = client_taken bytes ended p;
      stands = record { under_way = put-takes o p bytes ended a.world a.crew s.under_way h put; client = came; server = s.server; left = s.left };
      more = put-more o p bytes ended a.world a.crew s.under_way h put;
      left = rw put refl;
      history = record { pool = refl; world = refl; clients = refl; servers = refl };
      crew = refl;
    })

pub may-fill : (kind : CopyKind) (bytes : List ℕ) (ended : Bool) (a : Parts) → kind ≡ kinds.Get → MayTake kind bytes ended a → MayFill a.server bytes
may-fill kind bytes ended a is may = by_kind o.kind (may.kind_is ∙ is) may.stands.server where
  o : CopyOptions
  o = may.options

  by_kind : (k : CopyKind) → k ≡ kinds.Get → CameBy k may.past.server a.server → MayFill a.server bytes
  by_kind kinds.Put e came = absurd (let x : ⊥ = cc in x)
  by_kind kinds.Get e came = record {
    kind = kinds.Get;
    past = may.past.server;
    came = came;
    most = GROUP_SIZE;
    wanted = (read o may.past bytes ended a.world a.crew may.stands.under_way may.wanted (may.kind_is ∙ is)).wants;
    short = within ended (length bytes) may.wanted.whole may.wanted.part;
  }

pub get-taken : (o : CopyOptions) (p : Pasts) (bytes : List ℕ) (ended : Bool) (a : Parts) (m : FileServer) → o.kind ≡ kinds.Get → Stands o p a → AreWanted o p bytes ended
    → CameBy o.kind (Filled bytes ∷ p.server) m → HasTaken o p bytes ended a (record a { server = m })
get-taken o p bytes ended a m get s h came = record {
  later = server_after (Filled bytes) p;
  stands = record { under_way = get-takes o p bytes ended a.world a.crew s.under_way h get; client = s.client; server = came; left = s.left };
  more = get-more o p bytes ended a.world a.crew s.under_way h get;
  left = rw get refl;
  history = record { pool = refl; world = refl; clients = refl; servers = refl };
  crew = refl;
}
