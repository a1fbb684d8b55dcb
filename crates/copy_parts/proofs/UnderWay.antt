-- A copy that is under way, for the laws of copies; and what keeps it so.
use Rattle.std.proofs.Common.{◌≡◌, ℕ, ◌<◌, ◌^◌, List, length, map, refl, sym, ap, ◌∙◌, subst, arith}
use Rattle.std.specs.List.{flat_map}
use mathlib.Core.List.{IsPrefix}
use Rattle.smbd_base.specs.Pages.{PageState}
use Rattle.world_core.specs.Run.{State}
use Rattle.file_messages.specs.declared.kind.CopyKind.{CopyKind}
use Rattle.file_messages.specs.declared.kind.CopyKind.TheVariants as kinds
use Rattle.file_messages.specs.declared.kind.Channel.{Channel}
use Rattle.file_messages.specs.declared.message.Request.{Request}
use Rattle.file_messages.specs.declared.message.Reply.{Reply}
use Rattle.file_messages.specs.Messages.{request_bytes, reply_bytes}
use Rattle.file_messages.specs.Runs.{get_requests, replies_to}
use Rattle.file_messages.specs.Written.{IsCopyable}
use Rattle.file_pasts.specs.ClientPast.{ClientEvent}
use Rattle.file_pasts.specs.GetLaws.{replies_in}
use Rattle.file_pasts.specs.ServerDue.{ServerEvent, IsServer}
use Rattle.file_pasts.specs.ServerLaws.{groups_given, FillsFrom}
use Rattle.page_workers.specs.Workers.{WorkerState}
use Rattle.copy_laws.specs.Coupled.{Pasts, AreCoupled}
use Rattle.copy_laws.specs.Growing.{bytes_filled}
use Rattle.copy_laws.specs.Kinds.{IsClient}
use Rattle.copy_laws.specs.Laws.{AreBetween}
use Rattle.copy_runs.specs.CopyPasts.{bytes_of, Carries, IsCopy}
use Rattle.copy_ends.specs.declared.client_machine.ClientMachine.{ClientMachine}
use Rattle.copy_ends.specs.declared.client_machine.ClientMachine.TheVariants.{Put, Get}
use Rattle.copy_ends.specs.Clients.{ClientCameBy}
use Rattle.page_crew.specs.Crews.{CrewState}
use Rattle.copy_parts.specs.declared.options.CopyOptions.{CopyOptions}
use Rattle.copy_parts.specs.Copies.{IsConnected, AreTied, AreManned, IsUnderWay}
use Rattle.copy_parts.specs.Steps.{KeepsBytes}
use Rattle.copy_parts.proofs.Quiet.{SaysSame, BringsSame, RepliesSame, FillsSame}

-- ---- the messages of one machine come to the other

pub between : (o : CopyOptions) (p : Pasts) (w : State) → IsConnected o w → AreTied p w → AreBetween p
between o p w c t = record {
  to_server = rw (t.asked, sym t.sent) c.delivered.to_server;
  to_client = rw (t.heard, sym t.replied) c.delivered.to_client;
}

counted-so : (a b c d : ℕ) (p : Pasts) (pages : List PageState) (cs ss : List WorkerState) → a ≡ c → b ≡ d → AreCoupled a b p pages cs ss → AreCoupled c d p pages cs ss
counted-so a b c d p pages cs ss e f h =
    subst (λ (n : ℕ). AreCoupled n d p pages cs ss) e (subst (λ (n : ℕ). AreCoupled a n p pages cs ss) f h)

pub coupled-so : (o : CopyOptions) (p : Pasts) (c : CrewState) → AreManned o p c → AreCoupled o.workers o.limits.pages p c.region.pages c.clients c.servers
coupled-so o p c m = counted-so (length c.clients) (length c.region.pages) o.workers o.limits.pages p c.region.pages c.clients c.servers m.workers m.pages m.coupled

pub copy-of : (o : CopyOptions) (p : Pasts) (w : State) (c : CrewState) → IsUnderWay o p w c
    → IsCopy o.kind o.channel o.workers o.limits.pages p c.region.pages c.clients c.servers
copy-of o p w c u = record {
  some = omega (arith, u.manned.sized.some, u.manned.workers);
  pool = record { least = omega (arith, u.manned.sized.least, u.manned.pages); most = omega (arith, u.manned.sized.most, u.manned.pages) };
  coupled = coupled-so o p c u.manned;
  client = u.ruled.client;
  server = u.ruled.server;
  copyable = u.ruled.copyable;
  between = between o p w u.connected u.tied;
  carried = u.ruled.carried;
}

-- ---- machines follow their rules

pub client-lawful : (kind : CopyKind) (channel : Channel) (pages : ℕ) (past : List ClientEvent) (m : ClientMachine) → ClientCameBy kind channel pages past m → IsClient kind channel pages past
client-lawful kinds.Put channel pages past (Put m) h = h.requests.lawful
client-lawful kinds.Put channel pages past (Get m) h = absurd h
client-lawful kinds.Get channel pages past (Put m) h = absurd h
client-lawful kinds.Get channel pages past (Get m) h = h.requests.lawful

-- ---- events that are neither bytes nor messages

pub carries-client : (kind : CopyKind) (channel : Channel) (p : Pasts) (past : List ClientEvent) → replies_in past ≡ replies_in p.client → Carries kind channel p
    → Carries kind channel (record p { client = past })
carries-client kinds.Put channel p past e h = tt
carries-client kinds.Get channel p past e h =
    (h.0, subst (λ (ms : List (List ℕ)). IsPrefix ms (map reply_bytes (replies_to (bytes_filled p.server) (get_requests channel (bytes_filled p.server))))) (sym e) h.1)

pub carries-server : (kind : CopyKind) (channel : Channel) (p : Pasts) (past : List ServerEvent) → FillsSame p.server past → Carries kind channel p
    → Carries kind channel (record p { server = past })
carries-server kinds.Put channel p past e h = tt
carries-server kinds.Get channel p past e h = (
  subst (λ (bytes : List ℕ). FillsFrom kinds.Get bytes past) (sym e.filled) (e.fills (bytes_filled p.server) h.0),
  subst (λ (bytes : List ℕ). IsPrefix (replies_in p.client) (map reply_bytes (replies_to bytes (get_requests channel bytes)))) (sym e.filled) h.1,
)

pub client-bytes : (o : CopyOptions) (p : Pasts) (past : List ClientEvent) → BringsSame p.client past → KeepsBytes o p (record p { client = past })
client-bytes o p past h = by_kind o.kind refl where
  by_kind : (k : CopyKind) → o.kind ≡ k → KeepsBytes o p (record p { client = past })
  by_kind kinds.Put e = record {
    bytes = rw e (ap (λ (gs : List (List ℕ)). flat_map (λ (group : List ℕ). group) gs) h.groups);
    ended = rw e h.ended;
    groups = rw e refl;
  }
  by_kind kinds.Get e = record { bytes = rw e refl; ended = rw e refl; groups = rw e h.taken }

pub server-bytes : (o : CopyOptions) (p : Pasts) (past : List ServerEvent) → FillsSame p.server past → groups_given past ≡ groups_given p.server → KeepsBytes o p (record p { server = past })
server-bytes o p past h g = by_kind o.kind refl where
  by_kind : (k : CopyKind) → o.kind ≡ k → KeepsBytes o p (record p { server = past })
  by_kind kinds.Put e = record { bytes = rw e refl; ended = rw e refl; groups = rw e g }
  by_kind kinds.Get e = record { bytes = rw e h.filled; ended = rw e h.short; groups = rw e refl }

pub bytes-kept : (o : CopyOptions) (p q r : Pasts) → KeepsBytes o p q → KeepsBytes o q r → KeepsBytes o p r
bytes-kept o p q r a b = record { bytes = b.bytes ∙ a.bytes; ended = b.ended ∙ a.ended; groups = b.groups ∙ a.groups }

pub copyable-kept : (o : CopyOptions) (p q : Pasts) → KeepsBytes o p q → IsCopyable (bytes_of o.kind p) → IsCopyable (bytes_of o.kind q)
copyable-kept o p q k h = subst (λ (bytes : List ℕ). length bytes < 2 ^ 39) (sym k.bytes) h

-- ---- a machine goes on and its end doesn't

pub client-on : (o : CopyOptions) (p : Pasts) (past : List ClientEvent) (w : State) (c d : CrewState) → SaysSame p.client past
    → IsClient o.kind o.channel o.limits.pages past → IsCopyable (bytes_of o.kind (record p { client = past })) → AreManned o (record p { client = past }) d
    → IsUnderWay o p w c → IsUnderWay o (record p { client = past }) w d
client-on o p past w c d says rules copyable manned u = record {
  connected = u.connected;
  tied = record {
    sent = u.tied.sent ∙ ap (λ (rs : List Request). map request_bytes rs) (sym says.sent);
    heard = says.heard ∙ u.tied.heard;
    replied = u.tied.replied;
    asked = u.tied.asked;
  };
  manned = manned;
  ruled = record { client = rules; server = u.ruled.server; copyable = copyable; carried = carries-client o.kind o.channel p past says.heard u.ruled.carried };
}

pub server-on : (o : CopyOptions) (p : Pasts) (past : List ServerEvent) (w : State) (c d : CrewState) → RepliesSame p.server past
    → IsServer o.kind past → IsCopyable (bytes_of o.kind (record p { server = past })) → Carries o.kind o.channel (record p { server = past })
    → AreManned o (record p { server = past }) d → IsUnderWay o p w c → IsUnderWay o (record p { server = past }) w d
server-on o p past w c d says rules copyable carried manned u = record {
  connected = u.connected;
  tied = record {
    sent = u.tied.sent;
    heard = u.tied.heard;
    replied = u.tied.replied ∙ ap (λ (rs : List Reply). map reply_bytes rs) (sym says.replied);
    asked = says.asked ∙ u.tied.asked;
  };
  manned = manned;
  ruled = record { client = u.ruled.client; server = rules; copyable = copyable; carried = carried };
}
