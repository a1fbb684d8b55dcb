-- The text of a copy's log fixes what happened in it.
use Rattle.std.proofs.Common.{◌≡◌, ℕ, zero, suc, ◌+◌, List, length, refl, sym, ◌∙◌, subst, arith}
use Rattle.std.specs.Prelude.{slice_get}
use Rattle.smbd_base.specs.declared.end_id.EndId.TheVariants.{Client}
use Rattle.smbd_base.specs.declared.event.Event.{Event}
use Rattle.smbd_base.specs.declared.page_event.PageEvent.{PageEvent}
use Rattle.smbd_base.specs.History.{messages_submitted}
use Rattle.smbd_base.specs.Delivery.{messages_delivered}
use Rattle.event_log.specs.declared.side.Side.{Side}
use Rattle.event_log.specs.declared.side.Side.TheVariants.{C, S, Cw, Sw}
use Rattle.copy_log.specs.CopyLogs.{Deeds, page_lines, list_or_none}
use Rattle.copy_runs.specs.Runs.{request_messages, reply_messages}
use Rattle.copy_texts.specs.Texts.{Setting, IsOf, TextsFix}
use Rattle.copy_texts.proofs.Pairs.{Pairwise}
use Rattle.copy_texts.proofs.SideLines.{AreFew, same-lines}
use Rattle.copy_texts.proofs.Histories.{histories-same}
use Rattle.copy_texts.proofs.PageShapes.{IsLikeTold, lists-alike}
use Rattle.copy_texts.proofs.PageKinds.{lists-of-copies}

few-of : (s : Setting) (d : Deeds) → IsOf s d → AreFew d
few-of s d h =
    let few = h.few in
    let clients = h.clients in
    let servers = h.servers in
    record { clients = omega (arith, few, clients); servers = omega (arith, few, servers) }

deeds-is : (client other_client server other_server : List Event) (clients other_clients servers other_servers : List (List PageEvent))
    → client ≡ other_client → server ≡ other_server → clients ≡ other_clients → servers ≡ other_servers
    → ◌≡◌ {A = Deeds} (record { client = client; server = server; clients = clients; servers = servers })
    (record { client = other_client; server = other_server; clients = other_clients; servers = other_servers })
deeds-is client other_client server other_server clients other_clients servers other_servers a b c d = rw (a, b, c, d) refl

-- the lists of the workers of an end, by the lines of all sides
workers-alike : (name : ℕ → Side) (xs ys : List (List PageEvent)) → length xs ≡ length ys
    → ((place : ℕ) → page_lines (name (suc place)) (list_or_none (slice_get xs place)) ≡ page_lines (name (suc place)) (list_or_none (slice_get ys place)))
    → Pairwise (Pairwise IsLikeTold) xs ys
workers-alike name xs ys long h =
    lists-alike name zero xs ys long (λ place.
    subst (λ (k : ℕ). page_lines (name k) (list_or_none (slice_get xs place)) ≡ page_lines (name k) (list_or_none (slice_get ys place)))
    (let z : suc place ≡ zero + suc place = omega arith in z) (h place))

pub texts-fix : TextsFix
texts-fix s d e text of_d of_e log other =
    let lines = same-lines d e text (few-of s d of_d) (few-of s e of_e) log other in
    let histories =
    histories-same s.limits (request_messages s.kind s.channel s.limits.pages s.ended s.bytes) (reply_messages s.kind s.channel s.limits.pages s.ended s.bytes)
    d.client d.server e.client e.server of_d.joint of_e.joint of_d.requests of_e.requests of_d.replies of_e.replies (lines C) (lines S) in
    let clients = workers-alike (λ (k : ℕ). Cw k) d.clients e.clients (of_d.clients ∙ sym of_e.clients) (λ place. lines (Cw (suc place))) in
    let servers = workers-alike (λ (k : ℕ). Sw k) d.servers e.servers (of_d.servers ∙ sym of_e.servers) (λ place. lines (Sw (suc place))) in
    let lists =
    lists-of-copies s.kind s.channel s.limits.pages s.ended s.bytes
    (length (messages_submitted d.client)) (length (messages_submitted d.server)) (length (messages_delivered Client s.limits d.client))
    (length (messages_submitted e.client)) (length (messages_submitted e.server)) (length (messages_delivered Client s.limits e.client))
    d.clients d.servers e.clients e.servers of_d.pool of_d.copyable of_d.pages of_e.pages of_d.fit of_e.fit clients servers in
    deeds-is d.client e.client d.server e.server d.clients e.clients d.servers e.servers histories.0 histories.1 lists.0 lists.1
