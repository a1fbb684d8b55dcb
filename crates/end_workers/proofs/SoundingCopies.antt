-- A copy under way is one by its machines' pasts, and what its ends said is what its machines said.
use Rattle.std.proofs.Common.{◌≡◌, ℕ, List, [], ◌∷◌, ◌++◌, length, map, option_to_list, refl, sym, ap, ◌∙◌, subst, arith}
use mathlib.Core.List.{IsPrefix}
use Rattle.smbd_base.specs.declared.end_id.EndId.{EndId}
use Rattle.smbd_base.specs.declared.end_id.EndId.TheVariants.{Client, Server}
use Rattle.smbd_base.specs.declared.event.Event.{Event}
use Rattle.smbd_base.specs.declared.event.Event.TheVariants.{Post, Submit, Emit, Take, Cut}
use Rattle.smbd_base.specs.Limits.{Limits}
use Rattle.smbd_base.specs.History.{messages_submitted}
use Rattle.smbd_base.specs.Delivery.{messages_delivered, message_brought}
use Rattle.smbd_base.proofs.DeliveryLemmas.{delivered-take}
use Rattle.world_core.specs.Run.{State}
use Rattle.file_messages.specs.Messages.{reply_bytes}
use Rattle.file_pasts.specs.GetLaws.{replies_in}
use Rattle.file_pasts.specs.ServerDue.{replies}
use Rattle.file_pasts.specs.ServerLaws.{messages_asked}
use Rattle.page_crew.specs.Crews.{CrewState}
use Rattle.copy_laws.specs.Coupled.{Pasts, AreCoupled}
use Rattle.copy_laws.specs.Laws.{AreBetween}
use Rattle.copy_laws.proofs.Tokens.{prefix-trans}
use Rattle.copy_runs.specs.Runs.{Messages}
use Rattle.copy_runs.specs.CopyPasts.{IsCopy, messages_of}
use Rattle.copy_ends.specs.Turns.{HasGrown}
use Rattle.copy_parts.specs.declared.options.CopyOptions.{CopyOptions}
use Rattle.copy_parts.specs.Copies.{IsUnderWay}
use Rattle.end_workers.specs.Promise as promise
use Rattle.end_workers.proofs.SoundingGroups.{prefix-of}

pub between : (o : CopyOptions) (p : Pasts) (world : State) (crew : CrewState) → IsUnderWay o p world crew → AreBetween p
between o p world crew u = record {
  to_server = subst (λ (ms : List (List ℕ)). IsPrefix (messages_asked p.server) ms) u.tied.sent
      (subst (λ (ms : List (List ℕ)). IsPrefix ms (messages_submitted world.client)) (sym u.tied.asked) u.connected.delivered.to_server);
  to_client = subst (λ (ms : List (List ℕ)). IsPrefix (replies_in p.client) ms) u.tied.replied
      (subst (λ (ms : List (List ℕ)). IsPrefix ms (messages_submitted world.server)) (sym u.tied.heard) u.connected.delivered.to_client);
}

pub is-copy : (o : CopyOptions) (p : Pasts) (world : State) (crew : CrewState) → IsUnderWay o p world crew
    → IsCopy o.kind o.channel o.workers o.limits.pages p crew.region.pages crew.clients crew.servers
is-copy o p world crew u = record {
  some = omega (arith, u.manned.sized.some, u.manned.workers);
  pool = record { least = omega (arith, u.manned.sized.least, u.manned.pages); most = omega (arith, u.manned.sized.most, u.manned.pages) };
  coupled = subst (λ (n : ℕ). AreCoupled n o.limits.pages p crew.region.pages crew.clients crew.servers) u.manned.workers
      (subst (λ (n : ℕ). AreCoupled (length crew.clients) n p crew.region.pages crew.clients crew.servers) u.manned.pages u.manned.coupled);
  client = u.ruled.client;
  server = u.ruled.server;
  copyable = u.ruled.copyable;
  between = between o p world crew u;
  carried = u.ruled.carried;
}

-- what the machines were handed is what the ends delivered
pub asked-is : (o : CopyOptions) (p : Pasts) (world : State) (crew : CrewState) → IsUnderWay o p world crew → messages_asked p.server ≡ messages_delivered Server o.limits world.server
asked-is o p world crew u = u.tied.asked ∙ ap (λ (l : Limits). messages_delivered Server l world.server) u.connected.server_limits

pub heard-is : (o : CopyOptions) (p : Pasts) (world : State) (crew : CrewState) → IsUnderWay o p world crew → replies_in p.client ≡ messages_delivered Client o.limits world.client
heard-is o p world crew u = u.tied.heard ∙ ap (λ (l : Limits). messages_delivered Client l world.client) u.connected.client_limits

said : List (List ℕ) → List (List ℕ) → List (List ℕ) → List (List ℕ) → Messages
said requests replies asked heard = record { requests = requests; replies = replies; to_server = length asked; to_client = length heard }

pub messages-are : (o : CopyOptions) (p : Pasts) (world : State) (crew : CrewState) → IsUnderWay o p world crew → messages_of p ≡ promise.messages_of o world.client world.server
unfolding said
messages-are o p world crew u =
    ap (λ (ms : List (List ℕ)). said ms (map reply_bytes (replies p.server)) (messages_asked p.server) (replies_in p.client)) (sym u.tied.sent)
    ∙ ap (λ (ms : List (List ℕ)). said (messages_submitted world.client) ms (messages_asked p.server) (replies_in p.client)) (sym u.tied.replied)
    ∙ ap (λ (ms : List (List ℕ)). said (messages_submitted world.client) (messages_submitted world.server) ms (replies_in p.client)) (asked-is o p world crew u)
    ∙ ap (λ (ms : List (List ℕ)). said (messages_submitted world.client) (messages_submitted world.server) (messages_delivered Server o.limits world.server) ms) (heard-is o p world crew u)

-- ---- what was delivered stays so

event-delivered : (end : EndId) (limits : Limits) (e : Event) (past : List Event) → IsPrefix (messages_delivered end limits past) (messages_delivered end limits (e ∷ past))
event-delivered end limits (Post n) past = prefix-of _ _ refl
event-delivered end limits (Submit m) past = prefix-of _ _ refl
event-delivered end limits (Emit f) past = prefix-of _ _ refl
event-delivered end limits (Take f) past = (option_to_list (message_brought end limits past f), sym (delivered-take end limits past f))
event-delivered end limits Cut past = prefix-of _ _ refl

events-delivered : (end : EndId) (limits : Limits) (events old : List Event) → IsPrefix (messages_delivered end limits old) (messages_delivered end limits (events ++ old))
events-delivered end limits [] old = prefix-of _ _ refl
events-delivered end limits (e ∷ events) old =
    prefix-trans (messages_delivered end limits old) (messages_delivered end limits (events ++ old)) (messages_delivered end limits (e ∷ events ++ old))
    (events-delivered end limits events old) (event-delivered end limits e (events ++ old))

pub delivered-more : (end : EndId) (limits : Limits) (old new : List Event) → HasGrown old new → IsPrefix (messages_delivered end limits old) (messages_delivered end limits new)
delivered-more end limits old new g =
    subst (λ (past : List Event). IsPrefix (messages_delivered end limits old) (messages_delivered end limits past)) (sym g.is) (events-delivered end limits g.events old)
