-- A step of the world is a step of its state.
use Rattle.std.proofs.Common.{◌≡◌, ℕ, Bool, Option, Some, None, Result, Ok, Err, OnOk, OnErr, List, [], ◌∷◌, ◌++◌, length, drop, refl, ap, subst, sym, ◌∙◌}
use Rattle.std.proofs.lemmas.List.{drop_at}
use Rattle.smbd_base.specs.declared.end_id.EndId.{EndId}
use Rattle.smbd_base.specs.declared.end_id.EndId.TheVariants.{Client, Server}
use Rattle.smbd_base.specs.declared.event.Event.{Event}
use Rattle.smbd_base.specs.declared.event.Event.TheVariants.{Post}
use Rattle.smbd_base.specs.declared.no_memory.NoMemory.{NoMemory}
use Rattle.smbd_base.specs.Limits.{Limits, IsLawful}
use Rattle.smbd_base.specs.Counts.{peer_of}
use Rattle.smbd_base.specs.Delivery.{messages_delivered}
use Rattle.smbd_base.specs.History.{messages_submitted}
use Rattle.smbd_base.specs.Joint.{emitted_frames, taken_frames}
use Rattle.joint_laws.specs.Halves.{AreBeside}
use Rattle.joint_laws.proofs.Growing.{client_beside, turned, turned_back, joint, opened_joint}
use Rattle.world_core.specs.declared.choice.Choice.{Choice}
use Rattle.world_core.specs.declared.choice.Step.{Step}
use Rattle.world_core.specs.Choices.{end_of}
use Rattle.world_core.specs.Linked.{Linked, event_at, own_after, peer_after}
use Rattle.world_core.specs.Paired.{state_of, ArePaired, IsPair}
use Rattle.world_core.specs.Run.{State, linked_of, frames_in_flight, messages_left, event_chosen, link_after, order_after, state_after, step_of, AreDelivered, SendFewEmptyIn, DeliverAllOnceQuietIn}
use Rattle.smbd_laws.proofs.Delivering.{server_delivers, client_delivers}
use Rattle.empty_frames.proofs.Bounding.{few_empty}
use Rattle.quiet_ends.proofs.Quieting.{all_once_quiet}
use Rattle.world_core.proofs.Pairing.{pair_after}

-- ---- a client and a server

beside_at : (x y : EndId) (own_limits peer_limits : Limits) (own peer : List Event) → x ≡ y → AreBeside x own_limits peer_limits own peer → AreBeside y own_limits peer_limits own peer
beside_at x y own_limits peer_limits own peer is h = subst (λ (z : EndId). AreBeside z own_limits peer_limits own peer) is h

pub client_pair : (client server : Linked) → ArePaired client server → IsPair client server
client_pair client server h = record {
  peer_side = h.server_side ∙ ap peer_of (sym h.client_side);
  own_lawful = h.client_lawful;
  peer_lawful = h.server_lawful;
  beside = beside_at Client client.side client.limits server.limits client.past server.past (sym h.client_side)
      (client_beside client.limits server.limits client.past server.past h.client_lawful h.server_lawful h.joint);
  to_own = h.to_client;
  to_peer = h.to_server;
  for_own = h.for_client;
  for_peer = h.for_server;
}

pub server_pair : (client server : Linked) → ArePaired client server → IsPair server client
server_pair client server h = record {
  peer_side = h.client_side ∙ ap peer_of (sym h.server_side);
  own_lawful = h.server_lawful;
  peer_lawful = h.client_lawful;
  beside = beside_at Server server.side server.limits client.limits server.past client.past (sym h.server_side)
      (turned client.limits server.limits client.past server.past h.client_lawful h.server_lawful
      (client_beside client.limits server.limits client.past server.past h.client_lawful h.server_lawful h.joint));
  to_own = h.to_server;
  to_peer = h.to_client;
  for_own = h.for_server;
  for_peer = h.for_client;
}

paired_client : (client server : Linked) → client.side ≡ Client → server.side ≡ Server → IsPair client server → ArePaired client server
paired_client client server is is' h = record {
  client_side = is;
  server_side = is';
  client_lawful = h.own_lawful;
  server_lawful = h.peer_lawful;
  joint = joint client.limits server.limits client.past server.past h.own_lawful h.peer_lawful
      (beside_at client.side Client client.limits server.limits client.past server.past is h.beside);
  to_client = h.to_own;
  to_server = h.to_peer;
  for_client = h.for_own;
  for_server = h.for_peer;
}

paired_server : (client server : Linked) → client.side ≡ Client → server.side ≡ Server → IsPair server client → ArePaired client server
paired_server client server is is' h = record {
  client_side = is;
  server_side = is';
  client_lawful = h.peer_lawful;
  server_lawful = h.own_lawful;
  joint = joint client.limits server.limits client.past server.past h.peer_lawful h.own_lawful
      (turned_back client.limits server.limits client.past server.past h.peer_lawful h.own_lawful
      (beside_at server.side Server server.limits client.limits server.past client.past is' h.beside));
  to_client = h.to_peer;
  to_server = h.to_own;
  for_client = h.for_peer;
  for_server = h.for_own;
}

pub delivered : (client server : Linked) (link_cut : Bool) (order : List EndId) → ArePaired client server → AreDelivered (state_of client server link_cut order)
delivered client server link_cut order h = record {
  to_server = server_delivers client.limits server.limits client.past server.past h.client_lawful h.server_lawful h.joint.linked;
  to_client = client_delivers client.limits server.limits client.past server.past h.client_lawful h.server_lawful h.joint.linked;
}

pub few : (client server : Linked) (link_cut : Bool) (order : List EndId) → ArePaired client server → SendFewEmptyIn (state_of client server link_cut order)
few client server link_cut order h = few_empty client.limits server.limits client.past server.past h.client_lawful h.server_lawful h.joint

pub once_quiet : (client server : Linked) (link_cut : Bool) (order : List EndId) → ArePaired client server → DeliverAllOnceQuietIn (state_of client server link_cut order)
once_quiet client server link_cut order h = all_once_quiet client.limits server.limits client.past server.past h.client_lawful h.server_lawful h.joint

-- ---- after a choice

own_side : (own : Linked) (o : Option Event) → (own_after own o).side ≡ own.side
own_side own None = refl
own_side own (Some event) = refl

peer_side : (peer : Linked) (o : Option Event) → (peer_after peer o).side ≡ peer.side
peer_side peer None = refl
peer_side peer (Some event) = refl

client_after : (client server : Linked) (link_cut : Bool) (choice : Choice) → ArePaired client server
    → ArePaired (own_after client (event_at client link_cut choice)) (peer_after server (event_at client link_cut choice))
client_after client server link_cut choice h =
    let o : Option Event = event_at client link_cut choice in
    paired_client (own_after client o) (peer_after server o) (own_side client o ∙ h.client_side) (peer_side server o ∙ h.server_side)
    (pair_after client server link_cut choice (client_pair client server h))

server_after : (client server : Linked) (link_cut : Bool) (choice : Choice) → ArePaired client server
    → ArePaired (peer_after client (event_at server link_cut choice)) (own_after server (event_at server link_cut choice))
server_after client server link_cut choice h =
    let o : Option Event = event_at server link_cut choice in
    paired_server (peer_after client o) (own_after server o) (peer_side client o ∙ h.client_side) (own_side server o ∙ h.server_side)
    (pair_after server client link_cut choice (server_pair client server h))

-- the two ends once the client has done its step, or could not for want of memory
pub client_paired : (r : Result Step NoMemory) (client server client' server' : Linked) (link_cut : Bool) (choice : Choice) → ArePaired client server
    → OnOk r (client' ≡ own_after client (event_at client link_cut choice)) → OnOk r (server' ≡ peer_after server (event_at client link_cut choice))
    → OnErr r (client' ≡ client) → OnErr r (server' ≡ server) → ArePaired client' server'
client_paired (Ok step) client server client' server' link_cut choice h own peer own_same peer_same =
    rw (own, peer) (client_after client server link_cut choice h)
client_paired (Err fault) client server client' server' link_cut choice h own peer own_same peer_same = rw (own_same, peer_same) h

pub server_paired : (r : Result Step NoMemory) (client server client' server' : Linked) (link_cut : Bool) (choice : Choice) → ArePaired client server
    → OnOk r (server' ≡ own_after server (event_at server link_cut choice)) → OnOk r (client' ≡ peer_after client (event_at server link_cut choice))
    → OnErr r (server' ≡ server) → OnErr r (client' ≡ client) → ArePaired client' server'
server_paired (Ok step) client server client' server' link_cut choice h own peer own_same peer_same =
    rw (own, peer) (server_after client server link_cut choice h)
server_paired (Err fault) client server client' server' link_cut choice h own peer own_same peer_same = rw (own_same, peer_same) h

-- ---- of the state

in_flight : (own peer : Linked) → emitted_frames peer.past ≡ taken_frames own.past ++ own.arriving → frames_in_flight own.past peer.past ≡ own.arriving
in_flight own peer is = ap (λ (fs : List (List ℕ)). drop (length (taken_frames own.past)) fs) is ∙ drop_at (taken_frames own.past) own.arriving (length (taken_frames own.past)) refl

left_for : (side : EndId) (own peer : Linked) → own.side ≡ side → messages_submitted peer.past ≡ messages_delivered own.side own.limits own.past ++ own.undelivered
    → messages_left side own.limits own.past peer.past ≡ own.undelivered
left_for side own peer is all =
    let delivered : List (List ℕ) = messages_delivered own.side own.limits own.past in
    ap (λ (x : EndId). messages_left x own.limits own.past peer.past) (sym is)
    ∙ ap (λ (ms : List (List ℕ)). drop (length delivered) ms) all ∙ drop_at delivered own.undelivered (length delivered) refl

client_linked : (client server : Linked) (link_cut : Bool) (order : List EndId) → ArePaired client server → linked_of Client (state_of client server link_cut order) ≡ client
client_linked client server link_cut order h =
    let flight = in_flight client server h.to_client in
    let left = left_for Client client server h.client_side h.for_client in
    λ i. record { side = (sym h.client_side) i; limits = client.limits; past = client.past; arriving = flight i; undelivered = left i }

server_linked : (client server : Linked) (link_cut : Bool) (order : List EndId) → ArePaired client server → linked_of Server (state_of client server link_cut order) ≡ server
server_linked client server link_cut order h =
    let flight = in_flight server client h.to_server in
    let left = left_for Server server client h.server_side h.for_server in
    λ i. record { side = (sym h.server_side) i; limits = server.limits; past = server.past; arriving = flight i; undelivered = left i }

pub client_chosen : (client server : Linked) (link_cut : Bool) (order : List EndId) (choice : Choice) → ArePaired client server → end_of choice ≡ Client
    → event_chosen (state_of client server link_cut order) choice ≡ event_at client link_cut choice
client_chosen client server link_cut order choice h is =
    ap (λ (e : EndId). event_at (linked_of e (state_of client server link_cut order)) link_cut choice) is
    ∙ ap (λ (l : Linked). event_at l link_cut choice) (client_linked client server link_cut order h)

pub server_chosen : (client server : Linked) (link_cut : Bool) (order : List EndId) (choice : Choice) → ArePaired client server → end_of choice ≡ Server
    → event_chosen (state_of client server link_cut order) choice ≡ event_at server link_cut choice
server_chosen client server link_cut order choice h is =
    ap (λ (e : EndId). event_at (linked_of e (state_of client server link_cut order)) link_cut choice) is
    ∙ ap (λ (l : Linked). event_at l link_cut choice) (server_linked client server link_cut order h)

client_state : (client server : Linked) (link_cut : Bool) (order : List EndId) (choice : Choice) (o : Option Event)
    → state_of (own_after client o) (peer_after server o) (link_after link_cut choice o) (order_after order choice o)
    ≡ state_after (state_of client server link_cut order) Client choice o
client_state client server link_cut order choice None = refl
client_state client server link_cut order choice (Some event) = refl

server_state : (client server : Linked) (link_cut : Bool) (order : List EndId) (choice : Choice) (o : Option Event)
    → state_of (peer_after client o) (own_after server o) (link_after link_cut choice o) (order_after order choice o)
    ≡ state_after (state_of client server link_cut order) Server choice o
server_state client server link_cut order choice None = refl
server_state client server link_cut order choice (Some event) = refl

-- what a step of the client gives
pub client_stepped : (r : Result Step NoMemory) (client server client' server' : Linked) (link_cut link_cut' : Bool) (order order' : List EndId) (choice : Choice) (w : State)
    → ArePaired client server → end_of choice ≡ Client → state_of client server link_cut order ≡ w
    → OnOk r (client' ≡ own_after client (event_at client link_cut choice)) → OnOk r (server' ≡ peer_after server (event_at client link_cut choice))
    → OnOk r (link_cut' ≡ link_after link_cut choice (event_at client link_cut choice)) → OnOk r (order' ≡ order_after order choice (event_at client link_cut choice))
    → OnOk r (state_of client' server' link_cut' order' ≡ step_of w choice)
client_stepped (Ok step) client server client' server' link_cut link_cut' order order' choice w h is view own peer link order_is =
    let o : Option Event = event_at client link_cut choice in
    rw (own, peer, link, order_is, ← view)
    (client_state client server link_cut order choice (event_at client link_cut choice)
    ∙ ap (λ (e : Option Event). state_after (state_of client server link_cut order) Client choice e) (sym (client_chosen client server link_cut order choice h is))
    ∙ ap (λ (x : EndId). state_after (state_of client server link_cut order) x choice (event_chosen (state_of client server link_cut order) choice)) (sym is))
client_stepped (Err fault) client server client' server' link_cut link_cut' order order' choice w h is view own peer link order_is = tt

pub server_stepped : (r : Result Step NoMemory) (client server client' server' : Linked) (link_cut link_cut' : Bool) (order order' : List EndId) (choice : Choice) (w : State)
    → ArePaired client server → end_of choice ≡ Server → state_of client server link_cut order ≡ w
    → OnOk r (server' ≡ own_after server (event_at server link_cut choice)) → OnOk r (client' ≡ peer_after client (event_at server link_cut choice))
    → OnOk r (link_cut' ≡ link_after link_cut choice (event_at server link_cut choice)) → OnOk r (order' ≡ order_after order choice (event_at server link_cut choice))
    → OnOk r (state_of client' server' link_cut' order' ≡ step_of w choice)
server_stepped (Ok step) client server client' server' link_cut link_cut' order order' choice w h is view own peer link order_is =
    rw (own, peer, link, order_is, ← view)
    (server_state client server link_cut order choice (event_at server link_cut choice)
    ∙ ap (λ (e : Option Event). state_after (state_of client server link_cut order) Server choice e) (sym (server_chosen client server link_cut order choice h is))
    ∙ ap (λ (x : EndId). state_after (state_of client server link_cut order) x choice (event_chosen (state_of client server link_cut order) choice)) (sym is))
server_stepped (Err fault) client server client' server' link_cut link_cut' order order' choice w h is view own peer link order_is = tt

-- ---- the beginning

opened_pair : (client_limits server_limits : Limits) → IsLawful client_limits → IsLawful server_limits
    → ArePaired (record { side = Client; limits = client_limits; past = Post client_limits.credits ∷ []; arriving = []; undelivered = [] })
    (record { side = Server; limits = server_limits; past = Post server_limits.credits ∷ []; arriving = []; undelivered = [] })
opened_pair client_limits server_limits lawful lawful' = record {
  client_side = refl;
  server_side = refl;
  client_lawful = lawful;
  server_lawful = lawful';
  joint = opened_joint client_limits server_limits lawful lawful';
  to_client = refl;
  to_server = refl;
  for_client = refl;
  for_server = refl;
}

pub opened_paired : (client server : Linked) (client_limits server_limits : Limits)
    → client ≡ record { side = Client; limits = client_limits; past = Post client_limits.credits ∷ []; arriving = []; undelivered = [] }
    → server ≡ record { side = Server; limits = server_limits; past = Post server_limits.credits ∷ []; arriving = []; undelivered = [] }
    → IsLawful client.limits → IsLawful server.limits → ArePaired client server
opened_paired client server client_limits server_limits is is' lawful lawful' =
    rw (is, is')
    (opened_pair client_limits server_limits (subst (λ (l : Linked). IsLawful l.limits) is lawful) (subst (λ (l : Linked). IsLawful l.limits) is' lawful'))
