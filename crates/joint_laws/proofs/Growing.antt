-- Joint histories begin, and go on.
use Rattle.std.proofs.Common.{◌≡◌, ℕ, false, List, [], ◌∷◌, length, refl, ap, arith}
use Rattle.smbd_base.specs.declared.end_id.EndId.{EndId}
use Rattle.smbd_base.specs.declared.end_id.EndId.TheVariants.{Client, Server}
use Rattle.smbd_base.specs.declared.event.Event.{Event}
use Rattle.smbd_base.specs.declared.event.Event.TheVariants.{Post, Submit, Emit, Take, Cut}
use Rattle.smbd_base.specs.Limits.{Limits, IsLawful}
use Rattle.smbd_base.specs.Counts.{peer_of}
use Rattle.smbd_base.specs.History.{next_event, is_new, IsLegal}
use Rattle.smbd_base.specs.Joint.{AreAccounted, AreJoint, IsAfter, taken_frames}
use Rattle.smbd_base.proofs.BalanceLemmas.{balanced}
use Rattle.joint_laws.specs.Growth.{MayAdd}
use Rattle.joint_laws.specs.Halves.{IsBeside, AreBeside}
use Rattle.joint_laws.proofs.Accounts.{accounted, accounted_holds}
use Rattle.joint_laws.proofs.Halves.{balances_own, posts_own, submits_own, emits_own, takes_own, cuts_own, posts_peer, submits_peer, emits_peer, takes_peer, cuts_peer, emits_left}

-- ---- an end and its peer

-- an end adds an event that it may add
pub grown : (side : EndId) (own_limits peer_limits : Limits) (own peer : List Event) (event : Event) → IsLawful own_limits → IsLawful peer_limits
    → AreBeside side own_limits peer_limits own peer → MayAdd side own_limits event own peer → AreBeside side own_limits peer_limits (event ∷ own) peer
grown side own_limits peer_limits own peer (Post n) lawful lawful' h may = record {
  here = posts_own side own_limits own peer h.here n may.0;
  there = posts_peer (peer_of side) peer_limits peer own h.there n;
  left = h.left;
}
grown side own_limits peer_limits own peer (Submit m) lawful lawful' h may = record {
  here = submits_own side own_limits own peer h.here m may.0;
  there = submits_peer (peer_of side) peer_limits peer own h.there m;
  left = h.left;
}
grown side own_limits peer_limits own peer (Emit f) lawful lawful' h may = record {
  here = emits_own side own_limits own peer h.here f lawful may.0;
  there = emits_peer (peer_of side) peer_limits peer own h.there f;
  left = emits_left side own_limits peer_limits own peer lawful lawful' h.here h.there f may.0 h.left;
}
grown side own_limits peer_limits own peer (Take f) lawful lawful' h may = record {
  here = takes_own side own_limits peer_limits own peer lawful lawful' h.here h.there f may.0 may.1.0 may.1.1;
  there = takes_peer (peer_of side) peer_limits peer own h.there f;
  left = h.left;
}
grown side own_limits peer_limits own peer Cut lawful lawful' h may = record {
  here = cuts_own side own_limits own peer h.here may.0;
  there = cuts_peer (peer_of side) peer_limits peer own h.there;
  left = h.left;
}

-- ---- of both ends

opened_by : (side : EndId) (limits : Limits) (own peer : List Event) → AreAccounted side limits own peer → is_new own ≡ false
opened_by side limits [] peer a = absurd (let g = a.granted in let b : ⊥ = omega arith in b)
opened_by side limits (event ∷ past) peer a = refl

module _ (client_limits server_limits : Limits) (client server : List Event) (lawful_client : IsLawful client_limits) (lawful_server : IsLawful server_limits) where
  pub client_beside : AreJoint client_limits server_limits client server → AreBeside Client client_limits server_limits client server
  client_beside j =
      let client_opened = opened_by Client client_limits client server j.client_credits in
      let server_opened = opened_by Server server_limits server client j.server_credits in
      record {
        here = record {
          legal = j.linked.client_legal;
          accepted = j.linked.client_accepted;
          opened = client_opened;
          holds = accounted_holds Server server_limits server client (balanced Server server_limits server lawful_server j.linked.server_legal server_opened) j.server_credits;
          in_time = record { front = j.linked.to_client; after = j.client_after };
        };
        there = record {
          legal = j.linked.server_legal;
          accepted = j.linked.server_accepted;
          opened = server_opened;
          holds = accounted_holds Client client_limits client server (balanced Client client_limits client lawful_client j.linked.client_legal client_opened) j.client_credits;
          in_time = record { front = j.linked.to_server; after = j.server_after };
        };
        left = j.credits_left;
      }

  pub turned : AreBeside Client client_limits server_limits client server → AreBeside Server server_limits client_limits server client
  turned h = record { here = h.there; there = h.here; left = omega (arith, h.left) }

  pub turned_back : AreBeside Server server_limits client_limits server client → AreBeside Client client_limits server_limits client server
  turned_back h = record { here = h.there; there = h.here; left = omega (arith, h.left) }

  pub joint : AreBeside Client client_limits server_limits client server → AreJoint client_limits server_limits client server
  joint h =
      let to_client = h.here.in_time.front in
      let to_server = h.there.in_time.front in
      record {
        linked = record {
          client_legal = h.here.legal;
          server_legal = h.there.legal;
          client_accepted = h.here.accepted;
          server_accepted = h.there.accepted;
          to_client = to_client;
          to_server = to_server;
        };
        client_credits = accounted Client client_limits client server (balances_own Client client_limits client server h.here lawful_client) to_client to_server h.there.holds;
        server_credits = accounted Server server_limits server client (balances_own Server server_limits server client h.there lawful_server) to_server to_client h.here.holds;
        credits_left = h.left;
        client_after = h.here.in_time.after;
        server_after = h.there.in_time.after;
      }

pub client_grows : (client_limits server_limits : Limits) (client server : List Event) (event : Event) → IsLawful client_limits → IsLawful server_limits
    → AreJoint client_limits server_limits client server → MayAdd Client client_limits event client server → AreJoint client_limits server_limits (event ∷ client) server
client_grows client_limits server_limits client server event lawful lawful' j may =
    joint client_limits server_limits (event ∷ client) server lawful lawful'
    (grown Client client_limits server_limits client server event lawful lawful' (client_beside client_limits server_limits client server lawful lawful' j) may)

pub server_grows : (client_limits server_limits : Limits) (client server : List Event) (event : Event) → IsLawful client_limits → IsLawful server_limits
    → AreJoint client_limits server_limits client server → MayAdd Server server_limits event server client → AreJoint client_limits server_limits client (event ∷ server)
server_grows client_limits server_limits client server event lawful lawful' j may =
    joint client_limits server_limits client (event ∷ server) lawful lawful'
    (turned_back client_limits server_limits client (event ∷ server) lawful lawful'
    (grown Server server_limits client_limits server client event lawful' lawful
    (turned client_limits server_limits client server lawful lawful' (client_beside client_limits server_limits client server lawful lawful' j)) may))

-- ---- the beginning

opens : (side : EndId) (limits : Limits) → IsLegal side limits (Post limits.credits ∷ [])
unfolding next_event
opens side limits = (refl, tt)

none_taken : (own peer : List Event) → taken_frames own ≡ [] → IsAfter own peer
none_taken own peer none = record {
  each = λ number one most. absurd (let long : length (taken_frames own) ≡ 0 = ap (λ (fs : List (List ℕ)). length fs) none in let b : ⊥ = omega arith in b);
}

-- an end that was just opened, beside such a peer
pub opened_beside : (side : EndId) (limits peer_limits : Limits) → IsBeside side limits (Post limits.credits ∷ []) (Post peer_limits.credits ∷ [])
opened_beside side limits peer_limits = record {
  legal = opens side limits;
  accepted = tt;
  opened = refl;
  holds = record { all = omega arith };
  in_time = record { front = ([], refl); after = none_taken (Post limits.credits ∷ []) (Post peer_limits.credits ∷ []) refl };
}

pub opened_joint : (client_limits server_limits : Limits) → IsLawful client_limits → IsLawful server_limits
    → AreJoint client_limits server_limits (Post client_limits.credits ∷ []) (Post server_limits.credits ∷ [])
opened_joint client_limits server_limits lawful lawful' =
    joint client_limits server_limits (Post client_limits.credits ∷ []) (Post server_limits.credits ∷ []) lawful lawful' (record {
      here = opened_beside Client client_limits server_limits;
      there = opened_beside Server server_limits client_limits;
      left = omega arith;
    })
