-- Quiet ends have delivered all to each other.
use Rattle.std.proofs.Common.{◌≡◌, ℕ, ◌-◌, ◌==◌, Bool, true, false, not, ◌&&◌, List, length, refl, ap, sym, ◌∙◌, arith}
use Rattle.smbd_base.specs.declared.end_id.EndId.{EndId}
use Rattle.smbd_base.specs.declared.end_id.EndId.TheVariants.{Client, Server}
use Rattle.smbd_base.specs.declared.event.Event.{Event}
use Rattle.smbd_base.specs.Limits.{Limits, IsLawful}
use Rattle.smbd_base.specs.Counts.{peer_of, credits_held, receives_outstanding, receives_grantable, is_silent, is_unheard}
use Rattle.smbd_base.specs.History.{is_agreed, is_response_owed, pieces_waiting, sends}
use Rattle.smbd_base.specs.Joint.{AreJoint, emitted_frames, taken_frames}
use Rattle.smbd_base.proofs.BalanceLemmas.{balanced}
use Rattle.smbd_base.proofs.Counting.{is_empty, silent_is, unheard_is}
use Rattle.joint_laws.proofs.Growing.{client_beside}
use Rattle.quiet_ends.specs.QuietEnds.{AreQuiet, HasSentAll, HaveDeliveredAll, DeliverAllOnceQuiet}
use Rattle.quiet_ends.proofs.Idling.{IsIdle, idle, agreed, HasNoneInFlight, none_in_flight, none_left, delivered_all}
use Rattle.quiet_ends.proofs.Waiting.{IsFree, both_free}

-- an end that took all that its peer sent has heard, if that has spoken
heard_all : (own peer : List Event) → taken_frames own ≡ emitted_frames peer → is_silent peer ≡ false → is_unheard own ≡ false
heard_all own peer all spoken = unheard_is own ∙ ap (λ (fs : List (List ℕ)). is_empty fs) all ∙ sym (silent_is peer) ∙ spoken

not_silent : (silent unheard : Bool) → unheard ≡ false → (silent && not unheard) ≡ false → silent ≡ false
not_silent silent true heard e = absurd cc
not_silent true false heard e = absurd cc
not_silent false false heard e = refl

second_off : (first second : Bool) → first ≡ true → (first && second) ≡ false → second ≡ false
second_off true second is e = e
second_off false second is e = absurd cc

-- why an agreed end does not send, by the credits that both ends hold
unsending : (side : EndId) (limits : Limits) (own peer : List Event) → IsIdle side limits own → is_agreed side limits own ≡ true → HasNoneInFlight side limits own peer
    → sends (credits_held side own) (credits_held (peer_of side) peer) (limits.credits - credits_held (peer_of side) peer)
    (not (length (pieces_waiting side limits own) == 0)) (is_response_owed own) ≡ false
unsending side limits own peer i agreed_is n =
    let off = second_off (is_agreed side limits own)
    (sends (credits_held side own) (receives_outstanding side own) (receives_grantable side own) (not (length (pieces_waiting side limits own) == 0)) (is_response_owed own))
    agreed_is i.unsending in
    ap (λ (k : ℕ). sends (credits_held side own) k (limits.credits - credits_held (peer_of side) peer) (not (length (pieces_waiting side limits own) == 0)) (is_response_owed own))
    (sym n.outstanding)
    ∙ ap (λ (k : ℕ). sends (credits_held side own) (receives_outstanding side own) k (not (length (pieces_waiting side limits own) == 0)) (is_response_owed own)) (sym n.grantable)
    ∙ off

sent_all : (side : EndId) (limits : Limits) (past : List Event) → is_agreed side limits past ≡ true
    → IsFree (not (length (pieces_waiting side limits past) == 0)) (is_response_owed past) → HasSentAll side limits past
sent_all side limits past agreed_is free = record {
  agreed = agreed_is;
  waiting = none_left (pieces_waiting side limits past) free.nothing_waits;
  answered = free.nothing_owed;
}

pub quiet_delivered : (client_limits server_limits : Limits) (client server : List Event) → IsLawful client_limits → IsLawful server_limits
    → AreJoint client_limits server_limits client server → AreQuiet client_limits server_limits client server → HaveDeliveredAll client_limits server_limits client server
quiet_delivered client_limits server_limits client server lawful lawful' j q =
    let h = client_beside client_limits server_limits client server lawful lawful' j in
    let c = idle Client client_limits client q.client_uncut q.client_idle in
    let s = idle Server server_limits server q.server_uncut q.server_idle in
    let client_spoken : is_silent client ≡ false = c.negotiated in
    let server_heard = heard_all server client q.to_server client_spoken in
    let server_spoken : is_silent server ≡ false = not_silent (is_silent server) (is_unheard server) server_heard s.negotiated in
    let client_heard = heard_all client server q.to_client server_spoken in
    let client_agreed = agreed Client client_limits client h.here.accepted client_heard client_spoken in
    let server_agreed = agreed Server server_limits server h.there.accepted server_heard server_spoken in
    let client_none = none_in_flight Client client_limits server_limits client server (balanced Client client_limits client lawful h.here.legal c.opened) c q.client_uncut
    h.here.accepted h.there.accepted h.there.holds q.to_client q.to_server in
    let server_none = none_in_flight Server server_limits client_limits server client (balanced Server server_limits server lawful' h.there.legal s.opened) s q.server_uncut
    h.there.accepted h.here.accepted h.here.holds q.to_server q.to_client in
    let free = both_free (credits_held Client client) (credits_held Server server) client_limits.credits server_limits.credits
    (not (length (pieces_waiting Client client_limits client) == 0)) (is_response_owed client)
    (not (length (pieces_waiting Server server_limits server) == 0)) (is_response_owed server)
    (omega (arith, lawful.credits.0)) (omega (arith, lawful'.credits.0))
    (omega (arith, h.left, h.here.holds.all, h.there.holds.all, client_none.granted, server_none.granted))
    (unsending Client client_limits client server c client_agreed client_none) (unsending Server server_limits server client s server_agreed server_none) in
    let client_sent = sent_all Client client_limits client client_agreed free.0 in
    let server_sent = sent_all Server server_limits server server_agreed free.1 in
    record {
      of_client = client_sent;
      of_server = server_sent;
      to_client =
          delivered_all Client client_limits server_limits client server lawful lawful' h.here.legal h.there.legal h.here.accepted h.there.in_time.front q.to_client
          server_agreed server_sent.waiting;
      to_server =
          delivered_all Server server_limits client_limits server client lawful' lawful h.there.legal h.here.legal h.there.accepted h.here.in_time.front q.to_server
          client_agreed client_sent.waiting;
    }

pub all_once_quiet : (client_limits server_limits : Limits) (client server : List Event) → IsLawful client_limits → IsLawful server_limits
    → AreJoint client_limits server_limits client server → DeliverAllOnceQuiet client_limits server_limits client server
all_once_quiet client_limits server_limits client server lawful lawful' j =
    record { quiet = λ q. quiet_delivered client_limits server_limits client server lawful lawful' j q }
