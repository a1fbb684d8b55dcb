-- Two copies whose events are of the same kinds have the same histories: what an end posts and sends follows from its past, what it submits
-- is the next message of the copy, and what it takes is the next frame that its peer sent. It is an induction over the one order of time
-- of one of them.
use Rattle.std.proofs.Common.{◌≡◌, ℕ, List, [], ◌∷◌, ◌++◌, refl, sym, ap, ◌∙◌, subst, append-nil, append_assoc, arith}
use Rattle.std.specs.Prelude.{slice_index}
use mathlib.Core.List.{IsPrefix}
use Rattle.smbd_base.specs.declared.end_id.EndId.{EndId}
use Rattle.smbd_base.specs.declared.end_id.EndId.TheVariants.{Client, Server}
use Rattle.smbd_base.specs.declared.event.Event.{Event}
use Rattle.smbd_base.specs.declared.event.Event.TheVariants.{Post, Submit, Emit, Take, Cut}
use Rattle.smbd_base.specs.declared.next.Next.TheVariants as due
use Rattle.smbd_base.specs.Limits.{Limits}
use Rattle.smbd_base.specs.Counts.{peer_of}
use Rattle.smbd_base.specs.History.{messages_submitted, IsLegal}
use Rattle.smbd_base.specs.Joint.{emitted_frames, taken_frames, AreJoint}
use Rattle.joint_laws.specs.OrderOfTime.{Happened, with_event, events_at, WasSent, TakesStandAfterEmits}
use Rattle.joint_laws.proofs.Timing.{one_order}
use Rattle.run_log.specs.RunLines.{history_lines, event_line, next_frame_number}
use Rattle.file_pasts.proofs.Lists.{prefix_before}
use Rattle.copy_laws.proofs.Tokens.{prefix-trans}
use Rattle.copy_texts.proofs.Pairs.{Pairwise, no-last, last-apart, next-of-fronts}

-- ---- the kinds of events

-- the first letter of the word of an event's line, which tells its kind
abbrev pub letter : Event → ℕ
letter (Post n) = 112
letter (Submit m) = 115
letter (Emit f) = 101
letter (Take f) = 116
letter Cut = 99

abbrev pub IsAlike : Event → Event → Type 0
IsAlike e f = letter e ≡ letter f

letter-at : (end : EndId) (number : ℕ) (e : Event) → slice_index (event_line end number e) 2 ≡ letter e
letter-at Client number (Post n) = refl
letter-at Client number (Submit m) = refl
letter-at Client number (Emit f) = refl
letter-at Client number (Take f) = refl
letter-at Client number Cut = refl
letter-at Server number (Post n) = refl
letter-at Server number (Submit m) = refl
letter-at Server number (Emit f) = refl
letter-at Server number (Take f) = refl
letter-at Server number Cut = refl

pub histories-alike : (end : EndId) (xs ys : List Event) → history_lines end xs ≡ history_lines end ys → Pairwise IsAlike xs ys
histories-alike end [] [] e = tt
histories-alike end [] (y ∷ ys) e = absurd (no-last (history_lines end ys) (event_line end (next_frame_number ys) y) (sym e))
histories-alike end (x ∷ xs) [] e = absurd (no-last (history_lines end xs) (event_line end (next_frame_number xs) x) e)
histories-alike end (x ∷ xs) (y ∷ ys) e =
    let parts =
    last-apart (history_lines end xs) (history_lines end ys) (event_line end (next_frame_number xs) x) (event_line end (next_frame_number ys) y) e in (
      sym (letter-at end (next_frame_number xs) x) ∙ ap (λ (l : List ℕ). slice_index l 2) parts.1 ∙ letter-at end (next_frame_number ys) y,
      histories-alike end xs ys parts.0,
    )

-- ---- the newest event

same-post : (m n : ℕ) → due.Post m ≡ due.Post n → Post m ≡ Post n
same-post m n e = ap (λ (k : ℕ). Post k) (let h : m ≡ n = cc in h)

same-emit : (f g : List ℕ) → due.Emit f ≡ due.Emit g → Emit f ≡ Emit g
same-emit f g e = ap (λ (x : List ℕ). Emit x) (let h : f ≡ g = cc in h)

-- the next event of a kind after one past
module _ (side : EndId) (limits : Limits) (messages frames : List (List ℕ)) (own peer : List Event) where
  newest-is : (e f : Event) → IsAlike e f → IsLegal side limits (e ∷ own) → IsLegal side limits (f ∷ own)
      → IsPrefix (messages_submitted (e ∷ own)) messages → IsPrefix (messages_submitted (f ∷ own)) messages
      → WasSent e own peer → IsPrefix (emitted_frames peer) frames → IsPrefix (taken_frames (f ∷ own)) frames → e ≡ f
  newest-is (Post m) (Post n) alike legal too sub other sent front taken = same-post m n (sym legal.0 ∙ too.0)
  newest-is (Post m) f alike legal too sub other sent front taken = absurd (let b : ⊥ = omega (arith, alike) in b)
  newest-is (Submit m) (Submit n) alike legal too sub other sent front taken =
      ap (λ (x : List ℕ). Submit x) (next-of-fronts (messages_submitted own) m n messages sub other)
  newest-is (Submit m) f alike legal too sub other sent front taken = absurd (let b : ⊥ = omega (arith, alike) in b)
  newest-is (Emit x) (Emit y) alike legal too sub other sent front taken = same-emit x y (sym legal.0 ∙ too.0)
  newest-is (Emit x) f alike legal too sub other sent front taken = absurd (let b : ⊥ = omega (arith, alike) in b)
  newest-is (Take x) (Take y) alike legal too sub other sent front taken =
      let here : IsPrefix (taken_frames own ++ x ∷ []) (emitted_frames peer) =
      (sent.later, append_assoc (taken_frames own) (x ∷ []) sent.later ∙ sym sent.sent) in
      ap (λ (z : List ℕ). Take z)
      (next-of-fronts (taken_frames own) x y frames (prefix-trans (taken_frames own ++ x ∷ []) (emitted_frames peer) frames here front) taken)
  newest-is (Take x) f alike legal too sub other sent front taken = absurd (let b : ⊥ = omega (arith, alike) in b)
  newest-is Cut Cut alike legal too sub other sent front taken = refl
  newest-is Cut f alike legal too sub other sent front taken = absurd (let b : ⊥ = omega (arith, alike) in b)

-- ---- two pasts of an end

-- Events of the same kinds: both pasts are legal, both submit the messages of one list, and the other past sends and takes frames of two lists.
record IsTwin (side : EndId) (limits : Limits) (messages sent taken : List (List ℕ)) (past other : List Event) : Type 0 where
  alike : Pairwise IsAlike past other
  legal : IsLegal side limits past
  legal_too : IsLegal side limits other
  submitted : IsPrefix (messages_submitted past) messages
  submitted_too : IsPrefix (messages_submitted other) messages
  sends : IsPrefix (emitted_frames other) sent
  takes : IsPrefix (taken_frames other) taken

submitted-before : (e : Event) (past : List Event) (messages : List (List ℕ)) → IsPrefix (messages_submitted (e ∷ past)) messages → IsPrefix (messages_submitted past) messages
submitted-before (Post n) past messages h = h
submitted-before (Submit m) past messages h = prefix_before (messages_submitted past) m messages h
submitted-before (Emit f) past messages h = h
submitted-before (Take f) past messages h = h
submitted-before Cut past messages h = h

sent-before : (e : Event) (past : List Event) (frames : List (List ℕ)) → IsPrefix (emitted_frames (e ∷ past)) frames → IsPrefix (emitted_frames past) frames
sent-before (Post n) past frames h = h
sent-before (Submit m) past frames h = h
sent-before (Emit f) past frames h = prefix_before (emitted_frames past) f frames h
sent-before (Take f) past frames h = h
sent-before Cut past frames h = h

taken-before : (e : Event) (past : List Event) (frames : List (List ℕ)) → IsPrefix (taken_frames (e ∷ past)) frames → IsPrefix (taken_frames past) frames
taken-before (Post n) past frames h = h
taken-before (Submit m) past frames h = h
taken-before (Emit f) past frames h = h
taken-before (Take f) past frames h = prefix_before (taken_frames past) f frames h
taken-before Cut past frames h = h

module _ (side : EndId) (limits : Limits) (messages sent taken : List (List ℕ)) (e f : Event) (past other : List Event)
    (t : IsTwin side limits messages sent taken (e ∷ past) (f ∷ other)) where
  -- before their newest events
  twin-before : IsTwin side limits messages sent taken past other
  twin-before = record {
    alike = t.alike.1;
    legal = t.legal.1;
    legal_too = t.legal_too.1;
    submitted = submitted-before e past messages t.submitted;
    submitted_too = submitted-before f other messages t.submitted_too;
    sends = sent-before f other sent t.sends;
    takes = taken-before f other taken t.takes;
  }

  -- and with them, beside a peer that sent what is taken
  twin-same : (peer : List Event) → past ≡ other → WasSent e past peer → IsPrefix (emitted_frames peer) taken → e ∷ past ≡ f ∷ other
  twin-same peer same was front =
      let newest =
      newest-is side limits messages taken past peer e f t.alike.0 t.legal (subst (λ (p : List Event). IsLegal side limits (f ∷ p)) (sym same) t.legal_too)
      t.submitted (subst (λ (p : List Event). IsPrefix (messages_submitted (f ∷ p)) messages) (sym same) t.submitted_too) was front
      (subst (λ (p : List Event). IsPrefix (taken_frames (f ∷ p)) taken) (sym same) t.takes) in
      rw (newest, same) refl

-- ---- in the order of time

module _ (limits : Limits) (requests replies from_client from_server : List (List ℕ)) where
  abbrev AreClients : List Event → List Event → Type 0
  AreClients past other = IsTwin Client limits requests from_client from_server past other

  abbrev AreServers : List Event → List Event → Type 0
  AreServers past other = IsTwin Server limits replies from_server from_client past other

  by_end : (end : EndId) (event : Event) (order : List Happened) (client server : List Event)
      → WasSent event (events_at end order) (events_at (peer_of end) order)
      → AreClients (with_event Client end event (events_at Client order)) client → AreServers (with_event Server end event (events_at Server order)) server
      → ((before_client before_server : List Event) → AreClients (events_at Client order) before_client → AreServers (events_at Server order) before_server
      → (events_at Client order ≡ before_client) × (events_at Server order ≡ before_server))
      → (with_event Client end event (events_at Client order) ≡ client) × (with_event Server end event (events_at Server order) ≡ server)
  by_end Client event order [] server was c s ih = absurd c.alike
  by_end Client event order (f ∷ client) server was c s ih =
      let before = ih client server (twin-before Client limits requests from_client from_server event f (events_at Client order) client c) s in (
        twin-same Client limits requests from_client from_server event f (events_at Client order) client c (events_at Server order) before.0 was
            (subst (λ (p : List Event). IsPrefix (emitted_frames p) from_server) (sym before.1) s.sends),
        before.1,
      )
  by_end Server event order client [] was c s ih = absurd s.alike
  by_end Server event order client (f ∷ server) was c s ih =
      let before = ih client server c (twin-before Server limits replies from_server from_client event f (events_at Server order) server s) in (
        before.0,
        twin-same Server limits replies from_server from_client event f (events_at Server order) server s (events_at Client order) before.1 was
            (subst (λ (p : List Event). IsPrefix (emitted_frames p) from_client) (sym before.0) c.sends),
      )

  in-order : (order : List Happened) (client server : List Event) → TakesStandAfterEmits order
      → AreClients (events_at Client order) client → AreServers (events_at Server order) server
      → (events_at Client order ≡ client) × (events_at Server order ≡ server)
  in-order [] [] [] sent c s = (refl, refl)
  in-order [] [] (f ∷ server) sent c s = absurd s.alike
  in-order [] (f ∷ client) server sent c s = absurd c.alike
  in-order (h ∷ order) client server sent c s =
      by_end h.end h.event order client server sent.0 c s (λ before_client before_server cs ss. in-order order before_client before_server sent.1 cs ss)

-- the pasts of two copies that submit messages of the same two lists
pub histories-same : (limits : Limits) (requests replies : List (List ℕ)) (client server other_client other_server : List Event)
    → AreJoint limits limits client server → AreJoint limits limits other_client other_server
    → IsPrefix (messages_submitted client) requests → IsPrefix (messages_submitted other_client) requests
    → IsPrefix (messages_submitted server) replies → IsPrefix (messages_submitted other_server) replies
    → history_lines Client client ≡ history_lines Client other_client → history_lines Server server ≡ history_lines Server other_server
    → (client ≡ other_client) × (server ≡ other_server)
histories-same limits requests replies client server other_client other_server j k asks asks_too says says_too client_lines server_lines =
    let o = one_order limits limits client server j in
    let from_client = emitted_frames other_client in
    let from_server = emitted_frames other_server in
    let clients : IsTwin Client limits requests from_client from_server client other_client = record {
      alike = histories-alike Client client other_client client_lines;
      legal = j.linked.client_legal;
      legal_too = k.linked.client_legal;
      submitted = asks;
      submitted_too = asks_too;
      sends = ([], append-nil from_client);
      takes = k.linked.to_client;
    } in
    let servers : IsTwin Server limits replies from_server from_client server other_server = record {
      alike = histories-alike Server server other_server server_lines;
      legal = j.linked.server_legal;
      legal_too = k.linked.server_legal;
      submitted = says;
      submitted_too = says_too;
      sends = ([], append-nil from_server);
      takes = k.linked.to_server;
    } in
    let found = in-order limits requests replies from_client from_server o.0 other_client other_server o.1.sent_first
    (subst (λ (p : List Event). IsTwin Client limits requests from_client from_server p other_client) (sym o.1.of_client) clients)
    (subst (λ (p : List Event). IsTwin Server limits replies from_server from_client p other_server) (sym o.1.of_server) servers) in
    (sym o.1.of_client ∙ found.0, sym o.1.of_server ∙ found.1)
