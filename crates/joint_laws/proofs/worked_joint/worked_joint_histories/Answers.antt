use Rattle.std.proofs.Common.{◌≡◌, inl, inr, ℕ, ◌≤◌, Some, None, List, [], ◌∷◌, length, refl, ap, subst, slice_index_or, lit≤, arith}
use Rattle.std.proofs.lemmas.Bool.{cases_lt}
use Rattle.smbd_base.specs.declared.event.Event.{Event}
use Rattle.smbd_base.specs.declared.event.Event.TheVariants.{Post, Submit, Emit, Take}
use Rattle.smbd_base.specs.declared.faults.NegotiateFault.TheVariants as negotiation
use Rattle.smbd_base.specs.declared.faults.SubmitFault.TheVariants as refusals
use Rattle.smbd_base.specs.declared.faults.TakeFault.TheVariants as faults
use Rattle.smbd_base.specs.declared.next.Next.{Next}
use Rattle.smbd_base.specs.declared.next.Next.TheVariants as due
use Rattle.smbd_base.specs.DataFrame.{data_frame_of, header_bytes}
use Rattle.smbd_base.specs.History.{next_event, take_fault, fault_expecting}
use Rattle.smbd_base.specs.Joint.{IsAfter, taken_frames, taken_before_sending, sent_before_taking}
use Rattle.smbd_base.specs.NegotiateMessages.{request_fault, fault_in_request, response_fault, fault_in_response}
use Rattle.smbd_base.specs.Pieces.{pieces_of}
use Rattle.smbd_base.specs.Worked.{three, three_request, three_response, three_client, three_server, empty_frame, with_u16}
use Rattle.joint_laws.specs.WorkedJoint.{client_legal, server_legal, client_accepted, server_accepted, to_client, to_server, client_credits, server_credits, credits_left, client_after, server_after, PartHolds, BreakJust, in_client_rules, in_server_rules, in_client_refusal, in_server_refusal, in_frames_to_client, in_frames_to_server, in_client_credits, in_server_credits, in_credits_left, in_order, opened, client_of_two, server_of_one, short_receiver, short_request, short_response, client_crossed, server_crossed}
use Rattle.joint_laws.proofs.worked_joint.worked_joint_histories.Goals as goal

-- ---- an end that took none, one or two frames

up_to_none : (own peer : List Event) → length (taken_frames own) ≡ 0 → IsAfter own peer
up_to_none own peer none = record { each = λ number one most. absurd (let b : ⊥ = omega (arith, none) in b) }

up_to_one : (own peer : List Event) → length (taken_frames own) ≡ 1 → taken_before_sending 1 peer ≤ sent_before_taking 1 own → IsAfter own peer
up_to_one own peer count first = record { each = each } where
  each : (number : ℕ) → 1 ≤ number → number ≤ length (taken_frames own) → taken_before_sending number peer ≤ sent_before_taking number own
  each number one most =
      let is : 1 ≡ number = omega (arith, count) in
      subst (λ (n : ℕ). taken_before_sending n peer ≤ sent_before_taking n own) is first

up_to_two : (own peer : List Event) → length (taken_frames own) ≡ 2 → taken_before_sending 1 peer ≤ sent_before_taking 1 own
    → taken_before_sending 2 peer ≤ sent_before_taking 2 own → IsAfter own peer
up_to_two own peer count first second = record { each = each } where
  each : (number : ℕ) → 1 ≤ number → number ≤ length (taken_frames own) → taken_before_sending number peer ≤ sent_before_taking number own
  each number one most = elim (cases_lt number 2) [
    | inl below ↦
        let is : 1 ≡ number = omega arith in
        subst (λ (n : ℕ). taken_before_sending n peer ≤ sent_before_taking n own) is first
    | inr above ↦
        let is : 2 ≡ number = omega (arith, count) in
        subst (λ (n : ℕ). taken_before_sending n peer ≤ sent_before_taking n own) is second
  ]

-- ---- what fits together

abbrev first_byte_at : ℕ → List (List ℕ) → ℕ
first_byte_at place [] = 0
first_byte_at place (f ∷ frames) = slice_index_or f place 0

-- the number that a next event posts, and the byte at 2 of a frame that it sends
abbrev posted : Next → ℕ
posted (due.Post n) = n
posted (due.Emit f) = 0
posted due.Close = 0
posted due.Idle = 0

abbrev granted : Next → ℕ
granted (due.Post n) = 0
granted (due.Emit f) = slice_index_or f 2 0
granted due.Close = 0
granted due.Idle = 0

pub returns-clause-joint : goal.returns-clause-joint
unfolding next_event take_fault fault_expecting data_frame_of header_bytes pieces_of request_fault fault_in_request response_fault fault_in_response
returns-clause-joint c = record {
  parts = λ client_limits server_limits client server part joint. elim part as (λ p. PartHolds p client_limits server_limits client server) [
    | client_legal ↦ joint.linked.client_legal
    | server_legal ↦ joint.linked.server_legal
    | client_accepted ↦ joint.linked.client_accepted
    | server_accepted ↦ joint.linked.server_accepted
    | to_client ↦ joint.linked.to_client
    | to_server ↦ joint.linked.to_server
    | client_credits ↦ joint.client_credits
    | server_credits ↦ joint.server_credits
    | credits_left ↦ joint.credits_left
    | client_after ↦ joint.client_after
    | server_after ↦ joint.server_after
  ];
  whole = λ client_limits server_limits client server holds. record {
    linked = record {
      client_legal = holds client_legal;
      server_legal = holds server_legal;
      client_accepted = holds client_accepted;
      server_accepted = holds server_accepted;
      to_client = holds to_client;
      to_server = holds to_server;
    };
    client_credits = holds client_credits;
    server_credits = holds server_credits;
    credits_left = holds credits_left;
    client_after = holds client_after;
    server_after = holds server_after;
  };
  opened = record {
    linked = record {
      client_legal = (refl, tt);
      server_legal = (refl, tt);
      client_accepted = tt;
      server_accepted = tt;
      to_client = ([], refl);
      to_server = ([], refl);
    };
    client_credits = record { flight = lit≤ tt; grants = lit≤ tt; granted = lit≤ tt; sum = refl; most = lit≤ tt };
    server_credits = record { flight = lit≤ tt; grants = lit≤ tt; granted = lit≤ tt; sum = refl; most = lit≤ tt };
    credits_left = lit≤ tt;
    client_after = up_to_none opened opened refl;
    server_after = up_to_none opened opened refl;
  };
  in_flight = record {
    linked = record {
      client_legal = (refl, (refl, (refl, (refl, (refl, (refl, (refl, (refl, tt))))))));
      server_legal = (refl, (refl, (refl, (refl, (refl, (refl, tt))))));
      client_accepted = (refl, tt);
      server_accepted = (refl, (refl, tt));
      to_client = ([], refl);
      to_server = (_, refl);
    };
    client_credits = record { flight = lit≤ tt; grants = lit≤ tt; granted = lit≤ tt; sum = refl; most = lit≤ tt };
    server_credits = record { flight = lit≤ tt; grants = lit≤ tt; granted = lit≤ tt; sum = refl; most = lit≤ tt };
    credits_left = lit≤ tt;
    client_after = up_to_one client_of_two server_of_one refl (lit≤ tt);
    server_after = up_to_two server_of_one client_of_two refl (lit≤ tt) (lit≤ tt);
  };
}

-- ---- what does not

client_rules : BreakJust in_client_rules three three (Submit [] ∷ opened) opened
unfolding next_event take_fault fault_expecting data_frame_of header_bytes pieces_of request_fault fault_in_request response_fault fault_in_response
client_rules client_legal = λ h. let e : Some refusals.Empty ≡ None = h.0 in cc
client_rules server_legal = (refl, tt)
client_rules client_accepted = tt
client_rules server_accepted = tt
client_rules to_client = ([], refl)
client_rules to_server = ([], refl)
client_rules client_credits = record { flight = lit≤ tt; grants = lit≤ tt; granted = lit≤ tt; sum = refl; most = lit≤ tt }
client_rules server_credits = record { flight = lit≤ tt; grants = lit≤ tt; granted = lit≤ tt; sum = refl; most = lit≤ tt }
client_rules credits_left = lit≤ tt
client_rules client_after = up_to_none (Submit [] ∷ opened) opened refl
client_rules server_after = up_to_none opened (Submit [] ∷ opened) refl

server_rules : BreakJust in_server_rules three three opened (Submit [] ∷ opened)
unfolding next_event take_fault fault_expecting data_frame_of header_bytes pieces_of request_fault fault_in_request response_fault fault_in_response
server_rules client_legal = (refl, tt)
server_rules server_legal = λ h. let e : Some refusals.Empty ≡ None = h.0 in cc
server_rules client_accepted = tt
server_rules server_accepted = tt
server_rules to_client = ([], refl)
server_rules to_server = ([], refl)
server_rules client_credits = record { flight = lit≤ tt; grants = lit≤ tt; granted = lit≤ tt; sum = refl; most = lit≤ tt }
server_rules server_credits = record { flight = lit≤ tt; grants = lit≤ tt; granted = lit≤ tt; sum = refl; most = lit≤ tt }
server_rules credits_left = lit≤ tt
server_rules client_after = up_to_none opened (Submit [] ∷ opened) refl
server_rules server_after = up_to_none (Submit [] ∷ opened) opened refl

client_refusal : BreakJust in_client_refusal three short_receiver (Take short_response ∷ Emit three_request ∷ opened) (Emit short_response ∷ Post 1 ∷ Take three_request ∷ opened)
unfolding next_event take_fault fault_expecting data_frame_of header_bytes pieces_of request_fault fault_in_request response_fault fault_in_response
client_refusal client_legal = (refl, (refl, (refl, tt)))
client_refusal server_legal = (refl, (refl, (refl, (refl, tt))))
client_refusal client_accepted = λ h. let e : Some (faults.Negotiate negotiation.ReceiveSize) ≡ None = h.0 in cc
client_refusal server_accepted = (refl, tt)
client_refusal to_client = ([], refl)
client_refusal to_server = ([], refl)
client_refusal client_credits = record { flight = lit≤ tt; grants = lit≤ tt; granted = lit≤ tt; sum = refl; most = lit≤ tt }
client_refusal server_credits = record { flight = lit≤ tt; grants = lit≤ tt; granted = lit≤ tt; sum = refl; most = lit≤ tt }
client_refusal credits_left = lit≤ tt
client_refusal client_after = up_to_one (Take short_response ∷ Emit three_request ∷ opened) (Emit short_response ∷ Post 1 ∷ Take three_request ∷ opened) refl (lit≤ tt)
client_refusal server_after = up_to_one (Emit short_response ∷ Post 1 ∷ Take three_request ∷ opened) (Take short_response ∷ Emit three_request ∷ opened) refl (lit≤ tt)

server_refusal : BreakJust in_server_refusal short_receiver three (Emit short_request ∷ opened) (Take short_request ∷ opened)
unfolding next_event take_fault fault_expecting data_frame_of header_bytes pieces_of request_fault fault_in_request response_fault fault_in_response
server_refusal client_legal = (refl, (refl, tt))
server_refusal server_legal = (refl, (refl, tt))
server_refusal client_accepted = tt
server_refusal server_accepted = λ h. let e : Some (faults.Negotiate negotiation.ReceiveSize) ≡ None = h.0 in cc
server_refusal to_client = ([], refl)
server_refusal to_server = ([], refl)
server_refusal client_credits = record { flight = lit≤ tt; grants = lit≤ tt; granted = lit≤ tt; sum = refl; most = lit≤ tt }
server_refusal server_credits = record { flight = lit≤ tt; grants = lit≤ tt; granted = lit≤ tt; sum = refl; most = lit≤ tt }
server_refusal credits_left = lit≤ tt
server_refusal client_after = up_to_none (Emit short_request ∷ opened) (Take short_request ∷ opened) refl
server_refusal server_after = up_to_one (Take short_request ∷ opened) (Emit short_request ∷ opened) refl (lit≤ tt)

frames_to_client : BreakJust in_frames_to_client three three (Take (with_u16 6 7 three_response) ∷ Emit three_request ∷ opened) three_server
unfolding next_event take_fault fault_expecting data_frame_of header_bytes pieces_of request_fault fault_in_request response_fault fault_in_response
frames_to_client client_legal = (refl, (refl, (refl, tt)))
frames_to_client server_legal = (refl, (refl, (refl, (refl, tt))))
frames_to_client client_accepted = (refl, tt)
frames_to_client server_accepted = (refl, tt)
frames_to_client to_client = λ front. let e : ◌≡◌ {A = ℕ} 7 0 = ap (first_byte_at 6) front.1 in omega arith
frames_to_client to_server = ([], refl)
frames_to_client client_credits = record { flight = lit≤ tt; grants = lit≤ tt; granted = lit≤ tt; sum = refl; most = lit≤ tt }
frames_to_client server_credits = record { flight = lit≤ tt; grants = lit≤ tt; granted = lit≤ tt; sum = refl; most = lit≤ tt }
frames_to_client credits_left = lit≤ tt
frames_to_client client_after = up_to_one (Take (with_u16 6 7 three_response) ∷ Emit three_request ∷ opened) three_server refl (lit≤ tt)
frames_to_client server_after = up_to_one three_server (Take (with_u16 6 7 three_response) ∷ Emit three_request ∷ opened) refl (lit≤ tt)

frames_to_server : BreakJust in_frames_to_server three three (Emit three_request ∷ opened) (Take (with_u16 4 7 three_request) ∷ opened)
unfolding next_event take_fault fault_expecting data_frame_of header_bytes pieces_of request_fault fault_in_request response_fault fault_in_response
frames_to_server client_legal = (refl, (refl, tt))
frames_to_server server_legal = (refl, (refl, tt))
frames_to_server client_accepted = tt
frames_to_server server_accepted = (refl, tt)
frames_to_server to_client = ([], refl)
frames_to_server to_server = λ front. let e : ◌≡◌ {A = ℕ} 7 0 = ap (first_byte_at 4) front.1 in omega arith
frames_to_server client_credits = record { flight = lit≤ tt; grants = lit≤ tt; granted = lit≤ tt; sum = refl; most = lit≤ tt }
frames_to_server server_credits = record { flight = lit≤ tt; grants = lit≤ tt; granted = lit≤ tt; sum = refl; most = lit≤ tt }
frames_to_server credits_left = lit≤ tt
frames_to_server client_after = up_to_none (Emit three_request ∷ opened) (Take (with_u16 4 7 three_request) ∷ opened) refl
frames_to_server server_after = up_to_one (Take (with_u16 4 7 three_request) ∷ opened) (Emit three_request ∷ opened) refl (lit≤ tt)

client_credits_broken : BreakJust in_client_credits three three (Post 4 ∷ []) opened
unfolding next_event take_fault fault_expecting data_frame_of header_bytes pieces_of request_fault fault_in_request response_fault fault_in_response
client_credits_broken client_legal = λ h. let e : ◌≡◌ {A = ℕ} 3 4 = ap posted h.0 in omega arith
client_credits_broken server_legal = (refl, tt)
client_credits_broken client_accepted = tt
client_credits_broken server_accepted = tt
client_credits_broken to_client = ([], refl)
client_credits_broken to_server = ([], refl)
client_credits_broken client_credits = λ h. let e : 4 ≤ 3 = h.most in omega arith
client_credits_broken server_credits = record { flight = lit≤ tt; grants = lit≤ tt; granted = lit≤ tt; sum = refl; most = lit≤ tt }
client_credits_broken credits_left = lit≤ tt
client_credits_broken client_after = up_to_none (Post 4 ∷ []) opened refl
client_credits_broken server_after = up_to_none opened (Post 4 ∷ []) refl

server_credits_broken : BreakJust in_server_credits three three opened (Post 4 ∷ [])
unfolding next_event take_fault fault_expecting data_frame_of header_bytes pieces_of request_fault fault_in_request response_fault fault_in_response
server_credits_broken client_legal = (refl, tt)
server_credits_broken server_legal = λ h. let e : ◌≡◌ {A = ℕ} 3 4 = ap posted h.0 in omega arith
server_credits_broken client_accepted = tt
server_credits_broken server_accepted = tt
server_credits_broken to_client = ([], refl)
server_credits_broken to_server = ([], refl)
server_credits_broken client_credits = record { flight = lit≤ tt; grants = lit≤ tt; granted = lit≤ tt; sum = refl; most = lit≤ tt }
server_credits_broken server_credits = λ h. let e : 4 ≤ 3 = h.most in omega arith
server_credits_broken credits_left = lit≤ tt
server_credits_broken client_after = up_to_none opened (Post 4 ∷ []) refl
server_credits_broken server_after = up_to_none (Post 4 ∷ []) opened refl

credits_spent : BreakJust in_credits_left three three (Emit (empty_frame 0) ∷ Emit (empty_frame 0) ∷ Emit (empty_frame 0) ∷ three_client) three_server
unfolding next_event take_fault fault_expecting data_frame_of header_bytes pieces_of request_fault fault_in_request response_fault fault_in_response
credits_spent client_legal = λ h. let e : ◌≡◌ {A = ℕ} 3 0 = ap granted h.0 in omega arith
credits_spent server_legal = (refl, (refl, (refl, (refl, tt))))
credits_spent client_accepted = (refl, tt)
credits_spent server_accepted = (refl, tt)
credits_spent to_client = ([], refl)
credits_spent to_server = (_, refl)
credits_spent client_credits = record { flight = lit≤ tt; grants = lit≤ tt; granted = lit≤ tt; sum = refl; most = lit≤ tt }
credits_spent server_credits = record { flight = lit≤ tt; grants = lit≤ tt; granted = lit≤ tt; sum = refl; most = lit≤ tt }
credits_spent credits_left = λ h. let e : 6 ≤ 5 = h in omega arith
credits_spent client_after = up_to_one (Emit (empty_frame 0) ∷ Emit (empty_frame 0) ∷ Emit (empty_frame 0) ∷ three_client) three_server refl (lit≤ tt)
credits_spent server_after = up_to_one three_server (Emit (empty_frame 0) ∷ Emit (empty_frame 0) ∷ Emit (empty_frame 0) ∷ three_client) refl (lit≤ tt)

crossed : BreakJust in_order three three client_crossed server_crossed
unfolding next_event take_fault fault_expecting data_frame_of header_bytes pieces_of request_fault fault_in_request response_fault fault_in_response
crossed client_legal = (refl, (refl, (refl, (refl, (refl, (refl, (refl, (refl, (refl, (refl, tt))))))))))
crossed server_legal = (refl, (refl, (refl, (refl, (refl, (refl, (refl, (refl, (refl, tt)))))))))
crossed client_accepted = (refl, (refl, tt))
crossed server_accepted = (refl, (refl, (refl, tt)))
crossed to_client = ([], refl)
crossed to_server = ([], refl)
crossed client_credits = record { flight = lit≤ tt; grants = lit≤ tt; granted = lit≤ tt; sum = refl; most = lit≤ tt }
crossed server_credits = record { flight = lit≤ tt; grants = lit≤ tt; granted = lit≤ tt; sum = refl; most = lit≤ tt }
crossed credits_left = lit≤ tt
crossed client_after = λ h. let e : 3 ≤ 2 = h.each 2 (lit≤ tt) (lit≤ tt) in omega arith
crossed server_after = λ h. let e : 2 ≤ 1 = h.each 3 (lit≤ tt) (lit≤ tt) in omega arith

pub returns-clause-unjoint : goal.returns-clause-unjoint
returns-clause-unjoint c = record {
  client_rules = client_rules;
  server_rules = server_rules;
  client_refusal = client_refusal;
  server_refusal = server_refusal;
  frames_to_client = frames_to_client;
  frames_to_server = frames_to_server;
  client_credits = client_credits_broken;
  server_credits = server_credits_broken;
  credits_left = credits_spent;
  order = crossed;
}
