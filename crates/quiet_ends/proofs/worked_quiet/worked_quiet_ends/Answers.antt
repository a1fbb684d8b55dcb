use Rattle.std.proofs.lemmas.Bool.{cases_lt}
use Rattle.std.proofs.Common.{◌≡◌, inl, inr, ℕ, ◌≤◌, List, [], ◌∷◌, length, refl, ap, subst, lit≤, arith}
use Rattle.smbd_base.specs.declared.event.Event.{Event}
use Rattle.smbd_base.specs.declared.next.Next.{Next}
use Rattle.smbd_base.specs.declared.next.Next.TheVariants as due
use Rattle.smbd_base.specs.DataFrame.{data_frame_of, header_bytes}
use Rattle.smbd_base.specs.History.{next_event, take_fault, fault_expecting}
use Rattle.smbd_base.specs.Joint.{IsAfter, taken_frames, taken_before_sending, sent_before_taking}
use Rattle.smbd_base.specs.NegotiateMessages.{request_fault, fault_in_request, response_fault, fault_in_response}
use Rattle.smbd_base.specs.Pieces.{pieces_of}
use Rattle.smbd_base.specs.Worked.{three_server, first_frame, second_frame, two_sent}
use Rattle.quiet_ends.specs.WorkedQuiet.{client_sent, server_took, client_cut}
use Rattle.quiet_ends.proofs.worked_quiet.worked_quiet_ends.Goals as goal

-- ---- an end that took one or two frames

after_one : (own peer : List Event) → length (taken_frames own) ≡ 1 → taken_before_sending 1 peer ≤ sent_before_taking 1 own → IsAfter own peer
after_one own peer count first = record { each = each } where
  each : (number : ℕ) → 1 ≤ number → number ≤ length (taken_frames own) → taken_before_sending number peer ≤ sent_before_taking number own
  each number one most =
      let is : 1 ≡ number = omega (arith, count) in
      subst (λ (n : ℕ). taken_before_sending n peer ≤ sent_before_taking n own) is first

after_two : (own peer : List Event) → length (taken_frames own) ≡ 2 → taken_before_sending 1 peer ≤ sent_before_taking 1 own
    → taken_before_sending 2 peer ≤ sent_before_taking 2 own → IsAfter own peer
after_two own peer count first second = record { each = each } where
  each : (number : ℕ) → 1 ≤ number → number ≤ length (taken_frames own) → taken_before_sending number peer ≤ sent_before_taking number own
  each number one most = elim (cases_lt number 2) [
    | inl below ↦
        let is : 1 ≡ number = omega arith in
        subst (λ (n : ℕ). taken_before_sending n peer ≤ sent_before_taking n own) is first
    | inr above ↦
        let is : 2 ≡ number = omega (arith, count) in
        subst (λ (n : ℕ). taken_before_sending n peer ≤ sent_before_taking n own) is second
  ]

-- ---- quiet ends

pub returns-clause-quiet : goal.returns-clause-quiet
unfolding next_event take_fault fault_expecting data_frame_of header_bytes pieces_of request_fault fault_in_request response_fault fault_in_response
returns-clause-quiet c = record {
  joint = record {
    linked = record {
      client_legal = (refl, (refl, (refl, (refl, (refl, (refl, tt))))));
      server_legal = (refl, (refl, (refl, (refl, (refl, (refl, tt))))));
      client_accepted = (refl, tt);
      server_accepted = (refl, (refl, tt));
      to_client = ([], refl);
      to_server = ([], refl);
    };
    client_credits = record { flight = lit≤ tt; grants = lit≤ tt; granted = lit≤ tt; sum = refl; most = lit≤ tt };
    server_credits = record { flight = lit≤ tt; grants = lit≤ tt; granted = lit≤ tt; sum = refl; most = lit≤ tt };
    credits_left = lit≤ tt;
    client_after = after_one client_sent server_took refl (lit≤ tt);
    server_after = after_two server_took client_sent refl (lit≤ tt) (lit≤ tt);
  };
  quiet = record { client_uncut = refl; server_uncut = refl; to_client = refl; to_server = refl; client_idle = refl; server_idle = refl };
  delivered = refl;
}

-- ---- ends that are not quiet

-- the next event sends a frame
abbrev sends_one : Next → ℕ
sends_one (due.Post n) = 0
sends_one (due.Emit f) = 1
sends_one due.Close = 0
sends_one due.Idle = 0

pub returns-clause-unquiet : goal.returns-clause-unquiet
unfolding next_event take_fault fault_expecting data_frame_of header_bytes pieces_of request_fault fault_in_request response_fault fault_in_response
returns-clause-unquiet c = record {
  flying = record {
    linked = record {
      client_legal = (refl, (refl, (refl, (refl, (refl, (refl, (refl, tt)))))));
      server_legal = (refl, (refl, (refl, (refl, tt))));
      client_accepted = (refl, tt);
      server_accepted = (refl, tt);
      to_client = ([], refl);
      to_server = (first_frame ∷ second_frame ∷ [], refl);
    };
    client_credits = record { flight = lit≤ tt; grants = lit≤ tt; granted = lit≤ tt; sum = refl; most = lit≤ tt };
    server_credits = record { flight = lit≤ tt; grants = lit≤ tt; granted = lit≤ tt; sum = refl; most = lit≤ tt };
    credits_left = lit≤ tt;
    client_after = after_one two_sent three_server refl (lit≤ tt);
    server_after = after_one three_server two_sent refl (lit≤ tt);
  };
  flying_client = refl;
  flying_server = refl;
  flying_left = refl;
  flying_unquiet = λ q. let e : ◌≡◌ {A = ℕ} 1 3 = ap (λ (fs : List (List ℕ)). length fs) q.to_server in omega arith;
  cut = record {
    linked = record {
      client_legal = ((refl, refl), (refl, (refl, (refl, (refl, (refl, tt))))));
      server_legal = (refl, (refl, (refl, (refl, tt))));
      client_accepted = (refl, tt);
      server_accepted = (refl, tt);
      to_client = ([], refl);
      to_server = ([], refl);
    };
    client_credits = record { flight = lit≤ tt; grants = lit≤ tt; granted = lit≤ tt; sum = refl; most = lit≤ tt };
    server_credits = record { flight = lit≤ tt; grants = lit≤ tt; granted = lit≤ tt; sum = refl; most = lit≤ tt };
    credits_left = lit≤ tt;
    client_after = after_one client_cut three_server refl (lit≤ tt);
    server_after = after_one three_server client_cut refl (lit≤ tt);
  };
  cut_client = refl;
  cut_server = refl;
  cut_to_client = refl;
  cut_to_server = refl;
  cut_left = refl;
  cut_unquiet = λ q. let e = q.client_uncut in cc;
  busy = λ q. let e : ◌≡◌ {A = ℕ} 1 0 = ap sends_one q.client_idle in omega arith;
}

-- ---- a dead end

pub returns-clause-dead_end : goal.returns-clause-dead_end
returns-clause-dead_end c = record { stuck = refl; free = refl }
