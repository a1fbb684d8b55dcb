use Rattle.std.proofs.Common.{slice_index_or, ◌≡◌, inl, inr, ℕ, zero, suc, ◌≤◌, List, [], ◌∷◌, length, refl, ap, subst, lit≤, arith}
use Rattle.std.proofs.lemmas.Bool.{cases_lt}
use Rattle.smbd_base.specs.declared.event.Event.{Event}
use Rattle.smbd_base.specs.declared.next.Next.{Next}
use Rattle.smbd_base.specs.declared.next.Next.TheVariants as due
use Rattle.smbd_base.specs.DataFrame.{data_frame_of, header_bytes}
use Rattle.smbd_base.specs.History.{next_event, take_fault, fault_expecting}
use Rattle.smbd_base.specs.Joint.{IsAfter, taken_frames, taken_before_sending, sent_before_taking}
use Rattle.smbd_base.specs.NegotiateMessages.{request_fault, fault_in_request, response_fault, fault_in_response}
use Rattle.smbd_base.specs.Pieces.{pieces_of}
use Rattle.smbd_base.specs.Worked.{three, three_server, empty_frame}
use Rattle.joint_laws.specs.WorkedJoint.{client_legal, server_legal, client_accepted, server_accepted, to_client, to_server, client_credits, server_credits, credits_left, client_after, server_after, BreakJust}
use Rattle.empty_frames.specs.WorkedEmpty.{client_granting, client_of_three, server_of_three, client_flooding, server_flooding, asking_frame, client_asking, server_asking, in_both_rules}
use Rattle.empty_frames.proofs.worked_empty.worked_empty_frames.Goals as goal

-- ---- each of some frames

-- the fact holds for each number from 1 on, up to this one
abbrev HoldsUpTo : (ℕ → Type 0) → ℕ → Type 0
HoldsUpTo fact zero = Unit {0}
HoldsUpTo fact (suc n) = fact (suc n) × HoldsUpTo fact n

up_to : (fact : ℕ → Type 0) (most n : ℕ) → HoldsUpTo fact most → 1 ≤ n → n ≤ most → fact n
up_to fact zero n each one within = absurd (omega arith)
up_to fact (suc most) n each one within = elim (cases_lt n (suc most)) [
  | inl below ↦ up_to fact most n each.1 one (omega arith)
  | inr above ↦ (let is : suc most ≡ n = omega arith in subst fact is each.0)
]

-- where an end took so many frames, its history is after its peer's if that holds for each of them
after : (own peer : List Event) (count : ℕ) → length (taken_frames own) ≡ count
    → HoldsUpTo (λ number. taken_before_sending number peer ≤ sent_before_taking number own) count → IsAfter own peer
after own peer count is each = record {
  each = λ number one within. up_to (λ k. taken_before_sending k peer ≤ sent_before_taking k own) count number each one (omega (arith, is));
}

-- ---- what is counted

pub returns-clause-counts : goal.returns-clause-counts
unfolding next_event take_fault fault_expecting data_frame_of header_bytes pieces_of request_fault fault_in_request response_fault fault_in_response
returns-clause-counts c = record {
  legal = (refl, (refl, (refl, (refl, (refl, (refl, (refl, (refl, (refl, tt)))))))));
  answers = refl;
  asking = refl;
  no_grants = refl;
  grants = refl;
  no_answers = refl;
  taken = refl;
}

-- ---- how near two ends come

pub returns-clause-near : goal.returns-clause-near
unfolding next_event take_fault fault_expecting data_frame_of header_bytes pieces_of request_fault fault_in_request response_fault fault_in_response
returns-clause-near c = record {
  idle = record {
    linked = record {
      client_legal = (refl, (refl, (refl, (refl, (refl, tt)))));
      server_legal = (refl, (refl, (refl, (refl, tt))));
      client_accepted = (refl, tt);
      server_accepted = (refl, tt);
      to_client = ([], refl);
      to_server = (empty_frame 3 ∷ [], refl);
    };
    client_credits = record { flight = lit≤ tt; grants = lit≤ tt; granted = lit≤ tt; sum = refl; most = lit≤ tt };
    server_credits = record { flight = lit≤ tt; grants = lit≤ tt; granted = lit≤ tt; sum = refl; most = lit≤ tt };
    credits_left = lit≤ tt;
    client_after = after client_granting three_server 1 refl (lit≤ tt, tt);
    server_after = after three_server client_granting 1 refl (lit≤ tt, tt);
  };
  idle_empty = refl;
  idle_filled = refl;
  busy = record {
    linked = record {
      client_legal = (refl, (refl, (refl, (refl, (refl, (refl, (refl, (refl, (refl, (refl, (refl, (refl, tt))))))))))));
      server_legal = (refl, (refl, (refl, (refl, (refl, (refl, (refl, (refl, (refl, (refl, (refl, tt)))))))))));
      client_accepted = (refl, (refl, (refl, tt)));
      server_accepted = (refl, (refl, (refl, tt)));
      to_client = ([], refl);
      to_server = (empty_frame 2 ∷ [], refl);
    };
    client_credits = record { flight = lit≤ tt; grants = lit≤ tt; granted = lit≤ tt; sum = refl; most = lit≤ tt };
    server_credits = record { flight = lit≤ tt; grants = lit≤ tt; granted = lit≤ tt; sum = refl; most = lit≤ tt };
    credits_left = lit≤ tt;
    client_after = after client_of_three server_of_three 3 refl (lit≤ tt, (lit≤ tt, (lit≤ tt, tt)));
    server_after = after server_of_three client_of_three 3 refl (lit≤ tt, (lit≤ tt, (lit≤ tt, tt)));
  };
  busy_empty = refl;
  busy_filled = refl;
}

-- ---- two ends that flood each other

-- the next event sends a frame
abbrev sends_one : Next → ℕ
sends_one (due.Post n) = 0
sends_one (due.Emit f) = 1
sends_one due.Close = 0
sends_one due.Idle = 0

flooding : BreakJust in_both_rules three three client_flooding server_flooding
unfolding next_event take_fault fault_expecting data_frame_of header_bytes pieces_of request_fault fault_in_request response_fault fault_in_response
flooding client_legal = λ h. let e : ◌≡◌ {A = ℕ} 0 1 = ap sends_one h.0 in omega arith
flooding server_legal = λ h. let e : ◌≡◌ {A = ℕ} 0 1 = ap sends_one h.0 in omega arith
flooding client_accepted = (refl, (refl, (refl, (refl, tt))))
flooding server_accepted = (refl, (refl, (refl, (refl, tt))))
flooding to_client = ([], refl)
flooding to_server = (empty_frame 1 ∷ [], refl)
flooding client_credits = record { flight = lit≤ tt; grants = lit≤ tt; granted = lit≤ tt; sum = refl; most = lit≤ tt }
flooding server_credits = record { flight = lit≤ tt; grants = lit≤ tt; granted = lit≤ tt; sum = refl; most = lit≤ tt }
flooding credits_left = lit≤ tt
flooding client_after = after client_flooding server_flooding 4 refl (lit≤ tt, (lit≤ tt, (lit≤ tt, (lit≤ tt, tt))))
flooding server_after = after server_flooding client_flooding 4 refl (lit≤ tt, (lit≤ tt, (lit≤ tt, (lit≤ tt, tt))))

-- the flags of the frame that the next event sends
abbrev flags_sent : Next → ℕ
flags_sent (due.Post n) = 0
flags_sent (due.Emit f) = slice_index_or f 4 0
flags_sent due.Close = 0
flags_sent due.Idle = 0

asking : BreakJust in_both_rules three three client_asking server_asking
unfolding next_event take_fault fault_expecting data_frame_of header_bytes pieces_of request_fault fault_in_request response_fault fault_in_response
asking client_legal = λ h. let e : ◌≡◌ {A = ℕ} 0 1 = ap flags_sent h.0 in omega arith
asking server_legal = λ h. let e : ◌≡◌ {A = ℕ} 0 1 = ap flags_sent h.0 in omega arith
asking client_accepted = (refl, (refl, (refl, (refl, tt))))
asking server_accepted = (refl, (refl, (refl, (refl, tt))))
asking to_client = ([], refl)
asking to_server = (asking_frame 1 ∷ [], refl)
asking client_credits = record { flight = lit≤ tt; grants = lit≤ tt; granted = lit≤ tt; sum = refl; most = lit≤ tt }
asking server_credits = record { flight = lit≤ tt; grants = lit≤ tt; granted = lit≤ tt; sum = refl; most = lit≤ tt }
asking credits_left = lit≤ tt
asking client_after = after client_asking server_asking 4 refl (lit≤ tt, (lit≤ tt, (lit≤ tt, (lit≤ tt, tt))))
asking server_after = after server_asking client_asking 4 refl (lit≤ tt, (lit≤ tt, (lit≤ tt, (lit≤ tt, tt))))

pub returns-clause-flood : goal.returns-clause-flood
unfolding data_frame_of header_bytes pieces_of request_fault fault_in_request response_fault fault_in_response
returns-clause-flood c = record {
  rules = flooding;
  empty = refl;
  filled = refl;
  unbounded = λ h. let e : 7 ≤ 6 = h in omega arith;
  asking_rules = asking;
  asking_empty = refl;
  asking_filled = refl;
  asking_unbounded = λ h. let e : 7 ≤ 6 = h in omega arith;
}
