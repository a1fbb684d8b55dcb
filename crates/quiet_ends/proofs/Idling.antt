-- An end that does nothing next, and what it holds where nothing is in flight.
use Rattle.std.proofs.Common.{◌≡◌, ℕ, ◌+◌, ◌-◌, ◌≤◌, ◌==◌, Bool, true, false, not, cond, List, [], ◌∷◌, length, take, drop, inr, Option, None, is_none, is_some, refl, ap, sym, ◌∙◌, arith}
use Rattle.std.specs.List.{flat_map}
use Rattle.std.proofs.lemmas.List.{length-drop, take_all}
use mathlib.Core.List.{IsPrefix}
use Rattle.smbd_base.specs.declared.end_id.EndId.{EndId}
use Rattle.smbd_base.specs.declared.event.Event.{Event}
use Rattle.smbd_base.specs.declared.event.Event.TheVariants.{Post, Submit, Emit, Take, Cut}
use Rattle.smbd_base.specs.declared.faults.TakeFault.{TakeFault}
use Rattle.smbd_base.specs.declared.next.Next.TheVariants as due
use Rattle.smbd_base.specs.Limits.{Limits, IsLawful}
use Rattle.smbd_base.specs.Balance.{IsBalanced, receives_due}
use Rattle.smbd_base.specs.Counts.{peer_of, frames_sent, frames_taken, credits_granted, credits_earned, credits_held, receives_outstanding, receives_grantable, is_silent, is_unheard}
use Rattle.smbd_base.specs.Delivery.{messages_delivered}
use Rattle.smbd_base.specs.History.{next_event, take_fault, is_agreed, is_closed, is_cut, is_negotiating, is_new, is_post_due, is_sending, is_welcomed, negotiation_frame, frame_due, messages_submitted, payload_size, pieces_sent, pieces_waiting, IsLegal}
use Rattle.smbd_base.specs.Joint.{AreAccepted, emitted_frames, taken_frames}
use Rattle.smbd_base.specs.Pieces.{Piece, pieces_of}
use Rattle.smbd_base.proofs.Counting.{sent_is, grants_in, grants_in-more, granted_is, unheard_is}
use Rattle.smbd_base.proofs.Inversion.{in_turn}
use Rattle.smbd_laws.proofs.Fitting.{not_zero}
use Rattle.smbd_laws.proofs.Pacing.{delivered_pace}
use Rattle.smbd_laws.proofs.Settling.{settled_within}
use Rattle.joint_laws.specs.Halves.{HoldsEarned}
use Rattle.joint_laws.proofs.Accounts.{peer-peer, earned_take}
use Rattle.joint_laws.proofs.Speaking.{taken_is}

-- ---- what an idle end is

-- it is open, and owes no receive, no negotiation message and no data transfer message
pub record IsIdle (side : EndId) (limits : Limits) (past : List Event) : Type 0 where
  pub opened : is_new past ≡ false
  pub unclosed : is_closed side limits past ≡ false
  pub reposted : is_post_due past ≡ false
  pub negotiated : is_negotiating side past ≡ false
  pub unsending : is_sending side limits past ≡ false

record AreOff (new closed post opening sending : Bool) : Type 0 where
  no_opening : new ≡ false
  no_close : closed ≡ false
  no_post : post ≡ false
  no_negotiation : opening ≡ false
  no_sending : sending ≡ false

off_by : (cut new closed post opening sending : Bool) (n : ℕ) (first later : List ℕ) → cut ≡ false
    → cond cut due.Idle (cond new (due.Post n) (cond closed due.Close (cond post (due.Post 1) (cond opening (due.Emit first) (cond sending (due.Emit later) due.Idle))))) ≡ due.Idle
    → AreOff new closed post opening sending
off_by true new closed post opening sending n first later uncut e = absurd cc
off_by false true closed post opening sending n first later uncut e = absurd cc
off_by false false true post opening sending n first later uncut e = absurd cc
off_by false false false true opening sending n first later uncut e = absurd cc
off_by false false false false true sending n first later uncut e = absurd cc
off_by false false false false false true n first later uncut e = absurd cc
off_by false false false false false false n first later uncut e =
    record { no_opening = refl; no_close = refl; no_post = refl; no_negotiation = refl; no_sending = refl }

pub idle : (side : EndId) (limits : Limits) (past : List Event) → is_cut past ≡ false → next_event side limits past ≡ due.Idle → IsIdle side limits past
unfolding next_event
idle side limits past uncut e =
    let o = off_by (is_cut past) (is_new past) (is_closed side limits past) (is_post_due past) (is_negotiating side past) (is_sending side limits past)
    limits.credits (negotiation_frame side limits past) (frame_due side limits past) uncut e in
    record { opened = o.no_opening; unclosed = o.no_close; reposted = o.no_post; negotiated = o.no_negotiation; unsending = o.no_sending }

-- ---- it has agreed

welcomed_by : (unheard : Bool) (o : Option TakeFault) (before : Bool) → o ≡ None → (unheard ≡ false → before ≡ true) → cond unheard (is_none o) before ≡ true
welcomed_by true o before accepted was = rw accepted refl
welcomed_by false o before accepted was = was refl

-- an end that refused no frame, and has heard, took the negotiation message first
welcomed : (side : EndId) (limits : Limits) (past : List Event) → AreAccepted side limits past → is_unheard past ≡ false → is_welcomed side limits past ≡ true
welcomed side limits [] accepted heard = absurd cc
welcomed side limits (Post n ∷ past) accepted heard = welcomed side limits past accepted heard
welcomed side limits (Submit m ∷ past) accepted heard = welcomed side limits past accepted heard
welcomed side limits (Emit f ∷ past) accepted heard = welcomed side limits past accepted heard
welcomed side limits (Take f ∷ past) accepted heard =
    welcomed_by (is_unheard past) (take_fault side limits past f) (is_welcomed side limits past) accepted.0 (welcomed side limits past accepted.1)
welcomed side limits (Cut ∷ past) accepted heard = welcomed side limits past accepted heard

pub agreed : (side : EndId) (limits : Limits) (past : List Event) → AreAccepted side limits past → is_unheard past ≡ false → is_silent past ≡ false → is_agreed side limits past ≡ true
agreed side limits past accepted heard spoken = rw (welcomed side limits past accepted heard, spoken) refl

-- ---- what it holds

-- what an end that refused no frame earned, is what the frames that it took grant
earned_is : (side : EndId) (limits : Limits) (past : List Event) → AreAccepted side limits past → credits_earned side past ≡ 1 + grants_in (peer_of side) (taken_frames past)
earned_is side limits [] accepted = refl
earned_is side limits (Post n ∷ past) accepted = earned_is side limits past accepted
earned_is side limits (Submit m ∷ past) accepted = earned_is side limits past accepted
earned_is side limits (Emit f ∷ past) accepted = earned_is side limits past accepted
earned_is side limits (Take f ∷ past) accepted =
    let turn = in_turn side limits past f (ap (λ (o : Option TakeFault). is_some o) accepted.0) in
    earned_take side past f turn
    ∙ rw (unheard_is past) (omega (arith, earned_is side limits past accepted.1, grants_in-more (peer_of side) (taken_frames past) f))
earned_is side limits (Cut ∷ past) accepted = earned_is side limits past accepted

-- Nothing is in flight: the credits that are outstanding at an end are those that its peer holds, and it can grant the rest.
pub record HasNoneInFlight (side : EndId) (limits : Limits) (own peer : List Event) : Type 0 where
  pub granted : credits_granted side own ≡ credits_earned (peer_of side) peer
  pub outstanding : receives_outstanding side own ≡ credits_held (peer_of side) peer
  pub grantable : receives_grantable side own ≡ limits.credits - credits_held (peer_of side) peer

pub none_in_flight : (side : EndId) (own_limits peer_limits : Limits) (own peer : List Event) → IsBalanced side own_limits own → IsIdle side own_limits own → is_cut own ≡ false
    → AreAccepted side own_limits own → AreAccepted (peer_of side) peer_limits peer → HoldsEarned (peer_of side) peer
    → taken_frames own ≡ emitted_frames peer → taken_frames peer ≡ emitted_frames own → HasNoneInFlight side own_limits own peer
none_in_flight side own_limits peer_limits own peer b i uncut accepted accepted' holds to_own to_peer =
    let taken : frames_taken side own ≡ frames_sent peer =
    taken_is side own_limits own accepted ∙ ap (λ (fs : List (List ℕ)). length fs) to_own ∙ sym (sent_is peer) in
    let earned : credits_earned (peer_of side) peer ≡ 1 + grants_in side (emitted_frames own) =
    earned_is (peer_of side) peer_limits peer accepted' ∙ ap (λ (x : EndId). 1 + grants_in x (taken_frames peer)) (peer-peer side)
    ∙ ap (λ (fs : List (List ℕ)). 1 + grants_in side fs) to_peer in
    let same : credits_granted side own ≡ credits_earned (peer_of side) peer = granted_is side own ∙ sym earned in
    let none : receives_due own ≡ 0 = rw i.reposted refl in
    record {
      granted = same;
      outstanding = omega (arith, same, taken, holds.all);
      grantable = omega (arith, same, taken, holds.all, none, b.reposted uncut i.unclosed, b.granted);
    }

-- ---- what it has delivered

pub none_left : (pieces : List Piece) → not (length pieces == 0) ≡ false → pieces ≡ []
none_left [] e = refl
none_left (p ∷ later) e = let some = not_zero (length (p ∷ later)) (omega arith) in absurd (let b : ⊥ = cc in b)

-- an end that took all frames of a peer with nothing left to send has delivered all that was submitted there
pub delivered_all : (x : EndId) (own other : Limits) (taker sender : List Event) → IsLawful own → IsLawful other → IsLegal x own taker → IsLegal (peer_of x) other sender
    → AreAccepted x own taker → IsPrefix (taken_frames sender) (emitted_frames taker) → taken_frames taker ≡ emitted_frames sender
    → is_agreed (peer_of x) other sender ≡ true → pieces_waiting (peer_of x) other sender ≡ [] → messages_delivered x own taker ≡ messages_submitted sender
delivered_all x own other taker sender lawful peer legal legal' accepted back each settled_is none =
    let w = settled_within x own other taker sender lawful legal back settled_is in
    let submitted = messages_submitted sender in
    let all = flat_map (pieces_of (payload_size (peer_of x) other sender)) (messages_submitted sender) in
    let left : length (drop (pieces_sent sender) (flat_map (pieces_of (payload_size (peer_of x) other sender)) (messages_submitted sender))) ≡ 0 =
    ap (λ (ps : List Piece). length ps) none in
    let whole : take (length (messages_submitted sender)) (messages_submitted sender) ≡ messages_submitted sender =
    take_all (length (messages_submitted sender)) (messages_submitted sender) (omega arith) in
    let sent : length (flat_map (pieces_of (payload_size (peer_of x) other sender)) (messages_submitted sender)) ≤ pieces_sent sender =
    omega (arith, left, length-drop (pieces_sent sender) all) in
    delivered_pace x own other taker sender (length (messages_submitted sender)) lawful peer legal' accepted each settled_is (omega (arith, w.messages, lawful.fragmented_size.1))
    (rw whole sent) (inr (omega arith))
    ∙ whole
