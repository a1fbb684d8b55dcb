-- What is delivered where each frame was taken.
use Rattle.std.proofs.Common.{◌≡◌, ◌⊎◌, inl, inr, ℕ, true, false, zero, suc, ◌+◌, ◌-◌, ◌≤◌, ◌<◌, List, [], ◌∷◌, ◌++◌, length, take, drop, refl, ap, subst, sym, ◌∙◌, append-nil, append_assoc, add-one, arith}
use Rattle.std.specs.List.{flat_map}
use Rattle.std.proofs.Math.Seq.{take-append-add, take-nil}
use mathlib.Core.List.{IsPrefix}
use Rattle.std.proofs.lemmas.Bool.{cases_Bool}
use Rattle.std.proofs.lemmas.List.{length-append, length-drop, take-append-le, take-append-drop}
use Rattle.std.proofs.lemmas.List.Concat.{flat_map-append}
use Rattle.smbd_base.specs.declared.end_id.EndId.{EndId}
use Rattle.smbd_base.specs.declared.event.Event.{Event}
use Rattle.smbd_base.specs.declared.event.Event.TheVariants.{Post, Submit, Emit, Take, Cut}
use Rattle.smbd_base.specs.Limits.{Limits, IsLawful}
use Rattle.smbd_base.specs.Counts.{peer_of}
use Rattle.smbd_base.specs.Delivery.{messages_delivered, pieces_taken}
use Rattle.smbd_base.specs.Joint.{AreAccepted, emitted_frames, taken_frames}
use Rattle.smbd_base.specs.Pieces.{Piece, pieces_of, joined, IsUnbroken, IsRest, AreFilled, SplitsInto}
use Rattle.smbd_base.specs.History.{bytes_expected, messages_submitted, payload_size, pieces_sent, settled, is_agreed, IsLegal}
use Rattle.smbd_base.proofs.BalanceLemmas.{silent_opening}
use Rattle.smbd_base.proofs.Inversion.{Emits, emits, sending_parts}
use Rattle.smbd_laws.proofs.Delivering.{taken_carried, taken_front}
use Rattle.smbd_laws.proofs.Gathering.{gathers}
use Rattle.smbd_laws.proofs.Joining.{AreSome, pieces_of-whole, pieces_of-filled, joined-pieces_of}
use Rattle.smbd_laws.proofs.Sending.{pieces_carried, later_frames, speaks}
use Rattle.smbd_laws.proofs.Splitting.{one_way, filled_after}
use Rattle.smbd_base.proofs.RunLemmas.{pieces_in}
use Rattle.smbd_laws.proofs.Settling.{settles_own, settles_least, stays_settled, least_agreement}
use Rattle.smbd_laws.proofs.Submitting.{pieces_submitted, submitted_some, size_of, size_some}

-- ---- a run that is cut through

-- its first pieces expect what the later ones carry
run_front : (more : ℕ) (front back : List Piece) → IsUnbroken more (front ++ back) → IsUnbroken (length (joined back) + more) front
run_front more [] back r = tt
run_front more (p ∷ front) back r =
    let bytes : joined (front ++ back) ≡ joined front ++ joined back = flat_map-append (λ (q : Piece). q.payload) front back in
    let sum : length (joined (front ++ back)) ≡ length (joined front) + length (joined back) = rw bytes (length-append (joined front) (joined back)) in
    (omega (arith, r.0), run_front more front back r.1)

joined_some : (pieces : List Piece) → AreFilled pieces → 0 < length pieces → 0 < length (joined pieces)
joined_some [] f some = absurd (omega arith)
joined_some (p ∷ later) f some = omega (arith, f.0, length-append p.payload (joined later))

front_rest : (front back : List Piece) → IsUnbroken 0 (front ++ back) → AreFilled (front ++ back) → 0 < length back → (expected : ℕ) × IsRest expected front
front_rest [] back r f some = (0, refl)
front_rest (p ∷ front) back r f some =
    (length (joined back) + 0, (omega (arith, joined_some back (filled_after (p ∷ front) back f) some), run_front 0 (p ∷ front) back r))

-- ---- the first pieces of messages

-- the pieces split into these messages, and a rest of the next one
record SplitsWithRest (pieces : List Piece) (messages : List (List ℕ)) : Type 0 where
  rest : List Piece
  expected : ℕ
  splits : SplitsInto pieces messages rest expected

splits_none : (rest : List Piece) (expected : ℕ) → IsRest expected rest → SplitsWithRest rest []
splits_none rest expected r = record { rest = rest; expected = expected; splits = record { runs = []; whole = tt; all = refl; each = refl; last = r } }

splits_more : (size : ℕ) (m : List ℕ) (pieces : List Piece) (messages : List (List ℕ)) → 0 < size → 0 < length m → SplitsWithRest pieces messages
    → SplitsWithRest (pieces_of size m ++ pieces) (m ∷ messages)
splits_more size m pieces messages size_is some h =
    let same = joined-pieces_of size m size_is in
    record {
      rest = h.rest;
      expected = h.expected;
      splits = record {
        runs = pieces_of size m ∷ h.splits.runs;
        whole = (pieces_of-whole size m size_is some, h.splits.whole);
        all = ap (λ (ps : List Piece). pieces_of size m ++ ps) h.splits.all ∙ sym (append_assoc (pieces_of size m) (pieces_in h.splits.runs) h.rest);
        each = (let each = h.splits.each in cc);
        last = h.splits.last;
      };
    }

-- the first pieces of a message, but not all
cut_through : (size count : ℕ) (m : List ℕ) → 0 < size → 0 < length m → count < length (pieces_of size m) → SplitsWithRest (take count (pieces_of size m)) []
cut_through size count m size_is some few =
    let both = take-append-drop count (pieces_of size m) in
    let r = front_rest (take count (pieces_of size m)) (drop count (pieces_of size m)) (rw both (pieces_of-whole size m size_is some).unbroken)
    (rw both (pieces_of-filled size m size_is)) (omega (arith, length-drop count (pieces_of size m))) in
    splits_none (take count (pieces_of size m)) r.0 r.1

-- so many pieces split into the messages of which all are among them
splits_first : (size n count : ℕ) (messages : List (List ℕ)) → 0 < size → AreSome messages
    → length (flat_map (pieces_of size) (take n messages)) ≤ count
    → count < length (flat_map (pieces_of size) (take (suc n) messages)) ⊎ length messages ≤ n
    → SplitsWithRest (take count (flat_map (pieces_of size) messages)) (take n messages)
splits_first size n count [] size_is some all next = rw (take-nil {A = Piece} count, take-nil {A = List ℕ} n) (splits_none [] 0 refl)
splits_first size zero count (m ∷ messages) size_is some all next =
    elim next as (λ _. SplitsWithRest (take count (flat_map (pieces_of size) (m ∷ messages))) []) [
      | inl few ↦
          let less : count < length (pieces_of size m) = rw (append-nil (pieces_of size m)) at few in
          rw (take-append-le count (pieces_of size m) (flat_map (pieces_of size) messages) (omega arith)) (cut_through size count m size_is some.0 less)
      | inr none ↦ absurd (omega arith)
    ]
splits_first size (suc n) count (m ∷ messages) size_is some all next =
    let own = pieces_of size m in
    let first = flat_map (pieces_of size) (take n messages) in
    let long : length (own ++ first) ≡ length own + length first = length-append own first in
    let is : length own + (count - length own) ≡ count = omega arith in
    let later : count - length own < length (flat_map (pieces_of size) (take (suc n) messages)) ⊎ length messages ≤ n =
    elim next as (λ _. count - length own < length (flat_map (pieces_of size) (take (suc n) messages)) ⊎ length messages ≤ n) [
      | inl few ↦ inl (omega (arith, length-append own (flat_map (pieces_of size) (take (suc n) messages))))
      | inr none ↦ inr (omega arith)
    ] in
    let h = splits_first size n (count - length own) messages size_is some.1 (omega arith) later in
    let front : take count (own ++ flat_map (pieces_of size) messages) ≡ own ++ take (count - length own) (flat_map (pieces_of size) messages) =
    ap (λ (k : ℕ). take k (own ++ flat_map (pieces_of size) messages)) (sym is) ∙ take-append-add own (flat_map (pieces_of size) messages) (count - length own) in
    rw front (splits_more size m (take (count - length own) (flat_map (pieces_of size) messages)) (take n messages) size_is some.0 h)

-- ---- an end that is not agreed

unagreed_before : (side : EndId) (limits : Limits) (e : Event) (past : List Event) → is_agreed side limits (e ∷ past) ≡ false → is_agreed side limits past ≡ false
unagreed_before side limits e past none =
    elim (cases_Bool (is_agreed side limits past)) as (λ _. is_agreed side limits past ≡ false) [
      | inl was ↦ (let later = (stays_settled side limits e past was).agreed in absurd (let b : ⊥ = cc in b))
      | inr was ↦ was
    ]

none_more : (side : EndId) (limits : Limits) (past : List Event) (f : List ℕ) → Emits side limits past f → is_agreed side limits past ≡ false → pieces_sent past ≡ 0
    → pieces_sent (Emit f ∷ past) ≡ 0
none_more side limits past f e none was =
    elim e.chosen.why as (λ _. pieces_sent (Emit f ∷ past) ≡ 0) [
      | inl first ↦ (let silent = silent_opening side past first.0 in rw silent was)
      | inr later ↦ (let agreed = (sending_parts side limits past e.going.closed later.1).agreed in absurd (let b : ⊥ = cc in b))
    ]

-- it has sent no piece
unagreed_sent : (side : EndId) (limits : Limits) (past : List Event) → IsLegal side limits past → is_agreed side limits past ≡ false → pieces_sent past ≡ 0
unagreed_sent side limits [] legal none = refl
unagreed_sent side limits (Post n ∷ past) legal none = unagreed_sent side limits past legal.1 (unagreed_before side limits (Post n) past none)
unagreed_sent side limits (Submit m ∷ past) legal none = unagreed_sent side limits past legal.1 (unagreed_before side limits (Submit m) past none)
unagreed_sent side limits (Emit f ∷ past) legal none =
    let was = unagreed_before side limits (Emit f) past none in
    none_more side limits past f (emits side limits past f legal.0) was (unagreed_sent side limits past legal.1 was)
unagreed_sent side limits (Take f ∷ past) legal none = unagreed_sent side limits past legal.1 (unagreed_before side limits (Take f) past none)
unagreed_sent side limits (Cut ∷ past) legal none = unagreed_sent side limits past legal.1 (unagreed_before side limits Cut past none)

nothing_before : {A : Type 0} (xs : List A) → IsPrefix xs [] → xs ≡ []
nothing_before [] k = refl
nothing_before (x ∷ xs) k = absurd (let e = k.1 in let b : ⊥ = cc in b)

-- and nothing of it was delivered
pub delivered_none : (x : EndId) (own other : Limits) (taker sender : List Event) → IsLawful own → IsLawful other → IsLegal (peer_of x) other sender
    → AreAccepted x own taker → IsPrefix (taken_frames taker) (emitted_frames sender) → is_agreed (peer_of x) other sender ≡ false → messages_delivered x own taker ≡ []
delivered_none x own other taker sender lawful peer legal accepted front none =
    let s = settles_least (peer_of x) other sender none in
    let k = taken_front x own other taker sender least_agreement peer legal s accepted front in
    let sent = unagreed_sent (peer_of x) other sender legal none in
    let is : pieces_taken x own taker ≡ [] = nothing_before (pieces_taken x own taker)
    (subst (λ (n : ℕ). IsPrefix (pieces_taken x own taker) (take n (pieces_submitted (size_of least_agreement) sender))) sent k) in
    let h = gathers x own taker in
    let nothing : SplitsInto [] [] [] 0 = record { runs = []; whole = tt; all = refl; each = refl; last = refl } in
    let split = subst (λ (ps : List Piece). SplitsInto ps [] [] 0) (sym is) nothing in
    (one_way (pieces_taken x own taker) (messages_delivered x own taker) [] h.rest [] (bytes_expected x own taker) 0 h.filled h.is.splits split).0

-- ---- of two ends

-- an end that has taken each frame of an agreed peer has delivered the messages of which each piece was sent
pub delivered_pace : (x : EndId) (own other : Limits) (taker sender : List Event) (n : ℕ) → IsLawful own → IsLawful other → IsLegal (peer_of x) other sender
    → AreAccepted x own taker → taken_frames taker ≡ emitted_frames sender
    → is_agreed (peer_of x) other sender ≡ true → (settled (peer_of x) other sender).message_max < 4294967296
    → length (flat_map (pieces_of (payload_size (peer_of x) other sender)) (take n (messages_submitted sender))) ≤ pieces_sent sender
    → pieces_sent sender < length (flat_map (pieces_of (payload_size (peer_of x) other sender)) (take (n + 1) (messages_submitted sender))) ⊎ length (messages_submitted sender) ≤ n
    → messages_delivered x own taker ≡ take n (messages_submitted sender)
delivered_pace x own other taker sender n lawful peer legal accepted each agreed small all next =
    let s = settles_own (peer_of x) other sender peer agreed small in
    let size = size_some (peer_of x) other sender (settled (peer_of x) other sender) s in
    let submitted = messages_submitted sender in
    let is : pieces_taken x own taker ≡ take (pieces_sent sender) (pieces_submitted (payload_size (peer_of x) other sender) sender) =
    taken_carried x own taker accepted ∙ ap (λ (fs : List (List ℕ)). pieces_carried (later_frames fs)) each
    ∙ (speaks (peer_of x) other sender (settled (peer_of x) other sender) peer legal s).carried in
    let f = splits_first (payload_size (peer_of x) other sender) n (pieces_sent sender) submitted size (submitted_some (peer_of x) other sender legal) all
    (subst (λ (k : ℕ). pieces_sent sender < length (flat_map (pieces_of (payload_size (peer_of x) other sender)) (take k submitted)) ⊎ length submitted ≤ n) (add-one n) next) in
    let h = gathers x own taker in
    let split = subst (λ (ps : List Piece). SplitsInto ps (take n submitted) f.rest f.expected) (sym is) f.splits in
    (one_way (pieces_taken x own taker) (messages_delivered x own taker) (take n submitted) h.rest f.rest (bytes_expected x own taker) f.expected h.filled h.is.splits split).0
