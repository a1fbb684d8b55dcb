-- Pieces of whole messages are accepted, and make those messages.
use Rattle.std.proofs.Common.{◌≡◌, ◌⊎◌, inl, inr, ℕ, ◌+◌, ◌<◌, ◌≤◌, List, [], ◌∷◌, ◌++◌, length, map, None, Option, All, option_to_list, refl, ap, subst, sym, ◌∙◌, append-nil, append_assoc, arith}
use Rattle.std.specs.List.{flat_map}
use Rattle.std.proofs.lemmas.List.{length-append}
use Rattle.std.proofs.lemmas.List.Elements.{All-head, All-tail}
use Rattle.smbd_base.specs.Pieces.{Piece, gather_fault, joined, IsUnbroken, IsWhole, AreWhole, AreFilled, SplitsInto}
use Rattle.reassembly.specs.Gathering.{Gathering, PiecesAreAccepted, opened, messages_gathered, gathered_so, with_accepted}
use Rattle.reassembly.proofs.Accepted.{begun_fits, first_fits, fits-accepted, message_of-more, message_of-last, with_accepted-more, with_accepted-last}

-- a gatherer that has not failed
abbrev at : ℕ → List ℕ → ℕ → Gathering
at max begun expected = record { max = max; begun = begun; expected = expected; broken = None }

-- none of the pieces is refused, the messages are these, and the gatherer stands so then
record Gathers (g : Gathering) (pieces : List Piece) (messages : List (List ℕ)) (then : Gathering) : Type 0 where
  accepted : PiecesAreAccepted g pieces
  messages_are : messages_gathered g pieces ≡ messages
  stands : gathered_so g pieces ≡ then

gathers_more : (max expected : ℕ) (begun : List ℕ) (p : Piece) (later : List Piece) (messages : List (List ℕ)) (then : Gathering) → 0 < p.remaining
    → gather_fault max expected (length p.payload) p.remaining ≡ None → Gathers (at max (begun ++ p.payload) p.remaining) later messages then
    → Gathers (at max begun expected) (p ∷ later) messages then
gathers_more max expected begun p later messages then more fits h =
    let g = at max begun expected in
    let goes : Gathers (with_accepted g p) later messages then = subst (λ (k : Gathering). Gathers k later messages then) (sym (with_accepted-more g p more)) h in
    record {
      accepted = (fits-accepted _ fits, goes.accepted);
      messages_are = ap (λ (m : Option (List ℕ)). option_to_list m ++ messages_gathered (with_accepted g p) later) (message_of-more g p more) ∙ goes.messages_are;
      stands = goes.stands;
    }

gathers_last : (max expected : ℕ) (begun : List ℕ) (p : Piece) (later : List Piece) (messages : List (List ℕ)) (then : Gathering) → p.remaining ≡ 0
    → gather_fault max expected (length p.payload) p.remaining ≡ None → Gathers (opened max) later messages then
    → Gathers (at max begun expected) (p ∷ later) ((begun ++ p.payload) ∷ messages) then
gathers_last max expected begun p later messages then last fits h =
    let g = at max begun expected in
    let goes : Gathers (with_accepted g p) later messages then = subst (λ (k : Gathering). Gathers k later messages then) (sym (with_accepted-last g p last)) h in
    record {
      accepted = (fits-accepted _ fits, goes.accepted);
      messages_are = ap (λ (m : Option (List ℕ)). option_to_list m ++ messages_gathered (with_accepted g p) later) (message_of-last g p last)
          ∙ ap (λ (ms : List (List ℕ)). (begun ++ p.payload) ∷ ms) goes.messages_are;
      stands = goes.stands;
    }

-- the run is the whole of a message that is not too long, or just what is expected
abbrev Awaited : ℕ → ℕ → List Piece → Type 0
Awaited max expected run = ((expected ≡ 0) × (length (joined run) ≤ max)) ⊎ ((0 < expected) × (expected ≡ length (joined run)))

awaited-fits : (max expected : ℕ) (p : Piece) (later : List Piece) → IsUnbroken 0 (p ∷ later) → Awaited max expected (p ∷ later) → gather_fault max expected (length p.payload) p.remaining ≡ None
awaited-fits max expected p later r (inl first) =
    let long : length (joined (p ∷ later)) ≡ length p.payload + length (joined later) = length-append p.payload (joined later) in
    rw first.0 (first_fits max (length p.payload) p.remaining (omega (arith, r.0, first.1)))
awaited-fits max expected p later r (inr begun) =
    let long : length (joined (p ∷ later)) ≡ length p.payload + length (joined later) = length-append p.payload (joined later) in
    begun_fits max expected (length p.payload) p.remaining begun.0 (omega (arith, r.0, begun.1))

gathers_run : (max expected : ℕ) (begun : List ℕ) (run later : List Piece) (messages : List (List ℕ)) (then : Gathering) → IsWhole run → AreFilled run → Awaited max expected run
    → Gathers (opened max) later messages then → Gathers (at max begun expected) (run ++ later) ((begun ++ joined run) ∷ messages) then
gathers_run max expected begun [] later messages then w filled awaited h = absurd (omega (arith, w.some))
gathers_run max expected begun (p ∷ []) later messages then w filled awaited h =
    rw (append-nil p.payload) (gathers_last max expected begun p later messages then (omega (arith, w.unbroken.0)) (awaited-fits max expected p [] w.unbroken awaited) h)
gathers_run max expected begun (p ∷ q ∷ run) later messages then w filled awaited h =
    let long : length (joined (q ∷ run)) ≡ length q.payload + length (joined run) = length-append q.payload (joined run) in
    let more : 0 < p.remaining = omega (arith, w.unbroken.0, filled.1.0) in
    let here : Gathers (at max (begun ++ p.payload) p.remaining) ((q ∷ run) ++ later) (((begun ++ p.payload) ++ joined (q ∷ run)) ∷ messages) then =
    gathers_run max p.remaining (begun ++ p.payload) (q ∷ run) later messages then (record { some = omega arith; unbroken = w.unbroken.1 }) filled.1
    (inr (more, omega (arith, w.unbroken.0))) h in
    gathers_more max expected begun p ((q ∷ run) ++ later) ((begun ++ joined (p ∷ q ∷ run)) ∷ messages) then more (awaited-fits max expected p (q ∷ run) w.unbroken awaited)
    (rw (append_assoc begun p.payload (joined (q ∷ run))) at here)

filled_front : (front back : List Piece) → AreFilled (front ++ back) → AreFilled front
filled_front [] back f = tt
filled_front (p ∷ front) back f = (f.0, filled_front front back f.1)

filled_back : (front back : List Piece) → AreFilled (front ++ back) → AreFilled back
filled_back [] back f = f
filled_back (p ∷ front) back f = filled_back front back f.1

abbrev pieces_in : List (List Piece) → List Piece
pieces_in runs = flat_map (λ (run : List Piece). run) runs

gathers_runs : (max : ℕ) (runs : List (List Piece)) → AreWhole runs → AreFilled (pieces_in runs) → All (λ (message : List ℕ). length message ≤ max) (map joined runs)
    → Gathers (opened max) (pieces_in runs) (map joined runs) (opened max)
gathers_runs max [] whole filled short = record { accepted = tt; messages_are = refl; stands = refl }
gathers_runs max (run ∷ runs) whole filled short =
    gathers_run max 0 [] run (pieces_in runs) (map joined runs) (opened max) whole.0 (filled_front run (pieces_in runs) filled) (inl (refl, All-head IsShort (joined run) (map joined runs) short))
    (gathers_runs max runs whole.1 (filled_back run (pieces_in runs) filled) (All-tail IsShort (joined run) (map joined runs) short)) where
      IsShort : List ℕ → Type 0
      IsShort message = length message ≤ max

-- pieces that split into messages which are not too long, with no rest
pub gathers_split : (max : ℕ) (pieces : List Piece) (messages : List (List ℕ)) → AreFilled pieces → SplitsInto pieces messages [] 0
    → All (λ (message : List ℕ). length message ≤ max) messages
    → PiecesAreAccepted (opened max) pieces × (messages_gathered (opened max) pieces ≡ messages) × (gathered_so (opened max) pieces ≡ opened max)
gathers_split max pieces messages filled s short =
    let all : pieces ≡ pieces_in s.runs = s.all ∙ append-nil (pieces_in s.runs) in
    let h = gathers_runs max s.runs s.whole (rw all at filled) (rw s.each at short) in
    rw (all, s.each) (h.accepted, h.messages_are, h.stands)
