-- What is gathered of pieces that are not refused is what they split into.
use Rattle.std.proofs.Common.{◌≡◌, ◌⊎◌, inl, inr, ℕ, ◌+◌, ◌<◌, ◌≤◌, List, [], ◌∷◌, ◌++◌, length, None, Option, option_to_list, refl, ap, subst, sym, ◌∙◌, append-nil, append_assoc, arith}
use Rattle.std.proofs.lemmas.Bool.{cases_lt}
use Rattle.std.proofs.lemmas.List.{length-append, map-append}
use Rattle.std.proofs.lemmas.List.Concat.{flat_map-append}
use Rattle.smbd_base.specs.Pieces.{Piece, joined, IsUnbroken, IsRest, SplitsInto}
use Rattle.smbd_base.proofs.RunLemmas.{pieces_in, joined-more, run_more, rest_more, whole_more}
use Rattle.reassembly.specs.Gathering.{Gathering, GathersWhatSplits, PiecesAreAccepted, opened, messages_gathered, gathered_so, piece_fault, message_of, with_accepted}
use Rattle.reassembly.proofs.Accepted.{fits_begun, accepted-fits, message_of-more, message_of-last, with_accepted-more, with_accepted-last}

-- ---- a run, and one piece more

-- a piece that fits goes on with the rest
rest-run : (max expected : ℕ) (rest : List Piece) (p : Piece) → IsRest expected rest → (0 < expected → expected ≡ length p.payload + p.remaining) → IsUnbroken p.remaining (rest ++ p ∷ [])
rest-run max expected [] p r fits = (omega arith, tt)
rest-run max expected (q ∷ later) p r fits = run_more expected (q ∷ later) p r.1 (fits r.0)

-- ---- one piece after another

-- the pieces split into these messages, and a rest that is what the gatherer has begun
record IsGathered (pieces : List Piece) (messages : List (List ℕ)) (g : Gathering) : Type 0 where
  rest : List Piece
  splits : SplitsInto pieces messages rest g.expected
  begun : g.begun ≡ joined rest

gathered_more : (pieces : List Piece) (messages : List (List ℕ)) (g : Gathering) (p : Piece) → IsGathered pieces messages g → piece_fault g p ≡ None
    → IsGathered (pieces ++ p ∷ []) (messages ++ option_to_list (message_of g p)) (with_accepted g p)
gathered_more pieces messages g p h fits = by_end (cases_lt 0 p.remaining) where
  run : IsUnbroken p.remaining (h.rest ++ p ∷ [])
  run = rest-run g.max g.expected h.rest p h.splits.last (fits_begun g.max g.expected (length p.payload) p.remaining (accepted-fits g p fits))

  bytes : g.begun ++ p.payload ≡ joined (h.rest ++ p ∷ [])
  bytes = ap (λ (xs : List ℕ). xs ++ p.payload) h.begun ∙ sym (joined-more h.rest p)

  all : pieces ++ p ∷ [] ≡ pieces_in h.splits.runs ++ (h.rest ++ p ∷ [])
  all = ap (λ (ps : List Piece). ps ++ p ∷ []) h.splits.all ∙ append_assoc (pieces_in h.splits.runs) h.rest (p ∷ [])

  one_run_more : pieces_in (h.splits.runs ++ (h.rest ++ p ∷ []) ∷ []) ++ [] ≡ pieces_in h.splits.runs ++ (h.rest ++ p ∷ [])
  one_run_more =
      append-nil _ ∙ flat_map-append (λ (r : List Piece). r) h.splits.runs ((h.rest ++ p ∷ []) ∷ [])
      ∙ ap (λ (ps : List Piece). pieces_in h.splits.runs ++ ps) (append-nil (h.rest ++ p ∷ []))

  by_end : (0 < p.remaining) ⊎ (p.remaining ≤ 0) → IsGathered (pieces ++ p ∷ []) (messages ++ option_to_list (message_of g p)) (with_accepted g p)
  by_end (inl more) =
      let here : IsGathered (pieces ++ p ∷ []) (messages ++ []) (record { max = g.max; begun = g.begun ++ p.payload; expected = p.remaining; broken = g.broken }) = record {
        rest = h.rest ++ p ∷ [];
        splits = record { runs = h.splits.runs; whole = h.splits.whole; all = all; each = append-nil messages ∙ h.splits.each; last = rest_more h.rest p run more };
        begun = bytes;
      } in
      subst (λ (m : Option (List ℕ)). IsGathered (pieces ++ p ∷ []) (messages ++ option_to_list m) (with_accepted g p)) (sym (message_of-more g p more))
      (subst (λ (k : Gathering). IsGathered (pieces ++ p ∷ []) (messages ++ []) k) (sym (with_accepted-more g p more)) here)
  by_end (inr none) =
      let last : p.remaining ≡ 0 = omega arith in
      let here : IsGathered (pieces ++ p ∷ []) (messages ++ (g.begun ++ p.payload) ∷ []) (record { max = g.max; begun = []; expected = 0; broken = g.broken }) = record {
        rest = [];
        splits = record {
          runs = h.splits.runs ++ (h.rest ++ p ∷ []) ∷ [];
          whole = whole_more h.splits.runs (h.rest ++ p ∷ []) h.splits.whole (record { some = omega (arith, length-append h.rest (p ∷ [])); unbroken = subst (λ (n : ℕ). IsUnbroken n (h.rest ++ p ∷ [])) last run });
          all = all ∙ sym one_run_more;
          each = ap (λ (m : List ℕ). messages ++ m ∷ []) bytes ∙ ap (λ (ms : List (List ℕ)). ms ++ joined (h.rest ++ p ∷ []) ∷ []) h.splits.each
              ∙ sym (map-append joined h.splits.runs ((h.rest ++ p ∷ []) ∷ []));
          last = refl;
        };
        begun = refl;
      } in
      subst (λ (m : Option (List ℕ)). IsGathered (pieces ++ p ∷ []) (messages ++ option_to_list m) (with_accepted g p)) (sym (message_of-last g p last))
      (subst (λ (k : Gathering). IsGathered (pieces ++ p ∷ []) (messages ++ (g.begun ++ p.payload) ∷ []) k) (sym (with_accepted-last g p last)) here)

gathered_all : (taken later : List Piece) (messages : List (List ℕ)) (g : Gathering) → IsGathered taken messages g → PiecesAreAccepted g later
    → IsGathered (taken ++ later) (messages ++ messages_gathered g later) (gathered_so g later)
gathered_all taken [] messages g h fits =
    rw (append-nil taken, append-nil messages) h
gathered_all taken (p ∷ later) messages g h fits =
    let here = gathered_all (taken ++ p ∷ []) later (messages ++ option_to_list (message_of g p)) (with_accepted g p) (gathered_more taken messages g p h fits.0) fits.1 in
    rw (append_assoc taken (p ∷ []) later, append_assoc messages (option_to_list (message_of g p)) (messages_gathered (with_accepted g p) later)) at here

-- what a new gatherer gathers of pieces that it does not refuse
pub gathers : (max : ℕ) (pieces : List Piece) → PiecesAreAccepted (opened max) pieces → GathersWhatSplits max pieces
gathers max pieces fits =
    let none : IsGathered [] [] (opened max) = record { rest = []; splits = record { runs = []; whole = tt; all = refl; each = refl; last = refl }; begun = refl } in
    let h = gathered_all [] pieces [] (opened max) none fits in
    record { rest = h.rest; splits = h.splits; begun = h.begun }
