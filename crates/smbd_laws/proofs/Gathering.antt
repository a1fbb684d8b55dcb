-- What is gathered from the pieces that were taken is what they split into.
use Rattle.std.proofs.Common.{◌≡◌, ℕ, ◌+◌, ◌<◌, ◌==◌, Bool, true, false, cond, List, [], ◌∷◌, ◌++◌, length, Option, Some, None, refl, ap, subst, sym, ◌∙◌, append-nil, append_assoc, arith}
use Rattle.std.proofs.lemmas.Bool.Decides.{nat_tests}
use Rattle.std.proofs.lemmas.List.{length-append, map-append}
use Rattle.std.proofs.lemmas.List.Concat.{flat_map-append}
use Rattle.smbd_base.specs.declared.end_id.EndId.{EndId}
use Rattle.smbd_base.specs.declared.event.Event.{Event}
use Rattle.smbd_base.specs.declared.event.Event.TheVariants.{Post, Submit, Emit, Take, Cut}
use Rattle.smbd_base.specs.Limits.{Limits}
use Rattle.smbd_base.specs.Pieces.{Piece, Gathered, with_piece, gather_fault, joined, IsUnbroken, IsWhole, AreWhole, IsRest, AreFilled, SplitsInto}
use Rattle.smbd_base.specs.Delivery.{Delivers, and_piece, gather, gathered, messages_delivered, pieces_taken, piece_brought}
use Rattle.smbd_base.proofs.RunLemmas.{pieces_in, joined-more, run_more, rest_more, whole_more}
use Rattle.smbd_base.specs.History.{bytes_expected}
use Rattle.smbd_laws.proofs.Refusing.{IsTakeableIn, brought-takeable, expected_behind, expected-take}
use Rattle.smbd_laws.proofs.Fitting.{fits_begun}

-- ---- a run, and one piece more

-- the piece is the next one of the message that is begun, or the first one of a message
abbrev pub Continues : List Piece → ℕ → Piece → Type 0
Continues [] expected p = Unit {0}
Continues (q ∷ later) expected p = expected ≡ length p.payload + p.remaining

begun_more : (expected : ℕ) (rest : List Piece) (p : Piece) → IsRest expected rest → Continues rest expected p → IsUnbroken p.remaining (rest ++ p ∷ [])
begun_more expected [] p r next = (omega arith, tt)
begun_more expected (q ∷ later) p r next = run_more expected (q ∷ later) p r.1 next

filled_more : (pieces : List Piece) (p : Piece) → AreFilled pieces → 0 < length p.payload → AreFilled (pieces ++ p ∷ [])
filled_more [] p f here = (here, tt)
filled_more (q ∷ pieces) p f here = (f.0, filled_more pieces p f.1 here)

-- ---- what is gathered, and one piece more

-- the pieces split into the gathered messages, and the rest that is begun
pub record IsGathered (pieces : List Piece) (g : Gathered) (rest : List Piece) (expected : ℕ) : Type 0 where
  pub splits : SplitsInto pieces g.messages rest expected
  pub begun : joined rest ≡ g.begun

-- the rest, with one piece more
abbrev pub rest_after : List Piece → Piece → List Piece
rest_after rest p = cond (p.remaining == 0) [] (rest ++ p ∷ [])

pub gathered_more : (pieces : List Piece) (g : Gathered) (rest : List Piece) (expected : ℕ) (p : Piece) → IsGathered pieces g rest expected → Continues rest expected p
    → IsGathered (pieces ++ p ∷ []) (with_piece g p) (rest_after rest p) p.remaining
gathered_more pieces g rest expected p h next = by_end (p.remaining == 0) refl where
  run : IsUnbroken p.remaining (rest ++ p ∷ [])
  run = begun_more expected rest p h.splits.last next

  bytes : joined (rest ++ p ∷ []) ≡ g.begun ++ p.payload
  bytes = joined-more rest p ∙ ap (λ (xs : List ℕ). xs ++ p.payload) h.begun

  all : pieces ++ p ∷ [] ≡ pieces_in h.splits.runs ++ (rest ++ p ∷ [])
  all = ap (λ (ps : List Piece). ps ++ p ∷ []) h.splits.all ∙ append_assoc (pieces_in h.splits.runs) rest (p ∷ [])

  one_run_more : pieces_in (h.splits.runs ++ (rest ++ p ∷ []) ∷ []) ++ [] ≡ pieces_in h.splits.runs ++ (rest ++ p ∷ [])
  one_run_more =
      append-nil _ ∙ flat_map-append (λ (r : List Piece). r) h.splits.runs ((rest ++ p ∷ []) ∷ [])
      ∙ ap (λ (ps : List Piece). pieces_in h.splits.runs ++ ps) (append-nil (rest ++ p ∷ []))

  by_end : (ends : Bool) → (p.remaining == 0) ≡ ends
      → IsGathered (pieces ++ p ∷ []) (cond {A = Gathered} ends (record { messages = g.messages ++ (g.begun ++ p.payload) ∷ []; begun = [] }) (record { messages = g.messages; begun = g.begun ++ p.payload }))
      (cond ends [] (rest ++ p ∷ [])) p.remaining
  by_end true is =
      let none : p.remaining ≡ 0 = grind (arith, nat_tests) in
      record {
        splits = record {
          runs = h.splits.runs ++ (rest ++ p ∷ []) ∷ [];
          whole = whole_more h.splits.runs (rest ++ p ∷ []) h.splits.whole (record { some = omega (arith, length-append rest (p ∷ [])); unbroken = subst (λ (n : ℕ). IsUnbroken n (rest ++ p ∷ [])) none run });
          all = all ∙ sym one_run_more;
          each = ap (λ (m : List ℕ). g.messages ++ m ∷ []) (sym bytes) ∙ ap (λ (ms : List (List ℕ)). ms ++ joined (rest ++ p ∷ []) ∷ []) h.splits.each
              ∙ sym (map-append joined h.splits.runs ((rest ++ p ∷ []) ∷ []));
          last = none;
        };
        begun = refl;
      }
  by_end false is = record {
    splits = record {
      runs = h.splits.runs;
      whole = h.splits.whole;
      all = all;
      each = h.splits.each;
      last = rest_more rest p run (grind (arith, nat_tests));
    };
    begun = bytes;
  }

-- ---- of a past

-- the pieces, none of them empty, split into the gathered messages, and a rest that expects so many bytes
pub record Gathers (pieces : List Piece) (g : Gathered) (expected : ℕ) : Type 0 where
  pub rest : List Piece
  pub is : IsGathered pieces g rest expected
  pub filled : AreFilled pieces

-- a piece that fits continues
continues : (max expected : ℕ) (rest : List Piece) (p : Piece) → IsRest expected rest → gather_fault max expected (length p.payload) p.remaining ≡ None → Continues rest expected p
continues max expected [] p r fits = tt
continues max expected (q ∷ later) p r fits = fits_begun max expected (length p.payload) p.remaining r.0 fits

gathers_more : (max expected : ℕ) (pieces : List Piece) (g : Gathered) (o : Option Piece) → Gathers pieces g expected → IsTakeableIn max expected o
    → Gathers (and_piece pieces o) (gather g o) (expected_behind expected o)
gathers_more max expected pieces g None h t = h
gathers_more max expected pieces g (Some p) h t = record {
  rest = rest_after h.rest p;
  is = gathered_more pieces g h.rest expected p h.is (continues max expected h.rest p h.is.splits.last t.fits);
  filled = filled_more pieces p h.filled t.filled;
}

-- the rest expects the bytes that are still to come
pub gathers : (side : EndId) (limits : Limits) (past : List Event) → Gathers (pieces_taken side limits past) (gathered side limits past) (bytes_expected side limits past)
gathers side limits [] = record {
  rest = [];
  is = record { splits = record { runs = []; whole = tt; all = refl; each = refl; last = refl }; begun = refl };
  filled = tt;
}
gathers side limits (Post n ∷ past) = gathers side limits past
gathers side limits (Submit m ∷ past) = gathers side limits past
gathers side limits (Emit f ∷ past) = gathers side limits past
gathers side limits (Take f ∷ past) =
    subst (λ (n : ℕ). Gathers (pieces_taken side limits (Take f ∷ past)) (gathered side limits (Take f ∷ past)) n) (sym (expected-take side limits past f))
    (gathers_more limits.fragmented_size (bytes_expected side limits past) (pieces_taken side limits past) (gathered side limits past) (piece_brought side limits past f)
    (gathers side limits past) (brought-takeable side limits past f))
gathers side limits (Cut ∷ past) = gathers side limits past

-- the pieces that were taken split into the delivered messages
pub delivers : (side : EndId) (limits : Limits) (past : List Event) → Delivers side limits past (messages_delivered side limits past)
delivers side limits past = let h = gathers side limits past in (h.rest, h.is.splits)

-- no piece that was taken is empty
pub taken-filled : (side : EndId) (limits : Limits) (past : List Event) → AreFilled (pieces_taken side limits past)
taken-filled side limits past = (gathers side limits past).filled
