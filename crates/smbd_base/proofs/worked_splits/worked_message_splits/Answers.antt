use Rattle.std.proofs.Common.{◌≡◌, ℕ, ◌≤◌, List, [], ◌∷◌, ◌++◌, length, map, refl, sym, ap, ◌∙◌, subst, slice_index_or, append-nil, length-append, lit≤, arith}
use Rattle.std.specs.List.{flat_map}
use Rattle.smbd_base.specs.Pieces.{Piece, SplitsInto, IsWhole, AreWhole, joined}
use Rattle.smbd_base.specs.WorkedSplits.{piece, ab, c, abc, begun}
use Rattle.smbd_base.proofs.worked_splits.worked_message_splits.Goals as goal

pub returns-clause-split : goal.returns-clause-split
returns-clause-split x = record {
  none = record { runs = []; whole = tt; all = refl; each = refl; last = refl };
  first = record { runs = []; whole = tt; all = refl; each = refl; last = (lit≤ tt, (refl, tt)) };
  whole = record {
    runs = (piece ab 1 ∷ piece c 0 ∷ []) ∷ [];
    whole = (record { some = lit≤ tt; unbroken = (refl, (refl, tt)) }, tt);
    all = refl;
    each = refl;
    last = refl;
  };
  more = record {
    runs = (piece ab 1 ∷ piece c 0 ∷ []) ∷ (piece ab 0 ∷ []) ∷ [];
    whole = (record { some = lit≤ tt; unbroken = (refl, (refl, tt)) }, (record { some = lit≤ tt; unbroken = (refl, tt) }, tt));
    all = refl;
    each = refl;
    last = (lit≤ tt, (refl, tt));
  };
}

-- ---- what does not split

abbrev together : List (List Piece) → List Piece
together runs = flat_map (λ (run : List Piece). run) runs

-- with no message and no rest there is no piece
no-message : (runs : List (List Piece)) (p : Piece) (ps : List Piece) → p ∷ ps ≡ together runs ++ [] → [] ≡ map joined runs → ⊥
no-message [] p ps all each = cc
no-message (r ∷ rs) p ps all each = cc

-- one message is made of all pieces
one-run : (pieces : List Piece) (message : List ℕ) (runs : List (List Piece)) → AreWhole runs → pieces ≡ together runs ++ [] → message ∷ [] ≡ map joined runs
    → IsWhole pieces × (message ≡ joined pieces)
one-run pieces message [] whole all each = absurd (let b : ⊥ = cc in b)
one-run pieces message (r ∷ []) whole all each =
    let is : pieces ≡ r = all ∙ append-nil (r ++ []) ∙ append-nil r in
    let first : message ≡ joined r = cc in (
      subst IsWhole (sym is) whole.0,
      first ∙ ap joined (sym is),
    )
one-run pieces message (r ∷ s ∷ rs) whole all each = absurd (let b : ⊥ = cc in b)

abbrev first_byte : List ℕ → ℕ
first_byte bytes = slice_index_or bytes 0 0

single : (pieces : List Piece) (message : List ℕ) → SplitsInto pieces (message ∷ []) [] 0 → IsWhole pieces × (message ≡ joined pieces)
single pieces message split = one-run pieces message split.runs split.whole split.all split.each

pub returns-clause-unsplit : goal.returns-clause-unsplit
returns-clause-unsplit x = record {
  of_nothing = λ split. let h = (single [] [] split).0.some in omega arith;
  joined = λ split. let e : ◌≡◌ {A = ℕ} 0 1 = (single (piece ab 0 ∷ piece c 0 ∷ []) abc split).0.unbroken.0 in omega arith;
  too_few = λ split. let e : ◌≡◌ {A = ℕ} 2 1 = (single (piece ab 2 ∷ piece c 0 ∷ []) abc split).0.unbroken.0 in omega arith;
  not_ended = λ split. let e : ◌≡◌ {A = ℕ} 1 0 = (single begun ab split).0.unbroken.0 in omega arith;
  left_out = λ split. let e : ◌≡◌ {A = ℕ} 1 3 = ap length (single (piece ab 0 ∷ piece c 0 ∷ []) c split).1 in omega arith;
  other_bytes = λ split. let e : ◌≡◌ {A = ℕ} 1 2 = ap length (single (piece ab 0 ∷ []) c split).1 in omega arith;
  turned = λ split. turned-runs split.runs split.all split.each;
  none_expected = λ split. let h : 1 ≤ 0 = split.last.0 in omega arith;
  more_expected = λ split. let e : ◌≡◌ {A = ℕ} 1 2 = split.last.1.0 in omega arith;
  expected_of_none = λ split. let e : ◌≡◌ {A = ℕ} 1 0 = split.last in omega arith;
} where
  -- the bytes of all messages are those of all pieces, in their order
  turned-runs : (runs : List (List Piece)) → piece ab 0 ∷ piece c 0 ∷ [] ≡ together runs ++ [] → c ∷ ab ∷ [] ≡ map joined runs → ⊥
  turned-runs [] all each = cc
  turned-runs ([] ∷ rs) all each = cc
  turned-runs ((p ∷ ps) ∷ rs) all each =
      let front : p ≡ piece ab 0 = cc in
      let bytes : c ≡ p.payload ++ joined ps = cc in
      let short : ◌≡◌ {A = ℕ} 1 (length (p.payload ++ joined ps)) = ap length bytes in
      let two : length p.payload ≡ 2 = ap (λ (q : Piece). length q.payload) front in
      omega (arith, length-append p.payload (joined ps))
