-- How a list of pieces splits into messages.
use Rattle.std.proofs.Common.{◌≡◌, ℕ, ◌+◌, ◌<◌, List, [], ◌∷◌, ◌++◌, length, map, refl, ap, sym, ◌∙◌, append_assoc, arith}
use Rattle.std.specs.List.{flat_map}
use Rattle.std.proofs.lemmas.List.{length-append, map-append}
use mathlib.Core.List.{IsPrefix}
use Rattle.smbd_base.specs.Pieces.{Piece, joined, IsUnbroken, IsWhole, AreWhole, IsRest, AreFilled, SplitsInto}
use Rattle.smbd_base.proofs.RunLemmas.{pieces_in}

-- what is left of a run, where it is not empty
whole_tail : (p q : Piece) (later : List Piece) → IsWhole (p ∷ q ∷ later) → IsWhole (q ∷ later)
whole_tail p q later w = record { some = omega arith; unbroken = w.unbroken.1 }

-- the last piece of a run is not followed by a filled one
not_last : (p q : Piece) (later : List Piece) → IsWhole (p ∷ []) → IsWhole (p ∷ q ∷ later) → 0 < length q.payload → ⊥
not_last p q later ends goes filled =
    let long : length (joined (q ∷ later)) ≡ length q.payload + length (joined later) = length-append q.payload (joined later) in
    omega (arith, ends.unbroken.0, goes.unbroken.0)

record SameFront (a b c d : List Piece) : Type 0 where
  front : a ≡ c
  back : b ≡ d

-- two runs at the front of the same pieces are the same
same_run : (run after other behind : List Piece) → IsWhole run → IsWhole other → AreFilled (run ++ after) → AreFilled (other ++ behind)
    → run ++ after ≡ other ++ behind → SameFront run after other behind
same_run [] after other behind w v filled full e = absurd (omega (arith, w.some))
same_run (p ∷ []) after [] behind w v filled full e = absurd (omega (arith, v.some))
same_run (p ∷ q ∷ run) after [] behind w v filled full e = absurd (omega (arith, v.some))
same_run (p ∷ []) after (p' ∷ []) behind w v filled full e = record { front = cc; back = cc }
same_run (p ∷ []) after (p' ∷ q' ∷ other) behind w v filled full e =
    let first : p' ≡ p = cc in
    absurd (not_last p q' other w (rw first at v) full.1.0)
same_run (p ∷ q ∷ run) after (p' ∷ []) behind w v filled full e =
    let first : p' ≡ p = cc in
    absurd (not_last p q run (rw first at v) w filled.1.0)
same_run (p ∷ q ∷ run) after (p' ∷ q' ∷ other) behind w v filled full e =
    let h = same_run (q ∷ run) after (q' ∷ other) behind (whole_tail p q run w) (whole_tail p' q' other v) filled.1 full.1 cc in
    record { front = (let a = h.front in cc); back = h.back }

-- no run stands at the front of pieces after which more is expected
no_run : (expected : ℕ) (rest run after : List Piece) → 0 < expected → IsUnbroken expected rest → IsWhole run → rest ≡ run ++ after → ⊥
no_run expected rest [] after more r w e = omega (arith, w.some)
no_run expected [] (p ∷ run) after more r w e = cc
no_run expected (p' ∷ rest) (p ∷ []) after more r w e =
    let first : p' ≡ p = cc in
    omega (arith, r.0, w.unbroken.0, ap (λ (x : Piece). x.remaining) first)
no_run expected (p' ∷ rest) (p ∷ q ∷ run) after more r w e = no_run expected rest (q ∷ run) after more r.1 (whole_tail p q run w) cc

no_run_in_rest : (expected : ℕ) (rest run after : List Piece) → IsRest expected rest → IsWhole run → rest ≡ run ++ after → ⊥
no_run_in_rest expected [] [] after r w e = omega (arith, w.some)
no_run_in_rest expected [] (p ∷ run) after r w e = cc
no_run_in_rest expected (p ∷ rest) run after r w e = no_run expected (p ∷ rest) run after r.0 r.1 w e

same_expected : (rest : List Piece) (expected also : ℕ) → IsRest expected rest → IsRest also rest → expected ≡ also
same_expected [] expected also a b = cc
same_expected (p ∷ later) expected also a b = omega (arith, a.1.0, b.1.0)

-- ---- all runs

pub filled_after : (front back : List Piece) → AreFilled (front ++ back) → AreFilled back
filled_after [] back f = f
filled_after (p ∷ front) back f = filled_after front back f.1

record SameRuns (runs others : List (List Piece)) (rest other : List Piece) : Type 0 where
  runs_are : runs ≡ others
  rest_is : rest ≡ other

same_runs : (runs others : List (List Piece)) (rest other : List Piece) (expected also : ℕ) → AreWhole runs → AreWhole others → IsRest expected rest → IsRest also other
    → AreFilled (pieces_in runs ++ rest) → AreFilled (pieces_in others ++ other) → pieces_in runs ++ rest ≡ pieces_in others ++ other → SameRuns runs others rest other
same_runs [] [] rest other expected also w v r s filled full e = record { runs_are = refl; rest_is = e }
same_runs [] (run ∷ others) rest other expected also w v r s filled full e =
    absurd (no_run_in_rest expected rest run (pieces_in others ++ other) r v.0 (e ∙ append_assoc run (pieces_in others) other))
same_runs (run ∷ runs) [] rest other expected also w v r s filled full e =
    absurd (no_run_in_rest also other run (pieces_in runs ++ rest) s w.0 (sym e ∙ append_assoc run (pieces_in runs) rest))
same_runs (run ∷ runs) (run' ∷ others) rest other expected also w v r s filled full e =
    let here : AreFilled (run ++ (pieces_in runs ++ rest)) = rw (append_assoc run (pieces_in runs) rest) at filled in
    let there : AreFilled (run' ++ (pieces_in others ++ other)) = rw (append_assoc run' (pieces_in others) other) at full in
    let h = same_run run (pieces_in runs ++ rest) run' (pieces_in others ++ other) w.0 v.0 here there
    (sym (append_assoc run (pieces_in runs) rest) ∙ e ∙ append_assoc run' (pieces_in others) other) in
    let k = same_runs runs others rest other expected also w.1 v.1 r s
    (filled_after run (pieces_in runs ++ rest) here) (filled_after run' (pieces_in others ++ other) there) h.back in
    record { runs_are = (let a = h.front in let b = k.runs_are in cc); rest_is = k.rest_is }

-- pieces split into messages in at most one way
pub one_way : (pieces : List Piece) (messages others : List (List ℕ)) (rest other : List Piece) (expected also : ℕ) → AreFilled pieces
    → SplitsInto pieces messages rest expected → SplitsInto pieces others other also
    → (messages ≡ others) × (rest ≡ other) × (expected ≡ also)
one_way pieces messages others rest other expected also filled s t =
    let h = same_runs s.runs t.runs rest other expected also s.whole t.whole s.last t.last (rw s.all at filled) (rw t.all at filled) (sym s.all ∙ t.all) in
    (s.each ∙ ap (λ (runs : List (List Piece)). map joined runs) h.runs_are ∙ sym t.each, h.rest_is, same_expected rest expected also s.last (rw (sym h.rest_is) at t.last))

-- ---- the first pieces

-- the runs at the front of pieces are the first of their runs
pub front_runs : (runs others : List (List Piece)) (tail other : List Piece) (also : ℕ) → AreWhole runs → AreWhole others → IsRest also other
    → AreFilled (pieces_in runs ++ tail) → AreFilled (pieces_in others ++ other) → pieces_in runs ++ tail ≡ pieces_in others ++ other → IsPrefix runs others
front_runs [] others tail other also w v s filled full e = (others, refl)
front_runs (run ∷ runs) [] tail other also w v s filled full e =
    absurd (no_run_in_rest also other run (pieces_in runs ++ tail) s w.0 (sym e ∙ append_assoc run (pieces_in runs) tail))
front_runs (run ∷ runs) (run' ∷ others) tail other also w v s filled full e =
    let here : AreFilled (run ++ (pieces_in runs ++ tail)) = rw (append_assoc run (pieces_in runs) tail) at filled in
    let there : AreFilled (run' ++ (pieces_in others ++ other)) = rw (append_assoc run' (pieces_in others) other) at full in
    let h = same_run run (pieces_in runs ++ tail) run' (pieces_in others ++ other) w.0 v.0 here there
    (sym (append_assoc run (pieces_in runs) tail) ∙ e ∙ append_assoc run' (pieces_in others) other) in
    let k = front_runs runs others tail other also w.1 v.1 s
    (filled_after run (pieces_in runs ++ tail) here) (filled_after run' (pieces_in others ++ other) there) h.back in
    (k.0, (let a = h.front in let b = k.1 in cc))

-- the first of some pieces split into the first of their messages
pub split_front : (front more pieces : List Piece) (messages all : List (List ℕ)) (rest other : List Piece) (expected also : ℕ) → AreFilled pieces
    → SplitsInto front messages rest expected → SplitsInto pieces all other also → front ++ more ≡ pieces → IsPrefix messages all
split_front front more pieces messages all rest other expected also filled s t e =
    let here : pieces_in s.runs ++ (rest ++ more) ≡ pieces = sym (append_assoc (pieces_in s.runs) rest more) ∙ ap (λ (ps : List Piece). ps ++ more) (sym s.all) ∙ e in
    let k = front_runs s.runs t.runs (rest ++ more) other also s.whole t.whole t.last (rw (sym here) at filled) (rw t.all at filled) (here ∙ t.all) in (
      map joined k.0,
      ap (λ (ms : List (List ℕ)). ms ++ map joined k.0) s.each ∙ sym (map-append joined s.runs k.0) ∙ ap (λ (runs : List (List Piece)). map joined runs) k.1 ∙ sym t.each,
    )
