-- Unbroken runs of pieces, and one piece more.
use Rattle.std.proofs.Common.{◌≡◌, ℕ, ◌+◌, ◌<◌, List, [], ◌∷◌, ◌++◌, length, ap, ◌∙◌, append-nil, arith}
use Rattle.std.specs.List.{flat_map}
use Rattle.std.proofs.lemmas.List.{length-append}
use Rattle.std.proofs.lemmas.List.Concat.{flat_map-append}
use Rattle.smbd_base.specs.Pieces.{Piece, joined, IsUnbroken, IsWhole, AreWhole, IsRest}

-- the pieces of runs, one after another
abbrev pub pieces_in : List (List Piece) → List Piece
pieces_in runs = flat_map (λ (run : List Piece). run) runs

pub joined-more : (run : List Piece) (p : Piece) → joined (run ++ p ∷ []) ≡ joined run ++ p.payload
joined-more run p =
    flat_map-append (λ (q : Piece). q.payload) run (p ∷ []) ∙ ap (λ (bytes : List ℕ). joined run ++ bytes) (append-nil p.payload)

pub run_more : (expected : ℕ) (run : List Piece) (p : Piece) → IsUnbroken expected run → expected ≡ length p.payload + p.remaining → IsUnbroken p.remaining (run ++ p ∷ [])
run_more expected [] p r is = (omega arith, tt)
run_more expected (q ∷ later) p r is =
    let long : length (joined (later ++ p ∷ [])) ≡ length (joined later) + length p.payload = rw (joined-more later p) (length-append (joined later) p.payload) in
    (omega (arith, r.0), run_more expected later p r.1 is)

pub rest_more : (rest : List Piece) (p : Piece) → IsUnbroken p.remaining (rest ++ p ∷ []) → 0 < p.remaining → IsRest p.remaining (rest ++ p ∷ [])
rest_more [] p r more = (more, r)
rest_more (q ∷ later) p r more = (more, r)

pub whole_more : (runs : List (List Piece)) (run : List Piece) → AreWhole runs → IsWhole run → AreWhole (runs ++ run ∷ [])
whole_more [] run w here = (here, tt)
whole_more (first ∷ runs) run w here = (w.0, whole_more runs run w.1 here)
