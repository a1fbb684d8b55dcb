use Rattle.std.proofs.Common.{◌≡◌, ◌+◌, ◌∷◌, sym, subst, ap, ◌∙◌, arith}
use Rattle.fragmenter.specs.Cut.{Cutting, pieces_left, piece_at, next_place}
use Rattle.fragmenter.proofs.FirstPiece.{pieces_left-next}
use Rattle.fragmenter.proofs.cutter.Cutter.next.Goals as goal

-- src/cutter.rt:45:5
pub returns-clause-gives : goal.returns-clause-gives
returns-clause-gives c =
    let place = c.in_ok-piece.piece in
    let cutting : Cutting = record { message = c.self.inside.message; size = c.self.inside.payload; given = c.self.inside.given } in
    let next = ap next_place c.self.view_is ∙ sym c.peek.ensures ∙ c.in_ok-piece.was in
    subst (λ (old : Cutting). pieces_left old ≡ piece_at old.message place ∷ pieces_left (record cutting { given = cutting.given + place.length })) c.self.view_is
    (pieces_left-next cutting place (omega arith) next)
