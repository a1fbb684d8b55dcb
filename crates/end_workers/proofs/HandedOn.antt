-- A status that is handed on to the caller.
use Rattle.std.proofs.Common.{◌≡◌, Result, Ok, Err, sym, subst}
use Rattle.std.specs.Prelude.{IfErr}
use Rattle.std.specs.Result.{IsErrAnd}

pub handed-on : {T E : Type 0} → (r : Result T E) (status : E) (P : E → Type 0) → IsErrAnd r (λ s. s ≡ status) → P status → IfErr r P
handed-on (Ok t) status P e h = tt
handed-on (Err s) status P e h = subst P (sym e) h
