-- How the link of a copy stands, and what was asked for.
use Rattle.std.proofs.Common.{◌≡◌, inl, inr, ℕ, true, false, Option, None, Some, List, ap, subst}
use Rattle.smbd_base.specs.declared.event.Event.{Event}
use Rattle.smbd_base.specs.History.{is_cut}
use Rattle.world_core.specs.Run.{State}
use Rattle.copy_ends.specs.Turns.{IsUp}
use Rattle.copy_parts.specs.Cuts.{EmitsFewer, IsCutInPlace, HasCut, IsLinked}
use Rattle.copy_parts.specs.declared.options.CopyOptions.{CopyOptions}
use Rattle.end_workers.specs.Promise.{AreCutAsAsked}

is-cut : (o : CopyOptions) (w : State) → HasCut o w → is_cut w.client ≡ true
is-cut o w h = ap (λ (past : List Event). is_cut past) h.place.is

-- where the client has not cut the link, nothing is cut
pub up-of : (o : CopyOptions) (w : State) → IsLinked o w → is_cut w.client ≡ false → IsUp w
up-of o w (inl up) uncut = up
up-of o w (inr h) uncut = absurd (let here = is-cut o w h in let b : ⊥ = cc in b)

pub cut-of : (o : CopyOptions) (w : State) → IsLinked o w → is_cut w.client ≡ true → HasCut o w
cut-of o w (inl up) here = absurd (let uncut = up.client.uncut in let b : ⊥ = cc in b)
cut-of o w (inr h) here = h

pub as-asked : (cut : Option ℕ) (o : CopyOptions) (w : State) → o.cut ≡ cut → IsLinked o w → EmitsFewer cut w.client → AreCutAsAsked cut o.limits w.client w.server
as-asked None o w is (inl up) few = (up.client.uncut, up.server.uncut)
as-asked None o w is (inr h) few = absurd (let asked = h.asked in let b : ⊥ = cc in b)
as-asked (Some number) o w is (inl up) few = record {
  few = few;
  place = λ here. absurd (let uncut = up.client.uncut in let b : ⊥ = cc in b);
  follows = λ here. absurd (let uncut = up.server.uncut in let b : ⊥ = cc in b);
}
as-asked (Some number) o w is (inr h) few =
    let asked = h.asked in
    let same : h.number ≡ number = cc in
    record {
      few = few;
      place = λ here. subst (λ (n : ℕ). IsCutInPlace o.limits n w.client) same h.place;
      follows = λ here. is-cut o w h;
    }
