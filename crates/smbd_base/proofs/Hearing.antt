-- Which ends have heard their peer.
use Rattle.std.proofs.Common.{◌≡◌, inl, inr, ℕ, Bool, true, false, cond, List, [], ◌∷◌, refl}
use Rattle.smbd_base.specs.declared.end_id.EndId.{EndId}
use Rattle.smbd_base.specs.declared.end_id.EndId.TheVariants.{Server}
use Rattle.smbd_base.specs.declared.event.Event.{Event}
use Rattle.smbd_base.specs.declared.event.Event.TheVariants.{Post, Submit, Emit, Take, Cut}
use Rattle.smbd_base.specs.Limits.{Limits}
use Rattle.smbd_base.specs.Counts.{is_silent, is_unheard}
use Rattle.smbd_base.specs.History.{is_welcomed, IsLegal}
use Rattle.smbd_base.proofs.Inversion.{emits, both, from_not, sending_parts}

-- an end that accepted a first frame took one
pub welcomed_heard : (side : EndId) (limits : Limits) (past : List Event) → is_welcomed side limits past ≡ true → is_unheard past ≡ false
welcomed_heard side limits [] w = absurd cc
welcomed_heard side limits (Post n ∷ past) w = welcomed_heard side limits past w
welcomed_heard side limits (Submit m ∷ past) w = welcomed_heard side limits past w
welcomed_heard side limits (Emit f ∷ past) w = welcomed_heard side limits past w
welcomed_heard side limits (Take f ∷ past) w = refl
welcomed_heard side limits (Cut ∷ past) w = welcomed_heard side limits past w

-- a server that has spoken has heard
pub spoken_heard : (limits : Limits) (past : List Event) → IsLegal Server limits past → is_silent past ≡ false → is_unheard past ≡ false
spoken_heard limits [] legal spoken = absurd cc
spoken_heard limits (Post n ∷ past) legal spoken = spoken_heard limits past legal.1 spoken
spoken_heard limits (Submit m ∷ past) legal spoken = spoken_heard limits past legal.1 spoken
spoken_heard limits (Emit f ∷ past) legal spoken =
    elim (emits Server limits past f legal.0).chosen.why as (λ _. is_unheard past ≡ false) [
      | inl first ↦ from_not (is_unheard past) (both (is_silent past) _ first.0).1
      | inr later ↦ spoken_heard limits past legal.1 (sending_parts Server limits past (emits Server limits past f legal.0).going.closed later.1).spoken
    ]
spoken_heard limits (Take f ∷ past) legal spoken = refl
spoken_heard limits (Cut ∷ past) legal spoken = spoken_heard limits past legal.1 spoken
