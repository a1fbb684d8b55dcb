-- The client's machine of a get.
use Rattle.std.proofs.Common.{◌≡◌, Option, Some, None, List, refl, subst}
use Rattle.file_messages.specs.declared.kind.Channel.{Channel}
use Rattle.file_messages.specs.declared.kind.Channel.TheVariants as channels
use Rattle.file_pasts.specs.ClientPast.{ClientEvent}
use Rattle.file_transfer.specs.declared.get_registered.GetRounds.{GetRounds}
use Rattle.file_transfer.specs.GetClientStands.{RoundsIfAny, RoundsCame}

pub none_rounds : (channel : Channel) (past : List ClientEvent) (rounds : Option GetRounds) → RoundsIfAny channel past rounds → ((r : GetRounds) → rounds ≡ Some r → ⊥) → channel ≡ channels.None
none_rounds channel past None came not_some = came
none_rounds channel past (Some r) came not_some = absurd (not_some r refl)

pub as_rounds : (channel : Channel) (past : List ClientEvent) (rounds : Option GetRounds) (r : GetRounds) → RoundsIfAny channel past rounds → rounds ≡ Some r → RoundsCame channel past r
as_rounds channel past rounds r came e = subst (RoundsIfAny channel past) e came

pub as_inline : (channel : Channel) (past : List ClientEvent) (rounds : Option GetRounds) → RoundsIfAny channel past rounds → rounds ≡ None → channel ≡ channels.None
as_inline channel past rounds came e = subst (RoundsIfAny channel past) e came
