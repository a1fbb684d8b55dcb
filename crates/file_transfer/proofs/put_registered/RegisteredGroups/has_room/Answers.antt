use Rattle.std.proofs.Common.{ℕ, nat_lt, ap, ◌∙◌}
use Rattle.file_pasts.specs.ClientPast.{groups_in}
use Rattle.file_pasts.specs.PutDue.{groups_on_pages}
use Rattle.file_transfer.proofs.PutRegisteredLemmas.{room-is}
use Rattle.file_transfer.proofs.put_registered.RegisteredGroups.has_room.Goals as goal

pub returns : goal.returns
returns c = λ w past s.
    ap (λ (n : ℕ). nat_lt n c.windows.result) (c.len.ensures ∙ c.args.self.now.under_way.ok.0 ∙ room-is w past c.args.self.now s)
    ∙ ap (λ (n : ℕ). nat_lt (groups_on_pages w 1 (groups_in past) past) n) (c.windows.ensures w past s)
