use Rattle.std.proofs.Common.{◌≡◌, ℕ, Option, List, subst, arith}
use Rattle.file_pasts.specs.GetDue.{next_group}
use Rattle.file_transfer.specs.GetStands.{GroupsStand, after_receiving}
use Rattle.file_transfer.proofs.GetGroupsLemmas.{groups-received, group-is}
use Rattle.file_transfer.proofs.get_groups.GetGroups.next.Goals as goal

pub returns-clause-after : goal.returns-clause-after
returns-clause-after c = λ channel past s fine.
    let due : c.pop_front.result ≡ next_group channel past = group-is channel past c.args.self.now c.pop_front.result c.pop_front.new.self.items s fine c.pop_front.ensures.items c.pop_front.ensures.rest in
    subst (λ (o : Option (List ℕ)). GroupsStand channel (after_receiving o past) (record { came = c.pop_front.new.self; room = c.args.self.now.room })) due
    (groups-received channel past c.args.self.now _ c.pop_front.result s c.pop_front.ensures.items (λ room. record { spare = omega (arith, room.spare, c.pop_front.ensures.len, c.pop_front.ensures.capacity); room = room.room }))
