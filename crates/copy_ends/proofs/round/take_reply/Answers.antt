use Rattle.std.proofs.Common.{Bool, List, ℕ, Option, [], subst}
use Rattle.smbd_base.specs.declared.end_id.EndId.TheVariants as side
use Rattle.world_core.specs.Newest.{newest_brought}
use Rattle.copy_ends.specs.Turns.{HasTurned, heard_if}
use Rattle.copy_ends.proofs.Talking.{heard_one}
use Rattle.copy_ends.proofs.round.take_reply.Goals as goal

pub returns-clause-goes_on : goal.returns-clause-goes_on
returns-clause-goes_on c = λ kind channel pages past h.
    let newest : Option (List ℕ) = newest_brought side.Client c.carry.new.world.client_limits c.carry.new.world.client in
    heard_one kind channel pages past c.args.client.now c.reply.new.self c.in-Some.message.now c.args.world.now c.carry.new.world newest h c.in-Some.ensures
    (subst (λ (took : Bool). HasTurned side.Client [] (heard_if took newest) c.args.world.now c.carry.new.world) c.if-not-branch.false c.in_ok-carry.ensures.turned)
    (c.reply.ensures.after kind channel pages past h.came)
