use Rattle.std.proofs.Common.{sym, ◌∙◌, Bool, List, ℕ, Option, [], subst}
use Rattle.smbd_base.specs.declared.end_id.EndId.TheVariants as side
use Rattle.world_core.specs.Newest.{newest_brought}
use Rattle.copy_ends.specs.Turns.{HasTurned, heard_if}
use Rattle.copy_ends.proofs.Serving.{heard_none, heard_one}
use Rattle.copy_ends.proofs.round.take_request.Goals as goal

pub returns-clause-goes_on : goal.returns-clause-goes_on
returns-clause-goes_on c = λ kind past h.
    let newest : Option (List ℕ) = newest_brought side.Server c.carry.new.world.server_limits c.carry.new.world.server in
    heard_one kind past c.args.server.now c.request.new.self c.request.result c.in-Some.message.now c.args.world.now c.carry.new.world newest h c.in-Some.ensures
    (subst (λ (took : Bool). HasTurned side.Server [] (heard_if took newest) c.args.world.now c.carry.new.world) c.if-not-branch.false c.in_ok-carry.ensures.turned)
    (c.in_ok-carry.ensures.one c.if-not-branch.false) (sym c.lacks_memory.ensures ∙ c.if-lacks_memory.false) (c.request.ensures.after kind past h.came)

pub returns-in_default-clause-goes_on : goal.returns-in_default-clause-goes_on
returns-in_default-clause-goes_on c = λ kind past h.
    let newest : Option (List ℕ) = newest_brought side.Server c.carry.new.world.server_limits c.carry.new.world.server in
    heard_none kind past c.args.server.now c.args.world.now c.carry.new.world newest h c.in_default.ensures
    (subst (λ (took : Bool). HasTurned side.Server [] (heard_if took newest) c.args.world.now c.carry.new.world) c.if-not-branch.false c.in_ok-carry.ensures.turned)
    (c.in_ok-carry.ensures.one c.if-not-branch.false)
