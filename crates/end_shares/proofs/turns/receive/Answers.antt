use Rattle.link_ends.specs.Ends.{view_of}
use Rattle.end_shares.proofs.Accepting.{ready_at}
use Rattle.end_shares.proofs.Turning.{received_acted, received_most, received_sent, received_turn, received_one, received_none}
use Rattle.end_shares.proofs.turns.receive.Goals as goal

pub take-requires-clause-ready : goal.take-requires-clause-ready
take-requires-clause-ready g c = ready_at c.args.end.now c.requires.uncut c.requires.idle

pub returns-clause-acted : goal.returns-clause-acted
returns-clause-acted g c = received_acted c.take.result (view_of c.args.end.now) (view_of c.take.new.self) c.take.ensures.received c.take.ensures.lost

pub returns-clause-most : goal.returns-clause-most
returns-clause-most g c = received_most c.take.result (view_of c.args.end.now) (view_of c.take.new.self) c.take.ensures.received c.take.ensures.lost

pub returns-clause-sent : goal.returns-clause-sent
returns-clause-sent g c = received_sent c.take.result (view_of c.args.end.now) (view_of c.take.new.self) c.take.ensures.received c.take.ensures.lost

pub returns-clause-heard : goal.returns-clause-heard
returns-clause-heard g c = λ side is. received_turn side c.take.result (view_of c.args.end.now) (view_of c.take.new.self) c.take.ensures.received is

pub returns-clause-one : goal.returns-clause-one
returns-clause-one g c = received_one c.take.result (view_of c.args.end.now) (view_of c.take.new.self) c.take.ensures.received

pub returns-clause-none : goal.returns-clause-none
returns-clause-none g c = received_none c.take.result (view_of c.args.end.now) (view_of c.take.new.self) c.take.ensures.received
