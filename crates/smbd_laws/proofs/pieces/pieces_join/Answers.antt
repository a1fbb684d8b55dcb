use Rattle.smbd_laws.proofs.Joining.{joined-pieces_of, pieces_of-whole, pieces_of-filled, pieces_of-small}
use Rattle.smbd_laws.proofs.pieces.pieces_join.Goals as goal

pub returns-clause-joined : goal.returns-clause-joined
returns-clause-joined c = joined-pieces_of

pub returns-clause-whole : goal.returns-clause-whole
returns-clause-whole c = pieces_of-whole

pub returns-clause-filled : goal.returns-clause-filled
returns-clause-filled c = pieces_of-filled

pub returns-clause-small : goal.returns-clause-small
returns-clause-small c = pieces_of-small
