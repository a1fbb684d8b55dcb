use Rattle.smbd_laws.proofs.Splitting.{one_way}
use Rattle.smbd_laws.proofs.pieces.pieces_split_one_way.Goals as goal

pub returns : goal.returns
returns c = one_way
