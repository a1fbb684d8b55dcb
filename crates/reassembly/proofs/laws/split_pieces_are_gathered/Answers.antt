use Rattle.reassembly.proofs.Gathered.{gathers_split}
use Rattle.reassembly.proofs.laws.split_pieces_are_gathered.Goals as goal

pub returns : goal.returns
returns c = gathers_split
