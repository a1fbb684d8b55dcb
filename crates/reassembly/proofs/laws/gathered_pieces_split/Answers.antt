use Rattle.reassembly.proofs.Splits.{gathers}
use Rattle.reassembly.proofs.laws.gathered_pieces_split.Goals as goal

-- src/laws.rt:8:1
pub returns : goal.returns
returns c = λ max pieces filled accepted. gathers max pieces accepted
