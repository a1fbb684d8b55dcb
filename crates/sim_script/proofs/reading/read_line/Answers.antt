use Rattle.std.proofs.Common.{◌≡◌, rules, arith}
use Rattle.std.proofs.lemmas.Grind.{common_steps}
use Rattle.sim_script.specs.Scripts.{script_line}
use Rattle.sim_script.proofs.ReadLines.{written_of}
use Rattle.sim_script.proofs.reading.read_line.Goals as goal

pub returns-clause-written : goal.returns-clause-written
unfolding script_line
returns-clause-written c =
    let reads : c.line_of_word.result ≡ script_line c.args.bytes.now = first_of (search rules, grind (arith, common_steps)) in
    written_of c.line_of_word.result c.args.bytes.now reads
