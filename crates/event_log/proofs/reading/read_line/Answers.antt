use Rattle.std.proofs.Common.{◌≡◌, Ok, rules, arith}
use Rattle.std.proofs.lemmas.Grind.{common_steps}
use Rattle.event_log.specs.Reading.{reading_of}
use Rattle.event_log.proofs.ReadLines.{only_written}
use Rattle.event_log.proofs.reading.read_line.Goals as goal

pub returns-clause-written : goal.returns-clause-written
unfolding reading_of
returns-clause-written c =
    let reads : reading_of c.args.bytes.now ≡ Ok (c.in-Some.side, c.in_ok-line.line) = first_of (search rules, grind (arith, common_steps)) in
    let w = only_written c.args.bytes.now c.in-Some.side c.in_ok-line.line reads in
    (w.lawful, w.text)
