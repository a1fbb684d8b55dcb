use Rattle.std.proofs.Common.{subst, sym, ℕ}
use Rattle.event_log.specs.declared.side.Side.{Side}
use Rattle.event_log.specs.Lines.{logged, HasLawfulNumbers}
use Rattle.run_log.specs.RunLines.{side_of}
use Rattle.run_log.proofs.Following.{tellable_at, next_small}
use Rattle.run_log.proofs.telling.next_line.Goals as goal

pub line_of-requires : goal.line_of-requires
line_of-requires c =
    let event = c.index-history-told.result in
    let history = c.args.history.now in
    let events = c.args.told.now.events in
    subst (λ (s : Side). HasLawfulNumbers s (logged c.args.told.now.next event)) (sym c.side_of.ensures)
    (subst (λ (n : ℕ). HasLawfulNumbers (side_of c.args.end) (logged n event)) (sym c.requires.next)
    (tellable_at c.args.end history events event c.requires.more c.index-history-told.is c.requires.tellable))

pub number_after-told-requires : goal.number_after-told-requires
number_after-told-requires c = next_small c.args.history.now c.args.told.now.events c.args.told.now.next c.requires.next c.requires.few
