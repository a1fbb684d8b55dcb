-- What the meeting tells.
use Rattle.shared_pages.proofs.Sweeping.{two-met}
use Rattle.shared_pages.proofs.sweeps.meet_two.Goals as goal

pub returns : goal.returns
returns c =
    let m = c.meet.ensures in
    two-met c.args.pages.now c.args.one.now c.args.other.now c.meet.new.one c.meet.new.other m.own m.one m.other m.same m.compare m.pasts m.knows
