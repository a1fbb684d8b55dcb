use Rattle.connection_core.proofs.TrackLemmas.{Keeps-opened, legal_opening}
use Rattle.connection_core.proofs.track.Track.open.Goals as goal

pub invariant_of-result : goal.invariant_of-result
invariant_of-result c =
    Keeps-opened c.args.side c.args.limits c.push.new.self c.in_ok-history.history c.open-ledger.result c.credits-credits.result _
    c.credits-credits.ensures.lawful c.credits-credits.ensures.value c.in_ok-history.ensures.past c.push.ensures c.open-ledger.ensures

pub returns-in_err-history-clause-legal : goal.returns-in_err-history-clause-legal
returns-in_err-history-clause-legal c = legal_opening c.args.side c.args.limits

pub returns-clause-legal : goal.returns-clause-legal
returns-clause-legal c = legal_opening c.args.side c.args.limits
