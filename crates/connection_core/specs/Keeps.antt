-- What an end's track keeps: each field is what its definition says of the past.
use Rattle.std.specs.Prelude.{◌≡◌, not, false}
use Rattle.smbd_base.specs.Limits.{IsLawful}
use Rattle.smbd_base.specs.Counts.{is_silent}
use Rattle.smbd_base.specs.History.{is_new, is_post_due, is_response_owed, IsLegal}
use Rattle.credit_ledger.specs.Recorded.{IsLedgerOf}
use Rattle.connection_core.specs.Peers.{Knows}
use Rattle.connection_core.specs.Standing.{standing_of}
use Rattle.connection_core.specs.declared.track.Track.TheInside.{Inside}

pub record Keeps (t : Inside) : Type 0 where
  pub lawful : IsLawful t.limits
  pub opened : is_new t.history.past ≡ false
  pub legal : IsLegal t.side t.limits t.history.past
  pub ledger : IsLedgerOf t.side t.history.past t.ledger
  pub most : t.ledger.max_receives ≡ t.limits.credits
  pub standing : t.standing ≡ standing_of t.side t.limits t.history.past
  pub silent : is_silent t.history.past ≡ not t.spoken
  pub peer : Knows t.side t.limits t.history.past t.peer
  pub post_due : t.post_due ≡ is_post_due t.history.past
  pub response_owed : t.response_owed ≡ is_response_owed t.history.past
