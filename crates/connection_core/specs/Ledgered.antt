-- What a frame does to the ledger of an end.
use Rattle.std.specs.Prelude.{ℕ, ◌==◌, Bool, ◌&&◌, if◌then◌else◌}
use Rattle.credit_ledger.specs.Credits.{Credits, with_taken, with_spent, with_request}

-- a frame that was taken: one that came out of turn changes nothing
abbrev pub credits_after_taking : Bool → ℕ → Credits → Credits
credits_after_taking turn granted c = if turn then with_taken granted c else c

-- a frame that was sent: an opening one that grants nothing spends the credit of the negotiation
abbrev pub credits_after_sending : Bool → ℕ → Credits → Credits
credits_after_sending opening granted c = if opening && granted == 0 then with_request c else with_spent granted c
