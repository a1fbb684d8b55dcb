use Rattle.std.proofs.Common.{subst}
use Rattle.std.specs.Prelude.{OnOk, IfOk, ◌≡◌, List, ℕ, Option}
use Rattle.reassembly.specs.Gathering.{Gathering}
use Rattle.connection_core.proofs.HeardLemmas.{fits_heard, added_heard, brought_heard}
use Rattle.connection_core.proofs.end.brought.Goals as goal

pub gathered-requires-clause-fits : goal.gathered-requires-clause-fits
gathered-requires-clause-fits c =
    let t = c.args.track.now in
    fits_heard t.side t.limits t.past c.args.frame.now c.args.heard.now c.args.gather.now c.requires.begun c.requires.heard c.requires.fault

pub returns-clause-message : goal.returns-clause-message
returns-clause-message c =
    let t = c.args.track.now in
    let is = brought_heard t.side t.limits t.past c.args.frame.now c.args.heard.now c.args.gather.now c.requires.begun c.requires.heard c.requires.fault in
    subst (λ (m : Option (List ℕ)). IfOk c.gathered.result (λ x. x ≡ m)) is c.gathered.ensures.message

pub returns-clause-added : goal.returns-clause-added
returns-clause-added c =
    let t = c.args.track.now in
    let is = added_heard t.side t.limits t.past c.args.frame.now c.args.heard.now c.args.gather.now c.requires.begun c.requires.heard c.requires.fault in
    subst (λ (g : Gathering). OnOk c.gathered.result (c.gathered.new.gather ≡ g)) is c.gathered.ensures.added
