use Rattle.std.proofs.Common.{◌≡◌, ℕ, true, false, sym, ◌∙◌, subst}
use Rattle.sim_adapter.specs.declared.view.EndView.{EndView}
use Rattle.link_ends.specs.Ends.{view_of, next_of, is_emit}
use Rattle.copy_ends.specs.Cuts.{AreLeft, frames_sent}
use Rattle.end_shares.proofs.Turning.{drove, drove_sent, drove_one, drove_none, sent_is_emit}
use Rattle.end_shares.proofs.turns.drive.Goals as goal

pub count_off-requires : goal.count_off-requires
count_off-requires g c = λ none sent.
    let v : EndView = view_of c.args.end.now in
    let yes : is_emit (next_of v) ≡ true = sent_is_emit c.in_ok-driven.driven (next_of v) v (view_of c.drive.new.self) c.in_ok-driven.ensures.done sent in
    let no : is_emit (next_of v) ≡ false = c.requires.some none in
    absurd (let b : ⊥ = cc in b)

pub returns-clause-turned : goal.returns-clause-turned
returns-clause-turned g c = λ side.
    let v : EndView = view_of c.args.end.now in
    drove side c.in_ok-driven.driven (next_of v) v (view_of c.drive.new.self) c.in_ok-driven.ensures.done

pub returns-clause-one : goal.returns-clause-one
returns-clause-one g c = λ did.
    let v : EndView = view_of c.args.end.now in
    drove_one c.in_ok-driven.driven (next_of v) v (view_of c.drive.new.self) c.in_ok-driven.ensures.done (sym c.is_something.ensures ∙ did)

pub returns-clause-left : goal.returns-clause-left
returns-clause-left g c = λ number h.
    let v : EndView = view_of c.args.end.now in
    subst (λ (n : ℕ). AreLeft number n c.count_off.new.left)
    (sym (drove_sent c.in_ok-driven.driven (next_of v) v (view_of c.drive.new.self) c.in_ok-driven.ensures.done))
    (c.count_off.ensures number (frames_sent v.past) h)

pub returns-clause-idle : goal.returns-clause-idle
returns-clause-idle g c = λ did.
    (drove_none c.in_ok-driven.driven (view_of c.args.end.now) (view_of c.drive.new.self) c.in_ok-driven.ensures.done (sym c.is_something.ensures ∙ did)).0

pub returns-clause-same : goal.returns-clause-same
returns-clause-same g c = λ did.
    (drove_none c.in_ok-driven.driven (view_of c.args.end.now) (view_of c.drive.new.self) c.in_ok-driven.ensures.done (sym c.is_something.ensures ∙ did)).1
