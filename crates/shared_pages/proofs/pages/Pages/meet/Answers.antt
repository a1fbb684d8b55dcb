-- Both have seen the same.
use Rattle.std.proofs.Common.{◌≡◌, List, length, sym, ap, ◌∙◌}
use Rattle.shared_pages.specs.declared.view.Sight.{Sight}
use Rattle.shared_pages.specs.Rule.{Log, longer, longest}
use Rattle.shared_pages.specs.Calls.{known_by}
use Rattle.shared_pages.proofs.Learning.{both-same, longer-again}
use Rattle.shared_pages.proofs.pages.Pages.meet.Goals as goal

pub returns-clause-other : goal.returns-clause-other
returns-clause-other c =
    let a = (known_by c.args.one.now).seen in
    let b = (known_by c.args.other.now).seen in
    let seen : Sight → List Log = λ v. v.seen in
    let one : (known_by c.learn-2.new.other).seen ≡ longest a b = ap seen c.learn-2.ensures.other ∙ ap seen c.learn.ensures.one in
    let other : (known_by c.learn-2.new.one).seen ≡ longest b (known_by c.learn-2.new.other).seen =
    ap seen c.learn-2.ensures.one ∙ ap (λ (v : Sight). longest v.seen (known_by c.learn.new.one).seen) c.learn.ensures.other ∙ ap (λ (v : Sight). longest b v.seen) (sym c.learn-2.ensures.other) in
    both-same _ a b (known_by c.learn-2.new.other).seen (known_by c.learn-2.new.one).seen one other
    (ap (λ (v : Sight). length v.seen) c.learn-2.ensures.other ∙ c.learn.ensures.knows.pages) c.learn-2.ensures.knows.pages

pub returns-clause-pasts : goal.returns-clause-pasts
returns-clause-pasts c =
    let a = (known_by c.args.one.now).past in
    let b = (known_by c.args.other.now).past in
    let past : Sight → Log = λ v. v.past in
    let one : (known_by c.learn-2.new.other).past ≡ longer a b = ap past c.learn-2.ensures.other ∙ ap past c.learn.ensures.one in
    let other : (known_by c.learn-2.new.one).past ≡ longer b (known_by c.learn-2.new.other).past =
    ap past c.learn-2.ensures.one ∙ ap (λ (v : Sight). longer v.past (known_by c.learn.new.one).past) c.learn.ensures.other ∙ ap (λ (v : Sight). longer b v.past) (sym c.learn-2.ensures.other) in
    record {
      compare = c.learn.ensures.compare_pasts;
      first = one;
      even = other ∙ ap (longer b) one ∙ longer-again a b ∙ sym one;
    }
