-- The page goes back as it was, or loaded.
use Rattle.std.proofs.Common.{rules, ◌≡◌, ℕ, sym, ap, ◌∙◌, subst, ◌≤◌}
use Rattle.std.proofs.Common.{[]}
use Rattle.smbd_base.specs.declared.token.TheConstants.{LAST_GENERATION}
use Rattle.smbd_base.specs.Tokens.{PageToken}
use Rattle.smbd_base.specs.Pages.{PageState, IsPageStep}
use Rattle.shared_pages.specs.declared.view.View.TheVariants.{One}
use Rattle.shared_pages.specs.declared.view.Sight.{Sight}
use Rattle.shared_pages.specs.declared.answers.Load.TheVariants.{Loaded}
use Rattle.smbd_base.specs.declared.page_event.PageEvent.TheVariants.{Load}
use Rattle.shared_pages.specs.Rule.{Sat, IsPastAfter, sight_of}
use Rattle.shared_pages.specs.Calls.{with_event, HasSeen, IsInHand}
use Rattle.shared_pages.specs.Answers.{load_answer}
use Rattle.shared_pages.proofs.InHand.{rests_by, may_let_go, may_give, given-seat, given-few}
use Rattle.shared_pages.proofs.Answering.{answers_loaded}
use Rattle.shared_pages.proofs.pages.Pages.load.Goals as goal

pub let_go-requires-clause-may : goal.let_go-requires-clause-may
let_go-requires-clause-may c = may_let_go _ _ _ _ _ _ c.in-Some.ensures.held

pub let_go-requires-then-is_spent-clause-may : goal.let_go-requires-then-is_spent-clause-may
let_go-requires-then-is_spent-clause-may c = may_let_go _ _ _ _ _ _ c.in-Some.ensures.held

pub give_back-requires-clause-may : goal.give_back-requires-clause-may
give_back-requires-clause-may c =
    let at : c.from-place.result ≡ c.args.page = search rules in
    may_give _ _ _ _ _ _ c.in-Some.ensures.held (Load c.load-token.result c.args.right c.args.bytes.now) c.load-token.new.self
    (ap (λ (t : PageToken). t.page) c.load-token.ensures.token ∙ sym at) c.load-token.ensures.step c.load-token.ensures.after
    c.requires.few

pub invariant_of-pass-2 : goal.invariant_of-pass-2
invariant_of-pass-2 c =
    let seat = (given-seat _ _ _ _ _ _ c.in-Some.ensures.held (Load c.load-token.result c.args.right c.args.bytes.now) c.give_back.new.seat.me c.give_back.ensures.given c.args.pass.now.rests.1).1 in
    record {
      rests = rests_by c.give_back.new.seat.me _ seat c.args.pass.now.rests.1;
      numbered = c.args.pass.now.numbered ∙ ap (λ (m : Sat). (sight_of m.0).number) (sym seat);
    }

pub returns-clause-tells : goal.returns-clause-tells
returns-clause-tells c = λ no.
    let at : c.from-place.result ≡ c.args.page = search rules in
    let first = c.args.self.now.table.shared.key.first in
    let event = Load c.load-token.result c.args.right c.args.bytes.now in
    let h = c.in-Some.ensures.held in
    let v : Sight = sight_of c.args.pass.now.seat.me.0 in
    let given = given-seat _ _ _ _ _ _ h event c.give_back.new.seat.me c.give_back.ensures.given c.args.pass.now.rests.1 in
    let seat : c.give_back.new.seat.me ≡ (One (with_event v c.from-place.result event h.log given.0), []) = given.1 in
    record {
      log = h.log;
      life = subst (λ (p : ℕ). Rattle.shared_pages.specs.Calls.IsLifeAfter first p v h.log) at h.life;
      past = given.0;
      after = subst (λ (p : ℕ). IsPastAfter p v h.log given.0) at given.2;
      most = subst (λ (s : PageState). s.generation ≤ LAST_GENERATION) h.stands (search rules);
      answer = ap Loaded c.load-token.ensures.token ∙ answers_loaded c.args.page c.in-Some.slot.generation c.in-Some.slot.loaded (search rules) (sym c.is_spent.ensures.value ∙ c.if-is_spent.false)
          ∙ ap (λ (s : PageState). load_answer c.args.page s) h.stands;
      loaded = (subst (IsPageStep event) h.stands c.load-token.ensures.step, ap (λ (m : Sat). sight_of m.0) seat ∙ ap (λ (p : ℕ). with_event v p event h.log given.0) at);
      refused = tt;
    }

pub returns-clause-few : goal.returns-clause-few
returns-clause-few c = given-few _ _ _ _ _ _ c.in-Some.ensures.held (Load c.load-token.result c.args.right c.args.bytes.now) c.give_back.new.seat.me c.give_back.ensures.given c.args.pass.now.rests.1
