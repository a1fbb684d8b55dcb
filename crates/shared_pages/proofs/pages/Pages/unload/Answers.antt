-- The page goes back after the step.
use Rattle.std.proofs.Common.{rules, ◌≡◌, ℕ, sym, ap, ◌∙◌, refl, subst, []}
use Rattle.smbd_base.specs.Pages.{PageState, IsPageStep}
use Rattle.smbd_base.specs.declared.page_event.PageEvent.{PageEvent}
use Rattle.smbd_base.specs.declared.page_event.PageEvent.TheVariants as events
use Rattle.shared_pages.specs.declared.view.View.TheVariants.{One}
use Rattle.shared_pages.specs.declared.view.Sight.{Sight}
use Rattle.shared_pages.specs.declared.answers.Access.TheVariants.{Done}
use Rattle.shared_pages.specs.Rule.{Sat, IsPastAfter, sight_of}
use Rattle.shared_pages.specs.Calls.{with_event, IsLifeAfter}
use Rattle.shared_pages.specs.Answers.{unload_answer}
use Rattle.shared_pages.proofs.InHand.{rests_by, may_give, given-seat, given-few}
use Rattle.shared_pages.proofs.pages.Pages.unload.Goals as goal

pub give_back-requires-clause-may : goal.give_back-requires-clause-may
give_back-requires-clause-may c =
    let at : c.from-place.result ≡ c.args.token.page = search rules in
    may_give _ _ _ _ _ _ c.in-Some.ensures.held (events.Unload c.args.token c.unload.new.out) c.unload.new.self (sym at) (c.unload.ensures.step) (c.unload.ensures.after)
    c.requires.few

pub invariant_of-pass-2 : goal.invariant_of-pass-2
invariant_of-pass-2 c =
    let seat = (given-seat _ _ _ _ _ _ c.in-Some.ensures.held (events.Unload c.args.token c.unload.new.out) c.give_back.new.seat.me c.give_back.ensures.given c.args.pass.now.rests.1).1 in
    record {
      rests = rests_by c.give_back.new.seat.me _ seat c.args.pass.now.rests.1;
      numbered = c.args.pass.now.numbered ∙ ap (λ (m : Sat). (sight_of m.0).number) (sym seat);
    }

pub returns-clause-tells : goal.returns-clause-tells
returns-clause-tells c = λ no.
    let at : c.from-place.result ≡ c.args.token.page = search rules in
    let allowed : Done ≡ unload_answer c.args.token c.in-Some.slot = search rules in
    let first = c.args.self.now.table.shared.key.first in
    let event : PageState → PageEvent = λ s. events.Unload c.args.token c.unload.new.out in
    let h = c.in-Some.ensures.held in
    let v : Sight = sight_of c.args.pass.now.seat.me.0 in
    let given = given-seat _ _ _ _ _ _ h (events.Unload c.args.token c.unload.new.out) c.give_back.new.seat.me c.give_back.ensures.given c.args.pass.now.rests.1 in
    let seat : c.give_back.new.seat.me ≡ (One (with_event v c.from-place.result (events.Unload c.args.token c.unload.new.out) h.log given.0), []) = given.1 in
    record {
      log = h.log;
      life = subst (λ (p : ℕ). IsLifeAfter first p v h.log) at h.life;
      past = given.0;
      after = subst (λ (p : ℕ). IsPastAfter p v h.log given.0) at given.2;
      answer = allowed ∙ ap (λ (s : PageState). unload_answer c.args.token s) h.stands;
      done = λ _. (
        subst (λ (s : PageState). IsPageStep (event s) s) h.stands (c.unload.ensures.step),
        ap (λ (m : Sat). sight_of m.0) seat ∙ ap (λ (p : ℕ). with_event v p (events.Unload c.args.token c.unload.new.out) h.log given.0) at
            ∙ ap (λ (e : PageEvent). with_event v c.args.token.page e h.log given.0) (ap event h.stands),
      );
      refused = λ ne. absurd (ne refl);
    }

pub returns-clause-few : goal.returns-clause-few
returns-clause-few c = given-few _ _ _ _ _ _ c.in-Some.ensures.held (events.Unload c.args.token c.unload.new.out) c.give_back.new.seat.me c.give_back.ensures.given c.args.pass.now.rests.1
