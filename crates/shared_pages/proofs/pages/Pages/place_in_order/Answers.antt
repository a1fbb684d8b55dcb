-- The page goes back after the step.
use Rattle.std.proofs.Common.{rules, ◌≡◌, ℕ, sym, ap, ◌∙◌, subst, [], ◌∷◌}
use Rattle.smbd_base.specs.Pages.{PageState, IsPageStep, page_after}
use Rattle.smbd_base.specs.declared.page_event.PageEvent.{PageEvent}
use Rattle.smbd_base.specs.declared.page_event.PageEvent.TheVariants as events
use Rattle.shared_pages.specs.declared.view.View.TheVariants.{One}
use Rattle.shared_pages.specs.declared.view.Sight.{Sight}
use Rattle.shared_pages.specs.declared.answers.Access.TheVariants.{Done}
use Rattle.shared_pages.specs.Rule.{Sat, IsPastAfter, sight_of}
use Rattle.shared_pages.specs.Calls.{with_event, IsLifeAfter}
use Rattle.shared_pages.specs.Answers.{place_answer, places_had}
use Rattle.shared_pages.proofs.InHand.{rests_by, may_give, given-seat, given-few}
use Rattle.shared_pages.proofs.pages.Pages.place_in_order.Goals as goal

pub give_back-requires-clause-may : goal.give_back-requires-clause-may
give_back-requires-clause-may c =
    let counted : c.from.result ≡ places_had c.in-Some.slot.loaded = search rules in
    let at : c.from-place.result ≡ c.args.token.page = search rules in
    may_give _ _ _ _ _ _ c.in-Some.ensures.held (events.Place c.args.token c.from.result c.args.at c.args.bytes.now) c.place.new.self (sym at) (subst (λ (n : ℕ). IsPageStep (events.Place c.args.token n c.args.at c.args.bytes.now) c.in-Some.slot) (sym counted) c.place.ensures.step) (c.place.ensures.after ∙ ap (λ (n : ℕ). page_after (events.Place c.args.token n c.args.at c.args.bytes.now) c.in-Some.slot) (sym counted))
    c.requires.few

pub invariant_of-pass-2 : goal.invariant_of-pass-2
invariant_of-pass-2 c =
    let seat = (given-seat _ _ _ _ _ _ c.in-Some.ensures.held (events.Place c.args.token c.from.result c.args.at c.args.bytes.now) c.give_back.new.seat.me c.give_back.ensures.given c.args.pass.now.rests.1).1 in
    record {
      rests = rests_by c.give_back.new.seat.me _ seat c.args.pass.now.rests.1;
      numbered = c.args.pass.now.numbered ∙ ap (λ (m : Sat). (sight_of m.0).number) (sym seat);
    }

pub returns-clause-tells : goal.returns-clause-tells
returns-clause-tells c = λ no.
    let counted : c.from.result ≡ places_had c.in-Some.slot.loaded = search rules in
    let at : c.from-place.result ≡ c.args.token.page = search rules in
    let done : c.may_place-answer.result ≡ Done = search rules in
    let allowed : c.may_place-answer.result ≡ place_answer c.args.token c.in-Some.slot = search rules in
    let first = c.args.self.now.table.shared.key.first in
    let event : PageState → PageEvent = λ s. events.Place c.args.token (places_had s.loaded) c.args.at c.args.bytes.now in
    let h = c.in-Some.ensures.held in
    let v : Sight = sight_of c.args.pass.now.seat.me.0 in
    let given = given-seat _ _ _ _ _ _ h (events.Place c.args.token c.from.result c.args.at c.args.bytes.now) c.give_back.new.seat.me c.give_back.ensures.given c.args.pass.now.rests.1 in
    let seat : c.give_back.new.seat.me ≡ (One (with_event v c.from-place.result (events.Place c.args.token c.from.result c.args.at c.args.bytes.now) h.log given.0), []) = given.1 in
    record {
      log = h.log;
      life = subst (λ (p : ℕ). IsLifeAfter first p v h.log) at h.life;
      past = given.0;
      after = subst (λ (p : ℕ). IsPastAfter p v h.log given.0) at given.2;
      answer = allowed ∙ ap (λ (s : PageState). place_answer c.args.token s) h.stands;
      done = λ _. (
        subst (λ (s : PageState). IsPageStep (event s) s) h.stands (c.place.ensures.step),
        ap (λ (m : Sat). sight_of m.0) seat ∙ ap (λ (p : ℕ). with_event v p (events.Place c.args.token c.from.result c.args.at c.args.bytes.now) h.log given.0) at
            ∙ ap (λ (e : PageEvent). with_event v c.args.token.page e h.log given.0) (ap (λ (n : ℕ). events.Place c.args.token n c.args.at c.args.bytes.now) counted ∙ ap event h.stands),
      );
      refused = λ ne. absurd (ne done);
    }

pub returns-clause-few : goal.returns-clause-few
returns-clause-few c = given-few _ _ _ _ _ _ c.in-Some.ensures.held (events.Place c.args.token c.from.result c.args.at c.args.bytes.now) c.give_back.new.seat.me c.give_back.ensures.given c.args.pass.now.rests.1

pub returns-clause-order : goal.returns-clause-order
returns-clause-order c = λ done.
    let given = given-seat _ _ _ _ _ _ c.in-Some.ensures.held (events.Place c.args.token c.from.result c.args.at c.args.bytes.now) c.give_back.new.seat.me c.give_back.ensures.given c.args.pass.now.rests.1 in
    let seat : c.give_back.new.seat.me ≡ (One (with_event (sight_of c.args.pass.now.seat.me.0) c.from-place.result (events.Place c.args.token c.from.result c.args.at c.args.bytes.now) c.in-Some.ensures.held.log given.0), []) = given.1 in
    let same : c.from.result ≡ c.places_had-order.result = search rules in
    ap (λ (m : Sat). (sight_of m.0).made) seat ∙ ap (λ (n : ℕ). events.Place c.args.token n c.args.at c.args.bytes.now ∷ (sight_of c.args.pass.now.seat.me.0).made) same
