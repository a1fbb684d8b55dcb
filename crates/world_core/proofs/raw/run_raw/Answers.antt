use Rattle.std.proofs.Common.{◌≡◌, ℕ, ◌∷◌, [], true, None, Some, Option, List, length, sym, subst, ap, ◌∙◌, arith}
use Rattle.smbd_base.specs.declared.event.Event.{Event}
use Rattle.smbd_base.specs.declared.event.Event.TheVariants.{Post}
use Rattle.smbd_base.specs.declared.faults.TakeFault.{TakeFault}
use Rattle.smbd_base.specs.History.{is_ready}
use Rattle.world_core.specs.Raw.{Facing, Settles, Takes, RunsOn, first_unposted, frames_met}
use Rattle.world_core.proofs.RawLemmas.{IsCut, cut_of, stops_unposted, stops_refused, comes_on, stops_whole, is_raw_run, takes_at, ready_at, ready_opened}
use Rattle.world_core.proofs.raw.run_raw.Goals as goal
use Rattle.world_core.proofs.raw.run_raw.Goals.{In_ok-settle, After-split_at, In_default}

-- the end has opened
opens : (c : In_ok-settle) → Settles c.args.end c.args.limits (Post c.args.limits.credits ∷ []) c.settle.new.self.past
opens c = subst (λ (f : Facing). Settles f.side f.limits f.past c.settle.new.self.past) c.in_ok-raw.ensures c.in_ok-settle.ensures.settled

-- a burst was cut
cut : (c : After-split_at) → IsCut c.args.burst c.loop-rest.rest.now c.split_at.result.0.now c.split_at.result.1.now
cut c =
    cut_of c.args.burst c.from-size.result c.min.result c.loop-rest.rest.now c.split_at.result.0.now c.split_at.result.1.now c.from-size.ensures c.min.ensures
    c.split_at.ensures.front c.split_at.ensures.back (sym c.loop-rest-test.true ∙ c.is_empty.ensures)

-- all of it arrived
arrived : (c : In_default) → c.arrive_all.new.self ≡ record c.loop-rest.raw { waiting = c.split_at.result.0.now }
arrived c = c.in_ok-number.ensures.waiting c.in_default.is

pub loop-rest-init : goal.loop-rest-init
loop-rest-init c =
    let same = c.in_ok-settle.ensures.same in
    let open_is = c.in_ok-raw.ensures in
    let met : frames_met c.settle.new.self.past ≡ 0 = c.in_ok-settle.ensures.met ∙ ap (λ (f : Facing). frames_met f.past) open_is in
    record {
      course = λ ended h. h;
      side = ap (λ (f : Facing). f.side) same ∙ ap (λ (f : Facing). f.side) open_is;
      limits = ap (λ (f : Facing). f.limits) same ∙ ap (λ (f : Facing). f.limits) open_is;
      empty = ap (λ (f : Facing). f.waiting) same ∙ ap (λ (f : Facing). f.waiting) open_is;
      ready = ready_opened c.args.end c.args.limits c.args.limits.credits c.settle.new.self.past (opens c);
      counted = omega arith;
    }

pub arrive_all-requires-clause-empty : goal.arrive_all-requires-clause-empty
arrive_all-requires-clause-empty c = c.loop-rest.invariant.empty

pub arrive_all-requires-clause-few : goal.arrive_all-requires-clause-few
arrive_all-requires-clause-few c =
    let count = (cut (goal.at.arrive_all-requires-clause-few c).After-split_at).count in
    let all = c.loop-rest.invariant.counted in
    let few = c.requires.few in
    omega arith

pub returns-in-Some : goal.returns-in-Some
returns-in-Some c =
    let raw = c.loop-rest.raw in
    let inv = c.loop-rest.invariant in
    let now = c.arrive_all.new.self in
    let same = c.arrive_all.ensures.same in
    let past_is : now.past ≡ raw.past = ap (λ (f : Facing). f.past) same in
    let at = goal.at.returns-in-Some c in
    let stops = stops_unposted c.args.end c.args.limits c.args.burst raw.past c.loop-rest.rest.now c.split_at.result.0.now c.split_at.result.1.now (cut at.After-split_at) c.in-Some.number
    (sym c.in_ok-number.ensures.unposted ∙ c.in-Some.is) in
    let whole = inv.course _ stops in
    is_raw_run c.args.end c.args.limits c.args.burst c.args.frames.now c.settle.new.self.past now None (Some c.in-Some.number) c.told.result (opens at.In_ok-settle)
    (ap (λ (f : Facing). f.side) same ∙ inv.side) (ap (λ (f : Facing). f.limits) same ∙ inv.limits)
    (subst (λ (p : List Event). RunsOn c.args.end c.args.limits c.args.burst c.settle.new.self.past c.args.frames.now (record { past = p; refused = None; unposted = Some c.in-Some.number })) (sym past_is) whole)
    c.told.ensures

pub take_all-requires-clause-ready : goal.take_all-requires-clause-ready
take_all-requires-clause-ready c =
    let inv = c.loop-rest.invariant in
    subst (λ (f : Facing). is_ready f.side f.limits f.past ≡ true) (sym c.arrive_all.ensures.same)
    (ready_at c.args.end c.loop-rest.raw.side c.args.limits c.loop-rest.raw.limits c.loop-rest.raw.past (sym inv.side) (sym inv.limits) inv.ready)

pub take_all-requires-clause-arrived : goal.take_all-requires-clause-arrived
take_all-requires-clause-arrived c = ap (λ (f : Facing). f.waiting) (arrived (goal.at.take_all-requires-clause-arrived c).In_default)

pub take_all-requires-clause-few : goal.take_all-requires-clause-few
take_all-requires-clause-few c =
    let count = (cut (goal.at.take_all-requires-clause-few c).After-split_at).count in
    let all = c.loop-rest.invariant.counted in
    let few = c.requires.few in
    let same = ap (λ (f : Facing). frames_met f.past) c.arrive_all.ensures.same in
    omega arith

-- the frames of the burst were taken
taken : (c : In_default) (refused : Option (ℕ × TakeFault)) (after : List Event)
    → Takes c.arrive_all.new.self.side c.arrive_all.new.self.limits c.arrive_all.new.self.past c.split_at.result.0.now refused after
    → Takes c.args.end c.args.limits c.loop-rest.raw.past c.split_at.result.0.now refused after
taken c refused after h =
    let inv = c.loop-rest.invariant in
    takes_at c.loop-rest.raw.side c.args.end c.loop-rest.raw.limits c.args.limits c.loop-rest.raw.past after c.split_at.result.0.now refused inv.side inv.limits
    (subst (λ (f : Facing). Takes f.side f.limits f.past c.split_at.result.0.now refused after) (arrived c) h)

all_placed : (c : In_default) → first_unposted c.loop-rest.raw.past (length c.split_at.result.0.now) ≡ None
all_placed c = sym c.in_ok-number.ensures.unposted ∙ c.in_default.is

pub returns-in-Some-2 : goal.returns-in-Some-2
returns-in-Some-2 c =
    let at = goal.at.returns-in-Some-2 c in
    let raw = c.loop-rest.raw in
    let inv = c.loop-rest.invariant in
    let now = c.take_all.new.self in
    let same = c.in_ok-refused.ensures.same in
    let before = arrived at.In_default in
    let takes = taken at.In_default (Some c.in-Some-2.refused) now.past
    (subst (λ (r : Option (ℕ × TakeFault)). Takes c.arrive_all.new.self.side c.arrive_all.new.self.limits c.arrive_all.new.self.past c.split_at.result.0.now r now.past) c.in-Some-2.is c.in_ok-refused.ensures.taken) in
    let stops = stops_refused c.args.end c.args.limits c.args.burst raw.past c.loop-rest.rest.now c.split_at.result.0.now c.split_at.result.1.now (cut at.After-split_at) c.in-Some-2.refused now.past
    (all_placed at.In_default) takes in
    is_raw_run c.args.end c.args.limits c.args.burst c.args.frames.now c.settle.new.self.past now (Some c.in-Some-2.refused) None c.told-in-Some-2.result (opens at.In_ok-settle)
    (ap (λ (f : Facing). f.side) same ∙ ap (λ (f : Facing). f.side) before ∙ inv.side) (ap (λ (f : Facing). f.limits) same ∙ ap (λ (f : Facing). f.limits) before ∙ inv.limits)
    (inv.course _ stops) c.told-in-Some-2.ensures

pub returns : goal.returns
returns c =
    let at = goal.at.returns c in
    let raw = c.loop-rest.raw in
    let inv = c.loop-rest.invariant in
    let none = sym c.loop-rest-test.false ∙ c.is_empty.ensures in
    let stops = stops_whole c.args.end c.args.limits c.args.burst raw.past c.loop-rest.rest.now none in
    is_raw_run c.args.end c.args.limits c.args.burst c.args.frames.now c.settle.new.self.past raw None None c.told-2.result (opens at.In_ok-settle) inv.side inv.limits
    (inv.course _ stops) c.told-2.ensures

pub loop-rest-preserved : goal.loop-rest-preserved
loop-rest-preserved c =
    let at = goal.at.loop-rest-preserved c in
    let raw = c.loop-rest.raw in
    let inv = c.loop-rest.invariant in
    let now = c.take_all.new.self in
    let same = c.in_ok-refused.ensures.same in
    let before = arrived at.In_default in
    let whole = c.in_ok-refused.ensures.all c.in_default-2.is in
    let takes = taken at.In_default None now.past
    (subst (λ (r : Option (ℕ × TakeFault)). Takes c.arrive_all.new.self.side c.arrive_all.new.self.limits c.arrive_all.new.self.past c.split_at.result.0.now r now.past) c.in_default-2.is c.in_ok-refused.ensures.taken) in
    let side_is = ap (λ (f : Facing). f.side) same ∙ ap (λ (f : Facing). f.side) before ∙ inv.side in
    let limits_is = ap (λ (f : Facing). f.limits) same ∙ ap (λ (f : Facing). f.limits) before ∙ inv.limits in
    let met_now = whole.met in
    let met_before = ap (λ (f : Facing). frames_met f.past) before in
    let waited = ap (λ (f : Facing). length f.waiting) before in
    let count = (cut at.After-split_at).count in
    let counted = inv.counted in
    record {
      course = λ ended h. inv.course ended (comes_on c.args.end c.args.limits c.args.burst raw.past c.loop-rest.rest.now c.split_at.result.0.now c.split_at.result.1.now (cut at.After-split_at) now.past ended
          (all_placed at.In_default) takes h);
      side = side_is;
      limits = limits_is;
      empty = whole.empty;
      ready = ready_at now.side c.args.end now.limits c.args.limits now.past side_is limits_is whole.ready;
      counted = omega arith;
    }
