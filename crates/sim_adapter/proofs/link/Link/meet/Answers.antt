use Rattle.std.proofs.Common.{rules, ◌≡◌, length, sym, ap, subst, ◌∙◌, []}
use Rattle.atomic_table.specs.Table.{Splits, Joins, Allows, step}
use mathlib.Core.Option.{none}
use Rattle.smbd_base.specs.Joint.{emitted_frames}
use Rattle.sim_adapter.specs.declared.view.EndView.{EndView}
use Rattle.sim_adapter.specs.declared.view.View.{View}
use Rattle.sim_adapter.specs.declared.view.View.TheVariants.{Spent, Both}
use Rattle.sim_adapter.specs.Rule.{Sat, Orderly, end_of, left_end, right_end}
use Rattle.sim_adapter.specs.Plays.{learned, united, met, AreMet}
use Rattle.sim_adapter.proofs.Opening.{parts}
use Rattle.sim_adapter.proofs.Meeting.{hands_over, unites, takes_back, meets}
use Rattle.sim_adapter.proofs.Concluding.{few_met, quiet_met}
use Rattle.sim_adapter.proofs.link.Link.meet.Goals as goal

pub split_seat-handed-requires : goal.split_seat-handed-requires
split_seat-handed-requires c = let k = c.args.self.now.table.shared.key in let p = c.args.server.now in
    (c.requires.own.1, search rules, subst (λ (v : View). Splits (Orderly k) p.seat.id v Spent v) (sym (ap (λ (m : Sat). m.0) p.rests.0)) (hands_over k p.seat.id (end_of p.seat.me.0)))

pub join_seat-requires : goal.join_seat-requires
join_seat-requires c = let k = c.args.self.now.table.shared.key in let p = c.args.client.now in let q = c.args.server.now in
    let here = ap (λ (m : Sat). m.0) p.rests.0 in let there = ap (λ (m : Sat). m.0) c.split_seat-handed.ensures.4 ∙ ap (λ (m : Sat). m.0) q.rests.0 in (
      search rules,
      search rules,
      search rules,
      search rules,
      subst (λ (z : View × View). Joins (Orderly k) p.seat.id z.0 c.split_seat-handed.result.id z.1 (united z.0 z.1) Spent) (λ i. (sym here i, sym there i))
          (unites k p.seat.id c.split_seat-handed.result.id (end_of p.seat.me.0) (end_of q.seat.me.0) c.requires.sides.0),
    )

pub load-requires : goal.load-requires
load-requires c = let k = c.args.self.now.table.shared.key in let p = c.args.client.now in let q = c.args.server.now in
    let here = ap (λ (m : Sat). m.0) p.rests.0 in let there = ap (λ (m : Sat). m.0) c.split_seat-handed.ensures.4 ∙ ap (λ (m : Sat). m.0) q.rests.0 in
    let both : c.join_seat.new.seat.me ≡ (Both (end_of p.seat.me.0) (end_of q.seat.me.0), []) = c.join_seat.ensures.2 ∙ (λ i. (united (here i) (there i), (p.rests.0 i).1)) in (
      search rules,
      search rules,
      subst (λ (m : Sat). Allows (Orderly k) c.args.self.now.table.shared.table_id.slots c.join_seat.new.seat.id m 0 (λ n. n) (met (step c.args.self.now.table.shared.table_id.slots 0 0 0 none) m)) (sym both)
          (meets k _ c.join_seat.new.seat.id _ _),
    )

pub split_seat-back-requires : goal.split_seat-back-requires
split_seat-back-requires c = let k = c.args.self.now.table.shared.key in let p = c.args.client.now in let q = c.args.server.now in
    let here = ap (λ (m : Sat). m.0) p.rests.0 in let there = ap (λ (m : Sat). m.0) c.split_seat-handed.ensures.4 ∙ ap (λ (m : Sat). m.0) q.rests.0 in
    let both : c.join_seat.new.seat.me ≡ (Both (end_of p.seat.me.0) (end_of q.seat.me.0), []) = c.join_seat.ensures.2 ∙ (λ i. (united (here i) (there i), (p.rests.0 i).1)) in
    let met_is = ap (λ (m : Sat). m.0) c.load.ensures.2.0 ∙ ap (λ (m : Sat). Rattle.sim_adapter.specs.Plays.met_view m.0) both in
    (search rules, search rules, subst (λ (v : View). Splits (Orderly k) c.load.new.seat.id v (left_end v) (right_end v)) (sym met_is) (parts k c.load.new.seat.id _ _))

pub join_seat-requires-2 : goal.join_seat-requires-2
join_seat-requires-2 c = let k = c.args.self.now.table.shared.key in let p = c.args.client.now in let q = c.args.server.now in
    let here = ap (λ (m : Sat). m.0) p.rests.0 in let there = ap (λ (m : Sat). m.0) c.split_seat-handed.ensures.4 ∙ ap (λ (m : Sat). m.0) q.rests.0 in
    let both : c.join_seat.new.seat.me ≡ (Both (end_of p.seat.me.0) (end_of q.seat.me.0), []) = c.join_seat.ensures.2 ∙ (λ i. (united (here i) (there i), (p.rests.0 i).1)) in
    let met_is = ap (λ (m : Sat). m.0) c.load.ensures.2.0 ∙ ap (λ (m : Sat). Rattle.sim_adapter.specs.Plays.met_view m.0) both in
    let spent = ap (λ (m : Sat). m.0) c.split_seat-handed.ensures.2 in
    let back = ap (λ (m : Sat). m.0) c.split_seat-back.ensures.4 ∙ ap right_end met_is in (
      search rules,
      search rules,
      search rules,
      search rules,
      subst (λ (z : View × View). Joins (Orderly k) c.split_seat-handed.new.seat.id z.0 c.split_seat-back.result.id z.1 (united z.0 z.1) Spent) (λ i. (sym spent i, sym back i)) (takes_back k _ _ _),
    )

pub returns-clause-few_empty : goal.returns-clause-few_empty
returns-clause-few_empty c = let p = c.args.client.now in let before : EndView = end_of p.seat.me.0 in let seen = length (emitted_frames (end_of c.args.server.now.seat.me.0).past) in
    let client : EndView = end_of c.split_seat-back.new.seat.me.0 in let server : EndView = end_of c.join_seat-2.new.seat.me.0 in
    let told : client ≡ learned before seen = search rules in
    let met : AreMet client server = search rules in
    few_met p.ends client server before seen told p.keyed p.lawful met

pub returns-clause-quiet : goal.returns-clause-quiet
returns-clause-quiet c = let p = c.args.client.now in let before : EndView = end_of p.seat.me.0 in let seen = length (emitted_frames (end_of c.args.server.now.seat.me.0).past) in
    let client : EndView = end_of c.split_seat-back.new.seat.me.0 in let server : EndView = end_of c.join_seat-2.new.seat.me.0 in
    let told : client ≡ learned before seen = search rules in
    let met : AreMet client server = search rules in
    quiet_met p.ends client server before seen told p.keyed p.lawful met
