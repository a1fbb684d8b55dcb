use Rattle.std.proofs.Common.{rules, refl, ◌≡◌, sym, ◌∙◌, ◌∷◌, []}
use Rattle.std.specs.Prelude.{Some, None}
use Rattle.atomic_table.specs.Table.{rest}
use Rattle.sim_adapter.specs.declared.view.EndView.{EndView}
use Rattle.sim_adapter.specs.declared.view.Turn.TheVariants.{Emits}
use Rattle.sim_adapter.specs.declared.view.View.TheVariants.{One}
use Rattle.sim_adapter.specs.Rule.{end_of, place}
use Rattle.sim_adapter.specs.Plays.{at_turn, back}
use Rattle.sim_adapter.proofs.Emitting.{looks_to_emit_at, publishes_at}
use Rattle.sim_adapter.proofs.Words.{count_fits, emitted_within}
use Rattle.sim_adapter.proofs.link.Link.emit.Goals as goal

pub load-requires : goal.load-requires
load-requires c = let p = c.args.pass.now in (
  c.requires.own,
  search rules,
  looks_to_emit_at c.args.self.now.table.shared.key _ p.seat.id p.seat.me (end_of p.seat.me.0) c.args.frame p.rests.0 p.rests.2 c.requires.legal,
)

pub fetch_add-requires : goal.fetch_add-requires
fetch_add-requires c =
    let p = c.args.pass.now in
    let e : EndView = at_turn (end_of p.seat.me.0) Emits in
    let looked : c.load.new.seat.me ≡ (One e, (back e, None) ∷ []) = c.load.ensures.2.0 (search rules) in
    let there : c.place_of-place.result ≡ back e = c.place_of-place.ensures ∙ (λ i. place (sym p.keyed i) (sym p.rests.1 i) (p.rests.3 i)) in
    let carried : c.exchange.new.seat.me ≡ (One e, (back e, Some c.args.frame) ∷ []) = c.exchange.ensures.3 ∙ (λ i. ((looked i).0, (there i, Some c.args.frame) ∷ rest (looked i).1)) in (
      search rules,
      search rules,
      publishes_at c.args.self.now.table.shared.key _ c.exchange.new.seat.id _ c.exchange.new.seat.me e c.args.frame carried (search rules) refl c.requires.legal c.requires.few,
    )

pub overflow_add-pass : goal.overflow_add-pass
overflow_add-pass c = let p = c.args.pass.now in count_fits p.emitted _ (end_of p.seat.me.0).past p.rests.3 (emitted_within (end_of p.seat.me.0).past) c.requires.few
