use Rattle.std.proofs.Common.{rules, ◌≡◌, sym, ap, subst, ◌∙◌, ◌∷◌, [], length, refl}
use Rattle.std.specs.Prelude.{Some, None}
use Rattle.atomic_table.specs.Table.{rest}
use Rattle.smbd_base.specs.Counts.{peer_of}
use Rattle.smbd_base.specs.History.{is_cut, is_post_due}
use Rattle.smbd_base.specs.Joint.{taken_frames}
use Rattle.sim_adapter.specs.declared.view.EndView.{EndView}
use Rattle.sim_adapter.specs.declared.view.Turn.TheVariants.{Takes}
use Rattle.sim_adapter.specs.declared.view.View.TheVariants.{One}
use Rattle.sim_adapter.specs.Rule.{Sat, end_of, place, emitted_word, taken_word, MayGrow}
use Rattle.sim_adapter.specs.Plays.{at_turn, saw, front}
use Rattle.sim_adapter.proofs.Taking.{looks_to_take, looks_at_peer, retires}
use Rattle.sim_adapter.proofs.Words.{count_fits, taken_within}
use Rattle.sim_adapter.proofs.link.Link.take.Goals as goal

pub load-requires : goal.load-requires
load-requires c = let p = c.args.pass.now in (
  c.requires.own,
  search rules,
  looks_to_take c.args.self.now.table.shared.key _ p.seat.id p.seat.me (end_of p.seat.me.0) p.rests.0 c.requires.uncut,
)

pub load-found-requires : goal.load-found-requires
load-found-requires c = let p = c.args.pass.now in let same = c.load.ensures.2.0 c.if-load-ne0.false in (
  search rules,
  search rules,
  looks_at_peer c.args.self.now.table.shared.key _ c.load.new.seat.id _ c.load.new.seat.me (end_of p.seat.me.0) (same ∙ p.rests.0)
      (c.emitted_at.ensures ∙ ap emitted_word (c.peer-other.ensures ∙ ap peer_of (sym p.rests.1))) p.rests.2,
)

pub exchange-requires : goal.exchange-requires
exchange-requires c =
    let p = c.args.pass.now in
    let same = c.load.ensures.2.0 c.if-load-ne0.false in
    let e : EndView = end_of c.load.new.seat.me.0 in
    let is : e ≡ end_of p.seat.me.0 = ap (λ (m : Sat). end_of m.0) same in
    let looked = c.load-found.ensures.2.2 (λ none_new. c.if-found-pass.false (none_new ∙ (ap (λ (z : EndView). length (taken_frames z.past)) is ∙ sym p.rests.4))) in
    let there : c.place_of-place.result ≡ front e = c.place_of-place.ensures ∙ ((λ i. place (sym p.keyed i) ((c.peer-other.ensures ∙ ap peer_of (sym p.rests.1)) i) (p.rests.4 i)) ∙ ap front (sym is)) in
    let held = ap (λ (m : Sat). m.1) looked.1 in
    (search rules, (Some looked.0, held ∙ (λ i. (sym there i, Some looked.0) ∷ rest (sym held i))))

pub fetch_add-requires : goal.fetch_add-requires
fetch_add-requires c =
    let p = c.args.pass.now in
    let same = c.load.ensures.2.0 c.if-load-ne0.false in
    let e : EndView = end_of c.load.new.seat.me.0 in
    let is : e ≡ end_of p.seat.me.0 = ap (λ (m : Sat). end_of m.0) same in
    let looked = c.load-found.ensures.2.2 (λ none_new. c.if-found-pass.false (none_new ∙ (ap (λ (z : EndView). length (taken_frames z.past)) is ∙ sym p.rests.4))) in
    let there : c.place_of-place.result ≡ front e = c.place_of-place.ensures ∙ ((λ i. place (sym p.keyed i) ((c.peer-other.ensures ∙ ap peer_of (sym p.rests.1)) i) (p.rests.4 i)) ∙ ap front (sym is)) in
    let now : EndView = at_turn (saw e c.load-found.result) (Takes looked.0) in
    let carried : c.exchange.new.seat.me ≡ (One now, (front now, None) ∷ []) = c.exchange.ensures.3 ∙ (λ i. ((looked.1 i).0, (there i, None) ∷ rest (looked.1 i).1)) in (
      search rules,
      search rules,
      retires c.args.self.now.table.shared.key _ c.exchange.new.seat.id _ c.exchange.new.seat.me now looked.0 carried
          (c.taken_at.ensures ∙ ap taken_word (sym p.rests.1 ∙ ap (λ (z : EndView). z.side) (sym is))) refl
          (ap (λ (z : EndView). is_cut z.past) is ∙ c.requires.uncut) (ap (λ (z : EndView). is_post_due z.past) is ∙ c.requires.reposted)
          (subst (λ (z : EndView). MayGrow z.past) (sym is) c.requires.few),
    )

pub overflow_add-pass : goal.overflow_add-pass
overflow_add-pass c = let p = c.args.pass.now in count_fits p.taken _ (end_of p.seat.me.0).past p.rests.4 (taken_within (end_of p.seat.me.0).past) c.requires.few
