use Rattle.std.proofs.Common.{◌≡◌, [], ◌∷◌, List, Option, reverse, ap, sym, ◌∙◌}
use Rattle.std.proofs.lemmas.List.{reverse-append}
use Rattle.smbd_base.specs.declared.end_id.EndId.{EndId}
use Rattle.smbd_base.specs.declared.event.Event.{Event}
use Rattle.world_core.specs.declared.choice.Step.TheVariants.{Did, Nothing}
use Rattle.world_core.specs.Attached.{linked_to}
use Rattle.world_core.specs.Choices.{answer_of}
use Rattle.world_core.specs.Linked.{event_at}
use Rattle.world_core.proofs.Pairing.{takes_next}
use Rattle.world_core.proofs.Attaching.{stepped}
use Rattle.world_core.proofs.Noting.{link_noted, order_noted, no_link_noted, no_order_noted}
use Rattle.world_core.proofs.world.record_act.Goals as goal

pub act-requires-clause-next : goal.act-requires-clause-next
act-requires-clause-next c = takes_next (linked_to c.args.own.now c.args.peer.now) (linked_to c.args.peer.now c.args.own.now) c.requires.pair

pub returns-in-Did : goal.returns-in-Did
returns-in-Did c =
    let e = c.in_ok-step.ensures in
    let o : Option Event = event_at (linked_to c.args.own.now c.args.peer.now) c.args.link_cut.now c.args.choice.now in
    let did : Did ≡ answer_of o = sym c.in-Did.is ∙ e.answer in
    let link = c.is_cut_after.ensures ∙ link_noted c.args.link_cut.now c.args.choice.now o did in
    let all = stepped c.args.link.now c.args.own.now c.args.peer.now c.args.link_cut.now c.args.choice.now c.act.new.link c.act.new.own c.act.new.peer c.is_cut_after.result
    c.requires.pair c.requires.tied e.own e.peer e.link e.looked link in
    let old : List EndId = c.args.order.now.items in
    record {
      answer = e.answer;
      own = all.own_is;
      peer = all.peer_is;
      link = link;
      order = ap (λ (es : List EndId). reverse es) c.push_reserved.ensures.items
          ∙ reverse-append c.reserve.new.self.items (c.end.result ∷ [])
          ∙ ap (λ (es : List EndId). c.end.result ∷ reverse es) c.in_ok-reserve.ensures.items
          ∙ ap (λ (x : EndId). x ∷ reverse old) c.end.ensures ∙ order_noted (reverse old) c.args.choice.now o did;
      own_same = tt;
      peer_same = tt;
      link_same = tt;
      order_same = tt;
      tied = all.tied;
    }

pub returns-in-Nothing : goal.returns-in-Nothing
returns-in-Nothing c =
    let e = c.in_ok-step.ensures in
    let o : Option Event = event_at (linked_to c.args.own.now c.args.peer.now) c.args.link_cut.now c.args.choice.now in
    let nothing : Nothing ≡ answer_of o = sym c.in-Nothing.is ∙ e.answer in
    let link = no_link_noted c.args.link_cut.now c.args.choice.now o nothing in
    let all = stepped c.args.link.now c.args.own.now c.args.peer.now c.args.link_cut.now c.args.choice.now c.act.new.link c.act.new.own c.act.new.peer c.args.link_cut.now
    c.requires.pair c.requires.tied e.own e.peer e.link e.looked link in
    record {
      answer = e.answer;
      own = all.own_is;
      peer = all.peer_is;
      link = link;
      order = ap (λ (es : List EndId). reverse es) c.in_ok-reserve.ensures.items ∙ no_order_noted (reverse c.args.order.now.items) c.args.choice.now o nothing;
      own_same = tt;
      peer_same = tt;
      link_same = tt;
      order_same = tt;
      tied = all.tied;
    }
