use Rattle.std.proofs.Common.{rules, ◌≡◌, None, ap, sym, subst, ◌∙◌}
use Rattle.smbd_base.specs.History.{submit_fault}
use Rattle.connection_core.specs.Answered.{IsSubmitFault}
use Rattle.world_core.specs.Attached.{Attached, linked_to}
use Rattle.world_core.specs.Linked.{submission}
use Rattle.world_core.proofs.Refusing.{refused}
use Rattle.world_core.proofs.linked_end.LinkedEnd.submit.Goals as goal

pub returns : goal.returns
returns c =
    let none : submission (linked_to c.args.self.now c.args.peer.now) c.args.message.now ≡ None =
    refused (linked_to c.args.self.now c.args.peer.now) c.args.message.now c.in_ok-copy.copy c.in-Err.refused.fault c.in_ok-copy.ensures
    (subst (λ (a : Attached). IsSubmitFault (submit_fault a.side a.limits a.past c.in_ok-copy.copy) c.in-Err.refused.fault) c.self.view_is c.in-Err.ensures.fault)
    (λ is. c.in_default-fault_of.not-NoMemory (c.fault_of.ensures ∙ is)) in
    record {
      answer = search rules;
      added = search rules;
      kept = search rules;
      link = search rules;
      same = search rules;
      peer_same = search rules;
      link_same = search rules;
    }
