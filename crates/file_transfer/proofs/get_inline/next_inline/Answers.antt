use Rattle.std.proofs.Common.{◌≡◌, true, Option, Some, refl, sym, ◌∙◌, subst}
use Rattle.file_messages.specs.declared.kind.Channel.TheVariants as channels
use Rattle.file_messages.specs.declared.message.Request.{Request}
use Rattle.file_pasts.specs.GetDue.{next_request}
use Rattle.file_transfer.specs.ClientStands.{past_after_sending}
use Rattle.file_transfer.specs.GetStands.{may_ask, end_after}
use Rattle.file_transfer.specs.GetClientStands.{InlineGetStands}
use Rattle.file_transfer.proofs.GetRequestsLemmas.{end-is, may_parts, ended-by}
use Rattle.file_transfer.proofs.GetGroupsLemmas.{groups-sent, ended-awaits}
use Rattle.file_transfer.proofs.get_inline.next_inline.Goals as goal

pub returns-then-not-goes_on-clause-after : goal.returns-then-not-goes_on-clause-after
returns-then-not-goes_on-clause-after c = λ past s.
    let r : Request = end_after c.args.requests.now in
    let may : may_ask past ≡ true = sym (c.may_ask.ensures channels.None past s.requests) ∙ c.if-not-may_ask.false in
    let due : next_request channels.None past ≡ Some r =
    end-is channels.None past c.args.requests.now s.requests may (may_parts past may).1 (sym (c.goes_on.ensures channels.None past s.requests) ∙ c.if-not-goes_on.true) in
    subst (λ (o : Option Request). InlineGetStands (past_after_sending o past) c.end.new.self c.args.groups.now) (sym due)
    (record {
      requests = c.in_ok-message.ensures.after channels.None past s.requests due;
      groups = groups-sent channels.None past c.args.groups.now c.args.groups.now r s.groups refl (λ h. absurd (ended-awaits channels.None past r (ended-by past r refl) h));
    })
