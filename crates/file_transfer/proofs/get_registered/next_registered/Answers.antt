use Rattle.std.proofs.Common.{◌≡◌, true, Option, Some, refl, sym, ap, ◌∙◌, subst}
use Rattle.std.specs.Prelude.{option_map}
use Rattle.file_messages.specs.declared.kind.Channel.TheVariants as channels
use Rattle.file_messages.specs.declared.message.Request.{Request}
use Rattle.file_pasts.specs.GetDue.{sent, is_between_rounds, descriptors_loaded, next_request}
use Rattle.file_transfer.specs.ClientStands.{pages_named, past_after_sending}
use Rattle.file_transfer.specs.GetStands.{may_ask, read_after, end_after}
use Rattle.file_transfer.specs.GetPagesStand.{all_of}
use Rattle.file_transfer.specs.GetRegisteredStands.{RegisteredGetStands}
use Rattle.file_transfer.proofs.GetRequestsLemmas.{end-is, read-is, ended-by, unended-by, unfailed}
use Rattle.file_transfer.proofs.GetGroupsLemmas.{groups-sent, ended-awaits}
use Rattle.file_transfer.proofs.GetPagesLemmas.{all-loads}
use Rattle.file_transfer.proofs.GetRegisteredLemmas.{between-is, rounds-read, rounds-end}
use Rattle.file_transfer.proofs.get_registered.next_registered.Goals as goal

pub returns-then-not-goes_on-clause-after : goal.returns-then-not-goes_on-clause-after
returns-then-not-goes_on-clause-after c = λ past s.
    let r : Request = end_after c.args.requests.now in
    let may : may_ask past ≡ true = sym (c.may_ask.ensures channels.V1 past s.requests) ∙ c.if-not-may_ask.false in
    let between : is_between_rounds channels.V1 past ≡ true =
    between-is past c.args.rounds.now.completed c.sent.result s.rounds.completed (c.sent.ensures ∙ s.requests.asked.sent) may ∙ sym c.are_back.ensures ∙ c.if-not-are_back.false in
    let due : next_request channels.V1 past ≡ Some r = end-is channels.V1 past c.args.requests.now s.requests may between (sym (c.goes_on.ensures channels.V1 past s.requests) ∙ c.if-not-goes_on.true) in
    subst (λ (o : Option Request). RegisteredGetStands (past_after_sending o past) c.end.new.self c.args.groups.now c.args.rounds.now) (sym due)
    (record {
      requests = c.in_ok-message.ensures.after channels.V1 past s.requests due;
      groups = groups-sent channels.V1 past c.args.groups.now c.args.groups.now r s.groups refl (λ h. absurd (ended-awaits channels.V1 past r (ended-by past r refl) h));
      rounds = rounds-end past r c.args.rounds.now s.rounds (due, s.requests.lawful) (ended-by past r refl);
    })

pub returns-clause-after : goal.returns-clause-after
returns-clause-after c = λ past s.
    let r : Request = read_after c.args.requests.now channels.V1 c.in-Some.loaded in
    let may : may_ask past ≡ true = sym (c.may_ask.ensures channels.V1 past s.requests) ∙ c.if-not-may_ask.false in
    let between : is_between_rounds channels.V1 past ≡ true =
    between-is past c.args.rounds.now.completed c.sent.result s.rounds.completed (c.sent.ensures ∙ s.requests.asked.sent) may ∙ sym c.are_back.ensures ∙ c.if-not-are_back.false in
    let loaded : descriptors_loaded 16 0 (sent past) past ≡ Some (pages_named c.in-Some.loaded) =
    sym (all-loads 16 0 (sent past) past) ∙ ap all_of (sym s.rounds.loaded) ∙ sym c.in_ok-loaded.ensures ∙ ap (λ o. option_map pages_named o) c.in-Some.is in
    let due : next_request channels.V1 past ≡ Some r = read-is past c.args.requests.now c.in-Some.loaded s.requests may between (sym (c.goes_on.ensures channels.V1 past s.requests) ∙ c.if-not-goes_on.false) loaded in
    subst (λ (o : Option Request). RegisteredGetStands (past_after_sending o past) c.read.new.self c.make_room.new.self
    (record { jobs = c.args.rounds.now.jobs; slots = c.in_ok-slots.slots; next_loads = c.in_ok-next_loads.next_loads; completed = c.args.rounds.now.completed })) (sym due)
    (record {
      requests = c.in_ok-message-2.ensures.after past s.requests due;
      groups = groups-sent channels.V1 past c.args.groups.now c.make_room.new.self r s.groups c.make_room.ensures.same (λ h. c.in_ok-make_room.ensures.ok);
      rounds = rounds-read past r c.args.rounds.now _ s.rounds (due, s.requests.lawful) (unended-by past r (unfailed past may).1 refl) refl c.in_ok-slots.ensures c.in_ok-next_loads.ensures refl;
    })
