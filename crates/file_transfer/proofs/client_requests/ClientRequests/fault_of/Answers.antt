use Rattle.std.proofs.Common.{ℕ, List, ap, ◌∙◌}
use Rattle.file_transfer.proofs.ClientRequestsLemmas.{refused-is}
use Rattle.file_messages.specs.Messages.{reply_of}
use Rattle.file_pasts.specs.ClientPast.{fault_of_reading}
use Rattle.file_transfer.proofs.client_requests.ClientRequests.fault_of.Goals as goal

pub returns-in-Some-oldest-clause-value : goal.returns-in-Some-oldest-clause-value
returns-in-Some-oldest-clause-value c = λ past stands.
    c.fault_in.ensures ∙ ap (λ (bytes : List ℕ). fault_of_reading (reply_of c.in-Some-oldest.asked bytes)) c.bytes.ensures
    ∙ refused-is past c.args.self.now c.in-Some-oldest.asked c.args.message.now stands c.in_default.is c.in-Some-oldest.ensures.some
