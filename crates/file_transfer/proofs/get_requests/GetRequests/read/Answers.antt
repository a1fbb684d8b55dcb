use Rattle.std.proofs.Common.{◌+◌, ℕ, refl, ap, ◌∙◌}
use Rattle.file_messages.specs.Runs.{channel_number}
use Rattle.file_transfer.specs.ClientStands.{Awaited, pages_named}
use Rattle.file_transfer.specs.GetStands.{read_after}
use Rattle.file_transfer.proofs.GetRequestsLemmas.{stand-read}
use Rattle.file_transfer.proofs.get_requests.GetRequests.read.Goals as goal

awaited : ℕ → ℕ → goal.After-ask → Awaited
awaited number id c = record { asked = record { op = 2; channel = number; id = id; length = 65536 }; named = pages_named c.args.pages }

pub returns-clause-after : goal.returns-clause-after
unfolding awaited
returns-clause-after c = λ past stands due.
    stand-read c.args.channel past c.args.self.now _ (read_after c.args.self.now c.args.channel c.args.pages) stands due
    (c.ask.ensures past (read_after c.args.self.now c.args.channel c.args.pages) (c.reserve.ensures.same past stands.asked)
    (ap (λ (n : ℕ). awaited n (c.sent.result + 1) c) c.number.ensures ∙ ap (λ (n : ℕ). awaited (channel_number c.args.channel) (n + 1) c) c.sent.ensures)) refl refl refl refl
