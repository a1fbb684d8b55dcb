use Rattle.std.proofs.Common.{◌+◌, List, map, ap}
use Rattle.file_messages.specs.Runs.{end_request}
use Rattle.file_transfer.specs.declared.loaded_page.LoadedPage.{LoadedPage}
use Rattle.file_transfer.specs.ClientStands.{descriptor_in}
use Rattle.file_transfer.proofs.client_requests.ClientRequests.ask_end.Goals as goal

pub returns-clause-after : goal.returns-clause-after
returns-clause-after c = λ past stands.
    c.ask.ensures past (end_request (c.args.self.now.sent + 1) c.args.offset) (c.reserve.ensures.same past stands)
    (ap (λ (ps : List LoadedPage). record { asked = record { op = 3; channel = 0; id = c.args.self.now.sent + 1; length = 0 }; named = map descriptor_in ps }) c.new.ensures.items)
