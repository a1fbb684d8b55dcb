use Rattle.std.proofs.Common.{sym, ◌∙◌}
use Rattle.file_messages.proofs.Faults.{refuses_request, wanting_request}
use Rattle.file_messages.proofs.reading.read_request.Goals as goal

pub returns-in-Some-clause-err : goal.returns-in-Some-clause-err
returns-in-Some-clause-err c = refuses_request c.args.message.now c.in-Some.fault (sym c.request_fault.ensures ∙ c.in-Some.is)

pub returns-in_err-request_fields-in-None-clause-err : goal.returns-in_err-request_fields-in-None-clause-err
returns-in_err-request_fields-in-None-clause-err c = wanting_request c.args.message.now c.from_residual.result (sym c.request_fault.ensures ∙ c.in-None.is) c.from_residual.ensures.1
