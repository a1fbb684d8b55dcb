use Rattle.std.proofs.Common.{sym, ◌∙◌}
use Rattle.file_messages.proofs.Faults.{refuses_reply, wanting_reply}
use Rattle.file_messages.proofs.reading.read_reply.Goals as goal

pub returns-in-Some-clause-err : goal.returns-in-Some-clause-err
returns-in-Some-clause-err c = refuses_reply c.args.asked.now c.args.message.now c.in-Some.fault (sym c.reply_fault.ensures ∙ c.in-Some.is)

pub returns-in_err-reply_fields-in-None-clause-err : goal.returns-in_err-reply_fields-in-None-clause-err
returns-in_err-reply_fields-in-None-clause-err c = wanting_reply c.args.asked.now c.args.message.now c.from_residual.result (sym c.reply_fault.ensures ∙ c.in-None.is) c.from_residual.ensures.1
