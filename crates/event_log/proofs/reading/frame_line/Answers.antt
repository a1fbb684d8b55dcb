use Rattle.std.proofs.Common.{sym, ◌∙◌}
use Rattle.event_log.proofs.FrameLemmas.{frame_line-frame}
use Rattle.event_log.proofs.reading.frame_line.Goals as goal

pub returns-in-Err-clause-fault : goal.returns-in-Err-clause-fault
returns-in-Err-clause-fault c = frame_line-frame c.args.digits.now (sym c.is_frame_text.ensures ∙ c.if-not-is_frame_text.false)
