use Rattle.std.proofs.Common.{Bool, not, ◌&&◌, ◌==◌, length, sym, ap, ◌∙◌}
use Rattle.smbd_base.specs.Counts.{credits_held, receives_outstanding, receives_grantable}
use Rattle.smbd_base.specs.History.{is_response_owed, payload_size, pieces_waiting, sends}
use Rattle.connection_core.proofs.QueueLemmas.{waits-queued}
use Rattle.connection_core.proofs.track.Track.is_sending.Goals as goal

pub returns-then-is_agreed : goal.returns-then-is_agreed
returns-then-is_agreed c =
    let t = c.args.self.now in
    let q = c.args.outgoing.now in
    let why = λ (none : Bool). sends (credits_held t.side t.past) (receives_outstanding t.side t.past) (receives_grantable t.side t.past) (not none) (is_response_owed t.past) in
    c.sends.ensures
    ∙ ap why (c.is_empty.ensures ∙ sym (waits-queued (payload_size t.side t.limits t.past) t.past q (c.requires.queue.sends (sym c.if-is_agreed.ensures))))
    ∙ ap (λ (agreed : Bool). agreed && why (length (pieces_waiting t.side t.limits t.past) == 0)) c.if-is_agreed.ensures
