use Rattle.std.proofs.Common.{◌≡◌, ℕ, List, sym, subst, ◌∙◌}
use Rattle.std.specs.Prelude.{IfOk}
use Rattle.smbd_base.specs.Counts.{credits_held, receives_grantable}
use Rattle.smbd_base.specs.History.{payload_size}
use Rattle.connection_core.proofs.QueueLemmas.{first_text}
use Rattle.connection_core.proofs.track.Track.frame_due.Goals as goal

pub returns : goal.returns
returns c =
    let t = c.args.self.now in
    let q = c.args.outgoing.now in
    let is = first_text t.limits (payload_size t.side t.limits t.past) t.past (credits_held t.side t.past) (receives_grantable t.side t.past) q c.in-Some.cutter.now c.in-Some-peek.piece
    c.bytes_of.result.now c.has_more.result c.asks_for_response-asks.result c.header-header.result (c.requires.queue.sends c.requires.agreed) (sym c.in-Some.ensures)
    (sym c.in-Some-peek.is ∙ c.peek.ensures) c.has_more.ensures c.asks_for_response-asks.ensures c.bytes_of.ensures c.header-header.ensures in
    subst (λ (bytes : List ℕ). IfOk c.data_frame-2.result (λ f. f ≡ bytes)) is c.data_frame-2.ensures
