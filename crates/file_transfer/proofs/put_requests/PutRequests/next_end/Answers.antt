use Rattle.std.proofs.Common.{◌≡◌, ◌+◌, true, Option, Some, refl, sym, ap, ◌∙◌, subst}
use Rattle.std.specs.Prelude.{option_map}
use Rattle.file_messages.specs.declared.message.Request.{Request}
use Rattle.file_messages.specs.Messages.{request_bytes}
use Rattle.file_messages.specs.Runs.{end_request}
use Rattle.file_pasts.specs.PutDue.{next_request}
use Rattle.file_transfer.specs.ClientStands.{past_after_sending}
use Rattle.file_transfer.specs.PutStands.{RequestsStand}
use Rattle.file_transfer.proofs.PutRequestsLemmas.{end-none, end-some, failed-none, stand-none, stand-ended}
use Rattle.file_transfer.proofs.put_requests.PutRequests.next_end.Goals.{then-has_failed-via-then-has_failed, then-has_failed-via-else-has_failed+then-not-is_over}
use Rattle.file_transfer.proofs.put_requests.PutRequests.next_end.Goals as goal

pub returns-then-has_failed-clause-due : goal.returns-then-has_failed-clause-due
returns-then-has_failed-clause-due c = λ s past stands sent.
    ap (option_map request_bytes) (sym (elim c.then-has_failed.branch [
      | then-has_failed-via-then-has_failed w ↦ failed-none s past c.args.self.now stands (sym (c.has_failed.ensures past stands.asked) ∙ w.if-has_failed.true)
      | then-has_failed-via-else-has_failed+then-not-is_over w ↦ end-none s past c.args.self.now stands sent (sym (w.is_over.ensures s past stands) ∙ w.if-not-is_over.true)
    ]))

pub returns-then-has_failed-clause-after : goal.returns-then-has_failed-clause-after
returns-then-has_failed-clause-after c = λ s past stands sent.
    stand-none s past c.args.self.now stands (elim c.then-has_failed.branch [
      | then-has_failed-via-then-has_failed w ↦ failed-none s past c.args.self.now stands (sym (c.has_failed.ensures past stands.asked) ∙ w.if-has_failed.true)
      | then-has_failed-via-else-has_failed+then-not-is_over w ↦ end-none s past c.args.self.now stands sent (sym (w.is_over.ensures s past stands) ∙ w.if-not-is_over.true)
    ])

pub returns-clause-due : goal.returns-clause-due
returns-clause-due c = λ s past stands sent.
    ap Some c.in_ok-message.ensures.message ∙ ap (option_map request_bytes)
    (sym (end-some s past c.args.self.now stands sent (sym (c.has_failed.ensures past stands.asked) ∙ c.if-has_failed.false) (sym (c.is_over.ensures s past stands) ∙ c.if-not-is_over.false)))

pub returns-clause-after : goal.returns-clause-after
returns-clause-after c = λ s past stands sent.
    let r : Request = end_request (c.args.self.now.asked.sent + 1) c.args.self.now.offset in
    let due : next_request s past ≡ Some r =
    end-some s past c.args.self.now stands sent (sym (c.has_failed.ensures past stands.asked) ∙ c.if-has_failed.false) (sym (c.is_over.ensures s past stands) ∙ c.if-not-is_over.false) in
    subst (λ (o : Option Request). RequestsStand s (past_after_sending o past)
    (record { asked = c.ask_end.new.self; offset = c.args.self.now.offset; ended = c.args.self.now.ended; whole = c.args.self.now.whole; end_sent = true })) (sym due)
    (stand-ended s past c.args.self.now _ stands due (c.in_ok-message.ensures.after past stands.asked) refl refl refl refl)
