use Rattle.std.proofs.Common.{◌≡◌, ℕ, List, Ok, rules, subst, sym}
use Rattle.smbd_base.specs.NegotiateMessages.{read_request_of, request_of_limits}
use Rattle.smbd_base.proofs.NegotiationLaws.{read_request_of-request_bytes, request_of_limits-fits, lawful_request_of_limits}
use Rattle.negotiate_msg.proofs.writing.write_request.Goals as goal

pub returns-clause-value : goal.returns-clause-value
returns-clause-value c = search rules

pub returns-clause-read_back : goal.returns-clause-read_back
returns-clause-read_back c =
    let own = c.args.own.now in
    let lawful = c.credits.ensures.lawful in
    subst (λ (bytes : List ℕ). read_request_of bytes ≡ Ok (request_of_limits own)) (sym (returns-clause-value c))
    (read_request_of-request_bytes (request_of_limits own) (request_of_limits-fits own lawful) (lawful_request_of_limits own lawful))
