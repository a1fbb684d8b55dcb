use Rattle.std.proofs.Common.{◌≡◌, ℕ, ◌^◌, ◌<◌, List, Ok, rules, subst, sym}
use Rattle.smbd_base.specs.NegotiateMessages.{read_response_of, ResponseFits}
use Rattle.smbd_base.proofs.NegotiationLaws.{read_response_of-response_bytes}
use Rattle.negotiate_msg.specs.Shown.{shown_response}
use Rattle.negotiate_msg.specs.declared.response.NegotiateResponse.{NegotiateResponse}
use Rattle.negotiate_msg.proofs.writing.write_response.Goals as goal

fits : (r : NegotiateResponse) → r.min_version < 2 ^ 16 → r.max_version < 2 ^ 16 → r.negotiated_version < 2 ^ 16
    → r.credits_requested < 2 ^ 16 → r.credits_granted < 2 ^ 16 → r.status < 2 ^ 32 → r.max_read_write_size < 2 ^ 32
    → r.preferred_send_size < 2 ^ 32 → r.max_receive_size < 2 ^ 32 → r.max_fragmented_size < 2 ^ 32
    → ResponseFits (shown_response r)
fits r oldest newest spoken asked given status moved sent taken gathered = record {
  min_version = oldest;
  max_version = newest;
  negotiated_version = spoken;
  credits_requested = asked;
  credits_granted = given;
  status = status;
  max_read_write_size = moved;
  preferred_send_size = sent;
  max_receive_size = taken;
  max_fragmented_size = gathered;
}

pub returns-clause-value : goal.returns-clause-value
returns-clause-value c = search rules

pub returns-clause-read_back : goal.returns-clause-read_back
returns-clause-read_back c = λ client lawful.
    let response = c.args.response.now in
    subst (λ (bytes : List ℕ). read_response_of client bytes ≡ Ok (shown_response response)) (sym (returns-clause-value c))
    (read_response_of-response_bytes client (shown_response response)
    (fits response c.put_u16.ensures.fits c.put_u16-2.ensures.fits c.put_u16-3.ensures.fits c.put_u16-4.ensures.fits
    c.put_u16-5.ensures.fits c.put_u32.ensures.fits c.put_u32-2.ensures.fits c.put_u32-3.ensures.fits
    c.put_u32-4.ensures.fits c.put_u32-5.ensures.fits)
    lawful)
