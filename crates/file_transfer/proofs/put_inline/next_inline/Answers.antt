use Rattle.std.proofs.Common.{◌≡◌, ◌+◌, ◌-◌, ℕ, Option, Some, List, [], length, take, map, refl, sym, ap, ◌∙◌, subst, arith}
use Rattle.std.specs.Prelude.{option_map}
use Rattle.file_messages.specs.declared.message.Request.{Request}
use Rattle.file_messages.specs.Messages.{request_bytes}
use Rattle.file_messages.specs.Runs.{inline_write}
use Rattle.file_pasts.specs.ClientPast.{groups_in, requests_sent, total}
use Rattle.file_pasts.specs.PutDue.{next_request}
use Rattle.file_transfer.specs.declared.loaded_page.LoadedPage.{LoadedPage}
use Rattle.file_transfer.specs.ClientStands.{descriptor_in, past_after_sending}
use Rattle.file_transfer.specs.PutStands.{RequestsStand}
use Rattle.file_transfer.specs.PutInlineStands.{InlinePutStands, without_pages}
use Rattle.file_transfer.proofs.PutInlineLemmas.{first_write, none_wait, write-due, fits-write, stand-asked, stand-ended, nothing_left, on_ok-map, going_on}
use Rattle.file_transfer.proofs.put_inline.next_inline.Goals as goal

pub returns-in_default-clause-due : goal.returns-in_default-clause-due
returns-in_default-clause-due c = λ w past s.
    let empty = nothing_left c.args.groups.now.waiting.items c.pop_front.new.self.items c.in_default.ensures.items c.pop_front.ensures.rest in
    c.next_end.ensures.due (without_pages w) past (c.reserve.ensures.same (without_pages w) past s.requests) (none_wait past c.args.groups.now s.groups empty)

pub returns-in_default-clause-after : goal.returns-in_default-clause-after
returns-in_default-clause-after c = λ w past s.
    let empty = nothing_left c.args.groups.now.waiting.items c.pop_front.new.self.items c.in_default.ensures.items c.pop_front.ensures.rest in
    let sent = none_wait past c.args.groups.now s.groups empty in
    on_ok-map c.next_end.result
    (λ (q : RequestsStand (without_pages w) (past_after_sending (next_request (without_pages w) past) past) c.next_end.new.self). record {
      requests = q;
      groups = stand-ended past c.args.groups.now _ (next_request (without_pages w) past) s.groups sent empty (sym c.in_default.ensures.items) refl refl;
    })
    (c.next_end.ensures.after (without_pages w) past (c.reserve.ensures.same (without_pages w) past s.requests) sent)

pub overflow_sub-asked : goal.overflow_sub-asked
overflow_sub-asked c =
    let s = c.requires.stands in
    let fits = fits-write c.requires.windows c.requires.past c.args.requests.now c.in-Some.message c.pop_front.new.self.items
    (first_write c.requires.past c.args.groups.now c.in-Some.message c.pop_front.new.self.items s.groups c.in-Some.ensures.items) s.requests in
    omega (arith, fits.size)

pub overflow_cast-asked : goal.overflow_cast-asked
overflow_cast-asked c =
    let s = c.requires.stands in
    let fits = fits-write c.requires.windows c.requires.past c.args.requests.now c.in-Some.message c.pop_front.new.self.items
    (first_write c.requires.past c.args.groups.now c.in-Some.message c.pop_front.new.self.items s.groups c.in-Some.ensures.items) s.requests in
    omega (arith, fits.size, fits.short)

pub ask-requires-clause-fits : goal.ask-requires-clause-fits
ask-requires-clause-fits c =
    let s = c.requires.stands in
    let fits = fits-write c.requires.windows c.requires.past c.args.requests.now c.in-Some.message c.pop_front.new.self.items
    (first_write c.requires.past c.args.groups.now c.in-Some.message c.pop_front.new.self.items s.groups c.in-Some.ensures.items) s.requests in
    omega (arith, fits.size, fits.short, fits.before, s.requests.offset, c.reserve.ensures.counts.1, c.requires.few)

pub returns-clause-due : goal.returns-clause-due
returns-clause-due c = λ w past s.
    let f = first_write past c.args.groups.now c.in-Some.message c.pop_front.new.self.items s.groups c.in-Some.ensures.items in
    let going = going_on w past c.args.requests.now s.requests (sym (c.has_failed.ensures (without_pages w) past s.requests) ∙ c.if-has_failed.false) in
    ap Some f.message_is ∙ ap (option_map request_bytes) (sym (write-due w past c.args.requests.now c.in-Some.message c.pop_front.new.self.items f s.requests going))

pub returns-clause-after : goal.returns-clause-after
returns-clause-after c = λ w past s.
    let f = first_write past c.args.groups.now c.in-Some.message c.pop_front.new.self.items s.groups c.in-Some.ensures.items in
    let going = going_on w past c.args.requests.now s.requests (sym (c.has_failed.ensures (without_pages w) past s.requests) ∙ c.if-has_failed.false) in
    let fits = fits-write w past c.args.requests.now c.in-Some.message c.pop_front.new.self.items f s.requests in
    let r : Request = inline_write (length (requests_sent past) + 1) (total (take (length (requests_sent past)) (groups_in past))) f.group in
    let due : next_request (without_pages w) past ≡ Some r = write-due w past c.args.requests.now c.in-Some.message c.pop_front.new.self.items f s.requests going in
    let id_is : c.sent.result + 1 ≡ length (requests_sent past) + 1 = omega (arith, c.sent.ensures, c.reserve.ensures.counts.0, s.requests.asked.sent) in
    let size_is : c.len.result - 24 ≡ length f.group = omega (arith, c.len.ensures, fits.size) in
    subst (λ (o : Option Request). InlinePutStands w (past_after_sending o past) c.ask.new.self (record { waiting = c.pop_front.new.self; count = c.args.groups.now.count; bytes = c.args.groups.now.bytes })) (sym due)
    (record {
      requests = c.ask.ensures (without_pages w) past r (c.reserve.ensures.same (without_pages w) past s.requests) due
          (ap (λ (ps : List LoadedPage). record { asked = record { op = 1; channel = 0; id = c.sent.result + 1; length = c.len.result - 24 }; named = map descriptor_in ps }) c.new.ensures.items
          ∙ ap (λ (k : ℕ). record { asked = record { op = 1; channel = 0; id = k; length = c.len.result - 24 }; named = [] }) id_is
          ∙ ap (λ (k : ℕ). record { asked = record { op = 1; channel = 0; id = length (requests_sent past) + 1; length = k }; named = [] }) size_is);
      groups = stand-asked w past c.args.groups.now _ r c.in-Some.message c.pop_front.new.self.items s.groups f refl refl refl;
    })
