use Rattle.std.proofs.Common.{◌≡◌, ◌+◌, ◌*◌, ◌%◌, ◌≤◌, ◌++◌, ℕ, false, Option, Some, None, List, length, drop, map, refl, sym, ap, ◌∙◌, subst, arith}
use Rattle.std.specs.Prelude.{option_map}
use Rattle.std.specs.List.{flat_map}
use Rattle.buffer_descriptor.specs.Descriptors.{descriptor_bytes}
use Rattle.file_messages.specs.declared.message.Request.{Request}
use Rattle.file_messages.specs.Messages.{request_bytes, header_bytes}
use Rattle.file_messages.specs.Runs.{pages_of, registered_write}
use Rattle.file_pasts.specs.ClientPast.{ClientEvent, groups_in, requests_sent, has_failed}
use Rattle.file_pasts.specs.PutDue.{jobs_due, next_request, descriptors_for}
use Rattle.file_pasts.specs.InStep.{over}
use Rattle.file_pasts.proofs.GroupLemmas.{short_at, total-take-short}
use Rattle.file_pasts.proofs.Naming.{all_short, few_pages}
use Rattle.file_transfer.specs.declared.loaded_page.LoadedPage.{LoadedPage}
use Rattle.file_transfer.specs.ClientStands.{descriptor_in, pages_named, past_after_sending}
use Rattle.file_transfer.specs.PutStands.{RequestsStand}
use Rattle.file_transfer.specs.declared.put_registered.RegisteredGroups.{RegisteredGroups}
use Rattle.file_transfer.specs.PutRegisteredStands.{RegisteredStand, RegisteredPutStands}
use Rattle.file_transfer.proofs.PutBounds.{descriptors-length}
use Rattle.file_transfer.proofs.PutInlineLemmas.{on_ok-map}
use Rattle.file_transfer.proofs.PutRegisteredLemmas.{IsNextGroup, next_group, none_wait, pages-due, write-bytes, stand-asked, stand-ended, length-pages}
use Rattle.file_transfer.proofs.put_registered.next_registered.Goals as goal

pub returns-in_default-clause-after : goal.returns-in_default-clause-after
returns-in_default-clause-after c = λ w past s.
    let sent = none_wait w past c.args.groups.now s.groups (c.in_default.ensures.none refl) in
    on_ok-map c.next_end.result
    (λ (q : RequestsStand (over w) (past_after_sending (next_request (over w) past) past) c.next_end.new.self). record {
      requests = q;
      groups = stand-ended w past c.args.requests.now c.args.groups.now (next_request (over w) past) s.requests s.groups sent refl;
    })
    (c.next_end.ensures.after (over w) past s.requests sent)

-- the group that is next has at most 16 pages
few_of : (size count : ℕ) (group : List ℕ) → size ≡ length group → length group ≤ 65536 → count ≡ length (pages_of group) → count ≤ 16
few_of size count group e h f = omega (arith, f, few_pages group h)

short_next : (w size : ℕ) (past : List ClientEvent) (rest : List ℕ) (n : IsNextGroup past size rest) (g : RegisteredGroups) → RegisteredStand w past g → length n.group ≤ 65536
short_next w size past rest n g s = short_at (length (requests_sent past)) (groups_in past) n.group (all_short (over w) past s.lawful) n.get

pub fresh_of-requires : goal.fresh_of-requires
fresh_of-requires c =
    let r = c.requires in
    let n = next_group r.windows r.past c.args.groups.now c.in-Some.size (drop 1 c.args.groups.now.waiting.items) r.stands.groups c.in-Some.ensures.some in
    let few = few_of c.in-Some.size c.pages_in-count.result n.group n.size_is (short_next r.windows c.in-Some.size r.past (drop 1 c.args.groups.now.waiting.items) n c.args.groups.now r.stands.groups) (c.pages_in-count.ensures n.group n.size_is) in
    omega (arith, few, c.page_after-first.ensures.within)

pub returns-in_default-2-clause-due : goal.returns-in_default-2-clause-due
returns-in_default-2-clause-due c = λ w past s.
    let n = next_group w past c.args.groups.now c.in-Some.size (drop 1 c.args.groups.now.waiting.items) s.groups c.in-Some.ensures.some in
    let going : has_failed past ≡ false = sym (c.has_failed.ensures (over w) past s.requests) ∙ c.if-has_failed.false in
    let first_is : c.page_after-first.result ≡ length (requests_sent past) % w * 16 =
    c.page_after-first.ensures.at w past s.groups ∙ ap (λ (k : ℕ). k % w * 16) (c.from.ensures ∙ c.sent.ensures ∙ s.requests.asked.sent) in
    let none : descriptors_for c.page_after-first.result (pages_of n.group) past ≡ None =
    sym (c.in_ok-pages.ensures w past (pages_of n.group) s.groups.slots (sym (c.pages_in-count.ensures n.group n.size_is))) ∙ ap (option_map pages_named) c.in_default-2.is in
    ap (option_map request_bytes) (sym (pages-due w c.page_after-first.result c.in-Some.size past c.args.requests.now (drop 1 c.args.groups.now.waiting.items) n s.requests going first_is
    ∙ ap (option_map (registered_write (c.args.requests.now.asked.sent + 1) c.args.requests.now.offset n.group)) none))

pub returns-in_default-2-clause-after : goal.returns-in_default-2-clause-after
returns-in_default-2-clause-after c = λ w past s.
    let n = next_group w past c.args.groups.now c.in-Some.size (drop 1 c.args.groups.now.waiting.items) s.groups c.in-Some.ensures.some in
    let going : has_failed past ≡ false = sym (c.has_failed.ensures (over w) past s.requests) ∙ c.if-has_failed.false in
    let first_is : c.page_after-first.result ≡ length (requests_sent past) % w * 16 =
    c.page_after-first.ensures.at w past s.groups ∙ ap (λ (k : ℕ). k % w * 16) (c.from.ensures ∙ c.sent.ensures ∙ s.requests.asked.sent) in
    let none : descriptors_for c.page_after-first.result (pages_of n.group) past ≡ None =
    sym (c.in_ok-pages.ensures w past (pages_of n.group) s.groups.slots (sym (c.pages_in-count.ensures n.group n.size_is))) ∙ ap (option_map pages_named) c.in_default-2.is in
    let due : next_request (over w) past ≡ None =
    pages-due w c.page_after-first.result c.in-Some.size past c.args.requests.now (drop 1 c.args.groups.now.waiting.items) n s.requests going first_is
    ∙ ap (option_map (registered_write (c.args.requests.now.asked.sent + 1) c.args.requests.now.offset n.group)) none in
    subst (λ (o : Option Request). RegisteredPutStands w (past_after_sending o past) c.args.requests.now c.args.groups.now) (sym due) s

pub write_over_pages-requires : goal.write_over_pages-requires
write_over_pages-requires c =
    let r = c.requires in
    let n = next_group r.windows r.past c.args.groups.now c.in-Some.size (drop 1 c.args.groups.now.waiting.items) r.stands.groups c.in-Some.ensures.some in
    let count = c.pages_in-count.ensures n.group n.size_is in
    let few = few_of c.in-Some.size c.pages_in-count.result n.group n.size_is (short_next r.windows c.in-Some.size r.past (drop 1 c.args.groups.now.waiting.items) n c.args.groups.now r.stands.groups) count in
    let found : descriptors_for c.page_after-first.result (pages_of n.group) r.past ≡ Some (pages_named c.in-Some-2.pages) =
    sym (c.in_ok-pages.ensures r.windows r.past (pages_of n.group) r.stands.groups.slots (sym count)) ∙ ap (option_map pages_named) c.in-Some-2.is in
    omega (arith, few, count, ap length c.as_slice.ensures.value, descriptors-length c.page_after-first.result (pages_of n.group) r.past (pages_named c.in-Some-2.pages) found, length-pages c.in-Some-2.pages.items)

pub reserve-requires-2 : goal.reserve-requires-2
reserve-requires-2 c =
    let r = c.requires in
    let n = next_group r.windows r.past c.args.groups.now c.in-Some.size (drop 1 c.args.groups.now.waiting.items) r.stands.groups c.in-Some.ensures.some in
    let few = few_of c.in-Some.size c.pages_in-count.result n.group n.size_is (short_next r.windows c.in-Some.size r.past (drop 1 c.args.groups.now.waiting.items) n c.args.groups.now r.stands.groups) (c.pages_in-count.ensures n.group n.size_is) in
    omega (arith, few)

pub name_pages-requires : goal.name_pages-requires
name_pages-requires c =
    let r = c.requires in
    let n = next_group r.windows r.past c.args.groups.now c.in-Some.size (drop 1 c.args.groups.now.waiting.items) r.stands.groups c.in-Some.ensures.some in
    let few = few_of c.in-Some.size c.pages_in-count.result n.group n.size_is (short_next r.windows c.in-Some.size r.past (drop 1 c.args.groups.now.waiting.items) n c.args.groups.now r.stands.groups) (c.pages_in-count.ensures n.group n.size_is) in
    omega (arith, few, c.page_after-first.ensures.within)

pub ask-requires-clause-fits : goal.ask-requires-clause-fits
ask-requires-clause-fits c =
    let r = c.requires in
    let n = next_group r.windows r.past c.args.groups.now c.in-Some.size (drop 1 c.args.groups.now.waiting.items) r.stands.groups c.in-Some.ensures.some in
    let short = short_next r.windows c.in-Some.size r.past (drop 1 c.args.groups.now.waiting.items) n c.args.groups.now r.stands.groups in
    omega (
      arith,
      short,
      n.size_is,
      r.few,
      r.stands.requests.offset,
      c.reserve.ensures.counts.1,
      total-take-short (length (requests_sent r.past)) (groups_in r.past) (all_short (over r.windows) r.past r.stands.groups.lawful),
    )

pub returns-clause-due : goal.returns-clause-due
returns-clause-due c = λ w past s.
    let n = next_group w past c.args.groups.now c.in-Some.size (drop 1 c.args.groups.now.waiting.items) s.groups c.in-Some.ensures.some in
    let q = c.args.requests.now in
    let ps : List LoadedPage = c.in-Some-2.pages.items in
    let going : has_failed past ≡ false = sym (c.has_failed.ensures (over w) past s.requests) ∙ c.if-has_failed.false in
    let first_is : c.page_after-first.result ≡ length (requests_sent past) % w * 16 =
    c.page_after-first.ensures.at w past s.groups ∙ ap (λ (k : ℕ). k % w * 16) (c.from.ensures ∙ c.sent.ensures ∙ s.requests.asked.sent) in
    let found : descriptors_for c.page_after-first.result (pages_of n.group) past ≡ Some (pages_named c.in-Some-2.pages) =
    sym (c.in_ok-pages.ensures w past (pages_of n.group) s.groups.slots (sym (c.pages_in-count.ensures n.group n.size_is))) ∙ ap (option_map pages_named) c.in-Some-2.is in
    let due : next_request (over w) past ≡ Some (registered_write (q.asked.sent + 1) q.offset n.group (pages_named c.in-Some-2.pages)) =
    pages-due w c.page_after-first.result c.in-Some.size past q (drop 1 c.args.groups.now.waiting.items) n s.requests going first_is
    ∙ ap (option_map (registered_write (q.asked.sent + 1) q.offset n.group)) found in
    let written : c.in_ok-message.message ≡ request_bytes (registered_write (q.asked.sent + 1) q.offset n.group (map descriptor_in ps)) =
    c.in_ok-message.ensures
    ∙ ap (λ (xs : List LoadedPage). header_bytes 1 1 (c.sent-2.result + 1) c.offset.result c.in-Some.size (length xs) ++ flat_map descriptor_bytes (map descriptor_in xs)) c.as_slice.ensures.value
    ∙ ap (λ (k : ℕ). header_bytes 1 1 (k + 1) c.offset.result c.in-Some.size (length ps) ++ flat_map descriptor_bytes (map descriptor_in ps)) c.sent-2.ensures
    ∙ ap (λ (k : ℕ). header_bytes 1 1 (q.asked.sent + 1) k c.in-Some.size (length ps) ++ flat_map descriptor_bytes (map descriptor_in ps)) c.offset.ensures
    ∙ ap (λ (k : ℕ). header_bytes 1 1 (q.asked.sent + 1) q.offset k (length ps) ++ flat_map descriptor_bytes (map descriptor_in ps)) n.size_is
    ∙ ap (λ (k : ℕ). header_bytes 1 1 (q.asked.sent + 1) q.offset (length n.group) k ++ flat_map descriptor_bytes (map descriptor_in ps)) (sym (length-pages ps))
    ∙ write-bytes (q.asked.sent + 1) q.offset n.group (map descriptor_in ps) in
    ap Some written ∙ ap (option_map request_bytes) (sym due)

pub returns-clause-after : goal.returns-clause-after
returns-clause-after c = λ w past s.
    let n = next_group w past c.args.groups.now c.in-Some.size (drop 1 c.args.groups.now.waiting.items) s.groups c.in-Some.ensures.some in
    let q = c.args.requests.now in
    let going : has_failed past ≡ false = sym (c.has_failed.ensures (over w) past s.requests) ∙ c.if-has_failed.false in
    let count = c.pages_in-count.ensures n.group n.size_is in
    let first_is : c.page_after-first.result ≡ length (requests_sent past) % w * 16 =
    c.page_after-first.ensures.at w past s.groups ∙ ap (λ (k : ℕ). k % w * 16) (c.from.ensures ∙ c.sent.ensures ∙ s.requests.asked.sent) in
    let found : descriptors_for c.page_after-first.result (pages_of n.group) past ≡ Some (pages_named c.in-Some-2.pages) =
    sym (c.in_ok-pages.ensures w past (pages_of n.group) s.groups.slots (sym count)) ∙ ap (option_map pages_named) c.in-Some-2.is in
    let r : Request = registered_write (q.asked.sent + 1) q.offset n.group (pages_named c.in-Some-2.pages) in
    let due : next_request (over w) past ≡ Some r =
    pages-due w c.page_after-first.result c.in-Some.size past q (drop 1 c.args.groups.now.waiting.items) n s.requests going first_is
    ∙ ap (option_map (registered_write (q.asked.sent + 1) q.offset n.group)) found in
    let kept : c.reserve-2.new.self.kept ≡ c.args.groups.now.jobs.kept + length (pages_named c.in-Some-2.pages) =
    omega (arith, c.in_ok-reserve-2.ensures.ok, count, descriptors-length c.page_after-first.result (pages_of n.group) past (pages_named c.in-Some-2.pages) found) in
    subst (λ (o : Option Request). RegisteredPutStands w (past_after_sending o past) c.ask.new.self (record { jobs = c.reserve-2.new.self; slots = c.name_pages.new.slots; under_way = c.args.groups.now.under_way; count = c.args.groups.now.count; waiting = c.pop_front.new.self })) (sym due)
    (record {
      requests = c.ask.ensures (over w) past r (c.reserve.ensures.same (over w) past s.requests) due
          (ap (λ (k : ℕ). record { asked = record { op = 1; channel = 1; id = k + 1; length = c.in-Some.size }; named = pages_named c.in-Some-2.pages }) c.sent-2.ensures
          ∙ ap (λ (k : ℕ). record { asked = record { op = 1; channel = 1; id = q.asked.sent + 1; length = k }; named = pages_named c.in-Some-2.pages }) n.size_is);
      groups = stand-asked w c.page_after-first.result c.pages_in-count.result past c.args.groups.now _ r c.in-Some.size (drop 1 c.args.groups.now.waiting.items) n s.groups due (sym count) found
          (c.name_pages.ensures.named w past s.groups.slots) (c.reserve-2.ensures.same (jobs_due w past) past s.groups.due) kept c.pop_front.ensures.rest c.name_pages.ensures.pages refl refl refl;
    })
