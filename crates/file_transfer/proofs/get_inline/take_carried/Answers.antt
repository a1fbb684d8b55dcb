use Rattle.std.proofs.Common.{◌≡◌, ◌++◌, ℕ, List, length, take, drop, sym, ap, ◌∙◌, length-take, arith}
use Rattle.std.proofs.lemmas.List.{append-nil}
use Rattle.smbd_base.specs.Fields.{u32_at}
use Rattle.file_pasts.specs.GetDue.{some_bytes}
use Rattle.file_transfer.proofs.GetGroupsLemmas.{carried, groups-carried}
use Rattle.file_transfer.proofs.get_inline.take_carried.Goals as goal

pub carried-requires : goal.carried-requires
carried-requires c =
    let r = c.requires in
    let count : c.u32_at-count.result ≡ u32_at 8 c.args.message.now = c.u32_at-count.ensures ∙ ap (u32_at 8) c.bytes-bytes.ensures in
    omega (arith, (carried r.past c.args.message.now r.lawful r.fine (omega (arith, count, c.if-count-gt0.true))).long, count, ap length c.bytes-bytes.ensures)

pub take-requires-clause-short : goal.take-requires-clause-short
take-requires-clause-short c =
    let r = c.requires in
    let count : c.u32_at-count.result ≡ u32_at 8 c.args.message.now = c.u32_at-count.ensures ∙ ap (u32_at 8) c.bytes-bytes.ensures in
    omega (arith, (carried r.past c.args.message.now r.lawful r.fine (omega (arith, count, c.if-count-gt0.true))).short, count, ap length c.carried.ensures, length-take c.u32_at-count.result (drop 12 c.bytes-bytes.result.now))

pub take-requires-clause-room : goal.take-requires-clause-room
take-requires-clause-room c =
    let r = c.requires in
    let count : c.u32_at-count.result ≡ u32_at 8 c.args.message.now = c.u32_at-count.ensures ∙ ap (u32_at 8) c.bytes-bytes.ensures in
    r.stands.room (carried r.past c.args.message.now r.lawful r.fine (omega (arith, count, c.if-count-gt0.true))).awaited

pub returns-then-count-gt0 : goal.returns-then-count-gt0
returns-then-count-gt0 c = λ past p s fine.
    let count : c.u32_at-count.result ≡ u32_at 8 c.args.message.now = c.u32_at-count.ensures ∙ ap (u32_at 8) c.bytes-bytes.ensures in
    groups-carried past c.args.message.now c.args.groups.now _ p s fine
    (c.take.ensures
    ∙ ap (λ (bs : List ℕ). c.args.groups.now.came.items ++ some_bytes bs)
    (c.carried.ensures ∙ ap (λ (bs : List ℕ). take c.u32_at-count.result (drop 12 bs)) c.bytes-bytes.ensures ∙ ap (λ (n : ℕ). take n (drop 12 c.args.message.now)) count))

pub returns-else-count-gt0 : goal.returns-else-count-gt0
returns-else-count-gt0 c = λ past p s fine.
    let count : c.u32_at-count.result ≡ u32_at 8 c.args.message.now = c.u32_at-count.ensures ∙ ap (u32_at 8) c.bytes-bytes.ensures in
    let none : 0 ≡ u32_at 8 c.args.message.now = omega (arith, count, c.if-count-gt0.false) in
    groups-carried past c.args.message.now c.args.groups.now _ p s fine
    (sym (ap (λ (bs : List ℕ). c.args.groups.now.came.items ++ some_bytes bs) (ap (λ (n : ℕ). take n (drop 12 c.args.message.now)) (sym none)) ∙ append-nil c.args.groups.now.came.items))
