use Rattle.std.proofs.Common.{◌≡◌, ℕ, ◌++◌, List, [], take, drop, length, replicate, ◌∙◌, ap, arith}
use Rattle.std.proofs.lemmas.List.{drop_all, length-take}
use Rattle.smbd_base.proofs.FrameLaws.{header_bytes-empty, header_bytes-filled}
use Rattle.smbd_base.specs.DataFrame.{flag_bits}
use Rattle.transfer_msg.proofs.HeaderLemmas.{put_16, put_32, put_empty, put_filled, flag_number}
use Rattle.transfer_msg.proofs.writing.write.Goals as goal

pub returns-then-header-eq0-clause-bytes : goal.returns-then-header-eq0-clause-bytes
returns-then-header-eq0-clause-bytes c =
    let header = c.args.header.now in
    let long : length (take 20 c.args.out.now) ≡ 20 = omega (arith, length-take 20 c.args.out.now) in
    let zeros : c.fill.new.self ≡ replicate 20 0 = c.fill.ensures.after (λ y e. e) ∙ ap (λ (n : ℕ). replicate n 0) long in
    rw (c.if-header-eq0.true, header_bytes-empty header.credits_requested header.credits_granted header.response_requested header.remaining)
    (c.put_u16-then-header-eq0.ensures.bytes
    ∙ ap (put_16 2 header.credits_granted) (c.put_u16.ensures.bytes ∙ ap (λ (front : List ℕ). put_16 0 header.credits_requested (front ++ drop 20 c.args.out.now)) zeros)
    ∙ put_empty header.credits_requested header.credits_granted (drop 20 c.args.out.now))

pub returns-clause-bytes : goal.returns-clause-bytes
returns-clause-bytes c =
    let header = c.args.header.now in
    let none_after : drop 24 c.args.out.now ≡ [] = drop_all 24 c.args.out.now (omega arith) in
    let zeros : c.fill-2.new.self ≡ replicate 24 0 = c.fill-2.ensures.after (λ y e. e) ∙ ap (λ (n : ℕ). replicate n 0) c.told-out in
    let flags : c.from.result ≡ flag_bits header.response_requested = c.from.ensures ∙ flag_number header.response_requested in
    rw (none_after, header_bytes-filled header.credits_requested header.credits_granted header.response_requested header.remaining header.length (omega arith))
    (c.put_u32-3.ensures.bytes ∙ ap (put_32 16 header.length)
    (c.put_u32-2.ensures.bytes ∙ ap (put_32 12 24)
    (c.put_u32.ensures.bytes ∙ ap (put_32 8 header.remaining)
    (c.put_u16-4.ensures.bytes ∙ ap (λ (number : ℕ). put_16 4 number c.put_u16-3.new.out) flags ∙ ap (put_16 4 (flag_bits header.response_requested))
    (c.put_u16-3.ensures.bytes ∙ ap (put_16 2 header.credits_granted)
    (c.put_u16-2.ensures.bytes ∙ ap (put_16 0 header.credits_requested) zeros)))))
    ∙ put_filled header.credits_requested header.credits_granted (flag_bits header.response_requested) header.remaining header.length)
