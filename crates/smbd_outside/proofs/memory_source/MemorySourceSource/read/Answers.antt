use Rattle.std.proofs.Common.{arith, ap, ◌∙◌, drop, length, take}
use Rattle.std.proofs.lemmas.List.{take_rest}
use Rattle.smbd_outside.proofs.StreamLemmas.{gives_front, gives_none}
use Rattle.smbd_outside.proofs.memory_source.MemorySourceSource.read.Goals as goal

pub returns-clause-bytes : goal.returns-clause-bytes
returns-clause-bytes c =
    let bytes = c.self.inside.bytes.items in
    let given = c.self.inside.given in
    let n = c.min-count.result in
    let left = ap (λ s. s.left) c.self.view_is in
    let rest = take_rest c.as_slice-2.result.now given ∙ ap (drop given) c.as_slice-2.ensures.value ∙ left in (
      gives_front bytes _ _ _ given n left (c.copy_from_slice.ensures.after ∙ ap (take n) rest) (omega (arith, c.min-count.ensures, ap length rest)),
      gives_none bytes _ _ _ given n c.self.inside.most left c.copy_from_slice.ensures.len (omega (arith, c.min-count.ensures, c.min.ensures, ap length rest)) c.self.invariant.1,
    )
