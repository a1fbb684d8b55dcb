use Rattle.std.proofs.Common.{◌+◌, ◌-◌, ◌/◌, ℕ, length, sym, ap, ◌∙◌}
use Rattle.file_pasts.proofs.InStep.{length-parts}
use Rattle.file_transfer.proofs.put_registered.pages_in.Goals as goal

pub returns : goal.returns
returns c = λ group size. ap (λ (n : ℕ). (n + 4095) / 4096) size ∙ sym (length-parts ((length group + (4096 - 1)) / 4096) 4096 group)
