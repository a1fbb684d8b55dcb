use Rattle.std.proofs.Common.{◌≡◌, ℕ, List, Ok, subst, sym, arith}
use Rattle.std.proofs.lemmas.Grind.{common_steps}
use Rattle.buffer_descriptor.specs.Descriptors.{descriptor_of}
use Rattle.buffer_descriptor.proofs.WrittenForm.{descriptor_of-descriptor_bytes}
use Rattle.buffer_descriptor.proofs.descriptor.write.Goals as goal

pub returns-clause-value : goal.returns-clause-value
returns-clause-value c = grind (arith, common_steps)

pub returns-clause-read_back : goal.returns-clause-read_back
returns-clause-read_back c = λ sound.
    subst (λ (bytes : List ℕ). descriptor_of bytes ≡ Ok c.args.descriptor.now) (sym (returns-clause-value c))
    (descriptor_of-descriptor_bytes c.args.descriptor.now (omega arith) (omega arith) (omega arith) sound)
