-- What the promise of a copy says where nothing fails.
use Rattle.std.proofs.Common.{◌≡◌, inl, inr, ℕ, ◌≤◌, true, is_some, Option, Some, None, List, ◌++◌, length, refl, sym, ap, ◌∙◌, subst, length-append, arith}
use Rattle.std.proofs.lemmas.List.{append-nil}
use Rattle.std.specs.Io.KnownBytes.{Appends, Consumes, IsAtEnd}
use Rattle.smbd_outside.specs.declared.status.Status.{Status}
use Rattle.smbd_outside.specs.declared.status.Status.TheVariants.{Done, Usage, ReadFault, WriteFault, LogFault, TooLong, Cut, BadInput, NoMemory}
use Rattle.copy_parts.specs.declared.options.CopyOptions.{CopyOptions}
use Rattle.end_workers.specs.Promise.{Stream, KeepsPromise, IsFair, IsCopied, Succeeds}

-- no more was read than there was
pub read_most : (before now : Option (List ℕ)) (bytes read : List ℕ) → before ≡ Some bytes → Consumes before now read → length read ≤ length bytes
read_most None now bytes read told c = absurd cc
read_most (Some all) None bytes read told c = absurd c
read_most (Some all) (Some left) bytes read told c =
    let same : all ≡ bytes = cc in
    omega (arith, length-append read left, ap length c, ap length same)

-- what was read to the end is all that there was
pub read_all : (before now : Option (List ℕ)) (bytes read : List ℕ) → before ≡ Some bytes → Consumes before now read → IsAtEnd now → read ≡ bytes
read_all None now bytes read told c at_end = absurd cc
read_all (Some all) None bytes read told c at_end = absurd c
read_all (Some all) (Some left) bytes read told c at_end =
    let same : all ≡ bytes = cc in
    sym (append-nil read) ∙ ap (λ (t : List ℕ). read ++ t) (sym at_end) ∙ sym c ∙ same

asked : (cut : Option ℕ) (number : ℕ) → cut ≡ Some number → is_some cut ≡ true
asked None number e = absurd (let b : ⊥ = cc in b)
asked (Some n) number e = refl

pub completes : (status : Status) (o : CopyOptions) (source sink log : Stream) (bytes : List ℕ) → KeepsPromise status o source sink log → IsFair source sink log bytes
    → Succeeds o status
completes Done o source sink log bytes k fair = inl refl
completes NoMemory o source sink log bytes k fair = inr (inr refl)
completes ReadFault o source sink log bytes k fair = absurd (fair.reads k.ends.3)
completes WriteFault o source sink log bytes k fair = absurd (fair.writes k.ends.2)
completes LogFault o source sink log bytes k fair = absurd (fair.logs k.ends.3)
completes TooLong o source sink log bytes k fair =
    absurd (let most = read_most source.before source.now bytes k.course.bytes fair.told k.moves.read in let long = k.ends.1 in let short = fair.short in omega arith)
completes Usage o source sink log bytes k fair = absurd k.ends
completes Cut o source sink log bytes k fair = inr (inl (refl, asked o.cut k.ends.3.number k.ends.3.asked))
completes (BadInput line) o source sink log bytes k fair = absurd k.ends

pub copies : (status : Status) (o : CopyOptions) (source sink log : Stream) (bytes : List ℕ) → KeepsPromise status o source sink log → source.before ≡ Some bytes → status ≡ Done → IsCopied source sink bytes
copies Done o source sink log bytes k told is =
    let all = read_all source.before source.now bytes k.course.bytes told k.moves.read k.ends.1 in
    record {
      at_end = k.ends.1;
      got = subst (λ (bs : List ℕ). Appends sink.before sink.now bs) (k.ends.0.stored ∙ all) k.moves.stored;
    }
copies NoMemory o source sink log bytes k told is = absurd (let b : ⊥ = cc in b)
copies ReadFault o source sink log bytes k told is = absurd (let b : ⊥ = cc in b)
copies WriteFault o source sink log bytes k told is = absurd (let b : ⊥ = cc in b)
copies LogFault o source sink log bytes k told is = absurd (let b : ⊥ = cc in b)
copies TooLong o source sink log bytes k told is = absurd (let b : ⊥ = cc in b)
copies Usage o source sink log bytes k told is = absurd (let b : ⊥ = cc in b)
copies Cut o source sink log bytes k told is = absurd (let b : ⊥ = cc in b)
copies (BadInput line) o source sink log bytes k told is = absurd (let b : ⊥ = cc in b)

-- a copy never answers that the words name no command
pub never_usage : (status : Status) (o : CopyOptions) (source sink log : Stream) → KeepsPromise status o source sink log → status ≡ Usage → ⊥
never_usage Usage o source sink log k is = k.ends
never_usage Done o source sink log k is = cc
never_usage NoMemory o source sink log k is = cc
never_usage ReadFault o source sink log k is = cc
never_usage WriteFault o source sink log k is = cc
never_usage LogFault o source sink log k is = cc
never_usage TooLong o source sink log k is = cc
never_usage Cut o source sink log k is = cc
never_usage (BadInput line) o source sink log k is = cc
