-- What the promise of a command that reads all of its input says where nothing fails.
use Rattle.std.proofs.Common.{◌≡◌, ◌⊎◌, inl, inr, ℕ, List, refl, sym, ap, ◌∙◌, arith}
use Rattle.smbd_outside.specs.declared.status.Status.{Status}
use Rattle.smbd_outside.specs.declared.status.Status.TheVariants.{Done, Usage, ReadFault, WriteFault, LogFault, TooLong, Cut, BadInput, NoMemory}
use Rattle.command_words.specs.declared.options.Plain.{Plain}
use Rattle.end_workers.specs.Promise.{Stream}
use Rattle.smbd_cli.specs.Plain.{KeepsPlainPromise, IsFairPlain, bad_line, status_by_line}
use Rattle.copy_loads.proofs.Completing.{read_most, read_all}

pub plain_completes : (status : Status) (command : Plain) (source sink : Stream) (input : List ℕ) → KeepsPlainPromise status command source sink
    → IsFairPlain source sink input → (status ≡ status_by_line (bad_line command input)) ⊎ (status ≡ NoMemory)
plain_completes Done command source sink input k fair =
    let all = read_all source.before source.now input k.input fair.told k.read k.ends.0.whole.at_end in
    inl (sym (ap (λ (t : List ℕ). status_by_line (bad_line command t)) (sym all) ∙ ap status_by_line k.ends.0.good))
plain_completes (BadInput line) command source sink input k fair =
    let all = read_all source.before source.now input k.input fair.told k.read k.ends.0.at_end in
    inl (sym (ap (λ (t : List ℕ). status_by_line (bad_line command t)) (sym all) ∙ ap status_by_line k.ends.1))
plain_completes NoMemory command source sink input k fair = inr refl
plain_completes ReadFault command source sink input k fair = absurd (fair.reads k.ends.0.1)
plain_completes WriteFault command source sink input k fair = absurd (fair.writes k.ends.2)
plain_completes TooLong command source sink input k fair =
    absurd (let most = read_most source.before source.now input k.input fair.told k.read in let long = k.ends.0 in let short = fair.short in omega arith)
plain_completes Usage command source sink input k fair = absurd k.ends
plain_completes LogFault command source sink input k fair = absurd k.ends
plain_completes Cut command source sink input k fair = absurd k.ends

-- such a command never answers that the words name none
pub never_plain_usage : (status : Status) (command : Plain) (source sink : Stream) → KeepsPlainPromise status command source sink → status ≡ Usage → ⊥
never_plain_usage Usage command source sink k is = k.ends
never_plain_usage Done command source sink k is = cc
never_plain_usage NoMemory command source sink k is = cc
never_plain_usage ReadFault command source sink k is = cc
never_plain_usage WriteFault command source sink k is = cc
never_plain_usage LogFault command source sink k is = cc
never_plain_usage TooLong command source sink k is = cc
never_plain_usage Cut command source sink k is = cc
never_plain_usage (BadInput line) command source sink k is = cc
