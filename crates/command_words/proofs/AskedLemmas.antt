-- What holds of each command that words name.
use Rattle.std.proofs.Common.{◌≡◌, ℕ, ◌≤◌, ◌==◌, Bool, true, false, cond, Option, Some, None, option_map, List, [], ◌∷◌, length, codes, refl, subst, ◌∙◌, arith}
use Rattle.std.specs.Prelude.{is_none, bytes_eq, IfSome}
use Rattle.smbd_base.specs.Limits.{Limits, IsLawful, usual_limits}
use Rattle.event_log.specs.Reading.{number_in, ◌>>=◌}
use Rattle.event_log.proofs.NumberLemmas.{number_in-some}
use Rattle.file_messages.specs.declared.kind.CopyKind.{CopyKind}
use Rattle.file_messages.specs.declared.kind.CopyKind.TheVariants as kinds
use Rattle.copy_parts.specs.declared.options.CopyOptions.{CopyOptions}
use Rattle.command_words.specs.declared.options.CopyCommand.TheVariants as copies
use Rattle.command_words.specs.declared.options.Command.{Command}
use Rattle.command_words.specs.declared.options.Command.TheVariants as commands
use Rattle.command_words.specs.declared.options.Plain.TheVariants.{Sim, Show}
use Rattle.command_words.specs.Given.{Text, Given, given_of}
use Rattle.command_words.specs.Command.{number_given, channel_given, cut_given, limits_given, options_given, copy_given, load_values, load_given, is_for_sim, sim_given, is_for_show, show_given, command_given, command_of}
use Rattle.command_words.specs.Lawful.{IsAsked}

-- where two steps gave a value, the first one gave one
bound : {A B : Type 0} (found : Option A) (step : A → Option B) (y : B) → (found >>= step) ≡ Some y → (x : A) × (found ≡ Some x) × (step x ≡ Some y)
bound None step y is = cc
bound (Some x) step y is = (x, refl, is)

mapped : {A B : Type 0} (f : A → B) (found : Option A) (y : B) → option_map f found ≡ Some y → (x : A) × (found ≡ Some x) × (f x ≡ y)
mapped f None y is = cc
mapped f (Some x) y is = (x, refl, cc)

within : (usual least most : ℕ) (text : Option Text) (n : ℕ) → least ≤ usual → usual ≤ most → number_given usual least most text ≡ Some n
    → (least ≤ n) × (n ≤ most)
within usual least most None n low high is = let same : usual ≡ n = cc in (omega arith, omega arith)
within usual least most (Some text) n low high is = let i = number_in-some least most n text is in (i.low, i.high)

numbered : (text : Option Text) (cut : Option ℕ) → cut_given text ≡ Some cut → cut ≡ Some 0 → ⊥
numbered None cut is = λ zero. cc
numbered (Some text) cut is = λ zero.
    let m = mapped (λ (number : ℕ). Some number) (number_in 1 4294967295 text) cut is in
    let low = (number_in-some 1 4294967295 m.0 text m.1).low in
    let same : Some m.0 ≡ Some 0 = m.2 ∙ zero in
    let none : m.0 ≡ 0 = cc in
    absurd (omega arith)

uncut : (text : Option Text) (cut : Option ℕ) → is_none text ≡ true → cut_given text ≡ Some cut → cut ≡ None
uncut None cut none is = cc
uncut (Some text) cut none is = cc

-- the options that are given, as far as the commands ask
record AreFrom (kind : CopyKind) (given : Given) (o : CopyOptions) : Type 0 where
  some : 1 ≤ o.workers
  few : o.workers ≤ 8
  kind_is : o.kind ≡ kind
  limits : IsLawful o.limits
  cut_is : cut_given given.cut ≡ Some o.cut

lawful : (given : Given) (limits : Limits) → limits_given given ≡ Some limits → IsLawful limits
lawful given limits is =
    let credits = bound (number_given 255 3 255 given.credits) _ limits is in
    let send_size = bound (number_given 1364 128 8192 given.send_size) _ limits credits.2 in
    let pages = bound (number_given 64 16 255 given.pages) _ limits send_size.2 in
    let made : record usual_limits { credits = credits.0; send_size = send_size.0; pages = pages.0 } ≡ limits = cc in
    subst IsLawful made (record {
      credits = within 255 3 255 given.credits credits.0 (omega arith) (omega arith) credits.1;
      send_size = within 1364 128 8192 given.send_size send_size.0 (omega arith) (omega arith) send_size.1;
      receive_size = (omega arith, omega arith);
      fragmented_size = (omega arith, omega arith);
      pages = within 64 16 255 given.pages pages.0 (omega arith) (omega arith) pages.1;
    })

from : (kind : CopyKind) (given : Given) (o : CopyOptions) → options_given kind given ≡ Some o → AreFrom kind given o
from kind given o is =
    let channel = bound (channel_given given.channel) _ o is in
    let workers = bound (number_given 4 1 8 given.workers) _ o channel.2 in
    let limits = bound (limits_given given) _ o workers.2 in
    let cut = bound (cut_given given.cut) _ o limits.2 in
    let fits = within 4 1 8 given.workers workers.0 (omega arith) (omega arith) workers.1 in
    let made : record { kind = kind; channel = channel.0; workers = workers.0; limits = limits.0; cut = cut.0 } ≡ o = cc in
    subst (AreFrom kind given) made (record { some = fits.0; few = fits.1; kind_is = refl; limits = lawful given limits.0 limits.1; cut_is = cut.1 })

abbrev AskedIfAny : Option Command → Type 0
AskedIfAny o = IfSome o IsAsked

either : (b : Bool) (x y : Option Command) → (b ≡ true → AskedIfAny x) → AskedIfAny y → AskedIfAny (cond b x y)
either true x y i j = i refl
either false x y i j = j

after : {A : Type 0} (o : Option A) (f : A → Option Command) → ((x : A) → o ≡ Some x → AskedIfAny (f x)) → AskedIfAny (o >>= f)
after None f all = tt
after (Some x) f all = all x refl

each : {A : Type 0} (f : A → Command) (o : Option A) → ((x : A) → o ≡ Some x → IsAsked (f x)) → AskedIfAny (option_map f o)
each f None all = tt
each f (Some x) all = all x refl

copy-asked : (kind : CopyKind) (given : Given) → AskedIfAny (copy_given kind given)
copy-asked kind given = either (length given.values == 0) _ None
    (λ _. each (λ (o : CopyOptions). commands.Copy (copies.Copy o)) (options_given kind given) (λ o is.
    let f = from kind given o is in
    record { may = record { some = f.some; few = f.few; numbered = numbered given.cut o.cut f.cut_is }; limits = f.limits })) tt

short : (values : List Text) (read : ℕ × ℕ) → load_values values ≡ Some read → read.1 ≤ 16777216
short [] read is = cc
short (a ∷ []) read is = cc
short (a ∷ b ∷ []) read is =
    let first = bound (number_in 0 255 a) _ read is in
    let len = bound (number_in 0 16777216 b) _ read first.2 in
    let high = (number_in-some 0 16777216 len.0 b len.1).high in
    let same : len.0 ≡ read.1 = cc in
    omega arith
short (a ∷ b ∷ c ∷ rest) read is = cc

load-asked : (given : Given) → AskedIfAny (load_given given)
load-asked given = either (is_none given.cut) _ None
    (λ none. after (load_values given.values) _ (λ values read.
    each (λ (o : CopyOptions). commands.Copy (copies.Load values.0 values.1 o)) (options_given kinds.Put given) (λ o is.
    let f = from kinds.Put given o is in
    record {
      may = record {
        lawful = record { some = f.some; few = f.few; numbered = numbered given.cut o.cut f.cut_is };
        kind = f.kind_is;
        uncut = uncut given.cut o.cut none f.cut_is;
        short = short given.values values read;
      };
      limits = f.limits;
    }))) tt

sim-asked : (given : Given) → AskedIfAny (sim_given given)
sim-asked given = either (is_for_sim given) _ None (λ _. each (λ (limits : Limits). commands.Plain (Sim limits)) (limits_given given) (λ _ _. tt)) tt

show-asked : (given : Given) → AskedIfAny (show_given given)
show-asked given = either (is_for_show given) (Some (commands.Plain Show)) None (λ _. tt) tt

given-asked : (name : Text) (given : Given) → AskedIfAny (command_given name given)
given-asked name given =
    either (bytes_eq name (codes "put")) _ _ (λ _. copy-asked kinds.Put given)
    (either (bytes_eq name (codes "get")) _ _ (λ _. copy-asked kinds.Get given)
    (either (bytes_eq name (codes "load")) _ _ (λ _. load-asked given)
    (either (bytes_eq name (codes "sim")) _ _ (λ _. sim-asked given)
    (either (bytes_eq name (codes "show")) _ None (λ _. show-asked given) tt))))

pub asked : (words : List Text) → IfSome (command_of words) IsAsked
asked [] = tt
asked (name ∷ words) = after (given_of words) (command_given name) (λ given _. given-asked name given)
