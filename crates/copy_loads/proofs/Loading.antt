-- How a load ends, by how its put ended.
use Rattle.std.proofs.Common.{◌≡◌, ◌⊎◌, inl, inr, ℕ, ◌≤◌, true, Option, Some, None, List, [], ◌++◌, length, refl, sym, ap, ◌∙◌, subst, arith}
use Rattle.std.specs.Io.KnownBytes.{Appends}
use Rattle.smbd_base.specs.History.{messages_submitted}
use Rattle.smbd_outside.specs.Causes.{Rose}
use Rattle.smbd_outside.specs.declared.status.Status.{Status}
use Rattle.smbd_outside.specs.declared.status.Status.TheVariants.{Done, Usage, ReadFault, WriteFault, LogFault, TooLong, Cut, BadInput, NoMemory}
use Rattle.file_messages.specs.declared.kind.CopyKind.{CopyKind}
use Rattle.file_messages.specs.declared.kind.CopyKind.TheVariants as kinds
use Rattle.copy_runs.specs.Runs.{request_messages}
use Rattle.copy_parts.specs.declared.options.CopyOptions.{CopyOptions}
use Rattle.made_input.specs.Made.{made_bytes}
use Rattle.made_input.proofs.MadeLemmas.{length-made}
use Rattle.load_summary.specs.Summaries.{requests_of_put, summary_text, load_line}
use Rattle.end_workers.specs.Progress.{IsUntouched}
use Rattle.end_workers.specs.Promise.{Stream, KeepsPromise, IsSilent}
use Rattle.end_workers.specs.Sizes.{most_bytes}
use Rattle.copy_loads.specs.Loads.{TellsLine, IsPut, MayWantMemory, LoadEnds, KeepsLoadPromise}
use Rattle.copy_loads.proofs.Completing.{read_most, copies}
use Rattle.copy_loads.proofs.Asked.{asked-when-done, requests-of-put}

-- a copy that isn't to be cut isn't
never-cut : (o : CopyOptions) (source sink log : Stream) → o.cut ≡ None → KeepsPromise Cut o source sink log → ⊥
never-cut o source sink log uncut k = let asked = k.ends.3.asked in cc

-- what a sink that was empty has
got-all : (before now : Option (List ℕ)) (bytes held : List ℕ) → before ≡ Some [] → now ≡ Some held → Appends before now bytes → held ≡ bytes
got-all None now bytes held empty holds got = absurd (let b : ⊥ = cc in b)
got-all (Some xs) None bytes held empty holds got = absurd (let b : ⊥ = cc in b)
got-all (Some xs) (Some ys) bytes held empty holds got =
    let none : xs ≡ [] = cc in
    let same : ys ≡ held = cc in
    sym same ∙ got ∙ ap (λ (zs : List ℕ). zs ++ bytes) none

summary-is : (a b c d : ℕ) (xs ys : List ℕ) → a ≡ b → c ≡ d → xs ≡ ys → summary_text a c xs ≡ summary_text b d ys
summary-is a b c d xs ys e f g =
    ap (λ (n : ℕ). summary_text n c xs) e ∙ ap (λ (n : ℕ). summary_text b n xs) f ∙ ap (λ (zs : List ℕ). summary_text b d zs) g

-- the made input, which counts no fault
pub record IsMade (first size : ℕ) (source : Stream) : Type 0 where
  pub made : source.before ≡ Some (made_bytes first size)
  pub short : size ≤ most_bytes
  pub none : source.faults ≡ 0

-- a put of it that stopped, and not by the log, wants memory
wants : (status : Status) (first size : ℕ) (o : CopyOptions) (source memory log : Stream) → (status ≡ LogFault → ⊥) → o.cut ≡ None → IsMade first size source
    → KeepsPromise status o source memory log → MayWantMemory status
wants Done first size o source memory log not uncut m k = tt
wants NoMemory first size o source memory log not uncut m k = tt
wants WriteFault first size o source memory log not uncut m k = tt
wants LogFault first size o source memory log not uncut m k = not refl
wants ReadFault first size o source memory log not uncut m k = (let rose = k.ends.3 in let none = m.none in omega (arith, rose, none))
wants TooLong first size o source memory log not uncut m k =
    let most = read_most source.before source.now (made_bytes first size) k.course.bytes m.made k.moves.read in
    let long = k.ends.1 in
    let short = m.short in
    omega (arith, most, long, short, length-made first size)
wants Usage first size o source memory log not uncut m k = k.ends
wants Cut first size o source memory log not uncut m k = never-cut o source memory log uncut k
wants (BadInput line) first size o source memory log not uncut m k = k.ends

module _ (first size : ℕ) (o : CopyOptions) (source memory sink log : Stream) (put : o.kind ≡ kinds.Put) (m : IsMade first size source) (empty : memory.before ≡ Some []) where
  asked : (status : Status) (k : KeepsPromise status o source memory log) → status ≡ Done → length (messages_submitted k.course.client) ≡ requests_of_put size
  asked Done k is =
      ap (λ (ms : List (List ℕ)). length ms) (asked-when-done o source memory log (made_bytes first size) k m.made)
      ∙ ap (λ (kind : CopyKind). length (request_messages kind o.channel o.limits.pages true (made_bytes first size))) put
      ∙ requests-of-put o.channel o.limits.pages (made_bytes first size) ∙ ap requests_of_put (length-made first size)
  asked NoMemory k is = absurd (let b : ⊥ = cc in b)
  asked ReadFault k is = absurd (let b : ⊥ = cc in b)
  asked WriteFault k is = absurd (let b : ⊥ = cc in b)
  asked LogFault k is = absurd (let b : ⊥ = cc in b)
  asked TooLong k is = absurd (let b : ⊥ = cc in b)
  asked Usage k is = absurd (let b : ⊥ = cc in b)
  asked Cut k is = absurd (let b : ⊥ = cc in b)
  asked (BadInput line) k is = absurd (let b : ⊥ = cc in b)

  ending : (status inner : Status) → KeepsPromise inner o source memory log → LoadEnds status inner first size source memory sink → KeepsLoadPromise status first size o sink log
  ending status inner k ends = record { source = source; memory = memory; put = inner; made = m.made; empty = empty; kept = k; asked = asked inner k; ends = ends }

  -- the put stopped
  memory-wanting : (status end : Status) → (status ≡ LogFault → ⊥) → end ≡ NoMemory → o.cut ≡ None → KeepsPromise status o source memory log → IsUntouched sink
      → KeepsLoadPromise end first size o sink log
  memory-wanting status end not is uncut k same =
      subst (λ (s : Status). KeepsLoadPromise s first size o sink log) (sym is) (ending NoMemory status k (wants status first size o source memory log not uncut m k, same))

  pub stopped : (status end : Status) → (status ≡ LogFault → end ≡ LogFault) → ((status ≡ LogFault → ⊥) → end ≡ NoMemory) → o.cut ≡ None → KeepsPromise status o source memory log
      → IsUntouched sink → KeepsLoadPromise end first size o sink log
  stopped LogFault end log_end other uncut k same =
      subst (λ (s : Status). KeepsLoadPromise s first size o sink log) (sym (log_end refl)) (ending LogFault LogFault k (refl, same))
  stopped Done end log_end other uncut k same = memory-wanting Done end (λ e. cc) (other (λ e. cc)) uncut k same
  stopped NoMemory end log_end other uncut k same = memory-wanting NoMemory end (λ e. cc) (other (λ e. cc)) uncut k same
  stopped WriteFault end log_end other uncut k same = memory-wanting WriteFault end (λ e. cc) (other (λ e. cc)) uncut k same
  stopped ReadFault end log_end other uncut k same = memory-wanting ReadFault end (λ e. cc) (other (λ e. cc)) uncut k same
  stopped TooLong end log_end other uncut k same = memory-wanting TooLong end (λ e. cc) (other (λ e. cc)) uncut k same
  stopped Usage end log_end other uncut k same = memory-wanting Usage end (λ e. cc) (other (λ e. cc)) uncut k same
  stopped Cut end log_end other uncut k same = memory-wanting Cut end (λ e. cc) (other (λ e. cc)) uncut k same
  stopped (BadInput line) end log_end other uncut k same = memory-wanting (BadInput line) end (λ e. cc) (other (λ e. cc)) uncut k same

  -- the put was done, and then the line was told
  module _ (k : KeepsPromise Done o source memory log) where
    is-put : IsPut Done first size source memory
    is-put = record { done = refl; copied = copies Done o source memory log (made_bytes first size) k m.made refl }

    telling : (status : Status) → TellsLine status (load_line first size) sink → KeepsLoadPromise status first size o sink log
    telling Done t = ending Done Done k (is-put, t)
    telling WriteFault t = ending WriteFault Done k (is-put, t)
    telling NoMemory t = ending NoMemory Done k (tt, t)
    telling Usage t = absurd t
    telling ReadFault t = absurd t
    telling LogFault t = absurd t
    telling TooLong t = absurd t
    telling Cut t = absurd t
    telling (BadInput line) t = absurd t

    -- of the bytes that came, by the report
    pub told : (status : Status) (held : List ℕ) (read submitted : ℕ) → memory.now ≡ Some held → read ≡ length (made_bytes first size)
        → submitted ≡ length (request_messages o.kind o.channel o.limits.pages true (made_bytes first size)) → TellsLine status (summary_text read submitted held) sink
        → KeepsLoadPromise status first size o sink log
    unfolding load_line
    told status held read submitted holds read_is submitted_is t =
        let count : submitted ≡ requests_of_put size =
        submitted_is ∙ ap (λ (kind : CopyKind). length (request_messages kind o.channel o.limits.pages true (made_bytes first size))) put
        ∙ requests-of-put o.channel o.limits.pages (made_bytes first size) ∙ ap requests_of_put (length-made first size) in
        let same : summary_text read submitted held ≡ load_line first size = summary-is read size submitted (requests_of_put size) held (made_bytes first size) (read_is ∙ length-made first size) count
        (got-all memory.before memory.now (made_bytes first size) held empty holds is-put.copied.got) in
        telling status (subst (λ (line : List ℕ). TellsLine status line sink) same t)

-- ---- a load that has no memory for its copy

abbrev made-stream : ℕ → ℕ → Stream
made-stream first size = record { before = Some (made_bytes first size); now = Some (made_bytes first size); faults_before = 0; faults = 0 }

abbrev empty-stream : Stream
empty-stream = record { before = Some []; now = Some []; faults_before = 0; faults = 0 }

-- whatever streams it would have had
pub unopened : (first size : ℕ) (o : CopyOptions) (sink log : Stream) → o.kind ≡ kinds.Put → o.cut ≡ None → size ≤ most_bytes → IsUntouched sink
    → ((source memory : Stream) → IsUntouched source → IsUntouched memory → KeepsPromise NoMemory o source memory log) → KeepsLoadPromise NoMemory first size o sink log
unopened first size o sink log put uncut few same kept =
    stopped first size o (made-stream first size) empty-stream sink log put (record { made = refl; short = few; none = refl }) refl NoMemory NoMemory (λ e. e) (λ not. refl) uncut
    (kept (made-stream first size) empty-stream (refl, refl) (refl, refl)) same

-- ---- where nothing fails

log-rose : (status : Status) (o : CopyOptions) (source memory log : Stream) → KeepsPromise status o source memory log → status ≡ LogFault → Rose log.faults_before log.faults
log-rose LogFault o source memory log k is = k.ends.3
log-rose Done o source memory log k is = absurd (let b : ⊥ = cc in b)
log-rose NoMemory o source memory log k is = absurd (let b : ⊥ = cc in b)
log-rose ReadFault o source memory log k is = absurd (let b : ⊥ = cc in b)
log-rose WriteFault o source memory log k is = absurd (let b : ⊥ = cc in b)
log-rose TooLong o source memory log k is = absurd (let b : ⊥ = cc in b)
log-rose Usage o source memory log k is = absurd (let b : ⊥ = cc in b)
log-rose Cut o source memory log k is = absurd (let b : ⊥ = cc in b)
log-rose (BadInput line) o source memory log k is = absurd (let b : ⊥ = cc in b)

pub load-completes : (status : Status) (first size : ℕ) (o : CopyOptions) (sink log : Stream) → KeepsLoadPromise status first size o sink log → IsSilent sink → IsSilent log
    → (status ≡ Done) ⊎ (status ≡ NoMemory)
load-completes Done first size o sink log k writes logs = inl refl
load-completes NoMemory first size o sink log k writes logs = inr refl
load-completes WriteFault first size o sink log k writes logs = absurd (writes k.ends.1.1)
load-completes LogFault first size o sink log k writes logs = absurd (logs (log-rose k.put o k.source k.memory log k.kept k.ends.0))
load-completes Usage first size o sink log k writes logs = absurd k.ends
load-completes ReadFault first size o sink log k writes logs = absurd k.ends
load-completes TooLong first size o sink log k writes logs = absurd k.ends
load-completes Cut first size o sink log k writes logs = absurd k.ends
load-completes (BadInput line) first size o sink log k writes logs = absurd k.ends

pub load-line : (status : Status) (first size : ℕ) (o : CopyOptions) (sink log : Stream) → KeepsLoadPromise status first size o sink log → status ≡ Done
    → Appends sink.before sink.now (load_line first size)
load-line Done first size o sink log k is = k.ends.1
load-line NoMemory first size o sink log k is = absurd (let b : ⊥ = cc in b)
load-line WriteFault first size o sink log k is = absurd (let b : ⊥ = cc in b)
load-line LogFault first size o sink log k is = absurd (let b : ⊥ = cc in b)
load-line Usage first size o sink log k is = absurd (let b : ⊥ = cc in b)
load-line ReadFault first size o sink log k is = absurd (let b : ⊥ = cc in b)
load-line TooLong first size o sink log k is = absurd (let b : ⊥ = cc in b)
load-line Cut first size o sink log k is = absurd (let b : ⊥ = cc in b)
load-line (BadInput line) first size o sink log k is = absurd (let b : ⊥ = cc in b)

-- a load never answers that the words name no command
pub never-load-usage : (status : Status) (first size : ℕ) (o : CopyOptions) (sink log : Stream) → KeepsLoadPromise status first size o sink log → status ≡ Usage → ⊥
never-load-usage Usage first size o sink log k is = k.ends
never-load-usage Done first size o sink log k is = cc
never-load-usage NoMemory first size o sink log k is = cc
never-load-usage ReadFault first size o sink log k is = cc
never-load-usage WriteFault first size o sink log k is = cc
never-load-usage LogFault first size o sink log k is = cc
never-load-usage TooLong first size o sink log k is = cc
never-load-usage Cut first size o sink log k is = cc
never-load-usage (BadInput line) first size o sink log k is = cc
