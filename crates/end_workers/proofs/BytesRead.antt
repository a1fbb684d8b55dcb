-- The bytes of a group are read, and handed to the machine that wants them.
use Rattle.std.proofs.Common.{◌≡◌, ◌≢◌, inl, inr, ℕ, ◌+◌, ◌-◌, ◌%◌, ◌<◌, ◌≤◌, Bool, true, false, cond, Option, List, ◌++◌, length, refl, sym, ap, ◌∙◌, subst, length-append, arith, Global}
use Rattle.std.specs.Io.KnownBytes.{Consumes, IsAtEnd}
use Rattle.std.specs.Vec.{vec_capacity}
use Rattle.std.specs.declared.vec.Vec.{Vec}
use Rattle.std.proofs.KnownBytes.{Consumes-trans}
use Rattle.smbd_base.specs.History.{is_cut}
use Rattle.smbd_outside.specs.declared.status.Status.{Status}
use Rattle.smbd_outside.specs.declared.status.Status.TheVariants.{Cut, NoMemory}
use Rattle.world_core.specs.Run.{State}
use Rattle.file_messages.specs.declared.layout.TheConstants.{GROUP_SIZE}
use Rattle.file_messages.specs.declared.kind.CopyKind.{CopyKind}
use Rattle.copy_laws.specs.Coupled.{Pasts}
use Rattle.copy_runs.specs.CopyPasts.{bytes_of}
use Rattle.page_crew.specs.Crews.{CrewState}
use Rattle.copy_parts.specs.declared.options.CopyOptions.{CopyOptions}
use Rattle.copy_parts.specs.declared.parts.Parts.{Parts}
use Rattle.copy_parts.specs.Copies.{Stands, wants_bytes}
use Rattle.copy_parts.specs.Steps.{NoneWaits, AreWanted, HasTaken, MayTake}
use Rattle.end_workers.specs.declared.copy.Copy.{Copy}
use Rattle.end_workers.specs.Progress.{moved, HasRead, StaysUncut, IsReadAll, IsWanted, GoesOn, bytes_left, StopsReading}
use Rattle.end_workers.specs.Promise.{Stream, KeepsPromise}
use Rattle.end_workers.specs.Sizes.{most_bytes}
use Rattle.end_workers.proofs.LogsKept.{kept-tellable, kept-stored}
use Rattle.end_workers.proofs.Ending.{not-ended, keeps-read-stop, keeps-no-memory-reading}
use Rattle.end_workers.proofs.Settled.{settled_by, by_past, settled-on}
use Rattle.copy_parts.proofs.Taking.{takes-lawfully}

-- ---- bytes are wanted

-- what is told of the parts, whatever their pasts: whether bytes are wanted
abbrev pub TellsWants : Copy → Bool → Type 0
TellsWants c w = (o : CopyOptions) (p : Pasts) → o.kind ≡ c.options.kind → Stands o p c.parts → w ≡ wants_bytes c.options.kind o.channel o.limits.pages p

pub is-open : (c : Copy) → GoesOn c → IsWanted c → c.ended ≡ false
is-open c h i = h.ended_is ∙ not-ended c.options h.past c.parts.world c.parts.crew h.stands.under_way (i c.options h.past refl h.stands)

pub whole-before : (c : Copy) → GoesOn c → IsWanted c → c.read % 65536 ≡ 0
whole-before c h i = h.whole (is-open c h i)

-- where none are wanted
pub wants-none : (c : Copy) (w : Bool) → w ≡ false → TellsWants c w → (o : CopyOptions) (p : Pasts) → o.kind ≡ c.options.kind → Stands o p c.parts
    → wants_bytes o.kind o.channel o.limits.pages p ≡ false
wants-none c w e tells o p kind stands = subst (λ (k : CopyKind). wants_bytes k o.channel o.limits.pages p ≡ false) (sym kind) (sym (tells o p kind stands) ∙ e)

pub is-wanted : (c : Copy) (w : Bool) → w ≡ true → TellsWants c w → IsWanted c
is-wanted c w e tells o p kind stands = subst (λ (k : CopyKind). wants_bytes k o.channel o.limits.pages p ≡ true) (sym kind) (sym (tells o p kind stands) ∙ e)

-- ---- the bytes that were read

-- the bytes of the next group, so many having been read before
pub record IsNext (before : ℕ) (bytes : List ℕ) (ended : Bool) : Type 0 where
  pub short : before + length bytes ≤ most_bytes
  pub whole : ended ≡ false → length bytes ≡ GROUP_SIZE
  pub part : ended ≡ true → length bytes < GROUP_SIZE

pub wanted-bytes : (c : Copy) (bytes : List ℕ) (ended : Bool) → IsWanted c → IsNext c.read bytes ended → (o : CopyOptions) (p : Pasts) → o.kind ≡ c.options.kind
    → Stands o p c.parts → c.read ≡ length (bytes_of o.kind p) → AreWanted o p bytes ended
wanted-bytes c bytes ended i n o p kind stands count = record {
  wanted = i o p kind stands;
  whole = n.whole;
  part = n.part;
  few = (let short : c.read + length bytes ≤ 16777216 = n.short in omega (arith, short, count));
}

-- what take_bytes tells
abbrev pub Takes : Copy → List ℕ → Bool → Parts → Type 0
Takes c bytes ended b = (o : CopyOptions) (p : Pasts) → o.kind ≡ c.options.kind → Stands o p c.parts → AreWanted o p bytes ended → HasTaken o p bytes ended c.parts b

-- the copy to whose machine they were handed
abbrev pub with_bytes : Copy → Parts → Vec ℕ Global → ℕ → Bool → Copy
with_bytes c b group read ended = record c { parts = b; group = group; read = read; ended = ended }

whole-after : (before more : ℕ) → before % 65536 ≡ 0 → more ≡ 65536 → (before + more) % 65536 ≡ 0
whole-after before more h e = omega (arith, h, e)

pub bytes-on : (c : Copy) (b : Parts) (group : Vec ℕ Global) (bytes : List ℕ) (len : ℕ) (ended : Bool) → GoesOn c → IsWanted c → IsNext c.read bytes ended → Takes c bytes ended b
    → len ≡ length bytes → GROUP_SIZE ≤ vec_capacity group → GoesOn (with_bytes c b group (c.read + len) ended)
bytes-on c b group bytes len ended h i n takes count room =
    let t = takes c.options h.past refl h.stands (wanted-bytes c bytes ended i n c.options h.past refl h.stands h.read) in
    let before = whole-before c h i in
    let tellable = kept-tellable c b t.history.world h.tellable in
    record {
      past = t.later;
      stands = t.stands;
      read = (let was = h.read in let all : length (bytes_of c.options.kind t.later) ≡ length (bytes_of c.options.kind h.past ++ bytes) = ap length t.more.bytes_are in
          let parts = length-append (bytes_of c.options.kind h.past) bytes in omega (arith, was, all, parts, count));
      short = (let short = n.short in omega (arith, short, count));
      ended_is = sym t.more.ended_is;
      whole = λ e. whole-after c.read len before (count ∙ n.whole e);
      room = room;
      tellable = record {
        client_within = tellable.client_within;
        client_small = tellable.client_small;
        server_within = tellable.server_within;
        server_small = tellable.server_small;
      };
    }

fewer-by : (e f : Bool) (before more most : ℕ) → e ≡ false → (f ≡ false → more ≡ 65536) → before + more ≤ most → cond f 0 (most + 1 - (before + more)) < cond e 0 (most + 1 - before)
fewer-by true f before more most e whole short = absurd (let x : ⊥ = cc in x)
fewer-by false true before more most e whole short = omega (arith, short)
fewer-by false false before more most e whole short = (let some = whole refl in omega (arith, short, some))

pub bytes-fewer : (c : Copy) (b : Parts) (group : Vec ℕ Global) (bytes : List ℕ) (len : ℕ) (ended : Bool) → GoesOn c → IsWanted c → IsNext c.read bytes ended → len ≡ length bytes
    → bytes_left (with_bytes c b group (c.read + len) ended) < bytes_left c
bytes-fewer c b group bytes len ended h i n count =
    fewer-by c.ended ended c.read len most_bytes (is-open c h i) (λ e. count ∙ n.whole e) (let short = n.short in omega (arith, short, count))

-- what a source gave
pub record HasGiven (from : Stream) (now : Option (List ℕ)) (faults : ℕ) (bytes : List ℕ) (ended : Bool) : Type 0 where
  pub read : Consumes from.now now bytes
  pub last : ended ≡ true → IsAtEnd now
  pub later : from.faults ≤ faults

pub bytes-stored : (c : Copy) (b : Parts) (group : Vec ℕ Global) (bytes : List ℕ) (len : ℕ) (ended : Bool) (o : CopyOptions) (from to log : Stream) (now : Option (List ℕ)) (faults : ℕ)
    → GoesOn c → IsWanted c → IsNext c.read bytes ended → Takes c bytes ended b → len ≡ length bytes → GROUP_SIZE ≤ vec_capacity group → HasGiven from now faults bytes ended
    → StaysUncut o from to log c → StaysUncut o (moved from now faults) to log (with_bytes c b group (c.read + len) ended)
bytes-stored c b group bytes len ended o from to log now faults h i n takes count room given all =
    let s = all.settled in
    let f = s.so_far in
    let kind : o.kind ≡ c.options.kind = ap (λ (x : CopyOptions). x.kind) (sym f.options) in
    let wanted = wanted-bytes c bytes ended i n o s.past kind f.stands f.read.count in
    let t = takes o s.past kind f.stands wanted in
    let before = whole-before c h i in
    let read : HasRead o t.later (moved from now faults) (c.read + len) ended = record {
      bytes = subst (λ (xs : List ℕ). Consumes from.before now xs) (sym t.more.bytes_are) (Consumes-trans from.before from.now now (bytes_of o.kind s.past) bytes f.read.bytes given.read);
      count = (let was = f.read.count in let whole : length (bytes_of o.kind t.later) ≡ length (bytes_of o.kind s.past ++ bytes) = ap length t.more.bytes_are in
          let parts = length-append (bytes_of o.kind s.past) bytes in omega (arith, was, whole, parts, count));
      short = (let short = n.short in omega (arith, short, count));
      ended_is = sym t.more.ended_is;
      last = given.last;
      whole = λ e. whole-after c.read len before (count ∙ n.whole e);
      later = (let was = f.read.later in let more = given.later in omega (arith, was, more));
    } in
    record {
      settled = settled_by o (moved from now faults) to log t.later (with_bytes c b group (c.read + len) ended)
          (settled-on o from to log (moved from now faults) to s.past t.later c b group (c.read + len) ended (by_past o from to log c s) t.stands t.history
          (subst (λ (crew : CrewState). NoneWaits crew) (sym t.crew) s.handed) read (kept-stored o s.past t.later to t.more.groups f.stored) room);
      none = t.left ∙ all.none;
      uncut = ap (λ (w : State). is_cut w.client) t.history.world ∙ all.uncut;
    }

pub given-of : (from : Stream) (was now : Option (List ℕ)) (count faults : ℕ) (bytes : List ℕ) (ended : Bool) → from.now ≡ was → from.faults ≡ count → Consumes was now bytes → (ended ≡ true → IsAtEnd now) → count ≤ faults
    → HasGiven from now faults bytes ended
given-of from was now count faults bytes ended was_is count_is read last later =
    record { read = subst (λ (x : Option (List ℕ)). Consumes x now bytes) (sym was_is) read; last = last; later = omega (arith, count_is, later) }

pub may-take : (c : Copy) (bytes : List ℕ) (ended : Bool) → GoesOn c → IsWanted c → IsNext c.read bytes ended → MayTake c.options.kind bytes ended c.parts
may-take c bytes ended h i n =
    record { options = c.options; kind_is = refl; past = h.past; stands = h.stands; wanted = wanted-bytes c bytes ended i n c.options h.past refl h.stands h.read }

-- ---- how reading stops

-- the source failed, or gave too much
pub not-cut : (status : Status) (before read faults_before faults : ℕ) → StopsReading status before read faults_before faults → status ≢ Cut
not-cut status before read faults_before faults (inl long) = λ cut. (let is = long.0 in cc)
not-cut status before read faults_before faults (inr fault) = λ cut. (let is = fault.0 in cc)

pub reading-stops : (c : Copy) (o : CopyOptions) (from to log : Stream) (was now : Option (List ℕ)) (count faults : ℕ) (status : Status) (more : List ℕ) → GoesOn c → IsWanted c
    → from.now ≡ was → from.faults ≡ count → StaysUncut o from to log c → Consumes was now more → length more < GROUP_SIZE → StopsReading status c.read (length more) count faults
    → KeepsPromise status o (moved from now faults) to log
reading-stops c o from to log was now count faults status more h i was_is count_is all read few stops =
    keeps-read-stop o from to log c status now faults more all.settled all.uncut (is-open c h i) (subst (λ (x : Option (List ℕ)). Consumes x now more) (sym was_is) read) few
    (subst (λ (n : ℕ). StopsReading status c.read (length more) n faults) (sym count_is) stops)

pub taking-stops : (c : Copy) (bytes : List ℕ) (ended : Bool) (o : CopyOptions) (from to log : Stream) (now : Option (List ℕ)) (faults : ℕ) → IsWanted c → IsNext c.read bytes ended
    → HasGiven from now faults bytes ended → StaysUncut o from to log c → KeepsPromise NoMemory o (moved from now faults) to log
taking-stops c bytes ended o from to log now faults i n given all =
    let s = all.settled in
    let f = s.so_far in
    let kind : o.kind ≡ c.options.kind = ap (λ (x : CopyOptions). x.kind) (sym f.options) in
    let wanted = wanted-bytes c bytes ended i n o s.past kind f.stands f.read.count in
    keeps-no-memory-reading o from to log c now faults bytes ended s wanted (takes-lawfully o s.past bytes ended c.parts.world c.parts.crew f.stands.under_way wanted) given.read given.last n.short

-- ---- no more is wanted

pub all-read : (c : Copy) (w : Bool) (o : CopyOptions) (from to log : Stream) → w ≡ false → TellsWants c w → StaysUncut o from to log c → IsReadAll o from to log c
all-read c w o from to log e tells all =
    let s = all.settled in
    let kind : o.kind ≡ c.options.kind = ap (λ (x : CopyOptions). x.kind) (sym s.so_far.options) in
    record { settled = s; none = all.none; uncut = all.uncut; fed = wants-none c w e tells o s.past kind s.so_far.stands }
