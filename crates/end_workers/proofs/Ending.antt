-- How a copy ends.
use Rattle.std.proofs.Common.{◌≡◌, inl, inr, ℕ, ◌+◌, ◌%◌, ◌<◌, ◌≤◌, Bool, true, false, not, ◌&&◌, Option, Some, None, List, [], ◌∷◌, ◌++◌, length, take, refl, sym, ap, ◌∙◌, subst, length-append, arith}
use Rattle.std.proofs.KnownBytes.{Appends-trans, Consumes-trans}
use Rattle.std.specs.Io.KnownBytes.{Appends, Consumes, IsAtEnd}
use mathlib.Core.List.{IsPrefix}
use Rattle.smbd_base.specs.History.{is_cut}
use Rattle.smbd_base.specs.Pages.{Entry, PageState}
use Rattle.smbd_outside.specs.declared.status.Status.{Status}
use Rattle.smbd_outside.specs.declared.status.Status.TheVariants.{Done, WriteFault, LogFault, Cut, NoMemory}
use Rattle.smbd_outside.specs.Causes.{Rose}
use Rattle.world_core.specs.Run.{State}
use Rattle.file_messages.specs.declared.layout.TheConstants.{GROUP_SIZE}
use Rattle.file_messages.specs.declared.kind.Channel.{Channel}
use Rattle.file_messages.specs.declared.kind.CopyKind.{CopyKind}
use Rattle.file_messages.specs.declared.kind.CopyKind.TheVariants as kinds
use Rattle.file_messages.specs.Runs.{groups_of}
use Rattle.file_pasts.specs.ClientPast.{is_ended}
use Rattle.file_pasts.specs.ServerDue.{wants_source}
use Rattle.page_workers.specs.Workers.{WorkerState}
use Rattle.page_crew.specs.Crews.{CrewState}
use Rattle.copy_laws.specs.Coupled.{Pasts}
use Rattle.copy_laws.specs.Kinds.{is_over}
use Rattle.copy_laws.specs.Laws.{lists_from}
use Rattle.copy_laws.proofs.Tokens.{prefix-trans}
use Rattle.copy_runs.specs.CopyPasts.{bytes_of, ended_of, groups_out, IsCopy}
use Rattle.copy_runs.specs.Laws.{IsWhole}
use Rattle.copy_runs.proofs.CopiesEnd.{copies-end}
use Rattle.copy_runs.proofs.ServersWant.{servers-want}
use Rattle.copy_log.specs.CopyLogs.{Deeds, IsLog, BeginsLog}
use Rattle.copy_parts.specs.declared.options.CopyOptions.{CopyOptions}
use Rattle.copy_parts.specs.declared.parts.Parts.{Parts}
use Rattle.copy_parts.specs.Copies.{IsUnderWay, wants_bytes}
use Rattle.copy_parts.specs.Steps.{AreWanted, HasComeOut}
use Rattle.copy_parts.proofs.Taking.{CanBeTaken}
use Rattle.end_workers.specs.declared.copy.Copy.{Copy}
use Rattle.end_workers.specs.Sizes.{most_bytes}
use Rattle.end_workers.specs.Promise.{Stream, Moves, StoresGroups, KeepsPromise, usable}
use Rattle.end_workers.specs.Progress.{moved, joined, deeds_now, HasRead, WasToldFirst, IsSoFar, IsSettled, IsAfterBarrier, StopsReading}
use Rattle.end_workers.proofs.SoundingGroups.{prefix-of, prefix-append, prefix-is, joined-append, joined-groups, usable-all, usable-rest}
use Rattle.end_workers.proofs.SoundingCopies.{is-copy, heard-is}
use Rattle.end_workers.proofs.Cutting.{cut-of}
use Rattle.end_workers.proofs.Sounding.{course_of, run-of, told-now, IsOf, sounds}

-- a stream as it is told
pub as-moved : (s : Stream) (now : Option (List ℕ)) (faults : ℕ) → s.now ≡ now → s.faults ≡ faults → s ≡ moved s now faults
as-moved s now faults n f = rw (← n, ← f) refl

-- a count that had not fallen before it rose has risen
rose-since : (before mid now : ℕ) → before ≤ mid → Rose mid now → Rose before now
rose-since before mid now later rose = omega (arith, later, rose)

-- ---- the end of the bytes

not-first : (a b c : Bool) → (not a && b && c) ≡ true → a ≡ false
not-first true b c h = absurd (let z : ⊥ = cc in z)
not-first false b c h = refl

unended : (kind : CopyKind) (channel : Channel) (workers count : ℕ) (p : Pasts) (pages : List PageState) (cs ss : List WorkerState) → IsCopy kind channel workers count p pages cs ss
    → wants_bytes kind channel count p ≡ true → ended_of kind p ≡ false
unended kinds.Put channel workers count p pages cs ss copy wants = not-first (is_ended p.client) _ _ wants
unended kinds.Get channel workers count p pages cs ss copy wants = by_want (wants_source kinds.Get p.server) refl where
  by_want : (w : Option ℕ) → wants_source kinds.Get p.server ≡ w → ended_of kinds.Get p ≡ false
  by_want None e = absurd (let b : ⊥ = cc in b)
  by_want (Some most) e = (servers-want channel workers count p pages cs ss most copy e).goes_on

-- while bytes are wanted their end was not seen
pub not-ended : (o : CopyOptions) (p : Pasts) (world : State) (crew : CrewState) → IsUnderWay o p world crew → wants_bytes o.kind o.channel o.limits.pages p ≡ true → ended_of o.kind p ≡ false
not-ended o p world crew u wants = unended o.kind o.channel o.workers o.limits.pages p crew.region.pages crew.clients crew.servers (is-copy o p world crew u) wants

-- ---- whole groups

-- what was read is whole groups, until its end was seen
pub read-whole : (o : CopyOptions) (p : Pasts) (source : Stream) (read : ℕ) (ended : Bool) → HasRead o p source read ended → ended ≡ false → length (bytes_of o.kind p) % 65536 ≡ 0
read-whole o p source read ended r e = subst (λ (n : ℕ). n % 65536 ≡ 0) r.count (r.whole e)

-- the groups that came out are the first of those of the bytes
stores-groups : (o : CopyOptions) (p : Pasts) (world : State) (crew : CrewState) (all : List ℕ) → IsUnderWay o p world crew → all ≡ bytes_of o.kind p
    → (count : ℕ) × (joined (groups_out o.kind p) ≡ joined (take count (groups_of all)))
stores-groups o p world crew all u same = (
  length (groups_out o.kind p),
  ap joined (prefix-is (groups_out o.kind p) (groups_of (bytes_of o.kind p)) (run-of o p world crew u).groups_are
      ∙ ap (λ (bs : List ℕ). take (length (groups_out o.kind p)) (groups_of bs)) (sym same)),
)

-- ---- a copy so far

module _ (o : CopyOptions) (source sink log : Stream) (p : Pasts) (pool : List Entry) (d : Deeds) (c : Copy) (s : IsSoFar o source sink log p pool d c) where
  under-way : IsUnderWay o p c.parts.world c.parts.crew
  under-way = s.stands.under_way

  all-usable : usable c.ended (bytes_of o.kind p) ≡ bytes_of o.kind p
  all-usable = usable-all c.ended (bytes_of o.kind p) (read-whole o p source c.read c.ended s.read)

  of-so-far : IsOf o p (bytes_of o.kind p) c.ended (joined (groups_out o.kind p))
  of-so-far = record { bytes_are = all-usable; ended_is = s.read.ended_is; stores = prefix-of (joined (groups_out o.kind p)) (joined (groups_out o.kind p)) refl }

  short-so-far : length (bytes_of o.kind p) ≤ most_bytes
  short-so-far = subst (λ (n : ℕ). n ≤ most_bytes) s.read.count s.read.short

  groups-so-far : StoresGroups (course_of o p c.parts.world (bytes_of o.kind p) c.ended (joined (groups_out o.kind p)) s.told.text)
  groups-so-far = stores-groups o p c.parts.world c.parts.crew (usable c.ended (bytes_of o.kind p)) under-way all-usable

  moves-so-far : Moves source sink log (course_of o p c.parts.world (bytes_of o.kind p) c.ended (joined (groups_out o.kind p)) s.told.text)
  moves-so-far = record { read = s.read.bytes; stored = s.stored.got; logged = s.told.logged; ended = s.read.last }

  memory-so-far : BeginsLog (deeds_now o p c.parts) s.told.text → KeepsPromise NoMemory o source sink log
  memory-so-far begins = record {
    course = course_of o p c.parts.world (bytes_of o.kind p) c.ended (joined (groups_out o.kind p)) s.told.text;
    moves = moves-so-far;
    sound = sounds o p c.parts.world c.parts.crew (bytes_of o.kind p) c.ended (joined (groups_out o.kind p)) s.told.text under-way of-so-far s.told.first;
    ends = (begins, short-so-far, groups-so-far);
  }

  -- more was told
  first-still : (front : List ℕ) → 0 < length (joined (groups_out o.kind p)) → WasToldFirst o c.parts.world (length (groups_out o.kind p)) (s.told.text ++ front)
  first-still front some =
      let t = s.told.first some in
      record {
        earlier = t.earlier;
        client_more = t.client_more;
        server_more = t.server_more;
        whole = t.whole;
        log = t.log;
        begins = prefix-trans t.whole s.told.text (s.told.text ++ front) t.begins (front, refl);
        brought = t.brought;
      }

  log-so-far : (now : Option (List ℕ)) (faults : ℕ) (front : List ℕ) → Appends log.now now front → BeginsLog (deeds_now o p c.parts) (s.told.text ++ front) → Rose log.faults faults
      → KeepsPromise LogFault o source sink (moved log now faults)
  log-so-far now faults front got begins rose = record {
    course = course_of o p c.parts.world (bytes_of o.kind p) c.ended (joined (groups_out o.kind p)) (s.told.text ++ front);
    moves = record {
      read = s.read.bytes;
      stored = s.stored.got;
      logged = Appends-trans log.before log.now now s.told.text front s.told.logged got;
      ended = s.read.last;
    };
    sound = sounds o p c.parts.world c.parts.crew (bytes_of o.kind p) c.ended (joined (groups_out o.kind p)) (s.told.text ++ front) under-way of-so-far (first-still front);
    ends = (begins, short-so-far, groups-so-far, rose-since log.faults_before log.faults faults s.told.later rose);
  }

pub keeps-no-memory : (o : CopyOptions) (source sink log : Stream) (p : Pasts) (pool : List Entry) (d : Deeds) (c : Copy) (s : IsSoFar o source sink log p pool d c)
    → BeginsLog (deeds_now o p c.parts) s.told.text → KeepsPromise NoMemory o source sink log
keeps-no-memory o source sink log p pool d c s begins = memory-so-far o source sink log p pool d c s begins

-- the log got a front of what was to be told, and failed
pub keeps-log-fault : (o : CopyOptions) (source sink log : Stream) (p : Pasts) (pool : List Entry) (d : Deeds) (c : Copy) (now : Option (List ℕ)) (faults : ℕ) (front : List ℕ)
    (s : IsSoFar o source sink log p pool d c) → Appends log.now now front → BeginsLog (deeds_now o p c.parts) (s.told.text ++ front) → Rose log.faults faults
    → KeepsPromise LogFault o source sink (moved log now faults)
keeps-log-fault o source sink log p pool d c now faults front s got begins rose = log-so-far o source sink log p pool d c s now faults front got begins rose

-- ---- where all is told

whole-begins : (d : Deeds) (text : List ℕ) → IsLog d text → BeginsLog d text
whole-begins d text log = record { whole = text; log = log; begins = prefix-of text text refl }

pub keeps-no-memory-settled : (o : CopyOptions) (source sink log : Stream) (c : Copy) → IsSettled o source sink log c → KeepsPromise NoMemory o source sink log
keeps-no-memory-settled o source sink log c s =
    memory-so-far o source sink log s.past s.past.pool (deeds_now o s.past c.parts) c s.so_far (whole-begins (deeds_now o s.past c.parts) s.so_far.told.text s.is_log)

-- what is logged of the ends and of the pages, where the past of the pages is equal
same-log : (o : CopyOptions) (p q : Pasts) (parts : Parts) (text : List ℕ) → q.pool ≡ p.pool → IsLog (deeds_now o p parts) text → IsLog (deeds_now o q parts) text
same-log o p q parts text same log =
    subst
    (λ (pool : List Entry). IsLog
    (record { client = parts.world.client; server = parts.world.server; clients = lists_from 0 o.workers pool; servers = lists_from o.workers o.workers pool }) text)
    (sym same) log

module _ (o : CopyOptions) (source sink log : Stream) (c : Copy) (s : IsSettled o source sink log c) where
  -- with a group more that came out
  module _ (group front : List ℕ) (parts : Parts) (came : HasComeOut o s.past group c.parts parts) (begins : IsPrefix front group) where
    later-way : IsUnderWay o came.later c.parts.world parts.crew
    later-way = subst (λ (w : State). IsUnderWay o came.later w parts.crew) came.history.world came.stands.under_way

    later-stores : IsPrefix (joined (groups_out o.kind s.past) ++ front) (joined (groups_out o.kind came.later))
    later-stores =
        subst (λ (all : List ℕ). IsPrefix (joined (groups_out o.kind s.past) ++ front) all) (sym (ap joined came.groups ∙ joined-append (groups_out o.kind s.past) (group ∷ [])))
        (prefix-append (joined (groups_out o.kind s.past)) front (group ++ []) (prefix-trans front group (group ++ []) begins ([], refl)))

    later-of : IsOf o came.later (bytes_of o.kind s.past) c.ended (joined (groups_out o.kind s.past) ++ front)
    later-of = record {
      bytes_are = all-usable o source sink log s.past s.past.pool (deeds_now o s.past c.parts) c s.so_far ∙ sym came.bytes;
      ended_is = s.so_far.read.ended_is ∙ sym came.ended;
      stores = later-stores;
    }

    later-log : IsLog (deeds_now o came.later c.parts) s.so_far.told.text
    later-log = same-log o s.past came.later c.parts s.so_far.told.text came.history.pool s.is_log

    write-fault : (now : Option (List ℕ)) (faults : ℕ) → Appends sink.now now front → Rose sink.faults faults → KeepsPromise WriteFault o source (moved sink now faults) log
    write-fault now faults got rose = record {
      course = course_of o came.later c.parts.world (bytes_of o.kind s.past) c.ended (joined (groups_out o.kind s.past) ++ front) s.so_far.told.text;
      moves = record {
        read = s.so_far.read.bytes;
        stored = Appends-trans sink.before sink.now now (joined (groups_out o.kind s.past)) front s.so_far.stored.got got;
        logged = s.so_far.told.logged;
        ended = s.so_far.read.last;
      };
      sound = sounds o came.later c.parts.world parts.crew (bytes_of o.kind s.past) c.ended (joined (groups_out o.kind s.past) ++ front) s.so_far.told.text later-way later-of
          (λ some. told-now o came.later c.parts.world parts.crew (deeds_now o came.later c.parts) s.so_far.told.text later-way later-log refl refl);
      ends = (
        later-log,
        short-so-far o source sink log s.past s.past.pool (deeds_now o s.past c.parts) c s.so_far,
        rose-since sink.faults_before sink.faults faults s.so_far.stored.later rose,
      );
    }

  -- with some bytes more that were read, fewer than a group's
  module _ (more : List ℕ) (uncut : is_cut c.parts.world.client ≡ false) (goes_on : c.ended ≡ false) (few : length more < 65536) where
    rest-usable : usable false (bytes_of o.kind s.past ++ more) ≡ bytes_of o.kind s.past
    rest-usable = usable-rest (bytes_of o.kind s.past) more (read-whole o s.past source c.read c.ended s.so_far.read goes_on) few

    rest-of : IsOf o s.past (bytes_of o.kind s.past ++ more) false (joined (groups_out o.kind s.past))
    rest-of = record {
      bytes_are = rest-usable;
      ended_is = sym goes_on ∙ s.so_far.read.ended_is;
      stores = prefix-of (joined (groups_out o.kind s.past)) (joined (groups_out o.kind s.past)) refl;
    }

    rest-groups : StoresGroups (course_of o s.past c.parts.world (bytes_of o.kind s.past ++ more) false (joined (groups_out o.kind s.past)) s.so_far.told.text)
    rest-groups = stores-groups o s.past c.parts.world c.parts.crew (usable false (bytes_of o.kind s.past ++ more)) s.so_far.stands.under_way rest-usable

    rest-long : length (bytes_of o.kind s.past ++ more) ≡ c.read + length more
    rest-long = length-append (bytes_of o.kind s.past) more ∙ ap (λ (n : ℕ). n + length more) (sym s.so_far.read.count)

    module _ (now : Option (List ℕ)) (faults : ℕ) (got : Consumes source.now now more) where
      rest-moves : Moves (moved source now faults) sink log (course_of o s.past c.parts.world (bytes_of o.kind s.past ++ more) false (joined (groups_out o.kind s.past)) s.so_far.told.text)
      rest-moves = record {
        read = Consumes-trans source.before source.now now (bytes_of o.kind s.past) more s.so_far.read.bytes got;
        stored = s.so_far.stored.got;
        logged = s.so_far.told.logged;
        ended = λ e. absurd (let b : ⊥ = cc in b);
      }

      read-stop : (status : Status) → StopsReading status c.read (length more) source.faults faults → KeepsPromise status o (moved source now faults) sink log
      read-stop status stops =
          let course = course_of o s.past c.parts.world (bytes_of o.kind s.past ++ more) false (joined (groups_out o.kind s.past)) s.so_far.told.text in
          let sound = sounds o s.past c.parts.world c.parts.crew (bytes_of o.kind s.past ++ more) false (joined (groups_out o.kind s.past)) s.so_far.told.text s.so_far.stands.under_way rest-of
          s.so_far.told.first in
          elim stops as (λ _. KeepsPromise status o (moved source now faults) sink log) [
            | inl long ↦
                subst (λ (t : Status). KeepsPromise t o (moved source now faults) sink log) (sym long.0)
                (record { course = course; moves = rest-moves; sound = sound; ends = (s.is_log, subst (λ (n : ℕ). most_bytes < n) (sym rest-long) long.1, rest-groups, refl, uncut) })
            | inr fault ↦
                subst (λ (t : Status). KeepsPromise t o (moved source now faults) sink log) (sym fault.0)
                (record {
                  course = course;
                  moves = rest-moves;
                  sound = sound;
                  ends = (
                    s.is_log,
                    subst (λ (n : ℕ). n ≤ most_bytes) (sym rest-long) fault.1,
                    rest-groups,
                    rose-since source.faults_before source.faults faults s.so_far.read.later fault.2,
                    refl,
                    uncut,
                  );
                })
          ]

-- a group came out, and the sink got a front of it and failed
pub keeps-write-fault : (o : CopyOptions) (source sink log : Stream) (c : Copy) (now : Option (List ℕ)) (faults : ℕ) (group front : List ℕ) (parts : Parts) (s : IsSettled o source sink log c)
    → HasComeOut o s.past group c.parts parts → IsPrefix front group → Appends sink.now now front → Rose sink.faults faults → KeepsPromise WriteFault o source (moved sink now faults) log
keeps-write-fault o source sink log c now faults group front parts s came begins got rose = write-fault o source sink log c s group front parts came begins now faults got rose

-- the source failed, or gave more bytes than may be copied, before a group's were read
pub keeps-read-stop : (o : CopyOptions) (source sink log : Stream) (c : Copy) (status : Status) (now : Option (List ℕ)) (faults : ℕ) (more : List ℕ) (s : IsSettled o source sink log c)
    → is_cut c.parts.world.client ≡ false → c.ended ≡ false → Consumes source.now now more → length more < GROUP_SIZE → StopsReading status c.read (length more) source.faults faults
    → KeepsPromise status o (moved source now faults) sink log
keeps-read-stop o source sink log c status now faults more s uncut goes_on got few stops = read-stop o source sink log c s more uncut goes_on few now faults got status stops

-- bytes were read, and no machine could take them
pub keeps-no-memory-reading : (o : CopyOptions) (source sink log : Stream) (c : Copy) (now : Option (List ℕ)) (faults : ℕ) (bytes : List ℕ) (ended : Bool) (s : IsSettled o source sink log c)
    → AreWanted o s.past bytes ended → CanBeTaken o s.past bytes ended c.parts.world c.parts.crew → Consumes source.now now bytes → (ended ≡ true → IsAtEnd now)
    → c.read + length bytes ≤ most_bytes → KeepsPromise NoMemory o (moved source now faults) sink log
keeps-no-memory-reading o source sink log c now faults bytes ended s wanted can got last short =
    let all = bytes_of o.kind s.past ++ bytes in
    let long = length-append (bytes_of o.kind s.past) bytes in
    let goes_on : c.ended ≡ false = s.so_far.read.ended_is ∙ not-ended o s.past c.parts.world c.parts.crew s.so_far.stands.under_way wanted.wanted in
    let before = read-whole o s.past source c.read c.ended s.so_far.read goes_on in
    let whole : ended ≡ false → length all % 65536 ≡ 0 = λ e. (let group = wanted.whole e in omega (arith, before, group, long)) in
    let usable_all = usable-all ended all whole in
    let same : usable ended all ≡ bytes_of o.kind can.later = usable_all ∙ sym can.more.bytes_are in
    let stored = joined (groups_out o.kind s.past) in
    let is : IsOf o can.later all ended stored = record {
      bytes_are = same;
      ended_is = sym can.more.ended_is;
      stores = prefix-of stored (joined (groups_out o.kind can.later)) (ap joined (sym can.more.groups));
    } in
    let log_is = same-log o s.past can.later c.parts s.so_far.told.text can.more.pool s.is_log in
    let groups = stores-groups o can.later c.parts.world c.parts.crew (usable ended all) can.under_way same in
    let read = s.so_far.read.count in
    record {
      course = course_of o can.later c.parts.world all ended stored s.so_far.told.text;
      moves = record {
        read = Consumes-trans source.before source.now now (bytes_of o.kind s.past) bytes s.so_far.read.bytes got;
        stored = s.so_far.stored.got;
        logged = s.so_far.told.logged;
        ended = last;
      };
      sound = sounds o can.later c.parts.world c.parts.crew all ended stored s.so_far.told.text can.under_way is
          (λ some. told-now o can.later c.parts.world c.parts.crew (deeds_now o can.later c.parts) s.so_far.told.text can.under_way log_is refl refl);
      ends = (whole-begins (deeds_now o can.later c.parts) s.so_far.told.text log_is, omega (arith, short, long, read), (groups.0, ap joined (sym can.more.groups) ∙ groups.1));
    }

-- ---- a copy that is cut

-- the client has cut the link
pub keeps-cut : (o : CopyOptions) (source sink log : Stream) (c : Copy) → IsSettled o source sink log c → is_cut c.parts.world.client ≡ true → KeepsPromise Cut o source sink log
keeps-cut o source sink log c s is =
    let p = s.past in
    let f = s.so_far in
    let u = f.stands.under_way in
    let cut = cut-of o c.parts.world u.connected.link is in
    record {
      course = course_of o p c.parts.world (bytes_of o.kind p) c.ended (joined (groups_out o.kind p)) f.told.text;
      moves = moves-so-far o source sink log p p.pool (deeds_now o p c.parts) c f;
      sound = sounds o p c.parts.world c.parts.crew (bytes_of o.kind p) c.ended (joined (groups_out o.kind p)) f.told.text u
          (of-so-far o source sink log p p.pool (deeds_now o p c.parts) c f) f.told.first;
      ends = (
        s.is_log,
        short-so-far o source sink log p p.pool (deeds_now o p c.parts) c f,
        groups-so-far o source sink log p p.pool (deeds_now o p c.parts) c f,
        record { number = cut.number; asked = cut.asked; place = cut.place },
      );
    }

-- ---- a copy that is done

-- the client has taken END's reply
pub keeps-done : (o : CopyOptions) (source sink log : Stream) (c : Copy) (a : IsAfterBarrier o source sink log c) → is_over o.kind a.settled.past.client ≡ true
    → KeepsPromise Done o source sink log
keeps-done o source sink log c a over =
    let s = a.settled in
    let p = s.past in
    let u = s.so_far.stands.under_way in
    let whole : IsWhole o.kind o.channel o.limits.pages p =
    copies-end o.kind o.channel o.workers o.limits.pages p c.parts.crew.region.pages c.parts.crew.clients c.parts.crew.servers (is-copy o p c.parts.world c.parts.crew u) over a.none in
    let ended : c.ended ≡ true = s.so_far.read.ended_is ∙ whole.ended in
    record {
      course = course_of o p c.parts.world (bytes_of o.kind p) c.ended (joined (groups_out o.kind p)) s.so_far.told.text;
      moves = moves-so-far o source sink log p p.pool (deeds_now o p c.parts) c s.so_far;
      sound = sounds o p c.parts.world c.parts.crew (bytes_of o.kind p) c.ended (joined (groups_out o.kind p)) s.so_far.told.text u
          (of-so-far o source sink log p p.pool (deeds_now o p c.parts) c s.so_far) s.so_far.told.first;
      ends = (
        record {
          logged = s.is_log;
          short = short-so-far o source sink log p p.pool (deeds_now o p c.parts) c s.so_far;
          ended = ended;
          stored = ap joined whole.groups ∙ joined-groups (bytes_of o.kind p);
          answered = sym (heard-is o p c.parts.world c.parts.crew u) ∙ whole.answered;
        },
        s.so_far.read.last ended,
        a.uncut,
      );
    }
