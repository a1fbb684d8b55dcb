-- A round, and the jobs that are given at a barrier.
use Rattle.std.proofs.Common.{◌≡◌, inl, Result, Ok, Err, ℕ, ◌+◌, ◌/◌, ◌<◌, ◌≤◌, List, ◌++◌, length, map, reverse, get_or, refl, sym, ap, ◌∙◌, subst, append_assoc, arith}
use Rattle.std.specs.Prelude.{OnErr, OnOk}
use Rattle.std.proofs.lemmas.List.{length-map, map-append}
use Rattle.std.proofs.lemmas.Option.{slice_get_within, slice_get-get_or}
use Rattle.smbd_base.specs.declared.event.Event.{Event}
use Rattle.smbd_base.specs.declared.page_event.PageEvent.{PageEvent}
use Rattle.smbd_base.specs.History.{messages_submitted, is_cut}
use Rattle.smbd_base.specs.Pages.{Entry}
use Rattle.event_log.specs.Lines.{logged_page}
use Rattle.event_log.specs.declared.log_line.LogLine.{LogLine}
use Rattle.smbd_outside.specs.declared.status.Status.TheVariants.{NoMemory}
use Rattle.world_core.specs.Run.{State}
use Rattle.file_messages.specs.Messages.{request_bytes}
use Rattle.file_pasts.specs.ClientPast.{requests_sent}
use Rattle.page_workers.specs.Workers.{WorkerState}
use Rattle.copy_laws.specs.Coupled.{Pasts}
use Rattle.copy_laws.specs.Laws.{client_lists, server_lists}
use Rattle.copy_runs.specs.CopyPasts.{bytes_of, ended_of, groups_out}
use Rattle.copy_runs.proofs.RequestsFew.{requests-are-few}
use Rattle.copy_ends.specs.Turns.{HasGrown, IsUp}
use Rattle.page_crew.specs.Crews.{CrewState, AllGrew}
use Rattle.copy_parts.specs.declared.options.CopyOptions.{CopyOptions}
use Rattle.copy_parts.specs.declared.parts.Parts.{Parts}
use Rattle.copy_parts.specs.Copies.{IsUnderWay}
use Rattle.copy_parts.specs.Steps.{HasRun, HasGiven, MayRun}
use Rattle.end_workers.specs.declared.copy.Copy.{Copy}
use Rattle.end_workers.specs.Progress.{joined, WasToldFirst, HaveUntold, IsGoing, IsSettled, IsReadAll, IsAfterBarrier, GoesOn, deeds_now}
use Rattle.end_workers.specs.Promise.{Stream, KeepsPromise, messages_of}
use Rattle.end_workers.specs.Sizes.{most_bytes}
use Rattle.end_workers.proofs.Going.{goes-on-with}
use Rattle.end_workers.proofs.LogsKept.{kept-read, kept-stored}
use Rattle.end_workers.proofs.Sounding.{run-of}
use Rattle.end_workers.proofs.Ending.{keeps-no-memory-settled}
use Rattle.end_workers.proofs.Settled.{settled_by, by_past, settled-on}

-- ---- requests have numbers

submitted-few : (o : CopyOptions) (p : Pasts) (world : State) (crew : CrewState) → IsUnderWay o p world crew → length (bytes_of o.kind p) ≤ most_bytes → length (messages_submitted world.client) ≤ 258
submitted-few o p world crew u short =
    let few : length (messages_submitted world.client) ≤ length (bytes_of o.kind p) / 65536 + 2 =
    requests-are-few o.kind o.channel o.limits.pages (ended_of o.kind p) (bytes_of o.kind p) (messages_of o world.client world.server) (client_lists o.workers p) (server_lists o.workers p)
    (groups_out o.kind p) (run-of o p world crew u) in
    let bound : length (bytes_of o.kind p) ≤ 16777216 = short in
    omega (arith, few, bound)

few-of : (c : Copy) → GoesOn c → length (messages_submitted c.parts.world.client) ≤ 258
few-of c h = submitted-few c.options h.past c.parts.world c.parts.crew h.stands.under_way (subst (λ (n : ℕ). n ≤ most_bytes) h.read h.short)

pub may-run : (c : Copy) → GoesOn c → IsUp c.parts.world → MayRun c.parts
may-run c h up =
    let few = few-of c h in
    let sent : length (messages_submitted c.parts.world.client) ≡ length (requests_sent h.past.client) =
    ap length h.stands.under_way.tied.sent ∙ length-map (requests_sent h.past.client) request_bytes in
    record { options = c.options; past = h.past; stands = h.stands; up = up; few = omega (arith, few, sent) }

pub few-submitted : (c : Copy) (events : List Event) → GoesOn c → reverse events ≡ c.parts.world.client → length (messages_submitted (reverse events)) ≤ 4294967295
few-submitted c events h is = (let few = few-of c h in let same : length (messages_submitted (reverse events)) ≡ length (messages_submitted c.parts.world.client) =
    ap (λ (past : List Event). length (messages_submitted past)) is in omega (arith, few, same))

-- ---- a round

grown-more : (a b c : List Event) → HasGrown a b → HasGrown b c → HasGrown a c
grown-more a b c g h = record { events = h.events ++ g.events; is = h.is ∙ ap (λ (past : List Event). h.events ++ past) g.is ∙ sym (append_assoc h.events g.events a) }

told-first-later : (o : CopyOptions) (v w : State) (count : ℕ) (text : List ℕ) → HasGrown v.client w.client → HasGrown v.server w.server → WasToldFirst o v count text → WasToldFirst o w count text
told-first-later o v w count text client server t = record {
  earlier = t.earlier;
  client_more = grown-more t.earlier.client v.client w.client t.client_more client;
  server_more = grown-more t.earlier.server v.server w.server t.server_more server;
  whole = t.whole;
  log = t.log;
  begins = t.begins;
  brought = t.brought;
}

-- what the workers did is still to be told
untold-more : (first : ℕ) (told mid now : List Entry) (ws vs : List WorkerState) → length vs ≡ length ws → HaveUntold first told mid ws → AllGrew first mid now ws vs → HaveUntold first told now vs
untold-more first told mid now ws vs even h grew = λ place v at.
    let within : place < length ws = (let there = slice_get_within vs place v at in omega (arith, there, even)) in
    let u = h place (get_or ws place v) (slice_get-get_or ws place v within) in
    let g = grew place (get_or ws place v) v (slice_get-get_or ws place v within) at in
    record {
      made = u.made ++ g.made;
      events = g.events ∙ ap (λ (es : List PageEvent). es ++ g.made) u.events ∙ append_assoc _ u.made g.made;
      lines = g.lines ∙ ap (λ (ls : List LogLine). ls ++ map logged_page g.made) u.lines ∙ sym (map-append logged_page u.made g.made);
    }

pub run-on : (c : Copy) (b : Parts) → (h : GoesOn c) → HasRun c.options h.past c.parts b → GoesOn (record c { parts = b })
run-on c b h run = goes-on-with c b run.later h run.stands run.bytes.bytes run.bytes.ended run.client run.server

pub run-going : (o : CopyOptions) (from to log : Stream) (c : Copy) (b : Parts) → (s : IsSettled o from to log c) → HasRun o s.past c.parts b → IsGoing o from to log (record c { parts = b })
run-going o from to log c b s run =
    let told = s.so_far.told in
    let was = s.so_far.stands.under_way.manned in
    let is = run.stands.under_way.manned in
    record {
      past = run.later;
      pool = s.past.pool;
      deeds = deeds_now o s.past c.parts;
      so_far = record {
        options = s.so_far.options;
        stands = run.stands;
        read = kept-read o s.past run.later from c.read c.ended run.bytes s.so_far.read;
        stored = kept-stored o s.past run.later to run.bytes.groups s.so_far.stored;
        told = record {
          text = told.text;
          logged = told.logged;
          is_log = inl s.is_log;
          client_is = told.client_is;
          server_is = told.server_is;
          first = subst (λ (gs : List (List ℕ)). 0 < length (joined gs) → WasToldFirst o b.world (length gs) told.text) (sym run.bytes.groups)
              (λ some. told-first-later o c.parts.world b.world (length (groups_out o.kind s.past)) told.text run.client run.server (told.first some));
          later = told.later;
        };
        more = record {
          client = run.client;
          server = run.server;
          client_lists_are = refl;
          server_lists_are = refl;
          clients = untold-more 0 s.past.pool s.past.pool run.later.pool c.parts.crew.clients b.crew.clients (is.workers ∙ sym was.workers) s.so_far.more.clients run.clients;
          servers = untold-more o.workers s.past.pool s.past.pool run.later.pool c.parts.crew.servers b.crew.servers
              (is.sized.even ∙ is.workers ∙ sym was.workers ∙ sym was.sized.even) s.so_far.more.servers run.servers;
        };
        room = s.so_far.room;
      };
    }

-- ---- jobs are given

pub jobs-given : (o : CopyOptions) (from to log : Stream) (c : Copy) (b : Parts) → (r : IsReadAll o from to log c) → HasGiven o r.settled.past c.parts b → IsAfterBarrier o from to log (record c { parts = b })
jobs-given o from to log c b r given =
    let s = r.settled in
    record {
      settled = settled_by o from to log given.later (record c { parts = b }) (settled-on o from to log from to s.past given.later c b c.group c.read c.ended
          (by_past o from to log c s) given.stands given.history (given.waits s.handed) (kept-read o s.past given.later from c.read c.ended given.bytes s.so_far.read)
          (kept-stored o s.past given.later to given.bytes.groups s.so_far.stored) s.so_far.room);
      none = given.left ∙ r.none;
      uncut = ap (λ (w : State). is_cut w.client) given.history.world ∙ r.uncut;
      fed = given.wants ∙ r.fed;
      given = given.none;
    }

-- ---- what the calls answer

pub round-on : {E : Type 0} → (r : Result Unit E) (c : Copy) (b : Parts) → (h : GoesOn c) → OnOk r (HasRun c.options h.past c.parts b) → OnOk r (GoesOn (record c { parts = b }))
round-on (Ok u) c b h run = run-on c b h run
round-on (Err e) c b h run = tt

pub round-going : {E : Type 0} → (r : Result Unit E) (o : CopyOptions) (from to log : Stream) (c : Copy) (b : Parts) → (s : IsSettled o from to log c) → OnOk r (HasRun o s.past c.parts b)
    → OnOk r (IsGoing o from to log (record c { parts = b }))
round-going (Ok u) o from to log c b s run = run-going o from to log c b s run
round-going (Err e) o from to log c b s run = tt

pub round-stops : {E : Type 0} → (r : Result Unit E) (o : CopyOptions) (from to log : Stream) (c : Copy) → IsSettled o from to log c → OnErr r (KeepsPromise NoMemory o from to log)
round-stops (Ok u) o from to log c s = tt
round-stops (Err e) o from to log c s = keeps-no-memory-settled o from to log c s
