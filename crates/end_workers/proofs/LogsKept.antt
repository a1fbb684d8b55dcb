-- A copy whose parts change, but not the bytes, the histories or the lines, stands as before with what was read, stored and told.
use Rattle.std.proofs.Common.{◌≡◌, ◌⊎◌, ℕ, ◌<◌, ◌≤◌, Bool, Some, List, length, sym, ap, ◌∙◌, subst}
use Rattle.std.specs.Prelude.{slice_get}
use Rattle.std.specs.Io.KnownBytes.{Appends, Consumes}
use Rattle.smbd_base.specs.Pages.{Entry}
use Rattle.event_log.specs.declared.log_line.LogLine.{LogLine}
use Rattle.world_core.specs.Run.{State}
use Rattle.run_log.specs.declared.telling.Told.{Told}
use Rattle.file_pasts.proofs.Lists.{get_of_map, got_of_map}
use Rattle.page_workers.specs.Workers.{WorkerState}
use Rattle.copy_laws.specs.Coupled.{Pasts}
use Rattle.copy_runs.specs.CopyPasts.{groups_out}
use Rattle.copy_log.specs.CopyLogs.{Deeds, IsLog}
use Rattle.copy_ends.specs.Turns.{HasGrown}
use Rattle.copy_parts.specs.declared.options.CopyOptions.{CopyOptions}
use Rattle.copy_parts.specs.declared.parts.Parts.{Parts}
use Rattle.copy_parts.specs.Copies.{Stands}
use Rattle.copy_parts.specs.Steps.{KeepsBytes, KeepsHistory}
use Rattle.page_crew.specs.Crews.{lines_of}
use Rattle.end_workers.specs.declared.copy.Copy.{Copy}
use Rattle.end_workers.specs.Promise.{Stream}
use Rattle.end_workers.specs.Progress.{joined, HasRead, HasStored, IsUntold, WasToldFirst, IsTold, HaveUntold, HasMoreToTell, IsSoFar, CanTellAll, GoesOn}

-- the copy with other parts
abbrev pub with_parts : Parts → Copy → Copy
with_parts parts c = record c { parts = parts }

-- ---- what was read and stored

pub kept-read : (o : CopyOptions) (p q : Pasts) (from : Stream) (read : ℕ) (ended : Bool) → KeepsBytes o p q → HasRead o p from read ended → HasRead o q from read ended
kept-read o p q from read ended k h = record {
  bytes = subst (λ (bytes : List ℕ). Consumes from.before from.now bytes) (sym k.bytes) h.bytes;
  count = h.count ∙ ap (λ (bytes : List ℕ). length bytes) (sym k.bytes);
  short = h.short;
  ended_is = h.ended_is ∙ sym k.ended;
  last = h.last;
  whole = h.whole;
  later = h.later;
}

pub kept-stored : (o : CopyOptions) (p q : Pasts) (to : Stream) → groups_out o.kind q ≡ groups_out o.kind p → HasStored o p to → HasStored o q to
kept-stored o p q to k h = record {
  got = subst (λ (groups : List (List ℕ)). Appends to.before to.now (joined groups)) (sym k) h.got;
  later = h.later;
}

-- ---- what was told

pub kept-first : (o : CopyOptions) (a b : State) (count : ℕ) (text : List ℕ) → b ≡ a → WasToldFirst o a count text → WasToldFirst o b count text
kept-first o a b count text same h = subst (λ (world : State). WasToldFirst o world count text) (sym same) h

pub kept-told : (o : CopyOptions) (p q : Pasts) (a b : State) (log : Stream) (pool : List Entry) (d : Deeds) (client_told server_told : Told)
    → groups_out o.kind q ≡ groups_out o.kind p → b ≡ a → IsTold o p a log pool d client_told server_told → IsTold o q b log pool d client_told server_told
kept-told o p q a b log pool d client_told server_told groups same h = record {
  text = h.text;
  logged = h.logged;
  is_log = subst (λ (world : State). IsLog d h.text ⊎ IsUntold o world pool d h.text) (sym same) h.is_log;
  client_is = h.client_is;
  server_is = h.server_is;
  first = subst (λ (gs : List (List ℕ)). 0 < length (joined gs) → WasToldFirst o b (length gs) h.text) (sym groups)
      (λ some. kept-first o a b (length (groups_out o.kind p)) h.text same (h.first some));
  later = h.later;
}

-- ---- what is to be told

-- workers with the same lines
kept-workers : (first : ℕ) (before now : List Entry) (ws vs : List WorkerState) → lines_of vs ≡ lines_of ws → HaveUntold first before now ws → HaveUntold first before now vs
kept-workers first before now ws vs same h place v at =
    let here : slice_get (lines_of ws) place ≡ Some v.lines =
    ap (λ (lines : List (List LogLine)). slice_get lines place) (sym same) ∙ get_of_map (λ (w : WorkerState). w.lines) vs place v at in
    let g : (w : WorkerState) × (slice_get ws place ≡ Some w) × (v.lines ≡ w.lines) = got_of_map (λ (w : WorkerState). w.lines) ws place v.lines here in
    let u = h place g.0 g.1 in
    record { made = u.made; events = u.events; lines = g.2 ∙ u.lines }

pub kept-more : (o : CopyOptions) (p q : Pasts) (a b : Parts) (pool : List Entry) (d : Deeds) → KeepsHistory p q a b → HasMoreToTell o p a pool d → HasMoreToTell o q b pool d
kept-more o p q a b pool d k h = record {
  client = subst (λ (world : State). HasGrown d.client world.client) (sym k.world) h.client;
  server = subst (λ (world : State). HasGrown d.server world.server) (sym k.world) h.server;
  client_lists_are = h.client_lists_are;
  server_lists_are = h.server_lists_are;
  clients = kept-workers 0 pool q.pool a.crew.clients b.crew.clients k.clients (subst (λ (now : List Entry). HaveUntold 0 pool now a.crew.clients) (sym k.pool) h.clients);
  servers = kept-workers o.workers pool q.pool a.crew.servers b.crew.servers k.servers
      (subst (λ (now : List Entry). HaveUntold o.workers pool now a.crew.servers) (sym k.pool) h.servers);
}

-- ---- the copy

pub kept-so-far : (o : CopyOptions) (from to log : Stream) (p q : Pasts) (pool : List Entry) (d : Deeds) (c : Copy) (parts : Parts)
    → Stands o q parts → KeepsBytes o p q → KeepsHistory p q c.parts parts → IsSoFar o from to log p pool d c → IsSoFar o from to log q pool d (with_parts parts c)
kept-so-far o from to log p q pool d c parts stands bytes history s = record {
  options = s.options;
  stands = stands;
  read = kept-read o p q from c.read c.ended bytes s.read;
  stored = kept-stored o p q to bytes.groups s.stored;
  told = kept-told o p q c.parts.world parts.world log pool d c.client_told c.server_told bytes.groups history.world s.told;
  more = kept-more o p q c.parts parts pool d history s.more;
  room = s.room;
}

-- the counts of what was told stay within the histories
pub kept-tellable : (c : Copy) (parts : Parts) → parts.world ≡ c.parts.world → CanTellAll c → CanTellAll (with_parts parts c)
kept-tellable c parts same h = record {
  client_within = subst (λ (world : State). c.client_told.events ≤ length world.client) (sym same) h.client_within;
  client_small = h.client_small;
  server_within = subst (λ (world : State). c.server_told.events ≤ length world.server) (sym same) h.server_within;
  server_small = h.server_small;
}

pub kept-on : (c : Copy) (parts : Parts) (g : GoesOn c) (q : Pasts) → Stands c.options q parts → KeepsBytes c.options g.past q → parts.world ≡ c.parts.world
    → GoesOn (with_parts parts c)
kept-on c parts g q stands bytes same = record {
  past = q;
  stands = stands;
  read = g.read ∙ ap (λ (read : List ℕ). length read) (sym bytes.bytes);
  short = g.short;
  ended_is = g.ended_is ∙ sym bytes.ended;
  whole = g.whole;
  room = g.room;
  tellable = kept-tellable c parts same g.tellable;
}
