-- A copy of which all was told.
use Rattle.std.proofs.Common.{◌≡◌, inl, ℕ, ◌+◌, ◌-◌, ◌≤◌, Option, List, [], ◌∷◌, ◌++◌, length, drop, map, reverse, refl, sym, ap, ◌∙◌, subst, append_assoc, arith}
use Rattle.std.proofs.lemmas.List.{length-drop, length-reverse}
use Rattle.std.proofs.KnownBytes.{Appends-trans}
use Rattle.std.specs.Io.KnownBytes.{Appends}
use Rattle.smbd_base.specs.declared.event.Event.{Event}
use Rattle.smbd_base.specs.Pages.{Entry}
use Rattle.world_core.specs.Run.{State}
use Rattle.run_log.specs.declared.telling.Told.{Told}
use Rattle.run_log.specs.RunLines.{number_after}
use Rattle.run_log.specs.NewLines.{number_after_all, told_after, told_of}
use Rattle.run_log.proofs.NewLineLemmas.{number_after-le}
use Rattle.page_workers.specs.Workers.{WorkerState}
use Rattle.copy_laws.specs.Coupled.{Pasts}
use Rattle.copy_laws.specs.Laws.{client_lists, server_lists}
use Rattle.copy_runs.specs.CopyPasts.{groups_out}
use Rattle.copy_log.specs.CopyLogs.{Deeds, IsLog}
use Rattle.copy_log.specs.Laws.{news_text}
use Rattle.copy_parts.specs.declared.options.CopyOptions.{CopyOptions}
use Rattle.copy_parts.specs.declared.parts.Parts.{Parts}
use Rattle.copy_parts.specs.Copies.{Stands}
use Rattle.copy_parts.specs.Steps.{HasCleared}
use Rattle.page_crew.specs.Crews.{HasNone, told}
use Rattle.end_workers.specs.declared.copy.Copy.{Copy}
use Rattle.end_workers.specs.News.{news}
use Rattle.end_workers.specs.Promise.{Stream}
use Rattle.end_workers.specs.Progress.{moved, deeds_now, WasToldFirst, IsTold, HaveUntold, HasMoreToTell, IsSoFar, IsHandedAll, IsSettled, GoesOn}
use Rattle.end_workers.proofs.LogsAfter.{log-after}
use Rattle.end_workers.proofs.LogsKept.{kept-first}
use Rattle.end_workers.proofs.LogsOfEnds.{end-told}
use Rattle.end_workers.proofs.LogsOfWorkers.{all-told}

-- the copy once its parts have told their lines, and its ends are told so far
abbrev pub with_told : Parts → Told → Told → Copy → Copy
with_told parts client_told server_told c = record c { parts = parts; client_told = client_told; server_told = server_told }

-- by whatever pasts the parts stood, they have told their lines
abbrev pub Clears : Parts → Parts → Type 0
Clears a b = (o : CopyOptions) (p : Pasts) → Stands o p a → HasCleared o p a b

-- ---- the counts of what was told

number-few : (number : ℕ) (events : List Event) → number_after_all number events ≤ number + length events
number-few number [] = omega arith
number-few number (e ∷ events) =
    let next : number_after number e ≤ number + 1 = number_after-le number number e (omega arith) in
    let later : number_after_all (number_after number e) events ≤ number_after number e + length events = number-few (number_after number e) events in
    let long : length (e ∷ events) ≡ length events + 1 = omega arith in
    omega (arith, next, later, long)

-- how far an end is told, once all its events are
record IsWithin (told : Told) (past : List Event) : Type 0 where
  within : told.events ≤ length past
  small : told.next ≤ told.events + 1

told-within : (past history : List Event) (before now : Told) → reverse history ≡ past → before.events ≤ length past → before.next ≤ before.events + 1 → now ≡ told_after before history
    → IsWithin now past
told-within past history before now is within small now_is =
    let long : length history ≡ length past = sym (length-reverse history) ∙ ap (λ (events : List Event). length events) is in
    let left : length (drop before.events history) ≡ length history - before.events = length-drop before.events history in
    let few : number_after_all before.next (drop before.events history) ≤ before.next + length (drop before.events history) = number-few before.next (drop before.events history) in
    subst (λ (t : Told). IsWithin t past) (sym now_is) (record { within = omega (arith, long); small = omega (arith, long, left, few, within, small) })

pub tells-on : (c : Copy) (parts : Parts) (client_told server_told : Told) (client server : List Event) → GoesOn c → Clears c.parts parts
    → reverse client ≡ c.parts.world.client → reverse server ≡ c.parts.world.server → client_told ≡ told_after c.client_told client → server_told ≡ told_after c.server_told server
    → GoesOn (with_told parts client_told server_told c)
tells-on c parts client_told server_told client server g clears client_is server_is client_now server_now =
    let cleared = clears c.options g.past g.stands in
    let at_client = told-within c.parts.world.client client c.client_told client_told client_is g.tellable.client_within g.tellable.client_small client_now in
    let at_server = told-within c.parts.world.server server c.server_told server_told server_is g.tellable.server_within g.tellable.server_small server_now in
    record {
      past = g.past;
      stands = cleared.stands;
      read = g.read;
      short = g.short;
      ended_is = g.ended_is;
      whole = g.whole;
      room = g.room;
      tellable = record {
        client_within = subst (λ (world : State). client_told.events ≤ length world.client) (sym cleared.world) at_client.within;
        client_small = at_client.small;
        server_within = subst (λ (world : State). server_told.events ≤ length world.server) (sym cleared.world) at_server.within;
        server_small = at_server.small;
      };
    }

-- ---- all is told

-- workers with no completion have none once they have told their lines
none-told : (ws : List WorkerState) → HasNone ws → HasNone (map told ws)
none-told [] h = h
none-told (w ∷ ws) h = (h.0, none-told ws h.1)

-- what was told first is so once more is told
first-goes-on : (o : CopyOptions) (world : State) (count : ℕ) (text more : List ℕ) → WasToldFirst o world count text → WasToldFirst o world count (text ++ more)
first-goes-on o world count text more h = record {
  earlier = h.earlier;
  client_more = h.client_more;
  server_more = h.server_more;
  whole = h.whole;
  log = h.log;
  begins = (h.begins.0 ++ more, sym (append_assoc h.whole h.begins.0 more) ∙ ap (λ (t : List ℕ). t ++ more) h.begins.1);
  brought = h.brought;
}

-- nothing is left to tell of parts that told all
nothing-more : (o : CopyOptions) (p : Pasts) (a b : Parts) → HasCleared o p a b → HasMoreToTell o p b p.pool (deeds_now o p b)
nothing-more o p a b cleared = record {
  client = record { events = []; is = refl };
  server = record { events = []; is = refl };
  client_lists_are = refl;
  server_lists_are = refl;
  clients = subst (λ (ws : List WorkerState). HaveUntold 0 p.pool p.pool ws) (sym cleared.clients) (all-told 0 p.pool a.crew.clients);
  servers = subst (λ (ws : List WorkerState). HaveUntold o.workers p.pool p.pool ws) (sym cleared.servers) (all-told o.workers p.pool a.crew.servers);
}

module _ (o : CopyOptions) (from to log : Stream) (p : Pasts) (pool : List Entry) (d : Deeds) (c : Copy) (s : IsSoFar o from to log p pool d c) (parts : Parts)
    (client_told server_told : Told) (client server : List Event) (bytes : List ℕ) (known : Option (List ℕ)) (faults : ℕ) (cleared : HasCleared o p c.parts parts)
    (client_is : reverse client ≡ c.parts.world.client) (server_is : reverse server ≡ c.parts.world.server)
    (client_now : client_told ≡ told_after c.client_told client) (server_now : server_told ≡ told_after c.server_told server)
    (bytes_are : bytes ≡ news_text (news c.client_told c.server_told client server c.parts)) (written : Appends log.now known bytes) (later : log.faults ≤ faults) where
  log_now : IsLog (deeds_now o p parts) (s.told.text ++ bytes)
  log_now =
      subst (λ (world : State). IsLog (record { client = world.client; server = world.server; clients = client_lists o.workers p; servers = server_lists o.workers p }) (s.told.text ++ bytes))
      (sym cleared.world)
      (subst (λ (t : List ℕ). IsLog (deeds_now o p c.parts) (s.told.text ++ t)) (sym bytes_are)
      (log-after o p c.parts log pool d c.client_told c.server_told client server s.stands s.told s.more client_is server_is))

  told_now : IsTold o p parts.world (moved log known faults) p.pool (deeds_now o p parts) client_told server_told
  told_now = record {
    text = s.told.text ++ bytes;
    logged = Appends-trans log.before log.now known s.told.text bytes s.told.logged written;
    is_log = inl log_now;
    client_is = client_now ∙ end-told d.client c.parts.world.client client c.client_told s.told.client_is s.more.client client_is
        ∙ ap (λ (world : State). told_of world.client) (sym cleared.world);
    server_is = server_now ∙ end-told d.server c.parts.world.server server c.server_told s.told.server_is s.more.server server_is
        ∙ ap (λ (world : State). told_of world.server) (sym cleared.world);
    first = λ some. kept-first o c.parts.world parts.world (length (groups_out o.kind p)) (s.told.text ++ bytes) cleared.world
        (first-goes-on o c.parts.world (length (groups_out o.kind p)) s.told.text bytes (s.told.first some));
    later = omega (arith, s.told.later, later);
  }

  so_far_now : IsSoFar o from to (moved log known faults) p p.pool (deeds_now o p parts) (with_told parts client_told server_told c)
  so_far_now = record {
    options = s.options;
    stands = cleared.stands;
    read = s.read;
    stored = s.stored;
    told = told_now;
    more = nothing-more o p c.parts parts cleared;
    room = s.room;
  }

-- the copy once the news of all that happened was written to the log
pub tells : (o : CopyOptions) (from to log : Stream) (c : Copy) (parts : Parts) (client_told server_told : Told) (client server : List Event) (bytes : List ℕ)
    (was known : Option (List ℕ)) (count faults : ℕ) → log.now ≡ was → log.faults ≡ count → IsHandedAll o from to log c → Clears c.parts parts
    → reverse client ≡ c.parts.world.client → reverse server ≡ c.parts.world.server → client_told ≡ told_after c.client_told client → server_told ≡ told_after c.server_told server
    → bytes ≡ news_text (news c.client_told c.server_told client server c.parts) → Appends was known bytes → count ≤ faults
    → IsSettled o from to (moved log known faults) (with_told parts client_told server_told c)
unfolding so_far_now told_now
tells o from to log c parts client_told server_told client server bytes was known count faults was_is count_is h clears client_is server_is client_now server_now bytes_are written later =
    let g = h.going in
    let cleared = clears o g.past g.so_far.stands in
    let on : Appends log.now known bytes = subst (λ (t : Option (List ℕ)). Appends t known bytes) (sym was_is) written in
    let more : log.faults ≤ faults = subst (λ (n : ℕ). n ≤ faults) (sym count_is) later in
    record {
      handed = record {
        clients = subst (λ (ws : List WorkerState). HasNone ws) (sym cleared.clients) (none-told c.parts.crew.clients h.handed.clients);
        servers = subst (λ (ws : List WorkerState). HasNone ws) (sym cleared.servers) (none-told c.parts.crew.servers h.handed.servers);
      };
      past = g.past;
      so_far = so_far_now o from to log g.past g.pool g.deeds c g.so_far parts client_told server_told client server bytes known faults cleared client_is server_is client_now server_now bytes_are on more;
      is_log = log_now o from to log g.past g.pool g.deeds c g.so_far parts client_told server_told client server bytes known faults cleared client_is server_is client_now server_now bytes_are on more;
    }
