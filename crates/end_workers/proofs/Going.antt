-- A copy that has come so far goes on.
use Rattle.std.proofs.Common.{◌≡◌, ◌+◌, ◌≤◌, List, [], ◌∷◌, ◌++◌, length, refl, sym, ap, ◌∙◌, subst, length-append, arith}
use Rattle.smbd_base.specs.declared.event.Event.{Event}
use Rattle.smbd_base.specs.declared.event.Event.TheVariants.{Post, Submit, Emit, Take, Cut}
use Rattle.smbd_base.specs.Joint.{taken_frames}
use Rattle.smbd_base.specs.Pages.{Entry}
use Rattle.run_log.specs.declared.telling.Told.{Told}
use Rattle.copy_laws.specs.Coupled.{Pasts}
use Rattle.copy_runs.specs.CopyPasts.{bytes_of, ended_of}
use Rattle.copy_log.specs.CopyLogs.{Deeds}
use Rattle.copy_ends.specs.Turns.{HasGrown}
use Rattle.copy_parts.specs.declared.options.CopyOptions.{CopyOptions}
use Rattle.copy_parts.specs.declared.parts.Parts.{Parts}
use Rattle.copy_parts.specs.Copies.{Stands}
use Rattle.copy_parts.specs.Steps.{AreStanding, AreStandingOf}
use Rattle.end_workers.specs.declared.copy.Copy.{Copy}
use Rattle.end_workers.specs.Progress.{IsSoFar, IsGoing, CanTellAll, GoesOn}
use Rattle.end_workers.specs.Promise.{Stream}

-- ---- the counts of what was told

-- no more frames were taken than there were events
frames-few : (past : List Event) → length (taken_frames past) ≤ length past
frames-few [] = omega arith
frames-few (Post n ∷ past) = (let few = frames-few past in omega arith)
frames-few (Submit m ∷ past) = (let few = frames-few past in omega arith)
frames-few (Emit f ∷ past) = (let few = frames-few past in omega arith)
frames-few (Take f ∷ past) = (let few = frames-few past in let one = length-append (taken_frames past) (f ∷ []) in omega arith)
frames-few (Cut ∷ past) = (let few = frames-few past in omega arith)

pub grown-long : (old new : List Event) → HasGrown old new → length old ≤ length new
grown-long old new g = (let all : length new ≡ length (g.events ++ old) = ap length g.is in let parts = length-append g.events old in omega arith)

can-tell : (o : CopyOptions) (source sink log : Stream) (p : Pasts) (pool : List Entry) (d : Deeds) (c : Copy) → IsSoFar o source sink log p pool d c → CanTellAll c
can-tell o source sink log p pool d c s =
    let client_events : c.client_told.events ≡ length d.client = ap (λ (t : Told). t.events) s.told.client_is in
    let client_next : c.client_told.next ≡ length (taken_frames d.client) + 1 = ap (λ (t : Told). t.next) s.told.client_is in
    let server_events : c.server_told.events ≡ length d.server = ap (λ (t : Told). t.events) s.told.server_is in
    let server_next : c.server_told.next ≡ length (taken_frames d.server) + 1 = ap (λ (t : Told). t.next) s.told.server_is in
    let client_long = grown-long d.client c.parts.world.client s.more.client in
    let server_long = grown-long d.server c.parts.world.server s.more.server in
    let client_few = frames-few d.client in
    let server_few = frames-few d.server in
    record {
      client_within = omega (arith, client_events, client_long);
      client_small = omega (arith, client_events, client_next, client_few);
      server_within = omega (arith, server_events, server_long);
      server_small = omega (arith, server_events, server_next, server_few);
    }

-- ---- a copy goes on

pub going-on : (o : CopyOptions) (source sink log : Stream) (p : Pasts) (pool : List Entry) (d : Deeds) (c : Copy) → IsSoFar o source sink log p pool d c → GoesOn c
going-on o source sink log p pool d c s = record {
  past = p;
  stands = subst (λ (x : CopyOptions). Stands x p c.parts) (sym s.options) s.stands;
  read = subst (λ (x : CopyOptions). c.read ≡ length (bytes_of x.kind p)) (sym s.options) s.read.count;
  short = s.read.short;
  ended_is = subst (λ (x : CopyOptions). c.ended ≡ ended_of x.kind p) (sym s.options) s.read.ended_is;
  whole = s.read.whole;
  room = s.room;
  tellable = can-tell o source sink log p pool d c s;
}

pub going : (o : CopyOptions) (source sink log : Stream) (c : Copy) → IsGoing o source sink log c → GoesOn c
going o source sink log c g = going-on o source sink log g.past g.pool g.deeds c g.so_far

-- its parts stand by some past
pub standing : (c : Copy) → GoesOn c → AreStanding c.parts
standing c h = record { options = c.options; past = h.past; stands = h.stands }

pub standing-of : (c : Copy) → GoesOn c → AreStandingOf c.options.kind c.parts
standing-of c h = record { options = c.options; kind_is = refl; past = h.past; stands = h.stands }

-- with other parts, too, whose ends have no less to tell, and to which no byte was handed
pub goes-on-with : (c : Copy) (b : Parts) (q : Pasts) → (h : GoesOn c) → Stands c.options q b → bytes_of c.options.kind q ≡ bytes_of c.options.kind h.past
    → ended_of c.options.kind q ≡ ended_of c.options.kind h.past → HasGrown c.parts.world.client b.world.client → HasGrown c.parts.world.server b.world.server
    → GoesOn (record c { parts = b })
goes-on-with c b q h stands bytes ended client server =
    let client_long = grown-long c.parts.world.client b.world.client client in
    let server_long = grown-long c.parts.world.server b.world.server server in
    record {
      past = q;
      stands = stands;
      read = h.read ∙ ap length (sym bytes);
      short = h.short;
      ended_is = h.ended_is ∙ sym ended;
      whole = h.whole;
      room = h.room;
      tellable = record {
        client_within = omega (arith, h.tellable.client_within, client_long);
        client_small = h.tellable.client_small;
        server_within = omega (arith, h.tellable.server_within, server_long);
        server_small = h.tellable.server_small;
      };
    }

-- a history that is the same has grown by nothing
pub grown-same : (old new : List Event) → new ≡ old → HasGrown old new
grown-same old new e = record { events = []; is = e }
