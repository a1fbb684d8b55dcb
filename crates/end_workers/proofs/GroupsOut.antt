-- The groups that come out, and are written to the sink.
use Rattle.std.proofs.Common.{◌≡◌, ℕ, ◌≤◌, Option, List, [], ◌∷◌, ◌++◌, refl, sym, ap, ◌∙◌, subst, append-nil, arith}
use Rattle.std.specs.Io.KnownBytes.{Appends}
use Rattle.std.proofs.KnownBytes.{Appends-trans}
use mathlib.Core.List.{IsPrefix}
use Rattle.smbd_outside.specs.declared.status.Status.TheVariants.{WriteFault}
use Rattle.smbd_outside.specs.Causes.{Rose}
use Rattle.smbd_outside.specs.Streams.{AppendsFront}
use Rattle.world_core.specs.Run.{State}
use Rattle.copy_laws.specs.Coupled.{Pasts}
use Rattle.copy_runs.specs.CopyPasts.{groups_out}
use Rattle.page_crew.specs.Crews.{CrewState}
use Rattle.copy_parts.specs.declared.options.CopyOptions.{CopyOptions}
use Rattle.copy_parts.specs.declared.parts.Parts.{Parts}
use Rattle.copy_parts.specs.Copies.{Stands}
use Rattle.copy_parts.specs.Steps.{NoneWaits, HasComeOut, HasNoGroup}
use Rattle.end_workers.specs.declared.copy.Copy.{Copy}
use Rattle.end_workers.specs.Progress.{moved, joined, HasStored, IsSettled, IsStoredAll, GoesOn}
use Rattle.end_workers.specs.Promise.{Stream, KeepsPromise}
use Rattle.end_workers.proofs.Going.{goes-on-with, grown-same}
use Rattle.end_workers.proofs.LogsKept.{with_parts, kept-on}
use Rattle.end_workers.proofs.SoundingGroups.{joined-append}
use Rattle.end_workers.proofs.Ending.{keeps-write-fault}
use Rattle.end_workers.proofs.Settled.{read-kept, settled_by, by_past, settled-on}

-- what is told of the next group, whatever the pasts of the parts: one comes out, or none is left
abbrev pub ComesOut : Copy → List ℕ → Parts → Type 0
ComesOut c group b = (o : CopyOptions) (p : Pasts) → o.kind ≡ c.options.kind → Stands o p c.parts → HasComeOut o p group c.parts b

abbrev pub NoneComes : Copy → Parts → Type 0
NoneComes c b = (o : CopyOptions) (p : Pasts) → o.kind ≡ c.options.kind → Stands o p c.parts → HasNoGroup o p c.parts b

-- ---- a copy goes on

pub out-on : (c : Copy) (b : Parts) (group : List ℕ) → GoesOn c → ComesOut c group b → GoesOn (with_parts b c)
out-on c b group h comes =
    let out = comes c.options h.past refl h.stands in
    goes-on-with c b out.later h out.stands out.bytes out.ended (grown-same c.parts.world.client b.world.client (ap (λ (w : State). w.client) out.history.world))
    (grown-same c.parts.world.server b.world.server (ap (λ (w : State). w.server) out.history.world))

pub none-on : (c : Copy) (b : Parts) → GoesOn c → NoneComes c b → GoesOn (with_parts b c)
none-on c b h comes =
    let none = comes c.options h.past refl h.stands in
    kept-on c b h h.past none.stands (record { bytes = refl; ended = refl; groups = refl }) none.history.world

-- ---- what the sink got

stored-more : (o : CopyOptions) (to : Stream) (p q : Pasts) (group : List ℕ) (now : Option (List ℕ)) (faults : ℕ) → groups_out o.kind q ≡ groups_out o.kind p ++ group ∷ []
    → HasStored o p to → Appends to.now now group → to.faults ≤ faults → HasStored o q (moved to now faults)
stored-more o to p q group now faults groups h more later =
    let whole : joined (groups_out o.kind p) ++ group ≡ joined (groups_out o.kind q) =
    ap (λ (bytes : List ℕ). joined (groups_out o.kind p) ++ bytes) (sym (append-nil group)) ∙ sym (joined-append (groups_out o.kind p) (group ∷ []))
    ∙ ap (λ (gs : List (List ℕ)). joined gs) (sym groups) in
    let was = h.later in
    record {
      got = subst (λ (bytes : List ℕ). Appends to.before now bytes) whole (Appends-trans to.before to.now now (joined (groups_out o.kind p)) group h.got more);
      later = omega (arith, was, later);
    }

module _ (o : CopyOptions) (from to log : Stream) (c : Copy) (b : Parts) (s : IsSettled o from to log c) where
  same-kind : o.kind ≡ c.options.kind
  same-kind = ap (λ (x : CopyOptions). x.kind) (sym s.so_far.options)

  -- one group more
  pub out-settled : (group bytes : List ℕ) (now : Option (List ℕ)) (faults : ℕ) → ComesOut c group b → bytes ≡ group → Appends to.now now bytes → to.faults ≤ faults
      → IsSettled o from (moved to now faults) log (with_parts b c)
  out-settled group bytes now faults comes same more later =
      let out = comes o s.past same-kind s.so_far.stands in
      settled_by o from (moved to now faults) log out.later (with_parts b c) (settled-on o from to log from (moved to now faults) s.past out.later c b c.group c.read c.ended
      (by_past o from to log c s) out.stands out.history (subst (λ (crew : CrewState). NoneWaits crew) (sym out.crew) s.handed)
      (read-kept o from s.past out.later c.read c.ended out.bytes out.ended s.so_far.read)
      (stored-more o to s.past out.later group now faults out.groups s.so_far.stored (subst (λ (xs : List ℕ). Appends to.now now xs) same more) later) s.so_far.room)

  -- the sink got a front of it, and failed
  pub out-fails : (group bytes : List ℕ) (now : Option (List ℕ)) (faults : ℕ) → ComesOut c group b → bytes ≡ group → AppendsFront to.now now bytes → Rose to.faults faults
      → KeepsPromise WriteFault o from (moved to now faults) log
  out-fails group bytes now faults comes same front rose =
      keeps-write-fault o from to log c now faults group front.front b s (comes o s.past same-kind s.so_far.stands) (subst (λ (xs : List ℕ). IsPrefix front.front xs) same front.begins) front.got rose

  -- no group is left
  pub none-stored : NoneComes c b → IsStoredAll o from to log (with_parts b c)
  none-stored comes =
      let none = comes o s.past same-kind s.so_far.stands in
      record {
        settled = settled_by o from to log s.past (with_parts b c) (settled-on o from to log from to s.past s.past c b c.group c.read c.ended
            (by_past o from to log c s) none.stands none.history (subst (λ (crew : CrewState). NoneWaits crew) (sym none.crew) s.handed) s.so_far.read s.so_far.stored s.so_far.room);
        none = none.none;
      }
