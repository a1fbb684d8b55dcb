-- A copy of which all is told stays one while history stays.
use Rattle.std.proofs.Common.{◌≡◌, inl, ℕ, ◌≤◌, Bool, List, length, refl, sym, ap, ◌∙◌, subst, Global}
use Rattle.std.specs.Io.KnownBytes.{Consumes}
use Rattle.std.specs.Vec.{vec_capacity}
use Rattle.std.specs.declared.vec.Vec.{Vec}
use Rattle.smbd_base.specs.Pages.{Entry}
use Rattle.world_core.specs.Run.{State}
use Rattle.run_log.specs.NewLines.{told_of}
use Rattle.file_messages.specs.declared.layout.TheConstants.{GROUP_SIZE}
use Rattle.copy_laws.specs.Coupled.{Pasts}
use Rattle.copy_laws.specs.Laws.{lists_from}
use Rattle.copy_runs.specs.CopyPasts.{bytes_of, ended_of}
use Rattle.copy_log.specs.CopyLogs.{Deeds, IsLog}
use Rattle.copy_parts.specs.declared.options.CopyOptions.{CopyOptions}
use Rattle.copy_parts.specs.declared.parts.Parts.{Parts}
use Rattle.copy_parts.specs.Copies.{Stands}
use Rattle.copy_parts.specs.Steps.{KeepsHistory, NoneWaits}
use Rattle.end_workers.specs.declared.copy.Copy.{Copy}
use Rattle.end_workers.specs.Progress.{HasRead, HasStored, HasMoreToTell, IsSoFar, IsSettled, deeds_now}
use Rattle.end_workers.specs.Promise.{Stream}
use Rattle.end_workers.proofs.LogsKept.{kept-more}
use Rattle.end_workers.proofs.Sounding.{told-now}

abbrev deeds_by : CopyOptions → State → List Entry → Deeds
deeds_by o world pool = record { client = world.client; server = world.server; clients = lists_from 0 o.workers pool; servers = lists_from o.workers o.workers pool }

-- where history stays, the deeds are the same
deeds-kept : (o : CopyOptions) (p q : Pasts) (a b : Parts) → KeepsHistory p q a b → deeds_now o q b ≡ deeds_now o p a
deeds-kept o p q a b kept = ap (λ (w : State). deeds_by o w q.pool) kept.world ∙ ap (λ (pool : List Entry). deeds_by o a.world pool) kept.pool

-- what was read is the same
pub read-kept : (o : CopyOptions) (source : Stream) (p q : Pasts) (read : ℕ) (ended : Bool) → bytes_of o.kind q ≡ bytes_of o.kind p → ended_of o.kind q ≡ ended_of o.kind p
    → HasRead o p source read ended → HasRead o q source read ended
read-kept o source p q read ended bytes same h = record {
  bytes = subst (λ (xs : List ℕ). Consumes source.before source.now xs) (sym bytes) h.bytes;
  count = h.count ∙ ap length (sym bytes);
  short = h.short;
  ended_is = h.ended_is ∙ sym same;
  last = h.last;
  whole = h.whole;
  later = h.later;
}

-- a copy of which all is told, by this past
pub record IsSettledBy (o : CopyOptions) (source sink log : Stream) (p : Pasts) (c : Copy) : Type 0 where
  pub handed : NoneWaits c.parts.crew
  pub so_far : IsSoFar o source sink log p p.pool (deeds_now o p c.parts) c
  pub is_log : IsLog (deeds_now o p c.parts) so_far.told.text

abbrev pub settled_by : (o : CopyOptions) (source sink log : Stream) (p : Pasts) (c : Copy) → IsSettledBy o source sink log p c → IsSettled o source sink log c
settled_by o source sink log p c s = record { handed = s.handed; past = p; so_far = s.so_far; is_log = s.is_log }

abbrev pub by_past : (o : CopyOptions) (source sink log : Stream) (c : Copy) → (s : IsSettled o source sink log c) → IsSettledBy o source sink log s.past c
by_past o source sink log c s = record { handed = s.handed; so_far = s.so_far; is_log = s.is_log }

-- it is still settled where history stays, whatever was read and stored meanwhile
pub settled-on : (o : CopyOptions) (source sink log from to : Stream) (p q : Pasts) (c : Copy) (b : Parts) (group : Vec ℕ Global) (read : ℕ) (ended : Bool)
    → IsSettledBy o source sink log p c → Stands o q b → KeepsHistory p q c.parts b → NoneWaits b.crew → HasRead o q from read ended → HasStored o q to → GROUP_SIZE ≤ vec_capacity group
    → IsSettledBy o from to log q (record c { parts = b; group = group; read = read; ended = ended })
settled-on o source sink log from to p q c b group read ended s stands kept none has_read has_stored room =
    let told = s.so_far.told in
    let deeds = deeds-kept o p q c.parts b kept in
    let whole : IsLog (deeds_now o q b) told.text = subst (λ (d : Deeds). IsLog d told.text) (sym deeds) s.is_log in
    record {
      handed = none;
      so_far = record {
        options = s.so_far.options;
        stands = stands;
        read = has_read;
        stored = has_stored;
        told = record {
          text = told.text;
          logged = told.logged;
          is_log = inl whole;
          client_is = told.client_is ∙ ap (λ (d : Deeds). told_of d.client) (sym deeds);
          server_is = told.server_is ∙ ap (λ (d : Deeds). told_of d.server) (sym deeds);
          first = λ some. told-now o q b.world b.crew (deeds_now o q b) told.text stands.under_way whole refl refl;
          later = told.later;
        };
        more = subst (λ (d : Deeds). HasMoreToTell o q b q.pool d) (sym deeds)
            (subst (λ (pool : List Entry). HasMoreToTell o q b pool (deeds_now o p c.parts)) (sym kept.pool) (kept-more o p q c.parts b p.pool (deeds_now o p c.parts) kept s.so_far.more));
        room = room;
      };
      is_log = whole;
    }
