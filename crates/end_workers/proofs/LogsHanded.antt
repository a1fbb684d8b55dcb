-- A copy of which all completions were handed to their machines.
use Rattle.copy_laws.specs.Coupled.{Pasts}
use Rattle.copy_parts.specs.declared.options.CopyOptions.{CopyOptions}
use Rattle.copy_parts.specs.declared.parts.Parts.{Parts}
use Rattle.copy_parts.specs.Copies.{Stands}
use Rattle.copy_parts.specs.Steps.{HasHanded}
use Rattle.end_workers.specs.declared.copy.Copy.{Copy}
use Rattle.end_workers.specs.Promise.{Stream}
use Rattle.end_workers.specs.Progress.{IsGoing, IsHandedAll, GoesOn}
use Rattle.end_workers.proofs.LogsKept.{with_parts, kept-so-far, kept-on}

-- by whatever pasts the parts stood, they have handed their completions
abbrev pub Hands : Parts → Parts → Type 0
Hands a b = (o : CopyOptions) (p : Pasts) → Stands o p a → HasHanded o p a b

pub hands-on : (c : Copy) (parts : Parts) → GoesOn c → Hands c.parts parts → GoesOn (with_parts parts c)
hands-on c parts g hands =
    let h = hands c.options g.past g.stands in
    kept-on c parts g h.later h.stands h.bytes h.history.world

pub hands-all : (o : CopyOptions) (from to log : Stream) (c : Copy) (parts : Parts) → IsGoing o from to log c → Hands c.parts parts → IsHandedAll o from to log (with_parts parts c)
hands-all o from to log c parts g hands =
    let h = hands o g.past g.so_far.stands in
    record {
      going = record {
        past = h.later;
        pool = g.pool;
        deeds = g.deeds;
        so_far = kept-so-far o from to log g.past h.later g.pool g.deeds c parts h.stands h.bytes h.history g.so_far;
      };
      handed = h.none;
    }
