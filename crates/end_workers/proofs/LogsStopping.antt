-- How the telling of a log stops.
use Rattle.std.proofs.Common.{◌≡◌, ℕ, Option, List, sym, subst}
use Rattle.std.specs.Io.KnownBytes.{Appends}
use mathlib.Core.List.{IsPrefix}
use Rattle.smbd_outside.specs.Causes.{Rose}
use Rattle.smbd_outside.specs.Streams.{AppendsFront}
use Rattle.end_workers.specs.Promise.{Stream}
use Rattle.end_workers.specs.Progress.{moved}

-- a stream that has not moved since it had come so far
pub not-moved : (P : Stream → Type 0) (s : Stream) (was : Option (List ℕ)) (count : ℕ) → s.now ≡ was → s.faults ≡ count → P s → P (moved s was count)
not-moved P s was count was_is count_is h =
    subst (λ (n : ℕ). P (moved s was n)) count_is (subst (λ (t : Option (List ℕ)). P (moved s t s.faults)) was_is h)

-- a front of the news was written, and the log failed
pub front-written : (P : Stream → Type 0) (log : Stream) (news bytes : List ℕ) (was known : Option (List ℕ)) (count faults : ℕ)
    → ((front : List ℕ) → Appends log.now known front → IsPrefix front news → Rose log.faults faults → P (moved log known faults))
    → log.now ≡ was → log.faults ≡ count → bytes ≡ news → AppendsFront was known bytes → Rose count faults → P (moved log known faults)
front-written P log news bytes was known count faults keeps was_is count_is bytes_are front rose =
    keeps front.front (subst (λ (t : Option (List ℕ)). Appends t known front.front) (sym was_is) front.got)
    (subst (λ (t : List ℕ). IsPrefix front.front t) bytes_are front.begins) (subst (λ (n : ℕ). Rose n faults) (sym count_is) rose)
