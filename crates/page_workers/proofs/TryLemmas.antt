-- A try, told by what it came to.
use Rattle.std.proofs.Common.{◌≡◌, ℕ, Option, Some, List, ◌++◌, length, take, drop, refl, sym, subst}
use Rattle.std.proofs.Math.Seq.{take-append_seam}
use Rattle.smbd_base.specs.declared.token.TheConstants.{PAGE_SIZE}
use Rattle.smbd_base.specs.declared.page_event.PageEvent.TheVariants as events
use Rattle.smbd_base.specs.Tokens.{PageToken}
use Rattle.smbd_base.specs.Pages.{IsPoolStep}
use Rattle.event_log.specs.declared.log_line.LogLine.{LogLine}
use Rattle.event_log.specs.declared.log_line.LogLine.TheVariants as lines
use Rattle.file_messages.specs.declared.job.WorkResult.TheVariants as results
use Rattle.registration.specs.Regions.{RegionState}
use Rattle.page_workers.specs.declared.kept.Kept.{Kept}
use Rattle.page_workers.specs.declared.kept.Tried.{Tried}
use Rattle.page_workers.specs.Tries.{HasTried, Finishes, unload_job}

pub tried-as : (kept : Kept) (t u : Tried) (l m : Option LogLine) (a b : RegionState) → t ≡ u → l ≡ m → HasTried kept u m a b → HasTried kept t l a b
tried-as kept t u l m a b same line h =
    subst (λ (x : Tried). HasTried kept x l a b) (sym same) (subst (λ (x : Option LogLine). HasTried kept u x a b) (sym line) h)

-- an unload that is done
pub unload-done : (number : ℕ) (token : PageToken) (bytes : List ℕ) (a b : RegionState) → length bytes ≡ PAGE_SIZE → IsPoolStep (events.Unload token bytes) a.pages b.pages
    → Finishes (unload_job number token) (record { number = number; result = results.Unloaded bytes }) (Some (lines.Unload token)) a b
unload-done number token bytes a b whole step = record {
  event = events.Unload token bytes;
  done = record { number = refl; done = record { token_is = refl; bytes_are = refl; whole = whole } };
  step = step;
  told = refl;
}

-- a buffer that was lent as a slice, and filled whole
pub filled : (bytes before : List ℕ) (size : ℕ) → length bytes ≡ size → take size (bytes ++ drop (length bytes) before) ≡ bytes
filled bytes before size whole = subst (λ (n : ℕ). take n (bytes ++ drop (length bytes) before) ≡ bytes) whole (take-append_seam bytes (drop (length bytes) before))
