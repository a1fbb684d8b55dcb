-- How a copy ends where the log could not be told.
use Rattle.std.proofs.Common.{◌≡◌, ℕ, Option, List, reverse}
use Rattle.std.specs.Io.KnownBytes.{Appends}
use mathlib.Core.List.{IsPrefix}
use Rattle.smbd_base.specs.declared.event.Event.{Event}
use Rattle.smbd_outside.specs.declared.status.Status.TheVariants.{LogFault, NoMemory}
use Rattle.smbd_outside.specs.Causes.{Rose}
use Rattle.copy_log.specs.Laws.{news_text}
use Rattle.copy_parts.specs.declared.options.CopyOptions.{CopyOptions}
use Rattle.end_workers.specs.declared.copy.Copy.{Copy}
use Rattle.end_workers.specs.News.{news}
use Rattle.end_workers.specs.Progress.{IsHandedAll, moved}
use Rattle.end_workers.specs.Promise.{Stream, KeepsPromise}
use Rattle.end_workers.proofs.LogsAfter.{begins-with, begins-after}
use Rattle.end_workers.proofs.Ending.{keeps-no-memory, keeps-log-fault}

-- without memory for the news
pub telling-stops : (o : CopyOptions) (from to log : Stream) (c : Copy) → IsHandedAll o from to log c → KeepsPromise NoMemory o from to log
telling-stops o from to log c h =
    let w = h.going in
    let s = w.so_far in
    keeps-no-memory o from to log w.past w.pool w.deeds c s (begins-after o w.past c.parts log w.pool w.deeds c.client_told c.server_told s.stands s.told s.more)

-- the log got a front of the news, and failed
pub news-cut : (o : CopyOptions) (from to log : Stream) (c : Copy) → IsHandedAll o from to log c → (client server : List Event) (front : List ℕ) (now : Option (List ℕ)) (faults : ℕ)
    → reverse client ≡ c.parts.world.client → reverse server ≡ c.parts.world.server → Appends log.now now front
    → IsPrefix front (news_text (news c.client_told c.server_told client server c.parts)) → Rose log.faults faults → KeepsPromise LogFault o from to (moved log now faults)
news-cut o from to log c h client server front now faults client_is server_is got begins rose =
    let w = h.going in
    let s = w.so_far in
    keeps-log-fault o from to log w.past w.pool w.deeds c now faults front s got
    (begins-with o w.past c.parts log w.pool w.deeds c.client_told c.server_told client server front s.stands s.told s.more client_is server_is begins) rose
