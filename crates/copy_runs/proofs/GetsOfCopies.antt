-- Each copy that is a get comes to what its bytes say.
use Rattle.std.proofs.Common.{ℕ, List}
use Rattle.smbd_base.specs.Pages.{PageState}
use Rattle.file_messages.specs.declared.kind.Channel.{Channel}
use Rattle.file_messages.specs.declared.kind.Channel.TheVariants as channels
use Rattle.file_messages.specs.declared.kind.CopyKind.TheVariants as kinds
use Rattle.page_workers.specs.Workers.{WorkerState}
use Rattle.copy_laws.specs.Coupled.{Pasts}
use Rattle.copy_laws.specs.Growing.{bytes_filled}
use Rattle.copy_laws.specs.Laws.{GetComesTo}
use Rattle.copy_laws.proofs.GetServers.{registered-gets-come}
use Rattle.copy_runs.specs.CopyPasts.{IsCopy}
use Rattle.copy_runs.proofs.Gets.{GetRuns}
use Rattle.copy_runs.proofs.InlineGets.{InlineGetRuns, inline-get-runs}

pub registered-get : (workers count : ℕ) (p : Pasts) (pages : List PageState) (cs ss : List WorkerState) → IsCopy kinds.Get channels.V1 workers count p pages cs ss
    → GetComesTo workers (bytes_filled p.server) p
registered-get workers count p pages cs ss c =
    registered-gets-come workers count p pages cs ss (bytes_filled p.server) c.some c.pool c.coupled c.client c.server c.copyable c.carried.0 c.between c.carried.1

pub inline-get : (workers count : ℕ) (p : Pasts) (pages : List PageState) (cs ss : List WorkerState) → IsCopy kinds.Get channels.None workers count p pages cs ss
    → InlineGetRuns workers (bytes_filled p.server) p
inline-get workers count p pages cs ss c =
    inline-get-runs workers count p pages cs ss (bytes_filled p.server) c.some c.coupled c.client c.server c.copyable c.carried.0 c.between c.carried.1

pub get-runs : (channel : Channel) (workers count : ℕ) (p : Pasts) (pages : List PageState) (cs ss : List WorkerState) → IsCopy kinds.Get channel workers count p pages cs ss
    → GetRuns channel (bytes_filled p.server) p
get-runs channels.None workers count p pages cs ss c = (inline-get workers count p pages cs ss c).runs
get-runs channels.V1 workers count p pages cs ss c =
    let come = registered-get workers count p pages cs ss c in
    record { is_get = record { asked = come.asked; refused = come.refused; answered = come.answered }; follow = come.follow; received = come.received }
