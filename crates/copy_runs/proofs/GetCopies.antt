-- What a get of either channel asks for, and that nothing is refused.
use Rattle.std.proofs.Common.{ℕ, List, map}
use mathlib.Core.List.{IsPrefix}
use Rattle.smbd_base.specs.Pages.{PageState}
use Rattle.file_messages.specs.declared.kind.Channel.{Channel}
use Rattle.file_messages.specs.declared.kind.Channel.TheVariants as channels
use Rattle.file_messages.specs.declared.kind.CopyKind.TheVariants as kinds
use Rattle.file_messages.specs.Messages.{request_bytes}
use Rattle.file_messages.specs.Runs.{get_requests}
use Rattle.file_messages.proofs.WrittenCopies.{gets_read}
use Rattle.file_pasts.specs.ClientPast.{requests_sent}
use Rattle.file_pasts.specs.PutTokens.{HasPoolTokens}
use Rattle.file_pasts.specs.ServerLaws.{messages_asked, AsksFor, NothingRefused}
use Rattle.file_pasts.proofs.GetLaw.{gets_ask, registered_gets_ask}
use Rattle.page_workers.specs.Workers.{WorkerState}
use Rattle.copy_laws.specs.Coupled.{Pasts}
use Rattle.copy_laws.specs.Growing.{bytes_filled}
use Rattle.copy_laws.proofs.Tokens.{prefix-trans, prefix-map, pool-tokens}
use Rattle.copy_laws.proofs.StepsClients.{gets-answer}
use Rattle.copy_laws.proofs.StepsRefused.{none-refused}
use Rattle.copy_runs.specs.CopyPasts.{IsCopy}

pub get-tokens : (workers count : ℕ) (p : Pasts) (pages : List PageState) (cs ss : List WorkerState) → IsCopy kinds.Get channels.V1 workers count p pages cs ss → HasPoolTokens p.client
get-tokens workers count p pages cs ss c =
    pool-tokens workers count kinds.Get p pages cs ss c.some c.pool.most c.coupled c.server (gets-answer channels.V1 p.client c.client)

module _ (workers count : ℕ) (p : Pasts) (pages : List PageState) (cs ss : List WorkerState) where
  pub get-asked : (channel : Channel) → IsCopy kinds.Get channel workers count p pages cs ss → IsPrefix (requests_sent p.client) (get_requests channel (bytes_filled p.server))
  get-asked channels.None c = gets_ask (bytes_filled p.server) p.client c.copyable c.client c.carried.1
  get-asked channels.V1 c = registered_gets_ask (bytes_filled p.server) p.client c.copyable c.client (get-tokens workers count p pages cs ss c) c.carried.1

  pub get-asks : (channel : Channel) → IsCopy kinds.Get channel workers count p pages cs ss → AsksFor (get_requests channel (bytes_filled p.server)) p.server
  get-asks channel c = record {
    asked = prefix-trans (messages_asked p.server) (map request_bytes (requests_sent p.client)) (map request_bytes (get_requests channel (bytes_filled p.server))) c.between.to_server
        (prefix-map request_bytes (requests_sent p.client) (get_requests channel (bytes_filled p.server)) (get-asked channel c));
    read = gets_read channel (bytes_filled p.server) c.copyable;
  }

  pub get-refused : (channel : Channel) → IsCopy kinds.Get channel workers count p pages cs ss → NothingRefused p.server
  get-refused channel c = none-refused kinds.Get workers count p pages cs ss c.some c.coupled c.server
