-- A get reads its source as it goes on: its bytes are those that its server was handed in so far (this project's own).
use Rattle.std.specs.Prelude.{ℕ, List, [], ◌∷◌, ◌++◌}
use mathlib.Core.List.{IsPrefix}
use Rattle.file_messages.specs.declared.kind.CopyKind.TheVariants as kinds
use Rattle.file_messages.specs.declared.kind.Channel.{Channel}
use Rattle.file_messages.specs.Runs.{get_requests, replies_to}
use Rattle.file_messages.specs.Written.{IsCopyable}
use Rattle.file_pasts.specs.ClientPast.{Replied, requests_sent}
use Rattle.file_pasts.specs.GetLaws.{IsAnswered}
use Rattle.file_pasts.specs.ServerDue as server
use Rattle.file_pasts.specs.ServerDue.{ServerEvent, Filled, Follows, replies, IsServer}
use Rattle.file_pasts.specs.ServerLaws.{NothingRefused, FillsFrom}
use Rattle.copy_laws.specs.Coupled.{Pasts}
use Rattle.copy_laws.specs.Laws.{AreBetween}
use Rattle.copy_laws.specs.Steps.{client_after}

-- what was handed in for READs, joined
abbrev pub bytes_filled : List ServerEvent → List ℕ
bytes_filled [] = []
bytes_filled (server.Asked m ∷ past) = bytes_filled past
bytes_filled (Filled bytes ∷ past) = bytes_filled past ++ bytes
bytes_filled (server.Gave work ∷ past) = bytes_filled past
bytes_filled (server.Completed c ∷ past) = bytes_filled past
bytes_filled (server.Replied r ∷ past) = bytes_filled past
bytes_filled (server.Stored bytes ∷ past) = bytes_filled past

-- what a get of these bytes comes to so far: its requests and replies are those of these bytes, and nothing was refused
pub record IsGetOf (channel : Channel) (bytes : List ℕ) (p : Pasts) : Type 0 where
  pub asked : IsPrefix (requests_sent p.client) (get_requests channel bytes)
  pub refused : NothingRefused p.server
  pub answered : IsPrefix (replies p.server) (replies_to bytes (get_requests channel bytes))

-- Where a get of the bytes so far is handed in more, for the READ that wants them, it is one of all these bytes: what was handed in
-- before are bytes of theirs, and the replies that its client heard are those that they give.
abbrev pub GetsGrow : Type 0
GetsGrow = (channel : Channel) (p : Pasts) (bytes : List ℕ) → IsServer kinds.Get p.server → AreBetween p → IsCopyable (bytes_filled p.server)
    → FillsFrom kinds.Get (bytes_filled p.server) p.server → IsAnswered channel (bytes_filled p.server) p.client → IsGetOf channel (bytes_filled p.server) p
    → Follows kinds.Get (Filled bytes) p.server
    → FillsFrom kinds.Get (bytes_filled p.server ++ bytes) (Filled bytes ∷ p.server) × IsAnswered channel (bytes_filled p.server ++ bytes) p.client

-- where its client is handed the next of the server's replies, that is a reply that its bytes give
abbrev pub GetsHear : Type 0
GetsHear = (channel : Channel) (p : Pasts) (bytes message : List ℕ) → IsGetOf channel bytes p → AreBetween (client_after (Replied message) p)
    → IsAnswered channel bytes (Replied message ∷ p.client)
