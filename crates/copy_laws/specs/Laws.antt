-- What follows from how the machines of a copy, its workers and its pages go together (this project's own).
use Rattle.std.specs.Prelude.{◌≡◌, ℕ, zero, suc, ◌+◌, ◌≤◌, List, [], ◌∷◌, ◌++◌, length, take, map}
use mathlib.Core.List.{IsPrefix}
use Rattle.smbd_base.specs.declared.page_event.PageEvent.{PageEvent}
use Rattle.smbd_base.specs.Pages.{Entry, PageState}
use Rattle.smbd_base.specs.PagesFit.{PagesFit, all_events, events_by}
use Rattle.file_messages.specs.declared.kind.CopyKind.TheVariants as kinds
use Rattle.file_messages.specs.declared.kind.Channel.TheVariants as channels
use Rattle.file_messages.specs.Messages.{request_bytes, reply_bytes}
use Rattle.file_messages.specs.Runs.{windows, groups_of, put_requests, get_requests, replies_to}
use Rattle.file_messages.specs.Written.{IsCopyable, IsPool}
use Rattle.file_pasts.specs.ClientPast.{is_ended, groups_in, requests_sent}
use Rattle.file_pasts.specs.PutDue.{IsPut}
use Rattle.file_pasts.specs.PutLaws.{put_over, bytes_in}
use Rattle.file_pasts.specs.GetDue.{IsGet}
use Rattle.file_pasts.specs.GetLaws.{replies_in, IsAnswered, groups_taken}
use Rattle.file_pasts.specs.ServerDue.{replies, IsServer}
use Rattle.file_pasts.specs.ServerLaws.{messages_asked, groups_given, NothingRefused, FillsFrom}
use Rattle.page_workers.specs.Workers.{WorkerState}
use Rattle.copy_laws.specs.Coupled.{Pasts, AreCoupled}
use Rattle.copy_laws.specs.PagesOfCopies.{AreInTurn, PutsUsePages, GetsUsePages}

-- the lists of so many passes, the first with this number
abbrev pub lists_from : ℕ → ℕ → List Entry → List (List PageEvent)
lists_from first zero pool = []
lists_from first (suc count) pool = events_by first pool ∷ lists_from (first + 1) count pool

-- the lists of the client's workers, and of the server's
abbrev pub client_lists : ℕ → Pasts → List (List PageEvent)
client_lists workers p = lists_from 0 workers p.pool

abbrev pub server_lists : ℕ → Pasts → List (List PageEvent)
server_lists workers p = lists_from workers workers p.pool

-- the lists of all workers fit together, and each event is in the list of the worker of its page
pub record FitTogether (workers : ℕ) (p : Pasts) : Type 0 where
  pub fit : PagesFit 1 (client_lists workers p ++ server_lists workers p)
  pub clients : AreInTurn workers (client_lists workers p)
  pub servers : AreInTurn workers (server_lists workers p)

abbrev pub WorkersFit : Type 0
WorkersFit = (workers count : ℕ) (p : Pasts) (pages : List PageState) (cs ss : List WorkerState) → count ≤ 256 → AreCoupled workers count p pages cs ss
    → FitTogether workers p

-- ---- a put over registered pages

-- the messages of one machine come to the other: the server was handed the first of the client's requests, and the client the first
-- of the server's replies
pub record AreBetween (p : Pasts) : Type 0 where
  pub to_server : IsPrefix (messages_asked p.server) (map request_bytes (requests_sent p.client))
  pub to_client : IsPrefix (replies_in p.client) (map reply_bytes (replies p.server))

-- the requests and replies of a put, what its server stores, and how it uses its pages
pub record PutComesTo (workers count : ℕ) (p : Pasts) : Type 0 where
  pub asked : IsPrefix (requests_sent p.client) (put_requests channels.V1 count (is_ended p.client) (bytes_in p.client))
  pub refused : NothingRefused p.server
  pub answered : IsPrefix (replies p.server) (replies_to (bytes_in p.client) (put_requests channels.V1 count (is_ended p.client) (bytes_in p.client)))
  pub follow : length (replies p.server) ≤ length (messages_asked p.server)
  pub stored : IsPrefix (groups_given p.server) (groups_of (bytes_in p.client))
  pub pages : PutsUsePages (windows count) (groups_in p.client) (requests_sent p.client) (take (length (replies p.server)) (requests_sent p.client))
      (take (length (replies_in p.client)) (requests_sent p.client)) (client_lists workers p) (server_lists workers p)

abbrev pub RegisteredPutsCome : Type 0
RegisteredPutsCome = (workers count : ℕ) (p : Pasts) (pages : List PageState) (cs ss : List WorkerState) → 1 ≤ workers → IsPool count
    → AreCoupled workers count p pages cs ss → IsPut (put_over channels.V1 count) p.client → IsServer kinds.Put p.server → IsCopyable (bytes_in p.client)
    → AreBetween p → PutComesTo workers count p

-- ---- a put without registered pages

pub record InlinePutComesTo (workers count : ℕ) (p : Pasts) : Type 0 where
  pub asked : IsPrefix (requests_sent p.client) (put_requests channels.None count (is_ended p.client) (bytes_in p.client))
  pub refused : NothingRefused p.server
  pub answered : IsPrefix (replies p.server) (replies_to (bytes_in p.client) (put_requests channels.None count (is_ended p.client) (bytes_in p.client)))
  pub follow : length (replies p.server) ≤ length (messages_asked p.server)
  pub stored : IsPrefix (groups_given p.server) (groups_of (bytes_in p.client))
  -- no page is used
  pub clients : all_events (client_lists workers p) ≡ []
  pub servers : all_events (server_lists workers p) ≡ []

abbrev pub InlinePutsCome : Type 0
InlinePutsCome = (workers count : ℕ) (p : Pasts) (pages : List PageState) (cs ss : List WorkerState) → 1 ≤ workers → IsPool count
    → AreCoupled workers count p pages cs ss → IsPut (put_over channels.None count) p.client → IsServer kinds.Put p.server → IsCopyable (bytes_in p.client)
    → AreBetween p → InlinePutComesTo workers count p

-- ---- a get over registered pages

-- the requests and replies of a get of these bytes, what its client gives, and how it uses its pages
pub record GetComesTo (workers : ℕ) (bytes : List ℕ) (p : Pasts) : Type 0 where
  pub asked : IsPrefix (requests_sent p.client) (get_requests channels.V1 bytes)
  pub refused : NothingRefused p.server
  pub answered : IsPrefix (replies p.server) (replies_to bytes (get_requests channels.V1 bytes))
  pub follow : length (replies p.server) ≤ length (messages_asked p.server)
  pub received : IsPrefix (groups_taken p.client) (groups_of bytes)
  pub pages : GetsUsePages bytes (requests_sent p.client) (take (length (replies p.server)) (requests_sent p.client))
      (take (length (replies_in p.client)) (requests_sent p.client)) (client_lists workers p) (server_lists workers p)

-- requests and replies of a get take turns: so its client has to be answered by what its server was handed in
abbrev pub RegisteredGetsCome : Type 0
RegisteredGetsCome = (workers count : ℕ) (p : Pasts) (pages : List PageState) (cs ss : List WorkerState) (bytes : List ℕ) → 1 ≤ workers → IsPool count
    → AreCoupled workers count p pages cs ss → IsGet channels.V1 p.client → IsServer kinds.Get p.server → IsCopyable bytes → FillsFrom kinds.Get bytes p.server
    → AreBetween p → IsAnswered channels.V1 bytes p.client → GetComesTo workers bytes p
