-- Logs of copies, worked out, and texts that are none.
use Rattle.std.specs.Prelude.{[], ◌∷◌, codes}
use Rattle.smbd_base.specs.declared.event.Event.TheVariants.{Post}
use Rattle.smbd_base.specs.declared.right.Right.TheVariants as right
use Rattle.smbd_base.specs.declared.page_event.PageEvent.TheVariants.{Load, Fetch}
use Rattle.smbd_base.specs.Tokens.{PageToken}
use Rattle.copy_log.specs.CopyLogs.{Deeds, IsLog}

abbrev pub token : PageToken
token = record { page = 0; generation = 1 }

-- both ends posted, the client's worker loaded a page, and the server's fetched from it
abbrev pub deeds : Deeds
deeds = record {
  client = Post 255 ∷ [];
  server = Post 255 ∷ [];
  clients = (Load token right.Fetch (codes "abc") ∷ []) ∷ [];
  servers = (Fetch token 0 (codes "abc") ∷ []) ∷ [];
}

pub record LogsSo : Type 0 where
  pub in_turn : IsLog deeds (codes "C post 255\nS post 255\nC1 load 256 fetch 3\nS1 fetch 256 0 3\n")
  pub mixed : IsLog deeds (codes "C post 255\nS post 255\nS1 fetch 256 0 3\nC1 load 256 fetch 3\n")
