-- How a log goes on as more is told (this project's own).
use Rattle.std.specs.Prelude.{◌≡◌, ℕ, zero, suc, Option, Some, None, List, [], ◌∷◌, ◌++◌, slice_get}
use Rattle.smbd_base.specs.declared.end_id.EndId.TheVariants.{Client, Server}
use Rattle.smbd_base.specs.declared.event.Event.TheVariants.{Post}
use Rattle.event_log.specs.declared.side.Side.{Side}
use Rattle.event_log.specs.declared.side.Side.TheVariants.{C, S, Cw, Sw}
use Rattle.event_log.specs.Lines.{lines_text}
use Rattle.run_log.specs.RunLines.{history_lines}
use Rattle.copy_log.specs.CopyLogs.{Deeds, side_lines, IsLog}

-- what is told at once: the lines of the client, of the server, and of each worker of both
pub record News : Type 0 where
  pub client : List (List ℕ)
  pub server : List (List ℕ)
  pub clients : List (List (List ℕ))
  pub servers : List (List (List ℕ))

abbrev pub lines_or_none : Option (List (List ℕ)) → List (List ℕ)
lines_or_none None = []
lines_or_none (Some lines) = lines

-- the lines of the worker of this number, from 1
abbrev pub lines_of : ℕ → List (List (List ℕ)) → List (List ℕ)
lines_of zero workers = []
lines_of (suc place) workers = lines_or_none (slice_get workers place)

abbrev pub news_of : News → Side → List (List ℕ)
news_of n C = n.client
news_of n S = n.server
news_of n (Cw worker) = lines_of worker n.clients
news_of n (Sw worker) = lines_of worker n.servers

-- the lines of some workers, one worker after another
abbrev pub workers_text : List (List (List ℕ)) → List ℕ
workers_text [] = []
workers_text (lines ∷ workers) = lines_text lines ++ workers_text workers

-- the text of it: the client's lines, the server's, those of the client's workers and those of the server's
abbrev pub news_text : News → List ℕ
news_text n = lines_text n.client ++ (lines_text n.server ++ (workers_text n.clients ++ workers_text n.servers))

-- where each side's lines go on by what is told of it, the text is the longer log
abbrev pub LogsGoOn : Type 0
LogsGoOn = (d e : Deeds) (text : List ℕ) (n : News) → IsLog d text → ((side : Side) → side_lines e side ≡ side_lines d side ++ news_of n side) → IsLog e (text ++ news_text n)

-- a copy in which nothing happened but the opening posts
abbrev pub opened_deeds : ℕ → ℕ → Deeds
opened_deeds client server = record { client = Post client ∷ []; server = Post server ∷ []; clients = []; servers = [] }

abbrev pub opening_news : ℕ → ℕ → News
opening_news client server = record {
  client = history_lines Client (Post client ∷ []);
  server = history_lines Server (Post server ∷ []);
  clients = [];
  servers = [];
}

abbrev pub LogsOpen : Type 0
LogsOpen = (client server : ℕ) → IsLog (opened_deeds client server) (news_text (opening_news client server))
