-- What the log of a copy gains as it is told what happened since.
use Rattle.std.specs.Prelude.{ℕ, ◌+◌, List, [], ◌∷◌, drop, map}
use Rattle.smbd_base.specs.declared.end_id.EndId.{EndId}
use Rattle.smbd_base.specs.declared.end_id.EndId.TheVariants.{Client, Server}
use Rattle.smbd_base.specs.declared.event.Event.{Event}
use Rattle.event_log.specs.declared.log_line.LogLine.{LogLine}
use Rattle.event_log.specs.declared.side.Side.{Side}
use Rattle.event_log.specs.declared.side.Side.TheVariants.{Cw, Sw}
use Rattle.event_log.specs.Lines.{line_text}
use Rattle.run_log.specs.declared.telling.Told.{Told}
use Rattle.run_log.specs.NewLines.{lines_from}
use Rattle.copy_log.specs.Laws.{News}
use Rattle.page_crew.specs.Crews.{lines_of}
use Rattle.copy_parts.specs.declared.parts.Parts.{Parts}

-- the worker of this number, from 1
abbrev pub worker_of : EndId → ℕ → Side
worker_of Client worker = Cw worker
worker_of Server worker = Sw worker

-- the lines of some workers of an end as texts, the first of which has this number
abbrev pub texts_from : EndId → ℕ → List (List LogLine) → List (List (List ℕ))
texts_from end worker [] = []
texts_from end worker (lines ∷ later) = map (λ (line : LogLine). line_text (worker_of end worker) line) lines ∷ texts_from end (worker + 1) later

-- the texts of the events of both ends that were not told, in the order of time, and of the lines of all workers
abbrev pub news : Told → Told → List Event → List Event → Parts → News
news client_told server_told client server parts = record {
  client = lines_from Client client_told.next (drop client_told.events client);
  server = lines_from Server server_told.next (drop server_told.events server);
  clients = texts_from Client 1 (lines_of parts.crew.clients);
  servers = texts_from Server 1 (lines_of parts.crew.servers);
}
