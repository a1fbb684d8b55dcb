-- The log of a copy after its news, and before them.
use Rattle.std.proofs.Common.{◌≡◌, ◌⊎◌, inl, inr, ℕ, zero, suc, List, [], ◌∷◌, ◌++◌, length, reverse, refl, sym, ap, ◌∙◌, subst, append_assoc}
use Rattle.std.proofs.lemmas.List.{append-nil, reverse-reverse}
use mathlib.Core.List.{IsPrefix}
use Rattle.smbd_base.specs.declared.end_id.EndId.TheVariants.{Client, Server}
use Rattle.smbd_base.specs.declared.event.Event.{Event}
use Rattle.smbd_base.specs.declared.event.Event.TheVariants.{Post}
use Rattle.smbd_base.specs.declared.page_event.PageEvent.{PageEvent}
use Rattle.smbd_base.specs.Pages.{Entry}
use Rattle.event_log.specs.declared.side.Side.{Side}
use Rattle.event_log.specs.declared.side.Side.TheVariants.{C, S, Cw, Sw}
use Rattle.event_log.specs.Lines.{lines_text}
use Rattle.world_core.specs.Run.{State}
use Rattle.run_log.specs.declared.telling.Told.{Told}
use Rattle.run_log.specs.RunLines.{history_lines}
use Rattle.run_log.specs.NewLines.{told_of}
use Rattle.copy_laws.specs.Coupled.{Pasts}
use Rattle.copy_laws.specs.Laws.{lists_from}
use Rattle.copy_log.specs.CopyLogs.{Deeds, IsLog, BeginsLog, side_lines, page_lines, events_of}
use Rattle.copy_log.specs.Laws.{News, news_of, news_text, opened_deeds, opening_news}
use Rattle.copy_log.specs.Laws as told_at
use Rattle.copy_log.proofs.Logging.{go-on, open-log}
use Rattle.copy_parts.specs.declared.options.CopyOptions.{CopyOptions}
use Rattle.copy_parts.specs.declared.parts.Parts.{Parts}
use Rattle.copy_parts.specs.Copies.{Stands}
use Rattle.end_workers.specs.News.{news}
use Rattle.end_workers.specs.Promise.{Stream}
use Rattle.end_workers.specs.Progress.{deeds_now, IsTold, IsUntold, HasMoreToTell}
use Rattle.end_workers.proofs.LogsOfEnds.{end-lines}
use Rattle.end_workers.proofs.LogsOfWorkers.{crew-lines, no-events}

module _ (o : CopyOptions) (p : Pasts) (parts : Parts) (pool : List Entry) (d : Deeds) (client_told server_told : Told) (client server : List Event)
    (stands : Stands o p parts) (more : HasMoreToTell o p parts pool d) (client_is : client_told ≡ told_of d.client) (server_is : server_told ≡ told_of d.server)
    (client_now : reverse client ≡ parts.world.client) (server_now : reverse server ≡ parts.world.server) where
  abbrev told_now : News
  told_now = news client_told server_told client server parts

  client_lines : history_lines Client parts.world.client ≡ history_lines Client d.client ++ told_now.client
  client_lines = end-lines Client d.client parts.world.client client client_told client_is more.client client_now

  server_lines : history_lines Server parts.world.server ≡ history_lines Server d.server ++ told_now.server
  server_lines = end-lines Server d.server parts.world.server server server_told server_is more.server server_now

  clients_count : length parts.crew.clients ≡ o.workers
  clients_count = stands.under_way.manned.workers

  servers_count : length parts.crew.servers ≡ o.workers
  servers_count = stands.under_way.manned.sized.even ∙ clients_count

  clients_lines : (worker : ℕ) → page_lines (Cw worker) (events_of worker (lists_from 0 o.workers p.pool))
      ≡ page_lines (Cw worker) (events_of worker (lists_from 0 o.workers pool)) ++ told_at.lines_of worker told_now.clients
  clients_lines worker = crew-lines Client 0 o.workers pool p.pool parts.crew.clients clients_count more.clients worker

  servers_lines : (worker : ℕ) → page_lines (Sw worker) (events_of worker (lists_from o.workers o.workers p.pool))
      ≡ page_lines (Sw worker) (events_of worker (lists_from o.workers o.workers pool)) ++ told_at.lines_of worker told_now.servers
  servers_lines worker = crew-lines Server o.workers o.workers pool p.pool parts.crew.servers servers_count more.servers worker

  -- each side's lines go on by its news
  each-side : (side : Side) → side_lines (deeds_now o p parts) side ≡ side_lines d side ++ news_of told_now side
  each-side C = client_lines
  each-side S = server_lines
  each-side (Cw worker) =
      clients_lines worker
      ∙ ap (λ (lists : List (List PageEvent)). page_lines (Cw worker) (events_of worker lists) ++ told_at.lines_of worker told_now.clients) (sym more.client_lists_are)
  each-side (Sw worker) =
      servers_lines worker
      ∙ ap (λ (lists : List (List PageEvent)). page_lines (Sw worker) (events_of worker lists) ++ told_at.lines_of worker told_now.servers) (sym more.server_lists_are)

  -- the news where nothing was told: the opening posts, and then what the workers did
  module _ (text : List ℕ) (none : IsUntold o parts.world pool d text) where
    abbrev credits : ℕ
    credits = o.limits.credits

    -- the news of the workers alone
    abbrev workers_news : News
    workers_news = record { client = []; server = []; clients = told_now.clients; servers = told_now.servers }

    opening_client : told_now.client ≡ history_lines Client (Post credits ∷ [])
    opening_client =
        sym (ap (λ (past : List Event). history_lines Client past ++ told_now.client) none.client) ∙ sym client_lines
        ∙ ap (λ (world : State). history_lines Client world.client) none.world_is

    opening_server : told_now.server ≡ history_lines Server (Post credits ∷ [])
    opening_server =
        sym (ap (λ (past : List Event). history_lines Server past ++ told_now.server) none.server) ∙ sym server_lines
        ∙ ap (λ (world : State). history_lines Server world.server) none.world_is

    workers-side : (side : Side) → side_lines (deeds_now o p parts) side ≡ side_lines (opened_deeds credits credits) side ++ news_of workers_news side
    workers-side C = ap (λ (world : State). history_lines Client world.client) none.world_is ∙ sym (append-nil (history_lines Client (Post credits ∷ [])))
    workers-side S = ap (λ (world : State). history_lines Server world.server) none.world_is ∙ sym (append-nil (history_lines Server (Post credits ∷ [])))
    workers-side (Cw worker) =
        clients_lines worker
        ∙ ap (λ (q : List Entry). page_lines (Cw worker) (events_of worker (lists_from 0 o.workers q)) ++ told_at.lines_of worker told_now.clients) none.pool_is
        ∙ ap (λ (list : List PageEvent). page_lines (Cw worker) list ++ told_at.lines_of worker told_now.clients) (no-events 0 o.workers worker ∙ sym (no_lists worker))
      where
        no_lists : (worker : ℕ) → events_of worker [] ≡ []
        no_lists zero = refl
        no_lists (suc place) = refl
    workers-side (Sw worker) =
        servers_lines worker
        ∙ ap (λ (q : List Entry). page_lines (Sw worker) (events_of worker (lists_from o.workers o.workers q)) ++ told_at.lines_of worker told_now.servers) none.pool_is
        ∙ ap (λ (list : List PageEvent). page_lines (Sw worker) list ++ told_at.lines_of worker told_now.servers) (no-events o.workers o.workers worker ∙ sym (no_lists worker))
      where
        no_lists : (worker : ℕ) → events_of worker [] ≡ []
        no_lists zero = refl
        no_lists (suc place) = refl

    whole_text : news_text (opening_news credits credits) ++ news_text workers_news ≡ text ++ news_text told_now
    whole_text = joined (lines_text (history_lines Client (Post credits ∷ []))) (lines_text (history_lines Server (Post credits ∷ []))) (news_text workers_news)
        ∙ ap (λ (ls : List (List ℕ)). lines_text ls ++ (lines_text (history_lines Server (Post credits ∷ [])) ++ news_text workers_news)) (sym opening_client)
        ∙ ap (λ (ls : List (List ℕ)). lines_text told_now.client ++ (lines_text ls ++ news_text workers_news)) (sym opening_server)
        ∙ ap (λ (t : List ℕ). t ++ news_text told_now) (sym none.text_is) where
          joined : (a b c : List ℕ) → (a ++ (b ++ [])) ++ c ≡ a ++ (b ++ c)
          joined a b c = ap (λ (t : List ℕ). (a ++ t) ++ c) (append-nil b) ∙ append_assoc a b c

    log-opens : IsLog (deeds_now o p parts) (text ++ news_text told_now)
    log-opens =
        subst (λ (t : List ℕ). IsLog (deeds_now o p parts) t) whole_text
        (go-on (opened_deeds credits credits) (deeds_now o p parts) (news_text (opening_news credits credits)) workers_news (open-log credits credits) workers-side)

  log-next : (text : List ℕ) → IsLog d text ⊎ IsUntold o parts.world pool d text → IsLog (deeds_now o p parts) (text ++ news_text told_now)
  log-next text (inl log) = go-on d (deeds_now o p parts) text told_now log each-side
  log-next text (inr none) = log-opens text none

-- with the news, the log tells all that happened
pub log-after : (o : CopyOptions) (p : Pasts) (parts : Parts) (log : Stream) (pool : List Entry) (d : Deeds) (client_told server_told : Told) (client server : List Event)
    → Stands o p parts → (told : IsTold o p parts.world log pool d client_told server_told) → HasMoreToTell o p parts pool d
    → reverse client ≡ parts.world.client → reverse server ≡ parts.world.server
    → IsLog (deeds_now o p parts) (told.text ++ news_text (news client_told server_told client server parts))
log-after o p parts log pool d client_told server_told client server stands told more client_now server_now =
    log-next o p parts pool d client_told server_told client server stands more told.client_is told.server_is client_now server_now told.text told.is_log

-- with a front of the news, it begins such a log
pub begins-with : (o : CopyOptions) (p : Pasts) (parts : Parts) (log : Stream) (pool : List Entry) (d : Deeds) (client_told server_told : Told) (client server : List Event) (front : List ℕ)
    → Stands o p parts → (told : IsTold o p parts.world log pool d client_told server_told) → HasMoreToTell o p parts pool d
    → reverse client ≡ parts.world.client → reverse server ≡ parts.world.server → IsPrefix front (news_text (news client_told server_told client server parts))
    → BeginsLog (deeds_now o p parts) (told.text ++ front)
begins-with o p parts log pool d client_told server_told client server front stands told more client_now server_now begins = record {
  whole = told.text ++ news_text (news client_told server_told client server parts);
  log = log-after o p parts log pool d client_told server_told client server stands told more client_now server_now;
  begins = (begins.0, append_assoc told.text front begins.0 ∙ ap (λ (t : List ℕ). told.text ++ t) begins.1);
}

-- and so it does without
pub begins-after : (o : CopyOptions) (p : Pasts) (parts : Parts) (log : Stream) (pool : List Entry) (d : Deeds) (client_told server_told : Told)
    → Stands o p parts → (told : IsTold o p parts.world log pool d client_told server_told) → HasMoreToTell o p parts pool d → BeginsLog (deeds_now o p parts) told.text
begins-after o p parts log pool d client_told server_told stands told more =
    let client = reverse parts.world.client in
    let server = reverse parts.world.server in
    record {
      whole = told.text ++ news_text (news client_told server_told client server parts);
      log = log-after o p parts log pool d client_told server_told client server stands told more (reverse-reverse parts.world.client) (reverse-reverse parts.world.server);
      begins = (news_text (news client_told server_told client server parts), refl);
    }
