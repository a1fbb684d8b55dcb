-- A copy asks for its bytes, is answered, uses its pages as it has to, and gives the groups of its bytes.
use Rattle.std.proofs.Common.{◌≡◌, ℕ, ◌≤◌, ◌∙◌, List, length, take, map, sym, ap, subst, arith}
use mathlib.Core.List.{IsPrefix}
use Rattle.std.proofs.lemmas.List.{length-map}
use Rattle.smbd_base.specs.declared.page_event.PageEvent.{PageEvent}
use Rattle.file_messages.specs.declared.kind.Channel.TheVariants as channels
use Rattle.file_messages.specs.declared.kind.CopyKind.TheVariants as kinds
use Rattle.file_messages.specs.declared.message.Request.{Request}
use Rattle.file_messages.specs.Messages.{request_bytes, reply_bytes}
use Rattle.file_messages.specs.Runs.{windows, groups_of, put_requests, replies_to}
use Rattle.file_pasts.specs.ClientPast.{is_ended, groups_in, requests_sent}
use Rattle.file_pasts.specs.PutLaws.{put_over, bytes_in}
use Rattle.file_pasts.specs.GetLaws.{replies_in}
use Rattle.file_pasts.specs.ServerDue.{replies}
use Rattle.file_pasts.specs.ServerLaws.{messages_asked}
use Rattle.file_pasts.proofs.PutLaw.{groups_joined}
use Rattle.copy_laws.specs.Coupled.{Pasts}
use Rattle.copy_laws.specs.Growing.{bytes_filled}
use Rattle.copy_laws.specs.Laws.{AreBetween, client_lists, server_lists}
use Rattle.copy_laws.specs.PagesOfCopies.{PutsUsePages, GetsUsePages}
use Rattle.copy_laws.proofs.Heard.{heard-few}
use Rattle.copy_laws.proofs.InlinePuts.{inline-puts-come}
use Rattle.copy_laws.proofs.PutServers.{registered-puts-come}
use Rattle.copy_laws.proofs.Tokens.{prefix-map}
use Rattle.copy_runs.specs.Runs.{requests_of, requests_answered}
use Rattle.copy_runs.specs.CopyPasts.{is_short}
use Rattle.copy_runs.specs.Laws.{CopiesRun}
use Rattle.copy_runs.proofs.Fronts.{length-prefix, taken-front, whole-front}
use Rattle.copy_runs.proofs.GroupsStored.{groups-asked}
use Rattle.copy_runs.proofs.GroupsHeard.{groups-heard}
use Rattle.copy_runs.proofs.Gets.{get-requests, get-replies}
use Rattle.copy_runs.proofs.GetsOfCopies.{registered-get, inline-get, get-runs}

-- ---- the requests of a run, counted by the messages

-- those that were sent, those that were replied to, and those whose reply was heard
record AreCounted (run : List Request) (p : Pasts) : Type 0 where
  asked : requests_sent p.client ≡ take (length (map request_bytes (requests_sent p.client))) run
  replied : take (length (replies p.server)) (requests_sent p.client) ≡ take (length (map reply_bytes (replies p.server))) run
  heard : take (length (replies_in p.client)) (requests_sent p.client) ≡ take (length (replies_in p.client)) run

are-counted : (run : List Request) (p : Pasts) → IsPrefix (requests_sent p.client) run → length (replies p.server) ≤ length (messages_asked p.server) → AreBetween p → AreCounted run p
are-counted run p asked follow between =
    let sent = requests_sent p.client in
    let came = length-prefix (messages_asked p.server) (map request_bytes sent) between.to_server in
    let all = length-map sent request_bytes in
    record {
      asked = whole-front request_bytes sent run asked;
      replied = taken-front reply_bytes (replies p.server) sent run asked (omega (arith, follow, came, all));
      heard = taken-front (λ (m : List ℕ). m) (replies_in p.client) sent run asked (omega (arith, follow, came, all, heard-few p between))
          ∙ ap (λ (n : ℕ). take n run) (length-map (replies_in p.client) (λ (m : List ℕ). m));
    }

put-pages : (w : ℕ) (groups all : List (List ℕ)) (run : List Request) (p : Pasts) (clients servers : List (List PageEvent)) → groups ≡ all → AreCounted run p
    → PutsUsePages w groups (requests_sent p.client) (take (length (replies p.server)) (requests_sent p.client)) (take (length (replies_in p.client)) (requests_sent p.client)) clients servers
    → PutsUsePages w all (take (length (map request_bytes (requests_sent p.client))) run) (take (length (map reply_bytes (replies p.server))) run) (take (length (replies_in p.client)) run) clients servers
put-pages w groups all run p clients servers same c used =
    subst (λ (rs : List Request). PutsUsePages w all rs (take (length (map reply_bytes (replies p.server))) run) (take (length (replies_in p.client)) run) clients servers) c.asked
    (subst (λ (rs : List Request). PutsUsePages w all (requests_sent p.client) rs (take (length (replies_in p.client)) run) clients servers) c.replied
    (subst (λ (rs : List Request). PutsUsePages w all (requests_sent p.client) (take (length (replies p.server)) (requests_sent p.client)) rs clients servers) c.heard
    (subst
    (λ (gs : List (List ℕ)). PutsUsePages w gs (requests_sent p.client) (take (length (replies p.server)) (requests_sent p.client)) (take (length (replies_in p.client)) (requests_sent p.client)) clients servers)
    same used)))

get-pages : (bytes : List ℕ) (run : List Request) (p : Pasts) (clients servers : List (List PageEvent)) → AreCounted run p
    → GetsUsePages bytes (requests_sent p.client) (take (length (replies p.server)) (requests_sent p.client)) (take (length (replies_in p.client)) (requests_sent p.client)) clients servers
    → GetsUsePages bytes (take (length (map request_bytes (requests_sent p.client))) run) (take (length (map reply_bytes (replies p.server))) run) (take (length (replies_in p.client)) run) clients servers
get-pages bytes run p clients servers c used =
    subst (λ (rs : List Request). GetsUsePages bytes rs (take (length (map reply_bytes (replies p.server))) run) (take (length (replies_in p.client)) run) clients servers) c.asked
    (subst (λ (rs : List Request). GetsUsePages bytes (requests_sent p.client) rs (take (length (replies_in p.client)) run) clients servers) c.replied
    (subst (λ (rs : List Request). GetsUsePages bytes (requests_sent p.client) (take (length (replies p.server)) (requests_sent p.client)) rs clients servers) c.heard used))

-- the server submitted no more replies than it was asked for
followed : (p : Pasts) → length (replies p.server) ≤ length (messages_asked p.server) → length (map reply_bytes (replies p.server)) ≤ length (messages_asked p.server)
followed p h = omega (arith, h, length-map (replies p.server) reply_bytes)

-- ---- the law

pub copies-run : CopiesRun
copies-run kinds.Put channels.V1 workers count p pages cs ss c =
    let come = registered-puts-come workers count p pages cs ss c.some c.pool c.coupled c.client c.server c.copyable c.between in
    let bytes = bytes_in p.client in
    let run = put_requests channels.V1 count (is_ended p.client) bytes in
    record {
      requests = prefix-map request_bytes (requests_sent p.client) run come.asked;
      replies = prefix-map reply_bytes (replies p.server) (replies_to bytes run) come.answered;
      follow = followed p come.follow;
      pages_used = put-pages (windows count) (groups_in p.client) (groups_of bytes) run p (client_lists workers p) (server_lists workers p)
          (sym (groups_joined (put_over channels.V1 count) p.client c.client)) (are-counted run p come.asked come.follow c.between) come.pages;
      groups_are = come.stored;
      brought = groups-asked kinds.Put p.server c.server;
    }
copies-run kinds.Put channels.None workers count p pages cs ss c =
    let come = inline-puts-come workers count p pages cs ss c.some c.pool c.coupled c.client c.server c.copyable c.between in
    let bytes = bytes_in p.client in
    let run = put_requests channels.None count (is_ended p.client) bytes in
    record {
      requests = prefix-map request_bytes (requests_sent p.client) run come.asked;
      replies = prefix-map reply_bytes (replies p.server) (replies_to bytes run) come.answered;
      follow = followed p come.follow;
      pages_used = (come.clients, come.servers);
      groups_are = come.stored;
      brought = groups-asked kinds.Put p.server c.server;
    }
copies-run kinds.Get channels.V1 workers count p pages cs ss c =
    let come = registered-get workers count p pages cs ss c in
    let runs = get-runs channels.V1 workers count p pages cs ss c in
    let bytes = bytes_filled p.server in
    let asked = get-requests channels.V1 p c.client c.server c.copyable c.between c.carried.0 runs.is_get count in
    let run = requests_of kinds.Get channels.V1 count (is_short p.server) bytes in
    record {
      requests = prefix-map request_bytes (requests_sent p.client) run asked;
      replies = prefix-map reply_bytes (replies p.server) (replies_to bytes (requests_answered kinds.Get channels.V1 count (is_short p.server) bytes))
          (get-replies channels.V1 p c.client c.server c.copyable c.between c.carried.0 runs.is_get count);
      follow = followed p runs.follow;
      pages_used = get-pages bytes run p (client_lists workers p) (server_lists workers p) (are-counted run p asked runs.follow c.between) come.pages;
      groups_are = runs.received;
      brought = groups-heard channels.V1 bytes p.client c.client runs.is_get.asked;
    }
copies-run kinds.Get channels.None workers count p pages cs ss c =
    let come = inline-get workers count p pages cs ss c in
    let runs = come.runs in
    let bytes = bytes_filled p.server in
    let run = requests_of kinds.Get channels.None count (is_short p.server) bytes in
    record {
      requests = prefix-map request_bytes (requests_sent p.client) run (get-requests channels.None p c.client c.server c.copyable c.between c.carried.0 runs.is_get count);
      replies = prefix-map reply_bytes (replies p.server) (replies_to bytes (requests_answered kinds.Get channels.None count (is_short p.server) bytes))
          (get-replies channels.None p c.client c.server c.copyable c.between c.carried.0 runs.is_get count);
      follow = followed p runs.follow;
      pages_used = (come.clients, come.servers);
      groups_are = runs.received;
      brought = groups-heard channels.None bytes p.client c.client runs.is_get.asked;
    }
