-- The workers of a copy, as its machines and they go on.
use Rattle.std.proofs.Common.{◌≡◌, List, length, sym, ap, ◌∙◌, subst, arith}
use Rattle.std.proofs.lemmas.List.{length-map}
use Rattle.smbd_base.specs.declared.end_id.EndId.TheVariants.{Client, Server}
use Rattle.event_log.specs.declared.log_line.LogLine.{LogLine}
use Rattle.file_messages.specs.declared.job.Work.{Work}
use Rattle.file_messages.specs.declared.job.Completion.{Completion}
use Rattle.file_pasts.specs.ClientPast.{ClientEvent, jobs_given}
use Rattle.file_pasts.specs.ServerDue.{ServerEvent}
use Rattle.file_pasts.specs.ServerLaws.{works_given}
use Rattle.page_workers.specs.Workers.{WorkerState}
use Rattle.copy_laws.specs.ClientDone.{completions_in}
use Rattle.copy_laws.specs.ServerDone.{completions_taken}
use Rattle.copy_laws.specs.Coupled.{Pasts, AreWorkers}
use Rattle.page_crew.specs.Crews.{CrewState, IsSized, IsCrewOf, lines_of}
use Rattle.copy_jobs.specs.Jobs.{IsSameBut}
use Rattle.copy_parts.specs.declared.options.CopyOptions.{CopyOptions}
use Rattle.copy_parts.specs.Copies.{AreManned}
use Rattle.copy_parts.proofs.Quiet.{WorksSame, ServesSame}

-- ---- machines that gave no job and were handed no completion

pub client-manned : (o : CopyOptions) (p : Pasts) (c : CrewState) (past : List ClientEvent) → WorksSame p.client past → AreManned o p c → AreManned o (record p { client = past }) c
client-manned o p c past h m = record {
  sized = m.sized;
  workers = m.workers;
  pages = m.pages;
  coupled = record {
    run = m.coupled.run;
    by = m.coupled.by;
    clients = subst (λ (cs : List Completion). AreWorkers (length c.clients) 0 (jobs_given past) cs p.pool c.clients) (sym h.done)
        (subst (λ (ws : List Work). AreWorkers (length c.clients) 0 ws (completions_in p.client) p.pool c.clients) (sym h.given) m.coupled.clients);
    servers = m.coupled.servers;
  };
}

pub server-manned : (o : CopyOptions) (p : Pasts) (c : CrewState) (past : List ServerEvent) → ServesSame p.server past → AreManned o p c → AreManned o (record p { server = past }) c
server-manned o p c past h m = record {
  sized = m.sized;
  workers = m.workers;
  pages = m.pages;
  coupled = record {
    run = m.coupled.run;
    by = m.coupled.by;
    clients = m.coupled.clients;
    servers = subst (λ (cs : List Completion). AreWorkers (length c.clients) (length c.clients) (works_given past) cs p.pool c.servers) (sym h.done)
        (subst (λ (ws : List Work). AreWorkers (length c.clients) (length c.clients) ws (completions_taken p.server) p.pool c.servers) (sym h.given) m.coupled.servers);
  };
}

-- ---- a crew of which the workers of one end went on

lines-count : (ws vs : List WorkerState) → lines_of vs ≡ lines_of ws → length vs ≡ length ws
lines-count ws vs e =
    sym (length-map vs (λ (w : WorkerState). w.lines)) ∙ ap (λ (ls : List (List LogLine)). length ls) e ∙ length-map ws (λ (w : WorkerState). w.lines)

-- as many workers and pages
pub record IsAsLarge (a b : CrewState) : Type 0 where
  pub clients : length b.clients ≡ length a.clients
  pub servers : length b.servers ≡ length a.servers
  pub pages : length b.region.pages ≡ length a.region.pages
  pub client_lines : lines_of b.clients ≡ lines_of a.clients
  pub server_lines : lines_of b.servers ≡ lines_of a.servers

pub large-client : (a b : CrewState) → IsSameBut Client a b → IsAsLarge a b
large-client a b s = record {
  clients = lines-count a.clients b.clients s.lines;
  servers = ap (λ (c : CrewState). length c.servers) s.others;
  pages = ap (λ (c : CrewState). length c.region.pages) s.others;
  client_lines = s.lines;
  server_lines = ap (λ (c : CrewState). lines_of c.servers) s.others;
}

pub large-server : (a b : CrewState) → IsSameBut Server a b → IsAsLarge a b
large-server a b s = record {
  clients = ap (λ (c : CrewState). length c.clients) s.others;
  servers = lines-count a.servers b.servers s.lines;
  pages = ap (λ (c : CrewState). length c.region.pages) s.others;
  client_lines = ap (λ (c : CrewState). lines_of c.clients) s.others;
  server_lines = s.lines;
}

sized-so : (a b : CrewState) → length b.clients ≡ length a.clients → length b.servers ≡ length a.servers → length b.region.pages ≡ length a.region.pages → IsSized a → IsSized b
sized-so a b c s r h = record {
  some = omega (arith, h.some, c);
  few = omega (arith, h.few, c);
  even = s ∙ h.even ∙ sym c;
  least = omega (arith, h.least, r);
  most = omega (arith, h.most, r);
}

pub manned-so : (o : CopyOptions) (p q : Pasts) (a b : CrewState) → length b.clients ≡ length a.clients → length b.servers ≡ length a.servers → length b.region.pages ≡ length a.region.pages
    → IsCrewOf q b → AreManned o p a → AreManned o q b
manned-so o p q a b c s r k h = record { sized = sized-so a b c s r h.sized; workers = c ∙ h.workers; pages = r ∙ h.pages; coupled = k }
