-- A get without registered pages: its requests, replies and groups, and that it uses no page.
use Rattle.std.proofs.Common.{◌≡◌, ℕ, zero, suc, ◌+◌, ◌≤◌, Bool, true, false, cond, Option, Some, None, List, [], ◌∷◌, ◌++◌, length, refl, ap, ◌∙◌, subst}
use Rattle.std.specs.List.{flat_map}
use mathlib.Core.List.{IsPrefix}
use Rattle.std.proofs.lemmas.List.Concat.{flat_map-append}
use Rattle.smbd_base.specs.Pages.{PageState}
use Rattle.smbd_base.specs.PagesFit.{all_events}
use Rattle.file_messages.specs.declared.kind.CopyKind.TheVariants as kinds
use Rattle.file_messages.specs.declared.kind.Channel.TheVariants as channels
use Rattle.file_messages.specs.declared.message.Request.{Request}
use Rattle.file_messages.specs.declared.job.Work.{Work}
use Rattle.file_messages.specs.declared.job.Job.{Job}
use Rattle.file_messages.specs.Runs.{reads_from, reads_count, end_request, get_requests, replies_to}
use Rattle.file_messages.specs.Written.{IsCopyable}
use Rattle.file_pasts.specs.ClientPast.{ClientEvent, Group, End, Sent, Replied, Gave, Completed, Received, jobs_given, has_failed, requests_sent}
use Rattle.file_pasts.specs.GetDue.{IsGet}
use Rattle.file_pasts.specs.GetLaws.{IsAnswered}
use Rattle.file_pasts.specs.ServerDue.{replies, IsServer}
use Rattle.file_pasts.specs.ServerLaws.{messages_asked, works_given, jobs_needed, AsksFor, NothingRefused, FillsFrom}
use Rattle.file_pasts.proofs.GetLaw.{gets_ask}
use Rattle.file_pasts.proofs.GetGroups.{gets_receive}
use Rattle.file_pasts.proofs.ServerReplies.{servers_reply}
use Rattle.file_pasts.proofs.ServerJobs.{servers_fetch}
use Rattle.page_workers.specs.Workers.{WorkerState}
use Rattle.copy_laws.specs.ClientDone.{completions_in}
use Rattle.copy_laws.specs.ServerDone.{completions_taken}
use Rattle.copy_laws.specs.Coupled.{Pasts, AreCoupled}
use Rattle.copy_laws.specs.Laws.{client_lists, server_lists, AreBetween}
use Rattle.copy_laws.proofs.Growing.{get-asks}
use Rattle.copy_laws.proofs.InlinePuts.{front-of-none, none-made}
use Rattle.copy_laws.proofs.StepsRefused.{none-refused}
use Rattle.copy_runs.proofs.Gets.{GetRuns}

-- ---- no job is given

no-jobs : (past : List ClientEvent) → IsGet channels.None past → jobs_given past ≡ []
no-jobs [] g = refl
no-jobs (Group bytes ∷ past) g = absurd g.0
no-jobs (End ∷ past) g = absurd g.0
no-jobs (Sent r ∷ past) g = no-jobs past g.1
no-jobs (Replied m ∷ past) g = no-jobs past g.1
no-jobs (Gave work ∷ past) g = by_failed (has_failed past) g.0 where
  by_failed : (t : Bool) → cond {A = Option Job} t None None ≡ Some (record { number = length (jobs_given past); work = work }) → jobs_given past ++ work ∷ [] ≡ []
  by_failed true e = absurd (let b : ⊥ = cc in b)
  by_failed false e = absurd (let b : ⊥ = cc in b)
no-jobs (Completed c ∷ past) g = no-jobs past g.1
no-jobs (Received bytes ∷ past) g = no-jobs past g.1

reads-need-none : (bytes : List ℕ) (count k : ℕ) → flat_map (jobs_needed bytes) (reads_from channels.None count k) ≡ []
reads-need-none bytes zero k = refl
reads-need-none bytes (suc count) k = reads-need-none bytes count (k + 1)

-- ---- the whole

-- it runs, and no page is used
pub record InlineGetRuns (workers : ℕ) (bytes : List ℕ) (p : Pasts) : Type 0 where
  pub runs : GetRuns channels.None bytes p
  pub clients : all_events (client_lists workers p) ≡ []
  pub servers : all_events (server_lists workers p) ≡ []

module _ (workers count : ℕ) (p : Pasts) (pages : List PageState) (cs ss : List WorkerState) (bytes : List ℕ) (some : 1 ≤ workers) (a : AreCoupled workers count p pages cs ss)
    (get : IsGet channels.None p.client) (served : IsServer kinds.Get p.server) (copyable : IsCopyable bytes) (fills : FillsFrom kinds.Get bytes p.server)
    (between : AreBetween p) (told : IsAnswered channels.None bytes p.client) where
  abbrev run : List Request
  run = get_requests channels.None bytes

  asked : IsPrefix (requests_sent p.client) run
  asked = gets_ask bytes p.client copyable get told

  asks : AsksFor run p.server
  asks = get-asks channels.None bytes p copyable between asked

  refused : NothingRefused p.server
  refused = none-refused kinds.Get workers count p pages cs ss some a served

  replied : IsPrefix (replies p.server) (replies_to bytes run) × (length (replies p.server) ≤ length (messages_asked p.server))
  replied = servers_reply kinds.Get bytes run p.server served asks refused fills

  needed : flat_map (jobs_needed bytes) run ≡ []
  needed =
      flat_map-append (jobs_needed bytes) (reads_from channels.None (reads_count bytes) 1) (end_request (reads_count bytes + 1) (length bytes) ∷ [])
      ∙ ap (λ (ws : List Work). ws ++ []) (reads-need-none bytes (reads_count bytes) 1)

  no-works : works_given p.server ≡ []
  no-works = front-of-none (works_given p.server) (subst (λ (ws : List Work). IsPrefix (works_given p.server) ws) needed (servers_fetch kinds.Get bytes run p.server served asks refused fills).given)

  pub inline-get-runs : InlineGetRuns workers bytes p
  inline-get-runs = record {
    runs = record {
      is_get = record { asked = asked; refused = refused; answered = replied.0 };
      follow = replied.1;
      received = gets_receive bytes p.client copyable get told;
    };
    clients = none-made workers 0 (jobs_given p.client) (completions_in p.client) p.pool cs a.clients (no-jobs p.client get);
    servers = none-made workers workers (works_given p.server) (completions_taken p.server) p.pool ss a.servers no-works;
  }
