-- A put without registered pages, whole.
use Rattle.std.proofs.Common.{◌≡◌, ℕ, ◌+◌, ◌≤◌, Bool, true, false, cond, Option, Some, None, List, [], ◌∷◌, ◌++◌, length, map, refl, ap, ◌∙◌, subst}
use Rattle.std.specs.Prelude.{slice_get}
use Rattle.std.specs.List.{flat_map}
use mathlib.Core.List.{IsPrefix}
use Rattle.std.proofs.lemmas.List.{append-nil}
use Rattle.std.proofs.lemmas.List.Concat.{flat_map-append}
use Rattle.smbd_base.specs.declared.page_event.PageEvent.{PageEvent}
use Rattle.smbd_base.specs.Pages.{Entry, PageState}
use Rattle.smbd_base.specs.PagesFit.{all_events, events_by}
use Rattle.file_messages.specs.declared.kind.CopyKind.TheVariants as kinds
use Rattle.file_messages.specs.declared.kind.Channel.TheVariants as channels
use Rattle.file_messages.specs.declared.message.Request.{Request}
use Rattle.file_messages.specs.declared.job.Work.{Work}
use Rattle.file_messages.specs.declared.job.Work.TheVariants.{Fetch}
use Rattle.file_messages.specs.declared.job.Job.{Job}
use Rattle.file_messages.specs.declared.job.Completion.{Completion}
use Rattle.file_messages.specs.Messages.{request_bytes}
use Rattle.file_messages.specs.Runs.{windows, groups_of, writes_from, end_request, end_if, put_requests, replies_to}
use Rattle.file_messages.specs.Written.{IsCopyable, IsPool}
use Rattle.file_messages.proofs.WrittenCopies.{puts_read}
use Rattle.file_pasts.specs.ClientPast.{ClientEvent, Group, End, Sent, Replied, Gave, Completed, Received, jobs_given, is_ended, has_failed, requests_sent}
use Rattle.file_pasts.specs.PutDue.{IsPut}
use Rattle.file_pasts.specs.PutLaws.{put_over, bytes_in}
use Rattle.file_pasts.specs.ServerDue.{replies, IsServer}
use Rattle.file_pasts.specs.ServerLaws.{messages_asked, works_given, jobs_needed, AsksFor, NothingRefused, FillsFrom}
use Rattle.file_pasts.proofs.PutLaw.{puts_ask}
use Rattle.file_pasts.proofs.ServerReplies.{servers_reply}
use Rattle.file_pasts.proofs.ServerJobs.{servers_fetch}
use Rattle.file_pasts.proofs.ServerGroups.{put_servers_store}
use Rattle.page_workers.specs.Workers.{WorkerState}
use Rattle.copy_laws.specs.ClientDone.{completions_in}
use Rattle.copy_laws.specs.ServerDone.{completions_taken}
use Rattle.copy_laws.specs.Coupled.{Pasts, AreWorkers, AreCoupled}
use Rattle.copy_laws.specs.Laws.{lists_from, AreBetween, InlinePutComesTo, InlinePutsCome}
use Rattle.copy_laws.proofs.Eaches.{Each, each-append, each-weaker}
use Rattle.copy_laws.proofs.Shares.{IsShare}
use Rattle.copy_laws.proofs.Runs.{HasMaker}
use Rattle.copy_laws.proofs.Origins.{made-at}
use Rattle.copy_laws.proofs.Tokens.{prefix-trans, prefix-map}
use Rattle.copy_laws.proofs.WorkerLists.{each-lists}
use Rattle.copy_laws.proofs.PutFetches.{FetchFits, fetches-from}
use Rattle.copy_laws.proofs.PutServers.{IsNoRead, no-reads, no-end-read, put-fills}
use Rattle.copy_laws.proofs.StepsLists.{each-by-place}
use Rattle.copy_laws.proofs.StepsRefused.{none-refused}

-- ---- no job is given

no-jobs : (count : ℕ) (past : List ClientEvent) → IsPut (put_over channels.None count) past → jobs_given past ≡ []
no-jobs count [] h = refl
no-jobs count (Group b ∷ past) h = no-jobs count past h.1
no-jobs count (End ∷ past) h = no-jobs count past h.1
no-jobs count (Sent r ∷ past) h = no-jobs count past h.1
no-jobs count (Replied m ∷ past) h = no-jobs count past h.1
no-jobs count (Gave w ∷ past) h = by_failed (has_failed past) h.0 where
  by_failed : (t : Bool) → cond {A = Option Job} t None None ≡ Some (record { number = length (jobs_given past); work = w }) → jobs_given past ++ w ∷ [] ≡ []
  by_failed true e = absurd (let b : ⊥ = cc in b)
  by_failed false e = absurd (let b : ⊥ = cc in b)
no-jobs count (Completed c ∷ past) h = no-jobs count past h.1
no-jobs count (Received b ∷ past) h = no-jobs count past h.1

needs-none : (w k offset : ℕ) (bytes : List ℕ) (groups : List (List ℕ)) → flat_map (jobs_needed bytes) (writes_from channels.None w k offset groups) ≡ []
needs-none w k offset bytes [] = refl
needs-none w k offset bytes (g ∷ groups) = needs-none w (k + 1) (offset + length g) bytes groups

end-needs-none : (k offset : ℕ) (bytes : List ℕ) (ended : Bool) → flat_map (jobs_needed bytes) (end_if ended (end_request k offset)) ≡ []
end-needs-none k offset bytes true = refl
end-needs-none k offset bytes false = refl

pub front-of-none : {X : Type 0} (xs : List X) → IsPrefix xs [] → xs ≡ []
front-of-none [] p = refl
front-of-none (x ∷ xs) p = absurd (let e = p.1 in let b : ⊥ = cc in b)

-- ---- where no job is given nothing is made

never : (es : List PageEvent) → Each (λ (e : PageEvent). ⊥) es → es ≡ []
never [] h = refl
never (e ∷ es) h = absurd h.0

pub none-made : (workers first : ℕ) (works : List Work) (handed : List Completion) (pool : List Entry) (ws : List WorkerState) → AreWorkers workers first works handed pool ws → works ≡ []
    → all_events (lists_from first workers pool) ≡ []
none-made workers first works handed pool ws a none =
    never (all_events (lists_from first workers pool))
    (each-lists (λ (e : PageEvent). ⊥) first workers pool (λ place below.
    each-weaker (HasMaker (IsShare workers (place + 1) works)) (λ (e : PageEvent). ⊥) (events_by (first + place) pool)
    (λ e m. given works m.job.number m.job.work none m.own.at) (made-at workers first place works handed pool ws a below)))
  where
    given : (works : List Work) (n : ℕ) (w : Work) → works ≡ [] → slice_get works n ≡ Some w → ⊥
    given [] n w e at = cc
    given (x ∷ works) n w e at = cc

-- ---- the whole

not-given : (ws : List Work) (n : ℕ) (w : Work) → ws ≡ [] → slice_get ws n ≡ Some w → ⊥
not-given [] n w e at = cc
not-given (x ∷ ws) n w e at = cc

module _ (workers count : ℕ) (p : Pasts) (pages : List PageState) (cs ss : List WorkerState) (some : 1 ≤ workers) (pool : IsPool count) (a : AreCoupled workers count p pages cs ss)
    (put : IsPut (put_over channels.None count) p.client) (served : IsServer kinds.Put p.server) (copyable : IsCopyable (bytes_in p.client)) (between : AreBetween p) where
  abbrev all : List ℕ
  all = bytes_in p.client

  abbrev ended : Bool
  ended = is_ended p.client

  abbrev works : List Work
  works = works_given p.server

  abbrev run : List Request
  run = put_requests channels.None count ended all

  asked : IsPrefix (requests_sent p.client) run
  asked = puts_ask count p.client put

  asks : AsksFor run p.server
  asks = record {
    asked = prefix-trans (messages_asked p.server) (map request_bytes (requests_sent p.client)) (map request_bytes run) between.to_server (prefix-map request_bytes (requests_sent p.client) run asked);
    read = puts_read channels.None count ended all pool copyable;
  }

  refused : NothingRefused p.server
  refused = none-refused kinds.Put workers count p pages cs ss some a served

  fills : FillsFrom kinds.Put all p.server
  fills =
      put-fills all run p.server
      (each-append IsNoRead (writes_from channels.None (windows count) 1 0 (groups_of all)) (end_if ended (end_request (length (groups_of all) + 1) (length all)))
      (no-reads channels.None (windows count) 1 0 (groups_of all)) (no-end-read (length (groups_of all) + 1) (length all) ended))
      served asks refused

  replied : IsPrefix (replies p.server) (replies_to all run) × (length (replies p.server) ≤ length (messages_asked p.server))
  replied = servers_reply kinds.Put all run p.server served asks refused fills

  needed : flat_map (jobs_needed all) run ≡ []
  needed =
      flat_map-append (jobs_needed all) (writes_from channels.None (windows count) 1 0 (groups_of all)) (end_if ended (end_request (length (groups_of all) + 1) (length all)))
      ∙ ap (λ (ws : List Work). ws ++ flat_map (jobs_needed all) (end_if ended (end_request (length (groups_of all) + 1) (length all)))) (needs-none (windows count) 1 0 all (groups_of all))
      ∙ end-needs-none (length (groups_of all) + 1) (length all) all ended

  no-works : works ≡ []
  no-works = front-of-none works (subst (λ (ws : List Work). IsPrefix works ws) needed (servers_fetch kinds.Put all run p.server served asks refused fills).given)

  pub inline-put-comes-to : InlinePutComesTo workers count p
  inline-put-comes-to = record {
    asked = asked;
    refused = refused;
    answered = replied.0;
    follow = replied.1;
    stored = put_servers_store channels.None count ended all (λ d. []) p.server pool copyable served asks.asked refused fills
        (fetches-from (λ d. []) works p.server served ([], append-nil works)
        (each-by-place (FetchFits (λ d. []) works) (completions_taken p.server) (λ m c at d b given came. absurd (not-given works c.number (Fetch d) no-works given)))) tt;
    clients = none-made workers 0 (jobs_given p.client) (completions_in p.client) p.pool cs a.clients (no-jobs count p.client put);
    servers = none-made workers workers works (completions_taken p.server) p.pool ss a.servers no-works;
  }

pub inline-puts-come : InlinePutsCome
inline-puts-come workers count p pages cs ss some pool a put served copyable between = inline-put-comes-to workers count p pages cs ss some pool a put served copyable between
