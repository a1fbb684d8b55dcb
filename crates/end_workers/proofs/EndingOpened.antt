-- How a copy ends that could not be opened.
use Rattle.std.proofs.Common.{◌≡◌, inl, ℕ, zero, suc, ◌+◌, false, Option, Some, None, List, [], ◌∷◌, ◌++◌, length, replicate, refl, sym, ap, ◌∙◌, subst, append-nil, lit<, arith}
use Rattle.std.specs.Prelude.{slice_get}
use Rattle.std.proofs.lemmas.List.{length-replicate}
use Rattle.std.specs.Io.KnownBytes.{Appends, Consumes}
use Rattle.smbd_base.specs.declared.end_id.EndId.TheVariants.{Client, Server}
use Rattle.smbd_base.specs.declared.event.Event.TheVariants.{Post}
use Rattle.smbd_base.specs.Limits.{IsLawful}
use Rattle.smbd_base.specs.Pages.{opened_page}
use Rattle.smbd_outside.specs.declared.status.Status.TheVariants.{NoMemory}
use Rattle.joint_laws.proofs.Growing.{opened_joint}
use Rattle.world_core.specs.Run.{opened_world}
use Rattle.run_log.specs.RunLines.{history_lines}
use Rattle.event_log.specs.declared.side.Side.{Side}
use Rattle.event_log.specs.declared.side.Side.TheVariants.{C, S, Cw, Sw}
use Rattle.file_messages.specs.declared.kind.Channel.{Channel}
use Rattle.file_messages.specs.declared.kind.CopyKind.{CopyKind}
use Rattle.file_messages.specs.declared.kind.CopyKind.TheVariants as kinds
use Rattle.file_messages.specs.Written.{IsCopyable}
use Rattle.copy_laws.specs.Coupled.{AreCoupled}
use Rattle.copy_laws.specs.Kinds.{IsClient}
use Rattle.copy_laws.specs.Laws.{lists_from}
use Rattle.copy_laws.specs.Steps.{opened_pasts, workers_opened}
use Rattle.copy_laws.proofs.StepsOpened.{opens}
use Rattle.copy_runs.specs.CopyPasts.{bytes_of, ended_of, groups_out, Carries}
use Rattle.copy_log.specs.CopyLogs.{Deeds, BeginsLog, list_or_none, page_lines, side_lines}
use Rattle.copy_log.specs.Laws.{News, opened_deeds, opening_news, news_text, news_of}
use Rattle.copy_log.proofs.Logging.{go-on, open-log}
use Rattle.page_crew.specs.Crews.{opened_crew}
use Rattle.copy_ends.proofs.Opened.{opened_up}
use Rattle.copy_parts.specs.declared.options.CopyOptions.{CopyOptions}
use Rattle.copy_parts.specs.Options.{AreLawful}
use Rattle.copy_parts.specs.Copies.{IsConnected, AreManned, AreRuled, IsUnderWay}
use Rattle.copy_parts.proofs.Opening.{none-sent}
use Rattle.end_workers.specs.Promise.{Stream, KeepsPromise}
use Rattle.end_workers.specs.Progress.{IsUntouched, joined}
use Rattle.end_workers.proofs.Sounding.{course_of, sounds}

-- ---- both ends just opened, beside machines and workers to which nothing was given

connected : (o : CopyOptions) → AreLawful o → IsLawful o.limits → IsConnected o (opened_world o.limits o.limits)
connected o may lawful = record {
  link = inl (opened_up o.limits o.limits);
  few = none-sent o.cut o.limits may.numbered;
  client_limits = refl;
  server_limits = refl;
  lawful = lawful;
  joint = opened_joint o.limits o.limits lawful lawful;
  delivered = record { to_server = ([], refl); to_client = ([], refl) };
  follows = (omega arith, tt);
}

manned : (o : CopyOptions) → AreLawful o → IsLawful o.limits → AreManned o opened_pasts (opened_crew o.workers o.limits.pages)
manned o lawful limits =
    let coupled = opens o.workers o.limits.pages in
    let clients = coupled.clients.count in
    let servers = coupled.servers.count in
    let pages : length (replicate o.limits.pages (opened_page 1)) ≡ o.limits.pages = length-replicate o.limits.pages (opened_page 1) in
    record {
      sized = record {
        some = omega (arith, clients, lawful.some);
        few = omega (arith, clients, lawful.few);
        even = servers ∙ sym clients;
        least = omega (arith, pages, limits.pages.0);
        most = omega (arith, pages, limits.pages.1);
      };
      workers = clients;
      pages = pages;
      coupled =
          subst
          (λ (n : ℕ). AreCoupled n (length (replicate o.limits.pages (opened_page 1))) opened_pasts (replicate o.limits.pages (opened_page 1)) (workers_opened 0 o.workers) (workers_opened o.workers o.workers))
          (sym clients)
          (subst
          (λ (n : ℕ). AreCoupled o.workers n opened_pasts (replicate o.limits.pages (opened_page 1)) (workers_opened 0 o.workers) (workers_opened o.workers o.workers))
          (sym pages) coupled);
    }

client-opened : (kind : CopyKind) (channel : Channel) (pages : ℕ) → IsClient kind channel pages []
client-opened kinds.Put channel pages = tt
client-opened kinds.Get channel pages = tt

no-bytes : (kind : CopyKind) → bytes_of kind opened_pasts ≡ []
no-bytes kinds.Put = refl
no-bytes kinds.Get = refl

no-end : (kind : CopyKind) → ended_of kind opened_pasts ≡ false
no-end kinds.Put = refl
no-end kinds.Get = refl

carried : (kind : CopyKind) (channel : Channel) → Carries kind channel opened_pasts
carried kinds.Put channel = tt
carried kinds.Get channel = (tt, (_, refl))

ruled : (o : CopyOptions) → AreRuled o opened_pasts
ruled o = record {
  client = client-opened o.kind o.channel o.limits.pages;
  server = tt;
  copyable = subst IsCopyable (sym (no-bytes o.kind)) (lit< tt);
  carried = carried o.kind o.channel;
}

under-way : (o : CopyOptions) → AreLawful o → IsLawful o.limits → IsUnderWay o opened_pasts (opened_world o.limits o.limits) (opened_crew o.workers o.limits.pages)
under-way o lawful limits = record {
  connected = connected o lawful limits;
  tied = record { sent = refl; heard = refl; replied = refl; asked = refl };
  manned = manned o lawful limits;
  ruled = ruled o;
}

-- ---- no text begins the log of what happened

none-at : (first count place : ℕ) → list_or_none (slice_get (lists_from first count []) place) ≡ []
none-at first zero place = refl
none-at first (suc count) zero = refl
none-at first (suc count) (suc place) = none-at (first + 1) count place

abbrev no-news : News
no-news = record { client = []; server = []; clients = []; servers = [] }

abbrev deeds-opened : CopyOptions → Deeds
deeds-opened o = record {
  client = Post o.limits.credits ∷ [];
  server = Post o.limits.credits ∷ [];
  clients = lists_from 0 o.workers [];
  servers = lists_from o.workers o.workers [];
}

-- the workers have no lines
no-more : (o : CopyOptions) (side : Side) → side_lines (deeds-opened o) side ≡ side_lines (opened_deeds o.limits.credits o.limits.credits) side ++ news_of no-news side
no-more o C = sym (append-nil (history_lines Client (Post o.limits.credits ∷ [])))
no-more o S = sym (append-nil (history_lines Server (Post o.limits.credits ∷ [])))
no-more o (Cw zero) = refl
no-more o (Cw (suc zero)) = ap (page_lines (Cw 1)) (none-at 0 o.workers zero)
no-more o (Cw (suc (suc place))) = ap (page_lines (Cw (suc (suc place)))) (none-at 0 o.workers (suc place))
no-more o (Sw zero) = refl
no-more o (Sw (suc zero)) = ap (page_lines (Sw 1)) (none-at o.workers o.workers zero)
no-more o (Sw (suc (suc place))) = ap (page_lines (Sw (suc (suc place)))) (none-at o.workers o.workers (suc place))

begins-empty : (o : CopyOptions) → BeginsLog (deeds-opened o) []
begins-empty o =
    let credits = o.limits.credits in
    let log = go-on (opened_deeds credits credits) (deeds-opened o) (news_text (opening_news credits credits)) no-news (open-log credits credits) (no-more o) in
    record { whole = news_text (opening_news credits credits) ++ news_text no-news; log = log; begins = (_, refl) }

-- ---- nothing was moved

reads-none : (before now : Option (List ℕ)) → now ≡ before → Consumes before now []
reads-none None now e = tt
reads-none (Some xs) None e = absurd (let b : ⊥ = cc in b)
reads-none (Some xs) (Some ys) e = cc

gets-none : (before now : Option (List ℕ)) → now ≡ before → Appends before now []
gets-none None now e = tt
gets-none (Some xs) None e = absurd (let b : ⊥ = cc in b)
gets-none (Some xs) (Some ys) e = (let same : ys ≡ xs = cc in same ∙ sym (append-nil xs))

-- its ends could have been opened, and nothing was read, stored or told
pub keeps-unopened : (o : CopyOptions) (source sink log : Stream) → AreLawful o → IsLawful o.limits → IsUntouched source → IsUntouched sink → IsUntouched log
    → KeepsPromise NoMemory o source sink log
keeps-unopened o source sink log lawful limits source_is sink_is log_is = record {
  course = course_of o opened_pasts (opened_world o.limits o.limits) [] false [] [];
  moves = record {
    read = reads-none source.before source.now source_is.0;
    stored = gets-none sink.before sink.now sink_is.0;
    logged = gets-none log.before log.now log_is.0;
    ended = λ e. absurd (let b : ⊥ = cc in b);
  };
  sound = sounds o opened_pasts (opened_world o.limits o.limits) (opened_crew o.workers o.limits.pages) [] false [] [] (under-way o lawful limits)
      (record { bytes_are = sym (no-bytes o.kind); ended_is = sym (no-end o.kind); stores = (joined (groups_out o.kind opened_pasts), refl) })
      (λ some. absurd (omega (arith, some)));
  ends = (begins-empty o, omega arith, (0, refl));
}
