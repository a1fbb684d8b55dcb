-- A get of either channel, where the reply to END was taken, is whole.
use Rattle.std.proofs.Common.{◌≡◌, ℕ, ◌+◌, ◌/◌, ◌≤◌, Bool, true, false, None, List, [], length, map, refl, ap, arith}
use mathlib.Core.List.{IsPrefix}
use Rattle.std.proofs.lemmas.List.{append-nil, length-map}
use Rattle.smbd_base.specs.Pages.{PageState}
use Rattle.file_messages.specs.declared.kind.Channel.{Channel}
use Rattle.file_messages.specs.declared.kind.Channel.TheVariants as channels
use Rattle.file_messages.specs.declared.kind.CopyKind.TheVariants as kinds
use Rattle.file_messages.specs.declared.message.Request.{Request}
use Rattle.file_messages.specs.Messages.{reply_bytes}
use Rattle.file_messages.specs.Runs.{groups_of, get_requests, reply_to, replies_to}
use Rattle.file_pasts.specs.ClientPast.{jobs_given}
use Rattle.file_pasts.specs.GetDue.{groups_came, next_group, is_finished}
use Rattle.file_pasts.specs.GetLaws.{replies_in, groups_taken}
use Rattle.file_pasts.specs.GetPagesBack.{UnloadsBring}
use Rattle.file_pasts.specs.GetReceives.{page_placed}
use Rattle.file_pasts.specs.ServerLaws.{AsksFor, NothingRefused}
use Rattle.file_pasts.proofs.GetGroups.{gets_receive}
use Rattle.page_workers.specs.Workers.{WorkerState}
use Rattle.copy_laws.specs.ClientDone.{completions_in}
use Rattle.copy_laws.specs.Coupled.{Pasts}
use Rattle.copy_laws.specs.Growing.{bytes_filled}
use Rattle.copy_laws.proofs.Heard.{heard-few}
use Rattle.copy_laws.proofs.StepsLists.{each-by-place}
use Rattle.copy_laws.proofs.GetClients.{UnloadBrings, unloads-bring}
use Rattle.copy_laws.proofs.GetServers.{brings-one, registered-gets-come}
use Rattle.copy_runs.specs.CopyPasts.{is_short, IsCopy}
use Rattle.copy_runs.specs.Laws.{IsWhole}
use Rattle.copy_runs.proofs.EndLists.{front-all, length-groups, length-get}
use Rattle.copy_runs.proofs.GetCopies.{get-tokens, get-asked, get-asks, get-refused}
use Rattle.copy_runs.proofs.SourceSeen.{unseen-left}
use Rattle.copy_runs.proofs.GetsOver.{GetIsOver, get-is-over, came-taken}
use Rattle.copy_runs.proofs.InlineCame.{inline-came}
use Rattle.copy_runs.proofs.RoundsCame.{rounds-came}

-- ---- groups

unloads : (workers count : ℕ) (p : Pasts) (pages : List PageState) (cs ss : List WorkerState) → IsCopy kinds.Get channels.V1 workers count p pages cs ss
    → UnloadsBring (page_placed (bytes_filled p.server)) p.client
unloads workers count p pages cs ss c =
    unloads-bring (page_placed (bytes_filled p.server)) (jobs_given p.client) p.client ([], append-nil (jobs_given p.client))
    (each-by-place (UnloadBrings (page_placed (bytes_filled p.server)) (jobs_given p.client)) (completions_in p.client)
    (λ m d at. brings-one workers count p pages cs ss (bytes_filled p.server) c.some c.pool c.coupled c.client c.server c.copyable c.carried.0 c.between c.carried.1 d m at))

-- those that were given are the first of the bytes', and all of them came
record GroupsCome (channel : Channel) (bytes : List ℕ) (p : Pasts) : Type 0 where
  given : IsPrefix (groups_taken p.client) (groups_of bytes)
  came : (length bytes + 65535) / 65536 ≤ length (groups_came channel p.client)

groups-come : (channel : Channel) (workers count : ℕ) (p : Pasts) (pages : List PageState) (cs ss : List WorkerState) → IsCopy kinds.Get channel workers count p pages cs ss
    → GetIsOver channel (bytes_filled p.server) p.client → GroupsCome channel (bytes_filled p.server) p
groups-come channels.None workers count p pages cs ss c o = record {
  given = gets_receive (bytes_filled p.server) p.client c.copyable c.client c.carried.1;
  came = (let heard = o.heard_all in
      inline-came (bytes_filled p.server) p.client c.copyable c.client c.carried.1 o.fine ((length (bytes_filled p.server) + 65535) / 65536) (omega (arith, heard)) (omega arith));
}
groups-come channels.V1 workers count p pages cs ss c o = record {
  given = (registered-gets-come workers count p pages cs ss (bytes_filled p.server) c.some c.pool c.coupled c.client c.server c.copyable c.carried.0 c.between c.carried.1).received;
  came = (let size = ap (λ (rs : List Request). length rs) o.sent_all in let long = length-get channels.V1 (bytes_filled p.server) in
      rounds-came (bytes_filled p.server) p.client c.copyable c.client (get-tokens workers count p pages cs ss c) c.carried.1 (unloads workers count p pages cs ss c) o.fine (omega (arith, size, long)));
}

-- ---- it is whole

module _ (channel : Channel) (workers count : ℕ) (p : Pasts) (pages : List PageState) (cs ss : List WorkerState) (c : IsCopy kinds.Get channel workers count p pages cs ss)
    (over : is_finished p.client ≡ true) where
  abbrev bytes : List ℕ
  bytes = bytes_filled p.server

  abbrev run : List Request
  run = get_requests channel bytes

  asks : AsksFor run p.server
  asks = get-asks workers count p pages cs ss channel c

  refused : NothingRefused p.server
  refused = get-refused workers count p pages cs ss channel c

  o : GetIsOver channel bytes p.client
  o = get-is-over channel bytes p.client (get-asked workers count p pages cs ss channel c) c.carried.1 over

  pub get-ended : is_short p.server ≡ true
  get-ended = by_short (is_short p.server) refl where
    by_short : (t : Bool) → is_short p.server ≡ t → is_short p.server ≡ true
    by_short true e = e
    by_short false e =
        let left = unseen-left channel bytes p.server c.server asks refused c.carried.0 e in
        let heard = heard-few p c.between in
        let all = o.heard_all in
        absurd (omega (arith, left, heard, all))

  pub get-answered : replies_in p.client ≡ map reply_bytes (replies_to bytes run)
  get-answered =
      front-all (replies_in p.client) (map reply_bytes (replies_to bytes run)) c.carried.1
      (let all = o.heard_all in
      let long = length-get channel bytes in
      let messages = length-map (replies_to bytes run) reply_bytes in
      let answers = length-map run (reply_to bytes) in
      omega (arith, all, long, messages, answers))

  pub get-groups : next_group channel p.client ≡ None → groups_taken p.client ≡ groups_of bytes
  get-groups none =
      let come = groups-come channel workers count p pages cs ss c o in
      let came = come.came in
      let taken = came-taken channel p.client o.fine none in
      let long = length-groups bytes in
      front-all (groups_taken p.client) (groups_of bytes) come.given (omega (arith, came, taken, long))

pub get-whole : (channel : Channel) (workers count : ℕ) (p : Pasts) (pages : List PageState) (cs ss : List WorkerState) → IsCopy kinds.Get channel workers count p pages cs ss
    → is_finished p.client ≡ true → next_group channel p.client ≡ None → IsWhole kinds.Get channel count p
get-whole channel workers count p pages cs ss c over none = record {
  ended = get-ended channel workers count p pages cs ss c over;
  groups = get-groups channel workers count p pages cs ss c over none;
  answered = get-answered channel workers count p pages cs ss c over;
}
