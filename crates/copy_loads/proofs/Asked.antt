-- A client that has all replies has submitted all requests.
use Rattle.std.proofs.Common.{◌≡◌, ℕ, ◌+◌, Bool, true, Some, List, length, take, map, sym, ap, ◌∙◌, subst, arith}
use Rattle.std.proofs.lemmas.List.{length-map}
use mathlib.Core.List.{IsPrefix}
use Rattle.smbd_base.specs.declared.end_id.EndId.TheVariants.{Client, Server}
use Rattle.smbd_base.specs.declared.event.Event.{Event}
use Rattle.smbd_base.specs.declared.page_event.PageEvent.{PageEvent}
use Rattle.smbd_base.specs.Limits.{Limits}
use Rattle.smbd_base.specs.History.{messages_submitted}
use Rattle.smbd_base.specs.Delivery.{messages_delivered}
use Rattle.smbd_outside.specs.declared.status.Status.TheVariants.{Done}
use Rattle.file_messages.specs.declared.kind.Channel.{Channel}
use Rattle.file_messages.specs.declared.kind.CopyKind.{CopyKind}
use Rattle.file_messages.specs.declared.kind.CopyKind.TheVariants as kinds
use Rattle.file_messages.specs.declared.message.Request.{Request}
use Rattle.file_messages.specs.Messages.{request_bytes, reply_bytes}
use Rattle.file_messages.specs.Runs.{groups_of, put_requests, reply_to, replies_to}
use Rattle.copy_laws.specs.Laws.{client_lists, server_lists}
use Rattle.copy_runs.specs.Runs.{requests_of, request_messages, reply_messages, IsRun}
use Rattle.copy_runs.specs.CopyPasts.{bytes_of, ended_of, groups_out}
use Rattle.copy_runs.specs.Laws.{IsWhole}
use Rattle.copy_runs.proofs.CopiesEnd.{copies-end}
use Rattle.copy_runs.proofs.EndLists.{front-few, front-all, length-groups, length-put}
use Rattle.copy_parts.specs.declared.options.CopyOptions.{CopyOptions}
use Rattle.load_summary.specs.Summaries.{requests_of_put}
use Rattle.end_workers.specs.declared.copy.Copy.{Copy}
use Rattle.end_workers.specs.Barriers.{GoesToRound}
use Rattle.end_workers.specs.Promise.{Stream, KeepsPromise, messages_of, usable, groups_begun}
use Rattle.end_workers.proofs.SoundingCopies.{is-copy, heard-is}
use Rattle.end_workers.proofs.Sounding.{run-of}
use Rattle.copy_loads.proofs.Completing.{read_all}

as-many-of : (bytes : List ℕ) (requests : List Request) → length (map reply_bytes (replies_to bytes requests)) ≡ length (map request_bytes requests)
as-many-of bytes requests = length-map (replies_to bytes requests) reply_bytes ∙ length-map requests (reply_to bytes) ∙ sym (length-map requests request_bytes)

-- each request has a reply
as-many : (kind : CopyKind) (channel : Channel) (pages : ℕ) (bytes : List ℕ) → length (reply_messages kind channel pages true bytes) ≡ length (request_messages kind channel pages true bytes)
as-many kinds.Put channel pages bytes = as-many-of bytes (requests_of kinds.Put channel pages true bytes)
as-many kinds.Get channel pages bytes = as-many-of bytes (requests_of kinds.Get channel pages true bytes)

module _ (o : CopyOptions) (client server : List Event) (bytes : List ℕ) (clients servers : List (List PageEvent)) (groups : List (List ℕ))
    (run : IsRun o.kind o.channel o.limits.pages true bytes (messages_of o client server) clients servers groups) where
  pub all-asked : IsPrefix (messages_delivered Server o.limits server) (messages_submitted client) → IsPrefix (messages_delivered Client o.limits client) (messages_submitted server)
      → messages_delivered Client o.limits client ≡ reply_messages o.kind o.channel o.limits.pages true bytes → messages_submitted client ≡ request_messages o.kind o.channel o.limits.pages true bytes
  all-asked to_server to_client answered =
      let asked = front-few (messages_delivered Server o.limits server) (messages_submitted client) to_server in
      let replied = front-few (messages_delivered Client o.limits client) (messages_submitted server) to_client in
      let heard : length (messages_delivered Client o.limits client) ≡ length (request_messages o.kind o.channel o.limits.pages true bytes) =
      ap (λ (ms : List (List ℕ)). length ms) answered ∙ as-many o.kind o.channel o.limits.pages bytes in
      let follow = run.follow in
      front-all (messages_submitted client) (request_messages o.kind o.channel o.limits.pages true bytes) run.requests (omega (arith, asked, replied, heard, follow))

-- ---- at the end of a copy

-- these bytes were read, and the client submitted all requests for them and nothing else
pub record HasAskedAll (o : CopyOptions) (bytes : List ℕ) (c : Copy) : Type 0 where
  pub read : c.read ≡ length bytes
  pub requests : messages_submitted c.parts.world.client ≡ request_messages o.kind o.channel o.limits.pages true bytes

-- a copy at whose barrier the client has taken END's reply
pub asked-at-end : (o : CopyOptions) (source sink log : Stream) (c : Copy) (bytes : List ℕ) → GoesToRound true o source sink log c → source.before ≡ Some bytes → HasAskedAll o bytes c
asked-at-end o source sink log c bytes g told =
    let a = g.after in
    let s = a.settled in
    let p = s.past in
    let u = s.so_far.stands.under_way in
    let whole : IsWhole o.kind o.channel o.limits.pages p =
    copies-end o.kind o.channel o.workers o.limits.pages p c.parts.crew.region.pages c.parts.crew.clients c.parts.crew.servers (is-copy o p c.parts.world c.parts.crew u) g.over_is a.none in
    let at_end = s.so_far.read.last (s.so_far.read.ended_is ∙ whole.ended) in
    let all : bytes_of o.kind p ≡ bytes = read_all source.before source.now bytes (bytes_of o.kind p) told s.so_far.read.bytes at_end in
    let world = c.parts.world in
    let run : IsRun o.kind o.channel o.limits.pages true bytes (messages_of o world.client world.server) (client_lists o.workers p) (server_lists o.workers p) (groups_out o.kind p) =
    subst (λ (t : Bool). IsRun o.kind o.channel o.limits.pages t bytes (messages_of o world.client world.server) (client_lists o.workers p) (server_lists o.workers p) (groups_out o.kind p)) whole.ended
    (subst (λ (bs : List ℕ). IsRun o.kind o.channel o.limits.pages (ended_of o.kind p) bs (messages_of o world.client world.server) (client_lists o.workers p) (server_lists o.workers p) (groups_out o.kind p))
    all (run-of o p world c.parts.crew u)) in
    let answered : messages_delivered Client o.limits world.client ≡ reply_messages o.kind o.channel o.limits.pages true bytes =
    sym (heard-is o p world c.parts.crew u) ∙ whole.answered ∙ ap (λ (bs : List ℕ). reply_messages o.kind o.channel o.limits.pages true bs) all in
    record {
      read = s.so_far.read.count ∙ ap (λ (bs : List ℕ). length bs) all;
      requests = all-asked o world.client world.server bytes (client_lists o.workers p) (server_lists o.workers p) (groups_out o.kind p) run
          (subst (λ (l : Limits). IsPrefix (messages_delivered Server l world.server) (messages_submitted world.client)) u.connected.server_limits u.connected.delivered.to_server)
          (subst (λ (l : Limits). IsPrefix (messages_delivered Client l world.client) (messages_submitted world.server)) u.connected.client_limits u.connected.delivered.to_client) answered;
    }

-- what a promise tells of a copy that is done
pub asked-when-done : (o : CopyOptions) (source sink log : Stream) (bytes : List ℕ) → (k : KeepsPromise Done o source sink log) → source.before ≡ Some bytes
    → messages_submitted k.course.client ≡ request_messages o.kind o.channel o.limits.pages true bytes
asked-when-done o source sink log bytes k told =
    let c = k.course in
    let whole = k.ends.0 in
    let all : c.bytes ≡ bytes = read_all source.before source.now bytes c.bytes told k.moves.read k.ends.1 in
    let groups = take (groups_begun c.stored) (groups_of (usable c.ended c.bytes)) in
    let m = messages_of o c.client c.server in
    let run : IsRun o.kind o.channel o.limits.pages true c.bytes m c.clients c.servers groups =
    subst (λ (t : Bool). IsRun o.kind o.channel o.limits.pages t (usable t c.bytes) m c.clients c.servers groups) whole.ended k.sound.run in
    subst (λ (bs : List ℕ). messages_submitted c.client ≡ request_messages o.kind o.channel o.limits.pages true bs) all
    (all-asked o c.client c.server c.bytes c.clients c.servers groups run k.sound.to_server k.sound.to_client whole.answered)

-- ---- how many requests a put has

pub requests-of-put : (channel : Channel) (pages : ℕ) (bytes : List ℕ) → length (request_messages kinds.Put channel pages true bytes) ≡ requests_of_put (length bytes)
requests-of-put channel pages bytes =
    length-map (put_requests channel pages true bytes) request_bytes ∙ length-put channel pages bytes ∙ ap (λ (n : ℕ). n + 1) (length-groups bytes)
