-- What the page events of each kind of copy carry.
use Rattle.std.proofs.Common.{◌≡◌, ℕ, ◌<◌, ◌≤◌, Bool, List, [], ◌++◌, take, replicate, Contains, sym, ◌∙◌, subst, refl, arith, ⊎_elim}
use Rattle.smbd_base.specs.declared.right.Right.{Right}
use Rattle.smbd_base.specs.declared.right.Right.TheVariants as rights
use Rattle.smbd_base.specs.declared.page_event.PageEvent.{PageEvent}
use Rattle.smbd_base.specs.declared.page_event.PageEvent.TheVariants.{Load, Fetch, Place, Unload}
use Rattle.smbd_base.specs.declared.token.TheConstants.{PAGE_SIZE}
use Rattle.smbd_base.specs.Tokens.{PageToken}
use Rattle.smbd_base.specs.PagesFit.{PagesFit, all_events}
use Rattle.smbd_base.proofs.EventLists.{Contains-nil}
use Rattle.file_messages.specs.declared.kind.Channel.{Channel}
use Rattle.file_messages.specs.declared.kind.Channel.TheVariants as channels
use Rattle.file_messages.specs.declared.kind.CopyKind.{CopyKind}
use Rattle.file_messages.specs.declared.kind.CopyKind.TheVariants as kinds
use Rattle.file_messages.specs.declared.message.Request.{Request}
use Rattle.file_messages.specs.Runs.{windows, groups_of, reads_count}
use Rattle.file_messages.specs.Written.{IsCopyable, IsPool}
use Rattle.copy_laws.specs.PagesOfCopies.{IsPartUnder, IsPutClientEvent, IsPutServerEvent, IsGetClientEvent, IsGetServerEvent, PutsUsePages, GetsUsePages, part_read}
use Rattle.copy_laws.proofs.Parts.{part-is}
use Rattle.copy_runs.specs.Runs.{requests_of, UsesPages}
use Rattle.copy_texts.proofs.Pairs.{Pairwise}
use Rattle.copy_texts.proofs.PageShapes.{IsLikeTold}
use Rattle.copy_texts.proofs.PageBytes.{HasText, IsOfCopy, IsOne, IsPaged, of-either, pages-same}
use Rattle.copy_texts.proofs.PageTokens.{windows-some, part-text, heard-number, load-number}

-- ---- without registered pages there are none

abbrev NoBytes : PageToken → List ℕ → Type 0
NoBytes t bytes = ⊥

none-paged : (clients servers : List (List PageEvent)) → all_events clients ≡ [] → all_events servers ≡ [] → PagesFit 1 (clients ++ servers)
    → IsPaged rights.Fetch NoBytes NoBytes clients servers
none-paged clients servers no_clients no_servers fit = record {
  of_clients = λ e h. absurd (none clients no_clients e h);
  of_servers = λ e h. absurd (none servers no_servers e h);
  texts = λ t r bytes h.
      absurd (⊎_elim (λ (c : Contains (all_events clients) (Load t r bytes)). none clients no_clients (Load t r bytes) c)
      (λ (s : Contains (all_events servers) (Load t r bytes)). none servers no_servers (Load t r bytes) s) (of-either clients servers (Load t r bytes) h));
  agree = fit.contents;
} where
  none : (lists : List (List PageEvent)) → all_events lists ≡ [] → (e : PageEvent) → Contains (all_events lists) e → ⊥
  none lists empty e h = Contains-nil e (subst (λ (es : List PageEvent). Contains es e) empty h)

-- ---- a put

abbrev PutBytes : ℕ → List ℕ → PageToken → List ℕ → Type 0
PutBytes pages bytes t part = IsPartUnder (windows pages) (groups_of bytes) t part

put-one : (pages : ℕ) (bytes : List ℕ) → IsPool pages → IsOne (PutBytes pages bytes)
put-one pages bytes pool t a b h k =
    sym (part-is (windows pages) (groups_of bytes) t a (windows-some pages pool) h) ∙ part-is (windows pages) (groups_of bytes) t b (windows-some pages pool) k

put-client : (pages : ℕ) (bytes : List ℕ) (heard : List Request) (e : PageEvent) → IsPutClientEvent (windows pages) (groups_of bytes) heard e
    → IsOfCopy rights.Fetch (PutBytes pages bytes) (PutBytes pages bytes) e
put-client pages bytes heard (Load t rights.Fetch b) h = (refl, h)
put-client pages bytes heard (Load t rights.Place b) h = absurd h
put-client pages bytes heard (Fetch t at b) h = absurd h
put-client pages bytes heard (Place t n at b) h = absurd h
put-client pages bytes heard (Unload t b) h = tt

put-server : (pages : ℕ) (bytes : List ℕ) (e : PageEvent) → IsPutServerEvent (windows pages) (groups_of bytes) e
    → IsOfCopy rights.Fetch (PutBytes pages bytes) (PutBytes pages bytes) e
put-server pages bytes (Load t r b) h = absurd h
put-server pages bytes (Fetch t at b) h = h
put-server pages bytes (Place t n at b) h = absurd h
put-server pages bytes (Unload t b) h = absurd h

put-load : (pages : ℕ) (bytes : List ℕ) (heard : List Request) (t : PageToken) (r : Right) (b : List ℕ)
    → IsPutClientEvent (windows pages) (groups_of bytes) heard (Load t r b) → PutBytes pages bytes t b
put-load pages bytes heard t rights.Fetch b h = h
put-load pages bytes heard t rights.Place b h = absurd h

put-paged : (pages : ℕ) (bytes : List ℕ) (asked answered heard : List Request) (clients servers : List (List PageEvent)) → IsPool pages → IsCopyable bytes
    → PutsUsePages (windows pages) (groups_of bytes) asked answered heard clients servers → PagesFit 1 (clients ++ servers)
    → IsPaged rights.Fetch (PutBytes pages bytes) (PutBytes pages bytes) clients servers
put-paged pages bytes asked answered heard clients servers pool few used fit = record {
  of_clients = λ e h. put-client pages bytes heard e (used.of_clients e h);
  of_servers = λ e h. put-server pages bytes e (used.of_servers e h);
  texts = λ t r b h.
      ⊎_elim (λ (c : Contains (all_events clients) (Load t r b)). part-text pages bytes b t pool few (put-load pages bytes heard t r b (used.of_clients (Load t r b) c)))
      (λ (s : Contains (all_events servers) (Load t r b)). absurd (used.of_servers (Load t r b) s)) (of-either clients servers (Load t r b) h);
  agree = fit.contents;
}

-- ---- a get

abbrev Zeros : PageToken → List ℕ → Type 0
Zeros t loaded = loaded ≡ replicate PAGE_SIZE 0

abbrev GetBytes : List ℕ → PageToken → List ℕ → Type 0
GetBytes bytes t part = part ≡ part_read bytes t

zeros-one : IsOne Zeros
zeros-one t a b h k = h ∙ sym k

get-one : (bytes : List ℕ) → IsOne (GetBytes bytes)
get-one bytes t a b h k = h ∙ sym k

get-client : (bytes : List ℕ) (heard : List Request) (e : PageEvent) → IsGetClientEvent heard e → IsOfCopy rights.Place Zeros (GetBytes bytes) e
get-client bytes heard (Load t rights.Fetch b) h = absurd h
get-client bytes heard (Load t rights.Place b) h = (refl, h.1)
get-client bytes heard (Fetch t at b) h = absurd h
get-client bytes heard (Place t n at b) h = absurd h
get-client bytes heard (Unload t b) h = tt

get-server : (bytes : List ℕ) (e : PageEvent) → IsGetServerEvent bytes e → IsOfCopy rights.Place Zeros (GetBytes bytes) e
get-server bytes (Load t r b) h = absurd h
get-server bytes (Fetch t at b) h = absurd h
get-server bytes (Place t n at b) h = (h.0, h.1, h.2)
get-server bytes (Unload t b) h = absurd h

get-page : (heard : List Request) (t : PageToken) (r : Right) (b : List ℕ) → IsGetClientEvent heard (Load t r b) → t.page < 16
get-page heard t rights.Fetch b h = absurd h
get-page heard t rights.Place b h = h.0

-- a get of these bytes, of whose replies the client heard so many
module _ (pages heard : ℕ) (ended : Bool) (bytes : List ℕ) (asked answered : List Request) (clients servers : List (List PageEvent)) (few : IsCopyable bytes)
    (used : GetsUsePages bytes asked answered (take heard (requests_of kinds.Get channels.V1 pages ended bytes)) clients servers) (fit : PagesFit 1 (clients ++ servers)) where
  abbrev run : List Request
  run = take heard (requests_of kinds.Get channels.V1 pages ended bytes)

  unload-number : (t : PageToken) (b : List ℕ) → Contains (all_events (clients ++ servers)) (Unload t b) → t.generation ≤ reads_count bytes
  unload-number t b h =
      ⊎_elim (λ (c : Contains (all_events clients) (Unload t b)). heard-number pages heard ended bytes t (used.of_clients (Unload t b) c))
      (λ (s : Contains (all_events servers) (Unload t b)). absurd (used.of_servers (Unload t b) s)) (of-either clients servers (Unload t b) h)

  get-text : (t : PageToken) (r : Right) (b : List ℕ) → Contains (all_events (clients ++ servers)) (Load t r b) → HasText t
  get-text t r b h =
      let most = load-number (all_events (clients ++ servers)) (reads_count bytes) fit.turns unload-number t r b h in
      ⊎_elim (λ (c : Contains (all_events clients) (Load t r b)).
      let page = get-page run t r b (used.of_clients (Load t r b) c) in
      let found : HasText t = record { page = omega (arith, page); generation = omega (arith, most, few) } in found)
      (λ (s : Contains (all_events servers) (Load t r b)). absurd (used.of_servers (Load t r b) s)) (of-either clients servers (Load t r b) h)

  get-paged : IsPaged rights.Place Zeros (GetBytes bytes) clients servers
  get-paged = record {
    of_clients = λ e h. get-client bytes run e (used.of_clients e h);
    of_servers = λ e h. get-server bytes e (used.of_servers e h);
    texts = get-text;
    agree = fit.contents;
  }

-- ---- each kind

-- the lists of two copies of one setting, whose events are told alike
pub lists-of-copies : (kind : CopyKind) (channel : Channel) (pages : ℕ) (ended : Bool) (bytes : List ℕ) (asked replied heard other_asked other_replied other_heard : ℕ)
    (clients servers cs ss : List (List PageEvent)) → IsPool pages → IsCopyable bytes
    → UsesPages kind channel pages ended bytes asked replied heard clients servers → UsesPages kind channel pages ended bytes other_asked other_replied other_heard cs ss
    → PagesFit 1 (clients ++ servers) → PagesFit 1 (cs ++ ss)
    → Pairwise (Pairwise IsLikeTold) clients cs → Pairwise (Pairwise IsLikeTold) servers ss → (clients ≡ cs) × (servers ≡ ss)
lists-of-copies kinds.Put channels.None pages ended bytes asked replied heard other_asked other_replied other_heard clients servers cs ss pool few used other fit other_fit likes likes_too =
    pages-same rights.Fetch NoBytes NoBytes (λ t a b h k. absurd h) (λ t a b h k. absurd h) clients servers cs ss
    (none-paged clients servers used.0 used.1 fit) (none-paged cs ss other.0 other.1 other_fit) likes likes_too
lists-of-copies kinds.Get channels.None pages ended bytes asked replied heard other_asked other_replied other_heard clients servers cs ss pool few used other fit other_fit likes likes_too =
    pages-same rights.Fetch NoBytes NoBytes (λ t a b h k. absurd h) (λ t a b h k. absurd h) clients servers cs ss
    (none-paged clients servers used.0 used.1 fit) (none-paged cs ss other.0 other.1 other_fit) likes likes_too
lists-of-copies kinds.Put channels.V1 pages ended bytes asked replied heard other_asked other_replied other_heard clients servers cs ss pool few used other fit other_fit likes likes_too =
    let run = requests_of kinds.Put channels.V1 pages ended bytes in
    pages-same rights.Fetch (PutBytes pages bytes) (PutBytes pages bytes) (put-one pages bytes pool) (put-one pages bytes pool) clients servers cs ss
    (put-paged pages bytes (take asked run) (take replied run) (take heard run) clients servers pool few used fit)
    (put-paged pages bytes (take other_asked run) (take other_replied run) (take other_heard run) cs ss pool few other other_fit) likes likes_too
lists-of-copies kinds.Get channels.V1 pages ended bytes asked replied heard other_asked other_replied other_heard clients servers cs ss pool few used other fit other_fit likes likes_too =
    let run = requests_of kinds.Get channels.V1 pages ended bytes in
    pages-same rights.Place Zeros (GetBytes bytes) zeros-one (get-one bytes) clients servers cs ss
    (get-paged pages heard ended bytes (take asked run) (take replied run) clients servers few used fit)
    (get-paged pages other_heard ended bytes (take other_asked run) (take other_replied run) cs ss few other other_fit) likes likes_too
