-- The tokens of a copy's pages are so few that each has its own text.
use Rattle.std.proofs.Common.{◌≡◌, inl, inr, ◌⊎◌, ℕ, ◌+◌, ◌-◌, ◌*◌, ◌/◌, ◌<◌, ◌≤◌, Bool, true, false, Some, List, [], ◌∷◌, length, take, append-nil, Contains, sym, ap, subst, refl, arith, ⊎_elim}
use Rattle.std.specs.Prelude.{slice_get}
use mathlib.Core.List.{IsPrefix}
use Rattle.std.proofs.Math.Nat.{div-le_self}
use Rattle.std.proofs.lemmas.Nat.{mod_below}
use Rattle.std.proofs.lemmas.Bool.{cases_lt}
use Rattle.smbd_base.specs.declared.right.Right.{Right}
use Rattle.smbd_base.specs.declared.page_event.PageEvent.{PageEvent}
use Rattle.smbd_base.specs.declared.page_event.PageEvent.TheVariants.{Load, Fetch, Place, Unload}
use Rattle.smbd_base.specs.Tokens.{PageToken}
use Rattle.smbd_base.specs.PagesFit.{is_load_of, is_unload_of, HasLoad, HasUnload, token_before, AreLoadsInTurn}
use Rattle.smbd_base.proofs.EventLists.{count-some, is_token-yes, is_token-true, token-is}
use Rattle.buffer_descriptor.specs.declared.descriptor.Descriptor.{Descriptor}
use Rattle.file_messages.specs.declared.kind.Channel.TheVariants as channels
use Rattle.file_messages.specs.declared.kind.CopyKind.TheVariants as kinds
use Rattle.file_messages.specs.declared.message.Request.{Request}
use Rattle.file_messages.specs.Runs.{windows, groups_of, reads_count, read_of, read_descriptors, end_request, get_requests}
use Rattle.file_messages.specs.Written.{IsCopyable, IsPool}
use Rattle.file_pasts.specs.ClientPast.{token_of_descriptor}
use Rattle.file_pasts.specs.PutPages.{tokens_named}
use Rattle.file_pasts.proofs.Lists.{within, front_of}
use Rattle.file_pasts.proofs.InStep.{length-parts}
use Rattle.file_pasts.proofs.GetLaw.{RunCase, run_case}
use Rattle.copy_laws.specs.PagesOfCopies.{IsPartUnder}
use Rattle.copy_laws.proofs.Tokens.{prefix-trans}
use Rattle.copy_laws.proofs.Loads.{named-by}
use Rattle.copy_laws.proofs.Heard.{named-front}
use Rattle.copy_laws.proofs.GetPlaces.{descriptor-read}
use Rattle.copy_laws.proofs.PutFetches.{some-counted}
use Rattle.copy_runs.specs.Runs.{requests_of}
use Rattle.copy_texts.proofs.PageBytes.{HasText}

-- ---- a put: a token is of the part of a group

pub windows-some : (pages : ℕ) → IsPool pages → 0 < windows pages
windows-some pages pool = let least = pool.least in omega (arith, least)

pub part-text : (pages : ℕ) (bytes part : List ℕ) (t : PageToken) → IsPool pages → IsCopyable bytes → IsPartUnder (windows pages) (groups_of bytes) t part → HasText t
part-text pages bytes part t pool few h =
    let most = pool.most in
    let row = mod_below (h.before + 1 - 1) (windows pages) (windows-some pages pool) in
    let inner = mod_below (t.page) 16 (omega arith) in
    let time = div-le_self (h.before + 1 - 1) (windows pages) in
    let among = within (groups_of bytes) h.before h.group h.at in
    let count : length (groups_of bytes) ≡ (length bytes + 65535) / 65536 = length-parts ((length bytes + 65535) / 65536) 65536 bytes in
    let page = h.page_is in
    let turn = h.turn_is in
    record { page = omega (arith, page, row, inner, most); generation = omega (arith, turn, time, among, count, few) }

-- ---- a get: a token was named by a READ, or is the one after such a token

-- a READ names tokens of its own number
named-number : (bytes : List ℕ) (t : PageToken) → Contains (tokens_named (get_requests channels.V1 bytes)) t → t.generation ≤ reads_count bytes
unfolding RunCase
named-number bytes t h =
    (let n = named-by (get_requests channels.V1 bytes) t h in
    by_case n.request n.place n.named_by n.descriptor (run_case channels.V1 bytes n.request n.named_by n.request_at) n.descriptor_at n.token_is)
  where
    by_case : (k i : ℕ) (r : Request) (d : Descriptor)
        → ((k < reads_count bytes) × (r ≡ read_of channels.V1 (k + 1))) ⊎ ((k ≡ reads_count bytes) × (r ≡ end_request (reads_count bytes + 1) (length bytes)))
        → slice_get r.descriptors i ≡ Some d → t ≡ token_of_descriptor d → t.generation ≤ reads_count bytes
    by_case k i r d (inl x) at is =
        let below = x.0 in
        let named : slice_get (read_descriptors 16 0 (k + 1)) i ≡ Some d = subst (λ (q : Request). slice_get q.descriptors i ≡ Some d) x.1 at in
        let known = descriptor-read 16 0 (k + 1) i d named in
        let place = known.0 in
        let number : d.token ≡ (k + 1 - 1 + 1) * 256 + (0 + i) = ap (λ (e : Descriptor). e.token) known.1 in
        let generation : t.generation ≡ d.token / 256 = ap (λ (u : PageToken). u.generation) is in
        omega (arith, generation, number, place, below)
    by_case k i r d (inr x) at is =
        let none : slice_get [] i ≡ Some d = subst (λ (q : Request). slice_get q.descriptors i ≡ Some d) x.1 at in
        absurd (let b : ⊥ = cc in b)

requests-front : (pages : ℕ) (ended : Bool) (bytes : List ℕ) → IsPrefix (requests_of kinds.Get channels.V1 pages ended bytes) (get_requests channels.V1 bytes)
requests-front pages true bytes = ([], append-nil (get_requests channels.V1 bytes))
requests-front pages false bytes = (end_request (reads_count bytes + 1) (length bytes) ∷ [], refl)

pub heard-number : (pages heard : ℕ) (ended : Bool) (bytes : List ℕ) (t : PageToken)
    → Contains (tokens_named (take heard (requests_of kinds.Get channels.V1 pages ended bytes))) t → t.generation ≤ reads_count bytes
heard-number pages heard ended bytes t h =
    let run = requests_of kinds.Get channels.V1 pages ended bytes in
    named-number bytes t
    (named-front (take heard run) (get_requests channels.V1 bytes) t
    (prefix-trans (take heard run) run (get_requests channels.V1 bytes) (front_of heard (take heard run) run refl) (requests-front pages ended bytes)) h)

-- the unload of a token
pub unload-of : (events : List PageEvent) (t : PageToken) → HasUnload events t → (bytes : List ℕ) × Contains events (Unload t bytes)
unload-of events t h = (let found = some-counted (is_unload_of t) events h in by_event found.0 found.1 found.2) where
  by_event : (e : PageEvent) → Contains events e → is_unload_of t e ≡ true → (bytes : List ℕ) × Contains events (Unload t bytes)
  by_event (Load u r b) at is = absurd (let x : ⊥ = cc in x)
  by_event (Fetch u to b) at is = absurd (let x : ⊥ = cc in x)
  by_event (Place u n to b) at is = absurd (let x : ⊥ = cc in x)
  by_event (Unload u b) at is = (b, subst (λ (v : PageToken). Contains events (Unload v b)) (sym (token-is t u (is_token-true t u is))) at)

-- where no token was unloaded after this generation, none is loaded after the next
pub load-number : (events : List PageEvent) (most : ℕ) → AreLoadsInTurn 1 events → ((t : PageToken) (bytes : List ℕ) → Contains events (Unload t bytes) → t.generation ≤ most)
    → (t : PageToken) (r : Right) (bytes : List ℕ) → Contains events (Load t r bytes) → t.generation ≤ most + 1
load-number events most turns unloads t r bytes at =
    ⊎_elim
    (λ (later : 1 < t.generation).
    let has : HasLoad events t = count-some (is_load_of t) events (Load t r bytes) at (is_token-yes t t (record { page = refl; generation = refl })) in
    let was = turns.steps t has later in
    let gone = unload-of events (token_before t) (turns.ended (token_before t) t was has refl (omega (arith, later))) in
    let before : t.generation - 1 ≤ most = unloads (token_before t) gone.0 gone.1 in
    omega (arith, before))
    (λ (first : t.generation ≤ 1). omega (arith, first))
    (cases_lt 1 t.generation)
