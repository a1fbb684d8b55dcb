use Rattle.std.proofs.Common.{◌≡◌, ℕ, zero, suc, ◌%◌, ◌<◌, ◌≤◌, Bool, List, [], ◌∷◌, codes, replicate, length, count_by, refl, sym, ap, ◌∙◌, subst, arith, Some, Contains}
use Rattle.std.specs.Prelude.{slice_get, slice_index_or}
use Rattle.smbd_base.specs.declared.page_event.PageEvent.{PageEvent}
use Rattle.smbd_base.specs.declared.page_event.PageEvent.TheVariants.{Load, Fetch, Place}
use Rattle.smbd_base.specs.Tokens.{PageToken}
use Rattle.smbd_base.specs.PagesFit.{is_load_of, is_place_under, HasLoad}
use Rattle.file_messages.specs.Runs.{pages_of}
use Rattle.std.proofs.lemmas.List.{length-replicate}
use Rattle.std.proofs.lemmas.List.Sums.{count_by-le-length}
use Rattle.smbd_base.specs.declared.right.Right.TheVariants as right
use Rattle.smbd_base.specs.Pages.{page_in}
use Rattle.smbd_base.proofs.EventLists.{Contains-nil, Contains-head, Contains-tail, each-cons, count-none, count-some, count-yes}
use Rattle.file_messages.specs.declared.message.Request.{Request}
use Rattle.file_pasts.specs.PutPages.{tokens_named}
use Rattle.copy_laws.specs.PagesOfCopies.{IsPartUnder, IsPutClientEvent, IsPutServerEvent, IsGetClientEvent, IsGetServerEvent, is_fetch_under}
use Rattle.copy_laws.specs.Worked.{token, abc, groups, write, load, fetch, unload, read, lends, place}
use Rattle.copy_laws.proofs.worked.worked_pages.Goals as goal

none : (P : PageEvent → Type 0) (e : PageEvent) → Contains [] e → P e
none P e h = absurd (Contains-nil e h)

part : IsPartUnder 4 groups token abc
part = record { before = 0; group = abc; at = refl; page_is = refl; turn_is = refl; part_is = refl }

named : Contains (tokens_named (write ∷ [])) token
named = (0, (let z : 0 < 1 = omega arith in z), refl)

-- the one token that the WRITE names
only : (t : PageToken) → Contains (tokens_named (write ∷ [])) t → token ≡ t
only t (zero, below, is) = is
only t (suc k, below, is) = absurd (omega (arith, below))

nothing_named : (A : Type 0) (t : PageToken) → Contains (tokens_named []) t → A
nothing_named A t h = absurd (let below = h.1 in omega (arith, below))

not_counted : (q : PageEvent → Bool) → 1 ≤ count_by q [] → ⊥
not_counted q h = omega (arith, h, count-none q [] (λ x k. absurd (Contains-nil x k)))

few : (q : PageEvent → Bool) (es : List PageEvent) → length es ≤ 1 → count_by q es ≤ 1
few q es h = (let all = count_by-le-length q es in omega (arith, h, all))

load_of_token : HasLoad (load ∷ []) token
load_of_token = count-some (is_load_of token) (load ∷ []) load (Contains-head load []) refl

of_token : (P : PageToken → Type 0) → P token → (t : PageToken) → Contains (tokens_named (write ∷ [])) t → P t
of_token P here t h = subst P (only t h) here

client_load : (heard : List Request) (e : PageEvent) → Contains (load ∷ []) e → IsPutClientEvent 4 groups heard e
client_load heard e h = each-cons (IsPutClientEvent 4 groups heard) load [] part (none (IsPutClientEvent 4 groups heard)) e h

server_fetch : (e : PageEvent) → Contains (fetch ∷ []) e → IsPutServerEvent 4 groups e
server_fetch e h = each-cons (IsPutServerEvent 4 groups) fetch [] (refl, part) (none (IsPutServerEvent 4 groups)) e h

fetched_once : 1 ≤ count_by (is_fetch_under token) (fetch ∷ [])
fetched_once = count-some (is_fetch_under token) (fetch ∷ []) fetch (Contains-head fetch []) refl

pub returns-clause-puts : goal.returns-clause-puts
returns-clause-puts c = record {
  loaded = record {
    of_clients = client_load [];
    of_servers = none (IsPutServerEvent 4 groups);
    loaded = of_token (HasLoad (load ∷ [])) load_of_token;
    once = λ t. few (is_fetch_under t) [] (omega arith);
    fetched = λ t h. nothing_named (1 ≤ count_by (is_fetch_under t) []) t h;
  };
  fetched = record {
    of_clients = client_load [];
    of_servers = server_fetch;
    loaded = of_token (HasLoad (load ∷ [])) load_of_token;
    once = λ t. few (is_fetch_under t) (fetch ∷ []) (omega arith);
    fetched = of_token (λ (t : PageToken). 1 ≤ count_by (is_fetch_under t) (fetch ∷ [])) fetched_once;
  };
  over = record {
    of_clients = each-cons (IsPutClientEvent 4 groups (write ∷ [])) unload (load ∷ []) named (client_load (write ∷ []));
    of_servers = server_fetch;
    loaded = of_token (HasLoad (unload ∷ load ∷ [])) (count-some (is_load_of token) (unload ∷ load ∷ []) load (Contains-tail unload (load ∷ []) load (Contains-head load [])) refl);
    once = λ t. few (is_fetch_under t) (fetch ∷ []) (omega arith);
    fetched = of_token (λ (t : PageToken). 1 ≤ count_by (is_fetch_under t) (fetch ∷ [])) fetched_once;
  };
}

-- the one part
is_abc : (bytes : List ℕ) → IsPartUnder 4 groups token bytes → bytes ≡ abc
is_abc bytes h = by h.before h.at h.part_is where
  by : (before : ℕ) → slice_get groups before ≡ Some h.group → slice_get (pages_of h.group) 0 ≡ Some bytes → bytes ≡ abc
  by zero at is =
      let group : abc ≡ h.group = cc in
      let found : slice_get (pages_of abc) 0 ≡ Some bytes = ap (λ (g : List ℕ). slice_get (pages_of g) 0) group ∙ is in
      let same : abc ≡ bytes = inside abc bytes found in sym same
    where
      inside : (a b : List ℕ) → Some a ≡ Some b → a ≡ b
      inside a b e = cc
  by (suc k) at is = absurd (let no_group : ⊥ = cc in no_group)

pub returns-clause-no_puts : goal.returns-clause-no_puts
returns-clause-no_puts c = record {
  not_loaded = λ h. not_counted (is_load_of token) (h.loaded token named);
  other_bytes = λ h. let e = is_abc (codes "abd") (h.of_clients (Load token right.Fetch (codes "abd")) (Contains-head (Load token right.Fetch (codes "abd")) [])) in let third : 100 ≡ 99 = ap (λ (bytes : List ℕ). slice_index_or bytes 2 0) e in omega (arith, third);
  other_right = λ h. h.of_clients (Load token right.Place abc) (Contains-head (Load token right.Place abc) []);
  not_fetched = λ h. not_counted (is_fetch_under token) (h.fetched token named);
  fetched_twice = λ h. let two = count-yes (is_fetch_under token) fetch (fetch ∷ []) refl in let one = count-yes (is_fetch_under token) fetch [] refl in let most = h.once token in omega (arith, two, one, most);
  fetched_late = λ h. let at = (h.of_servers (Fetch token 1 (codes "bc")) (Contains-head (Fetch token 1 (codes "bc")) [])).0 in omega (arith, at);
  fetched_by_client = λ h. h.of_clients fetch (Contains-head fetch (load ∷ []));
  loaded_by_server = λ h. h.of_servers load (Contains-head load []);
  unloaded_unheard = λ h. nothing_named ⊥ token (h.of_clients unload (Contains-head unload (load ∷ [])));
}

-- ---- a get

named_read : Contains (tokens_named (read ∷ [])) token
named_read = (0, (let z : 0 < 16 = omega arith in z), refl)

lent : (heard : List Request) (e : PageEvent) → Contains (lends ∷ []) e → IsGetClientEvent heard e
lent heard e h = each-cons (IsGetClientEvent heard) lends [] ((let z : 0 < 16 = omega arith in z), refl) (none (IsGetClientEvent heard)) e h

placed : (e : PageEvent) → Contains (place ∷ []) e → IsGetServerEvent abc e
placed e h = each-cons (IsGetServerEvent abc) place [] (refl, refl, refl, (let z : 1 ≤ 3 = omega arith in z)) (none (IsGetServerEvent abc)) e h

pub returns-clause-gets : goal.returns-clause-gets
returns-clause-gets c = record {
  loads = record {
    of_clients = lent [];
    of_servers = none (IsGetServerEvent abc);
    loaded = λ t h. nothing_named (HasLoad (lends ∷ []) t) t h;
    once = λ t. few (is_place_under t) [] (omega arith);
    placed = λ t h some. nothing_named (1 ≤ count_by (is_place_under t) []) t h;
  };
  places = record {
    of_clients = lent [];
    of_servers = placed;
    loaded = λ t h. nothing_named (HasLoad (lends ∷ []) t) t h;
    once = λ t. few (is_place_under t) (place ∷ []) (omega arith);
    placed = λ t h some. nothing_named (1 ≤ count_by (is_place_under t) (place ∷ [])) t h;
  };
  over = record {
    of_clients = each-cons (IsGetClientEvent (read ∷ [])) unload (lends ∷ []) named_read (lent (read ∷ []));
    of_servers = placed;
    loaded = λ t h. nothing_named (HasLoad (unload ∷ lends ∷ []) t) t h;
    once = λ t. few (is_place_under t) (place ∷ []) (omega arith);
    placed = λ t h some. nothing_named (1 ≤ count_by (is_place_under t) (place ∷ [])) t h;
  };
}

pub returns-clause-no_gets : goal.returns-clause-no_gets
returns-clause-no_gets c = record {
  not_loaded = λ h. not_counted (is_load_of token) (h.loaded token named_read);
  not_zeros = λ h. let zeros = (h.of_clients (Load token right.Place abc) (Contains-head (Load token right.Place abc) [])).1 in let size : 3 ≡ 4096 = ap (λ (bytes : List ℕ). length bytes) zeros ∙ length-replicate {A = ℕ} 4096 0 in omega (arith, size);
  other_right = λ h. h.of_clients (Load token right.Fetch (replicate 4096 0)) (Contains-head (Load token right.Fetch (replicate 4096 0)) []);
  page_16 = λ h. let below = (h.of_clients (Load (record { page = 16; generation = 1 }) right.Place (replicate 4096 0)) (Contains-head (Load (record { page = 16; generation = 1 }) right.Place (replicate 4096 0)) [])).0 in omega (arith, below);
  not_placed = λ h. not_counted (is_place_under token) (h.placed token named_read (let z : 1 ≤ 3 = omega arith in z));
  placed_twice = λ h. let two = count-yes (is_place_under token) place (place ∷ []) refl in let one = count-yes (is_place_under token) place [] refl in let most = h.once token in omega (arith, two, one, most);
  second_order = λ h. let order = (h.of_servers (Place token 1 0 abc) (Contains-head (Place token 1 0 abc) [])).0 in omega (arith, order);
  placed_late = λ h. let at = (h.of_servers (Place token 0 1 abc) (Contains-head (Place token 0 1 abc) [])).1 in omega (arith, at);
  other_bytes = λ h. let e : codes "abd" ≡ abc = (h.of_servers (Place token 0 0 (codes "abd")) (Contains-head (Place token 0 0 (codes "abd")) [])).2 in let third : 100 ≡ 99 = ap (λ (bytes : List ℕ). slice_index_or bytes 2 0) e in omega (arith, third);
  nothing = λ h. let some = (h.of_servers (Place (record { page = 1; generation = 1 }) 0 0 []) (Contains-head (Place (record { page = 1; generation = 1 }) 0 0 []) [])).3 in omega (arith, some);
  unloaded_unheard = λ h. nothing_named ⊥ token (h.of_clients unload (Contains-head unload (lends ∷ [])));
}

-- ---- turns

pub returns-clause-turns : goal.returns-clause-turns
returns-clause-turns c = record {
  own = λ at list e is has. by at list e is has;
  other = λ h. let at : 0 ≡ 1 = h 1 (load ∷ []) load refl (Contains-head load []) in omega (arith, at);
} where
  by : (at : ℕ) (list : List PageEvent) (e : PageEvent) → slice_get ((load ∷ []) ∷ [] ∷ []) at ≡ Some list → Contains list e → page_in e % 2 ≡ at
  by zero list e is has =
      let same : load ∷ [] ≡ list = cc in
      each-cons (λ (x : PageEvent). page_in x % 2 ≡ 0) load [] refl (none (λ (x : PageEvent). page_in x % 2 ≡ 0)) e (subst (λ (l : List PageEvent). Contains l e) (sym same) has)
  by (suc zero) list e is has = (let same : [] ≡ list = cc in absurd (Contains-nil e (subst (λ (l : List PageEvent). Contains l e) (sym same) has)))
  by (suc (suc k)) list e is has = absurd (let no_list : ⊥ = cc in no_list)
