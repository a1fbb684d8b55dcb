-- The lines of a run, as its order is followed.
use Rattle.std.proofs.Common.{◌≡◌, ℕ, ◌+◌, ◌^◌, ◌<◌, ◌≤◌, cond, List, [], ◌∷◌, ◌++◌, length, take, drop, get_or, reverse, refl, sym, ap, subst, ◌∙◌, take-append-drop, arith}
use Rattle.std.specs.List.{count_by}
use Rattle.std.proofs.lemmas.List.{length-reverse, length-take, reverse-append, take_more, take_all}
use Rattle.std.proofs.lemmas.List.Sums.{sum_by-append}
use Rattle.smbd_base.specs.declared.end_id.EndId.{EndId}
use Rattle.smbd_base.specs.declared.end_id.EndId.TheVariants.{Client, Server}
use Rattle.smbd_base.specs.declared.event.Event.{Event}
use Rattle.smbd_base.specs.declared.event.Event.TheVariants.{Cut}
use Rattle.event_log.specs.Lines.{logged, HasLawfulNumbers}
use Rattle.smbd_base.specs.Limits.{Limits, IsLawful}
use Rattle.smbd_base.specs.Counts.{peer_of}
use Rattle.world_core.specs.Run.{State, AreJointIn}
use Rattle.run_log.specs.RunLines.{side_of, next_frame_number, newest_line, before_newest, lines_in_order, run_lines, is_of, AreTellable}
use Rattle.run_log.specs.Runs.{IsRun}
use Rattle.run_log.proofs.Ordering.{count_own, count_other, ordered, few_events}
use Rattle.run_log.proofs.Tellable.{taken_few, client_tellable, server_tellable}

-- ---- a list in the order of time, and the newest first

one_more_at : {A : Type 0} (xs : List A) (i : ℕ) (d : A) → i < length xs → reverse (take (i + 1) xs) ≡ get_or xs i d ∷ reverse (take i xs)
one_more_at xs i d within = ap reverse (take_more xs i d within) ∙ reverse-append (take i xs) (get_or xs i d ∷ [])

one_more : {A : Type 0} (xs : List A) (i : ℕ) (x : A) → i < length xs → x ≡ get_or xs i x → reverse (take (i + 1) xs) ≡ x ∷ reverse (take i xs)
one_more xs i x within is =
    one_more_at xs i x within ∙ ap (λ (y : _). y ∷ reverse (take i xs)) (sym is)

-- which default is taken does not matter
pub named_there : (order : List EndId) (i : ℕ) (d end : EndId) → i < length order → get_or order i d ≡ end → end ≡ get_or order i end
named_there order i d end within is =
    let here = one_more_at order i d within in
    let there = one_more_at order i end within in
    let same : get_or order i d ≡ get_or order i end = cc in
    sym is ∙ same

apart : {A : Type 0} (xs : List A) (i : ℕ) → reverse xs ≡ reverse (drop i xs) ++ reverse (take i xs)
apart xs i = ap reverse (sym (take-append-drop i xs)) ∙ reverse-append (take i xs) (drop i xs)

-- ---- one event of a history

tellable_back : (end : EndId) (front past : List Event) → AreTellable end (front ++ past) → AreTellable end past
tellable_back end [] past h = h
tellable_back end (event ∷ front) past h = tellable_back end front past h.1

pub tellable_at : (end : EndId) (history : List Event) (i : ℕ) (event : Event) → i < length history → event ≡ get_or history i event → AreTellable end (reverse history)
    → HasLawfulNumbers (side_of end) (logged (next_frame_number (reverse (take i history))) event)
tellable_at end history i event within is h =
    let back = tellable_back end (reverse (drop (i + 1) history)) (reverse (take (i + 1) history))
    (subst (λ (p : List Event). AreTellable end p) (apart history (i + 1)) h) in
    (subst (λ (p : List Event). AreTellable end p) (one_more history i event within is) back).0

-- ---- one entry of the order

-- an end that is named next has an event more than it was named before
named_before : (end : EndId) (order : List EndId) (i : ℕ) (all : ℕ) → i < length order → end ≡ get_or order i end
    → count_by (is_of end) (reverse order) ≡ all → count_by (is_of end) (reverse (take i order)) < all
named_before end order i all within is count =
    let split : count_by (is_of end) (reverse order) ≡ count_by (is_of end) (reverse (drop (i + 1) order)) + count_by (is_of end) (reverse (take (i + 1) order)) =
    ap (λ (xs : List EndId). count_by (is_of end) xs) (apart order (i + 1)) ∙ sum_by-append (λ (x : EndId). cond (is_of end x) 1 0) (reverse (drop (i + 1) order)) (reverse (take (i + 1) order)) in
    let here : count_by (is_of end) (reverse (take (i + 1) order)) ≡ 1 + count_by (is_of end) (reverse (take i order)) =
    ap (λ (xs : List EndId). count_by (is_of end) xs) (one_more order i end within is) ∙ count_own end (reverse (take i order)) in
    omega arith

-- what is told of an end, where the order so far is this one: so many events, and the number of the next frame
pub record IsTold (end : EndId) (order : List EndId) (history : List Event) (events next : ℕ) : Type 0 where
  pub events_is : events ≡ count_by (is_of end) order
  pub next_is : next ≡ next_frame_number (reverse (take events history))

-- the named end has an event that was not told
pub next_there : (end : EndId) (order : List EndId) (i : ℕ) (history : List Event) (events next : ℕ) → i < length order → end ≡ get_or order i end
    → count_by (is_of end) (reverse order) ≡ length history → IsTold end (reverse (take i order)) history events next → events < length history
next_there end order i history events next within is all told =
    omega (arith, named_before end order i (length history) within is all, told.events_is)

-- the end that is named has told one event more
pub told_own : (end : EndId) (order : List EndId) (i : ℕ) (history : List Event) (events next events' next' : ℕ) → i < length order → end ≡ get_or order i end
    → IsTold end (reverse (take i order)) history events next → events' ≡ events + 1 → next' ≡ next_frame_number (reverse (take (events + 1) history))
    → IsTold end (reverse (take (i + 1) order)) history events' next'
told_own end order i history events next events' next' within is told events_more next_more = record {
  events_is = rw (one_more order i end within is) (omega (arith, told.events_is, count_own end (reverse (take i order))));
  next_is = next_more ∙ ap (λ (n : ℕ). next_frame_number (reverse (take n history))) (sym events_more);
}

-- and the other one none
pub told_other : (end : EndId) (order : List EndId) (i : ℕ) (history : List Event) (events next : ℕ) → i < length order → peer_of end ≡ get_or order i (peer_of end)
    → IsTold end (reverse (take i order)) history events next → IsTold end (reverse (take (i + 1) order)) history events next
told_other end order i history events next within is told = record {
  events_is = rw (one_more order i (peer_of end) within is) (told.events_is ∙ sym (count_other end (reverse (take i order))));
  next_is = told.next_is;
}

-- the events before the newest one that was told
before_last : (history : List Event) (i : ℕ) → i < length history → before_newest (reverse (take (i + 1) history)) ≡ reverse (take i history)
before_last history i within = ap (λ (p : List Event). before_newest p) (one_more_at history i Cut within)

-- the lines so far, with one more
pub client_more : (order : List EndId) (i : ℕ) (client : List Event) (at at' : ℕ) (past : List Event) (lines more : List (List ℕ)) (line : List ℕ)
    → i < length order → Client ≡ get_or order i Client → at < length client → at' ≡ at + 1
    → lines ≡ lines_in_order (reverse (take i order)) (reverse (take at client)) past → line ∷ [] ≡ newest_line Client (reverse (take (at + 1) client))
    → more ≡ lines ++ line ∷ [] → more ≡ lines_in_order (reverse (take (i + 1) order)) (reverse (take at' client)) past
client_more order i client at at' past lines more line within is there next so_far newest added =
    rw (one_more order i Client within is, next, before_last client at there) (added ∙ rw (so_far, newest) refl)

pub server_more : (order : List EndId) (i : ℕ) (server : List Event) (at at' : ℕ) (past : List Event) (lines more : List (List ℕ)) (line : List ℕ)
    → i < length order → Server ≡ get_or order i Server → at < length server → at' ≡ at + 1
    → lines ≡ lines_in_order (reverse (take i order)) past (reverse (take at server)) → line ∷ [] ≡ newest_line Server (reverse (take (at + 1) server))
    → more ≡ lines ++ line ∷ [] → more ≡ lines_in_order (reverse (take (i + 1) order)) past (reverse (take at' server))
server_more order i server at at' past lines more line within is there next so_far newest added =
    rw (one_more order i Server within is, next, before_last server at there) (added ∙ rw (so_far, newest) refl)

-- the number of a frame has room for one more
pub next_small : (history : List Event) (events next : ℕ) → next ≡ next_frame_number (reverse (take events history)) → length history < 2 ^ 61 + 2 → next + 1 < 2 ^ 64
next_small history events next is few =
    omega (arith, taken_few (reverse (take events history)), length-reverse (take events history), length-take events history)

-- ---- the end

whole : {A : Type 0} (xs : List A) (past : List A) (n : ℕ) → reverse xs ≡ past → n ≡ length past → reverse (take n xs) ≡ past
whole xs past n is long =
    ap reverse (take_all n xs (omega (arith, long, length-reverse xs, ap length is))) ∙ is

pub all_told : (state : State) (run : IsRun state) (order : List EndId) (client server : List Event) (i at_client at_server next_client next_server : ℕ) (lines : List (List ℕ))
    → reverse order ≡ state.order → reverse client ≡ state.client → reverse server ≡ state.server → length order ≤ i
    → IsTold Client (reverse (take i order)) client at_client next_client → IsTold Server (reverse (take i order)) server at_server next_server
    → lines ≡ lines_in_order (reverse (take i order)) (reverse (take at_client client)) (reverse (take at_server server)) → lines ≡ run_lines state
all_told state run order client server i at_client at_server next_client next_server lines order_is client_is server_is ended client_told server_told so_far =
    let h = ordered state run in
    let all : reverse (take i order) ≡ state.order = ap reverse (take_all i order ended) ∙ order_is in
    let clients : at_client ≡ length state.client = client_told.events_is ∙ ap (λ (xs : List EndId). count_by (is_of Client) xs) all ∙ h.client_events in
    let servers : at_server ≡ length state.server = server_told.events_is ∙ ap (λ (xs : List EndId). count_by (is_of Server) xs) all ∙ h.server_events in
    so_far ∙ rw (all, whole client state.client at_client client_is clients, whole server state.server at_server server_is servers) refl

-- ---- what a run gives

-- the histories of a run of joint ends
pub record CanTell (order : List EndId) (client server : List Event) : Type 0 where
  pub client_tellable : AreTellable Client (reverse client)
  pub server_tellable : AreTellable Server (reverse server)
  pub client_few : length client < 2 ^ 61 + 2
  pub server_few : length server < 2 ^ 61 + 2
  pub client_events : count_by (is_of Client) (reverse order) ≡ length client
  pub server_events : count_by (is_of Server) (reverse order) ≡ length server

pub can_tell : (state : State) (order : List EndId) (client server : List Event) → IsRun state → AreJointIn state → reverse order ≡ state.order → reverse client ≡ state.client → reverse server ≡ state.server
    → CanTell order client server
can_tell state order client server run joint order_is client_is server_is =
    let h = ordered state run in
    let few = few_events state run in
    let client_lawful = subst (λ (l : Limits). IsLawful l) (sym h.client_limits) run.client_lawful in
    let server_lawful = subst (λ (l : Limits). IsLawful l) (sym h.server_limits) run.server_lawful in
    let client_long : length client ≡ length state.client = sym (length-reverse client) ∙ ap length client_is in
    let server_long : length server ≡ length state.server = sym (length-reverse server) ∙ ap length server_is in
    record {
      client_tellable = subst (λ (p : List Event). AreTellable Client p) (sym client_is)
          (client_tellable state.client_limits state.server_limits state.client state.server client_lawful server_lawful joint.linked (omega (arith, few, run.few)));
      server_tellable = subst (λ (p : List Event). AreTellable Server p) (sym server_is)
          (server_tellable state.client_limits state.server_limits state.client state.server client_lawful server_lawful joint.linked (omega (arith, few, run.few)));
      client_few = omega (arith, few, run.few, client_long);
      server_few = omega (arith, few, run.few, server_long);
      client_events = ap (λ (xs : List EndId). count_by (is_of Client) xs) order_is ∙ h.client_events ∙ sym client_long;
      server_events = ap (λ (xs : List EndId). count_by (is_of Server) xs) order_is ∙ h.server_events ∙ sym server_long;
    }
