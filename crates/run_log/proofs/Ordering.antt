-- What every run keeps: its order names each end as often as that end has events, and its lines begin with the opening posts.
use Rattle.std.proofs.Common.{◌≡◌, ℕ, ◌+◌, ◌≤◌, cond, Option, Some, None, List, [], ◌∷◌, ◌++◌, length, refl, sym, ap, subst, ◌∙◌, append-nil, append_assoc, zero-add, arith}
use Rattle.std.specs.List.{fold, filter, count_by}
use Rattle.std.proofs.lemmas.List.{length-append}
use Rattle.std.proofs.lemmas.List.Elements.{filter-append}
use Rattle.std.proofs.lemmas.List.Sums.{sum_by-append}
use mathlib.Core.List.{IsPrefix}
use Rattle.smbd_base.specs.declared.end_id.EndId.{EndId}
use Rattle.smbd_base.specs.declared.end_id.EndId.TheVariants.{Client, Server}
use Rattle.smbd_base.specs.declared.event.Event.{Event}
use Rattle.smbd_base.specs.Limits.{Limits}
use Rattle.smbd_base.specs.Counts.{peer_of}
use Rattle.event_log.specs.declared.side.Side.TheVariants.{C, S}
use Rattle.event_log.specs.declared.log_line.LogLine.TheVariants.{Post}
use Rattle.event_log.specs.Lines.{line_text, logged}
use Rattle.event_log.proofs.WrittenLines.{line_text-words}
use Rattle.world_core.specs.declared.choice.Choice.{Choice}
use Rattle.world_core.specs.Choices.{end_of}
use Rattle.world_core.specs.Run.{State, past_of, event_chosen, state_after, step_of, opened_world, run_of}
use Rattle.run_log.specs.RunLines.{newest_line, before_newest, line_added, next_frame_number, lines_in_order, run_lines, history_lines, is_line_of, is_of}
use Rattle.run_log.specs.Runs.{IsRun}

-- ---- how often an order names an end

pub count_own : (end : EndId) (order : List EndId) → count_by (is_of end) (end ∷ order) ≡ 1 + count_by (is_of end) order
count_own Client order = sum_by-append (λ (x : EndId). cond (is_of Client x) 1 0) (Client ∷ []) order
count_own Server order = sum_by-append (λ (x : EndId). cond (is_of Server x) 1 0) (Server ∷ []) order

pub count_other : (end : EndId) (order : List EndId) → count_by (is_of end) (peer_of end ∷ order) ≡ count_by (is_of end) order
count_other Client order = sum_by-append (λ (x : EndId). cond (is_of Client x) 1 0) (Server ∷ []) order ∙ zero-add (count_by (is_of Client) order)
count_other Server order = sum_by-append (λ (x : EndId). cond (is_of Server x) 1 0) (Client ∷ []) order ∙ zero-add (count_by (is_of Server) order)

-- ---- from one choice to the next

-- the lines with which every log of a run begins
abbrev pub opening_lines : Limits → Limits → List (List ℕ)
opening_lines client server = line_text C (Post client.credits) ∷ line_text S (Post server.credits) ∷ []

pub record IsOrdered (client server : Limits) (state : State) : Type 0 where
  pub client_limits : state.client_limits ≡ client
  pub server_limits : state.server_limits ≡ server
  pub client_events : count_by (is_of Client) state.order ≡ length state.client
  pub server_events : count_by (is_of Server) state.order ≡ length state.server
  pub opening : IsPrefix (opening_lines client server) (run_lines state)

longer : (xs ys more : List (List ℕ)) → IsPrefix xs ys → IsPrefix xs (ys ++ more)
longer xs ys more front = (front.0 ++ more, sym (append_assoc xs front.0 more) ∙ ap (λ (ls : List (List ℕ)). ls ++ more) front.1)

ordered_by : (client server : Limits) (state : State) (end : EndId) (choice : Choice) (event : Option Event) → end_of choice ≡ end → IsOrdered client server state
    → IsOrdered client server (state_after state end choice event)
ordered_by client server state Client choice None is h = record {
  client_limits = h.client_limits;
  server_limits = h.server_limits;
  client_events = h.client_events;
  server_events = h.server_events;
  opening = h.opening;
}
ordered_by client server state Server choice None is h = record {
  client_limits = h.client_limits;
  server_limits = h.server_limits;
  client_events = h.client_events;
  server_events = h.server_events;
  opening = h.opening;
}
ordered_by client server state Client choice (Some event) is h = record {
  client_limits = h.client_limits;
  server_limits = h.server_limits;
  client_events = rw is (omega (arith, h.client_events, count_own Client state.order));
  server_events = rw is (omega (arith, h.server_events, count_other Server state.order));
  opening = rw is (longer (opening_lines client server) (run_lines state) (newest_line Client (event ∷ state.client)) h.opening);
}
ordered_by client server state Server choice (Some event) is h = record {
  client_limits = h.client_limits;
  server_limits = h.server_limits;
  client_events = rw is (omega (arith, h.client_events, count_other Client state.order));
  server_events = rw is (omega (arith, h.server_events, count_own Server state.order));
  opening = rw is (longer (opening_lines client server) (run_lines state) (newest_line Server (event ∷ state.server)) h.opening);
}

ordered_after : (client server : Limits) (choices : List Choice) (state : State) → IsOrdered client server state → IsOrdered client server (fold step_of state choices)
ordered_after client server [] state h = h
ordered_after client server (choice ∷ choices) state h =
    ordered_after client server choices (step_of state choice) (ordered_by client server state (end_of choice) choice (event_chosen state choice) refl h)

ordered_run : (client server : Limits) (choices : List Choice) → IsOrdered client server (run_of client server choices)
ordered_run client server choices =
    ordered_after client server choices (opened_world client server)
    (record { client_limits = refl; server_limits = refl; client_events = refl; server_events = refl; opening = ([], refl) })

pub ordered : (state : State) (run : IsRun state) → IsOrdered run.client run.server state
ordered state run = subst (λ (s : State). IsOrdered run.client run.server s) (sym run.run) (ordered_run run.client run.server run.choices)

-- ---- what a choice adds to the lines

lines_by : (state : State) (end : EndId) (choice : Choice) (event : Option Event) → end_of choice ≡ end
    → run_lines (state_after state end choice event) ≡ run_lines state ++ line_added end (past_of end state) event
lines_by state Client choice None is = sym (append-nil (run_lines state))
lines_by state Server choice None is = sym (append-nil (run_lines state))
lines_by state Client choice (Some event) is = rw is refl
lines_by state Server choice (Some event) is = rw is refl

-- the line of its event, last
pub lines_stepped : (state : State) (choice : Choice)
    → run_lines (step_of state choice) ≡ run_lines state ++ line_added (end_of choice) (past_of (end_of choice) state) (event_chosen state choice)
lines_stepped state choice = lines_by state (end_of choice) choice (event_chosen state choice) refl

-- ---- how many events there are

more_by : (state : State) (end : EndId) (choice : Choice) (event : Option Event)
    → length (state_after state end choice event).client + length (state_after state end choice event).server ≤ length state.client + length state.server + 1
more_by state Client choice None = omega arith
more_by state Server choice None = omega arith
more_by state Client choice (Some event) = omega arith
more_by state Server choice (Some event) = omega arith

more_after : (choices : List Choice) (state : State)
    → length (fold step_of state choices).client + length (fold step_of state choices).server ≤ length state.client + length state.server + length choices
more_after [] state = omega arith
more_after (choice ∷ choices) state =
    omega (arith, more_after choices (step_of state choice), more_by state (end_of choice) choice (event_chosen state choice))

-- at most one for each choice, beside the opening posts
pub few_events : (state : State) (run : IsRun state) → length state.client + length state.server ≤ 2 + length run.choices
few_events state run =
    subst (λ (s : State). length s.client + length s.server ≤ 2 + length run.choices) (sym run.run)
    (omega (arith, more_after run.choices (opened_world run.client run.server)))

-- ---- the lines of one end

own_line : (end : EndId) (past : List Event) → filter (is_line_of end) (newest_line end past) ≡ newest_line end past
own_line Client [] = refl
own_line Server [] = refl
own_line Client (event ∷ past) = rw (line_text-words C (logged (next_frame_number past) event)) refl
own_line Server (event ∷ past) = rw (line_text-words S (logged (next_frame_number past) event)) refl

no_server_line : (past : List Event) → filter (is_line_of Client) (newest_line Server past) ≡ []
no_server_line [] = refl
no_server_line (event ∷ past) = rw (line_text-words S (logged (next_frame_number past) event)) refl

no_client_line : (past : List Event) → filter (is_line_of Server) (newest_line Client past) ≡ []
no_client_line [] = refl
no_client_line (event ∷ past) = rw (line_text-words C (logged (next_frame_number past) event)) refl

with_own : (end : EndId) (lines more : List (List ℕ)) (past : List Event) → filter (is_line_of end) lines ≡ more → filter (is_line_of end) (lines ++ newest_line end past) ≡ more ++ newest_line end past
with_own end lines more past is =
    filter-append (is_line_of end) lines (newest_line end past) ∙ ap (λ (ls : List (List ℕ)). ls ++ filter (is_line_of end) (newest_line end past)) is
    ∙ ap (λ (ls : List (List ℕ)). more ++ ls) (own_line end past)

with_other : (end : EndId) (lines other more : List (List ℕ)) → filter (is_line_of end) other ≡ [] → filter (is_line_of end) lines ≡ more → filter (is_line_of end) (lines ++ other) ≡ more
with_other end lines other more none is =
    filter-append (is_line_of end) lines other ∙ ap (λ (ls : List (List ℕ)). ls ++ filter (is_line_of end) other) is
    ∙ ap (λ (ls : List (List ℕ)). more ++ ls) none ∙ append-nil more

pub client_lines : (order : List EndId) (client server : List Event) → count_by (is_of Client) order ≡ length client
    → filter (is_line_of Client) (lines_in_order order client server) ≡ history_lines Client client
client_lines [] [] server count = refl
client_lines [] (event ∷ client) server count = absurd (omega arith)
client_lines (Client ∷ order) [] server count = absurd (omega (arith, count_own Client order))
client_lines (Client ∷ order) (event ∷ client) server count =
    with_own Client (lines_in_order order client server) (history_lines Client client) (event ∷ client) (client_lines order client server (omega (arith, count_own Client order)))
client_lines (Server ∷ order) client server count =
    with_other Client (lines_in_order order client (before_newest server)) (newest_line Server server) (history_lines Client client) (no_server_line server)
    (client_lines order client (before_newest server) (omega (arith, count_other Client order)))

pub server_lines : (order : List EndId) (client server : List Event) → count_by (is_of Server) order ≡ length server
    → filter (is_line_of Server) (lines_in_order order client server) ≡ history_lines Server server
server_lines [] client [] count = refl
server_lines [] client (event ∷ server) count = absurd (omega arith)
server_lines (Server ∷ order) client [] count = absurd (omega (arith, count_own Server order))
server_lines (Server ∷ order) client (event ∷ server) count =
    with_own Server (lines_in_order order client server) (history_lines Server server) (event ∷ server) (server_lines order client server (omega (arith, count_own Server order)))
server_lines (Client ∷ order) client server count =
    with_other Server (lines_in_order order (before_newest client) server) (newest_line Client client) (history_lines Server server) (no_client_line client)
    (server_lines order (before_newest client) server (omega (arith, count_other Server order)))

-- each event has its line
pub all_lines : (order : List EndId) (client server : List Event) → count_by (is_of Client) order ≡ length client → count_by (is_of Server) order ≡ length server
    → length (lines_in_order order client server) ≡ length client + length server
all_lines [] [] [] count count' = refl
all_lines [] (event ∷ client) server count count' = absurd (omega arith)
all_lines [] [] (event ∷ server) count count' = absurd (omega arith)
all_lines (Client ∷ order) [] server count count' = absurd (omega (arith, count_own Client order, count_other Server order))
all_lines (Client ∷ order) (event ∷ client) server count count' =
    omega (arith, length-append (lines_in_order order client server) (newest_line Client (event ∷ client)), all_lines order client server (omega (arith, count_own Client order, count_other Server order)) (omega (arith, count_own Client order, count_other Server order)))
all_lines (Server ∷ order) client [] count count' = absurd (omega (arith, count_other Client order, count_own Server order))
all_lines (Server ∷ order) client (event ∷ server) count count' =
    omega (arith, length-append (lines_in_order order client server) (newest_line Server (event ∷ server)), all_lines order client server (omega (arith, count_other Client order, count_own Server order)) (omega (arith, count_other Client order, count_own Server order)))

-- ---- of a run

pub named_each : (state : State) (end : EndId) → IsRun state → count_by (is_of end) state.order ≡ length (past_of end state)
named_each state Client run = (ordered state run).client_events
named_each state Server run = (ordered state run).server_events

pub lines_each : (state : State) (end : EndId) → IsRun state → filter (is_line_of end) (run_lines state) ≡ history_lines end (past_of end state)
lines_each state Client run = client_lines state.order state.client state.server (ordered state run).client_events
lines_each state Server run = server_lines state.order state.client state.server (ordered state run).server_events

pub opening_first : (state : State) → IsRun state → IsPrefix (opening_lines state.client_limits state.server_limits) (run_lines state)
opening_first state run =
    let h = ordered state run in
    subst (λ (l : Limits). IsPrefix (opening_lines l state.server_limits) (run_lines state)) (sym h.client_limits)
    (subst (λ (l : Limits). IsPrefix (opening_lines run.client l) (run_lines state)) (sym h.server_limits) h.opening)
