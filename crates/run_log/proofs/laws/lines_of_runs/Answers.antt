use Rattle.run_log.proofs.Ordering.{ordered, all_lines, lines_each, opening_first}
use Rattle.run_log.proofs.laws.lines_of_runs.Goals as goal

pub returns : goal.returns
returns c = record {
  all = λ state run. (let h = ordered state run in all_lines state.order state.client state.server h.client_events h.server_events);
  each = lines_each;
  opening = opening_first;
}
