-- The text of the news of the workers of one end, a worker after another.
use Rattle.std.proofs.Common.{◌≡◌, ◌≤◌, ℕ, zero, suc, ◌+◌, Some, List, [], ◌∷◌, ◌++◌, length, map, take, refl, sym, ap, ◌∙◌, subst, append_assoc, add-one, arith}
use Rattle.std.specs.Prelude.{slice_get}
use Rattle.std.proofs.lemmas.List.{append-nil, take_all, length-map}
use Rattle.smbd_base.specs.declared.end_id.EndId.{EndId}
use Rattle.smbd_base.specs.declared.end_id.EndId.TheVariants.{Client, Server}
use Rattle.event_log.specs.declared.log_line.LogLine.{LogLine}
use Rattle.event_log.specs.declared.side.Side.{Side}
use Rattle.event_log.specs.Lines.{line_text, lines_text}
use Rattle.copy_log.specs.Laws.{workers_text}
use Rattle.page_workers.specs.Workers.{WorkerState}
use Rattle.page_crew.specs.Crews.{CrewState, lines_of, workers_of}
use Rattle.end_workers.specs.News.{texts_from, worker_of}

abbrev text_of : Side → List LogLine → List ℕ
text_of side lines = lines_text (map (λ (line : LogLine). line_text side line) lines)

-- the text with the lines of one worker more
text-next : (end : EndId) (number place : ℕ) (workers : List (List LogLine)) (lines : List LogLine) → slice_get workers place ≡ Some lines
    → workers_text (take (suc place) (texts_from end number workers)) ≡ workers_text (take place (texts_from end number workers)) ++ text_of (worker_of end (number + place)) lines
text-next end number place [] lines at = absurd (let b : ⊥ = cc in b)
text-next end number zero (w ∷ workers) lines at =
    let same : w ≡ lines = cc in
    append-nil (text_of (worker_of end number) w) ∙ ap (λ (ls : List LogLine). text_of (worker_of end number) ls) same
    ∙ ap (λ (n : ℕ). text_of (worker_of end n) lines) (let e : number ≡ number + 0 = omega arith in e)
text-next end number (suc place) (w ∷ workers) lines at =
    ap (λ (t : List ℕ). text_of (worker_of end number) w ++ t) (text-next end (number + 1) place workers lines at)
    ∙ sym (append_assoc (text_of (worker_of end number) w) (workers_text (take place (texts_from end (number + 1) workers))) (text_of (worker_of end (number + 1 + place)) lines))
    ∙ ap (λ (n : ℕ). (text_of (worker_of end number) w ++ workers_text (take place (texts_from end (number + 1) workers))) ++ text_of (worker_of end n) lines)
    (let e : number + 1 + place ≡ number + suc place = omega arith in e)

-- so a text that has the lines of the first workers has those of the next one, once they are added to it
pub text-more : (end : EndId) (place : ℕ) (workers : List (List LogLine)) (lines : List LogLine) (start old new : List ℕ) → slice_get workers place ≡ Some lines
    → old ≡ start ++ workers_text (take place (texts_from end 1 workers)) → new ≡ old ++ text_of (worker_of end (place + 1)) lines
    → new ≡ start ++ workers_text (take (place + 1) (texts_from end 1 workers))
text-more end place workers lines start old new at so_far added =
    added ∙ ap (λ (t : List ℕ). t ++ text_of (worker_of end (place + 1)) lines) so_far
    ∙ append_assoc start (workers_text (take place (texts_from end 1 workers))) (text_of (worker_of end (place + 1)) lines)
    ∙ ap (λ (n : ℕ). start ++ (workers_text (take place (texts_from end 1 workers)) ++ text_of (worker_of end n) lines)) (let e : place + 1 ≡ 1 + place = omega arith in e)
    ∙ ap (λ (t : List ℕ). start ++ t) (sym (text-next end 1 place workers lines at))
    ∙ ap (λ (n : ℕ). start ++ workers_text (take n (texts_from end 1 workers))) (sym (add-one place))

length-texts : (end : EndId) (number : ℕ) (workers : List (List LogLine)) → length (texts_from end number workers) ≡ length workers
length-texts end number [] = refl
length-texts end number (w ∷ workers) = ap (λ (n : ℕ). suc n) (length-texts end (number + 1) workers)

-- all workers are as many as there are
pub text-all : (end : EndId) (count : ℕ) (workers : List (List LogLine)) (start text : List ℕ) → length workers ≤ count
    → text ≡ start ++ workers_text (take count (texts_from end 1 workers)) → text ≡ start ++ workers_text (texts_from end 1 workers)
text-all end count workers start text few so_far =
    let all : length (texts_from end 1 workers) ≤ count = subst (λ (n : ℕ). n ≤ count) (sym (length-texts end 1 workers)) few in
    so_far ∙ ap (λ (ts : List (List (List ℕ))). start ++ workers_text ts) (take_all count (texts_from end 1 workers) all)

-- each end has as many
pub lines-count : (end : EndId) (crew : CrewState) (count : ℕ) → count ≡ length crew.clients → length crew.servers ≡ length crew.clients
    → length (lines_of (workers_of end crew)) ≡ count
lines-count Client crew count number even = length-map crew.clients (λ (w : WorkerState). w.lines) ∙ sym number
lines-count Server crew count number even = length-map crew.servers (λ (w : WorkerState). w.lines) ∙ even ∙ sym number
