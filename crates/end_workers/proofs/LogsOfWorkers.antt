-- The lines of what the workers of an end did since they were told of.
use Rattle.std.proofs.Common.{◌≡◌, ℕ, zero, suc, ◌+◌, Some, List, [], ◌∷◌, ◌++◌, length, map, reverse, refl, sym, ap, ◌∙◌, subst, arith}
use Rattle.std.specs.Prelude.{slice_get}
use Rattle.std.proofs.lemmas.List.{append-nil, map-append}
use mathlib.Core.List.{map-map}
use Rattle.smbd_base.specs.declared.end_id.EndId.{EndId}
use Rattle.smbd_base.specs.declared.page_event.PageEvent.{PageEvent}
use Rattle.smbd_base.specs.Pages.{Entry}
use Rattle.smbd_base.specs.PagesFit.{events_by}
use Rattle.event_log.specs.declared.log_line.LogLine.{LogLine}
use Rattle.event_log.specs.declared.side.Side.{Side}
use Rattle.event_log.specs.Lines.{line_text, logged_page}
use Rattle.file_pasts.proofs.Lists.{got_of_map}
use Rattle.page_workers.specs.Workers.{WorkerState}
use Rattle.copy_laws.specs.Laws.{lists_from}
use Rattle.copy_log.specs.CopyLogs.{list_or_none, events_of, page_lines}
use Rattle.copy_log.specs.Laws.{lines_or_none}
use Rattle.copy_log.specs.Laws as told_at
use Rattle.page_crew.specs.Crews.{lines_of, told}
use Rattle.end_workers.specs.News.{texts_from, worker_of}
use Rattle.end_workers.specs.Progress.{HasUntold, HaveUntold}

-- the worker after the first ones
later-untold : (first : ℕ) (before now : List Entry) (w : WorkerState) (ws : List WorkerState) → HaveUntold first before now (w ∷ ws) → HaveUntold (first + 1) before now ws
later-untold first before now w ws h place v at =
    subst (λ (pass : ℕ). HasUntold pass before now v) (let e : first + suc place ≡ first + 1 + place = omega arith in e) (h (suc place) v at)

-- the lines of one worker go on by those that it has
worker-lines : (side : Side) (pass : ℕ) (before now : List Entry) (w : WorkerState) → HasUntold pass before now w
    → page_lines side (events_by pass now) ≡ page_lines side (events_by pass before) ++ map (λ (line : LogLine). line_text side line) w.lines
worker-lines side pass before now w h =
    let f : PageEvent → List ℕ = λ e. line_text side (logged_page e) in
    let mine : map f h.made ≡ map (λ (line : LogLine). line_text side line) w.lines =
    sym (map-map (λ (line : LogLine). line_text side line) logged_page h.made) ∙ ap (λ (ls : List LogLine). map (λ (line : LogLine). line_text side line) ls) (sym h.lines) in
    ap (λ (es : List PageEvent). map f es) h.events ∙ map-append f (reverse (events_by pass before)) h.made
    ∙ ap (λ (ls : List (List ℕ)). map f (reverse (events_by pass before)) ++ ls) mine

-- and so do those of the worker at a place, counted from 0
place-lines : (end : EndId) (first number : ℕ) (before now : List Entry) (ws : List WorkerState) → HaveUntold first before now ws → (place : ℕ)
    → page_lines (worker_of end (number + place)) (list_or_none (slice_get (lists_from first (length ws) now) place))
    ≡ page_lines (worker_of end (number + place)) (list_or_none (slice_get (lists_from first (length ws) before) place))
    ++ lines_or_none (slice_get (texts_from end number (lines_of ws)) place)
place-lines end first number before now [] h place = refl
place-lines end first number before now (w ∷ ws) h zero =
    subst (λ (n : ℕ). page_lines (worker_of end n) (events_by first now)
    ≡ page_lines (worker_of end n) (events_by first before) ++ map (λ (line : LogLine). line_text (worker_of end number) line) w.lines) (let e : number ≡ number + 0 = omega arith in e)
    (worker-lines (worker_of end number) first before now w (subst (λ (pass : ℕ). HasUntold pass before now w) (let e : first + 0 ≡ first = omega arith in e) (h 0 w refl)))
place-lines end first number before now (w ∷ ws) h (suc place) =
    subst (λ (n : ℕ). page_lines (worker_of end n) (list_or_none (slice_get (lists_from (first + 1) (length ws) now) place))
    ≡ page_lines (worker_of end n) (list_or_none (slice_get (lists_from (first + 1) (length ws) before) place))
    ++ lines_or_none (slice_get (texts_from end (number + 1) (lines_of ws)) place)) (let e : number + 1 + place ≡ number + suc place = omega arith in e)
    (place-lines end (first + 1) (number + 1) before now ws (later-untold first before now w ws h) place)

-- and of the worker of a number, from 1
pub crew-lines : (end : EndId) (first count : ℕ) (before now : List Entry) (ws : List WorkerState) → length ws ≡ count → HaveUntold first before now ws → (worker : ℕ)
    → page_lines (worker_of end worker) (events_of worker (lists_from first count now))
    ≡ page_lines (worker_of end worker) (events_of worker (lists_from first count before)) ++ told_at.lines_of worker (texts_from end 1 (lines_of ws))
crew-lines end first count before now ws long h zero = refl
crew-lines end first count before now ws long h (suc place) =
    subst (λ (n : ℕ). page_lines (worker_of end (suc place)) (list_or_none (slice_get (lists_from first n now) place))
    ≡ page_lines (worker_of end (suc place)) (list_or_none (slice_get (lists_from first n before) place)) ++ lines_or_none (slice_get (texts_from end 1 (lines_of ws)) place)) long
    (subst (λ (n : ℕ). page_lines (worker_of end n) (list_or_none (slice_get (lists_from first (length ws) now) place))
    ≡ page_lines (worker_of end n) (list_or_none (slice_get (lists_from first (length ws) before) place))
    ++ lines_or_none (slice_get (texts_from end 1 (lines_of ws)) place)) (let e : 1 + place ≡ suc place = omega arith in e)
    (place-lines end first 1 before now ws h place))

-- where the pages have no past, no worker has done anything
none-at : (first count place : ℕ) → list_or_none (slice_get (lists_from first count []) place) ≡ []
none-at first zero place = refl
none-at first (suc count) zero = refl
none-at first (suc count) (suc place) = none-at (first + 1) count place

pub no-events : (first count worker : ℕ) → events_of worker (lists_from first count []) ≡ []
no-events first count zero = refl
no-events first count (suc place) = none-at first count place

-- once all lines are told, none is left
pub all-told : (first : ℕ) (now : List Entry) (ws : List WorkerState) → HaveUntold first now now (map told ws)
all-told first now ws place w at =
    let g : (x : WorkerState) × (slice_get ws place ≡ Some x) × (w ≡ told x) = got_of_map told ws place w at in
    record { made = []; events = sym (append-nil (reverse (events_by (first + place) now))); lines = ap (λ (v : WorkerState). v.lines) g.2 }
