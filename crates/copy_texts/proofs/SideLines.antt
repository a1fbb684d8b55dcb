-- A text has the lines of one log alone: they are the same for each side.
use Rattle.std.proofs.Common.{◌≡◌, ℕ, zero, suc, ◌≤◌, Bool, true, false, cond, Option, Some, None, List, [], ◌∷◌, ◌++◌, length, reverse, refl, sym, ap, ◌∙◌, subst, arith, append_assoc}
use Rattle.std.specs.Prelude.{codes, slice_get}
use Rattle.std.proofs.lemmas.Bool.{eq-eqb}
use Rattle.smbd_base.specs.declared.end_id.EndId.TheVariants.{Client, Server}
use Rattle.smbd_base.specs.declared.event.Event.{Event}
use Rattle.smbd_base.specs.declared.page_event.PageEvent.{PageEvent}
use Rattle.event_log.specs.declared.side.Side.{Side}
use Rattle.event_log.specs.declared.side.Side.TheVariants.{C, S, Cw, Sw}
use Rattle.event_log.specs.Lines.{line_text, logged, logged_page}
use Rattle.run_log.specs.RunLines.{history_lines, newest_line, next_frame_number}
use Rattle.file_pasts.proofs.Lists.{within}
use Rattle.copy_log.specs.CopyLogs.{Deeds, LogEntry, IsLog, entries_text, lines_at, side_lines, page_lines, events_of, list_or_none, is_side}
use Rattle.copy_laws.proofs.Eaches.{Each, each-append}
use Rattle.copy_texts.proofs.Pairs.{each-mapped}
use Rattle.copy_texts.proofs.TextLines.{split-at, side_of_line, Tells, client-tells, server-tells, client_worker-tells, server_worker-tells}

-- ---- the lines of a side

client-told : (past : List Event) → Each (Tells C) (history_lines Client past)
client-told [] = tt
client-told (e ∷ past) =
    each-append (Tells C) (history_lines Client past) (newest_line Client (e ∷ past)) (client-told past) (client-tells (logged (next_frame_number past) e), tt)

server-told : (past : List Event) → Each (Tells S) (history_lines Server past)
server-told [] = tt
server-told (e ∷ past) =
    each-append (Tells S) (history_lines Server past) (newest_line Server (e ∷ past)) (server-told past) (server-tells (logged (next_frame_number past) e), tt)

-- the workers of each end are so few that a digit names each
pub record AreFew (d : Deeds) : Type 0 where
  pub clients : length d.clients ≤ 8
  pub servers : length d.servers ≤ 8

client_worker-told : (lists : List (List PageEvent)) (worker : ℕ) → length lists ≤ 8 → Each (Tells (Cw worker)) (page_lines (Cw worker) (events_of worker lists))
client_worker-told lists zero few = tt
client_worker-told lists (suc place) few = by_list (slice_get lists place) refl where
  by_list : (o : Option (List PageEvent)) → slice_get lists place ≡ o → Each (Tells (Cw (suc place))) (page_lines (Cw (suc place)) (list_or_none o))
  by_list None at = tt
  by_list (Some list) at =
      let below = within lists place list at in
      each-mapped (Tells (Cw (suc place))) (λ (e : PageEvent). line_text (Cw (suc place)) (logged_page e)) (reverse list)
      (λ e. client_worker-tells (suc place) (omega (arith, below, few)) (logged_page e))

server_worker-told : (lists : List (List PageEvent)) (worker : ℕ) → length lists ≤ 8 → Each (Tells (Sw worker)) (page_lines (Sw worker) (events_of worker lists))
server_worker-told lists zero few = tt
server_worker-told lists (suc place) few = by_list (slice_get lists place) refl where
  by_list : (o : Option (List PageEvent)) → slice_get lists place ≡ o → Each (Tells (Sw (suc place))) (page_lines (Sw (suc place)) (list_or_none o))
  by_list None at = tt
  by_list (Some list) at =
      let below = within lists place list at in
      each-mapped (Tells (Sw (suc place))) (λ (e : PageEvent). line_text (Sw (suc place)) (logged_page e)) (reverse list)
      (λ e. server_worker-tells (suc place) (omega (arith, below, few)) (logged_page e))

side-told : (d : Deeds) (side : Side) → AreFew d → Each (Tells side) (side_lines d side)
side-told d C few = client-told d.client
side-told d S few = server-told d.server
side-told d (Cw worker) few = client_worker-told d.clients worker few.clients
side-told d (Sw worker) few = server_worker-told d.servers worker few.servers

-- ---- the entries of a log

abbrev IsTold : LogEntry → Type 0
IsTold e = Tells e.side e.line

is_side-own : (side : Side) → is_side side side ≡ true
is_side-own C = refl
is_side-own S = refl
is_side-own (Cw worker) = eq-eqb worker worker refl
is_side-own (Sw worker) = eq-eqb worker worker refl

each-own : (P : List ℕ → Type 0) (t : Bool) (line : List ℕ) (lines : List (List ℕ)) → t ≡ true → Each P (cond t (line ∷ lines) lines) → P line
each-own P true line lines is h = h.0
each-own P false line lines is h = absurd (let b : ⊥ = cc in b)

each-later : (P : List ℕ → Type 0) (t : Bool) (line : List ℕ) (lines : List (List ℕ)) → Each P (cond t (line ∷ lines) lines) → Each P lines
each-later P true line lines h = h.1
each-later P false line lines h = h

-- each entry is a line of its own side
told-entries : (entries : List LogEntry) → ((side : Side) → Each (Tells side) (lines_at side entries)) → Each IsTold entries
told-entries [] h = tt
told-entries (e ∷ entries) h = (
  each-own (Tells e.side) (is_side e.side e.side) e.line (lines_at e.side entries) (is_side-own e.side) (h e.side),
  told-entries entries (λ side. each-later (Tells side) (is_side side e.side) e.line (lines_at side entries) (h side)),
)

fed : (line text : List ℕ) → (line ++ codes "\n") ++ text ≡ line ++ 10 ∷ text
fed line text = append_assoc line (10 ∷ []) text

no-line : (line text : List ℕ) → line ++ 10 ∷ text ≡ [] → ⊥
no-line [] text e = (let b : ⊥ = cc in b)
no-line (b ∷ line) text e = (let b : ⊥ = cc in b)

made : (s t : Side) (l m : List ℕ) → s ≡ t → l ≡ m → ◌≡◌ {A = LogEntry} (record { side = s; line = l }) (record { side = t; line = m })
made s t l m a b = rw (a, b) refl

entry-is : (x y : LogEntry) → x.side ≡ y.side → x.line ≡ y.line → x ≡ y
entry-is x y sides lines = made x.side y.side x.line y.line sides lines

-- a text has one list of entries
entries-same : (xs ys : List LogEntry) → Each IsTold xs → Each IsTold ys → entries_text xs ≡ entries_text ys → xs ≡ ys
entries-same [] [] h k e = refl
entries-same [] (y ∷ ys) h k e = absurd (no-line y.line (entries_text ys) (sym (e ∙ fed y.line (entries_text ys))))
entries-same (x ∷ xs) [] h k e = absurd (no-line x.line (entries_text xs) (sym (fed x.line (entries_text xs)) ∙ e))
entries-same (x ∷ xs) (y ∷ ys) h k e =
    let parts =
    split-at 10 x.line y.line (entries_text xs) (entries_text ys) h.0.whole k.0.whole (sym (fed x.line (entries_text xs)) ∙ e ∙ fed y.line (entries_text ys)) in
    let sides : x.side ≡ y.side = sym h.0.named ∙ ap (λ (l : List ℕ). side_of_line l) parts.0 ∙ k.0.named in
    rw (entry-is x y sides parts.0, entries-same xs ys h.1 k.1 parts.1) refl

told-log : (d : Deeds) (text : List ℕ) (log : IsLog d text) → AreFew d → Each IsTold log.entries
told-log d text log few =
    told-entries log.entries (λ side. subst (λ (ls : List (List ℕ)). Each (Tells side) ls) (sym (log.each side)) (side-told d side few))

-- the lines of each side
pub same-lines : (d e : Deeds) (text : List ℕ) → AreFew d → AreFew e → IsLog d text → IsLog e text → (side : Side) → side_lines d side ≡ side_lines e side
same-lines d e text few others log other side =
    let same = entries-same log.entries other.entries (told-log d text log few) (told-log e text other others) (sym log.all ∙ other.all) in
    sym (log.each side) ∙ ap (λ (es : List LogEntry). lines_at side es) same ∙ other.each side
