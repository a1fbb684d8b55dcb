-- The lines of what an end did since it was told of.
use Rattle.std.proofs.Common.{◌≡◌, ℕ, ◌+◌, List, [], ◌∷◌, ◌++◌, length, drop, reverse, refl, sym, ap, ◌∙◌, append_assoc, length-append}
use Rattle.std.proofs.lemmas.List.{append-nil, drop_at, reverse-reverse, reverse-append, length-reverse}
use Rattle.std.proofs.lemmas.Grind.{reverse_onto}
use Rattle.smbd_base.specs.declared.end_id.EndId.{EndId}
use Rattle.smbd_base.specs.declared.event.Event.{Event}
use Rattle.smbd_base.specs.declared.event.Event.TheVariants.{Post, Submit, Emit, Take, Cut}
use Rattle.smbd_base.specs.Joint.{taken_frames}
use Rattle.run_log.specs.declared.telling.Told.{Told}
use Rattle.run_log.specs.RunLines.{event_line, history_lines, next_frame_number, number_after}
use Rattle.run_log.specs.NewLines.{lines_from, number_after_all, told_after, told_of}
use Rattle.copy_ends.specs.Turns.{HasGrown}

-- the number of the next frame, after one event more
number-next : (number : ℕ) (past : List Event) (e : Event) → number ≡ next_frame_number past → number_after number e ≡ next_frame_number (e ∷ past)
number-next number past (Post n) h = h
number-next number past (Submit m) h = h
number-next number past (Emit f) h = h
number-next number past (Take f) h = ap (λ (k : ℕ). k + 1) (h ∙ sym (length-append (taken_frames past) (f ∷ [])))
number-next number past Cut h = h

-- events in the order of time, the first of them put to the past
onto : (e : Event) (events past : List Event) → reverse (e ∷ events) ++ past ≡ reverse events ++ e ∷ past
onto e events past = ap (λ (p : List Event). p ++ past) (reverse_onto events e []) ∙ append_assoc (reverse events) (e ∷ []) past

-- the lines of a past go on by those of later events
lines-more : (end : EndId) (number : ℕ) (lines : List (List ℕ)) (past : List Event) → number ≡ next_frame_number past → lines ≡ history_lines end past
    → (events : List Event) → history_lines end (reverse events ++ past) ≡ lines ++ lines_from end number events
lines-more end number lines past n l [] = sym l ∙ sym (append-nil lines)
lines-more end number lines past n l (e ∷ events) =
    let line_is : lines ++ event_line end number e ∷ [] ≡ history_lines end (e ∷ past) =
    ap (λ (ls : List (List ℕ)). ls ++ event_line end number e ∷ []) l ∙ ap (λ (k : ℕ). history_lines end past ++ event_line end k e ∷ []) n in
    ap (history_lines end) (onto e events past)
    ∙ lines-more end (number_after number e) (lines ++ event_line end number e ∷ []) (e ∷ past) (number-next number past e n) line_is events
    ∙ append_assoc lines (event_line end number e ∷ []) (lines_from end (number_after number e) events)

number-more : (past events : List Event) → number_after_all (next_frame_number past) events ≡ next_frame_number (reverse events ++ past)
number-more past [] = refl
number-more past (e ∷ events) =
    ap (λ (n : ℕ). number_after_all n events) (number-next (next_frame_number past) past e refl) ∙ number-more (e ∷ past) events
    ∙ ap (λ (p : List Event). next_frame_number p) (sym (onto e events past))

-- what a history has gained, in the order of time
record HasGained (past now history : List Event) : Type 0 where
  events : List Event
  is : now ≡ reverse events ++ past
  dropped : drop (length past) history ≡ events

gained : (past now history : List Event) → HasGrown past now → reverse history ≡ now → HasGained past now history
gained past now history more is = record {
  events = reverse more.events;
  is = more.is ∙ ap (λ (new : List Event). new ++ past) (sym (reverse-reverse more.events));
  dropped =
      ap (λ (es : List Event). drop (length past) es) (sym (reverse-reverse history) ∙ ap reverse (is ∙ more.is) ∙ reverse-append more.events past)
      ∙ drop_at (reverse past) (reverse more.events) (length past) (length-reverse past);
}

-- what is told are the lines of the events that the end has gained
pub end-lines : (end : EndId) (past now history : List Event) (told : Told) → told ≡ told_of past → HasGrown past now → reverse history ≡ now
    → history_lines end now ≡ history_lines end past ++ lines_from end told.next (drop told.events history)
end-lines end past now history told told_is more is =
    let g = gained past now history more is in
    ap (history_lines end) g.is ∙ lines-more end (next_frame_number past) (history_lines end past) past refl refl g.events
    ∙ ap (λ (es : List Event). history_lines end past ++ lines_from end (next_frame_number past) es) (sym g.dropped)
    ∙ ap (λ (t : Told). history_lines end past ++ lines_from end t.next (drop t.events history)) (sym told_is)

-- once they are told, all is
pub end-told : (past now history : List Event) (told : Told) → told ≡ told_of past → HasGrown past now → reverse history ≡ now → told_after told history ≡ told_of now
end-told past now history told is more h =
    let g = gained past now history more h in
    let long : length history ≡ length now = sym (length-reverse history) ∙ ap length h in
    let next : number_after_all (next_frame_number past) (drop (length past) history) ≡ next_frame_number now =
    ap (λ (es : List Event). number_after_all (next_frame_number past) es) g.dropped ∙ number-more past g.events ∙ ap (λ (p : List Event). next_frame_number p) (sym g.is) in
    rw is (rw (long, next) refl)
