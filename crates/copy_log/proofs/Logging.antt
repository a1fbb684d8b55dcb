-- A log goes on by what is told.
use Rattle.std.proofs.Common.{◌≡◌, ℕ, zero, suc, ◌+◌, ◌<◌, ◌==◌, Bool, true, false, cond, List, [], ◌∷◌, ◌++◌, codes, refl, sym, ap, ◌∙◌, subst, arith, append_assoc}
use Rattle.std.specs.Prelude.{slice_get}
use Rattle.std.proofs.lemmas.List.{append-nil}
use Rattle.std.proofs.lemmas.Bool.Decides.{nat_tests}
use Rattle.event_log.specs.declared.side.Side.{Side}
use Rattle.event_log.specs.declared.side.Side.TheVariants.{C, S, Cw, Sw}
use Rattle.event_log.specs.Lines.{lines_text}
use Rattle.copy_log.specs.CopyLogs.{side_lines, LogEntry, entries_text, is_side, lines_at}
use Rattle.smbd_base.specs.declared.end_id.EndId.TheVariants.{Client, Server}
use Rattle.smbd_base.specs.declared.event.Event.TheVariants.{Post}
use Rattle.run_log.specs.RunLines.{event_line}
use Rattle.copy_log.specs.Laws.{News, lines_or_none, news_of, workers_text, news_text, opened_deeds, opening_news, LogsGoOn, LogsOpen}

-- ---- lines as entries

abbrev entries_at : Side → List (List ℕ) → List LogEntry
entries_at side [] = []
entries_at side (line ∷ lines) = (record { side = side; line = line }) ∷ entries_at side lines

text-joined : (xs ys : List LogEntry) → entries_text (xs ++ ys) ≡ entries_text xs ++ entries_text ys
text-joined [] ys = refl
text-joined (e ∷ xs) ys = ap (λ (t : List ℕ). (e.line ++ codes "\n") ++ t) (text-joined xs ys) ∙ sym (append_assoc (e.line ++ codes "\n") (entries_text xs) (entries_text ys))

at-joined : (side : Side) (xs ys : List LogEntry) → lines_at side (xs ++ ys) ≡ lines_at side xs ++ lines_at side ys
at-joined side [] ys = refl
at-joined side (e ∷ xs) ys = by_test (is_side side e.side) (at-joined side xs ys) where
  by_test : (t : Bool) → lines_at side (xs ++ ys) ≡ lines_at side xs ++ lines_at side ys
      → cond t (e.line ∷ lines_at side (xs ++ ys)) (lines_at side (xs ++ ys)) ≡ cond t (e.line ∷ lines_at side xs) (lines_at side xs) ++ lines_at side ys
  by_test true ih = ap (λ (ls : List (List ℕ)). e.line ∷ ls) ih
  by_test false ih = ih

text-at : (side : Side) (lines : List (List ℕ)) → entries_text (entries_at side lines) ≡ lines_text lines
text-at side [] = refl
text-at side (line ∷ lines) = ap (λ (t : List ℕ). (line ++ codes "\n") ++ t) (text-at side lines)

own-at : (side other : Side) (lines : List (List ℕ)) → is_side side other ≡ true → lines_at side (entries_at other lines) ≡ lines
own-at side other [] h = refl
own-at side other (line ∷ lines) h =
    ap (λ (t : Bool). cond t (line ∷ lines_at side (entries_at other lines)) (lines_at side (entries_at other lines))) h
    ∙ ap (λ (ls : List (List ℕ)). line ∷ ls) (own-at side other lines h)

not-at : (side other : Side) (lines : List (List ℕ)) → is_side side other ≡ false → lines_at side (entries_at other lines) ≡ []
not-at side other [] h = refl
not-at side other (line ∷ lines) h =
    ap (λ (t : Bool). cond t (line ∷ lines_at side (entries_at other lines)) (lines_at side (entries_at other lines))) h ∙ not-at side other lines h

-- ---- the workers of an end

abbrev workers_at : (ℕ → Side) → ℕ → List (List (List ℕ)) → List LogEntry
workers_at name number [] = []
workers_at name number (lines ∷ workers) = entries_at (name number) lines ++ workers_at name (number + 1) workers

workers-text : (name : ℕ → Side) (number : ℕ) (workers : List (List (List ℕ))) → entries_text (workers_at name number workers) ≡ workers_text workers
workers-text name number [] = refl
workers-text name number (lines ∷ workers) =
    text-joined (entries_at (name number) lines) (workers_at name (number + 1) workers)
    ∙ ap (λ (t : List ℕ). t ++ entries_text (workers_at name (number + 1) workers)) (text-at (name number) lines)
    ∙ ap (λ (t : List ℕ). lines_text lines ++ t) (workers-text name (number + 1) workers)

-- a side that is none of them has no line there
workers-none : (side : Side) (name : ℕ → Side) (number : ℕ) (workers : List (List (List ℕ))) → ((n : ℕ) → number < n + 1 → is_side side (name n) ≡ false)
    → lines_at side (workers_at name number workers) ≡ []
workers-none side name number [] h = refl
workers-none side name number (lines ∷ workers) h =
    at-joined side (entries_at (name number) lines) (workers_at name (number + 1) workers)
    ∙ ap (λ (ls : List (List ℕ)). ls ++ lines_at side (workers_at name (number + 1) workers)) (not-at side (name number) lines (h number (omega arith)))
    ∙ workers-none side name (number + 1) workers (λ n later. h n (omega (arith, later)))

-- names that differ as their numbers do
abbrev Names : (ℕ → Side) → Type 0
Names name = (a b : ℕ) → is_side (name a) (name b) ≡ (a == b)

workers-own : (name : ℕ → Side) (number place : ℕ) (workers : List (List (List ℕ))) → Names name
    → lines_at (name (number + place)) (workers_at name number workers) ≡ lines_or_none (slice_get workers place)
workers-own name number place [] h = refl
workers-own name number zero (lines ∷ workers) h =
    at-joined (name (number + 0)) (entries_at (name number) lines) (workers_at name (number + 1) workers)
    ∙ ap (λ (ls : List (List ℕ)). ls ++ lines_at (name (number + 0)) (workers_at name (number + 1) workers)) (own-at (name (number + 0)) (name number) lines (h (number + 0) number ∙ equal (number + 0) number (omega arith)))
    ∙ ap (λ (ls : List (List ℕ)). lines ++ ls) (workers-none (name (number + 0)) name (number + 1) workers (λ n later. h (number + 0) n ∙ unequal (number + 0) n (omega (arith, later))))
    ∙ append-nil lines
  where
    equal : (a b : ℕ) → a ≡ b → (a == b) ≡ true
    equal a b e = grind (arith, nat_tests)

    unequal : (a b : ℕ) → a < b → (a == b) ≡ false
    unequal a b e = grind (arith, nat_tests)
workers-own name number (suc place) (lines ∷ workers) h =
    at-joined (name (number + suc place)) (entries_at (name number) lines) (workers_at name (number + 1) workers)
    ∙ ap (λ (ls : List (List ℕ)). ls ++ lines_at (name (number + suc place)) (workers_at name (number + 1) workers))
    (not-at (name (number + suc place)) (name number) lines (h (number + suc place) number ∙ unequal (number + suc place) number (omega arith)))
    ∙ subst (λ (n : ℕ). lines_at (name n) (workers_at name (number + 1) workers) ≡ lines_or_none (slice_get workers place)) (let z : number + 1 + place ≡ number + suc place = omega arith in z)
    (workers-own name (number + 1) place workers h)
  where
    unequal : (a b : ℕ) → b < a → (a == b) ≡ false
    unequal a b e = grind (arith, nat_tests)

client-names : Names (λ (n : ℕ). Cw n)
client-names a b = refl

server-names : Names (λ (n : ℕ). Sw n)
server-names a b = refl

-- ---- what is told

abbrev news_entries : News → List LogEntry
news_entries n = entries_at C n.client ++ (entries_at S n.server ++ (workers_at (λ (k : ℕ). Cw k) 1 n.clients ++ workers_at (λ (k : ℕ). Sw k) 1 n.servers))

news-is : (n : News) → entries_text (news_entries n) ≡ news_text n
news-is n =
    text-joined (entries_at C n.client) (entries_at S n.server ++ (workers_at (λ (k : ℕ). Cw k) 1 n.clients ++ workers_at (λ (k : ℕ). Sw k) 1 n.servers))
    ∙ ap (λ (t : List ℕ). t ++ entries_text (entries_at S n.server ++ (workers_at (λ (k : ℕ). Cw k) 1 n.clients ++ workers_at (λ (k : ℕ). Sw k) 1 n.servers))) (text-at C n.client)
    ∙ ap (λ (t : List ℕ). lines_text n.client ++ t)
    (text-joined (entries_at S n.server) (workers_at (λ (k : ℕ). Cw k) 1 n.clients ++ workers_at (λ (k : ℕ). Sw k) 1 n.servers)
    ∙ ap (λ (t : List ℕ). t ++ entries_text (workers_at (λ (k : ℕ). Cw k) 1 n.clients ++ workers_at (λ (k : ℕ). Sw k) 1 n.servers)) (text-at S n.server)
    ∙ ap (λ (t : List ℕ). lines_text n.server ++ t)
    (text-joined (workers_at (λ (k : ℕ). Cw k) 1 n.clients) (workers_at (λ (k : ℕ). Sw k) 1 n.servers)
    ∙ ap (λ (t : List ℕ). t ++ entries_text (workers_at (λ (k : ℕ). Sw k) 1 n.servers)) (workers-text (λ (k : ℕ). Cw k) 1 n.clients)
    ∙ ap (λ (t : List ℕ). workers_text n.clients ++ t) (workers-text (λ (k : ℕ). Sw k) 1 n.servers)))

-- the lines of a side are in one of the four parts
parts-at : (side : Side) (n : News) → lines_at side (news_entries n)
    ≡ lines_at side (entries_at C n.client) ++ (lines_at side (entries_at S n.server) ++ (lines_at side (workers_at (λ (k : ℕ). Cw k) 1 n.clients) ++ lines_at side (workers_at (λ (k : ℕ). Sw k) 1 n.servers)))
parts-at side n =
    at-joined side (entries_at C n.client) (entries_at S n.server ++ (workers_at (λ (k : ℕ). Cw k) 1 n.clients ++ workers_at (λ (k : ℕ). Sw k) 1 n.servers))
    ∙ ap (λ (ls : List (List ℕ)). lines_at side (entries_at C n.client) ++ ls)
    (at-joined side (entries_at S n.server) (workers_at (λ (k : ℕ). Cw k) 1 n.clients ++ workers_at (λ (k : ℕ). Sw k) 1 n.servers)
    ∙ ap (λ (ls : List (List ℕ)). lines_at side (entries_at S n.server) ++ ls) (at-joined side (workers_at (λ (k : ℕ). Cw k) 1 n.clients) (workers_at (λ (k : ℕ). Sw k) 1 n.servers)))

joined : (a b c d e f g h : List (List ℕ)) → a ≡ e → b ≡ f → c ≡ g → d ≡ h → a ++ (b ++ (c ++ d)) ≡ e ++ (f ++ (g ++ h))
joined a b c d e f g h p q r s = rw (p, q, r, s) refl

news-at : (side : Side) (n : News) → lines_at side (news_entries n) ≡ news_of n side
news-at C n =
    parts-at C n
    ∙ joined _ _ _ _ n.client [] [] [] (own-at C C n.client refl) (not-at C S n.server refl) (workers-none C (λ (k : ℕ). Cw k) 1 n.clients (λ k h. refl)) (workers-none C (λ (k : ℕ). Sw k) 1 n.servers (λ k h. refl))
    ∙ append-nil n.client
news-at S n =
    parts-at S n
    ∙ joined _ _ _ _ [] n.server [] [] (not-at S C n.client refl) (own-at S S n.server refl) (workers-none S (λ (k : ℕ). Cw k) 1 n.clients (λ k h. refl)) (workers-none S (λ (k : ℕ). Sw k) 1 n.servers (λ k h. refl))
    ∙ append-nil n.server
news-at (Cw zero) n =
    parts-at (Cw zero) n
    ∙ joined _ _ _ _ [] [] [] [] (not-at (Cw zero) C n.client refl) (not-at (Cw zero) S n.server refl) (workers-none (Cw zero) (λ (k : ℕ). Cw k) 1 n.clients (λ k h. not_zero k h)) (workers-none (Cw zero) (λ (k : ℕ). Sw k) 1 n.servers (λ k h. refl))
  where
    not_zero : (k : ℕ) → 1 < k + 1 → (0 == k) ≡ false
    not_zero k h = grind (arith, nat_tests)
news-at (Cw (suc place)) n =
    parts-at (Cw (suc place)) n
    ∙ joined _ _ _ _ [] [] (lines_or_none (slice_get n.clients place)) [] (not-at (Cw (suc place)) C n.client refl) (not-at (Cw (suc place)) S n.server refl)
    (subst (λ (k : ℕ). lines_at (Cw k) (workers_at (λ (i : ℕ). Cw i) 1 n.clients) ≡ lines_or_none (slice_get n.clients place)) (let z : 1 + place ≡ suc place = omega arith in z) (workers-own (λ (k : ℕ). Cw k) 1 place n.clients client-names))
    (workers-none (Cw (suc place)) (λ (k : ℕ). Sw k) 1 n.servers (λ k h. refl))
    ∙ append-nil (lines_or_none (slice_get n.clients place))
news-at (Sw zero) n =
    parts-at (Sw zero) n
    ∙ joined _ _ _ _ [] [] [] [] (not-at (Sw zero) C n.client refl) (not-at (Sw zero) S n.server refl) (workers-none (Sw zero) (λ (k : ℕ). Cw k) 1 n.clients (λ k h. refl)) (workers-none (Sw zero) (λ (k : ℕ). Sw k) 1 n.servers (λ k h. not_zero k h))
  where
    not_zero : (k : ℕ) → 1 < k + 1 → (0 == k) ≡ false
    not_zero k h = grind (arith, nat_tests)
news-at (Sw (suc place)) n =
    parts-at (Sw (suc place)) n
    ∙ joined _ _ _ _ [] [] [] (lines_or_none (slice_get n.servers place)) (not-at (Sw (suc place)) C n.client refl) (not-at (Sw (suc place)) S n.server refl)
    (workers-none (Sw (suc place)) (λ (k : ℕ). Cw k) 1 n.clients (λ k h. refl))
    (subst (λ (k : ℕ). lines_at (Sw k) (workers_at (λ (i : ℕ). Sw i) 1 n.servers) ≡ lines_or_none (slice_get n.servers place)) (let z : 1 + place ≡ suc place = omega arith in z) (workers-own (λ (k : ℕ). Sw k) 1 place n.servers server-names))

pub go-on : LogsGoOn
go-on d e text n log more = record {
  entries = log.entries ++ news_entries n;
  all = ap (λ (t : List ℕ). t ++ news_text n) log.all ∙ ap (λ (t : List ℕ). entries_text log.entries ++ t) (sym (news-is n)) ∙ sym (text-joined log.entries (news_entries n));
  each = λ side.
      at-joined side log.entries (news_entries n)
      ∙ ap (λ (ls : List (List ℕ)). ls ++ lines_at side (news_entries n)) (log.each side)
      ∙ ap (λ (ls : List (List ℕ)). side_lines d side ++ ls) (news-at side n) ∙ sym (more side);
  first = log.first;
  second = log.second;
  later = log.later ++ news_entries n;
  opening = ap (λ (es : List LogEntry). es ++ news_entries n) log.opening;
}

-- ---- a log begins

pub open-log : LogsOpen
open-log client server = record {
  entries = news_entries (opening_news client server);
  all = sym (news-is (opening_news client server));
  each = λ side. news-at side (opening_news client server) ∙ same side;
  first = event_line Client 1 (Post client);
  second = event_line Server 1 (Post server);
  later = [];
  opening = refl;
} where
  same : (side : Side) → news_of (opening_news client server) side ≡ side_lines (opened_deeds client server) side
  same C = refl
  same S = refl
  same (Cw zero) = refl
  same (Cw (suc zero)) = refl
  same (Cw (suc (suc place))) = refl
  same (Sw zero) = refl
  same (Sw (suc zero)) = refl
  same (Sw (suc (suc place))) = refl
