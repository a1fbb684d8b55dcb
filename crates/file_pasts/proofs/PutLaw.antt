-- A put asks for the WRITEs of its bytes, in order, and END after them.
use Rattle.std.proofs.Common.{◌≡◌, ◌⊎◌, inl, inr, ℕ, zero, suc, ◌+◌, ◌-◌, ◌/◌, ◌<◌, ◌≤◌, ◌==◌, not, ◌&&◌, Bool, true, false, cond, Option, Some, None, List, [], ◌∷◌, ◌++◌, length, take, drop, refl, sym, ap, ◌∙◌, subst, add-one, length-append, arith}
use Rattle.std.specs.Prelude.{slice_get}
use Rattle.std.specs.List.{flat_map}
use mathlib.Core.List.{IsPrefix}
use Rattle.std.proofs.lemmas.Bool.Decides.{nat_tests}
use Rattle.std.proofs.lemmas.List.{take-append-le, take-append-drop, append-nil}
use Rattle.std.proofs.Math.Seq.{take-append_seam, drop-append_seam}
use Rattle.file_messages.specs.declared.message.Request.{Request}
use Rattle.file_messages.specs.declared.kind.Channel.{Channel}
use Rattle.file_messages.specs.declared.kind.Channel.TheVariants as channels
use Rattle.file_messages.specs.Runs.{parts_from, groups_of, put_requests, writes_from, write_of, end_if, end_request, windows}
use Rattle.file_pasts.specs.ClientPast.{ClientEvent, Group, End, Sent, Replied, Gave, Completed, Received, groups_in, is_ended, requests_sent, total, has_failed, are_answered}
use Rattle.file_pasts.specs.PutDue.{Setup, IsPut, wants_group, next_request, request_after, write_due, are_whole, has_room, bytes_before}
use Rattle.file_pasts.specs.PutLaws.{bytes_in, put_over, NamesOwn, PutsAsk, RegisteredPutsAsk}

-- ---- what a request that was sent is

unfoldable pub SentCase : Setup → List ClientEvent → Request → Type 0
SentCase s past r =
    ((group : List ℕ) × (slice_get (groups_in past) (length (requests_sent past)) ≡ Some group) × (write_due s (length (requests_sent past) + 1) group past ≡ Some r))
    ⊎ ((is_ended past ≡ true) × (length (requests_sent past) ≡ length (groups_in past)) × (r ≡ end_request (length (requests_sent past) + 1) (total (groups_in past))))

pub sent_case : (s : Setup) (past : List ClientEvent) (r : Request) → next_request s past ≡ Some r → SentCase s past r
unfolding SentCase
sent_case s past r e = by_parts (has_failed past) (slice_get (groups_in past) (length (requests_sent past))) refl e where
  by_tests : (a b c : Bool) → is_ended past ≡ a → (length (requests_sent past) == length (groups_in past)) ≡ b
      → cond ((a && b) && c) (Some (end_request (length (requests_sent past) + 1) (total (groups_in past)))) None ≡ Some r
      → (is_ended past ≡ true) × (length (requests_sent past) ≡ length (groups_in past)) × (r ≡ end_request (length (requests_sent past) + 1) (total (groups_in past)))
  by_tests true true true p q h = (p, grind (arith, nat_tests), cc)
  by_tests true true false p q h = absurd (let x : ⊥ = cc in x)
  by_tests true false c p q h = absurd (let x : ⊥ = cc in x)
  by_tests false b c p q h = absurd (let x : ⊥ = cc in x)

  by_parts : (f : Bool) (g : Option (List ℕ)) → slice_get (groups_in past) (length (requests_sent past)) ≡ g
      → cond f None (request_after s (length (requests_sent past)) g past) ≡ Some r
      → ((group : List ℕ) × (slice_get (groups_in past) (length (requests_sent past)) ≡ Some group) × (write_due s (length (requests_sent past) + 1) group past ≡ Some r))
      ⊎ ((is_ended past ≡ true) × (length (requests_sent past) ≡ length (groups_in past)) × (r ≡ end_request (length (requests_sent past) + 1) (total (groups_in past))))
  by_parts true g p h = absurd (let x : ⊥ = cc in x)
  by_parts false (Some group) p h = inl (group, p, h)
  by_parts false None p h = inr (by_tests (is_ended past) (length (requests_sent past) == length (groups_in past)) (are_answered past) refl refl h)

-- ---- groups

-- each group but the last has 65,536 bytes, and the last one some, and no more
IsGrouping : List (List ℕ) → Type 0
IsGrouping [] = Unit {0}
IsGrouping (g ∷ []) = (1 ≤ length g) × (length g ≤ 65536)
IsGrouping (g ∷ (h ∷ gs)) = (length g ≡ 65536) × IsGrouping (h ∷ gs)

grouping-append : (gs : List (List ℕ)) (b : List ℕ) → are_whole gs ≡ true → 1 ≤ length b → length b ≤ 65536 → IsGrouping (gs ++ b ∷ [])
unfolding IsGrouping
grouping-append [] b w some few = (some, few)
grouping-append (g ∷ []) b w some few = (whole_first (length g == 65536) true refl w, (some, few)) where
  whole_first : (t u : Bool) → (length g == 65536) ≡ t → (t && u) ≡ true → length g ≡ 65536
  whole_first true u p h = grind (arith, nat_tests)
  whole_first false u p h = absurd (let x : ⊥ = cc in x)
grouping-append (g ∷ (h ∷ gs)) b w some few = (whole_first (length g == 65536) (are_whole (h ∷ gs)) refl w, grouping-append (h ∷ gs) b (whole_rest (length g == 65536) (are_whole (h ∷ gs)) w) some few) where
  whole_first : (t u : Bool) → (length g == 65536) ≡ t → (t && u) ≡ true → length g ≡ 65536
  whole_first true u p k = grind (arith, nat_tests)
  whole_first false u p k = absurd (let x : ⊥ = cc in x)

  whole_rest : (t u : Bool) → (t && u) ≡ true → u ≡ true
  whole_rest true u k = k
  whole_rest false u k = absurd (let x : ⊥ = cc in x)

joined : List (List ℕ) → List ℕ
joined gs = flat_map (λ (g : List ℕ). g) gs

length-joined : (gs : List (List ℕ)) → length (joined gs) ≡ total gs
unfolding joined
length-joined [] = refl
length-joined (g ∷ gs) = omega (arith, length-append g (flat_map (λ (x : List ℕ). x) gs), length-joined gs)

-- the parts of the bytes of such groups are the groups
parts-joined : (count : ℕ) (gs : List (List ℕ)) → IsGrouping gs → count ≡ (length (joined gs) + 65535) / 65536 → parts_from count 65536 (joined gs) ≡ gs
unfolding IsGrouping joined
parts-joined zero [] w e = refl
parts-joined (suc count) [] w e = absurd (omega arith)
parts-joined zero (g ∷ []) w e = absurd (omega (arith, w.0, length-append g []))
parts-joined (suc count) (g ∷ []) w e =
    let one : count ≡ 0 = omega (arith, w.0, w.1, length-append g []) in
    let none : g ++ [] ≡ g = append-nil g in
    let all : take 65536 g ≡ g = take_bytes 65536 g w.1 in
    rw (one, none, all) refl
  where
    take_bytes : (n : ℕ) (bs : List ℕ) → length bs ≤ n → take n bs ≡ bs
    take_bytes zero [] h = refl
    take_bytes (suc n) [] h = refl
    take_bytes zero (b ∷ bs) h = absurd (omega arith)
    take_bytes (suc n) (b ∷ bs) h = ap (λ (t : List ℕ). b ∷ t) (take_bytes n bs (omega arith))
parts-joined zero (g ∷ (h ∷ gs)) w e = absurd (omega (arith, w.0, length-append g (joined (h ∷ gs))))
parts-joined (suc count) (g ∷ (h ∷ gs)) w e =
    let less : count ≡ (length (joined (h ∷ gs)) + 65535) / 65536 = omega (arith, w.0, length-append g (joined (h ∷ gs))) in
    let front : take 65536 (g ++ joined (h ∷ gs)) ≡ g = subst (λ (n : ℕ). take n (g ++ joined (h ∷ gs)) ≡ g) w.0 (take-append_seam g (joined (h ∷ gs))) in
    let back : drop 65536 (g ++ joined (h ∷ gs)) ≡ joined (h ∷ gs) = subst (λ (n : ℕ). drop n (g ++ joined (h ∷ gs)) ≡ joined (h ∷ gs)) w.0 (drop-append_seam g (joined (h ∷ gs))) in
    rw (front, back, parts-joined count (h ∷ gs) w.1 less) refl

-- ---- the WRITEs of groups

module _ (c : Channel) (w : ℕ) where
  length-writes : (k o : ℕ) (gs : List (List ℕ)) → length (writes_from c w k o gs) ≡ length gs
  length-writes k o [] = refl
  length-writes k o (g ∷ gs) = omega (arith, length-writes (k + 1) (o + length g) gs)

  take-writes-append : (n k o : ℕ) (gs : List (List ℕ)) (b : List ℕ) → n ≤ length gs → take n (writes_from c w k o (gs ++ b ∷ [])) ≡ take n (writes_from c w k o gs)
  take-writes-append zero k o gs b h = refl
  take-writes-append (suc n) k o [] b h = absurd (omega arith)
  take-writes-append (suc n) k o (g ∷ gs) b h =
      ap (λ (rs : List Request). write_of c w k o g ∷ rs) (take-writes-append n (k + 1) (o + length g) gs b (omega arith))

  take-writes-next : (n k o : ℕ) (gs : List (List ℕ)) (g : List ℕ) → slice_get gs n ≡ Some g
      → take (suc n) (writes_from c w k o gs) ≡ take n (writes_from c w k o gs) ++ write_of c w (k + n) (o + total (take n gs)) g ∷ []
  take-writes-next n k o [] g e = absurd (let x : ⊥ = cc in x)
  take-writes-next zero k o (h ∷ gs) g e =
      let same : h ≡ g = cc in
      let k_is : k + 0 ≡ k = omega arith in
      let o_is : o + 0 ≡ o = omega arith in
      rw (k_is, o_is, same) refl
  take-writes-next (suc n) k o (h ∷ gs) g e =
      let k_is : k + 1 + n ≡ k + suc n = omega arith in
      let o_is : o + length h + total (take n gs) ≡ o + (length h + total (take n gs)) = omega arith in
      ap (λ (rs : List Request). write_of c w k o h ∷ rs)
      (take-writes-next n (k + 1) (o + length h) gs g e
      ∙ ap (λ (m : ℕ). take n (writes_from c w (k + 1) (o + length h) gs) ++ write_of c w m (o + length h + total (take n gs)) g ∷ []) k_is
      ∙ ap (λ (m : ℕ). take n (writes_from c w (k + 1) (o + length h) gs) ++ write_of c w (k + suc n) m g ∷ []) o_is)

-- ---- by induction on the past

all_of : Setup → Bool → List (List ℕ) → List Request
all_of s ended gs = writes_from s.channel s.windows 1 0 gs ++ end_if ended (end_request (length gs + 1) (total gs))

record Asks (s : Setup) (past : List ClientEvent) : Type 0 where
  front : requests_sent past ≡ take (length (requests_sent past)) (all_of s (is_ended past) (groups_in past))
  grouping : IsGrouping (groups_in past)
  at_most : length (requests_sent past) ≤ length (groups_in past) + 1
  unended : is_ended past ≡ false → length (requests_sent past) ≤ length (groups_in past)

take-all-le : (s : Setup) (ended : Bool) (n : ℕ) (gs : List (List ℕ)) → n ≤ length gs → take n (all_of s ended gs) ≡ take n (writes_from s.channel s.windows 1 0 gs)
unfolding all_of
take-all-le s ended n gs h =
    let within : n ≤ length (writes_from s.channel s.windows 1 0 gs) = omega (arith, length-writes s.channel s.windows 1 0 gs) in
    take-append-le n (writes_from s.channel s.windows 1 0 gs) (end_if ended (end_request (length gs + 1) (total gs))) within

pub wants_parts : (s : Setup) (past : List ClientEvent) → wants_group s past ≡ true → (is_ended past ≡ false) × (are_whole (groups_in past) ≡ true)
wants_parts s past w = by_test (is_ended past) (are_whole (groups_in past)) (has_room s past) w where
  by_test : (e g r : Bool) → ((not e && g) && r) ≡ true → (e ≡ false) × (g ≡ true)
  by_test true g r h = absurd (let b : ⊥ = cc in b)
  by_test false true r h = (refl, refl)
  by_test false false r h = absurd (let b : ⊥ = cc in b)

asks-sent : (s : Setup) (past : List ClientEvent) (r : Request) → Asks s past
    → ((group : List ℕ) → slice_get (groups_in past) (length (requests_sent past)) ≡ Some group
    → r ≡ write_of s.channel s.windows (length (requests_sent past) + 1) (bytes_before (length (requests_sent past) + 1) past) group)
    → SentCase s past r → Asks s (Sent r ∷ past)
unfolding SentCase all_of
asks-sent s past r a own (inl x) =
    let group : List ℕ = x.0 in
    let n : ℕ = length (requests_sent past) in
    let gs : List (List ℕ) = groups_in past in
    let at : slice_get gs n ≡ Some group = x.1 in
    let within : n < length gs = slice_within gs n group at in
    let more : length (requests_sent past ++ r ∷ []) ≡ suc n = length-append (requests_sent past) (r ∷ []) ∙ add-one n in
    let r_is : r ≡ write_of s.channel s.windows (1 + n) (0 + total (take n gs)) group =
    own group at ∙ ap (λ (k : ℕ). write_of s.channel s.windows k (total (take (k - 1) gs)) group) (let e : n + 1 ≡ 1 + n = omega arith in e)
    ∙ ap (λ (k : ℕ). write_of s.channel s.windows (1 + n) (total (take k gs)) group) (let e : 1 + n - 1 ≡ n = omega arith in e)
    ∙ ap (λ (k : ℕ). write_of s.channel s.windows (1 + n) k group) (let e : total (take n gs) ≡ 0 + total (take n gs) = omega arith in e) in
    record {
      front = ap (λ (rs : List Request). rs ++ r ∷ []) (a.front ∙ take-all-le s (is_ended past) n gs (omega arith))
          ∙ ap (λ (q : Request). take n (writes_from s.channel s.windows 1 0 gs) ++ q ∷ []) r_is
          ∙ sym (take-writes-next s.channel s.windows n 1 0 gs group at)
          ∙ sym (take-all-le s (is_ended past) (suc n) gs (omega arith))
          ∙ ap (λ (k : ℕ). take k (all_of s (is_ended past) gs)) (sym more);
      grouping = a.grouping;
      at_most = omega (arith, more);
      unended = λ h. omega (arith, more);
    } where
      slice_within : (xs : List (List ℕ)) (i : ℕ) (y : List ℕ) → slice_get xs i ≡ Some y → i < length xs
      slice_within [] i y e = absurd (let b : ⊥ = cc in b)
      slice_within (z ∷ zs) zero y e = omega arith
      slice_within (z ∷ zs) (suc i) y e = omega (arith, slice_within zs i y e)
asks-sent s past r a own (inr x) =
    let n : ℕ = length (requests_sent past) in
    let gs : List (List ℕ) = groups_in past in
    let more : length (requests_sent past ++ r ∷ []) ≡ suc n = length-append (requests_sent past) (r ∷ []) ∙ add-one n in
    let same : n ≡ length gs = x.1 in
    let ws : List Request = writes_from s.channel s.windows 1 0 gs in
    let size : length ws ≡ length gs = length-writes s.channel s.windows 1 0 gs in
    let last : end_if (is_ended past) (end_request (length gs + 1) (total gs)) ≡ r ∷ [] =
    ap (λ (t : Bool). end_if t (end_request (length gs + 1) (total gs))) x.0
    ∙ ap (λ (k : ℕ). end_request (k + 1) (total gs) ∷ []) (sym same) ∙ ap (λ (q : Request). q ∷ []) (sym x.2) in
    let all : all_of s (is_ended past) gs ≡ ws ++ r ∷ [] = ap (λ (t : List Request). ws ++ t) last in
    let long : length (ws ++ r ∷ []) ≡ suc n = length-append ws (r ∷ []) ∙ (let e : length ws + 1 ≡ suc n = omega arith in e) in
    record {
      front = ap (λ (rs : List Request). rs ++ r ∷ []) (a.front ∙ take-all-le s (is_ended past) n gs (omega arith) ∙ take_all_requests n ws (omega arith))
          ∙ sym (take_all_requests (suc n) (ws ++ r ∷ []) (omega (arith, long)))
          ∙ ap (λ (t : List Request). take (suc n) t) (sym all)
          ∙ ap (λ (k : ℕ). take k (all_of s (is_ended past) gs)) (sym more);
      grouping = a.grouping;
      at_most = omega (arith, more);
      unended = λ h. absurd (both_ways (is_ended past) x.0 h);
    } where
      both_ways : (t : Bool) → t ≡ true → t ≡ false → ⊥
      both_ways t p q = cc

      take_all_requests : (m : ℕ) (rs : List Request) → length rs ≤ m → take m rs ≡ rs
      take_all_requests zero [] h = refl
      take_all_requests (suc m) [] h = refl
      take_all_requests zero (q ∷ qs) h = absurd (omega arith)
      take_all_requests (suc m) (q ∷ qs) h = ap (λ (t : List Request). q ∷ t) (take_all_requests m qs (omega arith))

asks-end : (s : Setup) (past : List ClientEvent) (t : Bool) → Asks s past → is_ended past ≡ t → Asks s (End ∷ past)
asks-end s past true a e = record {
  front = a.front ∙ ap (λ (t : Bool). take (length (requests_sent past)) (all_of s t (groups_in past))) e;
  grouping = a.grouping;
  at_most = a.at_most;
  unended = λ h. absurd (let b : ⊥ = cc in b);
}
asks-end s past false a e = record {
  front = a.front ∙ take-all-le s (is_ended past) (length (requests_sent past)) (groups_in past) (a.unended e)
      ∙ sym (take-all-le s true (length (requests_sent past)) (groups_in past) (a.unended e));
  grouping = a.grouping;
  at_most = a.at_most;
  unended = λ h. absurd (let b : ⊥ = cc in b);
}

asks : (s : Setup) (past : List ClientEvent) → IsPut s past → NamesOwn s past → Asks s past
unfolding IsGrouping
asks s [] p o = record { front = refl; grouping = tt; at_most = omega arith; unended = λ h. omega arith }
asks s (Group bytes ∷ past) p o =
    let a = asks s past p.1 o in
    let want = wants_parts s past p.0.0 in
    let within : length (requests_sent past) ≤ length (groups_in past) = a.unended want.0 in
    record {
      front = a.front ∙ take-all-le s (is_ended past) (length (requests_sent past)) (groups_in past) within
          ∙ sym (take-writes-append s.channel s.windows (length (requests_sent past)) 1 0 (groups_in past) bytes within)
          ∙ sym (take-all-le s (is_ended past) (length (requests_sent past)) (groups_in past ++ bytes ∷ []) (omega (arith, length-append (groups_in past) (bytes ∷ []))));
      grouping = grouping-append (groups_in past) bytes want.1 p.0.1 p.0.2;
      at_most = omega (arith, length-append (groups_in past) (bytes ∷ []));
      unended = λ h. omega (arith, length-append (groups_in past) (bytes ∷ []));
    }
asks s (End ∷ past) p o = asks-end s past (is_ended past) (asks s past p.1 o) refl
asks s (Sent r ∷ past) p o = asks-sent s past r (asks s past p.1 o.1) o.0 (sent_case s past r p.0)
asks s (Replied m ∷ past) p o = let a = asks s past p.1 o in record { front = a.front; grouping = a.grouping; at_most = a.at_most; unended = a.unended }
asks s (Gave work ∷ past) p o = let a = asks s past p.1 o in record { front = a.front; grouping = a.grouping; at_most = a.at_most; unended = a.unended }
asks s (Completed c ∷ past) p o = let a = asks s past p.1 o in record { front = a.front; grouping = a.grouping; at_most = a.at_most; unended = a.unended }
asks s (Received bytes ∷ past) p o = absurd p.0

-- ---- over the bytes

all-is : (channel : Channel) (pages : ℕ) (ended : Bool) (gs : List (List ℕ)) → IsGrouping gs
    → all_of (put_over channel pages) ended gs ≡ put_requests channel pages ended (joined gs)
unfolding all_of
all-is channel pages ended gs w =
    let same : groups_of (joined gs) ≡ gs = parts-joined ((length (joined gs) + 65535) / 65536) gs w refl in
    let size : length (joined gs) ≡ total gs = length-joined gs in
    rw (same, size) refl

grouped : (s : Setup) (past : List ClientEvent) → IsPut s past → IsGrouping (groups_in past)
unfolding IsGrouping
grouped s [] p = tt
grouped s (Group bytes ∷ past) p = grouping-append (groups_in past) bytes (wants_parts s past p.0.0).1 p.0.1 p.0.2
grouped s (End ∷ past) p = grouped s past p.1
grouped s (Sent r ∷ past) p = grouped s past p.1
grouped s (Replied m ∷ past) p = grouped s past p.1
grouped s (Gave work ∷ past) p = grouped s past p.1
grouped s (Completed c ∷ past) p = grouped s past p.1
grouped s (Received bytes ∷ past) p = absurd p.0

-- the groups that were handed in are those of their bytes
pub groups_joined : (s : Setup) (past : List ClientEvent) → IsPut s past → groups_of (bytes_in past) ≡ groups_in past
unfolding joined
groups_joined s past p = parts-joined ((length (bytes_in past) + 65535) / 65536) (groups_in past) (grouped s past p) refl

pub asks_front : (channel : Channel) (pages : ℕ) (past : List ClientEvent) → IsPut (put_over channel pages) past → NamesOwn (put_over channel pages) past
    → IsPrefix (requests_sent past) (put_requests channel pages (is_ended past) (bytes_in past))
unfolding joined
asks_front channel pages past p o =
    let a = asks (put_over channel pages) past p o in
    let n : ℕ = length (requests_sent past) in
    let whole : all_of (put_over channel pages) (is_ended past) (groups_in past) ≡ put_requests channel pages (is_ended past) (bytes_in past) =
    all-is channel pages (is_ended past) (groups_in past) a.grouping in (
      drop n (put_requests channel pages (is_ended past) (bytes_in past)),
      ap (λ (rs : List Request). rs ++ drop n (put_requests channel pages (is_ended past) (bytes_in past)))
          (a.front ∙ ap (λ (rs : List Request). take n rs) whole)
          ∙ take-append-drop n (put_requests channel pages (is_ended past) (bytes_in past)),
    )

-- without registered pages a WRITE names none
names_own : (pages : ℕ) (past : List ClientEvent) → IsPut (put_over channels.None pages) past → NamesOwn (put_over channels.None pages) past
unfolding SentCase
names_own pages [] p = tt
names_own pages (Group bytes ∷ past) p = names_own pages past p.1
names_own pages (End ∷ past) p = names_own pages past p.1
names_own pages (Sent r ∷ past) p = (λ group at. own (sent_case (put_over channels.None pages) past r p.0) group at, names_own pages past p.1) where
  beyond : (xs : List (List ℕ)) (i : ℕ) (y : List ℕ) → length xs ≤ i → slice_get xs i ≡ Some y → ⊥
  beyond [] i y h e = cc
  beyond (z ∷ zs) zero y h e = absurd (omega arith)
  beyond (z ∷ zs) (suc i) y h e = beyond zs i y (omega arith) e

  own : SentCase (put_over channels.None pages) past r → (group : List ℕ) → slice_get (groups_in past) (length (requests_sent past)) ≡ Some group
      → r ≡ write_of channels.None (windows pages) (length (requests_sent past) + 1) (bytes_before (length (requests_sent past) + 1) past) group
  own (inl x) group at =
      let same : x.0 ≡ group = cc in
      let due : r ≡ write_of channels.None (windows pages) (length (requests_sent past) + 1) (bytes_before (length (requests_sent past) + 1) past) x.0 = cc in
      due ∙ ap (λ (g : List ℕ). write_of channels.None (windows pages) (length (requests_sent past) + 1) (bytes_before (length (requests_sent past) + 1) past) g) same
  own (inr x) group at = absurd (beyond (groups_in past) (length (requests_sent past)) group (omega (arith, x.1)) at)
names_own pages (Replied m ∷ past) p = names_own pages past p.1
names_own pages (Gave work ∷ past) p = names_own pages past p.1
names_own pages (Completed c ∷ past) p = names_own pages past p.1
names_own pages (Received bytes ∷ past) p = absurd p.0

pub puts_ask : PutsAsk
puts_ask pages past p = asks_front channels.None pages past p (names_own pages past p)

pub registered_puts_ask : RegisteredPutsAsk
registered_puts_ask pages past p o = asks_front channels.V1 pages past p o
