-- Bounds of a put over registered pages: how many groups and jobs there are, and how many of them are under way.
use Rattle.std.proofs.Common.{◌≡◌, inl, inr, ℕ, zero, suc, ◌+◌, ◌-◌, ◌*◌, ◌/◌, ◌%◌, ◌<◌, ◌≤◌, ◌==◌, nat_lt, nat_le, not, ◌&&◌, Bool, true, false, cond, Option, Some, None, List, [], ◌∷◌, ◌++◌, length, take, drop, refl, sym, ap, ◌∙◌, subst, length-append, arith}
use Rattle.std.specs.Prelude.{slice_get, option_to_list, option_map}
use Rattle.std.proofs.Math.Nat.{div-add-mod, mod-lt, mul-le-mul_left}
use Rattle.std.proofs.lemmas.Bool.Decides.{nat_tests}
use Rattle.std.proofs.lemmas.List.{length-take-le, append-nil}
use Rattle.smbd_base.specs.declared.right.Right.TheVariants as right
use Rattle.buffer_descriptor.specs.declared.descriptor.Descriptor.{Descriptor}
use Rattle.file_messages.specs.declared.fault.ReplyFault.{ReplyFault}
use Rattle.file_messages.specs.declared.message.Request.{Request}
use Rattle.file_messages.specs.declared.job.Work.{Work}
use Rattle.file_messages.specs.declared.job.Work.TheVariants.{Load, Fetch, Place, Unload}
use Rattle.file_messages.specs.declared.job.WorkResult.TheVariants.{Loaded}
use Rattle.file_messages.specs.Runs.{page_of, turn_of, pages_of, registered_write}
use Rattle.file_pasts.specs.ClientPast.{ClientEvent, Group, End, Sent, Replied, Gave, Completed, Received, groups_in, is_ended, requests_sent, jobs_given, open_jobs, unloads_on, descriptors_on, page_freed, page_unloaded, token_of_descriptor, reply_fault, answers, AnswersJob, IsOfKind}
use Rattle.file_pasts.specs.PutDue.{Setup, IsPut, wants_group, are_whole, jobs_due, parts_on, part_on, named_on, is_free, load_of_part, load_after, loads_on_free_pages, unloads_of, unloads_of_first, are_unloaded, groups_on_pages, descriptors_for, in_front, bytes_before}
use Rattle.file_pasts.specs.InStep.{over, is_load_on, is_unload_on, one_if, count, count_open}
use Rattle.file_pasts.proofs.InStep.{in_step, given-due, length-parts, count-append, count_open-append, count_open-without}
use Rattle.file_pasts.proofs.PutLaw.{SentCase, sent_case, wants_parts}
use Rattle.file_pasts.proofs.GroupLemmas.{short_at}
use Rattle.file_pasts.proofs.Naming.{bit, uses, used, used-step, uses-used, uses-turn, pl, parts-is, length-pl, in_turn, all_short, wholes_of, wholes_take, first_page, few_pages, named-is}

-- ---- how often a window is used

part-bit : (w q j : ℕ) (g : List ℕ) → length (part_on w q j g) ≤ bit (q / 16 == j % w)
unfolding bit
part-bit w q j g = by_test (q / 16 == j % w) (slice_get (pages_of g) (q % 16)) where
  by_test : (t : Bool) (o : Option (List ℕ)) → length (cond t (option_to_list o) []) ≤ bit t
  by_test true (Some part) = omega arith
  by_test true None = omega arith
  by_test false o = omega arith

length-pl-le : (w q j : ℕ) (gs : List (List ℕ)) → length (pl w q j gs) ≤ uses w (q / 16) j (length gs)
unfolding pl uses
length-pl-le w q j [] = omega arith
length-pl-le w q j (g ∷ gs) = omega (arith, length-append (part_on w q j g) (pl w q (j + 1) gs), part-bit w q j g, length-pl-le w q (j + 1) gs)

uses-more : (w v j m n : ℕ) → m ≤ n → uses w v j m ≤ uses w v j n
unfolding uses
uses-more w v j zero n h = omega arith
uses-more w v j (suc m) zero h = absurd (omega arith)
uses-more w v j (suc m) (suc n) h = omega (arith, uses-more w v (j + 1) m n (omega arith))

length-take-most : (n : ℕ) (gs : List (List ℕ)) → length (take n gs) ≤ n
length-take-most zero gs = omega arith
length-take-most (suc n) [] = omega arith
length-take-most (suc n) (g ∷ gs) = omega (arith, length-take-most n gs)

-- ---- a group that was not sent is on its pages

unloads-named : (w q : ℕ) (past : List ClientEvent) → IsPut (over w) past → unloads_on q past ≤ named_on q past
unloads-named w q past p =
    let s = in_step w q past p in
    omega (arith, s.unloads, s.replied_to, given-due (is_unload_on q) (jobs_due w past) (jobs_given past) s.rest s.given)

pub turn-bound : (w n : ℕ) (past : List ClientEvent) → 0 < w → IsPut (over w) past → length (requests_sent past) ≤ n → unloads_on (page_of w (n + 1) 0) past ≤ turn_of w (n + 1)
turn-bound w n past some p later =
    let q_is : page_of w (n + 1) 0 ≡ n % w * 16 = first_page w n in
    let low : n % w * 16 / 16 ≡ n % w = omega arith in
    let less : n + 1 - 1 ≡ n = omega arith in
    let named : named_on (n % w * 16) past ≡ length (pl w (n % w * 16) 0 (take (length (requests_sent past)) (groups_in past))) = named-is w (n % w * 16) past p in
    let few : length (pl w (n % w * 16) 0 (take (length (requests_sent past)) (groups_in past))) ≤ uses w (n % w * 16 / 16) 0 (length (take (length (requests_sent past)) (groups_in past))) =
    length-pl-le w (n % w * 16) 0 (take (length (requests_sent past)) (groups_in past)) in
    let more : uses w (n % w * 16 / 16) 0 (length (take (length (requests_sent past)) (groups_in past))) ≤ uses w (n % w * 16 / 16) 0 n =
    uses-more w (n % w * 16 / 16) 0 (length (take (length (requests_sent past)) (groups_in past))) n
    (let h = length-take-most (length (requests_sent past)) (groups_in past) in omega arith) in
    let turn : uses w (n % w * 16 / 16) 0 n ≡ n / w = ap (λ (v : ℕ). uses w v 0 n) low ∙ uses-turn w n some in
    let bound : unloads_on (n % w * 16) past ≤ n / w = omega (arith, unloads-named w (n % w * 16) past p, named, few, more, turn) in
    subst (λ (q : ℕ). unloads_on q past ≤ (n + 1 - 1) / w) (sym q_is) (subst (λ (m : ℕ). unloads_on (n % w * 16) past ≤ m / w) (sym less) bound)

-- so it counts as under way
AreSome : List (List ℕ) → Type 0
AreSome [] = Unit {0}
AreSome (g ∷ gs) = (1 ≤ length g) × AreSome gs

some-append : (gs : List (List ℕ)) (b : List ℕ) → AreSome gs → 1 ≤ length b → AreSome (gs ++ b ∷ [])
unfolding AreSome
some-append [] b a h = (h, tt)
some-append (g ∷ gs) b a h = (a.0, some-append gs b a.1 h)

all_some : (s : Setup) (past : List ClientEvent) → IsPut s past → AreSome (groups_in past)
unfolding AreSome
all_some s [] p = tt
all_some s (Group bytes ∷ past) p = some-append (groups_in past) bytes (all_some s past p.1) p.0.1
all_some s (End ∷ past) p = all_some s past p.1
all_some s (Sent r ∷ past) p = all_some s past p.1
all_some s (Replied m ∷ past) p = all_some s past p.1
all_some s (Gave work ∷ past) p = all_some s past p.1
all_some s (Completed c ∷ past) p = all_some s past p.1
all_some s (Received bytes ∷ past) p = all_some s past p.1

pub has_pages : (g : List ℕ) → 1 ≤ length g → 1 ≤ length (pages_of g)
has_pages g h = omega (arith, length-parts ((length g + (4096 - 1)) / 4096) 4096 g)

pub not_back : (w n : ℕ) (parts : List (List ℕ)) (past : List ClientEvent) → 0 < w → IsPut (over w) past → length (requests_sent past) ≤ n → 1 ≤ length parts
    → are_unloaded w (n + 1) 0 parts past ≡ false
not_back w n [] past some p later h = absurd (omega arith)
not_back w n (part ∷ parts) past some p later h =
    let bound : unloads_on (page_of w (n + 1) 0) past ≤ turn_of w (n + 1) = turn-bound w n past some p later in
    let off : nat_lt (turn_of w (n + 1)) (unloads_on (page_of w (n + 1) 0) past) ≡ false = below (turn_of w (n + 1)) (unloads_on (page_of w (n + 1) 0) past) bound in
    ap (λ (t : Bool). t && are_unloaded w (n + 1) 1 parts past) off
  where
    below : (a b : ℕ) → b ≤ a → nat_lt a b ≡ false
    below a b h = grind (arith, nat_tests)

unsent : (w n : ℕ) (gs : List (List ℕ)) (past : List ClientEvent) → 0 < w → IsPut (over w) past → AreSome gs
    → length gs ≤ (length (requests_sent past) - n) + groups_on_pages w (n + 1) gs past
unfolding AreSome
unsent w n [] past some p a = omega arith
unsent w n (g ∷ gs) past some p a = by_sent (nat_lt n (length (requests_sent past))) refl (unsent w (n + 1) gs past some p a.1) where
  counts : (t : Bool) (m : ℕ) → m ≤ cond t m (m + 1)
  counts true m = omega arith
  counts false m = omega arith

  by_sent : (t : Bool) → nat_lt n (length (requests_sent past)) ≡ t
      → length gs ≤ (length (requests_sent past) - (n + 1)) + groups_on_pages w (n + 1 + 1) gs past
      → suc (length gs) ≤ (length (requests_sent past) - n) + cond (are_unloaded w (n + 1) 0 (pages_of g) past) (groups_on_pages w (n + 1 + 1) gs past) (groups_on_pages w (n + 1 + 1) gs past + 1)
  by_sent true e ih =
      let sent : n < length (requests_sent past) = grind (arith, nat_tests) in
      omega (arith, ih, counts (are_unloaded w (n + 1) 0 (pages_of g) past) (groups_on_pages w (n + 1 + 1) gs past))
  by_sent false e ih =
      let later : length (requests_sent past) ≤ n = grind (arith, nat_tests) in
      let off : are_unloaded w (n + 1) 0 (pages_of g) past ≡ false = not_back w n (pages_of g) past some p later (has_pages g a.0) in
      omega (arith, ih, ap (λ (t : Bool). cond t (groups_on_pages w (n + 1 + 1) gs past) (groups_on_pages w (n + 1 + 1) gs past + 1)) off)

-- the groups that were not sent are under way
pub unsent-under_way : (w : ℕ) (past : List ClientEvent) → 0 < w → IsPut (over w) past
    → length (groups_in past) ≤ length (requests_sent past) + groups_on_pages w 1 (groups_in past) past
unsent-under_way w past some p = omega (arith, unsent w 0 (groups_in past) past some p (all_some (over w) past p))

pub wants_room : (w : ℕ) (past : List ClientEvent) → wants_group (over w) past ≡ true → groups_on_pages w 1 (groups_in past) past < w
wants_room w past h = by_test (is_ended past) (are_whole (groups_in past)) (nat_lt (groups_on_pages w 1 (groups_in past) past) w) refl h where
  by_test : (a b c : Bool) → nat_lt (groups_on_pages w 1 (groups_in past) past) w ≡ c → ((not a && b) && c) ≡ true → groups_on_pages w 1 (groups_in past) past < w
  by_test true b c e h = absurd (let x : ⊥ = cc in x)
  by_test false false c e h = absurd (let x : ⊥ = cc in x)
  by_test false true true e h = grind (arith, nat_tests)
  by_test false true false e h = absurd (let x : ⊥ = cc in x)

-- so few groups were not sent
pub few_groups : (w : ℕ) (past : List ClientEvent) → 0 < w → IsPut (over w) past → length (groups_in past) ≤ length (requests_sent past) + w
few_groups w [] some p = omega arith
few_groups w (Group bytes ∷ past) some p =
    omega (arith, unsent-under_way w past some p.1, wants_room w past p.0.0, length-append (groups_in past) (bytes ∷ []))
few_groups w (End ∷ past) some p = few_groups w past some p.1
few_groups w (Sent r ∷ past) some p = omega (arith, few_groups w past some p.1, length-append (requests_sent past) (r ∷ []))
few_groups w (Replied m ∷ past) some p = few_groups w past some p.1
few_groups w (Gave work ∷ past) some p = few_groups w past some p.1
few_groups w (Completed c ∷ past) some p = few_groups w past some p.1
few_groups w (Received bytes ∷ past) some p = few_groups w past some p.1

-- ---- where a group may come, each of its pages has at most one part that is not unloaded

other_turn : (w g d : ℕ) → 0 < w → d < w → 1 ≤ d → d ≤ g → (g % w ≡ (g - d) % w → ⊥)
other_turn w g d some short one within e = by_order (nat_le (g / w) ((g - d) / w)) refl where
  by_order : (t : Bool) → nat_le (g / w) ((g - d) / w) ≡ t → ⊥
  by_order true h =
      let le : g / w ≤ (g - d) / w = grind (arith, nat_tests) in
      let m : w * (g / w) ≤ w * ((g - d) / w) = mul-le-mul_left w le in
      omega (arith, m, div-add-mod g w, div-add-mod (g - d) w)
  by_order false h =
      let lt : (g - d) / w + 1 ≤ g / w = grind (arith, nat_tests) in
      let m : w * ((g - d) / w + 1) ≤ w * (g / w) = mul-le-mul_left w lt in
      omega (arith, m, div-add-mod g w, div-add-mod (g - d) w)

zero_bit : bit false ≡ 0
unfolding bit
zero_bit = refl

used-back : (w g d : ℕ) → 0 < w → d < w → d ≤ g → used w (g % w) (g - d) ≡ used w (g % w) g
used-back w g zero some short within = ap (used w (g % w)) (let e : g - 0 ≡ g = omega arith in e)
used-back w g (suc d) some short within =
    let step : used w (g % w) (g - suc d + 1) ≡ used w (g % w) (g - suc d) + bit (g % w == (g - suc d) % w) = used-step w (g % w) (g - suc d) some (mod-lt g some) in
    let here : g - suc d + 1 ≡ g - d = omega arith in
    let off : (g % w == (g - suc d) % w) ≡ false = apart (g % w) ((g - suc d) % w) (other_turn w g (suc d) some short (omega arith) within) in
    let none : bit (g % w == (g - suc d) % w) ≡ 0 = ap bit off ∙ zero_bit in
    omega (arith, step, ap (used w (g % w)) here, none, used-back w g d some (omega arith) (omega arith))
  where
    apart : (a b : ℕ) → (a ≡ b → ⊥) → (a == b) ≡ false
    apart a b h = grind (arith, nat_tests, h)

-- every load of a page was named, where its window is the next one
pub all_named : (w page : ℕ) (past : List ClientEvent) → 0 < w → IsPut (over w) past → wants_group (over w) past ≡ true → page / 16 ≡ length (groups_in past) % w
    → named_on page past ≡ length (parts_on w page past)
all_named w page past some p wanted at =
    let g : ℕ = length (groups_in past) in
    let n : ℕ = length (requests_sent past) in
    let parts = wants_parts (over w) past wanted in
    let whole = wholes_of (groups_in past) parts.1 in
    let within : n ≤ g = (in_turn (over w) past p).1 parts.0 in
    let near : g < n + w = omega (arith, unsent-under_way w past some p, wants_room w past wanted) in
    let size : length (take n (groups_in past)) ≡ n = length-take-le n (groups_in past) within in
    let named : named_on page past ≡ uses w (page / 16) 0 n =
    named-is w page past p ∙ length-pl w page 0 (take n (groups_in past)) (wholes_take n (groups_in past) whole) ∙ ap (uses w (page / 16) 0) size in
    let held : length (parts_on w page past) ≡ uses w (page / 16) 0 g = ap length (parts-is w page past) ∙ length-pl w page 0 (groups_in past) whole in
    let below : page / 16 < w = (let h = mod-lt g some in omega arith) in
    let one = uses-used w (page / 16) 0 n some below in
    let two = uses-used w (page / 16) 0 g some below in
    let back : used w (g % w) (g - (g - n)) ≡ used w (g % w) g = used-back w g (g - n) some (omega arith) (omega arith) in
    let n_is : g - (g - n) ≡ 0 + n = omega arith in
    let g_is : g ≡ 0 + g = omega arith in
    let same : used w (page / 16) (0 + n) ≡ used w (page / 16) (0 + g) =
    ap (λ (v : ℕ). used w v (0 + n)) at ∙ ap (used w (g % w)) (sym n_is) ∙ back ∙ ap (used w (g % w)) g_is ∙ ap (λ (v : ℕ). used w v (0 + g)) (sym at) in
    omega (arith, named, held, one, two, same)

pub parts-once : (w page : ℕ) (past : List ClientEvent) → 0 < w → IsPut (over w) past → wants_group (over w) past ≡ true → page / 16 ≡ length (groups_in past) % w
    → length (parts_on w page past) ≤ unloads_on page past + 1
parts-once w page past some p wanted at =
    let s = in_step w page past p in
    omega (arith, all_named w page past some p wanted at, s.named, s.loads, s.due, given-due (is_load_on page) (jobs_due w past) (jobs_given past) s.rest s.given)

-- ---- pages

outside : (w page before : ℕ) (bytes : List ℕ) → 0 < w → 16 * w ≤ page → part_on w page before bytes ≡ []
outside w page before bytes some h =
    let far : page / 16 ≡ before % w → ⊥ = (λ (e : page / 16 ≡ before % w). let m = mod-lt before some in omega arith) in
    let off : (page / 16 == before % w) ≡ false = apart (page / 16) (before % w) far in
    rw off refl
  where
    apart : (a b : ℕ) → (a ≡ b → ⊥) → (a == b) ≡ false
    apart a b h = grind (arith, nat_tests, h)

no_parts : (w page : ℕ) (past : List ClientEvent) → 0 < w → 16 * w ≤ page → length (parts_on w page past) ≡ 0
no_parts w page [] some h = refl
no_parts w page (Group bytes ∷ past) some h =
    omega (arith, length-append (parts_on w page past) (part_on w page (length (groups_in past)) bytes), no_parts w page past some h, ap length (outside w page (length (groups_in past)) bytes some h))
no_parts w page (End ∷ past) some h = no_parts w page past some h
no_parts w page (Sent r ∷ past) some h = no_parts w page past some h
no_parts w page (Replied m ∷ past) some h = no_parts w page past some h
no_parts w page (Gave work ∷ past) some h = no_parts w page past some h
no_parts w page (Completed c ∷ past) some h = no_parts w page past some h
no_parts w page (Received bytes ∷ past) some h = no_parts w page past some h

-- a page that took a part is one of the pool
pub page-within : (w page : ℕ) (past : List ClientEvent) → 0 < w → 0 < length (parts_on w page past) → page < 16 * w
page-within w page past some h = by_test (nat_le (16 * w) page) refl where
  by_test : (t : Bool) → nat_le (16 * w) page ≡ t → page < 16 * w
  by_test true e = let far : 16 * w ≤ page = grind (arith, nat_tests) in absurd (omega (arith, no_parts w page past some far))
  by_test false e = grind (arith, nat_tests)

-- a page takes at most a part of each group
pub few_parts : (w page : ℕ) (past : List ClientEvent) → length (parts_on w page past) ≤ length (groups_in past)
unfolding bit
few_parts w page [] = omega arith
few_parts w page (Group bytes ∷ past) =
    omega (
      arith,
      length-append (parts_on w page past) (part_on w page (length (groups_in past)) bytes),
      length-append (groups_in past) (bytes ∷ []),
      few_parts w page past,
      part-bit w page (length (groups_in past)) bytes,
      at_most (page / 16 == length (groups_in past) % w),
    ) where
      at_most : (t : Bool) → bit t ≤ 1
      at_most true = omega arith
      at_most false = omega arith
few_parts w page (End ∷ past) = few_parts w page past
few_parts w page (Sent r ∷ past) = few_parts w page past
few_parts w page (Replied m ∷ past) = few_parts w page past
few_parts w page (Gave work ∷ past) = few_parts w page past
few_parts w page (Completed c ∷ past) = few_parts w page past
few_parts w page (Received bytes ∷ past) = few_parts w page past

-- ---- how many jobs come due

is_unload : Work → Bool
is_unload (Load p r bytes) = false
is_unload (Fetch d) = false
is_unload (Place d bytes) = false
is_unload (Unload t) = true

loads-few : (w first : ℕ) (parts : List (List ℕ)) (past : List ClientEvent) → length (loads_on_free_pages w first parts past) ≤ length parts
loads-few w first [] past = omega arith
loads-few w first (part ∷ parts) past = by_test (is_free w first past) (loads-few w (first + 1) parts past) where
  by_test : (t : Bool) → length (loads_on_free_pages w (first + 1) parts past) ≤ length parts
      → length (cond t (Load first right.Fetch part ∷ []) [] ++ loads_on_free_pages w (first + 1) parts past) ≤ suc (length parts)
  by_test true h = omega (arith, h)
  by_test false h = omega (arith, h)

loads-only : (w first : ℕ) (parts : List (List ℕ)) (past : List ClientEvent) → count is_unload (loads_on_free_pages w first parts past) ≡ 0
unfolding count one_if is_unload
loads-only w first [] past = refl
loads-only w first (part ∷ parts) past = by_test (is_free w first past) (loads-only w (first + 1) parts past) where
  by_test : (t : Bool) → count is_unload (loads_on_free_pages w (first + 1) parts past) ≡ 0
      → count is_unload (cond t (Load first right.Fetch part ∷ []) [] ++ loads_on_free_pages w (first + 1) parts past) ≡ 0
  by_test true h = omega (arith, h)
  by_test false h = h

after-few : (w : ℕ) (work : Work) (past : List ClientEvent) → length (load_after w (page_unloaded (Some work)) past) ≤ one_if (is_unload work)
unfolding one_if is_unload
after-few w (Load p r bytes) past = none where
  none : length (load_after w (page_unloaded (Some (Load p r bytes))) past) ≤ one_if (is_unload (Load p r bytes))
  none = omega arith
after-few w (Fetch d) past = none where
  none : length (load_after w (page_unloaded (Some (Fetch d))) past) ≤ one_if (is_unload (Fetch d))
  none = omega arith
after-few w (Place d bytes) past = none where
  none : length (load_after w (page_unloaded (Some (Place d bytes))) past) ≤ one_if (is_unload (Place d bytes))
  none = omega arith
after-few w (Unload t) past = by_part (slice_get (parts_on w t.page past) (unloads_on t.page past + 1)) where
  by_part : (o : Option (List ℕ)) → length (load_of_part t.page o) ≤ one_if (is_unload (Unload t))
  by_part None = omega arith
  by_part (Some part) = omega arith

after-only : (w : ℕ) (o : Option ℕ) (past : List ClientEvent) → count is_unload (load_after w o past) ≡ 0
unfolding count one_if is_unload
after-only w None past = refl
after-only w (Some q) past = by_part (slice_get (parts_on w q past) (unloads_on q past + 1)) where
  by_part : (o : Option (List ℕ)) → count is_unload (load_of_part q o) ≡ 0
  by_part None = refl
  by_part (Some part) = omega arith

unloads-all : (ds : List Descriptor) → (length (unloads_of ds) ≡ length ds) × (count is_unload (unloads_of ds) ≡ length ds)
unfolding count one_if is_unload
unloads-all [] = (refl, refl)
unloads-all (d ∷ ds) = let ih = unloads-all ds in (omega (arith, ih.0), omega (arith, ih.1))

-- each of these requests names at most 16 pages
AreFew : List Request → Type 0
AreFew [] = Unit {0}
AreFew (r ∷ rs) = (length r.descriptors ≤ 16) × AreFew rs

few-append : (rs : List Request) (r : Request) → AreFew rs → length r.descriptors ≤ 16 → AreFew (rs ++ r ∷ [])
unfolding AreFew
few-append [] r a h = (h, tt)
few-append (x ∷ xs) r a h = (a.0, few-append xs r a.1 h)

few-drop : (rs : List Request) → AreFew rs → AreFew (drop 1 rs)
unfolding AreFew
few-drop [] a = tt
few-drop (r ∷ rs) a = a.1

first-few : (rs : List Request) → AreFew rs → (length (unloads_of_first rs) ≡ count is_unload (unloads_of_first rs)) × (count is_unload (unloads_of_first rs) + 16 * length (drop 1 rs) ≤ 16 * length rs)
unfolding AreFew count
first-few [] a = (refl, omega arith)
first-few (r ∷ rs) a = let u = unloads-all r.descriptors in (u.0 ∙ sym u.1, omega (arith, u.1, a.0))

pub descriptors-length : (page : ℕ) (parts : List (List ℕ)) (past : List ClientEvent) (ds : List Descriptor) → descriptors_for page parts past ≡ Some ds → length ds ≡ length parts
descriptors-length page [] past ds e = let none : ds ≡ [] = cc in ap length none
descriptors-length page (part ∷ parts) past ds e =
    by_parts (slice_get (descriptors_on page past) (named_on page past)) (descriptors_for (page + 1) parts past) refl e
    (λ (later : List Descriptor) (h : descriptors_for (page + 1) parts past ≡ Some later). descriptors-length (page + 1) parts past later h) where
      by_parts : (o : Option Descriptor) (l : Option (List Descriptor)) → descriptors_for (page + 1) parts past ≡ l → in_front o l ≡ Some ds
          → ((later : List Descriptor) → descriptors_for (page + 1) parts past ≡ Some later → length later ≡ length parts) → length ds ≡ suc (length parts)
      by_parts None l p h f = absurd (let b : ⊥ = cc in b)
      by_parts (Some d) None p h f = absurd (let b : ⊥ = cc in b)
      by_parts (Some d) (Some later) p h f = let ds_is : ds ≡ d ∷ later = cc in omega (arith, ap length ds_is, f later p)

sent-few : (w : ℕ) (r : Request) (past : List ClientEvent) → IsPut (over w) past → SentCase (over w) past r → length r.descriptors ≤ 16
unfolding SentCase
sent-few w r past p (inl x) =
    by_write (descriptors_for (page_of w (length (requests_sent past) + 1) 0) (pages_of x.0) past) refl x.2 where
      by_write : (o : Option (List Descriptor)) → descriptors_for (page_of w (length (requests_sent past) + 1) 0) (pages_of x.0) past ≡ o
          → option_map (registered_write (length (requests_sent past) + 1) (bytes_before (length (requests_sent past) + 1) past) x.0) o ≡ Some r → length r.descriptors ≤ 16
      by_write None e f = absurd (let b : ⊥ = cc in b)
      by_write (Some ds) e f =
          let r_is : registered_write (length (requests_sent past) + 1) (bytes_before (length (requests_sent past) + 1) past) x.0 ds ≡ r = cc in
          let few : length (pages_of x.0) ≤ 16 = few_pages x.0 (short_at (length (requests_sent past)) (groups_in past) x.0 (all_short (over w) past p) x.1) in
          omega (arith, ap (λ (q : Request). length q.descriptors) r_is, descriptors-length (page_of w (length (requests_sent past) + 1) 0) (pages_of x.0) past ds e, few)
sent-few w r past p (inr x) = omega (arith, ap (λ (q : Request). length q.descriptors) x.2)

-- jobs that came due, against the groups and the requests
record JobsBound (w : ℕ) (past : List ClientEvent) : Type 0 where
  done : ℕ
  closed : done + count_open is_unload (open_jobs past) ≡ count is_unload (jobs_given past)
  due : length (jobs_due w past) ≤ 16 * length (groups_in past) + count is_unload (jobs_due w past) + done
  replied_to : count is_unload (jobs_due w past) + 16 * length (answers past).unanswered ≤ 16 * length (requests_sent past)
  few : AreFew (answers past).unanswered

bound-replied : (w : ℕ) (m : List ℕ) (past : List ClientEvent) → JobsBound w past → JobsBound w (Replied m ∷ past)
bound-replied w m past s = by_fault (reply_fault (answers past) m) refl where
  by_fault : (o : Option ReplyFault) → reply_fault (answers past) m ≡ o → JobsBound w (Replied m ∷ past)
  by_fault None e =
      let new : List Work = unloads_of_first (answers past).unanswered in
      let due_is : jobs_due w (Replied m ∷ past) ≡ jobs_due w past ++ new = rw e refl in
      let left : (answers (Replied m ∷ past)).unanswered ≡ drop 1 (answers past).unanswered = rw e refl in
      let f = first-few (answers past).unanswered s.few in
      record {
        done = s.done;
        closed = s.closed;
        due = omega (arith, s.due, ap length due_is, ap (count is_unload) due_is, length-append (jobs_due w past) new, count-append is_unload (jobs_due w past) new, f.0);
        replied_to = omega (arith, s.replied_to, ap (count is_unload) due_is, count-append is_unload (jobs_due w past) new, ap length left, f.1);
        few = subst AreFew (sym left) (few-drop (answers past).unanswered s.few);
      }
  by_fault (Some f) e =
      let due_is : jobs_due w (Replied m ∷ past) ≡ jobs_due w past = rw e (append-nil (jobs_due w past)) in
      let left : (answers (Replied m ∷ past)).unanswered ≡ (answers past).unanswered = rw e refl in
      record {
        done = s.done;
        closed = s.closed;
        due = omega (arith, s.due, ap length due_is, ap (count is_unload) due_is);
        replied_to = omega (arith, s.replied_to, ap (count is_unload) due_is, ap length left);
        few = subst AreFew (sym left) s.few;
      }

bounded : (w : ℕ) (past : List ClientEvent) → IsPut (over w) past → JobsBound w past
unfolding count count_open AreFew
bounded w [] p = record { done = 0; closed = refl; due = omega arith; replied_to = omega arith; few = tt }
bounded w (Group bytes ∷ past) p =
    let s = bounded w past p.1 in
    let new : List Work = loads_on_free_pages w (page_of w (length (groups_in past) + 1) 0) (pages_of bytes) past in
    record {
      done = s.done;
      closed = s.closed;
      due = omega (
        arith,
        s.due,
        length-append (jobs_due w past) new,
        count-append is_unload (jobs_due w past) new,
        loads-only w (page_of w (length (groups_in past) + 1) 0) (pages_of bytes) past,
        loads-few w (page_of w (length (groups_in past) + 1) 0) (pages_of bytes) past,
        few_pages bytes p.0.2,
        length-append (groups_in past) (bytes ∷ []),
      );
      replied_to = omega (arith, s.replied_to, count-append is_unload (jobs_due w past) new, loads-only w (page_of w (length (groups_in past) + 1) 0) (pages_of bytes) past);
      few = s.few;
    }
bounded w (End ∷ past) p = let s = bounded w past p.1 in record { done = s.done; closed = s.closed; due = s.due; replied_to = s.replied_to; few = s.few }
bounded w (Sent r ∷ past) p =
    let s = bounded w past p.1 in
    record {
      done = s.done;
      closed = s.closed;
      due = s.due;
      replied_to = omega (arith, s.replied_to, length-append (answers past).unanswered (r ∷ []), length-append (requests_sent past) (r ∷ []));
      few = few-append (answers past).unanswered r s.few (sent-few w r past p.1 (sent_case (over w) past r p.0));
    }
bounded w (Replied m ∷ past) p = bound-replied w m past (bounded w past p.1)
bounded w (Gave work ∷ past) p =
    let s = bounded w past p.1 in
    record {
      done = s.done;
      closed = omega (arith, s.closed, count-append is_unload (jobs_given past) (work ∷ []), count_open-append is_unload (open_jobs past) (record { number = length (jobs_given past); work = work }));
      due = s.due;
      replied_to = s.replied_to;
      few = s.few;
    }
bounded w (Completed c ∷ past) p =
    let s = bounded w past p.1 in
    let new : List Work = load_after w (page_freed c past) past in
    let few : length new ≤ one_if (is_unload p.0.work) =
    subst (λ (o : Option ℕ). length (load_after w o past) ≤ one_if (is_unload p.0.work)) (sym (ap page_unloaded p.0.is_open)) (after-few w p.0.work past) in
    record {
      done = s.done + one_if (is_unload p.0.work);
      closed = omega (arith, s.closed, count_open-without is_unload c.number (open_jobs past) p.0.work p.0.is_open);
      due = omega (arith, s.due, length-append (jobs_due w past) new, count-append is_unload (jobs_due w past) new, after-only w (page_freed c past) past, few);
      replied_to = omega (arith, s.replied_to, count-append is_unload (jobs_due w past) new, after-only w (page_freed c past) past);
      few = s.few;
    }
bounded w (Received bytes ∷ past) p = absurd p.0

-- so few jobs came due
pub few_jobs : (w : ℕ) (past : List ClientEvent) → IsPut (over w) past → length (jobs_due w past) ≤ 16 * length (groups_in past) + 32 * length (requests_sent past)
few_jobs w past p =
    let b = bounded w past p in
    let s = in_step w 0 past p in
    omega (arith, b.due, b.closed, b.replied_to, given-due is_unload (jobs_due w past) (jobs_given past) s.rest s.given)

-- a page that is loaded took a part
pub loaded-parts : (w number : ℕ) (d : Descriptor) (past : List ClientEvent) → IsPut (over w) past → AnswersJob past (record { number = number; result = Loaded d })
    → 0 < length (parts_on w (token_of_descriptor d).page past)
unfolding is_load_on one_if
loaded-parts w number d past p a =
    let page : ℕ = (token_of_descriptor d).page in
    let s = in_step w page past p in
    omega (
      arith,
      count_open-without (is_load_on page) number (open_jobs past) a.work a.is_open,
      one_of a.work a.fits,
      s.loads,
      s.parts,
      given-due (is_load_on page) (jobs_due w past) (jobs_given past) s.rest s.given,
    )
  where
    one_of : (work : Work) → IsOfKind work (Loaded d) → one_if (is_load_on (token_of_descriptor d).page work) ≡ 1
    one_of (Load p r bytes) fits = let same : (p == (token_of_descriptor d).page) ≡ true = (let e : p ≡ (token_of_descriptor d).page = sym fits.1 in grind (arith, nat_tests)) in ap one_if same
    one_of (Fetch e) fits = absurd fits
    one_of (Place e bytes) fits = absurd fits
    one_of (Unload t) fits = absurd fits
