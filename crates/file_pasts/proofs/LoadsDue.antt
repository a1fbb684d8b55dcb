-- The Loads of a page that came due are those of its parts up to the one after its last unloaded part: a part's Load is due
-- just where the part was handed in and every earlier token of its page was unloaded.
use Rattle.std.proofs.Common.{◌≡◌, ℕ, zero, suc, ◌+◌, ◌<◌, ◌≤◌, ◌==◌, min, nat_le, Bool, true, false, cond, Option, Some, List, [], ◌∷◌, ◌++◌, length, refl, sym, ap, ◌∙◌, subst, length-append, arith}
use Rattle.std.specs.Prelude.{slice_get}
use Rattle.std.proofs.lemmas.Bool.Decides.{nat_tests}
use Rattle.file_messages.specs.declared.job.Work.{Work}
use Rattle.file_messages.specs.declared.job.Work.TheVariants.{Load, Fetch, Place, Unload}
use Rattle.file_messages.specs.Runs.{pages_of, page_of}
use Rattle.file_pasts.specs.ClientPast.{ClientEvent, Group, End, Sent, Replied, Gave, Completed, Received, groups_in, unloads_on, page_freed, page_unloaded, is_page, reply_fault, answers}
use Rattle.file_pasts.specs.PutDue.{IsPut, jobs_due, parts_on, part_on, is_free, load_of_part, load_after, loads_on_free_pages, unloads_of_first, if_taken}
use Rattle.file_pasts.specs.InStep.{part_at, is_load_on, is_unload_on, one_if, count, over}
use Rattle.file_pasts.proofs.InStep.{count-append, in_step, unload-count, loads-of-group, part-is}

some_at : {A : Type 0} (xs : List A) (i : ℕ) → i < length xs → (y : A) × (slice_get xs i ≡ Some y)
some_at [] i h = absurd (omega arith)
some_at (x ∷ xs) zero h = (x, refl)
some_at (x ∷ xs) (suc i) h = some_at xs i (omega arith)

load-comes : (w page : ℕ) (work : Work) (past : List ClientEvent) → is_unload_on page work ≡ true → unloads_on page past + 1 < length (parts_on w page past)
    → 1 ≤ count (is_load_on page) (load_after w (page_unloaded (Some work)) past)
unfolding count is_load_on is_unload_on one_if
load-comes w page (Load p r bytes) past e h = absurd (let x : ⊥ = cc in x)
load-comes w page (Fetch d) past e h = absurd (let x : ⊥ = cc in x)
load-comes w page (Place d bytes) past e h = absurd (let x : ⊥ = cc in x)
load-comes w page (Unload t) past e h =
    let same : t.page ≡ page = grind (arith, nat_tests) in
    let part = some_at (parts_on w t.page past) (unloads_on t.page past + 1) (subst (λ (q : ℕ). unloads_on q past + 1 < length (parts_on w q past)) (sym same) h) in
    let one : count (is_load_on page) (load_of_part t.page (slice_get (parts_on w t.page past) (unloads_on t.page past + 1))) ≡ 1 =
    ap (λ (o : Option (List ℕ)). count (is_load_on page) (load_of_part t.page o)) part.1 ∙ (let n : one_if (t.page == page) + 0 ≡ 1 = omega (arith, ap one_if e) in n) in
    omega (arith, one)

pub due-at-least : (w page : ℕ) (past : List ClientEvent) → IsPut (over w) past
    → min (length (parts_on w page past)) (unloads_on page past + 1) ≤ count (is_load_on page) (jobs_due w past)
unfolding count one_if
due-at-least w page [] p = omega arith
due-at-least w page (Group bytes ∷ past) p = by_free (is_free w page past) refl (loads-of-group w page (page_of w (length (groups_in past) + 1) 0) (pages_of bytes) past) (due-at-least w page past p.1)
    (ap length (part-is w page bytes past p.0.2))
    (count-append (is_load_on page) (jobs_due w past) (loads_on_free_pages w (page_of w (length (groups_in past) + 1) 0) (pages_of bytes) past)) where
      by_free : (t : Bool) → is_free w page past ≡ t
          → count (is_load_on page) (loads_on_free_pages w (page_of w (length (groups_in past) + 1) 0) (pages_of bytes) past) ≡ cond t (length (part_at (page_of w (length (groups_in past) + 1) 0) (pages_of bytes) page)) 0
          → min (length (parts_on w page past)) (unloads_on page past + 1) ≤ count (is_load_on page) (jobs_due w past)
          → length (part_at (page_of w (length (groups_in past) + 1) 0) (pages_of bytes) page) ≡ length (part_on w page (length (groups_in past)) bytes)
          → count (is_load_on page) (jobs_due w past ++ loads_on_free_pages w (page_of w (length (groups_in past) + 1) 0) (pages_of bytes) past)
          ≡ count (is_load_on page) (jobs_due w past) + count (is_load_on page) (loads_on_free_pages w (page_of w (length (groups_in past) + 1) 0) (pages_of bytes) past)
          → min (length (parts_on w page past ++ part_on w page (length (groups_in past)) bytes)) (unloads_on page past + 1)
          ≤ count (is_load_on page) (jobs_due w past ++ loads_on_free_pages w (page_of w (length (groups_in past) + 1) 0) (pages_of bytes) past)
      by_free true e n ih part all =
          let free : length (parts_on w page past) ≤ unloads_on page past = grind (arith, nat_tests) in
          omega (arith, n, ih, part, all, length-append (parts_on w page past) (part_on w page (length (groups_in past)) bytes))
      by_free false e n ih part all =
          let busy : unloads_on page past < length (parts_on w page past) = grind (arith, nat_tests) in
          omega (arith, n, ih, all, length-append (parts_on w page past) (part_on w page (length (groups_in past)) bytes))
due-at-least w page (End ∷ past) p = due-at-least w page past p.1
due-at-least w page (Sent r ∷ past) p = due-at-least w page past p.1
due-at-least w page (Replied m ∷ past) p =
    let more = count-append (is_load_on page) (jobs_due w past) (if_taken (reply_fault (answers past) m) (unloads_of_first (answers past).unanswered)) in
    omega (arith, due-at-least w page past p.1, more)
due-at-least w page (Gave work ∷ past) p = due-at-least w page past p.1
due-at-least w page (Completed c ∷ past) p =
    by_kind (is_unload_on page p.0.work) refl (due-at-least w page past p.1) (count-append (is_load_on page) (jobs_due w past) (load_after w (page_freed c past) past))
    (ap (λ (o : Option ℕ). cond (is_page page o) (unloads_on page past + 1) (unloads_on page past)) (ap page_unloaded p.0.is_open) ∙ unload-count page p.0.work (unloads_on page past))
    (λ (e : is_unload_on page p.0.work ≡ true) (h : unloads_on page past + 1 < length (parts_on w page past)).
    subst (λ (o : Option ℕ). 1 ≤ count (is_load_on page) (load_after w o past)) (sym (ap page_unloaded p.0.is_open)) (load-comes w page p.0.work past e h)) where
      by_kind : (t : Bool) → is_unload_on page p.0.work ≡ t
          → min (length (parts_on w page past)) (unloads_on page past + 1) ≤ count (is_load_on page) (jobs_due w past)
          → count (is_load_on page) (jobs_due w past ++ load_after w (page_freed c past) past) ≡ count (is_load_on page) (jobs_due w past) + count (is_load_on page) (load_after w (page_freed c past) past)
          → unloads_on page (Completed c ∷ past) ≡ unloads_on page past + one_if (is_unload_on page p.0.work)
          → (is_unload_on page p.0.work ≡ true → unloads_on page past + 1 < length (parts_on w page past) → 1 ≤ count (is_load_on page) (load_after w (page_freed c past) past))
          → min (length (parts_on w page past)) (unloads_on page (Completed c ∷ past) + 1) ≤ count (is_load_on page) (jobs_due w past ++ load_after w (page_freed c past) past)
      by_kind true e ih all u comes = by_room (nat_le (length (parts_on w page past)) (unloads_on page past + 1)) refl where
        u_is : unloads_on page (Completed c ∷ past) ≡ unloads_on page past + 1
        u_is = u ∙ ap (λ (t : Bool). unloads_on page past + one_if t) e ∙ one
          where
            one : unloads_on page past + one_if true ≡ unloads_on page past + 1
            one = refl

        by_room : (r : Bool) → nat_le (length (parts_on w page past)) (unloads_on page past + 1) ≡ r
            → min (length (parts_on w page past)) (unloads_on page (Completed c ∷ past) + 1) ≤ count (is_load_on page) (jobs_due w past ++ load_after w (page_freed c past) past)
        by_room true k = let few : length (parts_on w page past) ≤ unloads_on page past + 1 = grind (arith, nat_tests) in omega (arith, ih, all, u_is)
        by_room false k =
            let many : unloads_on page past + 1 < length (parts_on w page past) = grind (arith, nat_tests) in
            omega (arith, ih, all, u_is, comes e many)
      by_kind false e ih all u comes =
          let same : unloads_on page (Completed c ∷ past) ≡ unloads_on page past + one_if false = u ∙ ap (λ (t : Bool). unloads_on page past + one_if t) e in
          let zero_is : one_if false ≡ 0 = refl in
          omega (arith, ih, all, same, zero_is)
due-at-least w page (Received bytes ∷ past) p = absurd p.0

-- just so many came due
pub loads-due : (w page : ℕ) (past : List ClientEvent) → IsPut (over w) past
    → count (is_load_on page) (jobs_due w past) ≡ min (length (parts_on w page past)) (unloads_on page past + 1)
loads-due w page past p = let s = in_step w page past p in omega (arith, s.due, s.parts, due-at-least w page past p)
