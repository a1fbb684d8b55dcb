-- The groups of a put over registered pages.
use Rattle.std.proofs.Common.{◌≡◌, ℕ, zero, suc, ◌+◌, ◌-◌, ◌*◌, ◌/◌, ◌%◌, ◌<◌, ◌≤◌, min, nat_lt, nat_le, not, ◌&&◌, Bool, true, false, cond, Option, Some, None, List, [], ◌∷◌, ◌++◌, length, take, drop, map, refl, sym, ap, ◌∙◌, subst, add-one, length-append, length-drop, arith}
use Rattle.std.specs.Prelude.{slice_get, option_map, vec_capacity}
use Rattle.std.specs.List.{flat_map}
use Rattle.std.proofs.Math.Nat.{mod-lt}
use Rattle.std.proofs.lemmas.Bool.Decides.{nat_tests}
use Rattle.std.proofs.lemmas.List.{drop-append-le, append-nil, map-append, drop-drop}
use Rattle.std.proofs.lemmas.List.Elements.{filter-append}
use Rattle.buffer_descriptor.specs.declared.descriptor.Descriptor.{Descriptor}
use Rattle.buffer_descriptor.specs.Descriptors.{descriptor_bytes}
use Rattle.file_messages.specs.declared.fault.ReplyFault.{ReplyFault}
use Rattle.file_messages.specs.declared.message.Request.{Request}
use Rattle.file_messages.specs.declared.job.Job.{Job}
use Rattle.file_messages.specs.declared.job.Work.{Work}
use Rattle.file_messages.specs.declared.job.Work.TheVariants.{Load, Fetch, Place, Unload}
use Rattle.file_messages.specs.declared.job.WorkResult.{WorkResult}
use Rattle.file_messages.specs.declared.job.WorkResult.TheVariants.{Loaded, Fetched, Placed, Unloaded, Refused}
use Rattle.file_messages.specs.declared.job.Completion.{Completion}
use Rattle.file_messages.specs.Messages.{request_bytes, header_bytes}
use Rattle.file_messages.specs.Runs.{page_of, turn_of, pages_of, parts_from, registered_write}
use Rattle.file_pasts.specs.Groups.{AreShort}
use Rattle.file_pasts.specs.ClientPast.{ClientEvent, Group, Sent, Replied, Gave, Completed, groups_in, requests_sent, jobs_given, unloads_on, descriptors_on, loaded_by, page_freed, page_unloaded, is_page, reply_fault, answers, has_failed, total, AnswersJob, IsOfKind}
use Rattle.file_pasts.specs.PutDue.{IsPut, Follows, wants_group, next_request, next_job, jobs_due, job_in_turn, numbered, parts_on, named_on, loads_on_free_pages, load_after, unloads_of, unloads_of_first, if_taken, descriptors_for, are_unloaded, groups_on_pages, bytes_before}
use Rattle.file_pasts.specs.InStep.{over}
use Rattle.file_pasts.proofs.InStep.{load-done, unload-done}
use Rattle.file_pasts.proofs.GroupLemmas.{next_of, none_next, drop_whole}
use Rattle.file_pasts.proofs.PutLaw.{wants_parts}
use Rattle.file_pasts.proofs.Naming.{in_turn, all_short, first_page, few_pages}
use Rattle.file_transfer.specs.declared.client_jobs.Jobs.{Jobs}
use Rattle.file_transfer.specs.declared.loaded_page.LoadedPage.{LoadedPage}
use Rattle.file_transfer.specs.declared.put_pages.Page.{Page}
use Rattle.file_transfer.specs.declared.put_pages.UnderWay.{UnderWay}
use Rattle.file_transfer.specs.declared.put_registered.RegisteredGroups.{RegisteredGroups}
use Rattle.file_transfer.specs.declared.put_requests.PutRequests.{PutRequests}
use Rattle.file_transfer.specs.ClientJobs.{JobsStand, after_giving}
use Rattle.file_transfer.specs.ClientStands.{past_after_sending, first_named, descriptor_in}
use Rattle.file_transfer.specs.PutStands.{RequestsStand, AllSent}
use Rattle.file_transfer.specs.PutPagesStand.{SlotsStand, PartsTaken, HasRoomOn, SlotsNamed, all_back, is_back, windows_from, under_way_of, named_total}
use Rattle.file_transfer.specs.PutRegisteredStands.{RegisteredStand, JobClosed, size_of}
use Rattle.file_transfer.proofs.PutBounds.{has_pages, not_back, parts-once, page-within, few_parts, few_groups, few_jobs, loaded-parts, wants_room}
use Rattle.file_transfer.proofs.PutPagesLemmas.{stand-handed, stand-named, named-none}
use Rattle.file_transfer.proofs.PutRequestsLemmas.{end-only}

-- ---- groups under way

unloaded-is : (w k i : ℕ) (parts : List (List ℕ)) (past : List ClientEvent) → are_unloaded w k i parts past ≡ all_back (turn_of w k) (page_of w k i) (length parts) past
unloaded-is w k i [] past = refl
unloaded-is w k i (part ∷ parts) past =
    let next : page_of w k (i + 1) ≡ page_of w k i + 1 = omega arith in
    ap (λ (t : Bool). nat_lt (turn_of w k) (unloads_on (page_of w k i) past) && t)
    (unloaded-is w k (i + 1) parts past ∙ ap (λ (q : ℕ). all_back (turn_of w k) q (length parts) past) next)

under_way-count : (w k : ℕ) (gs : List (List ℕ)) (past : List ClientEvent) → length (under_way_of past (windows_from w k gs)) ≡ groups_on_pages w k gs past
under_way-count w k [] past = refl
under_way-count w k (g ∷ gs) past =
    by_test (are_unloaded w k 0 (pages_of g) past) (all_back (turn_of w k) (page_of w k 0) (length (pages_of g)) past) (unloaded-is w k 0 (pages_of g) past) (under_way-count w (k + 1) gs past) where
      by_test : (t u : Bool) → t ≡ u → length (under_way_of past (windows_from w (k + 1) gs)) ≡ groups_on_pages w (k + 1) gs past
          → length (cond (not u) ((record { first = page_of w k 0; turn = turn_of w k; pages = length (pages_of g) }) ∷ under_way_of past (windows_from w (k + 1) gs)) (under_way_of past (windows_from w (k + 1) gs)))
          ≡ cond t (groups_on_pages w (k + 1) gs past) (groups_on_pages w (k + 1) gs past + 1)
      by_test true true e h = h
      by_test false false e h = omega (arith, h)
      by_test true false e h = absurd (let b : ⊥ = cc in b)
      by_test false true e h = absurd (let b : ⊥ = cc in b)

pub room-is : (w : ℕ) (past : List ClientEvent) (g : RegisteredGroups) → RegisteredStand w past g → length g.under_way.items ≡ groups_on_pages w 1 (groups_in past) past
room-is w past g s = ap length s.under_way ∙ under_way-count w 1 (groups_in past) past

-- pasts that unloaded each page equally often
pub record SameUnloads (p q : List ClientEvent) : Type 0 where
  pub same : (page : ℕ) → unloads_on page p ≡ unloads_on page q

back-same : (p q : List ClientEvent) (turn page count : ℕ) → SameUnloads p q → all_back turn page count p ≡ all_back turn page count q
back-same p q turn page zero s = refl
back-same p q turn page (suc count) s =
    ap (λ (n : ℕ). nat_lt turn n && all_back turn (page + 1) count p) (s.same page)
    ∙ ap (λ (t : Bool). nat_lt turn (unloads_on page q) && t) (back-same p q turn (page + 1) count s)

pub under_way-same : (p q : List ClientEvent) (xs : List UnderWay) → SameUnloads p q → under_way_of p xs ≡ under_way_of q xs
under_way-same p q [] s = refl
under_way-same p q (x ∷ xs) s =
    ap (λ (t : Bool). cond (not t) (x ∷ under_way_of p xs) (under_way_of p xs)) (back-same p q x.turn x.first x.pages s)
    ∙ ap (λ (ys : List UnderWay). cond (not (is_back q x)) (x ∷ ys) ys) (under_way-same p q xs s)

-- pasts of which the later one unloaded each page at least as often
pub record MoreUnloads (p q : List ClientEvent) : Type 0 where
  pub more : (page : ℕ) → unloads_on page p ≤ unloads_on page q

back-more : (p q : List ClientEvent) (turn page count : ℕ) → MoreUnloads p q → all_back turn page count p ≡ true → all_back turn page count q ≡ true
back-more p q turn page zero s h = refl
back-more p q turn page (suc count) s h = by_tests (nat_lt turn (unloads_on page p)) (all_back turn (page + 1) count p) refl h (back-more p q turn (page + 1) count s) where
  by_tests : (t u : Bool) → nat_lt turn (unloads_on page p) ≡ t → (t && u) ≡ true → (u ≡ true → all_back turn (page + 1) count q ≡ true)
      → (nat_lt turn (unloads_on page q) && all_back turn (page + 1) count q) ≡ true
  by_tests true true e f g =
      let m : unloads_on page p ≤ unloads_on page q = s.more page in
      let on : nat_lt turn (unloads_on page q) ≡ true = grind (arith, nat_tests) in
      ap (λ (b : Bool). b && all_back turn (page + 1) count q) on ∙ g refl
  by_tests true false e f g = absurd (let b : ⊥ = cc in b)
  by_tests false u e f g = absurd (let b : ⊥ = cc in b)

pub under_way-more : (p q : List ClientEvent) (xs : List UnderWay) → MoreUnloads p q → under_way_of q (under_way_of p xs) ≡ under_way_of q xs
under_way-more p q [] s = refl
under_way-more p q (x ∷ xs) s = by_test (is_back p x) refl (under_way-more p q xs s) where
  by_test : (t : Bool) → is_back p x ≡ t → under_way_of q (under_way_of p xs) ≡ under_way_of q xs
      → under_way_of q (cond (not t) (x ∷ under_way_of p xs) (under_way_of p xs)) ≡ cond (not (is_back q x)) (x ∷ under_way_of q xs) (under_way_of q xs)
  by_test true e h =
      h ∙ sym (ap (λ (t : Bool). cond (not t) (x ∷ under_way_of q xs) (under_way_of q xs)) (back-more p q x.turn x.first x.pages s e))
  by_test false e h = ap (λ (ys : List UnderWay). cond (not (is_back q x)) (x ∷ ys) ys) h

groups-append : (w k : ℕ) (gs : List (List ℕ)) (b : List ℕ)
    → windows_from w k (gs ++ b ∷ []) ≡ windows_from w k gs ++ (record { first = page_of w (k + length gs) 0; turn = turn_of w (k + length gs); pages = length (pages_of b) }) ∷ []
groups-append w k [] b = ap (λ (n : ℕ). (record { first = page_of w n 0; turn = turn_of w n; pages = length (pages_of b) }) ∷ []) (let e : k ≡ k + 0 = omega arith in e)
groups-append w k (g ∷ gs) b =
    ap (λ (xs : List UnderWay). (record { first = page_of w k 0; turn = turn_of w k; pages = length (pages_of g) }) ∷ xs)
    (groups-append w (k + 1) gs b
    ∙ ap (λ (n : ℕ). windows_from w (k + 1) gs ++ (record { first = page_of w n 0; turn = turn_of w n; pages = length (pages_of b) }) ∷ []) (let e : k + 1 + length gs ≡ k + suc (length gs) = omega arith in e))

-- each has its pages in the pool
pub within_pool : (w k n : ℕ) (gs : List (List ℕ)) (past : List ClientEvent) (group : UnderWay) → 0 < w → AreShort gs → slice_get (under_way_of past (windows_from w k gs)) n ≡ Some group
    → group.first + group.pages ≤ 16 * w
within_pool w k n [] past group some short e = absurd (let b : ⊥ = cc in b)
within_pool w k n (g ∷ gs) past group some short e =
    by_test (is_back past (record { first = page_of w k 0; turn = turn_of w k; pages = length (pages_of g) })) n e
    (λ (m : ℕ) (h : slice_get (under_way_of past (windows_from w (k + 1) gs)) m ≡ Some group). within_pool w (k + 1) m gs past group some short.1 h) where
      here : page_of w k 0 + length (pages_of g) ≤ 16 * w
      here = let m = mod-lt (k - 1) some in omega (arith, m, few_pages g short.0)

      by_test : (t : Bool) (m : ℕ)
          → slice_get (cond (not t) ((record { first = page_of w k 0; turn = turn_of w k; pages = length (pages_of g) }) ∷ under_way_of past (windows_from w (k + 1) gs)) (under_way_of past (windows_from w (k + 1) gs))) m ≡ Some group
          → ((j : ℕ) → slice_get (under_way_of past (windows_from w (k + 1) gs)) j ≡ Some group → group.first + group.pages ≤ 16 * w) → group.first + group.pages ≤ 16 * w
      by_test true m h f = f m h
      by_test false zero h f =
          let same : (record { first = page_of w k 0; turn = turn_of w k; pages = length (pages_of g) }) ≡ group = some_same (record { first = page_of w k 0; turn = turn_of w k; pages = length (pages_of g) }) group h in
          subst (λ (u : UnderWay). u.first + u.pages ≤ 16 * w) same here
        where
          some_same : (x y : UnderWay) → Some x ≡ Some y → x ≡ y
          some_same x y q = cc
      by_test false (suc m) h f = f m h

-- ---- a group is handed in

pub room-on : (w first : ℕ) (bytes : List ℕ) (past : List ClientEvent) → 0 < w → IsPut (over w) past → Follows (over w) (Group bytes) past → first ≡ length (groups_in past) % w * 16
    → HasRoomOn w first (first + length (pages_of bytes)) past
room-on w first bytes past some p f at = record {
  once = λ page lo hi.
      let few : length (pages_of bytes) ≤ 16 = few_pages bytes f.2 in
      parts-once w page past some p f.0 (let e : page / 16 ≡ length (groups_in past) % w = omega arith in e);
}

-- the jobs and the pages of a group, and its place
pub stand-taken : (w first : ℕ) (bytes : List ℕ) (past : List ClientEvent) (g h : RegisteredGroups) → RegisteredStand w past g → Follows (over w) (Group bytes) past
    → first ≡ length (groups_in past) % w * 16 → PartsTaken w first (pages_of bytes) past h.slots.items h.jobs → h.jobs.kept ≡ g.jobs.kept
    → h.under_way.items ≡ g.under_way.items ++ (record { first = first; turn = length (groups_in past) / w; pages = length (pages_of bytes) }) ∷ []
    → h.count ≡ g.count + 1 → h.waiting.items ≡ g.waiting.items ++ length bytes ∷ [] → length h.slots.items ≡ length g.slots.items
    → vec_capacity h.under_way ≡ vec_capacity g.under_way → RegisteredStand w (Group bytes ∷ past) h
stand-taken w first bytes past g h s f at taken kept under_way count waiting pool room =
    let n : ℕ = length (groups_in past) in
    let less : n + 1 - 1 ≡ n = omega arith in
    let place : page_of w (1 + n) 0 ≡ first = ap (λ (k : ℕ). page_of w k 0) (let e : 1 + n ≡ n + 1 = omega arith in e) ∙ first_page w n ∙ sym at in
    let turn : turn_of w (1 + n) ≡ n / w = ap (λ (k : ℕ). k / w) (let e : 1 + n - 1 ≡ n = omega arith in e) in
    let within : length (requests_sent past) ≤ n = (in_turn (over w) past s.lawful).1 (wants_parts (over w) past f.0).0 in
    let some : 0 < w = (let o = s.some in omega arith) in
    let own : UnderWay = record { first = page_of w (1 + n) 0; turn = turn_of w (1 + n); pages = length (pages_of bytes) } in
    let busy : is_back past own ≡ false =
    sym (unloaded-is w (1 + n) 0 (pages_of bytes) past) ∙ ap (λ (k : ℕ). are_unloaded w k 0 (pages_of bytes) past) (let e : 1 + n ≡ n + 1 = omega arith in e)
    ∙ not_back w n (pages_of bytes) past some s.lawful within (has_pages bytes f.1) in
    let last : under_way_of past (own ∷ []) ≡ own ∷ [] = ap (λ (t : Bool). cond (not t) (own ∷ []) []) busy in
    let first_at : loads_on_free_pages w first (pages_of bytes) past ≡ loads_on_free_pages w (page_of w (n + 1) 0) (pages_of bytes) past =
    ap (λ (k : ℕ). loads_on_free_pages w k (pages_of bytes) past) (at ∙ sym (first_page w n)) in
    record {
      lawful = (f, s.lawful);
      due = stand-group (jobs_due w past ++ loads_on_free_pages w first (pages_of bytes) past) (jobs_due w past ++ loads_on_free_pages w (page_of w (n + 1) 0) (pages_of bytes) past)
          h.jobs (ap (λ (ws : List Work). jobs_due w past ++ ws) first_at) taken.due;
      kept = kept ∙ s.kept;
      slots = stand-handed w first bytes past h.slots.items h.jobs (few_pages bytes f.2) at taken;
      under_way = under_way
          ∙ ap (λ (xs : List UnderWay). xs ++ (record { first = first; turn = n / w; pages = length (pages_of bytes) }) ∷ []) s.under_way
          ∙ ap (λ (k : ℕ). under_way_of past (windows_from w 1 (groups_in past)) ++ (record { first = k; turn = n / w; pages = length (pages_of bytes) }) ∷ []) (sym place)
          ∙ ap (λ (k : ℕ). under_way_of past (windows_from w 1 (groups_in past)) ++ (record { first = page_of w (1 + n) 0; turn = k; pages = length (pages_of bytes) }) ∷ []) (sym turn)
          ∙ ap (λ (xs : List UnderWay). under_way_of past (windows_from w 1 (groups_in past)) ++ xs) (sym last)
          ∙ sym (filter-append (λ (u : UnderWay). not (is_back past u)) (windows_from w 1 (groups_in past)) (own ∷ []))
          ∙ ap (under_way_of past) (sym (groups-append w 1 (groups_in past) bytes))
          ∙ under_way-same past (Group bytes ∷ past) (windows_from w 1 (groups_in past ++ bytes ∷ [])) (record { same = λ page. refl });
      count = count ∙ ap (λ (k : ℕ). k + 1) s.count ∙ sym (length-append (groups_in past) (bytes ∷ []));
      waiting = waiting ∙ ap (λ (xs : List ℕ). xs ++ length bytes ∷ []) s.waiting
          ∙ sym (map-append size_of (drop (length (requests_sent past)) (groups_in past)) (bytes ∷ []))
          ∙ ap (map size_of) (sym (drop-append-le (length (requests_sent past)) (groups_in past) (bytes ∷ []) within));
      pool = pool ∙ s.pool;
      some = s.some;
      few = s.few;
      room = omega (arith, s.room, room);
    } where
      stand-group : (xs ys : List Work) (q : Jobs) → xs ≡ ys → JobsStand xs past q → JobsStand ys (Group bytes ∷ past) q
      stand-group xs ys q e j = let k = subst (λ (zs : List Work). JobsStand zs past q) e j in
          record { due = k.due; in_turn = k.in_turn; given = k.given; outstanding = k.outstanding }

-- ---- a job is given

pub stand-given : (w : ℕ) (past : List ClientEvent) (g h : RegisteredGroups) (o : Option Job) → RegisteredStand w past g → has_failed past ≡ false
    → o ≡ job_in_turn w past → JobsStand (jobs_due w past) (after_giving o past) h.jobs → h.jobs.kept ≡ g.jobs.kept
    → h.slots.items ≡ g.slots.items → h.under_way.items ≡ g.under_way.items → h.count ≡ g.count → h.waiting.items ≡ g.waiting.items
    → vec_capacity h.under_way ≡ vec_capacity g.under_way → RegisteredStand w (after_giving (job_in_turn w past) past) h
stand-given w past g h o s going e j kept slots under_way count waiting room =
    subst (λ (p : Option Job). RegisteredStand w (after_giving p past) h) e (by_job o e j) where
      by_job : (p : Option Job) → p ≡ job_in_turn w past → JobsStand (jobs_due w past) (after_giving p past) h.jobs → RegisteredStand w (after_giving p past) h
      by_job None f k = record {
        lawful = s.lawful;
        due = k;
        kept = kept ∙ s.kept;
        slots = subst (SlotsStand w past) (sym slots) s.slots;
        under_way = under_way ∙ s.under_way;
        count = count ∙ s.count;
        waiting = waiting ∙ s.waiting;
        pool = ap length slots ∙ s.pool;
        some = s.some;
        few = s.few;
        room = omega (arith, s.room, room);
      }
      by_job (Some job) f k =
          let number : job.number ≡ length (jobs_given past) = number_is (slice_get (jobs_due w past) (length (jobs_given past))) f in
          let due : next_job (over w) past ≡ Some (record { number = length (jobs_given past); work = job.work }) =
          ap (λ (t : Bool). cond t None (job_in_turn w past)) going ∙ sym f ∙ ap (λ (n : ℕ). Some (record { number = n; work = job.work })) number in
          record {
            lawful = (due, s.lawful);
            due = k;
            kept = kept ∙ s.kept;
            slots = gave-slots job.work h.slots.items (subst (SlotsStand w past) (sym slots) s.slots);
            under_way = under_way ∙ s.under_way ∙ under_way-same past (Gave job.work ∷ past) (windows_from w 1 (groups_in past)) (record { same = λ page. refl });
            count = count ∙ s.count;
            waiting = waiting ∙ s.waiting;
            pool = ap length slots ∙ s.pool;
            some = s.some;
            few = s.few;
            room = omega (arith, s.room, room);
          }
        where
          number_is : (q : Option Work) → Some job ≡ numbered (length (jobs_given past)) q → job.number ≡ length (jobs_given past)
          number_is None z = absurd (let b : ⊥ = cc in b)
          number_is (Some work) z = ap (λ (x : Option Job). elim x [ None ↦ job.number | Some y ↦ y.number ]) z

          gave-slots : (work : Work) (slots : List Page) → SlotsStand w past slots → SlotsStand w (Gave work ∷ past) slots
          gave-slots work slots q = record {
            each = λ page it there.
                let old = q.each page it there in
                record { waiting = old.waiting; fresh = old.fresh; free = old.free; used = old.used; unloads = old.unloads };
          }

-- ---- a job is completed

pub closed-of : (w : ℕ) (past : List ClientEvent) (c : Completion) (g h : RegisteredGroups) (a : AnswersJob past c) → RegisteredStand w past g
    → ((came_due : List Work) → JobsStand came_due past g.jobs → JobsStand came_due (Completed c ∷ past) h.jobs) → h.jobs.kept ≡ g.jobs.kept + 1
    → h.slots.items ≡ g.slots.items → h.under_way.items ≡ g.under_way.items → h.count ≡ g.count → h.waiting.items ≡ g.waiting.items
    → vec_capacity h.under_way ≡ vec_capacity g.under_way → JobClosed w past c h
closed-of w past c g h a s jobs kept slots under_way count waiting room = record {
  lawful = s.lawful;
  answers_it = a;
  due = jobs (jobs_due w past) s.due;
  kept = kept ∙ ap (λ (k : ℕ). k + 1) s.kept;
  slots = subst (SlotsStand w past) (sym slots) s.slots;
  under_way = under_way ∙ s.under_way;
  count = count ∙ s.count;
  waiting = waiting ∙ s.waiting;
  pool = ap length slots ∙ s.pool;
  some = s.some;
  few = s.few;
  room = omega (arith, s.room, room);
}

one_less : (a b : ℕ) → a + 1 ≡ b + 1 → a ≡ b
one_less a b e = omega (arith, e)

-- whose page is in the pool
load_is : (d : Descriptor) (work : Work) → IsOfKind work (Loaded d) → 256 ≤ d.token
load_is d (Load p r bytes) fits = fits.2
load_is d (Fetch e) fits = absurd fits
load_is d (Place e bytes) fits = absurd fits
load_is d (Unload t) fits = absurd fits

pub has_token : (w number : ℕ) (d : Descriptor) (past : List ClientEvent) (g : RegisteredGroups) → JobClosed w past (record { number = number; result = Loaded d }) g → 256 ≤ d.token
has_token w number d past g s = load_is d s.answers_it.work s.answers_it.fits

pub load-within : (w number : ℕ) (d : Descriptor) (past : List ClientEvent) (g : RegisteredGroups) → JobClosed w past (record { number = number; result = Loaded d }) g
    → d.token % 256 < length g.slots.items
load-within w number d past g s =
    let some : 0 < length (parts_on w (d.token % 256) past) = loaded-parts w number d past s.lawful s.answers_it in
    let within : d.token % 256 < 16 * w = page-within w (d.token % 256) past (let o = s.some in omega arith) some in
    omega (arith, within, s.pool)

pub stand-loaded : (w number : ℕ) (d : Descriptor) (past : List ClientEvent) (g h : RegisteredGroups) → JobClosed w past (record { number = number; result = Loaded d }) g
    → SlotsStand w (Completed (record { number = number; result = Loaded d }) ∷ past) h.slots.items → length h.slots.items ≡ length g.slots.items
    → JobsStand (jobs_due w past) (Completed (record { number = number; result = Loaded d }) ∷ past) h.jobs → h.jobs.kept + 1 ≡ g.jobs.kept
    → h.under_way.items ≡ g.under_way.items → h.count ≡ g.count → h.waiting.items ≡ g.waiting.items → vec_capacity h.under_way ≡ vec_capacity g.under_way
    → RegisteredStand w (Completed (record { number = number; result = Loaded d }) ∷ past) h
stand-loaded w number d past g h s slots pool jobs kept under_way count waiting room =
    let none : page_freed (record { number = number; result = Loaded d }) past ≡ None = (load-done w number d past s.lawful s.answers_it).is_load in
    let due : jobs_due w past ≡ jobs_due w (Completed (record { number = number; result = Loaded d }) ∷ past) =
    sym (append-nil (jobs_due w past)) ∙ ap (λ (o : Option ℕ). jobs_due w past ++ load_after w o past) (sym none) in
    record {
      lawful = (s.answers_it, s.lawful);
      due = subst (λ (ws : List Work). JobsStand ws (Completed (record { number = number; result = Loaded d }) ∷ past) h.jobs) due jobs;
      kept = one_less h.jobs.kept (named_total (answers past).unanswered) (kept ∙ s.kept);
      slots = slots;
      under_way = under_way ∙ s.under_way
          ∙ under_way-same past (Completed (record { number = number; result = Loaded d }) ∷ past) (windows_from w 1 (groups_in past))
          (record { same = λ page. sym (ap (λ (o : Option ℕ). cond (is_page page o) (unloads_on page past + 1) (unloads_on page past)) none) });
      count = count ∙ s.count;
      waiting = waiting ∙ s.waiting;
      pool = pool ∙ s.pool;
      some = s.some;
      few = s.few;
      room = omega (arith, s.room, room);
    }

pub unload-within : (w number page : ℕ) (bytes : List ℕ) (past : List ClientEvent) (g : RegisteredGroups) → JobClosed w past (record { number = number; result = Unloaded bytes }) g
    → page_freed (record { number = number; result = Unloaded bytes }) past ≡ Some page → g.count < 18446744073709551616
    → (page < length g.slots.items) × ((it : Page) → slice_get g.slots.items page ≡ Some it → it.unloads < 18446744073709551615)
unload-within w number page bytes past g s freed limit =
    let u = unload-done w number page bytes past s.lawful s.answers_it freed in
    let busy : unloads_on page past < length (parts_on w page past) = u.busy in
    let within : page < 16 * w = page-within w page past (let o = s.some in omega arith) (omega arith) in (
      omega (arith, within, s.pool),
      λ it at.
          let counted : it.unloads ≡ unloads_on page past = (s.slots.each page it at).unloads in
          omega (arith, busy, few_parts w page past, s.count, counted, limit),
    )

pub pool-within : (w number : ℕ) (bytes : List ℕ) (past : List ClientEvent) (g : RegisteredGroups) → JobClosed w past (record { number = number; result = Unloaded bytes }) g
    → (k : ℕ) (group : UnderWay) → slice_get g.under_way.items k ≡ Some group → group.first + group.pages ≤ length g.slots.items
pool-within w number bytes past g s k group at =
    let h = within_pool w 1 k (groups_in past) past group (let o = s.some in omega arith) (all_short (over w) past s.lawful)
    (ap (λ (xs : List UnderWay). slice_get xs k) (sym s.under_way) ∙ at) in
    omega (arith, h, s.pool)

pub stand-unloaded : (w number page : ℕ) (bytes : List ℕ) (past : List ClientEvent) (g h : RegisteredGroups) → JobClosed w past (record { number = number; result = Unloaded bytes }) g
    → page_freed (record { number = number; result = Unloaded bytes }) past ≡ Some page
    → SlotsStand w (Completed (record { number = number; result = Unloaded bytes }) ∷ past) h.slots.items → length h.slots.items ≡ length g.slots.items
    → JobsStand (jobs_due w past ++ load_after w (Some page) past) (Completed (record { number = number; result = Unloaded bytes }) ∷ past) h.jobs → h.jobs.kept + 1 ≡ g.jobs.kept
    → h.under_way.items ≡ under_way_of (Completed (record { number = number; result = Unloaded bytes }) ∷ past) g.under_way.items
    → h.count ≡ g.count → h.waiting.items ≡ g.waiting.items → vec_capacity h.under_way ≡ vec_capacity g.under_way
    → RegisteredStand w (Completed (record { number = number; result = Unloaded bytes }) ∷ past) h
stand-unloaded w number page bytes past g h s freed slots pool jobs kept under_way count waiting room = record {
  lawful = (s.answers_it, s.lawful);
  due = subst (λ (o : Option ℕ). JobsStand (jobs_due w past ++ load_after w o past) (Completed (record { number = number; result = Unloaded bytes }) ∷ past) h.jobs) (sym freed) jobs;
  kept = one_less h.jobs.kept (named_total (answers past).unanswered) (kept ∙ s.kept);
  slots = slots;
  under_way = under_way ∙ ap (under_way_of (Completed (record { number = number; result = Unloaded bytes }) ∷ past)) s.under_way
      ∙ under_way-more past (Completed (record { number = number; result = Unloaded bytes }) ∷ past) (windows_from w 1 (groups_in past))
      (record { more = λ q. more (is_page q (page_freed (record { number = number; result = Unloaded bytes }) past)) (unloads_on q past) });
  count = count ∙ s.count;
  waiting = waiting ∙ s.waiting;
  pool = pool ∙ s.pool;
  some = s.some;
  few = s.few;
  room = omega (arith, s.room, room);
} where
  more : (t : Bool) (n : ℕ) → n ≤ cond t (n + 1) n
  more true n = omega arith
  more false n = omega arith

-- a Fetch or a Place is no job of a put, and changes nothing
pub stand-other : (w : ℕ) (past : List ClientEvent) (c : Completion) (g h : RegisteredGroups) (a : AnswersJob past c) → RegisteredStand w past g
    → page_unloaded (Some a.work) ≡ None → ((d : Descriptor) → c.result ≡ Loaded d → ⊥)
    → ((came_due : List Work) → JobsStand came_due past g.jobs → JobsStand came_due (Completed c ∷ past) h.jobs) → h.jobs.kept ≡ g.jobs.kept
    → h.slots.items ≡ g.slots.items → h.under_way.items ≡ g.under_way.items → h.count ≡ g.count → h.waiting.items ≡ g.waiting.items
    → vec_capacity h.under_way ≡ vec_capacity g.under_way → RegisteredStand w (Completed c ∷ past) h
stand-other w past c g h a s none other jobs kept slots under_way count waiting room =
    let freed : page_freed c past ≡ None = ap page_unloaded a.is_open ∙ none in
    let due : jobs_due w past ≡ jobs_due w (Completed c ∷ past) =
    sym (append-nil (jobs_due w past)) ∙ ap (λ (o : Option ℕ). jobs_due w past ++ load_after w o past) (sym freed) in
    record {
      lawful = (a, s.lawful);
      due = subst (λ (ws : List Work). JobsStand ws (Completed c ∷ past) h.jobs) due (jobs (jobs_due w past) s.due);
      kept = kept ∙ s.kept;
      slots = record {
        each = λ page it at.
            let old = s.slots.each page it (ap (λ (ps : List Page). slice_get ps page) (sym slots) ∙ at) in
            let same : unloads_on page (Completed c ∷ past) ≡ unloads_on page past = ap (λ (o : Option ℕ). cond (is_page page o) (unloads_on page past + 1) (unloads_on page past)) freed in
            let same_loads : descriptors_on page (Completed c ∷ past) ≡ descriptors_on page past =
            ap (λ (ds : List Descriptor). descriptors_on page past ++ ds) (no_load page c.result other) ∙ append-nil (descriptors_on page past) in
            record {
              waiting = old.waiting ∙ ap (λ (k : ℕ). drop (k + 1) (parts_on w page past)) (sym same);
              fresh = old.fresh ∙ ap (λ (ds : List Descriptor). drop (named_on page past) ds) (sym same_loads);
              free = old.free ∙ ap (λ (k : ℕ). nat_le (length (parts_on w page past)) k) (sym same);
              used = omega (arith, old.used, same);
              unloads = old.unloads ∙ sym same;
            };
      };
      under_way = under_way ∙ s.under_way
          ∙ under_way-same past (Completed c ∷ past) (windows_from w 1 (groups_in past))
          (record { same = λ page. sym (ap (λ (o : Option ℕ). cond (is_page page o) (unloads_on page past + 1) (unloads_on page past)) freed) });
      count = count ∙ s.count;
      waiting = waiting ∙ s.waiting;
      pool = ap length slots ∙ s.pool;
      some = s.some;
      few = s.few;
      room = omega (arith, s.room, room);
    } where
      no_load : (page : ℕ) (r : WorkResult) → ((d : Descriptor) → r ≡ Loaded d → ⊥) → loaded_by page r ≡ []
      no_load page (Loaded d) f = absurd (f d refl)
      no_load page (Fetched bytes) f = refl
      no_load page Placed f = refl
      no_load page (Unloaded bytes) f = refl
      no_load page (Refused status) f = refl

-- what took a page back is an Unload, and has its bytes
pub taken_back : (work : Work) (page : ℕ) (r : WorkResult) → IsOfKind work r → page_unloaded (Some work) ≡ Some page → (bytes : List ℕ) × (r ≡ Unloaded bytes)
taken_back (Load p q b) page r fits e = absurd (let x : ⊥ = cc in x)
taken_back (Fetch d) page r fits e = absurd (let x : ⊥ = cc in x)
taken_back (Place d b) page r fits e = absurd (let x : ⊥ = cc in x)
taken_back (Unload t) page (Unloaded bytes) fits e = (bytes, refl)
taken_back (Unload t) page (Loaded d) fits e = absurd fits
taken_back (Unload t) page (Fetched bytes) fits e = absurd fits
taken_back (Unload t) page Placed fits e = absurd fits
taken_back (Unload t) page (Refused status) fits e = absurd fits

-- ---- a reply

unloads-first : (rs : List Request) → unloads_of_first rs ≡ unloads_of (first_named rs)
unloads-first [] = refl
unloads-first (r ∷ rs) = refl

named-first : (rs : List Request) → length (first_named rs) + named_total (drop 1 rs) ≡ named_total rs
named-first [] = refl
named-first (r ∷ rs) = refl

pub kept-first : (w : ℕ) (past : List ClientEvent) (g : RegisteredGroups) → RegisteredStand w past g → length (first_named (answers past).unanswered) ≤ g.jobs.kept
kept-first w past g s = omega (arith, s.kept, named-first (answers past).unanswered)

pub stand-replied : (w : ℕ) (past : List ClientEvent) (message : List ℕ) (g h : RegisteredGroups) → RegisteredStand w past g → reply_fault (answers past) message ≡ None
    → JobsStand (jobs_due w past ++ unloads_of (first_named (answers past).unanswered)) past h.jobs
    → h.jobs.kept + length (first_named (answers past).unanswered) ≡ g.jobs.kept
    → h.slots.items ≡ g.slots.items → h.under_way.items ≡ g.under_way.items → h.count ≡ g.count → h.waiting.items ≡ g.waiting.items
    → vec_capacity h.under_way ≡ vec_capacity g.under_way → RegisteredStand w (Replied message ∷ past) h
stand-replied w past message g h s taken jobs kept slots under_way count waiting room =
    let due : jobs_due w past ++ unloads_of (first_named (answers past).unanswered) ≡ jobs_due w (Replied message ∷ past) =
    ap (λ (ws : List Work). jobs_due w past ++ ws) (sym (unloads-first (answers past).unanswered))
    ∙ ap (λ (o : Option ReplyFault). jobs_due w past ++ if_taken o (unloads_of_first (answers past).unanswered)) (sym taken) in
    let left : (answers (Replied message ∷ past)).unanswered ≡ drop 1 (answers past).unanswered = rw taken refl in
    record {
      lawful = (tt, s.lawful);
      due = let j = subst (λ (ws : List Work). JobsStand ws past h.jobs) due jobs in record { due = j.due; in_turn = j.in_turn; given = j.given; outstanding = j.outstanding };
      kept = last h.jobs.kept (length (first_named (answers past).unanswered)) (named_total (drop 1 (answers past).unanswered))
          (kept ∙ s.kept ∙ sym (named-first (answers past).unanswered)) ∙ ap named_total (sym left);
      slots = record {
        each = λ page it at.
            let old = s.slots.each page it (ap (λ (ps : List Page). slice_get ps page) (sym slots) ∙ at) in
            record { waiting = old.waiting; fresh = old.fresh; free = old.free; used = old.used; unloads = old.unloads };
      };
      under_way = under_way ∙ s.under_way ∙ under_way-same past (Replied message ∷ past) (windows_from w 1 (groups_in past)) (record { same = λ page. refl });
      count = count ∙ s.count;
      waiting = waiting ∙ s.waiting;
      pool = ap length slots ∙ s.pool;
      some = s.some;
      few = s.few;
      room = omega (arith, s.room, room);
    } where
      last : (a n b : ℕ) → a + n ≡ n + b → a ≡ b
      last a n b e = omega (arith, e)

pub stand-refused : (w : ℕ) (past : List ClientEvent) (message : List ℕ) (fault : ReplyFault) (g : RegisteredGroups) → RegisteredStand w past g
    → reply_fault (answers past) message ≡ Some fault → RegisteredStand w (Replied message ∷ past) g
stand-refused w past message fault g s refused =
    let due : jobs_due w past ≡ jobs_due w (Replied message ∷ past) =
    sym (append-nil (jobs_due w past)) ∙ ap (λ (o : Option ReplyFault). jobs_due w past ++ if_taken o (unloads_of_first (answers past).unanswered)) (sym refused) in
    let left : (answers (Replied message ∷ past)).unanswered ≡ (answers past).unanswered = rw refused refl in
    record {
      lawful = (tt, s.lawful);
      due = let j = subst (λ (ws : List Work). JobsStand ws past g.jobs) due s.due in record { due = j.due; in_turn = j.in_turn; given = j.given; outstanding = j.outstanding };
      kept = s.kept ∙ ap named_total (sym left);
      slots = record { each = λ page it at. let old = s.slots.each page it at in record { waiting = old.waiting; fresh = old.fresh; free = old.free; used = old.used; unloads = old.unloads } };
      under_way = s.under_way ∙ under_way-same past (Replied message ∷ past) (windows_from w 1 (groups_in past)) (record { same = λ page. refl });
      count = s.count;
      waiting = s.waiting;
      pool = s.pool;
      some = s.some;
      few = s.few;
      room = s.room;
    }

-- ---- a WRITE is given

-- the next group, and what it is known by
pub record IsNextGroup (past : List ClientEvent) (size : ℕ) (rest : List ℕ) : Type 0 where
  pub group : List ℕ
  pub get : slice_get (groups_in past) (length (requests_sent past)) ≡ Some group
  pub within : length (requests_sent past) < length (groups_in past)
  pub size_is : size ≡ length group
  pub rest_is : rest ≡ map size_of (drop (suc (length (requests_sent past))) (groups_in past))

pub next_group : (w : ℕ) (past : List ClientEvent) (g : RegisteredGroups) (size : ℕ) (rest : List ℕ) → RegisteredStand w past g → g.waiting.items ≡ size ∷ rest → IsNextGroup past size rest
next_group w past g size rest s e = by_rest (drop (length (requests_sent past)) (groups_in past)) refl (sym s.waiting ∙ e) where
  by_rest : (xs : List (List ℕ)) → drop (length (requests_sent past)) (groups_in past) ≡ xs → map size_of xs ≡ size ∷ rest → IsNextGroup past size rest
  by_rest [] p h = absurd (let b : ⊥ = cc in b)
  by_rest (x ∷ xs) p h =
      let next = next_of (length (requests_sent past)) (groups_in past) x xs p in
      record { group = x; get = next.get; within = next.within; size_is = cc; rest_is = tail_of (size_of x) size (map size_of xs) rest h ∙ ap (map size_of) (sym next.rest_is) }
    where
      tail_of : (a b : ℕ) (xs ys : List ℕ) → a ∷ xs ≡ b ∷ ys → ys ≡ xs
      tail_of a b xs ys e = cc

pub none_wait : (w : ℕ) (past : List ClientEvent) (g : RegisteredGroups) → RegisteredStand w past g → g.waiting.items ≡ [] → AllSent past
none_wait w past g s e = by_rest (drop (length (requests_sent past)) (groups_in past)) refl (sym s.waiting ∙ e) where
  by_rest : (xs : List (List ℕ)) → drop (length (requests_sent past)) (groups_in past) ≡ xs → map size_of xs ≡ [] → AllSent past
  by_rest [] p h = record { all = none_next (length (requests_sent past)) (groups_in past) p }
  by_rest (x ∷ xs) p h = absurd (let b : ⊥ = cc in b)

pub pages-due : (w first size : ℕ) (past : List ClientEvent) (q : PutRequests) (rest : List ℕ) (n : IsNextGroup past size rest) → RequestsStand (over w) past q → has_failed past ≡ false
    → first ≡ length (requests_sent past) % w * 16
    → next_request (over w) past ≡ option_map (registered_write (q.asked.sent + 1) q.offset n.group) (descriptors_for first (pages_of n.group) past)
pages-due w first size past q rest n s going at =
    let get : slice_get (groups_in past) (length (requests_sent past)) ≡ Some n.group = n.get in
    let less : length (requests_sent past) + 1 - 1 ≡ length (requests_sent past) = omega arith in
    let place : (length (requests_sent past) + 1 - 1) % w * 16 + 0 ≡ first = first_page w (length (requests_sent past)) ∙ sym at in
    let begun : next_request (over w) past ≡ option_map (registered_write (length (requests_sent past) + 1) (bytes_before (length (requests_sent past) + 1) past) n.group)
    (descriptors_for (page_of w (length (requests_sent past) + 1) 0) (pages_of n.group) past) = rw (going, get) refl in
    begun
    ∙ ap (λ (k : ℕ). option_map (registered_write (length (requests_sent past) + 1) (bytes_before (length (requests_sent past) + 1) past) n.group) (descriptors_for k (pages_of n.group) past)) place
    ∙ ap (λ (k : ℕ). option_map (registered_write (length (requests_sent past) + 1) (total (take k (groups_in past))) n.group) (descriptors_for first (pages_of n.group) past)) less
    ∙ ap (λ (k : ℕ). option_map (registered_write (length (requests_sent past) + 1) k n.group) (descriptors_for first (pages_of n.group) past)) (sym s.offset)
    ∙ ap (λ (k : ℕ). option_map (registered_write (k + 1) q.offset n.group) (descriptors_for first (pages_of n.group) past)) (sym s.asked.sent)

pub write-bytes : (k offset : ℕ) (group : List ℕ) (ds : List Descriptor)
    → header_bytes 1 1 k offset (length group) (length ds) ++ flat_map descriptor_bytes ds ≡ request_bytes (registered_write k offset group ds)
write-bytes k offset group ds = ap (λ (t : List ℕ). header_bytes 1 1 k offset (length group) (length ds) ++ t) (sym (append-nil (flat_map descriptor_bytes ds)))

total-append : (rs : List Request) (r : Request) → named_total (rs ++ r ∷ []) ≡ named_total rs + length r.descriptors
total-append [] r = omega arith
total-append (q ∷ qs) r = omega (arith, total-append qs r)

pub stand-asked : (w first count : ℕ) (past : List ClientEvent) (g h : RegisteredGroups) (r : Request) (size : ℕ) (rest : List ℕ) (n : IsNextGroup past size rest)
    → RegisteredStand w past g → next_request (over w) past ≡ Some r → length (pages_of n.group) ≡ count → descriptors_for first (pages_of n.group) past ≡ Some r.descriptors
    → SlotsNamed w first (first + count) past h.slots.items → JobsStand (jobs_due w past) past h.jobs → h.jobs.kept ≡ g.jobs.kept + length r.descriptors
    → h.waiting.items ≡ rest → length h.slots.items ≡ length g.slots.items → h.under_way.items ≡ g.under_way.items → h.count ≡ g.count
    → vec_capacity h.under_way ≡ vec_capacity g.under_way → RegisteredStand w (Sent r ∷ past) h
stand-asked w first count past g h r size rest n s due pages named slots jobs kept waiting pool under_way counted room =
    let more : suc (length (requests_sent past)) ≡ length (requests_sent past ++ r ∷ []) = sym (length-append (requests_sent past) (r ∷ []) ∙ add-one (length (requests_sent past))) in
    record {
      lawful = (due, s.lawful);
      due = record { due = jobs.due; in_turn = jobs.in_turn; given = jobs.given; outstanding = jobs.outstanding };
      kept = kept ∙ ap (λ (k : ℕ). k + length r.descriptors) s.kept ∙ sym (total-append (answers past).unanswered r);
      slots = stand-named w first count past h.slots.items r (pages_of n.group) slots pages named;
      under_way = under_way ∙ s.under_way ∙ under_way-same past (Sent r ∷ past) (windows_from w 1 (groups_in past)) (record { same = λ page. refl });
      count = counted ∙ s.count;
      waiting = waiting ∙ n.rest_is ∙ ap (λ (k : ℕ). map size_of (drop k (groups_in past))) more;
      pool = pool ∙ s.pool;
      some = s.some;
      few = s.few;
      room = omega (arith, s.room, room);
    }

-- END is given, or nothing
pub stand-ended : (w : ℕ) (past : List ClientEvent) (q : PutRequests) (g : RegisteredGroups) (o : Option Request) → RequestsStand (over w) past q → RegisteredStand w past g → AllSent past
    → next_request (over w) past ≡ o → RegisteredStand w (past_after_sending o past) g
stand-ended w past q g None rs s a e = s
stand-ended w past q g (Some r) rs s a e =
    let end = end-only (over w) past r a e in
    let none : r.descriptors ≡ [] = ap (λ (x : Request). x.descriptors) end in
    let empty : drop (length (requests_sent past)) (groups_in past) ≡ [] = drop_whole (length (requests_sent past)) (groups_in past) a.all in
    let still : drop (length (requests_sent past ++ r ∷ [])) (groups_in past) ≡ [] =
    drop_whole (length (requests_sent past ++ r ∷ [])) (groups_in past) (let l = length-append (requests_sent past) (r ∷ []) in let b = a.all in omega arith) in
    record {
      lawful = (e, s.lawful);
      due = let j = s.due in record { due = j.due; in_turn = j.in_turn; given = j.given; outstanding = j.outstanding };
      kept = s.kept ∙ (let l : length r.descriptors ≡ 0 = ap length none in omega (arith, l, total-append (answers past).unanswered r));
      slots = stand-named w 0 0 past g.slots.items r [] (subst (λ (k : ℕ). SlotsNamed w 0 k past g.slots.items) (let z : 0 ≡ 0 + 0 = refl in z) (named-none w 0 past g.slots.items s.slots)) refl (ap Some (sym none));
      under_way = s.under_way ∙ under_way-same past (Sent r ∷ past) (windows_from w 1 (groups_in past)) (record { same = λ page. refl });
      count = s.count;
      waiting = s.waiting ∙ ap (map size_of) (empty ∙ sym still);
      pool = s.pool;
      some = s.some;
      few = s.few;
      room = s.room;
    }

-- ---- room

pub has_room-is : (w : ℕ) (past : List ClientEvent) (g : RegisteredGroups) → RegisteredStand w past g → wants_group (over w) past ≡ true → length g.under_way.items < vec_capacity g.under_way
has_room-is w past g s wanted = omega (arith, room-is w past g s, wants_room w past wanted, s.room)

pub few-given : (w : ℕ) (past : List ClientEvent) (g : RegisteredGroups) → RegisteredStand w past g → length (requests_sent past) < 4294967296 → g.jobs.given < 18446744073709551615
few-given w past g s few =
    omega (arith, s.due.given, s.due.in_turn, few_jobs w past s.lawful, few_groups w past (let o = s.some in omega arith) s.lawful, s.few)

-- ---- the parts of a group, and lists

pub pages-next : (place end : ℕ) (bytes : List ℕ) → place < length bytes → end ≡ min (place + 4096) (length bytes)
    → pages_of (drop place bytes) ≡ take (end - place) (drop place bytes) ∷ pages_of (drop end bytes)
pages-next place end bytes h e =
    let size : length (drop place bytes) ≡ length bytes - place = length-drop place bytes in
    let left : length (drop end bytes) ≡ length bytes - end = length-drop end bytes in
    let count : (length (drop place bytes) + (4096 - 1)) / 4096 ≡ suc ((length (drop end bytes) + (4096 - 1)) / 4096) = omega arith in
    ap (λ (n : ℕ). parts_from n 4096 (drop place bytes)) count
    ∙ ap (λ (xs : List ℕ). xs ∷ parts_from ((length (drop end bytes) + (4096 - 1)) / 4096) 4096 (drop 4096 (drop place bytes))) (front (drop place bytes) (end - place) (omega arith))
    ∙ later ((length (drop end bytes) + (4096 - 1)) / 4096) (end - place) refl
  where
    take_whole : (n : ℕ) (xs : List ℕ) → length xs ≤ n → take n xs ≡ xs
    take_whole zero [] k = refl
    take_whole (suc n) [] k = refl
    take_whole zero (x ∷ xs) k = absurd (omega arith)
    take_whole (suc n) (x ∷ xs) k = ap (λ (t : List ℕ). x ∷ t) (take_whole n xs (omega arith))

    front : (xs : List ℕ) (n : ℕ) → n ≡ min 4096 (length xs) → take 4096 xs ≡ take n xs
    front xs n k = by_test (nat_le 4096 (length xs)) refl where
      by_test : (t : Bool) → nat_le 4096 (length xs) ≡ t → take 4096 xs ≡ take n xs
      by_test true f = let g : 4096 ≤ length xs = grind (arith, nat_tests) in ap (λ (m : ℕ). take m xs) (let z : 4096 ≡ n = omega arith in z)
      by_test false f =
          let g : length xs < 4096 = grind (arith, nat_tests) in
          take_whole 4096 xs (omega arith) ∙ sym (take_whole n xs (omega arith))

    later : (m n : ℕ) → n ≡ end - place → take (end - place) (drop place bytes) ∷ parts_from m 4096 (drop 4096 (drop place bytes)) ≡ take (end - place) (drop place bytes) ∷ parts_from m 4096 (drop end bytes)
    later m n k = by_test (nat_le (place + 4096) (length bytes)) refl where
      none : (j : ℕ) (xs : List ℕ) → length xs ≤ j → drop j xs ≡ []
      none zero [] q = refl
      none (suc j) [] q = refl
      none zero (x ∷ xs) q = absurd (omega arith)
      none (suc j) (x ∷ xs) q = none j xs (omega arith)

      by_test : (t : Bool) → nat_le (place + 4096) (length bytes) ≡ t
          → take (end - place) (drop place bytes) ∷ parts_from m 4096 (drop 4096 (drop place bytes)) ≡ take (end - place) (drop place bytes) ∷ parts_from m 4096 (drop end bytes)
      by_test true f =
          let g : place + 4096 ≤ length bytes = grind (arith, nat_tests) in
          let z : place + 4096 ≡ end = omega arith in
          ap (λ (xs : List ℕ). take (end - place) (drop place bytes) ∷ parts_from m 4096 xs) (drop-drop 4096 place bytes ∙ ap (λ (j : ℕ). drop j bytes) z)
      by_test false f =
          let g : length bytes < place + 4096 = grind (arith, nat_tests) in
          ap (λ (xs : List ℕ). take (end - place) (drop place bytes) ∷ parts_from m 4096 xs)
          (none 4096 (drop place bytes) (let l = length-drop place bytes in omega arith) ∙ sym (none end bytes (omega arith)))

pub length-pages : (ps : List LoadedPage) → length (map descriptor_in ps) ≡ length ps
length-pages [] = refl
length-pages (p ∷ ps) = omega (arith, length-pages ps)
