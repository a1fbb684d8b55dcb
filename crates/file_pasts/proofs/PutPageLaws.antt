-- The laws on the loads and unloads of a put over registered pages.
use Rattle.std.proofs.Common.{◌≡◌, ◌⊎◌, inl, inr, ℕ, zero, suc, ◌+◌, ◌-◌, ◌*◌, ◌/◌, ◌%◌, ◌<◌, ◌≤◌, ◌==◌, Bool, true, false, cond, Option, Some, None, List, [], ◌∷◌, ◌++◌, length, take, drop, map, refl, sym, ap, ◌∙◌, subst, length-append, append_assoc, arith}
use Rattle.std.specs.Prelude.{slice_get, option_to_list, option_map}
use Rattle.std.proofs.lemmas.Bool.Decides.{nat_tests}
use Rattle.std.proofs.lemmas.List.{append-nil, take-append-drop}
use Rattle.std.proofs.lemmas.Grind.{flat_map-append}
use Rattle.smbd_base.specs.Tokens.{PageToken}
use Rattle.smbd_base.specs.declared.right.Right.TheVariants as right
use Rattle.buffer_descriptor.specs.declared.descriptor.Descriptor.{Descriptor}
use Rattle.file_messages.specs.declared.fault.ReplyFault.{ReplyFault}
use Rattle.file_messages.specs.declared.message.Request.{Request}
use Rattle.file_messages.specs.declared.job.Work.{Work}
use Rattle.file_messages.specs.declared.job.Work.TheVariants.{Load}
use Rattle.file_messages.specs.Runs.{pages_of, page_of, registered_write, end_request}
use Rattle.file_pasts.specs.ClientPast.{ClientEvent, Group, End, Sent, Replied, Gave, Completed, Received, groups_in, requests_sent, jobs_given, descriptors_on, loaded_by, token_of_descriptor, reply_fault, replied, answers, page_freed, unloads_on}
use Rattle.file_pasts.specs.PutDue.{jobs_due, parts_on, part_on, is_free, load_of_part, load_after, loads_on_free_pages, unloads_of, unloads_of_first, if_taken, named_on, descriptors_for, in_front, bytes_before}
use Rattle.file_pasts.specs.InStep.{count, is_load_on, over, InStep}
use Rattle.file_pasts.specs.PutPages.{PagesGoInStep, LoadsComeDue, bytes_loaded, ArePutJobs, LoadsCarryParts, JobsAreOfAPut, PartsAreOfGroups, LoadsOwnParts, NamedAreLoaded, first_if_taken, requests_replied, tokens_named, token_unloaded, tokens_unloaded, RequestsAreAnswered, UnloadsFollowReplies}
use Rattle.file_pasts.proofs.PutLaw.{SentCase, sent_case}
use Rattle.file_pasts.proofs.InStep.{in_step}
use Rattle.file_pasts.proofs.LoadsDue.{loads-due}
use Rattle.file_pasts.proofs.Owning.{bytes_loaded-append, carries-parts}
use Rattle.file_pasts.proofs.Owned.{owned}
use Rattle.file_pasts.proofs.NamedPages.{on_page, on_page-at}
use Rattle.file_pasts.proofs.Naming.{pl, parts-is, length-pl, wholes_before, uses, uses-turn, place_within}

pub pages_in_step : PagesGoInStep
pages_in_step w page past p = in_step w page past p

pub loads_come_due : LoadsComeDue
loads_come_due w page past p = loads-due w page past p

-- ---- what the Loads carry

pub loads_carry : LoadsCarryParts
loads_carry w page past p =
    let s : InStep w page past = in_step w page past p in
    let n : ℕ = count (is_load_on page) (jobs_due w past) in (
      bytes_loaded page s.rest ++ drop n (parts_on w page past),
      sym (append_assoc (bytes_loaded page (jobs_given past)) (bytes_loaded page s.rest) (drop n (parts_on w page past)))
          ∙ ap (λ (t : List (List ℕ)). t ++ drop n (parts_on w page past))
          (sym (bytes_loaded-append page (jobs_given past) s.rest) ∙ ap (bytes_loaded page) (sym s.given) ∙ carries-parts w page past p)
          ∙ take-append-drop n (parts_on w page past),
    )

jobs-append : (xs ys : List Work) → ArePutJobs xs → ArePutJobs ys → ArePutJobs (xs ++ ys)
jobs-append [] ys a b = b
jobs-append (x ∷ xs) ys a b = (a.0, jobs-append xs ys a.1 b)

jobs-front : (xs ys : List Work) → ArePutJobs (xs ++ ys) → ArePutJobs xs
jobs-front [] ys a = tt
jobs-front (x ∷ xs) ys a = (a.0, jobs-front xs ys a.1)

jobs-unloads : (ds : List Descriptor) → ArePutJobs (unloads_of ds)
jobs-unloads [] = tt
jobs-unloads (d ∷ ds) = (tt, jobs-unloads ds)

jobs-replied : (o : Option ReplyFault) (rs : List Request) → ArePutJobs (if_taken o (unloads_of_first rs))
jobs-replied (Some fault) rs = tt
jobs-replied None [] = tt
jobs-replied None (r ∷ rs) = jobs-unloads r.descriptors

jobs-loads : (w page : ℕ) (parts : List (List ℕ)) (past : List ClientEvent) → ArePutJobs (loads_on_free_pages w page parts past)
jobs-loads w page [] past = tt
jobs-loads w page (part ∷ parts) past = by_free (is_free w page past) (jobs-loads w (page + 1) parts past) where
  by_free : (t : Bool) → ArePutJobs (loads_on_free_pages w (page + 1) parts past) → ArePutJobs (cond t (Load page right.Fetch part ∷ []) [] ++ loads_on_free_pages w (page + 1) parts past)
  by_free true later = (tt, later)
  by_free false later = later

jobs-after : (w : ℕ) (o : Option ℕ) (past : List ClientEvent) → ArePutJobs (load_after w o past)
jobs-after w None past = tt
jobs-after w (Some page) past = by_part (slice_get (parts_on w page past) (unloads_on page past + 1)) where
  by_part : (o : Option (List ℕ)) → ArePutJobs (load_of_part page o)
  by_part None = tt
  by_part (Some part) = (tt, tt)

jobs-due : (w : ℕ) (past : List ClientEvent) → ArePutJobs (jobs_due w past)
jobs-due w [] = tt
jobs-due w (Group bytes ∷ past) = jobs-append (jobs_due w past) _ (jobs-due w past) (jobs-loads w (page_of w (length (groups_in past) + 1) 0) (pages_of bytes) past)
jobs-due w (End ∷ past) = jobs-due w past
jobs-due w (Sent r ∷ past) = jobs-due w past
jobs-due w (Replied m ∷ past) = jobs-append (jobs_due w past) _ (jobs-due w past) (jobs-replied (reply_fault (answers past) m) (answers past).unanswered)
jobs-due w (Gave work ∷ past) = jobs-due w past
jobs-due w (Completed c ∷ past) = jobs-append (jobs_due w past) _ (jobs-due w past) (jobs-after w (page_freed c past) past)
jobs-due w (Received bytes ∷ past) = jobs-due w past

pub jobs_of_a_put : JobsAreOfAPut
jobs_of_a_put w past p =
    let s : InStep w 0 past = in_step w 0 past p in
    jobs-front (jobs_given past) s.rest (subst ArePutJobs s.given (jobs-due w past))

-- ---- parts of groups

-- the part at this place came with one of the groups
record Comes (w q j i : ℕ) (part : List ℕ) (gs : List (List ℕ)) : Type 0 where
  n : ℕ
  group : List ℕ
  at : slice_get gs n ≡ Some group
  mine : part_on w q (j + n) group ≡ part ∷ []
  place : length (pl w q j (take n gs)) ≡ i

-- the group has a part for the page
record Single (w q k : ℕ) (g : List ℕ) : Type 0 where
  on : (q / 16 == k % w) ≡ true
  part : List ℕ
  is : slice_get (pages_of g) (q % 16) ≡ Some part
  one : part_on w q k g ≡ part ∷ []

part-single : (w q k : ℕ) (g : List ℕ) → (part_on w q k g ≡ []) ⊎ Single w q k g
part-single w q k g = by_test (q / 16 == k % w) refl (slice_get (pages_of g) (q % 16)) refl where
  by_test : (t : Bool) → (q / 16 == k % w) ≡ t → (o : Option (List ℕ)) → slice_get (pages_of g) (q % 16) ≡ o → (part_on w q k g ≡ []) ⊎ Single w q k g
  by_test true e (Some part) o = inr (record { on = e; part = part; is = o; one = ap (λ (t : Bool). cond t (option_to_list (slice_get (pages_of g) (q % 16))) []) e ∙ ap option_to_list o })
  by_test true e None o = inl (ap (λ (t : Bool). cond t (option_to_list (slice_get (pages_of g) (q % 16))) []) e ∙ ap option_to_list o)
  by_test false e o h = inl (ap (λ (t : Bool). cond t (option_to_list (slice_get (pages_of g) (q % 16))) []) e)

comes : (w q j i : ℕ) (part : List ℕ) (gs : List (List ℕ)) → slice_get (pl w q j gs) i ≡ Some part → Comes w q j i part gs
unfolding pl
comes w q j i part [] e = absurd (let b : ⊥ = cc in b)
comes w q j i part (g ∷ gs) e = by_first (part-single w q j g) i e (λ k h. comes w q (j + 1) k part gs h) where
  later : (k : ℕ) (front : List (List ℕ)) → part_on w q j g ≡ front → Comes w q (j + 1) k part gs → Comes w q j (length front + k) part (g ∷ gs)
  later k front f c = record {
    n = suc c.n;
    group = c.group;
    at = c.at;
    mine = ap (λ (x : ℕ). part_on w q x c.group) (let z : j + suc c.n ≡ j + 1 + c.n = omega arith in z) ∙ c.mine;
    place = length-append (part_on w q j g) (pl w q (j + 1) (take c.n gs)) ∙ ap (λ (x : ℕ). x + length (pl w q (j + 1) (take c.n gs))) (ap length f) ∙ ap (λ (x : ℕ). length front + x) c.place;
  }

  same_part : (x y : List ℕ) → Some x ≡ Some y → x ≡ y
  same_part x y e = cc

  by_first : (part_on w q j g ≡ []) ⊎ Single w q j g → (k : ℕ) → slice_get (part_on w q j g ++ pl w q (j + 1) gs) k ≡ Some part
      → ((m : ℕ) → slice_get (pl w q (j + 1) gs) m ≡ Some part → Comes w q (j + 1) m part gs) → Comes w q j k part (g ∷ gs)
  by_first (inl none) k h ih =
      subst (λ (x : ℕ). Comes w q j x part (g ∷ gs)) (let z : 0 + k ≡ k = omega arith in z)
      (later k [] none (ih k (ap (λ (t : List (List ℕ)). slice_get (t ++ pl w q (j + 1) gs) k) (sym none) ∙ h)))
  by_first (inr s) zero h ih =
      let same : s.part ≡ part = same_part s.part part (ap (λ (t : List (List ℕ)). slice_get (t ++ pl w q (j + 1) gs) 0) (sym s.one) ∙ h) in
      record { n = 0; group = g; at = refl; mine = ap (λ (k : ℕ). part_on w q k g) (let z : j + 0 ≡ j = omega arith in z) ∙ s.one ∙ ap (λ (y : List ℕ). y ∷ []) same; place = refl }
  by_first (inr s) (suc k) h ih =
      subst (λ (x : ℕ). Comes w q j x part (g ∷ gs)) (let z : 1 + k ≡ suc k = omega arith in z)
      (later k (s.part ∷ []) s.one (ih k (ap (λ (t : List (List ℕ)). slice_get (t ++ pl w q (j + 1) gs) (suc k)) (sym s.one) ∙ h)))

pub parts_of_groups : PartsAreOfGroups
parts_of_groups w page turn part past some p e =
    let c : Comes w page 0 turn part (groups_in past) = comes w page 0 turn part (groups_in past) (ap (λ (ps : List (List ℕ)). slice_get ps turn) (sym (parts-is w page past)) ∙ e) in
    let k_is : 0 + c.n ≡ c.n = omega arith in
    let n_is : c.n + 1 - 1 ≡ c.n = omega arith in
    let mine = by_single (0 + c.n) c.group (part-single w page (0 + c.n) c.group) c.mine in
    let on : page / 16 ≡ c.n % w = (let t : (page / 16 == (0 + c.n) % w) ≡ true = mine.0 in let x : page / 16 ≡ (0 + c.n) % w = grind (arith, nat_tests) in x ∙ ap (λ (k : ℕ). k % w) k_is) in
    let size : length (take c.n (groups_in past)) ≡ c.n = length-take (groups_in past) c.n (let h : c.n < length (groups_in past) = place_within (groups_in past) c.n c.group c.at in omega arith) in
    record {
      before = c.n;
      group = c.group;
      at = c.at;
      page_is = (let d : page ≡ page / 16 * 16 + page % 16 = omega arith in d) ∙ ap (λ (x : ℕ). x * 16 + page % 16) (on ∙ ap (λ (k : ℕ). k % w) (sym n_is));
      turn_is = sym c.place ∙ length-pl w page 0 (take c.n (groups_in past)) (wholes_before (over w) past c.n c.group p c.at)
          ∙ ap (λ (x : ℕ). uses w x 0 (length (take c.n (groups_in past)))) on ∙ ap (uses w (c.n % w) 0) size ∙ uses-turn w c.n some ∙ ap (λ (k : ℕ). k / w) (sym n_is);
      part_is = mine.1;
    }
  where
    by_single : (k : ℕ) (g : List ℕ) → (part_on w page k g ≡ []) ⊎ Single w page k g → part_on w page k g ≡ part ∷ []
        → ((page / 16 == k % w) ≡ true) × (slice_get (pages_of g) (page % 16) ≡ Some part)
    by_single k g (inl none) one = absurd (nothing (sym none ∙ one)) where
      nothing : [] ≡ part ∷ [] → ⊥
      nothing h = cc
    by_single k g (inr s) one = (s.on, s.is ∙ ap (λ (y : List ℕ). Some y) (same s.part (sym s.one ∙ one))) where
      same : (x : List ℕ) → x ∷ [] ≡ part ∷ [] → x ≡ part
      same x h = cc

    length-take : (xs : List (List ℕ)) (n : ℕ) → n ≤ length xs → length (take n xs) ≡ n
    length-take xs zero h = refl
    length-take [] (suc n) h = absurd (omega arith)
    length-take (x ∷ xs) (suc n) h = omega (arith, length-take xs n (omega arith))

-- ---- tokens

pub loads_own : LoadsOwnParts
loads_own w page turn d past p k e = (owned w page past p k).own turn d e

-- the descriptors of a WRITE were found among those of loads
found : (page : ℕ) (parts : List (List ℕ)) (past : List ClientEvent) (ds : List Descriptor) (i : ℕ) (d : Descriptor) → descriptors_for page parts past ≡ Some ds
    → slice_get ds i ≡ Some d → (turn : ℕ) × (slice_get (descriptors_on (token_of_descriptor d).page past) turn ≡ Some d)
found page [] past ds i d e at = absurd (nothing ds i e at) where
  nothing : (xs : List Descriptor) (k : ℕ) → Some [] ≡ Some xs → slice_get xs k ≡ Some d → ⊥
  nothing [] k p q = cc
  nothing (x ∷ xs) k p q = cc
found page (part ∷ parts) past ds i d e at =
    by_parts (slice_get (descriptors_on page past) (named_on page past)) (descriptors_for (page + 1) parts past) refl refl e i at
    (λ later k q f. found (page + 1) parts past later k d q f) where
      same_list : (xs ys : List Descriptor) → Some xs ≡ Some ys → xs ≡ ys
      same_list xs ys h = cc

      same_one : (x y : Descriptor) → Some x ≡ Some y → x ≡ y
      same_one x y h = cc

      by_parts : (o : Option Descriptor) (l : Option (List Descriptor)) → slice_get (descriptors_on page past) (named_on page past) ≡ o → descriptors_for (page + 1) parts past ≡ l
          → in_front o l ≡ Some ds → (k : ℕ) → slice_get ds k ≡ Some d
          → ((later : List Descriptor) (m : ℕ) → descriptors_for (page + 1) parts past ≡ Some later → slice_get later m ≡ Some d
          → (turn : ℕ) × (slice_get (descriptors_on (token_of_descriptor d).page past) turn ≡ Some d))
          → (turn : ℕ) × (slice_get (descriptors_on (token_of_descriptor d).page past) turn ≡ Some d)
      by_parts None l p q h k f ih = absurd (let b : ⊥ = cc in b)
      by_parts (Some x) None p q h k f ih = absurd (let b : ⊥ = cc in b)
      by_parts (Some x) (Some later) p q h zero f ih =
          let x_is : x ≡ d = same_one x d (ap (λ (xs : List Descriptor). slice_get xs 0) (same_list (x ∷ later) ds h) ∙ f) in
          let page_is : (token_of_descriptor d).page ≡ page = ap (λ (y : Descriptor). (token_of_descriptor y).page) (sym x_is) ∙ on_page-at page (descriptors_on page past) (named_on page past) x (on_page page past) p in
          (named_on page past, ap (λ (y : ℕ). slice_get (descriptors_on y past) (named_on page past)) page_is ∙ p ∙ ap (λ (y : Descriptor). Some y) x_is)
      by_parts (Some x) (Some later) p q h (suc k) f ih =
          ih later k q (ap (λ (xs : List Descriptor). slice_get xs (suc k)) (same_list (x ∷ later) ds h) ∙ f)

get-left : {A : Type 0} (xs ys : List A) (j : ℕ) (x : A) → slice_get xs j ≡ Some x → slice_get (xs ++ ys) j ≡ Some x
get-left [] ys j x e = absurd (let b : ⊥ = cc in b)
get-left (z ∷ zs) ys zero x e = e
get-left (z ∷ zs) ys (suc j) x e = get-left zs ys j x e

-- of a list with one more, an element is of the list, or the last
get-more : (xs : List Request) (y : Request) (j : ℕ) (r : Request) → slice_get (xs ++ y ∷ []) j ≡ Some r → (slice_get xs j ≡ Some r) ⊎ (y ≡ r)
get-more [] y zero r e = inr cc
get-more [] y (suc j) r e = absurd (let b : ⊥ = cc in b)
get-more (x ∷ xs) y zero r e = inl e
get-more (x ∷ xs) y (suc j) r e = get-more xs y j r e

named_now : (w i : ℕ) (r : Request) (d : Descriptor) (past : List ClientEvent) → SentCase (over w) past r → slice_get r.descriptors i ≡ Some d
    → (turn : ℕ) × (slice_get (descriptors_on (token_of_descriptor d).page past) turn ≡ Some d)
unfolding SentCase
named_now w i r d past (inl x) at = by_write (descriptors_for (page_of w (length (requests_sent past) + 1) 0) (pages_of x.0) past) refl x.2 where
  by_write : (o : Option (List Descriptor)) → descriptors_for (page_of w (length (requests_sent past) + 1) 0) (pages_of x.0) past ≡ o
      → option_map (registered_write (length (requests_sent past) + 1) (bytes_before (length (requests_sent past) + 1) past) x.0) o ≡ Some r
      → (turn : ℕ) × (slice_get (descriptors_on (token_of_descriptor d).page past) turn ≡ Some d)
  by_write None q e = absurd (let b : ⊥ = cc in b)
  by_write (Some ds) q e =
      let r_is : registered_write (length (requests_sent past) + 1) (bytes_before (length (requests_sent past) + 1) past) x.0 ds ≡ r = cc in
      found (page_of w (length (requests_sent past) + 1) 0) (pages_of x.0) past ds i d q (ap (λ (y : Request). slice_get y.descriptors i) r_is ∙ at)
named_now w i r d past (inr x) at =
    absurd (nothing (ap (λ (y : Request). slice_get y.descriptors i) (sym x.2) ∙ at)) where
      nothing : slice_get (end_request 0 0).descriptors i ≡ Some d → ⊥
      nothing h = cc

pub named_loaded : NamedAreLoaded
named_loaded w k i r d [] p e at = absurd (let b : ⊥ = cc in b)
named_loaded w k i r d (Group bytes ∷ past) p e at = named_loaded w k i r d past p.1 e at
named_loaded w k i r d (End ∷ past) p e at = named_loaded w k i r d past p.1 e at
named_loaded w k i r d (Sent s ∷ past) p e at = by_case (get-more (requests_sent past) s k r e) (λ before. named_loaded w k i r d past p.1 before at) where
  by_case : (slice_get (requests_sent past) k ≡ Some r) ⊎ (s ≡ r)
      → (slice_get (requests_sent past) k ≡ Some r → (turn : ℕ) × (slice_get (descriptors_on (token_of_descriptor d).page past) turn ≡ Some d))
      → (turn : ℕ) × (slice_get (descriptors_on (token_of_descriptor d).page past) turn ≡ Some d)
  by_case (inl before) ih = ih before
  by_case (inr same) ih = named_now w i s d past (sent_case (over w) past s p.0) (ap (λ (y : Request). slice_get y.descriptors i) same ∙ at)
named_loaded w k i r d (Replied m ∷ past) p e at = named_loaded w k i r d past p.1 e at
named_loaded w k i r d (Gave work ∷ past) p e at = named_loaded w k i r d past p.1 e at
named_loaded w k i r d (Completed c ∷ past) p e at =
    let t = named_loaded w k i r d past p.1 e at in
    (t.0, get-left (descriptors_on (token_of_descriptor d).page past) (loaded_by (token_of_descriptor d).page c.result) t.0 d t.1)
named_loaded w k i r d (Received bytes ∷ past) p e at = absurd p.0

-- ---- unloads

pub requests_answered : RequestsAreAnswered
requests_answered [] = refl
requests_answered (Group bytes ∷ past) = requests_answered past
requests_answered (End ∷ past) = requests_answered past
requests_answered (Sent r ∷ past) =
    ap (λ (rs : List Request). rs ++ r ∷ []) (requests_answered past) ∙ append_assoc (requests_replied past) (answers past).unanswered (r ∷ [])
requests_answered (Replied m ∷ past) = by_fault (reply_fault (answers past) m) (answers past).unanswered (requests_answered past) where
  by_fault : (o : Option ReplyFault) (rs : List Request) → requests_sent past ≡ requests_replied past ++ rs
      → requests_sent past ≡ (requests_replied past ++ first_if_taken o rs) ++ (replied o (record { unanswered = rs; fault = (answers past).fault })).unanswered
  by_fault (Some fault) rs e = e ∙ ap (λ (t : List Request). t ++ rs) (sym (append-nil (requests_replied past)))
  by_fault None [] e = e ∙ ap (λ (t : List Request). t ++ []) (sym (append-nil (requests_replied past)))
  by_fault None (r ∷ rs) e = e ∙ sym (append_assoc (requests_replied past) (r ∷ []) rs)
requests_answered (Gave work ∷ past) = requests_answered past
requests_answered (Completed c ∷ past) = requests_answered past
requests_answered (Received bytes ∷ past) = requests_answered past

unloads-tokens : (ds : List Descriptor) → tokens_unloaded (unloads_of ds) ≡ map token_of_descriptor ds
unfolding token_unloaded
unloads-tokens [] = refl
unloads-tokens (d ∷ ds) = ap (λ (ts : List PageToken). token_of_descriptor d ∷ ts) (unloads-tokens ds)

pub replied-tokens : (o : Option ReplyFault) (rs : List Request) → tokens_unloaded (if_taken o (unloads_of_first rs)) ≡ tokens_named (first_if_taken o rs)
replied-tokens (Some fault) rs = refl
replied-tokens None [] = refl
replied-tokens None (r ∷ rs) = unloads-tokens r.descriptors ∙ sym (append-nil (map token_of_descriptor r.descriptors))

loads-tokens : (w page : ℕ) (parts : List (List ℕ)) (past : List ClientEvent) → tokens_unloaded (loads_on_free_pages w page parts past) ≡ []
unfolding token_unloaded
loads-tokens w page [] past = refl
loads-tokens w page (part ∷ parts) past = by_free (is_free w page past) (loads-tokens w (page + 1) parts past) where
  by_free : (t : Bool) → tokens_unloaded (loads_on_free_pages w (page + 1) parts past) ≡ [] → tokens_unloaded (cond t (Load page right.Fetch part ∷ []) [] ++ loads_on_free_pages w (page + 1) parts past) ≡ []
  by_free true later = later
  by_free false later = later

after-tokens : (w : ℕ) (o : Option ℕ) (past : List ClientEvent) → tokens_unloaded (load_after w o past) ≡ []
unfolding token_unloaded
after-tokens w None past = refl
after-tokens w (Some page) past = by_part (slice_get (parts_on w page past) (unloads_on page past + 1)) where
  by_part : (o : Option (List ℕ)) → tokens_unloaded (load_of_part page o) ≡ []
  by_part None = refl
  by_part (Some part) = refl

unloads-due : (w : ℕ) (past : List ClientEvent) → tokens_unloaded (jobs_due w past) ≡ tokens_named (requests_replied past)
unloads-due w [] = refl
unloads-due w (Group bytes ∷ past) =
    flat_map-append token_unloaded (jobs_due w past) (loads_on_free_pages w (page_of w (length (groups_in past) + 1) 0) (pages_of bytes) past)
    ∙ ap (λ (ts : List PageToken). tokens_unloaded (jobs_due w past) ++ ts) (loads-tokens w (page_of w (length (groups_in past) + 1) 0) (pages_of bytes) past)
    ∙ append-nil (tokens_unloaded (jobs_due w past)) ∙ unloads-due w past
unloads-due w (End ∷ past) = unloads-due w past
unloads-due w (Sent r ∷ past) = unloads-due w past
unloads-due w (Replied m ∷ past) =
    let o : Option ReplyFault = reply_fault (answers past) m in
    flat_map-append token_unloaded (jobs_due w past) (if_taken o (unloads_of_first (answers past).unanswered))
    ∙ ap (λ (ts : List PageToken). ts ++ tokens_unloaded (if_taken o (unloads_of_first (answers past).unanswered))) (unloads-due w past)
    ∙ ap (λ (ts : List PageToken). tokens_named (requests_replied past) ++ ts) (replied-tokens o (answers past).unanswered)
    ∙ sym (flat_map-append (λ (r : Request). map token_of_descriptor r.descriptors) (requests_replied past) (first_if_taken o (answers past).unanswered))
unloads-due w (Gave work ∷ past) = unloads-due w past
unloads-due w (Completed c ∷ past) =
    flat_map-append token_unloaded (jobs_due w past) (load_after w (page_freed c past) past)
    ∙ ap (λ (ts : List PageToken). tokens_unloaded (jobs_due w past) ++ ts) (after-tokens w (page_freed c past) past)
    ∙ append-nil (tokens_unloaded (jobs_due w past)) ∙ unloads-due w past
unloads-due w (Received bytes ∷ past) = unloads-due w past

pub unloads_follow : UnloadsFollowReplies
unloads_follow w past p =
    let s : InStep w 0 past = in_step w 0 past p in (
      unloads-due w past,
      (tokens_unloaded s.rest, sym (flat_map-append token_unloaded (jobs_given past) s.rest) ∙ ap tokens_unloaded (sym s.given) ∙ unloads-due w past),
    )
