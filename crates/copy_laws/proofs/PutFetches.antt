-- What the server of a put fetches: the bytes that the descriptors of its requests name.
use Rattle.std.proofs.Common.{◌≡◌, ℕ, ◌+◌, ◌-◌, ◌*◌, ◌/◌, ◌%◌, ◌<◌, ◌≤◌, Bool, true, false, Some, List, [], ◌∷◌, ◌++◌, length, map, count_by, refl, sym, ap, ◌∙◌, subst, arith, append_assoc, length-append, Contains}
use Rattle.std.specs.Prelude.{slice_get}
use Rattle.std.specs.List.{flat_map}
use mathlib.Core.List.{IsPrefix}
use Rattle.std.proofs.lemmas.Nat.{mod_below}
use Rattle.std.proofs.lemmas.List.Concat.{flat_map-append}
use Rattle.smbd_base.specs.declared.page_event.PageEvent.{PageEvent}
use Rattle.smbd_base.specs.Tokens.{PageToken, number_of}
use Rattle.smbd_base.proofs.EventLists.{count-no, Contains-head, Contains-tail}
use Rattle.buffer_descriptor.specs.declared.descriptor.Descriptor.{Descriptor}
use Rattle.file_messages.specs.declared.kind.CopyKind.TheVariants as kinds
use Rattle.file_messages.specs.declared.kind.Channel.TheVariants as channels
use Rattle.file_messages.specs.declared.job.Work.{Work}
use Rattle.file_messages.specs.declared.job.Work.TheVariants.{Load, Fetch, Place, Unload}
use Rattle.file_messages.specs.declared.job.WorkResult.TheVariants.{Fetched}
use Rattle.file_messages.specs.declared.job.Completion.{Completion}
use Rattle.file_messages.specs.Runs.{page_of, turn_of, pages_of, descriptors_from, descriptor_of_load, writes_from, end_request, end_if}
use Rattle.file_pasts.specs.ClientPast.{token_of_descriptor}
use Rattle.file_pasts.specs.Groups.{AreShort}
use Rattle.file_pasts.specs.ServerDue.{ServerEvent, Asked, Filled, Gave, Completed, Replied, Stored, jobs_due, AnswersJob, IsServer}
use Rattle.file_pasts.specs.ServerLaws.{works_given, jobs_needed, FetchesFrom}
use Rattle.file_pasts.proofs.Naming.{few_pages}
use Rattle.remote_access.specs.Covers.{place_in_page}
use Rattle.copy_laws.specs.ServerDone.{completions_taken}
use Rattle.copy_laws.specs.PagesOfCopies.{IsPartUnder}
use Rattle.copy_laws.proofs.Eaches.{Each, each-append, each-front, each-back}
use Rattle.copy_laws.proofs.Tokens.{prefix-front, prefix-get}
use Rattle.copy_laws.proofs.Parts.{content_of, named-part}
use Rattle.copy_laws.proofs.StepsLists.{get-here}
use Rattle.copy_laws.proofs.StepsServers.{works-count, few-in-hand, given-due}

-- ---- a descriptor that names a part of a group

pub record NamesPart (w : ℕ) (groups : List (List ℕ)) (d : Descriptor) : Type 0 where
  pub k : ℕ
  pub i : ℕ
  pub group : List ℕ
  pub part : List ℕ
  pub first : 1 ≤ k
  pub below : i < 16
  pub group_at : slice_get groups (k - 1) ≡ Some group
  pub part_at : slice_get (pages_of group) i ≡ Some part
  pub is : d ≡ descriptor_of_load (page_of w k i) (turn_of w k) (length part)

abbrev pub IsPartFetch : ℕ → List (List ℕ) → Work → Type 0
IsPartFetch w groups (Load page r bytes) = ⊥
IsPartFetch w groups (Fetch d) = NamesPart w groups d
IsPartFetch w groups (Place d bytes) = ⊥
IsPartFetch w groups (Unload t) = ⊥

get-middle : (before later : List (List ℕ)) (x : List ℕ) → slice_get (before ++ x ∷ later) (length before) ≡ Some x
get-middle [] later x = refl
get-middle (y ∷ before) later x = get-middle before later x

parts-fetched : (w k : ℕ) (groups : List (List ℕ)) (group : List ℕ) (before parts : List (List ℕ)) → 1 ≤ k → slice_get groups (k - 1) ≡ Some group → pages_of group ≡ before ++ parts
    → length before + length parts ≤ 16 → Each (IsPartFetch w groups) (map (λ (d : Descriptor). Fetch d) (descriptors_from w k (length before) parts))
parts-fetched w k groups group before [] first at all fits = tt
parts-fetched w k groups group before (part ∷ parts) first at all fits = (
  record {
    k = k;
    i = length before;
    group = group;
    part = part;
    first = first;
    below = omega (arith, fits);
    group_at = at;
    part_at = ap (λ (ps : List (List ℕ)). slice_get ps (length before)) all ∙ get-middle before parts part;
    is = refl;
  },
  subst (λ (n : ℕ). Each (IsPartFetch w groups) (map (λ (d : Descriptor). Fetch d) (descriptors_from w k n parts))) (length-append before (part ∷ []))
      (parts-fetched w k groups group (before ++ part ∷ []) parts first at (all ∙ sym (append_assoc before (part ∷ []) parts)) (let len = length-append before (part ∷ []) in omega (arith, len, fits))),
)

writes-fetched : (w offset : ℕ) (bytes : List ℕ) (groups before later : List (List ℕ)) → groups ≡ before ++ later → AreShort later
    → Each (IsPartFetch w groups) (flat_map (jobs_needed bytes) (writes_from channels.V1 w (length before + 1) offset later))
writes-fetched w offset bytes groups before [] all short = tt
writes-fetched w offset bytes groups before (group ∷ later) all short =
    let fits = few_pages group short.0 in
    each-append (IsPartFetch w groups) (map (λ (d : Descriptor). Fetch d) (descriptors_from w (length before + 1) 0 (pages_of group)))
    (flat_map (jobs_needed bytes) (writes_from channels.V1 w (length before + 1 + 1) (offset + length group) later))
    (parts-fetched w (length before + 1) groups group [] (pages_of group) (omega arith)
    (ap (λ (n : ℕ). slice_get groups n) (let z : length before + 1 - 1 ≡ length before = omega arith in z) ∙ ap (λ (gs : List (List ℕ)). slice_get gs (length before)) all ∙ get-middle before later group)
    refl (omega (arith, fits)))
    (subst (λ (n : ℕ). Each (IsPartFetch w groups) (flat_map (jobs_needed bytes) (writes_from channels.V1 w (n + 1) (offset + length group) later))) (length-append before (group ∷ []))
    (writes-fetched w (offset + length group) bytes groups (before ++ group ∷ []) later (all ∙ sym (append_assoc before (group ∷ []) later)) short.1))

end-fetched : (w k offset : ℕ) (bytes : List ℕ) (groups : List (List ℕ)) (ended : Bool) → Each (IsPartFetch w groups) (flat_map (jobs_needed bytes) (end_if ended (end_request k offset)))
end-fetched w k offset bytes groups true = tt
end-fetched w k offset bytes groups false = tt

-- each job that the requests of a put need is a Fetch of a part
pub run-fetched : (w k offset : ℕ) (bytes : List ℕ) (groups : List (List ℕ)) (ended : Bool) → AreShort groups
    → Each (IsPartFetch w groups) (flat_map (jobs_needed bytes) (writes_from channels.V1 w 1 0 groups ++ end_if ended (end_request k offset)))
run-fetched w k offset bytes groups ended short =
    subst (λ (ws : List Work). Each (IsPartFetch w groups) ws) (sym (flat_map-append (jobs_needed bytes) (writes_from channels.V1 w 1 0 groups) (end_if ended (end_request k offset))))
    (each-append (IsPartFetch w groups) (flat_map (jobs_needed bytes) (writes_from channels.V1 w 1 0 groups)) (flat_map (jobs_needed bytes) (end_if ended (end_request k offset)))
    (writes-fetched w 0 bytes groups [] groups refl short) (end-fetched w k offset bytes groups ended))

-- ---- the token that a descriptor names

module _ (w : ℕ) (some : 0 < w) (few : w ≤ 16) (groups : List (List ℕ)) where
  -- the token of such a descriptor carries the part, and it is at the front of its page
  pub named-under : (d : Descriptor) (t : PageToken) (n : NamesPart w groups d) → number_of t ≡ d.token → t.page < 256 → IsPartUnder w groups t n.part × (place_in_page t.page d ≡ 0)
  named-under d t n number below =
      let row = mod_below (n.k - 1) w some in
      let inside = n.below in
      let token : d.token ≡ (turn_of w n.k + 1) * 256 + page_of w n.k n.i = ap (λ (x : Descriptor). x.token) n.is in
      let start : d.offset ≡ page_of w n.k n.i * 4096 = ap (λ (x : Descriptor). x.offset) n.is in
      let page : t.page ≡ page_of w n.k n.i = omega (arith, number, token, row, few, inside, below) in
      let generation : t.generation - 1 ≡ turn_of w n.k = omega (arith, number, token, row, few, inside, below) in
      let first = n.first in
      let next : n.k - 1 + 1 ≡ n.k = omega (arith, first) in
      let inner : t.page % 16 ≡ n.i = omega (arith, page, inside) in (
        record {
          before = n.k - 1;
          group = n.group;
          at = n.group_at;
          page_is = page ∙ ap (λ (i : ℕ). page_of w n.k i) (sym inner) ∙ ap (λ (k : ℕ). page_of w k (t.page % 16)) (sym next);
          turn_is = generation ∙ ap (λ (k : ℕ). turn_of w k) (sym next);
          part_is = ap (λ (i : ℕ). slice_get (pages_of n.group) i) inner ∙ n.part_at;
        },
        (let z : d.offset - 4096 * t.page ≡ 0 = omega (arith, start, page) in z),
      )

  pub named-content : (d : Descriptor) (n : NamesPart w groups d) → content_of w groups d ≡ n.part
  named-content d n = ap (λ (x : Descriptor). content_of w groups x) n.is ∙ named-part w some few groups n.k n.i n.group n.part n.first n.below n.group_at n.part_at

-- the token of a number
pub token-named : (t : PageToken) (d : Descriptor) → number_of t ≡ d.token → t.page < 256 → token_of_descriptor d ≡ t
token-named t d number below =
    let page : d.token % 256 ≡ t.page = omega (arith, number, below) in
    let generation : d.token / 256 ≡ t.generation = omega (arith, number, below) in
    pair (d.token % 256) t.page (d.token / 256) t.generation page generation
  where
    pair : (p q m n : ℕ) → p ≡ q → m ≡ n → ◌≡◌ {A = PageToken} (record { page = p; generation = m }) (record { page = q; generation = n })
    pair p q m n a b = rw (a, b) refl

-- ---- what a list has

pub some-counted : (q : PageEvent → Bool) (es : List PageEvent) → 1 ≤ count_by q es → (e : PageEvent) × Contains es e × (q e ≡ true)
some-counted q [] h = absurd (omega (arith, h))
some-counted q (e ∷ es) h = by_test (q e) refl (some-counted q es) where
  by_test : (t : Bool) → q e ≡ t → (1 ≤ count_by q es → (x : PageEvent) × Contains es x × (q x ≡ true)) → (x : PageEvent) × Contains (e ∷ es) x × (q x ≡ true)
  by_test true is ih = (e, Contains-head e es, is)
  by_test false is ih = (let less = count-no q e es is in let later = ih (omega (arith, h, less)) in (later.0, Contains-tail e es later.0 later.1, later.2))

-- ---- FetchesFrom, by what stands at each completion's number

abbrev pub FetchFits : (Descriptor → List ℕ) → List Work → Completion → Type 0
FetchFits content works c = (d : Descriptor) (b : List ℕ) → slice_get works c.number ≡ Some (Fetch d) → c.result ≡ Fetched b → b ≡ content d

-- the job that a completion answers was given with its number
pub answered-given : (past : List ServerEvent) (c : Completion) → IsServer kinds.Put past → (a : AnswersJob kinds.Put past c) → slice_get (works_given past) c.number ≡ Some a.work
answered-given past c p a =
    let few = few-in-hand past in
    let inside = a.given in
    let number = a.number in
    let x = get-here (works_given past) c.number (omega (arith, few, inside, number, works-count past)) in
    let due : slice_get (jobs_due kinds.Put past) a.place ≡ Some x.0 = given-due kinds.Put past a.place x.0 p (ap (λ (n : ℕ). slice_get (works_given past) n) (sym number) ∙ x.1) in
    x.1 ∙ sym due ∙ a.work_is

pub fetches-from : (content : Descriptor → List ℕ) (works : List Work) (past : List ServerEvent) → IsServer kinds.Put past → IsPrefix (works_given past) works
    → Each (FetchFits content works) (completions_taken past) → FetchesFrom kinds.Put content past
fetches-from content works [] p front h = tt
fetches-from content works (Asked m ∷ past) p front h = fetches-from content works past p.1 front h
fetches-from content works (Filled b ∷ past) p front h = fetches-from content works past p.1 front h
fetches-from content works (Gave w ∷ past) p front h = fetches-from content works past p.1 (prefix-front (works_given past) (w ∷ []) works front) h
fetches-from content works (Completed c ∷ past) p front h = (
  (λ a d b is came. (each-back (FetchFits content works) (completions_taken past) (c ∷ []) h).0 d b
      (prefix-get (works_given past) works c.number (Fetch d) front (answered-given past c p.1 a ∙ ap (λ (x : Work). Some x) is)) came),
  fetches-from content works past p.1 front (each-front (FetchFits content works) (completions_taken past) (c ∷ []) h),
)
fetches-from content works (Replied r ∷ past) p front h = fetches-from content works past p.1 front h
fetches-from content works (Stored b ∷ past) p front h = fetches-from content works past p.1 front h
