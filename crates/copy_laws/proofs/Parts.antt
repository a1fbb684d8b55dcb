-- What the descriptors of a put's WRITEs name: the parts of its groups.
use Rattle.std.proofs.Common.{◌≡◌, ℕ, ◌+◌, ◌-◌, ◌*◌, ◌/◌, ◌%◌, ◌<◌, ◌≤◌, Option, Some, None, List, [], ◌∷◌, ◌++◌, length, take, replicate, refl, sym, ap, ◌∙◌, subst, arith, append_assoc, length-append}
use Rattle.std.specs.Prelude.{slice_get}
use Rattle.std.proofs.lemmas.Nat.{mod_below, div-add-mod'}
use Rattle.std.proofs.Math.Seq.{take-append_seam}
use Rattle.smbd_base.specs.Tokens.{PageToken}
use Rattle.smbd_base.specs.Pages.{whole_page, part_of}
use Rattle.buffer_descriptor.specs.declared.descriptor.Descriptor.{Descriptor}
use Rattle.file_messages.specs.Runs.{page_of, turn_of, pages_of, descriptor_of_load}
use Rattle.file_pasts.specs.Groups.{AreShort}
use Rattle.file_pasts.specs.ClientPast.{token_of_descriptor}
use Rattle.file_pasts.specs.ServerLaws.{PartsNamed, GroupsNamed}
use Rattle.file_pasts.proofs.Naming.{few_pages}
use Rattle.remote_access.specs.Covers.{place_in_page}
use Rattle.copy_laws.specs.PagesOfCopies.{IsPartUnder}

abbrev bytes_or_none : Option (List ℕ) → List ℕ
bytes_or_none None = []
bytes_or_none (Some bytes) = bytes

abbrev part_in : Option (List ℕ) → ℕ → List ℕ
part_in None i = []
part_in (Some group) i = bytes_or_none (slice_get (pages_of group) i)

-- the part that the load of a token carries
abbrev pub part_under : ℕ → List (List ℕ) → PageToken → List ℕ
part_under w groups t = part_in (slice_get groups ((t.generation - 1) * w + t.page / 16)) (t.page % 16)

-- and the bytes that a descriptor names in its page
abbrev pub content_of : ℕ → List (List ℕ) → Descriptor → List ℕ
content_of w groups d = part_of (place_in_page (token_of_descriptor d).page d) d.length (whole_page (part_under w groups (token_of_descriptor d)))

-- which group a page and a turn are for
before-is : (w before turn page : ℕ) → 0 < w → page ≡ page_of w (before + 1) (page % 16) → turn ≡ turn_of w (before + 1) → turn * w + page / 16 ≡ before
before-is w before turn page some at is =
    let one : before + 1 - 1 ≡ before = omega arith in
    let below = mod_below page 16 (omega arith) in
    let place : page ≡ before % w * 16 + page % 16 = at ∙ ap (λ (k : ℕ). k % w * 16 + page % 16) one in
    let row : page / 16 ≡ before % w = omega (arith, place, below) in
    let time : turn ≡ before / w = is ∙ ap (λ (k : ℕ). k / w) one in
    ap (λ (q : ℕ). q * w + page / 16) time ∙ ap (λ (r : ℕ). before / w * w + r) row ∙ div-add-mod' before w

pub part-is : (w : ℕ) (groups : List (List ℕ)) (t : PageToken) (part : List ℕ) → 0 < w → IsPartUnder w groups t part → part_under w groups t ≡ part
part-is w groups t part some h =
    ap (λ (k : ℕ). part_in (slice_get groups k) (t.page % 16)) (before-is w h.before (t.generation - 1) t.page some h.page_is h.turn_is)
    ∙ ap (λ (o : Option (List ℕ)). part_in o (t.page % 16)) h.at ∙ ap (λ (o : Option (List ℕ)). bytes_or_none o) h.part_is

whole-front : (bytes : List ℕ) → take (length bytes) (whole_page bytes) ≡ bytes
unfolding whole_page
whole-front bytes = take-append_seam bytes (replicate (4096 - length bytes) 0)

-- ---- the names of the parts

module _ (w : ℕ) (some : 0 < w) (few : w ≤ 16) (groups : List (List ℕ)) where
  -- the i-th part of the k-th group, by its descriptor
  pub named-part : (k i : ℕ) (group part : List ℕ) → 1 ≤ k → i < 16 → slice_get groups (k - 1) ≡ Some group → slice_get (pages_of group) i ≡ Some part
      → content_of w groups (descriptor_of_load (page_of w k i) (turn_of w k) (length part)) ≡ part
  named-part k i group part first below at part_at =
      let d = descriptor_of_load (page_of w k i) (turn_of w k) (length part) in
      let row = mod_below (k - 1) w some in
      let page : (token_of_descriptor d).page ≡ page_of w k i = omega (arith, row, few, below) in
      let generation : (token_of_descriptor d).generation - 1 ≡ turn_of w k = omega (arith, row, few, below) in
      let place : place_in_page (token_of_descriptor d).page d ≡ 0 = omega (arith, page) in
      let inner : (token_of_descriptor d).page % 16 ≡ i = omega (arith, page, below) in
      let outer : (token_of_descriptor d).page / 16 ≡ (k - 1) % w = omega (arith, page, below) in
      let group_is : ((token_of_descriptor d).generation - 1) * w + (token_of_descriptor d).page / 16 ≡ k - 1 =
      ap (λ (q : ℕ). q * w + (token_of_descriptor d).page / 16) generation ∙ ap (λ (r : ℕ). (k - 1) / w * w + r) outer ∙ div-add-mod' (k - 1) w in
      let under : part_under w groups (token_of_descriptor d) ≡ part =
      ap (λ (q : ℕ). part_in (slice_get groups q) ((token_of_descriptor d).page % 16)) group_is
      ∙ ap (λ (o : Option (List ℕ)). part_in o ((token_of_descriptor d).page % 16)) at
      ∙ ap (λ (q : ℕ). bytes_or_none (slice_get (pages_of group) q)) inner
      ∙ ap (λ (o : Option (List ℕ)). bytes_or_none o) part_at in
      ap (λ (q : ℕ). part_of q (length part) (whole_page (part_under w groups (token_of_descriptor d)))) place
      ∙ ap (λ (b : List ℕ). take (length part) (whole_page b)) under ∙ whole-front part

  get-middle : (before later : List (List ℕ)) (x : List ℕ) → slice_get (before ++ x ∷ later) (length before) ≡ Some x
  get-middle [] later x = refl
  get-middle (y ∷ before) later x = get-middle before later x

  parts-named : (k : ℕ) (group : List ℕ) (before parts : List (List ℕ)) → 1 ≤ k → slice_get groups (k - 1) ≡ Some group → pages_of group ≡ before ++ parts → length before + length parts ≤ 16
      → PartsNamed (content_of w groups) w k (length before) parts
  parts-named k group before [] first at all fits = tt
  parts-named k group before (part ∷ parts) first at all fits = (
    named-part k (length before) group part first (omega (arith, fits)) at (ap (λ (ps : List (List ℕ)). slice_get ps (length before)) all ∙ get-middle before parts part),
    subst (λ (n : ℕ). PartsNamed (content_of w groups) w k n parts) (length-append before (part ∷ []))
        (parts-named k group (before ++ part ∷ []) parts first at (all ∙ sym (append_assoc before (part ∷ []) parts))
        (let len = length-append before (part ∷ []) in omega (arith, len, fits))),
  )

  groups-named : (before later : List (List ℕ)) → groups ≡ before ++ later → AreShort later → GroupsNamed (content_of w groups) w (length before + 1) later
  groups-named before [] all short = tt
  groups-named before (group ∷ later) all short =
      let fits = few_pages group short.0 in (
        parts-named (length before + 1) group [] (pages_of group) (omega arith)
            (ap (λ (n : ℕ). slice_get groups n) (let z : length before + 1 - 1 ≡ length before = omega arith in z) ∙ ap (λ (gs : List (List ℕ)). slice_get gs (length before)) all ∙ get-middle before later group)
            refl (omega (arith, fits)),
        subst (λ (n : ℕ). GroupsNamed (content_of w groups) w (n + 1) later) (length-append before (group ∷ []))
            (groups-named (before ++ group ∷ []) later (all ∙ sym (append_assoc before (group ∷ []) later)) short.1),
      )

  pub all-named : AreShort groups → GroupsNamed (content_of w groups) w 1 groups
  all-named short = subst (λ (n : ℕ). GroupsNamed (content_of w groups) w n groups) (let z : 0 + 1 ≡ 1 = refl in z) (groups-named [] groups refl short)
