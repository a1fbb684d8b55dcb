use Rattle.std.proofs.Common.{◌≡◌, ◌+◌, ◌*◌, ◌/◌, ◌%◌, ◌++◌, ℕ, List, [], ◌∷◌, length, refl, sym, ap, ◌∙◌, subst, arith}
use Rattle.file_messages.specs.Runs.{pages_of}
use Rattle.file_pasts.specs.ClientPast.{groups_in}
use Rattle.file_pasts.specs.PutDue.{jobs_due}
use Rattle.file_pasts.proofs.Naming.{few_pages}
use Rattle.file_transfer.specs.PutPagesStand.{PartsTaken, HasRoomOn}
use Rattle.file_transfer.proofs.PutBounds.{few_groups}
use Rattle.file_transfer.proofs.PutPagesLemmas.{taken-none}
use Rattle.file_transfer.proofs.PutRegisteredLemmas.{has_room-is, room-on, stand-taken}
use Rattle.file_transfer.proofs.put_registered.RegisteredGroups.hand.Goals as goal

pub reserve-requires-2 : goal.reserve-requires-2
reserve-requires-2 c =
    let f = few_pages c.args.bytes.now c.requires.follows.2 in
    omega (arith, f, c.len-pages.ensures, c.in_ok-parts.parts.ok.0, ap length c.in_ok-parts.ensures)

pub take_parts-requires-clause-within : goal.take_parts-requires-clause-within
take_parts-requires-clause-within c =
    let f = few_pages c.args.bytes.now c.requires.follows.2 in
    omega (arith, f, c.page_after-first.ensures.within, ap length c.in_ok-parts.ensures)

pub push_reserved-requires : goal.push_reserved-requires
push_reserved-requires c =
    omega (arith, has_room-is c.requires.windows c.requires.past c.args.self.now c.requires.stands c.requires.follows.0, c.args.self.now.under_way.ok.0)

pub overflow_add-self : goal.overflow_add-self
overflow_add-self c =
    let s = c.requires.stands in
    omega (arith, s.count, c.requires.few, s.few, few_groups c.requires.windows c.requires.past (let o = s.some in omega arith) s.lawful)

pub returns-clause-taken : goal.returns-clause-taken
returns-clause-taken c = λ w past s f.
    let first : ℕ = c.page_after-first.result in
    let first_is : first ≡ length (groups_in past) % w * 16 = c.page_after-first.ensures.at w past s ∙ ap (λ (n : ℕ). n % w * 16) s.count in
    let parts_is : c.in_ok-parts.parts.items ≡ pages_of c.args.bytes.now = c.in_ok-parts.ensures in
    let pages_is : c.len-pages.result ≡ length (pages_of c.args.bytes.now) = c.len-pages.ensures ∙ c.in_ok-parts.parts.ok.0 ∙ ap length parts_is in
    let turn_is : c.args.self.now.count / c.windows.result ≡ length (groups_in past) / w =
    ap (λ (n : ℕ). n / c.windows.result) s.count ∙ ap (λ (n : ℕ). length (groups_in past) / n) (c.windows.ensures w past s) in
    let room : HasRoomOn w first (first + length c.in_ok-parts.parts.items) past =
    subst (λ (ps : List (List ℕ)). HasRoomOn w first (first + length ps) past) (sym parts_is)
    (room-on w first c.args.bytes.now past (let o = s.some in omega arith) s.lawful f first_is) in
    let taken = c.take_parts.ensures.taken w past
    (taken-none w first past c.args.self.now.slots.items c.reserve-2.new.self s.slots (c.reserve-2.ensures.same (jobs_due w past) past s.due)) room in
    stand-taken w first c.args.bytes.now past c.args.self.now _ s f first_is
    (subst (λ (ps : List (List ℕ)). PartsTaken w first ps past c.take_parts.new.slots.items c.take_parts.new.jobs) parts_is taken)
    (omega (arith, c.take_parts.ensures.kept, c.in_ok-reserve-2.ensures.ok, c.len-pages.ensures, c.in_ok-parts.parts.ok.0))
    (c.push_reserved.ensures.items
    ∙ ap (λ (n : ℕ). c.args.self.now.under_way.items ++ (record { first = first; turn = n; pages = c.len-pages.result }) ∷ []) turn_is
    ∙ ap (λ (n : ℕ). c.args.self.now.under_way.items ++ (record { first = first; turn = length (groups_in past) / w; pages = n }) ∷ []) pages_is)
    refl (c.push_back_reserved.ensures.items ∙ ap (λ (xs : List ℕ). xs ++ length c.args.bytes.now ∷ []) c.reserve.ensures.items)
    c.take_parts.ensures.pages c.push_reserved.ensures.capacity
