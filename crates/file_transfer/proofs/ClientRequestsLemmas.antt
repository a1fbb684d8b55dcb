-- The requests of a client's machine, and their replies.
use Rattle.std.proofs.Common.{◌≡◌, ℕ, ◌+◌, Option, Some, None, List, [], ◌∷◌, ◌++◌, length, drop, map, refl, sym, ap, ◌∙◌, length-append, arith}
use Rattle.std.proofs.lemmas.List.{map-append}
use Rattle.buffer_descriptor.specs.declared.descriptor.Descriptor.{Descriptor}
use Rattle.file_messages.specs.declared.fault.ReplyFault.{ReplyFault}
use Rattle.file_messages.specs.declared.message.Request.{Request}
use Rattle.file_messages.specs.declared.message.Asked.{Asked}
use Rattle.file_transfer.specs.declared.client_requests.ClientRequests.{ClientRequests}
use Rattle.file_transfer.specs.declared.client_requests.Unanswered.{Unanswered}
use Rattle.file_messages.specs.Messages.{asked_by, reply_of}
use Rattle.file_pasts.specs.ClientPast.{ClientEvent, Sent, requests_sent, fault_of_reply, fault_of_reading, lasting_or, reply_fault, answers}
use Rattle.file_transfer.specs.ClientStands.{Awaited, AskedStand, awaited_in, awaited_by, first_named, first_asked}

pub asked-sent : (past : List ClientEvent) (m n : ClientRequests) (r : Request) (q : Unanswered) → AskedStand past m → awaited_in q ≡ awaited_by r
    → n.unanswered.items ≡ m.unanswered.items ++ q ∷ [] → n.sent ≡ m.sent + 1 → n.fault ≡ m.fault → AskedStand (Sent r ∷ past) n
asked-sent past m n r q c is unanswered sent fault = record {
  unanswered = ap (map awaited_in) unanswered ∙ map-append awaited_in m.unanswered.items (q ∷ [])
      ∙ ap (λ (xs : List Awaited). xs ++ awaited_in q ∷ []) c.unanswered ∙ ap (λ (x : Awaited). map awaited_by (answers past).unanswered ++ x ∷ []) is
      ∙ sym (map-append awaited_by (answers past).unanswered (r ∷ []));
  sent = sent ∙ ap (λ x. x + 1) c.sent ∙ sym (length-append (requests_sent past) (r ∷ []));
  fault = fault ∙ c.fault;
}

length-awaited : (rs : List Request) → length (map awaited_by rs) ≡ length rs
length-awaited [] = refl
length-awaited (r ∷ rs) = omega (arith, length-awaited rs)

length-unanswered : (us : List Unanswered) → length (map awaited_in us) ≡ length us
length-unanswered [] = refl
length-unanswered (u ∷ us) = omega (arith, length-unanswered us)

pub unanswered-is : (past : List ClientEvent) (m : ClientRequests) → AskedStand past m → length m.unanswered.items ≡ length (answers past).unanswered
unanswered-is past m c =
    omega (arith, length-unanswered m.unanswered.items, ap length c.unanswered, length-awaited (answers past).unanswered)

-- ---- replies

-- the oldest request, and those after it
pub first-awaited : (us : List Unanswered) (rs : List Request) (asked : Asked) → map awaited_in us ≡ map awaited_by rs → first_asked us ≡ Some asked
    → (r : Request) × (rs ≡ r ∷ drop 1 rs) × (asked_by r ≡ asked) × (first_named rs ≡ r.descriptors)
first-awaited [] rs asked e f = absurd (let b : ⊥ = cc in b)
first-awaited (u ∷ us) [] asked e f = absurd (let b : ⊥ = cc in b)
first-awaited (u ∷ us) (r ∷ rs) asked e f =
    let same : awaited_in u ≡ awaited_by r = cc in
    let own : u.asked ≡ asked = cc in
    (r, refl, sym (ap (λ (x : Awaited). x.asked) same) ∙ own, refl)

pub none-awaited : (us : List Unanswered) (rs : List Request) → map awaited_in us ≡ map awaited_by rs → us ≡ [] → rs ≡ []
none-awaited us [] e f = refl
none-awaited us (r ∷ rs) e f = absurd (let g : map awaited_in us ≡ [] = ap (map awaited_in) f in let b : ⊥ = cc in b)

pub rest-awaited : (us : List Unanswered) (rs : List Request) (u : Unanswered) → map awaited_in us ≡ map awaited_by rs → us ≡ u ∷ drop 1 us
    → (map awaited_in (drop 1 us) ≡ map awaited_by (drop 1 rs)) × (map (λ (p : Descriptor). p) (awaited_in u).named ≡ map (λ (p : Descriptor). p) (first_named rs))
rest-awaited [] rs u e f = absurd (let b : ⊥ = cc in b)
rest-awaited (x ∷ xs) [] u e f = absurd (let b : ⊥ = cc in b)
rest-awaited (x ∷ xs) (r ∷ rs) u e f =
    let same : awaited_in x ≡ awaited_by r = cc in
    let own : x ≡ u = cc in
    (cc, ap (λ (y : Unanswered). map (λ (p : Descriptor). p) (awaited_in y).named) (sym own) ∙ ap (λ (y : Awaited). map (λ (p : Descriptor). p) y.named) same)

-- what refuses a message, where no reply was refused before
pub refused-is : (past : List ClientEvent) (m : ClientRequests) (asked : Asked) (message : List ℕ) → AskedStand past m → m.fault ≡ None
    → first_asked m.unanswered.items ≡ Some asked → fault_of_reading (reply_of asked message) ≡ reply_fault (answers past) message
refused-is past m asked message c none first =
    let oldest = first-awaited m.unanswered.items (answers past).unanswered asked c.unanswered first in
    let fresh : (answers past).fault ≡ None = sym c.fault ∙ none in
    sym (ap (λ (o : Option ReplyFault). lasting_or o (fault_of_reply (answers past).unanswered message)) fresh
    ∙ ap (λ (rs : List Request). fault_of_reply rs message) oldest.1 ∙ ap (λ (a : Asked). fault_of_reading (reply_of a message)) oldest.2)
