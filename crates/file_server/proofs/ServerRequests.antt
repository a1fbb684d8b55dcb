-- What every request has that bytes say, and every accepted one.
use Rattle.std.proofs.Common.{◌≡◌, ℕ, zero, suc, ◌+◌, ◌*◌, ◌≤◌, ◌==◌, nat_lt, nat_le, ◌&&◌, ◌||◌, not, Bool, true, false, cond, Option, Some, None, Result, Ok, Err, List, [], ◌∷◌, ◌++◌, length, drop, refl, ap, ◌∙◌, subst, arith}
use Rattle.std.proofs.lemmas.Bool.Decides.{nat_tests}
use Rattle.smbd_base.specs.Fields.{u16_at}
use Rattle.buffer_descriptor.specs.declared.descriptor.Descriptor.{Descriptor}
use Rattle.file_messages.specs.declared.kind.CopyKind.{CopyKind}
use Rattle.file_messages.specs.declared.kind.CopyKind.TheVariants as kinds
use Rattle.file_messages.specs.declared.fault.FileFault.{FileFault}
use Rattle.file_messages.specs.declared.fault.FileFault.TheVariants.{Short, Op, Channel, Count, Length, Overlap, Order}
use Rattle.file_messages.specs.declared.message.Request.{Request}
use Rattle.file_messages.specs.declared.message.Reply.{Reply}
use Rattle.file_messages.specs.Messages.{WRITE, READ, END, request_of, request_fault, request_fields, value_or_fault, is_short, is_op, is_count, counts_well, has_length, lists_descriptors, descriptors_in, sum_of_lengths, are_sound, overlap}
use Rattle.file_pasts.specs.ServerDue.{Requests, judgement, judged, judged_after, is_out_of_order, has_ended, written}
use Rattle.file_server.specs.ServerTurn.{IsWithinBounds, AreAsked, is_fetched}

-- the tests that a request passed
record Passes (bytes : List ℕ) : Type 0 where
  op : is_op (u16_at 0 bytes) ≡ true
  channel : nat_lt 1 (u16_at 2 bytes) ≡ false
  count : counts_well bytes ≡ true
  len : has_length bytes (request_fields bytes) ≡ true

passed : (bytes : List ℕ) → request_fault bytes ≡ None → Passes bytes
unfolding request_fault
passed bytes e = by_tests (is_short bytes) (is_op (u16_at 0 bytes)) (nat_lt 1 (u16_at 2 bytes)) (counts_well bytes) (has_length bytes (request_fields bytes)) refl refl refl refl e where
  by_tests : (s o h c l : Bool) → is_op (u16_at 0 bytes) ≡ o → nat_lt 1 (u16_at 2 bytes) ≡ h → counts_well bytes ≡ c → has_length bytes (request_fields bytes) ≡ l
      → cond s (Some Short) (cond (not o) (Some Op) (cond h (Some Channel) (cond (not c) (Some Count) (cond (not l) (Some Length) (cond (overlap (request_fields bytes).descriptors) (Some Overlap) None))))) ≡ None
      → Passes bytes
  by_tests true o h c l p q x y e = absurd (let b : ⊥ = cc in b)
  by_tests false false h c l p q x y e = absurd (let b : ⊥ = cc in b)
  by_tests false true true c l p q x y e = absurd (let b : ⊥ = cc in b)
  by_tests false true false false l p q x y e = absurd (let b : ⊥ = cc in b)
  by_tests false true false true false p q x y e = absurd (let b : ⊥ = cc in b)
  by_tests false true false true true p q x y e = record { op = p; channel = q; count = x; len = y }

length-descriptors : (n : ℕ) (bytes : List ℕ) → length (descriptors_in n bytes) ≡ n
length-descriptors zero bytes = refl
length-descriptors (suc n) bytes = omega (arith, length-descriptors n (drop 16 bytes))

is_op-small : (op : ℕ) → is_op op ≡ true → op ≤ 3
is_op-small op e = by_tests (op == WRITE) (op == READ) (op == END) refl refl refl e where
  by_tests : (w r n : Bool) → (op == WRITE) ≡ w → (op == READ) ≡ r → (op == END) ≡ n → ((w || r) || n) ≡ true → op ≤ 3
  by_tests true r n p q x e = grind (arith, nat_tests)
  by_tests false true n p q x e = grind (arith, nat_tests)
  by_tests false false true p q x e = grind (arith, nat_tests)
  by_tests false false false p q x e = absurd (let b : ⊥ = cc in b)

-- its length, and that of its descriptors
record HasLength (bytes : List ℕ) (r : Request) : Type 0 where
  short : r.length ≤ 65536
  whole : lists_descriptors bytes ≡ true → (r.op == END) ≡ false → sum_of_lengths r.descriptors ≡ r.length

length-short : (n : ℕ) → (n == 0) ≡ true → n ≤ 65536
length-short n e = grind (arith, nat_tests)

of_length : (bytes : List ℕ) (r : Request) → has_length bytes r ≡ true → HasLength bytes r
of_length bytes r e = by_end (r.op == END) refl e where
  by_end : (t : Bool) → (r.op == END) ≡ t
      → cond t (r.length == 0) ((nat_le 1 r.length && nat_le r.length 65536) && (cond (lists_descriptors bytes) (are_sound r.descriptors && sum_of_lengths r.descriptors == r.length) (not (r.op == WRITE) || length r.inline == r.length))) ≡ true
      → HasLength bytes r
  by_end true h e = record { short = length-short r.length e; whole = λ l n. absurd (let b : ⊥ = cc in b) }
  by_end false h e = by_parts (nat_le 1 r.length) (nat_le r.length 65536) (lists_descriptors bytes) (are_sound r.descriptors) (sum_of_lengths r.descriptors == r.length) refl refl refl e where
    by_parts : (a b l s t : Bool) → nat_le r.length 65536 ≡ b → lists_descriptors bytes ≡ l → (sum_of_lengths r.descriptors == r.length) ≡ t
        → ((a && b) && (cond l (s && t) (not (r.op == WRITE) || length r.inline == r.length))) ≡ true → HasLength bytes r
    by_parts true true true true true p q x e = record { short = grind (arith, nat_tests); whole = λ h n. grind (arith, nat_tests) }
    by_parts true true false s t p q x e = record { short = grind (arith, nat_tests); whole = λ h n. absurd (let f : ⊥ = cc in f) }
    by_parts true true true true false p q x e = absurd (let f : ⊥ = cc in f)
    by_parts true true true false t p q x e = absurd (let f : ⊥ = cc in f)
    by_parts true false l s t p q x e = absurd (let f : ⊥ = cc in f)
    by_parts false b l s t p q x e = absurd (let f : ⊥ = cc in f)

of_fields : (bytes : List ℕ) → Passes bytes → IsWithinBounds (request_fields bytes)
of_fields bytes p = by_lists (lists_descriptors bytes) refl p.count where
  sized : HasLength bytes (request_fields bytes)
  sized = of_length bytes (request_fields bytes) p.len

  -- a WRITE over registered pages lists descriptors
  fetches : is_fetched (request_fields bytes) ≡ true → (lists_descriptors bytes ≡ true) × ((u16_at 0 bytes == END) ≡ false)
  fetches e = by_tests (u16_at 0 bytes == WRITE) (u16_at 2 bytes == 0) refl refl e where
    by_tests : (w z : Bool) → (u16_at 0 bytes == WRITE) ≡ w → (u16_at 2 bytes == 0) ≡ z → (w && not z) ≡ true → (lists_descriptors bytes ≡ true) × ((u16_at 0 bytes == END) ≡ false)
    by_tests true false h k e =
        let one : (u16_at 2 bytes == 1) ≡ true = only_one (u16_at 2 bytes) k p.channel in
        let other : (u16_at 0 bytes == END) ≡ false = not_end (u16_at 0 bytes) h in
        (rw (one, other) refl, other)
      where
        only_one : (n : ℕ) → (n == 0) ≡ false → nat_lt 1 n ≡ false → (n == 1) ≡ true
        only_one n a b = grind (arith, nat_tests)

        not_end : (n : ℕ) → (n == WRITE) ≡ true → (n == END) ≡ false
        not_end n a = grind (arith, nat_tests)
    by_tests true true h k e = absurd (let f : ⊥ = cc in f)
    by_tests false z h k e = absurd (let f : ⊥ = cc in f)

  by_lists : (t : Bool) → lists_descriptors bytes ≡ t → cond t (is_count (u16_at 20 bytes)) (u16_at 20 bytes == 0) ≡ true → IsWithinBounds (request_fields bytes)
  by_lists true l e =
      let listed : (request_fields bytes).descriptors ≡ descriptors_in (u16_at 20 bytes) (drop 24 bytes) =
      ap (λ (t : Bool). cond t (descriptors_in (u16_at 20 bytes) (drop 24 bytes)) []) l in
      let count : length (request_fields bytes).descriptors ≡ u16_at 20 bytes = ap (λ (ds : List Descriptor). length ds) listed ∙ length-descriptors (u16_at 20 bytes) (drop 24 bytes) in
      let bounds : (1 ≤ u16_at 20 bytes) × (u16_at 20 bytes ≤ 16) = in_count (u16_at 20 bytes) e in
      record {
        op = is_op-small (u16_at 0 bytes) p.op;
        short = sized.short;
        few = omega (arith, count, bounds.1);
        some = λ f. omega (arith, count, bounds.0);
        plain = λ w. absurd (not_both (u16_at 0 bytes == WRITE) (u16_at 2 bytes) (u16_at 0 bytes == END) w l);
        whole = λ f. sized.whole l (fetches f).1;
      }
    where
      in_count : (n : ℕ) → is_count n ≡ true → (1 ≤ n) × (n ≤ 16)
      in_count n h = by_bounds (nat_le 1 n) (nat_le n 16) refl refl h where
        by_bounds : (a b : Bool) → nat_le 1 n ≡ a → nat_le n 16 ≡ b → (a && b) ≡ true → (1 ≤ n) × (n ≤ 16)
        by_bounds true true p q e = (grind (arith, nat_tests), grind (arith, nat_tests))
        by_bounds true false p q e = absurd (let f : ⊥ = cc in f)
        by_bounds false b p q e = absurd (let f : ⊥ = cc in f)

      not_both : (w : Bool) (n : ℕ) (t : Bool) → (w && n == 0) ≡ true → (n == 1 && not t) ≡ true → ⊥
      not_both w n t a b = by_tests w (n == 0) (n == 1) refl refl a b where
        by_tests : (w x y : Bool) → (n == 0) ≡ x → (n == 1) ≡ y → (w && x) ≡ true → (y && not t) ≡ true → ⊥
        by_tests true true true h k a b = grind (arith, nat_tests)
        by_tests true true false h k a b = let f : ⊥ = cc in f
        by_tests true false y h k a b = let f : ⊥ = cc in f
        by_tests false x y h k a b = let f : ⊥ = cc in f
  by_lists false l e =
      let unlisted : (request_fields bytes).descriptors ≡ [] = ap (λ (t : Bool). cond t (descriptors_in (u16_at 20 bytes) (drop 24 bytes)) []) l in
      record {
        op = is_op-small (u16_at 0 bytes) p.op;
        short = sized.short;
        few = omega (arith, ap (λ (ds : List Descriptor). length ds) unlisted);
        some = λ f. absurd (let listed : lists_descriptors bytes ≡ true = (fetches f).0 in let b : ⊥ = cc in b);
        plain = λ w. unlisted;
        whole = λ f. absurd (let listed : lists_descriptors bytes ≡ true = (fetches f).0 in let b : ⊥ = cc in b);
      }

pub is_request : (bytes : List ℕ) (r : Request) → request_of bytes ≡ Ok r → IsWithinBounds r
is_request bytes r e = by_fault (request_fault bytes) refl e where
  by_fault : (o : Option FileFault) → request_fault bytes ≡ o → value_or_fault o (request_fields bytes) ≡ Ok r → IsWithinBounds r
  by_fault (Some fault) h e = absurd (let b : ⊥ = cc in b)
  by_fault None h e =
      let same : request_fields bytes ≡ r = cc in
      subst (λ (q : Request). IsWithinBounds q) same (of_fields bytes (passed bytes h))

-- ---- a request in its turn

-- what is known of one that is accepted
pub record IsAccepted (kind : CopyKind) (q : Requests) (given : List Reply) (message : List ℕ) (r : Request) : Type 0 where
  pub faultless : q.fault ≡ None
  pub read : IsWithinBounds r
  pub next : r.id ≡ length q.accepted + 1

pub accepted : (kind : CopyKind) (q : Requests) (given : List Reply) (message : List ℕ) (r : Request) → judgement kind q given message ≡ Ok r → IsAccepted kind q given message r
accepted kind q given message r e = by_fault q.fault refl e where
  in_turn : (x : Request) → is_out_of_order kind q.accepted given x ≡ false → x.id ≡ length q.accepted + 1
  in_turn x h = by_kind kind h where
    by_late : (a b c d : Bool) → (((not a || b) || c) || d) ≡ false → a ≡ true
    by_late true b c d h = refl
    by_late false b c d h = absurd (let f : ⊥ = cc in f)

    by_late_too : (a b c d g : Bool) → ((((not a || b) || c) || d) || g) ≡ false → a ≡ true
    by_late_too true b c d g h = refl
    by_late_too false b c d g h = absurd (let f : ⊥ = cc in f)

    equal : (m n : ℕ) → (m == n) ≡ true → m ≡ n
    equal m n h = grind (arith, nat_tests)

    by_kind : (k : CopyKind) → is_out_of_order k q.accepted given x ≡ false → x.id ≡ length q.accepted + 1
    by_kind kinds.Put h = equal x.id (length q.accepted + 1) (by_late _ _ _ _ h)
    by_kind kinds.Get h = equal x.id (length q.accepted + 1) (by_late_too _ _ _ _ _ h)

  by_read : (o : Result Request FileFault) → request_of message ≡ o → q.fault ≡ None → judged kind q.accepted given o ≡ Ok r → IsAccepted kind q given message r
  by_read (Err fault) h f e = absurd (let b : ⊥ = cc in b)
  by_read (Ok x) h f e = by_turn (is_out_of_order kind q.accepted given x) refl e where
    by_turn : (t : Bool) → is_out_of_order kind q.accepted given x ≡ t → cond t (Err Order) (Ok x) ≡ Ok r → IsAccepted kind q given message r
    by_turn true t e = absurd (let b : ⊥ = cc in b)
    by_turn false t e =
        let same : x ≡ r = cc in
        subst (λ (y : Request). IsAccepted kind q given message y) same (record { faultless = f; read = is_request message x h; next = in_turn x t })

  by_fault : (o : Option FileFault) → q.fault ≡ o → judged_after o (judged kind q.accepted given (request_of message)) ≡ Ok r → IsAccepted kind q given message r
  by_fault (Some fault) h e = absurd (let b : ⊥ = cc in b)
  by_fault None h e = by_read (request_of message) refl h e

-- ---- lists of them

pub AreRequests-append : (rs : List Request) (r : Request) → AreAsked rs → IsWithinBounds r → AreAsked (rs ++ r ∷ [])
AreRequests-append [] r q h = (h, tt)
AreRequests-append (x ∷ rs) r q h = (q.0, AreRequests-append rs r q.1 h)

pub has_ended-append : (rs : List Request) (r : Request) → has_ended (rs ++ r ∷ []) ≡ (has_ended rs || r.op == END)
has_ended-append [] r = by_test (r.op == END) where
  by_test : (t : Bool) → (t || false) ≡ t
  by_test true = refl
  by_test false = refl
has_ended-append (x ∷ rs) r = ap (λ (t : Bool). x.op == END || t) (has_ended-append rs r) ∙ by_test (x.op == END) where
  by_test : (t : Bool) → (t || (has_ended rs || r.op == END)) ≡ ((t || has_ended rs) || r.op == END)
  by_test true = refl
  by_test false = refl

pub written-append : (rs : List Request) (r : Request) → written (rs ++ r ∷ []) ≡ written rs + cond (r.op == WRITE) r.length 0
written-append [] r = omega arith
written-append (x ∷ rs) r = omega (arith, written-append rs r)

pub written-short : (rs : List Request) → AreAsked rs → written rs ≤ 65536 * length rs
written-short [] q = omega arith
written-short (x ∷ rs) q = omega (arith, one (x.op == WRITE), written-short rs q.1) where
  one : (t : Bool) → cond t x.length 0 ≤ 65536
  one true = q.0.short
  one false = omega arith
