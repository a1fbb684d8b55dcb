-- What is written is read back.
use Rattle.std.proofs.Common.{◌≡◌, inl, inr, ℕ, ◌+◌, ◌*◌, ◌/◌, ◌%◌, ◌^◌, ◌<◌, ◌≤◌, ◌==◌, nat_lt, nat_le, not, ◌&&◌, ◌||◌, Bool, true, false, cond, Option, Some, None, Ok, List, [], ◌∷◌, ◌++◌, length, take, drop, get_or, refl, sym, ap, ◌∙◌, subst, append_assoc, length-append, lit<, arith}
use Rattle.std.specs.Int.{w64, to_le_bytes}
use Rattle.std.specs.List.{flat_map}
use Rattle.std.proofs.lemmas.Bool.Decides.{nat_tests}
use Rattle.std.proofs.lemmas.List.{append-nil, get_or-append-add}
use Rattle.smbd_base.specs.Fields.{u16_at, u32_at}
use Rattle.smbd_base.proofs.FrameLaws.{u16_at-append, u32_at-append}
use Rattle.buffer_descriptor.specs.declared.descriptor.Descriptor.{Descriptor}
use Rattle.buffer_descriptor.specs.Descriptors.{fields_of, descriptor_bytes, place_after}
use Rattle.file_messages.specs.declared.fault.FileFault.{FileFault}
use Rattle.file_messages.specs.declared.fault.FileFault.TheVariants.{Short, Op, Channel, Count, Length, Overlap, Order}
use Rattle.file_messages.specs.declared.message.Request.{Request}
use Rattle.file_messages.specs.declared.message.Reply.{Reply}
use Rattle.file_messages.specs.Messages.{u64_at, is_short, is_op, is_count, lists_descriptors, counts_well, has_length, request_fault, request_fields, request_of, request_bytes, header_bytes, value_or_fault, descriptors_in, is_sound, are_sound, sum_of_lengths, overlap, fault_in_reply, reply_fields, reply_bytes, has_count, carries_bytes}
use Rattle.file_messages.specs.Runs.{inline_write, end_request}
use Rattle.file_messages.specs.Written.{HasPlace, IsLength, TokensFit, MayBeNamed, registered, inline_read, IsReadBack, InlineWritesAreRead, InlineReadsAreRead, RegisteredAreRead, EndsAreRead, RepliesAreRead}

-- ---- a 64-bit number

low_half : (n : ℕ) → n % 256 + 256 * (n / 256 % 256) + 65536 * (n / 65536 % 256) + 16777216 * (n / 16777216 % 256) ≡ n % 4294967296
low_half n = omega arith

high_half : (n : ℕ) → n < 2 ^ 64 →
    n / 4294967296 % 256 + 256 * (n / 1099511627776 % 256) + 65536 * (n / 281474976710656 % 256) + 16777216 * (n / 72057594037927936 % 256) ≡ n / 4294967296
high_half n fits = omega arith

-- four bytes that stand in a list
four_at : (front rest : List ℕ) (place a b c d : ℕ) → length front ≡ place
    → u32_at place (front ++ (a ∷ b ∷ c ∷ d ∷ rest)) ≡ a + 256 * b + 65536 * c + 16777216 * d
four_at front rest place a b c d at =
    let byte : (k i : ℕ) → i ≡ place + k → get_or (front ++ (a ∷ b ∷ c ∷ d ∷ rest)) i 0 ≡ get_or (a ∷ b ∷ c ∷ d ∷ rest) k 0 =
    (λ k i is. rw (is, ← at) (get_or-append-add front (a ∷ b ∷ c ∷ d ∷ rest) k 0)) in
    let within : nat_lt (length (front ++ (a ∷ b ∷ c ∷ d ∷ rest))) (place + 4) ≡ false = within_it (length-append front (a ∷ b ∷ c ∷ d ∷ rest)) in
    rw (within, byte 0 place (let e : place ≡ place + 0 = omega arith in e), byte 1 (place + 1) refl, byte 2 (place + 2) refl, byte 3 (place + 3) refl) refl
  where
    within_it : length (front ++ (a ∷ b ∷ c ∷ d ∷ rest)) ≡ length front + length (a ∷ b ∷ c ∷ d ∷ rest) → nat_lt (length (front ++ (a ∷ b ∷ c ∷ d ∷ rest))) (place + 4) ≡ false
    within_it e =
        let long : place + 4 ≤ length (front ++ (a ∷ b ∷ c ∷ d ∷ rest)) = omega (arith, e) in grind (arith, nat_tests)

u64_at-append : (front : List ℕ) (n : ℕ) (rest : List ℕ) (place : ℕ) → length front ≡ place → n < 2 ^ 64 → u64_at place (front ++ (to_le_bytes w64 n ++ rest)) ≡ n
u64_at-append front n rest place at fits =
    let high : List ℕ = n / 4294967296 % 256 ∷ n / 1099511627776 % 256 ∷ n / 281474976710656 % 256 ∷ n / 72057594037927936 % 256 ∷ rest in
    let low : List ℕ = n % 256 ∷ n / 256 % 256 ∷ n / 65536 % 256 ∷ n / 16777216 % 256 ∷ [] in
    let first : u32_at place (front ++ (to_le_bytes w64 n ++ rest)) ≡ n % 4294967296 = four_at front high place (n % 256) (n / 256 % 256) (n / 65536 % 256) (n / 16777216 % 256) at ∙ low_half n in
    let moved : front ++ (to_le_bytes w64 n ++ rest) ≡ (front ++ low) ++ high = sym (append_assoc front low high) in
    let second : u32_at (place + 4) (front ++ (to_le_bytes w64 n ++ rest)) ≡ n / 4294967296 =
    ap (u32_at (place + 4)) moved
    ∙ four_at (front ++ low) rest (place + 4) (n / 4294967296 % 256) (n / 1099511627776 % 256) (n / 281474976710656 % 256) (n / 72057594037927936 % 256) (length-append front low ∙ ap (λ (k : ℕ). k + 4) at)
    ∙ high_half n fits in
    omega (arith, first, second)

-- ---- the header

record HeaderReads (op channel id offset len count : ℕ) (tail bytes : List ℕ) : Type 0 where
  op_is : u16_at 0 bytes ≡ op
  channel_is : u16_at 2 bytes ≡ channel
  id_is : u32_at 4 bytes ≡ id
  offset_is : u64_at 8 bytes ≡ offset
  length_is : u32_at 16 bytes ≡ len
  count_is : u16_at 20 bytes ≡ count
  tail_is : drop 24 bytes ≡ tail
  long : length bytes ≡ 24 + length tail

header-reads : (op channel id offset len count : ℕ) (tail : List ℕ) → op < 65536 → channel < 65536 → HasPlace id offset → len < 4294967296 → count < 65536
    → HeaderReads op channel id offset len count tail (header_bytes op channel id offset len count ++ tail)
header-reads op channel id offset len count tail op_fits channel_fits place len_fits count_fits =
    let bytes : List ℕ = header_bytes op channel id offset len count ++ tail in
    record {
      op_is = u16_at-append [] op (drop 2 bytes) 0 refl op_fits;
      channel_is = u16_at-append (take 2 bytes) channel (drop 4 bytes) 2 refl channel_fits;
      id_is = u32_at-append (take 4 bytes) id (drop 8 bytes) 4 refl place.id_fits;
      offset_is = u64_at-append (take 8 bytes) offset (drop 16 bytes) 8 refl place.offset_fits;
      length_is = u32_at-append (take 16 bytes) len (drop 20 bytes) 16 refl len_fits;
      count_is = u16_at-append (take 20 bytes) count (drop 22 bytes) 20 refl count_fits;
      tail_is = refl;
      long = omega arith;
    }

-- ---- its tests

module _ (op channel id offset len count : ℕ) (tail bytes : List ℕ) (h : HeaderReads op channel id offset len count tail bytes) where
  op_test : (p : ℕ → Bool) → p (u16_at 0 bytes) ≡ p op
  op_test p = ap p h.op_is

  lists-is : lists_descriptors bytes ≡ (channel == 1 && not (op == 3))
  lists-is = ap (λ (c : ℕ). c == 1 && not (u16_at 0 bytes == 3)) h.channel_is ∙ ap (λ (o : ℕ). channel == 1 && not (o == 3)) h.op_is

  short-is : 16 * count ≤ length tail → is_short bytes ≡ false
  short-is fits = not_short (length bytes) (u16_at 2 bytes) (u16_at 0 bytes) (u16_at 20 bytes) (omega (arith, h.long, h.count_is)) where
    and_false : (x y z : Bool) → (x && y && z && false) ≡ false
    and_false true true true = refl
    and_false true true false = refl
    and_false true false true = refl
    and_false true false false = refl
    and_false false y z = refl

    not_short : (n c o k : ℕ) → 24 + 16 * k ≤ n → (nat_lt n 24 || (c == 1 && (o == 1 || o == 2) && is_count k && nat_lt n (24 + 16 * k))) ≡ false
    not_short n c o k e =
        let a : nat_lt n 24 ≡ false = grind (arith, nat_tests) in
        let b : nat_lt n (24 + 16 * k) ≡ false = grind (arith, nat_tests) in
        ap (λ (t : Bool). t || (c == 1 && (o == 1 || o == 2) && is_count k && nat_lt n (24 + 16 * k))) a
        ∙ ap (λ (t : Bool). c == 1 && (o == 1 || o == 2) && is_count k && t) b ∙ and_false (c == 1) (o == 1 || o == 2) (is_count k)

  counts-is : counts_well bytes ≡ (cond (channel == 1 && not (op == 3)) (is_count count) (count == 0))
  counts-is =
      ap (λ (t : Bool). cond t (is_count (u16_at 20 bytes)) (u16_at 20 bytes == 0)) lists-is
      ∙ ap (λ (k : ℕ). cond (channel == 1 && not (op == 3)) (is_count k) (k == 0)) h.count_is

  descriptors-is : (request_fields bytes).descriptors ≡ cond (channel == 1 && not (op == 3)) (descriptors_in count tail) []
  descriptors-is =
      ap (λ (t : Bool). cond t (descriptors_in (u16_at 20 bytes) (drop 24 bytes)) []) lists-is
      ∙ ap (λ (k : ℕ). cond (channel == 1 && not (op == 3)) (descriptors_in k (drop 24 bytes)) []) h.count_is
      ∙ ap (λ (rest : List ℕ). cond (channel == 1 && not (op == 3)) (descriptors_in count rest) []) h.tail_is

  inline-is : (request_fields bytes).inline ≡ cond (op == 1 && channel == 0) tail []
  inline-is =
      ap (λ (o : ℕ). cond (o == 1 && u16_at 2 bytes == 0) (drop 24 bytes) []) h.op_is
      ∙ ap (λ (c : ℕ). cond (op == 1 && c == 0) (drop 24 bytes) []) h.channel_is
      ∙ ap (λ (rest : List ℕ). cond (op == 1 && channel == 0) rest []) h.tail_is

  fields-is : (ds : List Descriptor) (inline : List ℕ) → cond (channel == 1 && not (op == 3)) (descriptors_in count tail) [] ≡ ds → cond (op == 1 && channel == 0) tail [] ≡ inline
      → request_fields bytes ≡ record { op = op; channel = channel; id = id; offset = offset; length = len; descriptors = ds; inline = inline }
  fields-is ds inline d e =
      made h.op_is h.channel_is h.id_is h.offset_is h.length_is (descriptors-is ∙ d) (inline-is ∙ e)
    where
      made : {o p c g i j f k l m : ℕ} {ds es : List Descriptor} {x y : List ℕ} → o ≡ p → c ≡ g → i ≡ j → f ≡ k → l ≡ m → ds ≡ es → x ≡ y
          → ◌≡◌ {A = Request} (record { op = o; channel = c; id = i; offset = f; length = l; descriptors = ds; inline = x })
          (record { op = p; channel = g; id = j; offset = k; length = m; descriptors = es; inline = y })
      made a b c d e f g = rw (a, b, c, d, e, f, g) refl

request_passes : (a b c d e f : Bool) → a ≡ false → b ≡ true → c ≡ false → d ≡ true → e ≡ true → f ≡ false
    → cond a (Some Short) (cond (not b) (Some Op) (cond c (Some Channel) (cond (not d) (Some Count) (cond (not e) (Some Length) (cond f (Some Overlap) None))))) ≡ None
request_passes a b c d e f p q r s t u = rw (p, q, r, s, t, u) refl

read_as : (bytes : List ℕ) (r : Request) → is_short bytes ≡ false → is_op (u16_at 0 bytes) ≡ true → nat_lt 1 (u16_at 2 bytes) ≡ false → counts_well bytes ≡ true
    → has_length bytes r ≡ true → overlap r.descriptors ≡ false → request_fields bytes ≡ r → request_of bytes ≡ Ok r
unfolding request_fault
read_as bytes r a b c d e f fields =
    ap (λ (o : Option FileFault). value_or_fault o (request_fields bytes))
    (request_passes (is_short bytes) (is_op (u16_at 0 bytes)) (nat_lt 1 (u16_at 2 bytes)) (counts_well bytes) (has_length bytes (request_fields bytes)) (overlap (request_fields bytes).descriptors)
    a b c d (ap (has_length bytes) fields ∙ e) (ap (λ (q : Request). overlap q.descriptors) fields ∙ f))
    ∙ ap (λ (q : Request). Ok q) fields

-- the length of what is carried or asked for, where no descriptors are listed
plain_length : (lists write : Bool) (len n : ℕ) → lists ≡ false → IsLength len → (write ≡ true → n ≡ len)
    → (nat_le 1 len && nat_le len 65536 && cond lists (are_sound [] && 0 == len) (not write || n == len)) ≡ true
plain_length lists write len n l s e =
    let a : nat_le 1 len ≡ true = (let x : 1 ≤ len = s.some in grind (arith, nat_tests)) in
    let b : nat_le len 65536 ≡ true = (let x : len ≤ 65536 = s.few in grind (arith, nat_tests)) in
    rw (a, b, l) (by_write write e) where
      by_write : (t : Bool) → (t ≡ true → n ≡ len) → (not t || n == len) ≡ true
      by_write true f = (let same : n ≡ len = f refl in grind (arith, nat_tests))
      by_write false f = refl

pub inline_writes : InlineWritesAreRead
inline_writes id offset bytes place size =
    let m : List ℕ = request_bytes (inline_write id offset bytes) in
    let h : HeaderReads 1 0 id offset (length bytes) 0 bytes m = (let few : length bytes ≤ 65536 = size.few in header-reads 1 0 id offset (length bytes) 0 bytes (lit< tt) (lit< tt) place (omega arith) (lit< tt)) in
    read_as m (inline_write id offset bytes) (short-is 1 0 id offset (length bytes) 0 bytes m h (omega arith)) (ap is_op h.op_is) (ap (nat_lt 1) h.channel_is)
    (counts-is 1 0 id offset (length bytes) 0 bytes m h)
    (plain_length (lists_descriptors m) true (length bytes) (length bytes) (lists-is 1 0 id offset (length bytes) 0 bytes m h) size (λ t. refl))
    refl (fields-is 1 0 id offset (length bytes) 0 bytes m h [] bytes refl refl)

pub inline_reads : InlineReadsAreRead
inline_reads id offset len place size =
    let m : List ℕ = request_bytes (inline_read id offset len) in
    let h : HeaderReads 2 0 id offset len 0 [] m = (let few : len ≤ 65536 = size.few in header-reads 2 0 id offset len 0 [] (lit< tt) (lit< tt) place (omega arith) (lit< tt)) in
    read_as m (inline_read id offset len) (short-is 2 0 id offset len 0 [] m h (omega arith)) (ap is_op h.op_is) (ap (nat_lt 1) h.channel_is)
    (counts-is 2 0 id offset len 0 [] m h)
    (plain_length (lists_descriptors m) false len 0 (lists-is 2 0 id offset len 0 [] m h) size (λ t. let x : 0 ≡ len = cc in x))
    refl (fields-is 2 0 id offset len 0 [] m h [] [] refl refl)

pub ends_read : EndsAreRead
ends_read id offset place =
    let m : List ℕ = request_bytes (end_request id offset) in
    let h : HeaderReads 3 0 id offset 0 0 [] m = header-reads 3 0 id offset 0 0 [] (lit< tt) (lit< tt) place (lit< tt) (lit< tt) in
    read_as m (end_request id offset) (short-is 3 0 id offset 0 0 [] m h (omega arith)) (ap is_op h.op_is) (ap (nat_lt 1) h.channel_is)
    (counts-is 3 0 id offset 0 0 [] m h) refl refl (fields-is 3 0 id offset 0 0 [] m h [] [] refl refl)

-- ---- descriptors

sound_parts : (d : Descriptor) (later : Bool) → (is_sound d && later) ≡ true → (1 ≤ d.length) × (place_after d < 2 ^ 64) × (later ≡ true)
sound_parts d later e = by_tests (nat_lt 0 d.length) (nat_lt (place_after d) (2 ^ 64)) later refl refl e where
  by_tests : (a b c : Bool) → nat_lt 0 d.length ≡ a → nat_lt (place_after d) (2 ^ 64) ≡ b → ((a && b) && c) ≡ true → (1 ≤ d.length) × (place_after d < 2 ^ 64) × (c ≡ true)
  by_tests true true true p q h = ((let x : 0 < d.length = grind (arith, nat_tests) in omega arith), (let x : place_after d < 2 ^ 64 = grind (arith, nat_tests) in x), refl)
  by_tests true true false p q h = absurd (let x : ⊥ = cc in x)
  by_tests true false c p q h = absurd (let x : ⊥ = cc in x)
  by_tests false b c p q h = absurd (let x : ⊥ = cc in x)

fields_written : (d : Descriptor) (rest : List ℕ) → d.offset < 2 ^ 64 → d.token < 2 ^ 32 → d.length < 2 ^ 32 → fields_of (descriptor_bytes d ++ rest) ≡ d
fields_written d rest o t l =
    let bytes : List ℕ = descriptor_bytes d ++ rest in
    let offset : u64_at 0 bytes ≡ d.offset = u64_at-append [] d.offset (drop 8 bytes) 0 refl o in
    let token : u32_at 8 bytes ≡ d.token = u32_at-append (take 8 bytes) d.token (drop 12 bytes) 8 refl t in
    let len : u32_at 12 bytes ≡ d.length = u32_at-append (take 12 bytes) d.length (drop 16 bytes) 12 refl l in
    made offset token len
  where
    made : {o p t u l m : ℕ} → o ≡ p → t ≡ u → l ≡ m → ◌≡◌ {A = Descriptor} (record { offset = o; token = t; length = l }) (record { offset = p; token = u; length = m })
    made a b c = rw (a, b, c) refl

list_written : (list : List Descriptor) (rest : List ℕ) → TokensFit list → are_sound list ≡ true → sum_of_lengths list ≤ 65536
    → descriptors_in (length list) (flat_map descriptor_bytes list ++ rest) ≡ list
list_written [] rest t s few = refl
list_written (d ∷ list) rest t s few =
    let parts = sound_parts d (are_sound list) s in
    let end : place_after d < 2 ^ 64 = parts.1 in
    ap (λ (x : Descriptor). x ∷ descriptors_in (length list) (flat_map descriptor_bytes list ++ rest))
    (fields_written d (flat_map descriptor_bytes list ++ rest) (omega arith) t.0 (omega arith))
    ∙ ap (λ (x : List Descriptor). d ∷ x) (list_written list rest t.1 parts.2 (omega arith))

length-list_written : (list : List Descriptor) → length (flat_map descriptor_bytes list) ≡ 16 * length list
length-list_written [] = refl
length-list_written (d ∷ list) = omega (arith, length-list_written list)

registered_length : (lists : Bool) (len : ℕ) (sound other : Bool) → lists ≡ true → IsLength len → sound ≡ true
    → (nat_le 1 len && nat_le len 65536 && cond lists (sound && len == len) other) ≡ true
registered_length lists len sound other l s e =
    let a : nat_le 1 len ≡ true = (let x : 1 ≤ len = s.some in grind (arith, nat_tests)) in
    let b : nat_le len 65536 ≡ true = (let x : len ≤ 65536 = s.few in grind (arith, nat_tests)) in
    let c : (len == len) ≡ true = grind (arith, nat_tests) in
    rw (a, b, l, e, c) refl

count_fits : (n : ℕ) → 1 ≤ n → n ≤ 16 → is_count n ≡ true
count_fits n some few =
    let a : nat_le 1 n ≡ true = grind (arith, nat_tests) in
    let b : nat_le n 16 ≡ true = grind (arith, nat_tests) in
    rw (a, b) refl

registered_by : (op id offset : ℕ) (list : List Descriptor) → op < 65536 → is_op op ≡ true → (op == 3) ≡ false → HasPlace id offset → MayBeNamed list
    → IsReadBack (registered op id offset list)
registered_by op id offset list op_fits is_one not_end place n =
    let len : ℕ = sum_of_lengths list in
    let tail : List ℕ = flat_map descriptor_bytes list ++ [] in
    let m : List ℕ = request_bytes (registered op id offset list) in
    let few : length list ≤ 16 = n.few in
    let some : 1 ≤ length list = n.some in
    let most : len ≤ 65536 = n.bytes.few in
    let size : length tail ≡ 16 * length list = ap length (append-nil (flat_map descriptor_bytes list)) ∙ length-list_written list in
    let h : HeaderReads op 1 id offset len (length list) tail m = header-reads op 1 id offset len (length list) tail op_fits (lit< tt) place (omega arith) (omega arith) in
    let lists : lists_descriptors m ≡ true = lists-is op 1 id offset len (length list) tail m h ∙ ap not not_end in
    let whole : cond (not (op == 3)) (descriptors_in (length list) tail) [] ≡ list =
    ap (λ (t : Bool). cond (not t) (descriptors_in (length list) tail) []) not_end ∙ list_written list [] n.tokens n.sound n.bytes.few in
    read_as m (registered op id offset list) (short-is op 1 id offset len (length list) tail m h (omega (arith, size))) (ap is_op h.op_is ∙ is_one) (ap (nat_lt 1) h.channel_is)
    (counts-is op 1 id offset len (length list) tail m h ∙ ap (λ (t : Bool). cond (not t) (is_count (length list)) (length list == 0)) not_end ∙ count_fits (length list) n.some n.few)
    (ap (λ (t : Bool). cond t (len == 0) (nat_le 1 len && nat_le len 65536 && cond (lists_descriptors m) (are_sound list && len == len) (not (op == 1) || 0 == len))) not_end
    ∙ registered_length (lists_descriptors m) len (are_sound list) (not (op == 1) || 0 == len) lists n.bytes n.sound)
    n.apart (fields-is op 1 id offset len (length list) tail m h list [] whole (none (op == 1)))
  where
    none : (t : Bool) → cond (t && false) (flat_map descriptor_bytes list ++ []) [] ≡ []
    none true = refl
    none false = refl

pub registered_read : RegisteredAreRead
registered_read op id offset list (inl e) place n = subst (λ (o : ℕ). IsReadBack (registered o id offset list)) (sym e) (registered_by 1 id offset list (lit< tt) refl refl place n)
registered_read op id offset list (inr e) place n = subst (λ (o : ℕ). IsReadBack (registered o id offset list)) (sym e) (registered_by 2 id offset list (lit< tt) refl refl place n)

-- ---- replies

reply_passes : (a b c d : Bool) → a ≡ false → b ≡ true → c ≡ true → d ≡ true
    → cond a (Some Short) (cond (not b) (Some Op) (cond (not c) (Some Length) (cond (not d) (Some Order) None))) ≡ None
reply_passes a b c d p q r s = rw (p, q, r, s) refl

pub replies_read : RepliesAreRead
unfolding fault_in_reply
replies_read asked r a =
    let bytes : List ℕ = reply_bytes r in
    let status : u16_at 2 bytes ≡ r.status = u16_at-append (take 2 bytes) r.status (drop 4 bytes) 2 refl a.status in
    let op : u16_at 0 bytes ≡ r.op = (let small : asked.op < 32768 = a.asked_op in u16_at-append [] r.op (drop 2 bytes) 0 refl (omega (arith, a.op))) in
    let id : u32_at 4 bytes ≡ r.id = u32_at-append (take 4 bytes) r.id (drop 8 bytes) 4 refl a.id_fits in
    let count : u32_at 8 bytes ≡ r.count = u32_at-append (take 8 bytes) r.count (drop 12 bytes) 8 refl a.count_fits in
    let inline : cond (carries_bytes asked bytes) r.inline [] ≡ r.inline =
    ap (λ (s : ℕ). cond (asked.op == 2 && asked.channel == 0 && s == 0) r.inline []) status ∙ kept (asked.op == 2 && asked.channel == 0 && r.status == 0) refl in
    let fields : reply_fields asked bytes ≡ r = made op status id count inline in
    let long : nat_lt (length bytes) 12 ≡ false = (let x : 12 ≤ length bytes = omega arith in grind (arith, nat_tests)) in
    let ops : (u16_at 0 bytes == asked.op + 32768) ≡ true = (let x : u16_at 0 bytes ≡ asked.op + 32768 = op ∙ a.op in grind (arith, nat_tests)) in
    let ids : (u32_at 4 bytes == asked.id) ≡ true = (let x : u32_at 4 bytes ≡ asked.id = id ∙ a.id in grind (arith, nat_tests)) in
    ap (λ (o : Option FileFault). value_or_fault o (reply_fields asked bytes))
    (reply_passes (nat_lt (length bytes) 12) (u16_at 0 bytes == asked.op + 32768) (has_count asked (reply_fields asked bytes)) (u32_at 4 bytes == asked.id)
    long ops (ap (has_count asked) fields ∙ a.count) ids)
    ∙ ap (λ (q : Reply). Ok q) fields
  where
    kept : (t : Bool) → (asked.op == 2 && asked.channel == 0 && r.status == 0) ≡ t → cond t r.inline [] ≡ r.inline
    kept true e = refl
    kept false e = sym (a.inline e)

    made : {o p s t i j c k : ℕ} {x y : List ℕ} → o ≡ p → s ≡ t → i ≡ j → c ≡ k → x ≡ y
        → ◌≡◌ {A = Reply} (record { op = o; status = s; id = i; count = c; inline = x }) (record { op = p; status = t; id = j; count = k; inline = y })
    made a b c d e = rw (a, b, c, d, e) refl
