-- The WRITEs of a put without registered pages.
use Rattle.std.proofs.Common.{◌≡◌, ℕ, zero, suc, ◌+◌, ◌-◌, ◌*◌, ◌/◌, ◌%◌, ◌<◌, ◌≤◌, false, is_some, Option, Some, None, List, [], ◌∷◌, ◌++◌, length, take, drop, map, refl, sym, ap, ◌∙◌, add-one, length-append, length-drop, arith}
use Rattle.std.specs.Prelude.{slice_get, OnOk, Result, Ok, Err}
use Rattle.std.specs.Int.{w16, w32, w64, to_le_bytes}
use Rattle.std.proofs.lemmas.List.{drop-append-le, take-append-le, map-append}
use Rattle.file_messages.specs.declared.kind.Channel.TheVariants as channels
use Rattle.file_messages.specs.declared.message.Request.{Request}
use Rattle.file_messages.specs.Messages.{request_bytes}
use Rattle.file_messages.specs.Runs.{inline_write, writes_from}
use Rattle.file_pasts.specs.ClientPast.{ClientEvent, Group, Sent, groups_in, requests_sent, total, has_failed}
use Rattle.file_pasts.specs.PutDue.{next_request}
use Rattle.file_pasts.proofs.GroupLemmas.{next_of, none_next, total-take-short, short_at, drop_whole}
use Rattle.file_pasts.proofs.Naming.{all_short}
use Rattle.file_transfer.specs.declared.put_inline.InlineGroups.{InlineGroups}
use Rattle.file_transfer.specs.declared.put_requests.PutRequests.{PutRequests}
use Rattle.file_transfer.specs.ClientStands.{past_after_sending}
use Rattle.file_transfer.specs.PutStands.{RequestsStand, AllSent}
use Rattle.file_transfer.specs.PutInlineStands.{InlineStands, without_pages}

-- the id of a message has 32 bits
low_id : (k : ℕ) → to_le_bytes w32 (k % 4294967296) ≡ to_le_bytes w32 k
low_id k =
    let a : k % 4294967296 % 256 ≡ k % 256 = omega arith in
    let b : k % 4294967296 / 256 % 256 ≡ k / 256 % 256 = omega arith in
    let c : k % 4294967296 / 65536 % 256 ≡ k / 65536 % 256 = omega arith in
    let d : k % 4294967296 / 16777216 % 256 ≡ k / 16777216 % 256 = omega arith in
    rw (a, b, c, d) refl

pub write-id : (k offset : ℕ) (group : List ℕ) → request_bytes (inline_write (k % 4294967296) offset group) ≡ request_bytes (inline_write k offset group)
write-id k offset group =
    ap (λ (t : List ℕ). to_le_bytes w16 1 ++ to_le_bytes w16 0 ++ t ++ to_le_bytes w64 offset ++ to_le_bytes w32 (length group) ++ to_le_bytes w16 0 ++ to_le_bytes w16 0 ++ group) (low_id k)

writes-append : (k o : ℕ) (gs : List (List ℕ)) (b : List ℕ)
    → writes_from channels.None 0 k o (gs ++ b ∷ []) ≡ writes_from channels.None 0 k o gs ++ inline_write (k + length gs) (o + total gs) b ∷ []
writes-append k o [] b =
    let k_is : k + 0 ≡ k = omega arith in
    let o_is : o + 0 ≡ o = omega arith in
    rw (k_is, o_is) refl
writes-append k o (g ∷ gs) b =
    let k_is : k + 1 + length gs ≡ k + suc (length gs) = omega arith in
    let o_is : o + length g + total gs ≡ o + (length g + total gs) = omega arith in
    ap (λ (rs : List Request). inline_write k o g ∷ rs)
    (writes-append (k + 1) (o + length g) gs b
    ∙ ap (λ (n : ℕ). writes_from channels.None 0 (k + 1) (o + length g) gs ++ inline_write n (o + length g + total gs) b ∷ []) k_is
    ∙ ap (λ (n : ℕ). writes_from channels.None 0 (k + 1) (o + length g) gs ++ inline_write (k + suc (length gs)) n b ∷ []) o_is)

pub total-split : (n : ℕ) (gs : List (List ℕ)) → total (take n gs) + total (drop n gs) ≡ total gs
total-split zero gs = omega arith
total-split (suc n) [] = refl
total-split (suc n) (g ∷ gs) = omega (arith, total-split n gs)

pub total-append : (gs : List (List ℕ)) (b : List ℕ) → total (gs ++ b ∷ []) ≡ total gs + length b
total-append [] b = omega arith
total-append (g ∷ gs) b = omega (arith, total-append gs b)

-- ---- a group is handed in

pub stand-taken : (past : List ClientEvent) (m n : InlineGroups) (bytes message : List ℕ) → InlineStands past m → length (requests_sent past) ≤ length (groups_in past)
    → message ≡ request_bytes (inline_write ((m.count + 1) % 4294967296) m.bytes bytes) → n.waiting.items ≡ m.waiting.items ++ message ∷ []
    → n.count ≡ m.count + 1 → n.bytes ≡ m.bytes + length bytes → InlineStands (Group bytes ∷ past) n
stand-taken past m n bytes message s within is waiting count size =
    let sent : ℕ = length (requests_sent past) in
    let gs : List (List ℕ) = groups_in past in
    let number : sent + 1 + length (drop sent gs) ≡ m.count + 1 = omega (arith, s.count, length-drop sent gs) in
    let before : total (take sent gs) + total (drop sent gs) ≡ m.bytes = total-split sent gs ∙ sym s.bytes in
    let last : message ≡ request_bytes (inline_write (sent + 1 + length (drop sent gs)) (total (take sent gs) + total (drop sent gs)) bytes) =
    is ∙ write-id (m.count + 1) m.bytes bytes ∙ ap (λ (k : ℕ). request_bytes (inline_write k m.bytes bytes)) (sym number)
    ∙ ap (λ (o : ℕ). request_bytes (inline_write (sent + 1 + length (drop sent gs)) o bytes)) (sym before) in
    record {
      waiting = waiting ∙ ap (λ (x : List (List ℕ)). x ++ message ∷ []) s.waiting
          ∙ ap (λ (x : List ℕ). map request_bytes (writes_from channels.None 0 (sent + 1) (total (take sent gs)) (drop sent gs)) ++ x ∷ []) last
          ∙ sym (map-append request_bytes (writes_from channels.None 0 (sent + 1) (total (take sent gs)) (drop sent gs))
          (inline_write (sent + 1 + length (drop sent gs)) (total (take sent gs) + total (drop sent gs)) bytes ∷ []))
          ∙ ap (map request_bytes) (sym (writes-append (sent + 1) (total (take sent gs)) (drop sent gs) bytes))
          ∙ ap (λ (x : List (List ℕ)). map request_bytes (writes_from channels.None 0 (sent + 1) (total (take sent gs)) x)) (sym (drop-append-le sent gs (bytes ∷ []) within))
          ∙ ap (λ (x : List (List ℕ)). map request_bytes (writes_from channels.None 0 (sent + 1) (total x) (drop sent (gs ++ bytes ∷ [])))) (sym (take-append-le sent gs (bytes ∷ []) within));
      count = count ∙ ap (λ (k : ℕ). k + 1) s.count ∙ sym (length-append gs (bytes ∷ []));
      bytes = size ∙ ap (λ (k : ℕ). k + length bytes) s.bytes ∙ sym (total-append gs bytes);
    }

-- ---- a WRITE is given

-- what the first message that waits is
pub record IsFirstWrite (past : List ClientEvent) (message : List ℕ) (rest : List (List ℕ)) : Type 0 where
  pub group : List ℕ
  pub get : slice_get (groups_in past) (length (requests_sent past)) ≡ Some group
  pub within : length (requests_sent past) < length (groups_in past)
  pub message_is : message ≡ request_bytes (inline_write (length (requests_sent past) + 1) (total (take (length (requests_sent past)) (groups_in past))) group)
  pub rest_is : rest ≡ map request_bytes (writes_from channels.None 0 (suc (length (requests_sent past)) + 1)
      (total (take (suc (length (requests_sent past))) (groups_in past))) (drop (suc (length (requests_sent past))) (groups_in past)))

pub first_write : (past : List ClientEvent) (m : InlineGroups) (message : List ℕ) (rest : List (List ℕ)) → InlineStands past m → m.waiting.items ≡ message ∷ rest
    → IsFirstWrite past message rest
first_write past m message rest s e = by_rest (drop (length (requests_sent past)) (groups_in past)) refl (sym s.waiting ∙ e) where
  by_rest : (xs : List (List ℕ)) → drop (length (requests_sent past)) (groups_in past) ≡ xs
      → map request_bytes (writes_from channels.None 0 (length (requests_sent past) + 1) (total (take (length (requests_sent past)) (groups_in past))) xs) ≡ message ∷ rest
      → IsFirstWrite past message rest
  by_rest [] p h = absurd (let b : ⊥ = cc in b)
  by_rest (g ∷ gs) p h =
      let next = next_of (length (requests_sent past)) (groups_in past) g gs p in
      let number : length (requests_sent past) + 1 + 1 ≡ suc (length (requests_sent past)) + 1 = omega arith in
      record {
        group = g;
        get = next.get;
        within = next.within;
        message_is = head_of (request_bytes (inline_write (length (requests_sent past) + 1) (total (take (length (requests_sent past)) (groups_in past))) g)) message
            (map request_bytes (writes_from channels.None 0 (length (requests_sent past) + 1 + 1) (total (take (length (requests_sent past)) (groups_in past)) + length g) gs)) rest h;
        rest_is = tail_of (request_bytes (inline_write (length (requests_sent past) + 1) (total (take (length (requests_sent past)) (groups_in past))) g)) message
            (map request_bytes (writes_from channels.None 0 (length (requests_sent past) + 1 + 1) (total (take (length (requests_sent past)) (groups_in past)) + length g) gs)) rest h
            ∙ ap (λ (k : ℕ). map request_bytes (writes_from channels.None 0 k (total (take (length (requests_sent past)) (groups_in past)) + length g) gs)) number
            ∙ ap (λ (k : ℕ). map request_bytes (writes_from channels.None 0 (suc (length (requests_sent past)) + 1) k gs)) (sym next.sum)
            ∙ ap (λ (k : List (List ℕ)). map request_bytes (writes_from channels.None 0 (suc (length (requests_sent past)) + 1) (total (take (suc (length (requests_sent past))) (groups_in past))) k)) (sym next.rest_is);
      }
    where
      head_of : (x y : List ℕ) (xs ys : List (List ℕ)) → x ∷ xs ≡ y ∷ ys → y ≡ x
      head_of x y xs ys e = cc

      tail_of : (x y : List ℕ) (xs ys : List (List ℕ)) → x ∷ xs ≡ y ∷ ys → ys ≡ xs
      tail_of x y xs ys e = cc

pub none_wait : (past : List ClientEvent) (m : InlineGroups) → InlineStands past m → m.waiting.items ≡ [] → AllSent past
none_wait past m s e = by_rest (drop (length (requests_sent past)) (groups_in past)) refl (sym s.waiting ∙ e) where
  by_rest : (xs : List (List ℕ)) → drop (length (requests_sent past)) (groups_in past) ≡ xs
      → map request_bytes (writes_from channels.None 0 (length (requests_sent past) + 1) (total (take (length (requests_sent past)) (groups_in past))) xs) ≡ []
      → AllSent past
  by_rest [] p h = record { all = none_next (length (requests_sent past)) (groups_in past) p }
  by_rest (g ∷ gs) p h = absurd (let b : ⊥ = cc in b)

pub write-due : (w : ℕ) (past : List ClientEvent) (q : PutRequests) (message : List ℕ) (rest : List (List ℕ)) (f : IsFirstWrite past message rest) → RequestsStand (without_pages w) past q
    → is_some q.asked.fault ≡ false
    → next_request (without_pages w) past ≡ Some (inline_write (length (requests_sent past) + 1) (total (take (length (requests_sent past)) (groups_in past))) f.group)
write-due w past q message rest f s h =
    let going : has_failed past ≡ false = ap is_some (sym s.asked.fault) ∙ h in
    let get : slice_get (groups_in past) (length (requests_sent past)) ≡ Some f.group = f.get in
    let less : length (requests_sent past) + 1 - 1 ≡ length (requests_sent past) = omega arith in
    rw (going, get, less) refl

length-write : (k offset : ℕ) (group : List ℕ) → length (request_bytes (inline_write k offset group)) ≡ 24 + length group
length-write k offset group = twenty_four (length group) where
  twenty_four : (n : ℕ) → suc (suc (suc (suc (suc (suc (suc (suc (suc (suc (suc (suc (suc (suc (suc (suc (suc (suc (suc (suc (suc (suc (suc (suc n))))))))))))))))))))))) ≡ 24 + n
  twenty_four n = omega arith

-- the numbers of a WRITE that waits
pub record FitsWrite (past : List ClientEvent) (message group : List ℕ) : Type 0 where
  pub size : length message ≡ 24 + length group
  pub short : length group ≤ 65536
  pub before : total (take (length (requests_sent past)) (groups_in past)) ≤ 65536 * length (requests_sent past)

pub fits-write : (w : ℕ) (past : List ClientEvent) (q : PutRequests) (message : List ℕ) (rest : List (List ℕ)) (f : IsFirstWrite past message rest)
    → RequestsStand (without_pages w) past q → FitsWrite past message f.group
fits-write w past q message rest f s =
    let all = all_short (without_pages w) past s.lawful in
    record {
      size = ap length f.message_is ∙ length-write (length (requests_sent past) + 1) (total (take (length (requests_sent past)) (groups_in past))) f.group;
      short = short_at (length (requests_sent past)) (groups_in past) f.group all f.get;
      before = total-take-short (length (requests_sent past)) (groups_in past) all;
    }

pub stand-asked : (w : ℕ) (past : List ClientEvent) (g h : InlineGroups) (r : Request) (message : List ℕ) (rest : List (List ℕ)) → InlineStands past g → IsFirstWrite past message rest
    → h.waiting.items ≡ rest → h.count ≡ g.count → h.bytes ≡ g.bytes → InlineStands (Sent r ∷ past) h
stand-asked w past g h r message rest s f waiting count size =
    let more : suc (length (requests_sent past)) ≡ length (requests_sent past ++ r ∷ []) = sym (length-append (requests_sent past) (r ∷ []) ∙ add-one (length (requests_sent past))) in
    record {
      waiting = waiting ∙ f.rest_is
          ∙ ap (λ (k : ℕ). map request_bytes (writes_from channels.None 0 (k + 1) (total (take k (groups_in past))) (drop k (groups_in past)))) more;
      count = count ∙ s.count;
      bytes = size ∙ s.bytes;
    }

-- END is given, or nothing
pub stand-ended : (past : List ClientEvent) (g h : InlineGroups) (o : Option Request) → InlineStands past g → AllSent past → g.waiting.items ≡ []
    → h.waiting.items ≡ g.waiting.items → h.count ≡ g.count → h.bytes ≡ g.bytes → InlineStands (past_after_sending o past) h
stand-ended past g h None s a e waiting count size = record { waiting = waiting ∙ s.waiting; count = count ∙ s.count; bytes = size ∙ s.bytes }
stand-ended past g h (Some r) s a e waiting count size =
    let none : drop (length (requests_sent past ++ r ∷ [])) (groups_in past) ≡ [] =
    drop_whole (length (requests_sent past ++ r ∷ [])) (groups_in past) (let l = length-append (requests_sent past) (r ∷ []) in let b = a.all in omega arith) in
    record {
      waiting = waiting ∙ e ∙ ap (λ (xs : List (List ℕ)). map request_bytes (writes_from channels.None 0 (length (requests_sent past ++ r ∷ []) + 1)
          (total (take (length (requests_sent past ++ r ∷ [])) (groups_in past))) xs)) (sym none);
      count = count ∙ s.count;
      bytes = size ∙ s.bytes;
    }

length-writes : (k o : ℕ) (gs : List (List ℕ)) → length (map request_bytes (writes_from channels.None 0 k o gs)) ≡ length gs
length-writes k o [] = refl
length-writes k o (g ∷ gs) = omega (arith, length-writes (k + 1) (o + length g) gs)

pub waiting-is : (past : List ClientEvent) (g : InlineGroups) → InlineStands past g → length g.waiting.items ≡ length (groups_in past) - length (requests_sent past)
waiting-is past g s =
    ap length s.waiting ∙ length-writes (length (requests_sent past) + 1) (total (take (length (requests_sent past)) (groups_in past))) (drop (length (requests_sent past)) (groups_in past))
    ∙ length-drop (length (requests_sent past)) (groups_in past)

-- what nothing was popped from is empty
pub nothing_left : {A : Type 0} (xs ys : List A) → xs ≡ ys → ys ≡ drop 1 xs → xs ≡ []
nothing_left [] ys e h = refl
nothing_left (x ∷ xs) ys e h = absurd (omega (arith, ap length e, ap length h))

pub going_on : (w : ℕ) (past : List ClientEvent) (q : PutRequests) → RequestsStand (without_pages w) past q → has_failed past ≡ false → is_some q.asked.fault ≡ false
going_on w past q s h = ap is_some s.asked.fault ∙ h

-- what follows from what holds where a call went well
pub on_ok-map : {X E A B : Type 0} (r : Result X E) → (A → B) → OnOk r A → OnOk r B
on_ok-map (Ok x) f h = f h
on_ok-map (Err e) f h = tt
