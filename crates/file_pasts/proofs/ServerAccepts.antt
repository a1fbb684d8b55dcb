-- A server that is handed the requests of a copy in turn refuses none of them.
use Rattle.std.proofs.Common.{◌≡◌, ℕ, zero, suc, ◌+◌, ◌*◌, ◌/◌, ◌≤◌, ◌==◌, ◌||◌, not, Bool, true, false, cond, Option, Some, None, Result, Ok, Err, List, [], ◌∷◌, ◌++◌, length, take, drop, map, refl, sym, ap, ◌∙◌, subst, add-one, length-append, arith}
use Rattle.std.specs.Prelude.{slice_get}
use mathlib.Core.List.{IsPrefix}
use Rattle.std.proofs.lemmas.Bool.Decides.{nat_tests}
use Rattle.std.proofs.lemmas.List.{take-append-drop, length-drop}
use Rattle.file_messages.specs.declared.kind.Channel.{Channel}
use Rattle.file_messages.specs.declared.kind.Channel.TheVariants as channels
use Rattle.file_messages.specs.declared.kind.CopyKind.{CopyKind}
use Rattle.file_messages.specs.declared.kind.CopyKind.TheVariants as kinds
use Rattle.file_messages.specs.declared.fault.FileFault.{FileFault}
use Rattle.file_messages.specs.declared.fault.FileFault.TheVariants.{Order}
use Rattle.file_messages.specs.declared.message.Request.{Request}
use Rattle.file_messages.specs.declared.message.Reply.{Reply}
use Rattle.file_messages.specs.Messages.{request_of, request_bytes}
use Rattle.file_messages.specs.Runs.{parts_from, writes_from, write_of, end_if, end_request, groups_of, windows, put_requests, get_requests, replies_to}
use Rattle.file_messages.specs.Written.{IsReadBack, AllReadBack}
use Rattle.file_messages.proofs.WrittenCopies.{puts_read, gets_read}
use Rattle.file_pasts.specs.ClientPast.{total}
use Rattle.file_pasts.specs.ServerDue.{ServerEvent, Asked, Filled, Gave, Completed, Replied, Stored, Requests, requests, replies, judged, judgement, with_judged, is_out_of_order, has_ended, written, counted, IsServer}
use Rattle.file_pasts.specs.ServerLaws.{messages_asked, NothingRefused, FillsFrom}
use Rattle.file_pasts.specs.ServerAccepts.{AcceptsAll, AsksAfterReplies, PutServersAccept, GetServersAccept}
use Rattle.file_pasts.proofs.Lists.{within, take_one_more, length_take, prefix_before, last_mapped}
use Rattle.file_pasts.proofs.ServerReplies.{serves, read_at}
use Rattle.file_pasts.proofs.GetLaw.{run_case, IsNextOfGet, next_of_get}

-- ---- one request

taken : (kind : CopyKind) (accepted : List Request) (fault : Option FileFault) (given : List Reply) (m : List ℕ) (r : Request) → fault ≡ None → request_of m ≡ Ok r
    → is_out_of_order kind accepted given r ≡ false
    → with_judged (judgement kind (record { accepted = accepted; fault = fault }) given m) (record { accepted = accepted; fault = fault }) ≡ record { accepted = accepted ++ r ∷ []; fault = None }
taken kind accepted (Some f) given m r none read turn = absurd (let b : ⊥ = cc in b)
taken kind accepted None given m r none read turn =
    ap (λ (x : Result Request FileFault). with_judged (judged kind accepted given x) (record { accepted = accepted; fault = None })) read
    ∙ ap (λ (t : Bool). with_judged (cond t (Err Order) (Ok r)) (record { accepted = accepted; fault = None })) turn

accepts_one : (kind : CopyKind) (run : List Request) (m : List ℕ) (past : List ServerEvent) (r : Request) → slice_get run (length (messages_asked past)) ≡ Some r → request_of m ≡ Ok r
    → is_out_of_order kind (take (length (messages_asked past)) run) (replies past) r ≡ false → AcceptsAll kind run past → AcceptsAll kind run (Asked m ∷ past)
accepts_one kind run m past r at read turn a =
    let n : ℕ = length (messages_asked past) in
    let now : requests kind (Asked m ∷ past) ≡ record { accepted = (requests kind past).accepted ++ r ∷ []; fault = None } =
    taken kind (requests kind past).accepted (requests kind past).fault (replies past) m r a.fault read
    (ap (λ (rs : List Request). is_out_of_order kind rs (replies past) r) a.accepted ∙ turn) in
    let more : length (messages_asked past ++ m ∷ []) ≡ suc n = length-append (messages_asked past) (m ∷ []) ∙ add-one n in
    record {
      fault = ap (λ (q : Requests). q.fault) now;
      accepted = ap (λ (q : Requests). q.accepted) now ∙ ap (λ (rs : List Request). rs ++ r ∷ []) a.accepted ∙ sym (take_one_more n run r at) ∙ ap (λ (k : ℕ). take k run) (sym more);
    }

-- the next request of the run
next_asked : (run : List Request) (m : List ℕ) (past : List ServerEvent) → AllReadBack run → IsPrefix (messages_asked past ++ m ∷ []) (map request_bytes run)
    → (r : Request) × (slice_get run (length (messages_asked past)) ≡ Some r) × (request_of m ≡ Ok r)
next_asked run m past back p =
    let one = last_mapped request_bytes (messages_asked past) m run p in
    (one.0, one.1, ap request_of one.2 ∙ read_at run (length (messages_asked past)) one.0 back one.1)

-- ---- a put

-- what a request of a put says, after these
record IsNextOfPut (id offset : ℕ) (before : List Request) (r : Request) : Type 0 where
  id_is : r.id ≡ id
  unended : has_ended before ≡ false
  writes : (r.op == 2) ≡ false
  offset_is : r.offset ≡ offset + written before

next_of_put : (channel : Channel) (w k offset last count : ℕ) (ended : Bool) (groups : List (List ℕ)) (n : ℕ) (r : Request) → last ≡ k + length groups → count ≡ offset + total groups
    → slice_get (writes_from channel w k offset groups ++ end_if ended (end_request last count)) n ≡ Some r
    → IsNextOfPut (k + n) offset (take n (writes_from channel w k offset groups ++ end_if ended (end_request last count))) r
next_of_put channel w k offset last count false [] n r l c e = absurd (let b : ⊥ = cc in b)
next_of_put channel w k offset last count true [] (suc n) r l c e = absurd (let b : ⊥ = cc in b)
next_of_put channel w k offset last count true [] zero r l c e = subst (λ (q : Request). IsNextOfPut (k + 0) offset [] q) (same (end_request last count) r e) (record {
  id_is = l;
  unended = refl;
  writes = refl;
  offset_is = c;
}) where
  same : (x y : Request) → Some x ≡ Some y → x ≡ y
  same x y h = cc
next_of_put channel w k offset last count ended (g ∷ gs) zero r l c e = subst (λ (q : Request). IsNextOfPut (k + 0) offset [] q) (same (write_of channel w k offset g) r e) (by_channel channel) where
  same : (x y : Request) → Some x ≡ Some y → x ≡ y
  same x y h = cc

  by_channel : (ch : Channel) → IsNextOfPut (k + 0) offset [] (write_of ch w k offset g)
  by_channel channels.None = record { id_is = omega arith; unended = refl; writes = refl; offset_is = omega arith }
  by_channel channels.V1 = record { id_is = omega arith; unended = refl; writes = refl; offset_is = omega arith }
next_of_put channel w k offset last count ended (g ∷ gs) (suc n) r l c e =
    by_channel channel (next_of_put channel w (k + 1) (offset + length g) last count ended gs n r (omega (arith, l)) (omega (arith, c)) e) where
      by_channel : (ch : Channel) → IsNextOfPut (k + 1 + n) (offset + length g) (take n (writes_from channel w (k + 1) (offset + length g) gs ++ end_if ended (end_request last count))) r
          → IsNextOfPut (k + suc n) offset (write_of ch w k offset g ∷ take n (writes_from channel w (k + 1) (offset + length g) gs ++ end_if ended (end_request last count))) r
      by_channel channels.None i = record { id_is = (let a = i.id_is in omega (arith, a)); unended = i.unended; writes = i.writes; offset_is = (let a = i.offset_is in omega (arith, a)) }
      by_channel channels.V1 i = record { id_is = (let a = i.id_is in omega (arith, a)); unended = i.unended; writes = i.writes; offset_is = (let a = i.offset_is in omega (arith, a)) }

same_number : (n m : ℕ) → n ≡ m → (n == m) ≡ true
same_number n m e = grind (arith, nat_tests)

none_true : (a b c d : Bool) → a ≡ true → b ≡ false → c ≡ false → d ≡ true → (not a || b || c || not d) ≡ false
none_true a b c d p q r s = rw (p, q, r, s) refl

put_in_turn : (n : ℕ) (before : List Request) (given : List Reply) (r : Request) → IsNextOfPut (1 + n) 0 before r → length before ≡ n → is_out_of_order kinds.Put before given r ≡ false
put_in_turn n before given r i size =
    let a = i.id_is in
    let d = i.offset_is in
    none_true (r.id == length before + 1) (has_ended before) (r.op == 2) (r.offset == written before)
    (same_number r.id (length before + 1) (omega (arith, a, size))) i.unended i.writes (same_number r.offset (written before) (omega (arith, d)))

total-parts : (n : ℕ) (bytes : List ℕ) → length bytes ≤ 65536 * n → total (parts_from n 65536 bytes) ≡ length bytes
total-parts zero bytes h = omega arith
total-parts (suc n) bytes h =
    let both : length (take 65536 bytes) + length (drop 65536 bytes) ≡ length bytes = sym (length-append (take 65536 bytes) (drop 65536 bytes)) ∙ ap length (take-append-drop 65536 bytes) in
    let later : total (parts_from n 65536 (drop 65536 bytes)) ≡ length (drop 65536 bytes) = total-parts n (drop 65536 bytes) (omega (arith, length-drop 65536 bytes)) in
    omega (arith, both, later)

put_next : (channel : Channel) (pages : ℕ) (ended : Bool) (bytes : List ℕ) (n : ℕ) (r : Request) → slice_get (put_requests channel pages ended bytes) n ≡ Some r
    → IsNextOfPut (1 + n) 0 (take n (put_requests channel pages ended bytes)) r
put_next channel pages ended bytes n r e =
    next_of_put channel (windows pages) 1 0 (length (groups_of bytes) + 1) (length bytes) ended (groups_of bytes) n r (omega arith)
    (let z : total (groups_of bytes) ≡ length bytes = total-parts ((length bytes + 65535) / 65536) bytes (omega arith) in omega (arith, z)) e

put_accepts : (channel : Channel) (pages : ℕ) (ended : Bool) (bytes : List ℕ) (past : List ServerEvent) → AllReadBack (put_requests channel pages ended bytes)
    → IsPrefix (messages_asked past) (map request_bytes (put_requests channel pages ended bytes)) → AcceptsAll kinds.Put (put_requests channel pages ended bytes) past
put_accepts channel pages ended bytes [] back p = record { fault = refl; accepted = refl }
put_accepts channel pages ended bytes (Asked m ∷ past) back p =
    let run : List Request = put_requests channel pages ended bytes in
    let n : ℕ = length (messages_asked past) in
    let next = next_asked run m past back p in
    let size : length (take n run) ≡ n = length_take n run (let h = within run n next.0 next.1 in omega (arith, h)) in
    accepts_one kinds.Put run m past next.0 next.1 next.2 (put_in_turn n (take n run) (replies past) next.0 (put_next channel pages ended bytes n next.0 next.1) size)
    (put_accepts channel pages ended bytes past back (prefix_before (messages_asked past) m _ p))
put_accepts channel pages ended bytes (Filled b ∷ past) back p = let a = put_accepts channel pages ended bytes past back p in record { fault = a.fault; accepted = a.accepted }
put_accepts channel pages ended bytes (Gave work ∷ past) back p = let a = put_accepts channel pages ended bytes past back p in record { fault = a.fault; accepted = a.accepted }
put_accepts channel pages ended bytes (Completed c ∷ past) back p = let a = put_accepts channel pages ended bytes past back p in record { fault = a.fault; accepted = a.accepted }
put_accepts channel pages ended bytes (Replied r ∷ past) back p = let a = put_accepts channel pages ended bytes past back p in record { fault = a.fault; accepted = a.accepted }
put_accepts channel pages ended bytes (Stored b ∷ past) back p = let a = put_accepts channel pages ended bytes past back p in record { fault = a.fault; accepted = a.accepted }

pub put_servers_accept : PutServersAccept
put_servers_accept channel pages ended bytes past pool few p = put_accepts channel pages ended bytes past (puts_read channel pages ended bytes pool few) p

-- ---- a get

all_false : (a b c d e : Bool) → a ≡ true → b ≡ false → c ≡ false → d ≡ true → e ≡ true → (not a || b || c || not d || not e) ≡ false
all_false a b c d e p q r s t = rw (p, q, r, s, t) refl

get_in_turn : (channel : Channel) (bytes : List ℕ) (n : ℕ) (given : List Reply) (r : Request) → IsNextOfGet channel bytes n r → length (take n (get_requests channel bytes)) ≡ n
    → given ≡ take n (replies_to bytes (get_requests channel bytes)) → length given ≡ n → is_out_of_order kinds.Get (take n (get_requests channel bytes)) given r ≡ false
get_in_turn channel bytes n given r i size given_is count =
    let before : List Request = take n (get_requests channel bytes) in
    let a = i.id_is in
    all_false (r.id == length before + 1) (has_ended before) (r.op == 1) (r.offset == counted given) (length given == length before)
    (same_number r.id (length before + 1) (omega (arith, a, size))) i.unended i.reads
    (same_number r.offset (counted given) (i.offset_is ∙ ap counted (sym given_is))) (same_number (length given) (length before) (omega (arith, size, count)))

get_accepts : (channel : Channel) (bytes : List ℕ) (past : List ServerEvent) → AllReadBack (get_requests channel bytes) → IsServer kinds.Get past
    → IsPrefix (messages_asked past) (map request_bytes (get_requests channel bytes)) → AsksAfterReplies past → NothingRefused past → FillsFrom kinds.Get bytes past
    → AcceptsAll kinds.Get (get_requests channel bytes) past
get_accepts channel bytes [] back s p t h f = record { fault = refl; accepted = refl }
get_accepts channel bytes (Asked m ∷ past) back s p t h f =
    let run : List Request = get_requests channel bytes in
    let n : ℕ = length (messages_asked past) in
    let next = next_asked run m past back p in
    let before = prefix_before (messages_asked past) m (map request_bytes run) p in
    let served = serves kinds.Get bytes run past s.1 (record { asked = before; read = back }) h f in
    let size : length (take n run) ≡ n = length_take n run (let w = within run n next.0 next.1 in omega (arith, w)) in
    accepts_one kinds.Get run m past next.0 next.1 next.2
    (get_in_turn channel bytes n (replies past) next.0 (next_of_get channel bytes n next.0 (run_case channel bytes n next.0 next.1)) size
    (served.replied ∙ ap (λ (k : ℕ). take k (replies_to bytes run)) t.0) t.0)
    (get_accepts channel bytes past back s.1 before t.1 h f)
get_accepts channel bytes (Filled b ∷ past) back s p t h f = let a = get_accepts channel bytes past back s.1 p t h f.1 in record { fault = a.fault; accepted = a.accepted }
get_accepts channel bytes (Gave work ∷ past) back s p t h f = let a = get_accepts channel bytes past back s.1 p t h f in record { fault = a.fault; accepted = a.accepted }
get_accepts channel bytes (Completed c ∷ past) back s p t h f = let a = get_accepts channel bytes past back s.1 p t h.1 f in record { fault = a.fault; accepted = a.accepted }
get_accepts channel bytes (Replied r ∷ past) back s p t h f = let a = get_accepts channel bytes past back s.1 p t h f in record { fault = a.fault; accepted = a.accepted }
get_accepts channel bytes (Stored b ∷ past) back s p t h f = let a = get_accepts channel bytes past back s.1 p t h f in record { fault = a.fault; accepted = a.accepted }

pub get_servers_accept : GetServersAccept
get_servers_accept channel bytes past few s p t h f = get_accepts channel bytes past (gets_read channel bytes few) s p t h f
