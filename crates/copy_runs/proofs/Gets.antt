-- What a get comes to, over either channel; and that whole groups were handed in for its READs until their end was seen.
use Rattle.std.proofs.Common.{◌≡◌, ℕ, ◌+◌, ◌*◌, ◌/◌, ◌<◌, ◌≤◌, nat_lt, nat_le, ◌||◌, Bool, true, false, List, [], ◌∷◌, ◌++◌, length, map, refl, ap, ◌∙◌, subst, append_assoc, arith, length-append}
use mathlib.Core.List.{IsPrefix}
use Rattle.std.proofs.lemmas.Bool.Decides.{nat_tests}
use Rattle.std.proofs.lemmas.List.{append-nil, length-map, map-append}
use Rattle.file_messages.specs.declared.kind.Channel.{Channel}
use Rattle.file_messages.specs.declared.kind.CopyKind.TheVariants as kinds
use Rattle.file_messages.specs.declared.message.Request.{Request}
use Rattle.file_messages.specs.declared.message.Reply.{Reply}
use Rattle.file_messages.specs.Runs.{groups_of, reads_from, reads_count, end_request, get_requests, reply_to, replies_to}
use Rattle.file_messages.specs.Written.{IsCopyable}
use Rattle.file_pasts.specs.ClientPast.{requests_sent}
use Rattle.file_pasts.specs.GetDue.{IsGet}
use Rattle.file_pasts.specs.GetLaws.{groups_taken}
use Rattle.file_pasts.specs.ServerDue.{ServerEvent, Asked, Filled, Gave, Completed, Replied, Stored, replies, IsServer}
use Rattle.file_pasts.specs.ServerLaws.{messages_asked, AsksFor, NothingRefused, FillsFrom}
use Rattle.file_pasts.proofs.Lists.{prefix_before}
use Rattle.copy_laws.specs.Coupled.{Pasts}
use Rattle.copy_laws.specs.Growing.{bytes_filled, IsGetOf}
use Rattle.copy_laws.specs.Laws.{AreBetween}
use Rattle.copy_laws.proofs.Growing.{fills, counted, reads-split, length-reads, prefix-short, get-asks}
use Rattle.copy_laws.proofs.Heard.{heard-few}
use Rattle.copy_runs.specs.Runs.{requests_of, requests_answered}
use Rattle.copy_runs.specs.CopyPasts.{is_short}
use Rattle.copy_runs.proofs.GetTurns.{sent-few}

-- the requests and replies of a get of these bytes, and what its client gives
pub record GetRuns (channel : Channel) (bytes : List ℕ) (p : Pasts) : Type 0 where
  pub is_get : IsGetOf channel bytes p
  pub follow : length (replies p.server) ≤ length (messages_asked p.server)
  pub received : IsPrefix (groups_taken p.client) (groups_of bytes)

-- ---- whole groups

-- as long as no READ got fewer bytes, each got a whole group
whole-filled : (past : List ServerEvent) → is_short past ≡ false → 65536 * fills past ≤ length (bytes_filled past)
whole-filled [] h = omega arith
whole-filled (Asked m ∷ past) h = whole-filled past h
whole-filled (Filled bytes ∷ past) h =
    let one = parts (nat_lt (length bytes) 65536) (is_short past) h in
    let whole : 65536 ≤ length bytes = large (length bytes) one.0 in
    omega (arith, whole, length-append (bytes_filled past) bytes, whole-filled past one.1)
  where
    parts : (x y : Bool) → (x || y) ≡ false → (x ≡ false) × (y ≡ false)
    parts true y e = absurd (let b : ⊥ = cc in b)
    parts false y e = (refl, e)

    large : (n : ℕ) → nat_lt n 65536 ≡ false → 65536 ≤ n
    large n e = grind (arith, nat_tests)
whole-filled (Gave work ∷ past) h = whole-filled past h
whole-filled (Completed c ∷ past) h = whole-filled past h
whole-filled (Replied r ∷ past) h = whole-filled past h
whole-filled (Stored bytes ∷ past) h = whole-filled past h

-- bytes were handed in for each READ that was replied to
fills-least : (channel : Channel) (bytes : List ℕ) (n : ℕ) (past : List ServerEvent) → IsServer kinds.Get past → AsksFor (get_requests channel bytes) past → NothingRefused past
    → FillsFrom kinds.Get bytes past → n ≤ reads_count bytes → n ≤ length (replies past) → n ≤ fills past
fills-least channel bytes n [] p a r f few h = h
fills-least channel bytes n (Asked m ∷ past) p a r f few h = fills-least channel bytes n past p.1 (record { asked = prefix_before (messages_asked past) m _ a.asked; read = a.read }) r f few h
fills-least channel bytes n (Filled b ∷ past) p a r f few h = omega (arith, fills-least channel bytes n past p.1 (record { asked = a.asked; read = a.read }) r f.1 few h)
fills-least channel bytes n (Gave work ∷ past) p a r f few h = fills-least channel bytes n past p.1 (record { asked = a.asked; read = a.read }) r f few h
fills-least channel bytes n (Completed c ∷ past) p a r f few h = fills-least channel bytes n past p.1 (record { asked = a.asked; read = a.read }) r.1 f few h
fills-least channel bytes n (Replied q ∷ past) p a r f few h =
    by_test (nat_le n (length (replies past))) refl (λ (early : n ≤ length (replies past)). fills-least channel bytes n past p.1 (record { asked = a.asked; read = a.read }) r f few early)
  where
    more : length (replies past ++ q ∷ []) ≡ length (replies past) + 1
    more = length-append (replies past) (q ∷ [])

    by_test : (t : Bool) → nat_le n (length (replies past)) ≡ t → (n ≤ length (replies past) → n ≤ fills past) → n ≤ fills past
    by_test true e ih = ih (let z : n ≤ length (replies past) = grind (arith, nat_tests) in z)
    by_test false e ih =
        let late : length (replies past) < n = grind (arith, nat_tests) in
        let count : fills past ≡ length (replies past ++ q ∷ []) + 0 = counted channel bytes (Replied q ∷ past) p a r f (let z : length (replies past ++ q ∷ []) ≤ reads_count bytes = omega (arith, more, late, few) in z) in
        omega (arith, count, more, h)
fills-least channel bytes n (Stored b ∷ past) p a r f few h = fills-least channel bytes n past p.1 (record { asked = a.asked; read = a.read }) r f few h

-- ---- requests and replies

module _ (channel : Channel) (p : Pasts) (get : IsGet channel p.client) (served : IsServer kinds.Get p.server) (copyable : IsCopyable (bytes_filled p.server)) (between : AreBetween p)
    (filled : FillsFrom kinds.Get (bytes_filled p.server) p.server) (is : IsGetOf channel (bytes_filled p.server) p) where
  abbrev bytes : List ℕ
  bytes = bytes_filled p.server

  abbrev whole : ℕ
  whole = length bytes / 65536

  abbrev end : Request
  end = end_request (reads_count bytes + 1) (length bytes)

  -- where the end was not seen, only whole groups were replied with
  replied-few : is_short p.server ≡ false → length (replies p.server) ≤ whole
  replied-few e = by_test (nat_le (reads_count bytes) (length (replies p.server))) refl where
    by_test : (t : Bool) → nat_le (reads_count bytes) (length (replies p.server)) ≡ t → length (replies p.server) ≤ whole
    by_test true k =
        let many : reads_count bytes ≤ length (replies p.server) = grind (arith, nat_tests) in
        let all : reads_count bytes ≤ reads_count bytes = omega arith in
        let least : reads_count bytes ≤ fills p.server = fills-least channel bytes (reads_count bytes) p.server served (get-asks channel bytes p copyable between is.asked) is.refused filled all many in
        absurd (omega (arith, least, whole-filled p.server e))
    by_test false k = (let few : length (replies p.server) < reads_count bytes = grind (arith, nat_tests) in omega (arith, few))

  asked-few : is_short p.server ≡ false → length (requests_sent p.client) ≤ reads_count bytes
  asked-few e = omega (arith, sent-few channel p.client get, heard-few p between, replied-few e)

  pub get-requests : (pages : ℕ) → IsPrefix (requests_sent p.client) (requests_of kinds.Get channel pages (is_short p.server) bytes)
  get-requests pages = by_short (is_short p.server) refl where
    by_short : (t : Bool) → is_short p.server ≡ t → IsPrefix (requests_sent p.client) (requests_of kinds.Get channel pages t bytes)
    by_short true e = is.asked
    by_short false e =
        subst (λ (rs : List Request). IsPrefix (requests_sent p.client) rs) (append-nil (reads_from channel (reads_count bytes) 1))
        (prefix-short (requests_sent p.client) (reads_from channel (reads_count bytes) 1) (end ∷ []) [] (omega (arith, asked-few e, length-reads channel (reads_count bytes) 1)) is.asked)

  pub get-replies : (pages : ℕ) → IsPrefix (replies p.server) (replies_to bytes (requests_answered kinds.Get channel pages (is_short p.server) bytes))
  get-replies pages = by_short (is_short p.server) refl where
    by_short : (t : Bool) → is_short p.server ≡ t → IsPrefix (replies p.server) (replies_to bytes (requests_answered kinds.Get channel pages t bytes))
    by_short true e = is.answered
    by_short false e =
        let first = reads_from channel whole 1 in
        let later = reads_from channel 1 (1 + whole) ++ end ∷ [] in
        let run : get_requests channel bytes ≡ first ++ later =
        ap (λ (rs : List Request). rs ++ end ∷ []) (reads-split channel whole 1 1) ∙ append_assoc first (reads_from channel 1 (1 + whole)) (end ∷ []) in
        let parts : replies_to bytes (get_requests channel bytes) ≡ replies_to bytes first ++ replies_to bytes later = ap (map (reply_to bytes)) run ∙ map-append (reply_to bytes) first later in
        let long : length (replies_to bytes first) ≡ whole = length-map first (reply_to bytes) ∙ length-reads channel whole 1 in
        subst (λ (rs : List Reply). IsPrefix (replies p.server) rs) (append-nil (replies_to bytes first))
        (prefix-short (replies p.server) (replies_to bytes first) (replies_to bytes later) [] (omega (arith, long, replied-few e))
        (subst (λ (rs : List Reply). IsPrefix (replies p.server) rs) parts is.answered))
