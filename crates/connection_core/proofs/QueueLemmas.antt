-- The messages that wait to be sent, and their pieces.
use Rattle.std.proofs.Common.{◌≡◌, inl, inr, ℕ, ◌+◌, ◌-◌, ◌<◌, ◌≤◌, ◌==◌, nat_lt, nat_le, min, Bool, true, false, not, ◌&&◌, ◌||◌, cond, Ok, Option, Some, None, is_none, option_to_list, List, [], ◌∷◌, ◌++◌, length, drop, map, zero, suc, refl, sym, ap, ◌∙◌, subst, length-append, append-nil, append_assoc, arith}
use Rattle.std.specs.List.{flat_map}
use Rattle.std.proofs.lemmas.Bool.Decides.{nat_tests}
use Rattle.std.proofs.lemmas.List.{drop-append-le, map-append}
use Rattle.smbd_base.specs.declared.agreed.Agreed.{Agreed}
use Rattle.smbd_base.specs.declared.end_id.EndId.{EndId}
use Rattle.smbd_base.specs.declared.event.Event.{Event}
use Rattle.smbd_base.specs.declared.event.Event.TheVariants.{Submit, Emit, Take}
use Rattle.smbd_base.specs.declared.faults.TakeFault.{TakeFault}
use Rattle.smbd_base.specs.declared.next.Next.TheVariants as due
use Rattle.smbd_base.specs.Limits.{Limits, IsLawful}
use Rattle.smbd_base.specs.Balance.{IsBalanced}
use Rattle.smbd_base.specs.Counts.{credits_held, receives_grantable, is_silent, is_unheard}
use Rattle.smbd_base.specs.DataFrame.{DataFrame, data_frame_of, frame_bytes}
use Rattle.smbd_base.specs.Pieces.{Piece, pieces_of}
use Rattle.smbd_base.specs.History.{messages_submitted, payload_size, peer_negotiation, pieces_sent, carries, data_frame_due, frame_due, next_event, take_fault, agreed_of, is_agreed, is_welcomed, settled, settled_by}
use Rattle.smbd_base.proofs.BalanceLemmas.{silent_opening}
use Rattle.smbd_base.proofs.FrameLaws.{data_frame_of-empty, data_frame_of-filled}
use Rattle.smbd_base.proofs.Inversion.{emits, both, sending_parts}
use Rattle.transfer_msg.specs.declared.header.Header.{Header}
use Rattle.transfer_msg.specs.Written.{header_text}
use Rattle.fragmenter.specs.Cut.{Cutting, pieces_left, next_place, piece_at, advanced}
use Rattle.fragmenter.specs.declared.piece.Piece.{Piece as Place}
use Rattle.connection_core.specs.Queue.{IsUnderWay, AreUnderWay, IsQueue, Queued, IsSendable, AreSendable, AreWaiting, IsBegun, Queues, started, pieces_unsent, after_piece, to_cut, with_message, begun_with, begun_by, cut_after, queue_after_sending, sent_from}
use Rattle.connection_core.proofs.CutLemmas.{place_of, not_zero, next_place-some, pieces_left-cons, pieces_left-none, piece_at-length}
use Rattle.connection_core.proofs.PeerLemmas.{size_wide}
use Rattle.smbd_base.proofs.Hearing.{welcomed_heard}

-- the piece that the first of some messages gives next
abbrev pub next_piece : Cutting → Piece
next_piece cut = piece_at cut.message (place_of cut)

-- the pieces of some messages, by the next one
pub pieces-cons : (size : ℕ) (cut : Cutting) (cuts : List Cutting) → IsUnderWay size cut
    → flat_map pieces_left (cut ∷ cuts) ≡ next_piece cut ∷ (pieces_left (advanced cut) ++ flat_map pieces_left cuts)
pieces-cons size cut cuts u =
    ap (λ (ps : List Piece). ps ++ flat_map pieces_left cuts) (pieces_left-cons cut u.some u.left)

-- a piece waits where a message does
none_left : (size : ℕ) (cuts : List Cutting) → AreUnderWay size cuts → (length (flat_map pieces_left cuts) == 0) ≡ (length cuts == 0)
none_left size [] u = refl
none_left size (cut ∷ cuts) u =
    rw (pieces-cons size cut cuts u.0)
    (not_zero (suc (length (pieces_left (advanced cut) ++ flat_map pieces_left cuts))) (omega arith) ∙ sym (not_zero (suc (length cuts)) (omega arith)))

pub waits-is : (size : ℕ) (past : List Event) (cuts : List Cutting) → IsQueue size past cuts → (length (pieces_unsent size past) == 0) ≡ (length cuts == 0)
waits-is size past cuts q = ap (λ (ps : List Piece). length ps == 0) q.waiting ∙ none_left size cuts q.under_way

-- ---- the message that is given next

over : (size : ℕ) (cut : Cutting) → IsUnderWay size cut → (length cut.message - (advanced cut).given == 0) ≡ true → length cut.message ≤ (advanced cut).given
over size cut u e = grind (arith, nat_tests)

goes_on : (size : ℕ) (cut : Cutting) → IsUnderWay size cut → (length cut.message - (advanced cut).given == 0) ≡ false → IsUnderWay size (advanced cut)
goes_on size cut u e = record {
  size_is = u.size_is;
  some = u.some;
  short = u.short;
  left = by_test (length cut.message) (min (length cut.message) (cut.given + cut.size)) e;
} where
  by_test : (a b : ℕ) → (a - b == 0) ≡ false → b < a
  by_test a b t = grind (arith, nat_tests)

-- after the next piece of the first message come the others
after_pieces : (size : ℕ) (cut : Cutting) (cuts : List Cutting) → IsUnderWay size cut
    → flat_map pieces_left (after_piece (cut ∷ cuts)) ≡ pieces_left (advanced cut) ++ flat_map pieces_left cuts
after_pieces size cut cuts u = by_test (length cut.message - (advanced cut).given == 0) refl where
  by_test : (done : Bool) → (length cut.message - (advanced cut).given == 0) ≡ done
      → flat_map pieces_left (after_piece (cut ∷ cuts)) ≡ pieces_left (advanced cut) ++ flat_map pieces_left cuts
  by_test true e =
      let none : pieces_left (advanced cut) ≡ [] = pieces_left-none (advanced cut) u.some (over size cut u e) in
      rw (e, none) refl
  by_test false e = rw e refl

under_way-after : (size : ℕ) (cut : Cutting) (cuts : List Cutting) → AreUnderWay size (cut ∷ cuts) → AreUnderWay size (after_piece (cut ∷ cuts))
under_way-after size cut cuts u = by_test (length cut.message - (advanced cut).given == 0) refl where
  by_test : (done : Bool) → (length cut.message - (advanced cut).given == 0) ≡ done → AreUnderWay size (after_piece (cut ∷ cuts))
  by_test true e = rw e u.1
  by_test false e = rw e (goes_on size cut u.0 e, u.1)

-- no piece waits after the next one where it is the last of the last message
abbrev pub is_last : Cutting → List Cutting → Bool
is_last cut cuts = (place_of cut).remaining == 0 && length cuts == 0

last-is : (size : ℕ) (cut : Cutting) (cuts : List Cutting) → AreUnderWay size (cut ∷ cuts)
    → (length (pieces_left (advanced cut) ++ flat_map pieces_left cuts) == 0) ≡ is_last cut cuts
last-is size cut cuts u = by_test (length cut.message - (advanced cut).given == 0) refl where
  wide : 0 < cut.size
  wide = u.0.some

  remains : (a g s : ℕ) (b : Bool) → g < a → (a - min a (g + s) == 0) ≡ b → (a - g - s == 0) ≡ b
  remains a g s true lt e = grind (arith, nat_tests)
  remains a g s false lt e = grind (arith, nat_tests)

  by_test : (done : Bool) → (length cut.message - (advanced cut).given == 0) ≡ done
      → (length (pieces_left (advanced cut) ++ flat_map pieces_left cuts) == 0) ≡ is_last cut cuts
  by_test true e =
      let none : pieces_left (advanced cut) ≡ [] = pieces_left-none (advanced cut) wide (over size cut u.0 e) in
      let zero_left : ((place_of cut).remaining == 0) ≡ true = remains (length cut.message) cut.given cut.size true u.0.left e in
      rw (none, zero_left) (none_left size cuts u.1)
  by_test false e =
      let next = advanced cut in
      let some = pieces_left-cons next wide (goes_on size cut u.0 e).left in
      let more_left : ((place_of cut).remaining == 0) ≡ false = remains (length cut.message) cut.given cut.size false u.0.left e in
      rw (some, more_left) (not_zero (suc (length (pieces_left (advanced next) ++ flat_map pieces_left cuts))) (omega arith))

-- the frame that carries the next piece
pub due-cons : (limits : Limits) (size : ℕ) (past : List Event) (held grantable : ℕ) (cut : Cutting) (cuts : List Cutting) → IsQueue size past (cut ∷ cuts)
    → data_frame_due limits held grantable (pieces_unsent size past)
    ≡ frame_bytes limits.credits grantable (not (is_last cut cuts) && nat_le held 2) (next_piece cut).remaining (next_piece cut).payload
due-cons limits size past held grantable cut cuts q =
    ap (λ (ps : List Piece). data_frame_due limits held grantable ps) (q.waiting ∙ pieces-cons size cut cuts q.under_way.0)
    ∙ ap (λ (last : Bool). frame_bytes limits.credits grantable (not last && nat_le held 2) (next_piece cut).remaining (next_piece cut).payload)
    (last-is size cut cuts q.under_way)

-- the header with which a piece is sent
abbrev pub header_with : Limits → ℕ → Bool → ℕ → ℕ → Header
header_with limits grantable asks remaining len = record {
  credits_requested = limits.credits;
  credits_granted = grantable;
  response_requested = asks;
  remaining = remaining;
  length = len;
}

front_text : (limits : Limits) (size : ℕ) (past : List Event) (held grantable : ℕ) (cut : Cutting) (cuts : List Cutting) → IsQueue size past (cut ∷ cuts)
    → header_text (header_with limits grantable ((nat_lt 0 (place_of cut).remaining || nat_lt 1 (length (cut ∷ cuts))) && nat_le held 2) (place_of cut).remaining (place_of cut).length)
    ++ (next_piece cut).payload
    ≡ data_frame_due limits held grantable (pieces_unsent size past)
front_text limits size past held grantable cut cuts q =
    let more = not_last (place_of cut).remaining (length cuts) in
    ap (λ (b : Bool). header_text (header_with limits grantable (b && nat_le held 2) (place_of cut).remaining (place_of cut).length) ++ (next_piece cut).payload) more
    ∙ ap (λ (len : ℕ). header_text (header_with limits grantable (not (is_last cut cuts) && nat_le held 2) (place_of cut).remaining len) ++ (next_piece cut).payload)
    (piece_at-length cut q.under_way.0.left)
    ∙ sym (due-cons limits size past held grantable cut cuts q) where
      not_last : (r n : ℕ) → (nat_lt 0 r || nat_lt 1 (suc n)) ≡ not (r == 0 && n == 0)
      not_last r n = grind (arith, nat_tests)

-- ---- the queue of an end

-- whether anything waits
count-to_cut : (size : ℕ) (q : Queued) → (length (to_cut size q) == 0) ≡ (is_none q.begun && length q.behind == 0)
count-to_cut size q = by_begun q.begun q.behind where
  by_begun : (begun : Option Cutting) (behind : List (List ℕ)) → (length (option_to_list begun ++ map (started size) behind) == 0) ≡ (is_none begun && length behind == 0)
  by_begun None [] = refl
  by_begun None (m ∷ later) = not_zero (suc (length (map (started size) later))) (omega arith) ∙ sym (not_zero (suc (length later)) (omega arith))
  by_begun (Some cut) behind = not_zero (suc (length (map (started size) behind))) (omega arith)

pub waits-queued : (size : ℕ) (past : List Event) (q : Queued) → IsQueue size past (to_cut size q) → (length (pieces_unsent size past) == 0) ≡ (is_none q.begun && length q.behind == 0)
waits-queued size past q h = waits-is size past (to_cut size q) h ∙ count-to_cut size q

-- the frame that carries the next piece of the message that is begun
pub first_text : (limits : Limits) (size : ℕ) (past : List Event) (held grantable : ℕ) (q : Queued) (cut : Cutting) (place : Place) (bytes : List ℕ) (more asks : Bool) (header : Header)
    → IsQueue size past (to_cut size q) → q.begun ≡ Some cut → Some place ≡ next_place cut → more ≡ not (length q.behind == 0)
    → asks ≡ ((nat_lt 0 place.remaining || more) && nat_le held 2) → bytes ≡ (piece_at cut.message place).payload
    → header ≡ header_with limits grantable asks place.remaining place.length → header_text header ++ bytes ≡ data_frame_due limits held grantable (pieces_unsent size past)
first_text limits size past held grantable q cut place bytes more asks header h begun place_is more_is asks_is bytes_is header_is =
    let queue : IsQueue size past (cut ∷ map (started size) q.behind) = subst (λ (o : Option Cutting). IsQueue size past (option_to_list o ++ map (started size) q.behind)) begun h in
    let both_places : Some place ≡ Some (place_of cut) = place_is ∙ next_place-some cut queue.under_way.0.left in
    let same : place ≡ place_of cut = cc in
    let counted : more ≡ nat_lt 1 (length (cut ∷ map (started size) q.behind)) = more_is ∙ by_behind q.behind in
    rw (header_is, asks_is, bytes_is, counted, same) (front_text limits size past held grantable cut (map (started size) q.behind) queue) where
      by_behind : (behind : List (List ℕ)) → not (length behind == 0) ≡ nat_lt 1 (suc (length (map (started size) behind)))
      by_behind [] = refl
      by_behind (m ∷ later) = let one : (suc (length later) == 0) ≡ false = not_zero (suc (length later)) (omega arith) in rw one (grind (arith, nat_tests))

-- nothing waits where no message is begun
pub none_begun : (size : ℕ) (past : List Event) (q : Queued) → IsQueue size past (to_cut size q) → IsBegun q → q.begun ≡ None → pieces_unsent size past ≡ []
none_begun size past q h begun none =
    let cuts : to_cut size q ≡ [] = ap (λ (o : Option Cutting). option_to_list o ++ map (started size) q.behind) none ∙ ap (λ (ms : List (List ℕ)). map (started size) ms) (begun none) in
    h.waiting ∙ ap (λ (cs : List Cutting). flat_map pieces_left cs) cuts

-- ---- one event more

flat_map_snoc : {A : Type 0} (f : A → List Piece) (xs : List A) (x : A) → flat_map f (xs ++ x ∷ []) ≡ flat_map f xs ++ f x
flat_map_snoc f [] x = append-nil (f x)
flat_map_snoc f (x' ∷ xs) x = ap (λ (ps : List Piece). f x' ++ ps) (flat_map_snoc f xs x) ∙ sym (append_assoc (f x') (flat_map f xs) (f x))

under_way_snoc : (size : ℕ) (cuts : List Cutting) (cut : Cutting) → AreUnderWay size cuts → IsUnderWay size cut → AreUnderWay size (cuts ++ cut ∷ [])
under_way_snoc size [] cut us u = (u, tt)
under_way_snoc size (cut' ∷ cuts) cut us u = (us.0, under_way_snoc size cuts cut us.1 u)

-- the first of what is left
record DropsOne {A : Type 0} (n : ℕ) (xs ys : List A) : Type 0 where
  rest : drop (n + 1) xs ≡ ys
  within : n + 1 ≤ length xs

drop_one : {A : Type 0} (n : ℕ) (xs ys : List A) (y : A) → drop n xs ≡ y ∷ ys → DropsOne n xs ys
drop_one zero [] ys y e = absurd cc
drop_one zero (x ∷ xs) ys y e = record { rest = cc; within = omega arith }
drop_one (suc n) [] ys y e = absurd cc
drop_one (suc n) (x ∷ xs) ys y e =
    let h = drop_one n xs ys y e in
    let is : suc n + 1 ≡ suc (n + 1) = omega arith in
    record { rest = rw is h.rest; within = omega (arith, h.within) }

carries-bytes : (frame : List ℕ) (d : DataFrame) → data_frame_of frame ≡ Ok d → carries (data_frame_of frame) ≡ not (length d.payload == 0)
carries-bytes frame d e = rw e refl

-- how many pieces were sent, with this frame
sent_is : (silent : Bool) (frame : List ℕ) (n : ℕ) (carried : Bool) → carries (data_frame_of frame) ≡ carried → silent ≡ false
    → cond (not silent && carries (data_frame_of frame)) (n + 1) n ≡ cond carried (n + 1) n
sent_is silent frame n carried is spoken = rw (spoken, is) refl

-- the pieces that wait after a frame was sent
pub IsQueue-sent : (side : EndId) (limits : Limits) (size : ℕ) (past : List Event) (cuts : List Cutting) (frame : List ℕ) → IsLawful limits → IsBalanced side limits past → IsQueue size past cuts
    → is_silent past ≡ false → data_frame_due limits (credits_held side past) (receives_grantable side past) (pieces_unsent size past) ≡ frame → IsQueue size (Emit frame ∷ past) (after_piece cuts)
IsQueue-sent side limits size past [] frame lawful b q spoken is =
    let credits : limits.credits < 65536 = omega (arith, lawful.credits.1) in
    let small : receives_grantable side past < 65536 = omega (arith, b.posted, b.taken, lawful.credits.1) in
    let frame_is : frame ≡ frame_bytes limits.credits (receives_grantable side past) false 0 [] =
    sym is ∙ ap (λ (ps : List Piece). data_frame_due limits (credits_held side past) (receives_grantable side past) ps) q.waiting in
    let none : carries (data_frame_of frame) ≡ false = rw frame_is (carries-bytes _ _ (data_frame_of-empty limits.credits (receives_grantable side past) false 0 credits small)) in
    let same : pieces_sent (Emit frame ∷ past) ≡ pieces_sent past = sent_is (is_silent past) frame (pieces_sent past) false none spoken in
    record {
      waiting = ap (λ (n : ℕ). drop n (flat_map (pieces_of size) (messages_submitted past))) same ∙ q.waiting;
      sent = omega (arith, q.sent, same);
      under_way = tt;
    }
IsQueue-sent side limits size past (cut ∷ cuts) frame lawful b q spoken is =
    let u = q.under_way.0 in
    let piece : Piece = next_piece cut in
    let all = flat_map (pieces_of size) (messages_submitted past) in
    let credits : limits.credits < 65536 = omega (arith, lawful.credits.1) in
    let small : receives_grantable side past < 65536 = omega (arith, b.posted, b.taken, lawful.credits.1) in
    let flag : Bool = not (is_last cut cuts) && nat_le (credits_held side past) 2 in
    let frame_is : frame ≡ frame_bytes limits.credits (receives_grantable side past) flag piece.remaining piece.payload =
    sym is ∙ due-cons limits size past (credits_held side past) (receives_grantable side past) cut cuts q in
    let len : length piece.payload ≡ min (length cut.message - cut.given) cut.size = sym (piece_at-length cut u.left) in
    let bound = least (length cut.message - cut.given) cut.size u.some (omega (arith, u.left)) in
    let some : 0 < length piece.payload = omega (arith, len, bound.0) in
    let short : length piece.payload < 4294967296 = omega (arith, len, bound.1, u.short) in
    let remains : piece.remaining < 4294967296 = omega (arith, u.short) in
    let carried : carries (data_frame_of frame) ≡ true =
    rw frame_is
    (carries-bytes _ _ (data_frame_of-filled limits.credits (receives_grantable side past) flag piece.remaining piece.payload credits small remains some short)
    ∙ ap not (not_zero (length piece.payload) some)) in
    let one : pieces_sent (Emit frame ∷ past) ≡ pieces_sent past + 1 = sent_is (is_silent past) frame (pieces_sent past) true carried spoken in
    let d = drop_one (pieces_sent past) all (pieces_left (advanced cut) ++ flat_map pieces_left cuts) piece (q.waiting ∙ pieces-cons size cut cuts u) in
    record {
      waiting = ap (λ (n : ℕ). drop n all) one ∙ d.rest ∙ sym (after_pieces size cut cuts u);
      sent = omega (arith, d.within, one);
      under_way = under_way-after size cut cuts q.under_way;
    } where
      least : (a s : ℕ) → 0 < s → 0 < a → (0 < min a s) × (min a s ≤ a)
      least a s ws wa = (grind arith, grind arith)

-- ---- messages that wait for the agreement

started-pieces : (size : ℕ) (messages : List (List ℕ)) → flat_map (pieces_of size) messages ≡ flat_map pieces_left (map (started size) messages)
started-pieces size [] = refl
started-pieces size (m ∷ later) = ap (λ (ps : List Piece). pieces_of size m ++ ps) (started-pieces size later)

started-under_way : (size : ℕ) (messages : List (List ℕ)) → 0 < size → AreSendable messages → AreUnderWay size (map (started size) messages)
started-under_way size [] wide s = tt
started-under_way size (m ∷ later) wide s =
    (record { size_is = refl; some = wide; short = s.0.short; left = s.0.some }, started-under_way size later wide s.1)

-- once they may be divided, they are what is still to be sent
pub IsQueue-agreed : (size : ℕ) (past : List Event) (q : Queued) → 0 < size → AreWaiting past q → IsQueue size past (to_cut size q)
IsQueue-agreed size past q wide w =
    let cuts : to_cut size q ≡ map (started size) (messages_submitted past) =
    ap (λ (o : Option Cutting). option_to_list o ++ map (started size) q.behind) w.begun ∙ ap (λ (ms : List (List ℕ)). map (started size) ms) w.behind in
    let sendable : AreSendable (messages_submitted past) = subst (λ (ms : List (List ℕ)). AreSendable ms) w.behind w.sendable in
    rw cuts (record {
      waiting = ap (λ (n : ℕ). drop n (flat_map (pieces_of size) (messages_submitted past))) w.sent ∙ started-pieces size (messages_submitted past);
      sent = omega (arith, w.sent);
      under_way = started-under_way size (messages_submitted past) wide sendable;
    })

sendable_snoc : (messages : List (List ℕ)) (m : List ℕ) → AreSendable messages → IsSendable m → AreSendable (messages ++ m ∷ [])
sendable_snoc [] m s here = (here, tt)
sendable_snoc (first ∷ messages) m s here = (s.0, sendable_snoc messages m s.1 here)

pub AreSendable-snoc : (messages now : List (List ℕ)) (m : List ℕ) → now ≡ messages ++ m ∷ [] → AreSendable messages → IsSendable m → AreSendable now
AreSendable-snoc messages now m is s here = rw is (sendable_snoc messages m s here)

-- ---- the queue as the end goes on

to_cut-with_message : (size : ℕ) (q : Queued) (m : List ℕ) → to_cut size (with_message q m) ≡ to_cut size q ++ started size m ∷ []
to_cut-with_message size q m =
    ap (λ (cs : List Cutting). option_to_list q.begun ++ cs) (map-append (started size) q.behind (m ∷ []))
    ∙ sym (append_assoc (option_to_list q.begun) (map (started size) q.behind) (started size m ∷ []))

to_cut-begun_with : (size : ℕ) (q : Queued) → to_cut size (begun_with size q) ≡ to_cut size q
to_cut-begun_with size q = by_begun q.begun q.behind where
  by_begun : (begun : Option Cutting) (behind : List (List ℕ)) → to_cut size (begun_with size (record { begun = begun; behind = behind })) ≡ option_to_list begun ++ map (started size) behind
  by_begun None [] = refl
  by_begun None (m ∷ later) = refl
  by_begun (Some cut) behind = refl

IsBegun-begun_with : (size : ℕ) (q : Queued) → IsBegun (begun_with size q)
IsBegun-begun_with size q = by_begun q.begun q.behind where
  by_begun : (begun : Option Cutting) (behind : List (List ℕ)) → IsBegun (begun_with size (record { begun = begun; behind = behind }))
  by_begun None [] = λ none. refl
  by_begun None (m ∷ later) = λ none. absurd cc
  by_begun (Some cut) behind = λ none. absurd cc

to_cut-after_sending : (size : ℕ) (q : Queued) → IsBegun q → to_cut size (queue_after_sending q) ≡ after_piece (to_cut size q)
to_cut-after_sending size q h = by_begun q.begun q.behind h where
  by_begun : (begun : Option Cutting) (behind : List (List ℕ)) → (begun ≡ None → behind ≡ [])
      → option_to_list (cut_after begun) ++ map (started size) behind ≡ after_piece (option_to_list begun ++ map (started size) behind)
  by_begun None behind h = rw (h refl) refl
  by_begun (Some cut) behind h = by_test (length cut.message - (advanced cut).given == 0) where
    by_test : (done : Bool) → option_to_list (cond done None (Some (advanced cut))) ++ map (started size) behind
        ≡ cond done (map (started size) behind) (advanced cut ∷ map (started size) behind)
    by_test true = refl
    by_test false = refl

pub IsQueue-submit : (size : ℕ) (past : List Event) (cuts : List Cutting) (m : List ℕ) → 0 < size → IsQueue size past cuts → IsSendable m → IsQueue size (Submit m ∷ past) (cuts ++ started size m ∷ [])
IsQueue-submit size past cuts m wide q s =
    let cutting = pieces_of size in
    let cut = started size m in
    let more = flat_map_snoc cutting (messages_submitted past) m in
    record {
      waiting = ap (λ (ps : List Piece). drop (pieces_sent past) ps) more
          ∙ drop-append-le (pieces_sent past) (flat_map cutting (messages_submitted past)) (cutting m) q.sent
          ∙ ap (λ (ps : List Piece). ps ++ cutting m) q.waiting ∙ sym (flat_map_snoc pieces_left cuts cut);
      sent = rw more (omega (arith, q.sent, length-append (flat_map cutting (messages_submitted past)) (cutting m)));
      under_way = under_way_snoc size cuts cut q.under_way (record { size_is = refl; some = wide; short = s.short; left = s.some });
    }

-- the queue of an end, but for a message that is still to be begun
pub record Stands (side : EndId) (limits : Limits) (past : List Event) (q : Queued) : Type 0 where
  pub waits : is_agreed side limits past ≡ false → AreWaiting past q
  pub sends : is_agreed side limits past ≡ true → IsQueue (payload_size side limits past) past (to_cut (payload_size side limits past) q)

agreed_by : (agreed : Bool) (side : EndId) (limits : Limits) (past : List Event) → is_agreed side limits past ≡ agreed → agreed_of side limits past ≡ cond agreed (Some (settled side limits past)) None
agreed_by agreed side limits past is = ap (λ (b : Bool). cond b (Some (settled side limits past)) None) is

-- the next message is begun where that may be
pub Queues-begun : (side : EndId) (limits : Limits) (past : List Event) (q now : Queued) → Stands side limits past q → now ≡ begun_by (agreed_of side limits past) q → Queues side limits past now
Queues-begun side limits past q now s is = by_agreed (is_agreed side limits past) refl where
  by_agreed : (agreed : Bool) → is_agreed side limits past ≡ agreed → Queues side limits past now
  by_agreed true on =
      let size : ℕ = payload_size side limits past in
      let now_is : now ≡ begun_with size q = is ∙ ap (λ (o : Option Agreed). begun_by o q) (agreed_by true side limits past on) in
      record {
        waits = λ off. absurd cc;
        sends = λ _. rw (now_is, to_cut-begun_with size q) (s.sends on);
        begun = λ _. rw now_is (IsBegun-begun_with size q);
      }
  by_agreed false off =
      let now_is : now ≡ q = is ∙ ap (λ (o : Option Agreed). begun_by o q) (agreed_by false side limits past off) in
      record { waits = λ _. rw now_is (s.waits off); sends = λ on. absurd cc; begun = λ on. absurd cc }

pub Stands-submit : (side : EndId) (limits : Limits) (past : List Event) (q : Queued) (m : List ℕ) → IsLawful limits → Queues side limits past q → IsSendable m
    → Stands side limits (Submit m ∷ past) (with_message q m)
Stands-submit side limits past q m lawful h sendable = record {
  waits = λ off.
      let w = h.waits off in
      record { begun = w.begun; behind = ap (λ (ms : List (List ℕ)). ms ++ m ∷ []) w.behind; sent = w.sent; sendable = sendable_snoc q.behind m w.sendable sendable };
  sends = λ on.
      let size : ℕ = payload_size side limits past in
      rw (to_cut-with_message size q m) (IsQueue-submit size past (to_cut size q) m (size_wide side limits past lawful on) (h.sends on) sendable);
}

silent_unagreed : (welcomed silent : Bool) → silent ≡ true → (welcomed && not silent) ≡ false
silent_unagreed true silent e = rw e refl
silent_unagreed false silent e = refl

-- the negotiation message carries no piece
stands_opened : (side : EndId) (limits : Limits) (past : List Event) (q : Queued) (frame : List ℕ) → IsLawful limits → Queues side limits past q → is_silent past ≡ true → Stands side limits (Emit frame ∷ past) q
stands_opened side limits past q frame lawful h silent =
    let w = h.waits (silent_unagreed (is_welcomed side limits past) (is_silent past) silent) in
    let same : pieces_sent (Emit frame ∷ past) ≡ pieces_sent past = rw silent refl in
    let now : AreWaiting (Emit frame ∷ past) q = record { begun = w.begun; behind = w.behind; sent = same ∙ w.sent; sendable = w.sendable } in
    record { waits = λ off. now; sends = λ on. IsQueue-agreed (payload_size side limits past) (Emit frame ∷ past) q (size_wide side limits (Emit frame ∷ past) lawful on) now }

stands_sent : (side : EndId) (limits : Limits) (past : List Event) (q : Queued) (frame : List ℕ) → IsLawful limits → IsBalanced side limits past → Queues side limits past q → is_agreed side limits past ≡ true
    → is_welcomed side limits past ≡ true → is_silent past ≡ false → frame_due side limits past ≡ frame → Stands side limits (Emit frame ∷ past) (queue_after_sending q)
stands_sent side limits past q frame lawful b h on welcomed spoken is =
    let size : ℕ = payload_size side limits past in
    record {
      waits = λ off. absurd cc;
      sends = λ _. rw (to_cut-after_sending size q (h.begun on)) (IsQueue-sent side limits size past (to_cut size q) frame lawful b (h.sends on) spoken is);
    }

pub Stands-emit : (side : EndId) (limits : Limits) (past : List Event) (q : Queued) (frame : List ℕ) → IsLawful limits → IsBalanced side limits past → Queues side limits past q
    → next_event side limits past ≡ due.Emit frame → Stands side limits (Emit frame ∷ past) (sent_from (is_silent past) q)
Stands-emit side limits past q frame lawful b h is =
    let e = emits side limits past frame is in
    elim e.chosen.why as (λ _. Stands side limits (Emit frame ∷ past) (sent_from (is_silent past) q)) [
      | inl first ↦
          let silent = silent_opening side past first.0 in
          rw silent (stands_opened side limits past q frame lawful h silent)
      | inr later ↦
          let s = sending_parts side limits past e.going.closed later.1 in
          subst (λ (silent : Bool). Stands side limits (Emit frame ∷ past) (sent_from silent q)) (sym s.spoken)
          (stands_sent side limits past q frame lawful b h s.agreed s.welcomed s.spoken later.2)
    ]

-- ---- after a Take

opening_same : (side : EndId) (limits : Limits) (past : List Event) (frame : List ℕ) → is_unheard past ≡ false → payload_size side limits (Take frame ∷ past) ≡ payload_size side limits past
opening_same side limits past frame heard = ap (λ (bytes : List ℕ). (settled_by side limits bytes).send_size - 24) (let is : peer_negotiation (Take frame ∷ past) ≡ peer_negotiation past = rw heard refl in is)

welcomed_same : (side : EndId) (limits : Limits) (past : List Event) (frame : List ℕ) → is_unheard past ≡ false → is_agreed side limits (Take frame ∷ past) ≡ is_agreed side limits past
welcomed_same side limits past frame heard = rw heard refl

taken_on : (side : EndId) (limits : Limits) (past : List Event) (q : Queued) (frame : List ℕ) → is_unheard past ≡ false → IsQueue (payload_size side limits past) past (to_cut (payload_size side limits past) q)
    → IsQueue (payload_size side limits (Take frame ∷ past)) (Take frame ∷ past) (to_cut (payload_size side limits (Take frame ∷ past)) q)
taken_on side limits past q frame heard h =
    let same = opening_same side limits past frame heard in
    subst (λ (size : ℕ). IsQueue size (Take frame ∷ past) (to_cut size q)) (sym same) (record { waiting = h.waiting; sent = h.sent; under_way = h.under_way })

taken_waits : (past : List Event) (q : Queued) (frame : List ℕ) → AreWaiting past q → AreWaiting (Take frame ∷ past) q
taken_waits past q frame w = record { begun = w.begun; behind = w.behind; sent = w.sent; sendable = w.sendable }

agreed_heard : (side : EndId) (limits : Limits) (past : List Event) → is_agreed side limits past ≡ true → is_unheard past ≡ false
agreed_heard side limits past on = welcomed_heard side limits past (both (is_welcomed side limits past) _ on).0

pub Stands-take : (side : EndId) (limits : Limits) (past : List Event) (q : Queued) (frame : List ℕ) → IsLawful limits → Queues side limits past q → Stands side limits (Take frame ∷ past) q
Stands-take side limits past q frame lawful h = by_agreed (is_agreed side limits past) refl where
  by_agreed : (agreed : Bool) → is_agreed side limits past ≡ agreed → Stands side limits (Take frame ∷ past) q
  by_agreed true on =
      let heard = agreed_heard side limits past on in
      record {
        waits = λ off. absurd (let b : ⊥ = (let same = welcomed_same side limits past frame heard in cc) in b);
        sends = λ _. taken_on side limits past q frame heard (h.sends on);
      }
  by_agreed false off =
      let w = taken_waits past q frame (h.waits off) in
      record { waits = λ _. w; sends = λ on. IsQueue-agreed (payload_size side limits (Take frame ∷ past)) (Take frame ∷ past) q (size_wide side limits (Take frame ∷ past) lawful on) w }

refused_unagreed : (side : EndId) (limits : Limits) (past : List Event) (frame : List ℕ) (fault : TakeFault) (unheard : Bool) → is_unheard past ≡ unheard → is_agreed side limits past ≡ false
    → take_fault side limits past frame ≡ Some fault → is_agreed side limits (Take frame ∷ past) ≡ false
refused_unagreed side limits past frame fault true is off refused = let none : is_none (take_fault side limits past frame) ≡ false = rw refused refl in rw (is, none) refl
refused_unagreed side limits past frame fault false is off refused = welcomed_same side limits past frame is ∙ off

-- a frame that is refused leaves what waits
pub Queues-refused : (side : EndId) (limits : Limits) (past : List Event) (q : Queued) (frame : List ℕ) (fault : TakeFault) → Queues side limits past q → take_fault side limits past frame ≡ Some fault
    → Queues side limits (Take frame ∷ past) q
Queues-refused side limits past q frame fault h refused = by_agreed (is_agreed side limits past) refl where
  by_agreed : (agreed : Bool) → is_agreed side limits past ≡ agreed → Queues side limits (Take frame ∷ past) q
  by_agreed true on =
      let heard = agreed_heard side limits past on in
      record {
        waits = λ off. absurd (let b : ⊥ = (let same = welcomed_same side limits past frame heard in cc) in b);
        sends = λ _. taken_on side limits past q frame heard (h.sends on);
        begun = λ _. h.begun on;
      }
  by_agreed false off =
      let still = refused_unagreed side limits past frame fault (is_unheard past) refl off refused in
      record { waits = λ _. taken_waits past q frame (h.waits off); sends = λ on. absurd cc; begun = λ on. absurd cc }
