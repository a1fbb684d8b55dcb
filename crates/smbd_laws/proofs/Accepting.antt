-- A frame in flight between two ends is not refused.
use Rattle.std.proofs.Common.{◌≡◌, inl, inr, ℕ, ◌+◌, ◌≤◌, ◌==◌, Bool, true, false, not, ◌||◌, ◌&&◌, List, [], ◌∷◌, ◌++◌, length, take, drop, Option, None, Some, is_some, option_to_list, refl, ap, subst, sym, ◌∙◌, append_assoc, arith}
use Rattle.std.proofs.lemmas.Bool.Decides.{nat_tests}
use Rattle.std.proofs.lemmas.List.{length-append, take-append-drop}
use Rattle.std.proofs.lemmas.List.Concat.{flat_map-append}
use mathlib.Core.List.{IsPrefix}
use Rattle.smbd_base.specs.declared.end_id.EndId.{EndId}
use Rattle.smbd_base.specs.declared.end_id.EndId.TheVariants.{Client, Server}
use Rattle.smbd_base.specs.declared.event.Event.{Event}
use Rattle.smbd_base.specs.declared.event.Event.TheVariants.{Post, Submit, Emit, Take, Cut}
use Rattle.smbd_base.specs.declared.faults.TakeFault.{TakeFault}
use Rattle.smbd_base.specs.declared.agreed.Agreed.{Agreed}
use Rattle.smbd_base.specs.Limits.{Limits, IsLawful}
use Rattle.smbd_base.specs.NegotiateMessages.{request_bytes, request_fault, request_of_limits}
use Rattle.smbd_base.specs.Counts.{frames_sent, credits_granted, credits_earned, receives_outstanding, is_silent, is_unheard, is_early, is_out_of_turn, peer_of}
use Rattle.smbd_base.specs.DataFrame.{data_frame_of}
use Rattle.smbd_base.specs.Delivery.{messages_delivered, pieces_taken, piece_in}
use Rattle.smbd_base.specs.Joint.{AreAccepted, emitted_frames, taken_frames}
use Rattle.smbd_base.specs.Pieces.{Piece, AreFilled, SplitsInto}
use Rattle.smbd_base.specs.History.{take_fault, bytes_expected, peer_negotiation, is_new, is_refused, is_version_refused, is_closed, messages_submitted, pieces_sent, IsLegal}
use Rattle.smbd_base.proofs.BalanceLemmas.{balanced}
use Rattle.smbd_base.proofs.Hearing.{spoken_heard}
use Rattle.smbd_base.proofs.Inversion.{emits, both, from_not, ready_parts, sending_parts}
use Rattle.smbd_base.proofs.Counting.{is_empty, sent_is, silent_is, unheard_is, taken_most, grants_in, grants_in-front, granted_is, earned_most}
use Rattle.smbd_laws.proofs.Delivering.{taken_carried}
use Rattle.smbd_laws.proofs.Fitting.{AreShort, next_fits}
use Rattle.smbd_laws.proofs.Gathering.{gathers}
use Rattle.smbd_laws.proofs.Joining.{splits_each, filled_each}
use Rattle.smbd_laws.proofs.Opening.{IsFirst, IsWithinPeer, IsWelcome, first_sent, front_first, heard_first, request_sound, welcome}
use Rattle.smbd_laws.proofs.Refusing.{FitsIn, data_fits, no_version_refused, taken-first, taken-later}
use Rattle.smbd_laws.proofs.Sending.{IsSound, AreSound, Speaks, speaks, pieces_carried, later_frames}
use Rattle.smbd_laws.proofs.Settling.{Settles, settles_within}
use Rattle.smbd_laws.proofs.Submitting.{pieces_submitted, submitted_some, submitted_short, size_of, size_some}

-- ---- who has spoken

is_empty-behind : {A : Type 0} (xs ys : List A) (y : A) → is_empty (xs ++ y ∷ ys) ≡ false
is_empty-behind [] ys y = refl
is_empty-behind (x ∷ xs) ys y = refl

is_empty-front : {A : Type 0} (xs ys : List A) → is_empty xs ≡ false → is_empty (xs ++ ys) ≡ false
is_empty-front [] ys some = absurd cc
is_empty-front (x ∷ xs) ys some = refl

-- a client to which a server sends has sent its request
not_early : (x : EndId) (other : Limits) (taker sender : List Event) (frame : List ℕ) (rest : List (List ℕ)) → IsLegal (peer_of x) other sender
    → IsPrefix (taken_frames sender) (emitted_frames taker) → emitted_frames sender ≡ taken_frames taker ++ frame ∷ rest → is_early x taker ≡ false
not_early Client other taker sender frame rest legal back e =
    let spoken : is_silent sender ≡ false = silent_is sender ∙ ap (λ (fs : List (List ℕ)). is_empty fs) e ∙ is_empty-behind (taken_frames taker) rest frame in
    let some : is_empty (taken_frames sender) ≡ false = sym (unheard_is sender) ∙ spoken_heard other sender legal spoken in
    silent_is taker ∙ ap (λ (fs : List (List ℕ)). is_empty fs) (sym back.1) ∙ is_empty-front (taken_frames sender) back.0 some
not_early Server other taker sender frame rest legal back e = refl

-- ---- a receive waits for the frame

peer-peer : (x : EndId) → peer_of (peer_of x) ≡ x
peer-peer Client = refl
peer-peer Server = refl

opened : (sender : List Event) (front rest : List (List ℕ)) (frame : List ℕ) → emitted_frames sender ≡ front ++ frame ∷ rest → is_new sender ≡ false
opened [] front rest frame e =
    absurd (let b : true ≡ false = ap (λ (fs : List (List ℕ)). is_empty fs) e ∙ is_empty-behind front rest frame in (let c : ⊥ = cc in c))
opened (event ∷ past) front rest frame e = refl

-- the taker has granted more credits than it has taken frames
one_left : (x : EndId) (other : Limits) (taker sender : List Event) (frame : List ℕ) (rest : List (List ℕ)) → IsLawful other → IsLegal (peer_of x) other sender
    → IsPrefix (taken_frames sender) (emitted_frames taker) → emitted_frames sender ≡ taken_frames taker ++ frame ∷ rest → 1 ≤ receives_outstanding x taker
one_left x other taker sender frame rest lawful legal back e =
    let spent = (balanced (peer_of x) other sender lawful legal (opened sender (taken_frames taker) rest frame e)).spent in
    let earned : credits_earned (peer_of x) sender ≤ 1 + grants_in x (taken_frames sender) =
    subst (λ (y : EndId). credits_earned (peer_of x) sender ≤ 1 + grants_in y (taken_frames sender)) (peer-peer x) (earned_most (peer_of x) sender) in
    let granted : credits_granted x taker ≡ 1 + grants_in x (taken_frames sender ++ back.0) = rw back.1 (granted_is x taker) in
    let sent : frames_sent sender ≡ length (taken_frames taker ++ frame ∷ rest) = rw (sym e) (sent_is sender) in
    omega (arith, spent, earned, granted, sent, grants_in-front x (taken_frames sender) back.0, length-append (taken_frames taker) (frame ∷ rest), taken_most x taker)

in_turn : (early : Bool) (outstanding : ℕ) → early ≡ false → 1 ≤ outstanding → (early || outstanding == 0) ≡ false
in_turn early outstanding on_time left = rw on_time (grind (arith, nat_tests))

-- ---- what the frame says

behind_sound : (longest : ℕ) (frames rest : List (List ℕ)) (frame : List ℕ) → AreSound longest (frames ++ frame ∷ rest) → IsSound longest frame
behind_sound longest [] rest frame s = s.0
behind_sound longest (f ∷ frames) rest frame s = behind_sound longest frames rest frame s.1

-- what the frame carries fits the bytes that are expected, where the pieces before it were taken
carried_fits : (max expected : ℕ) (front more all : List Piece) (o : Option Piece) (messages others : List (List ℕ)) (rest : List Piece) → AreFilled all
    → SplitsInto front messages rest expected → SplitsInto all others [] 0 → AreShort max others → front ++ (option_to_list o ++ more) ≡ all → FitsIn max expected o
carried_fits max expected front more all None messages others rest filled s t short e = tt
carried_fits max expected front more all (Some p) messages others rest filled s t short e = next_fits max expected front more all p messages others rest filled s t short e

short_too : (most max : ℕ) (messages : List (List ℕ)) → most ≤ max → AreShort most messages → AreShort max messages
short_too most max [] fits s = tt
short_too most max (m ∷ messages) fits s = (omega (arith, s.0), short_too most max messages fits s.1)

-- of the frames after the negotiation message, the next one carries what is expected
later_fits : (x : EndId) (own other : Limits) (taker sender : List Event) (agreed : Agreed) (frame : List ℕ) (front rest : List (List ℕ)) → IsLegal (peer_of x) other sender
    → Settles (peer_of x) other sender agreed → IsWithinPeer own agreed → pieces_taken x own taker ≡ pieces_carried front
    → pieces_carried (front ++ frame ∷ rest) ≡ take (pieces_sent sender) (pieces_submitted (size_of agreed) sender)
    → FitsIn own.fragmented_size (bytes_expected x own taker) (piece_in (data_frame_of frame))
later_fits x own other taker sender agreed frame front rest legal s within taken carried =
    let all = pieces_submitted (size_of agreed) sender in
    let submitted = messages_submitted sender in
    let size = size_some (peer_of x) other sender agreed s in
    let behind = drop (pieces_sent sender) all in
    let own_piece = option_to_list (piece_in (data_frame_of frame)) in
    let is : pieces_taken x own taker ++ (own_piece ++ (pieces_carried rest ++ behind)) ≡ all =
    ap (λ (ps : List Piece). ps ++ (own_piece ++ (pieces_carried rest ++ behind))) taken
    ∙ sym (ap (λ (ps : List Piece). pieces_carried front ++ ps) (append_assoc own_piece (pieces_carried rest) behind))
    ∙ sym (append_assoc (pieces_carried front) (own_piece ++ pieces_carried rest) behind)
    ∙ ap (λ (ps : List Piece). ps ++ behind) (sym (flat_map-append (λ (g : List ℕ). option_to_list (piece_in (data_frame_of g))) front (frame ∷ rest)) ∙ carried)
    ∙ take-append-drop (pieces_sent sender) all in
    let h = gathers x own taker in
    carried_fits own.fragmented_size (bytes_expected x own taker) (pieces_taken x own taker) (pieces_carried rest ++ behind) all (piece_in (data_frame_of frame))
    (messages_delivered x own taker) submitted h.rest (filled_each (size_of agreed) submitted size) h.is.splits
    (splits_each (size_of agreed) submitted size (submitted_some (peer_of x) other sender legal))
    (short_too agreed.message_max own.fragmented_size submitted within.messages (submitted_short (peer_of x) other sender agreed legal s)) is

-- ---- the first frame

-- the request was the first frame that the sender took, where it is a server
request_heard : (x : EndId) (own other : Limits) (taker sender : List Event) (frame : List ℕ) → IsLegal x own taker → IsPrefix (taken_frames sender) (emitted_frames taker)
    → (w : IsFirst (peer_of x) other (taken_frames sender) frame) → x ≡ Client → is_unheard w.before ≡ false → peer_negotiation w.before ≡ request_bytes (request_of_limits own)
request_heard Client own other taker sender frame legal back w is heard =
    let h = heard_first w.before heard in
    let then = front_first (taken_frames w.before) (taken_frames sender) h.0 (peer_negotiation w.before) w.front h.1 in
    let first = first_sent Client own taker (peer_negotiation w.before) _ legal (front_first (taken_frames sender) (emitted_frames taker) _ (peer_negotiation w.before) back then) in
    sym first.is
request_heard Server own other taker sender frame legal back w is heard = absurd cc

-- it is not refused
first_welcome : (x : EndId) (own other : Limits) (taker sender : List Event) (frame : List ℕ) (rest : List (List ℕ)) → IsLawful own → IsLawful other
    → IsLegal (peer_of x) other sender → IsLegal x own taker → IsPrefix (taken_frames sender) (emitted_frames taker) → emitted_frames sender ≡ frame ∷ rest → IsWelcome x own frame
first_welcome x own other taker sender frame rest lawful peer legal following back e =
    let w = first_sent (peer_of x) other sender frame rest legal e in
    welcome x own other (taken_frames sender) frame lawful peer w (request_heard x own other taker sender frame following back w)

-- ---- any frame

accepted_at : (x : EndId) (own other : Limits) (taker sender : List Event) (frame : List ℕ) (front rest : List (List ℕ)) → IsLawful own → IsLawful other
    → IsLegal (peer_of x) other sender → IsLegal x own taker → IsPrefix (taken_frames sender) (emitted_frames taker) → emitted_frames sender ≡ front ++ frame ∷ rest
    → pieces_taken x own taker ≡ pieces_carried (later_frames front) → is_unheard taker ≡ is_empty front → is_out_of_turn x taker ≡ false → take_fault x own taker frame ≡ None
accepted_at x own other taker sender frame [] rest lawful peer legal following back e taken unheard turn =
    let w = first_welcome x own other taker sender frame rest lawful peer legal following back e in
    taken-first x own taker frame turn (omega (arith, w.short, lawful.receive_size.0)) unheard w.sound
accepted_at x own other taker sender frame (f ∷ front) rest lawful peer legal following back e taken unheard turn =
    let s = settles_within x own other taker sender lawful peer following back in
    let h = subst (λ (fs : List (List ℕ)). Speaks s.agreed.send_size fs (pieces_sent sender) (pieces_submitted (size_of s.agreed) sender)) e
    (speaks (peer_of x) other sender s.agreed peer legal s.settles) in
    let sound = behind_sound s.agreed.send_size front rest frame h.sound in
    taken-later x own taker frame turn (omega (arith, sound.short, s.within.frames)) unheard
    (data_fits own.fragmented_size (bytes_expected x own taker) (data_frame_of frame) sound.read
    (later_fits x own other taker sender s.agreed frame front rest legal s.settles s.within taken h.carried))

-- a frame in flight to an end that follows its rules is not refused, where none was before it
pub accepted : (x : EndId) (own other : Limits) (taker sender : List Event) (frame : List ℕ) (rest : List (List ℕ)) → IsLawful own → IsLawful other
    → IsLegal (peer_of x) other sender → IsLegal x own taker → AreAccepted x own taker → IsPrefix (taken_frames sender) (emitted_frames taker)
    → emitted_frames sender ≡ taken_frames taker ++ frame ∷ rest → take_fault x own taker frame ≡ None
accepted x own other taker sender frame rest lawful peer legal following before back e =
    let turn : is_out_of_turn x taker ≡ false =
    in_turn (is_early x taker) (receives_outstanding x taker) (not_early x other taker sender frame rest legal back e) (one_left x other taker sender frame rest peer legal back e) in
    accepted_at x own other taker sender frame (taken_frames taker) rest lawful peer legal following back e (taken_carried x own taker before) (unheard_is taker) turn

-- ---- nor was any before it

refused_not : (o : Option TakeFault) → is_some o ≡ false → o ≡ None
refused_not None e = refl
refused_not (Some fault) e = absurd cc

-- an end whose last frame was not refused has refused none
open_accepted : (x : EndId) (limits : Limits) (past : List Event) → IsLegal x limits past → is_refused x limits past ≡ false → AreAccepted x limits past
open_accepted x limits [] legal going = tt
open_accepted x limits (Post n ∷ past) legal going = open_accepted x limits past legal.1 going
open_accepted x limits (Submit m ∷ past) legal going = open_accepted x limits past legal.1 going
open_accepted x limits (Emit f ∷ past) legal going = open_accepted x limits past legal.1 going
open_accepted x limits (Take f ∷ past) legal going =
    (refused_not (take_fault x limits past f) going, open_accepted x limits past legal.1 (ready_parts x limits past legal.0).refused)
open_accepted x limits (Cut ∷ past) legal going = open_accepted x limits past legal.1 going

-- a server took a request without a fault first
request_taken : (x : EndId) (other : Limits) (taker sender : List Event) (rest : List (List ℕ)) → IsLawful other → IsLegal (peer_of x) other sender
    → emitted_frames sender ≡ taken_frames taker ++ rest → x ≡ Server → is_unheard taker ≡ false → request_fault (peer_negotiation taker) ≡ None
request_taken Client other taker sender rest peer legal e is heard = absurd cc
request_taken Server other taker sender rest peer legal e is heard =
    let h = heard_first taker heard in
    let w = first_sent Client other sender (peer_negotiation taker) (h.0 ++ rest) legal (front_first (taken_frames taker) (emitted_frames sender) h.0 (peer_negotiation taker) (rest, sym e) h.1) in
    subst (λ (f : List ℕ). request_fault f ≡ None) w.is (request_sound other peer)

open_by : (refused version silent : Bool) → (refused && not (version && silent)) ≡ false → version ≡ false → refused ≡ false
open_by false version silent e sound = refl
open_by true false silent e sound = absurd cc
open_by true true silent e sound = absurd cc

-- an end that sends a frame has refused none of its peer
sends_open : (x : EndId) (own other : Limits) (taker sender : List Event) (rest : List (List ℕ)) → IsLawful other → IsLegal (peer_of x) other sender
    → emitted_frames sender ≡ taken_frames taker ++ rest → is_closed x own taker ≡ false → is_refused x own taker ≡ false
sends_open x own other taker sender rest peer legal e closed =
    open_by (is_refused x own taker) (is_version_refused x own taker) (is_silent taker) closed
    (no_version_refused x own taker (request_taken x other taker sender rest peer legal e))

-- an end to which all its frames were in flight has refused none
pub legal_accepted : (x : EndId) (own other : Limits) (taker sender : List Event) (rest : List (List ℕ)) → IsLawful own → IsLawful other → IsLegal (peer_of x) other sender
    → IsLegal x own taker → IsPrefix (taken_frames sender) (emitted_frames taker) → emitted_frames sender ≡ taken_frames taker ++ rest → AreAccepted x own taker
legal_accepted x own other [] sender rest lawful peer legal following back e = tt
legal_accepted x own other (Post n ∷ past) sender rest lawful peer legal following back e = legal_accepted x own other past sender rest lawful peer legal following.1 back e
legal_accepted x own other (Submit m ∷ past) sender rest lawful peer legal following back e = legal_accepted x own other past sender rest lawful peer legal following.1 back e
legal_accepted x own other (Emit f ∷ past) sender rest lawful peer legal following back e =
    open_accepted x own past following.1 (sends_open x own other past sender rest peer legal e (emits x own past f following.0).going.closed)
legal_accepted x own other (Take f ∷ past) sender rest lawful peer legal following back e =
    let before = open_accepted x own past following.1 (ready_parts x own past following.0).refused in
    (accepted x own other past sender f rest lawful peer legal following.1 before back (e ∙ append_assoc (taken_frames past) (f ∷ []) rest), before)
legal_accepted x own other (Cut ∷ past) sender rest lawful peer legal following back e = legal_accepted x own other past sender rest lawful peer legal following.1 back e

-- a frame in flight between two ends that follow their rules is not refused
pub accepted_legal : (x : EndId) (own other : Limits) (taker sender : List Event) (frame : List ℕ) (rest : List (List ℕ)) → IsLawful own → IsLawful other
    → IsLegal (peer_of x) other sender → IsLegal x own taker → IsPrefix (taken_frames sender) (emitted_frames taker)
    → emitted_frames sender ≡ taken_frames taker ++ frame ∷ rest → take_fault x own taker frame ≡ None
accepted_legal x own other taker sender frame rest lawful peer legal following back e =
    accepted x own other taker sender frame rest lawful peer legal following
    (legal_accepted x own other taker sender (frame ∷ rest) lawful peer legal following back e) back e
