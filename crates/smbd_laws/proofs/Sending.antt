-- The frames of an end that follows its rules: the negotiation message, and then the pieces of what was submitted.
use Rattle.std.proofs.Common.{◌≡◌, inl, inr, ℕ, zero, suc, ◌+◌, ◌≤◌, ◌<◌, ◌==◌, nat_le, Bool, true, false, not, ◌&&◌, cond, List, [], ◌∷◌, ◌++◌, length, take, drop, Option, Some, None, is_some, option_to_list, Result, Ok, Err, is_ok, refl, ap, subst, sym, ◌∙◌, append-nil, arith}
use Rattle.std.specs.List.{flat_map, All}
use Rattle.std.proofs.lemmas.List.{length-append, take-append-le}
use Rattle.std.proofs.lemmas.List.Concat.{flat_map-append}
use Rattle.std.proofs.lemmas.List.Elements.{All-drop, All-head}
use Rattle.smbd_base.specs.declared.end_id.EndId.{EndId}
use Rattle.smbd_base.specs.declared.event.Event.{Event}
use Rattle.smbd_base.specs.declared.event.Event.TheVariants.{Post, Submit, Emit, Take, Cut}
use Rattle.smbd_base.specs.declared.faults.FrameFault.{FrameFault}
use Rattle.smbd_base.specs.Limits.{Limits, IsLawful}
use Rattle.smbd_base.specs.Counts.{credits_held, receives_grantable, is_silent}
use Rattle.smbd_base.specs.DataFrame.{DataFrame, data_frame_of, frame_bytes}
use Rattle.smbd_base.specs.Delivery.{piece_in}
use Rattle.smbd_base.specs.Joint.{emitted_frames}
use Rattle.smbd_base.specs.Pieces.{Piece, pieces_of}
use Rattle.smbd_base.specs.declared.agreed.Agreed.{Agreed}
use Rattle.smbd_base.specs.NegotiateMessages.{IsLawfulAgreement}
use Rattle.smbd_base.specs.History.{data_frame_due, frame_due, pieces_sent, pieces_waiting, carries, is_agreed, is_new, IsLegal}
use Rattle.smbd_base.proofs.BalanceLemmas.{balanced, silent_opening}
use Rattle.smbd_base.proofs.FrameLaws.{data_frame_of-empty, data_frame_of-filled, length-frame_bytes-empty, length-frame_bytes-filled}
use Rattle.smbd_base.proofs.Inversion.{Emits, emits, sending_parts}
use Rattle.smbd_base.proofs.Counting.{is_empty, silent_is}
use Rattle.smbd_laws.proofs.Fitting.{not_zero}
use Rattle.smbd_laws.proofs.Settling.{Settles, settles_before}
use Rattle.smbd_laws.proofs.Submitting.{IsSendable, sendable, size_of, pieces_submitted, submitted-more}

-- ---- the frame that carries a piece

-- the frame is short enough to be sent, can be read, and carries this piece
record IsSentWith (longest : ℕ) (frame : List ℕ) (o : Option Piece) : Type 0 where
  short : length frame ≤ longest
  read : is_ok (data_frame_of frame) ≡ true
  brings : piece_in (data_frame_of frame) ≡ o

abbrev pub first_of : List Piece → Option Piece
first_of [] = None
first_of (p ∷ pieces) = Some p

-- a settlement whose frames and messages fit their fields
record HasFields (agreed : Agreed) : Type 0 where
  lawful : IsLawfulAgreement agreed
  small : agreed.message_max < 4294967296

sent_empty : (limits : Limits) (longest grantable : ℕ) → IsLawful limits → 128 ≤ longest → grantable < 65536
    → IsSentWith longest (frame_bytes limits.credits grantable false 0 []) None
sent_empty limits longest grantable lawful long small =
    let says = data_frame_of-empty limits.credits grantable false 0 (omega (arith, lawful.credits.1)) small in
    record {
      short = omega (arith, length-frame_bytes-empty limits.credits grantable false 0);
      read = rw says refl;
      brings = rw says refl;
    }

sent_filled : (limits : Limits) (agreed : Agreed) (grantable : ℕ) (flag : Bool) (p : Piece) → IsLawful limits → HasFields agreed → grantable < 65536 → IsSendable agreed p
    → IsSentWith agreed.send_size (frame_bytes limits.credits grantable flag p.remaining p.payload) (Some p)
sent_filled limits agreed grantable flag p lawful fields small fits =
    let size = fields.lawful.send_size in
    let says = data_frame_of-filled limits.credits grantable flag p.remaining p.payload (omega (arith, lawful.credits.1)) small
    (omega (arith, fits.within, fields.small)) fits.filled (omega (arith, fits.short, size.1)) in
    let some = not_zero (length p.payload) fits.filled in
    record {
      short = omega (arith, length-frame_bytes-filled limits.credits grantable flag p.remaining p.payload fits.filled, fits.short, size.0);
      read = rw says refl;
      brings = rw (says, some) refl;
    }

due_sent : (limits : Limits) (agreed : Agreed) (held grantable : ℕ) (waiting : List Piece) → IsLawful limits → HasFields agreed → grantable < 65536
    → All (IsSendable agreed) waiting → IsSentWith agreed.send_size (data_frame_due limits held grantable waiting) (first_of waiting)
due_sent limits agreed held grantable [] lawful fields small fit = sent_empty limits agreed.send_size grantable lawful fields.lawful.send_size.0 small
due_sent limits agreed held grantable (p ∷ later) lawful fields small fit =
    sent_filled limits agreed grantable (not (length later == 0) && nat_le held 2) p lawful fields small (All-head (IsSendable agreed) p later fit)

-- ---- the frames that were sent

-- the pieces that these data transfer messages carry
abbrev pub pieces_carried : List (List ℕ) → List Piece
pieces_carried frames = flat_map (λ (f : List ℕ). option_to_list (piece_in (data_frame_of f))) frames

pub carried-more : (frames : List (List ℕ)) (f : List ℕ) → pieces_carried (frames ++ f ∷ []) ≡ pieces_carried frames ++ option_to_list (piece_in (data_frame_of f))
carried-more frames f =
    flat_map-append (λ (g : List ℕ). option_to_list (piece_in (data_frame_of g))) frames (f ∷ [])
    ∙ ap (λ (ps : List Piece). pieces_carried frames ++ ps) (append-nil (option_to_list (piece_in (data_frame_of f))))

-- the frames after the negotiation message
abbrev pub later_frames : List (List ℕ) → List (List ℕ)
later_frames [] = []
later_frames (f ∷ frames) = frames

-- a data transfer message of at most so many bytes that can be read
pub record IsSound (longest : ℕ) (frame : List ℕ) : Type 0 where
  pub short : length frame ≤ longest
  pub read : is_ok (data_frame_of frame) ≡ true

abbrev pub AreSound : ℕ → List (List ℕ) → Type 0
AreSound longest [] = Unit {0}
AreSound longest (f ∷ frames) = IsSound longest f × AreSound longest frames

sound_more : (longest : ℕ) (frames : List (List ℕ)) (f : List ℕ) → AreSound longest frames → IsSound longest f → AreSound longest (frames ++ f ∷ [])
sound_more longest [] f s here = (here, tt)
sound_more longest (g ∷ frames) f s here = (s.0, sound_more longest frames f s.1 here)

-- the frames are the negotiation message, and then data transfer messages that carry so many of these pieces
pub record Speaks (longest : ℕ) (frames : List (List ℕ)) (sent : ℕ) (pieces : List Piece) : Type 0 where
  pub sound : AreSound longest (later_frames frames)
  pub carried : pieces_carried (later_frames frames) ≡ take sent pieces
  pub within : sent ≤ length pieces

speaks_first : (longest : ℕ) (frames : List (List ℕ)) (f : List ℕ) (sent : ℕ) (pieces : List Piece) → Speaks longest frames sent pieces
    → is_empty frames ≡ true → Speaks longest (frames ++ f ∷ []) sent pieces
speaks_first longest [] f sent pieces h none = record { sound = tt; carried = h.carried; within = h.within }
speaks_first longest (g ∷ frames) f sent pieces h none = absurd cc

record TakesOne (n : ℕ) (ps : List Piece) (p : Piece) : Type 0 where
  front : take (n + 1) ps ≡ take n ps ++ p ∷ []
  within : n + 1 ≤ length ps

take_one : (n : ℕ) (ps later : List Piece) (p : Piece) → drop n ps ≡ p ∷ later → TakesOne n ps p
take_one zero [] later p e = absurd cc
take_one zero (q ∷ ps) later p e = record { front = cc; within = omega arith }
take_one (suc n) [] later p e = absurd cc
take_one (suc n) (q ∷ ps) later p e =
    let h = take_one n ps later p e in
    let is : suc n + 1 ≡ suc (n + 1) = omega arith in
    record { front = rw is (ap (λ (xs : List Piece). q ∷ xs) h.front); within = omega (arith, h.within) }

-- a frame carries what it brings
carries_is : (d : Result DataFrame FrameFault) → carries d ≡ is_some (piece_in d)
carries_is (Err fault) = refl
carries_is (Ok d) = by_test (length d.payload == 0) where
  by_test : (empty : Bool) → not empty ≡ is_some (cond {A = Option Piece} empty None (Some (record { payload = d.payload; remaining = d.remaining })))
  by_test true = refl
  by_test false = refl

-- the pieces that were sent, with the first one of those that wait
front_more : (frames : List (List ℕ)) (f : List ℕ) (sent : ℕ) (pieces waiting : List Piece) → pieces_carried frames ≡ take sent pieces → sent ≤ length pieces
    → drop sent pieces ≡ waiting → piece_in (data_frame_of f) ≡ first_of waiting
    → (pieces_carried (frames ++ f ∷ []) ≡ take (cond (carries (data_frame_of f)) (sent + 1) sent) pieces) × (cond (carries (data_frame_of f)) (sent + 1) sent ≤ length pieces)
front_more frames f sent pieces [] carried within rest brings =
    rw (carries_is (data_frame_of f), brings) (carried-more frames f ∙ rw brings (append-nil (pieces_carried frames) ∙ carried), within)
front_more frames f sent pieces (p ∷ later) carried within rest brings =
    let one = take_one sent pieces later p rest in
    rw (carries_is (data_frame_of f), brings)
    (carried-more frames f ∙ rw brings (ap (λ (ps : List Piece). ps ++ p ∷ []) carried ∙ sym one.front), one.within)

speaks_later : (longest : ℕ) (frames : List (List ℕ)) (f : List ℕ) (sent : ℕ) (pieces : List Piece) → Speaks longest frames sent pieces
    → is_empty frames ≡ false → IsSentWith longest f (first_of (drop sent pieces)) → Speaks longest (frames ++ f ∷ []) (cond (carries (data_frame_of f)) (sent + 1) sent) pieces
speaks_later longest [] f sent pieces h some is = absurd cc
speaks_later longest (g ∷ frames) f sent pieces h some is =
    let more = front_more frames f sent pieces (drop sent pieces) h.carried h.within refl is.brings in
    record {
      sound = sound_more longest frames f h.sound (record { short = is.short; read = is.read });
      carried = more.0;
      within = more.1;
    }

speaks_submit : (longest : ℕ) (frames : List (List ℕ)) (sent : ℕ) (pieces more all : List Piece) → all ≡ pieces ++ more
    → Speaks longest frames sent pieces → Speaks longest frames sent all
speaks_submit longest frames sent pieces more all is h = record {
  sound = h.sound;
  carried = h.carried ∙ sym (take-append-le sent pieces more h.within) ∙ ap (λ (ps : List Piece). take sent ps) (sym is);
  within = rw is (omega (arith, h.within, length-append pieces more));
}

-- ---- of a past

sent_is : (silent : Bool) (carried : Bool) (n : ℕ) → silent ≡ false → cond (not silent && carried) (n + 1) n ≡ cond carried (n + 1) n
sent_is silent carried n spoken = rw spoken refl

sent_same : (silent : Bool) (carried : Bool) (n : ℕ) → silent ≡ true → cond (not silent && carried) (n + 1) n ≡ n
sent_same silent carried n is = rw is refl

-- the frame that an agreed end sends carries the first piece that waits
sent_due : (side : EndId) (limits : Limits) (past : List Event) (f : List ℕ) (agreed : Agreed) → IsLawful limits → IsLegal side limits past → Settles side limits past agreed
    → is_new past ≡ false → is_agreed side limits past ≡ true → frame_due side limits past ≡ f
    → IsSentWith agreed.send_size f (first_of (drop (pieces_sent past) (pieces_submitted (size_of agreed) past)))
sent_due side limits past f agreed lawful legal s opened settled_is is =
    let b = balanced side limits past lawful legal opened in
    let small : receives_grantable side past < 65536 = omega (arith, b.posted, b.taken, lawful.credits.1) in
    let waiting = drop (pieces_sent past) (pieces_submitted (size_of agreed) past) in
    let waits : pieces_waiting side limits past ≡ waiting =
    ap (λ (a : Agreed). drop (pieces_sent past) (pieces_submitted (size_of a) past)) (s.is settled_is) in
    let fit : All (IsSendable agreed) waiting =
    All-drop (IsSendable agreed) (pieces_sent past) (pieces_submitted (size_of agreed) past) (sendable side limits past agreed legal s) in
    let due : data_frame_due limits (credits_held side past) (receives_grantable side past) waiting ≡ f =
    ap (λ (ps : List Piece). data_frame_due limits (credits_held side past) (receives_grantable side past) ps) (sym waits) ∙ is in
    subst (λ (g : List ℕ). IsSentWith agreed.send_size g (first_of waiting)) due
    (due_sent limits agreed (credits_held side past) (receives_grantable side past) waiting lawful (record { lawful = s.lawful; small = s.small }) small fit)

speaks_emit : (side : EndId) (limits : Limits) (past : List Event) (f : List ℕ) (agreed : Agreed) → IsLawful limits → IsLegal side limits past → Settles side limits past agreed
    → Emits side limits past f → Speaks agreed.send_size (emitted_frames past) (pieces_sent past) (pieces_submitted (size_of agreed) past)
    → Speaks agreed.send_size (emitted_frames (Emit f ∷ past)) (pieces_sent (Emit f ∷ past)) (pieces_submitted (size_of agreed) past)
speaks_emit side limits past f agreed lawful legal s e h =
    elim e.chosen.why as (λ _. Speaks agreed.send_size (emitted_frames (Emit f ∷ past)) (pieces_sent (Emit f ∷ past)) (pieces_submitted (size_of agreed) past)) [
      | inl first ↦
          let silent : is_silent past ≡ true = silent_opening side past first.0 in
          rw (sent_same (is_silent past) (carries (data_frame_of f)) (pieces_sent past) silent)
          (speaks_first agreed.send_size (emitted_frames past) f (pieces_sent past) (pieces_submitted (size_of agreed) past) h (sym (silent_is past) ∙ silent))
      | inr later ↦
          let sends = sending_parts side limits past e.going.closed later.1 in
          rw (sent_is (is_silent past) (carries (data_frame_of f)) (pieces_sent past) sends.spoken)
          (speaks_later agreed.send_size (emitted_frames past) f (pieces_sent past) (pieces_submitted (size_of agreed) past) h (sym (silent_is past) ∙ sends.spoken)
          (sent_due side limits past f agreed lawful legal s e.going.opened sends.agreed later.2))
    ]

-- an end that follows its rules sends the pieces of what was submitted, of the size that it has settled
pub speaks : (side : EndId) (limits : Limits) (past : List Event) (agreed : Agreed) → IsLawful limits → IsLegal side limits past → Settles side limits past agreed
    → Speaks agreed.send_size (emitted_frames past) (pieces_sent past) (pieces_submitted (size_of agreed) past)
speaks side limits [] agreed lawful legal s = record { sound = tt; carried = refl; within = omega arith }
speaks side limits (Post n ∷ past) agreed lawful legal s = speaks side limits past agreed lawful legal.1 (settles_before side limits (Post n) past agreed s)
speaks side limits (Submit m ∷ past) agreed lawful legal s =
    speaks_submit agreed.send_size (emitted_frames past) (pieces_sent past) (pieces_submitted (size_of agreed) past) (pieces_of (size_of agreed) m) _
    (submitted-more (size_of agreed) past m) (speaks side limits past agreed lawful legal.1 (settles_before side limits (Submit m) past agreed s))
speaks side limits (Emit f ∷ past) agreed lawful legal s =
    let was = settles_before side limits (Emit f) past agreed s in
    speaks_emit side limits past f agreed lawful legal.1 was (emits side limits past f legal.0) (speaks side limits past agreed lawful legal.1 was)
speaks side limits (Take f ∷ past) agreed lawful legal s = speaks side limits past agreed lawful legal.1 (settles_before side limits (Take f) past agreed s)
speaks side limits (Cut ∷ past) agreed lawful legal s = speaks side limits past agreed lawful legal.1 (settles_before side limits Cut past agreed s)
