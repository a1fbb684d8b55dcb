-- What an end delivers is the front of what its peer submitted.
use Rattle.std.proofs.Common.{◌≡◌, ℕ, ◌<◌, List, [], ◌∷◌, ◌++◌, take, drop, Option, Some, None, option_to_list, refl, ap, sym, ◌∙◌, append-nil, append_assoc, take-append-drop}
use mathlib.Core.List.{IsPrefix}
use Rattle.std.proofs.lemmas.List.Concat.{flat_map-append}
use Rattle.smbd_base.specs.declared.end_id.EndId.{EndId}
use Rattle.smbd_base.specs.declared.end_id.EndId.TheVariants.{Client, Server}
use Rattle.smbd_base.specs.declared.event.Event.{Event}
use Rattle.smbd_base.specs.declared.event.Event.TheVariants.{Post, Submit, Emit, Take, Cut}
use Rattle.smbd_base.specs.declared.agreed.Agreed.{Agreed}
use Rattle.smbd_base.specs.Limits.{Limits, IsLawful}
use Rattle.smbd_base.specs.Counts.{is_unheard, peer_of}
use Rattle.smbd_base.specs.DataFrame.{data_frame_of}
use Rattle.smbd_base.specs.Delivery.{and_piece, messages_delivered, pieces_taken, piece_in, piece_brought}
use Rattle.smbd_base.specs.Joint.{AreAccepted, AreLinked, emitted_frames, taken_frames}
use Rattle.smbd_base.specs.Pieces.{Piece}
use Rattle.smbd_base.specs.History.{take_fault, bytes_expected, messages_submitted, pieces_sent, settled, IsLegal}
use Rattle.smbd_base.proofs.Counting.{is_empty, unheard_is}
use Rattle.smbd_laws.proofs.Gathering.{gathers}
use Rattle.smbd_laws.proofs.Joining.{splits_each, filled_each}
use Rattle.smbd_laws.proofs.Refusing.{brought-first, brought-later}
use Rattle.smbd_laws.proofs.Sending.{pieces_carried, carried-more, later_frames, speaks}
use Rattle.smbd_laws.proofs.Settling.{Settles, settles, settles_within}
use Rattle.smbd_laws.proofs.Submitting.{pieces_submitted, submitted_some, size_of, size_some}
use Rattle.smbd_laws.proofs.Splitting.{split_front}

-- ---- the pieces that were taken

and_piece_is : (pieces : List Piece) (o : Option Piece) → and_piece pieces o ≡ pieces ++ option_to_list o
and_piece_is pieces None = sym (append-nil pieces)
and_piece_is pieces (Some p) = refl

-- with one frame more, which was not refused
carried_with : (side : EndId) (limits : Limits) (past : List Event) (f : List ℕ) (frames : List (List ℕ)) (pieces : List Piece) → pieces ≡ pieces_carried (later_frames frames)
    → is_unheard past ≡ is_empty frames → take_fault side limits past f ≡ None → and_piece pieces (piece_brought side limits past f) ≡ pieces_carried (later_frames (frames ++ f ∷ []))
carried_with side limits past f [] pieces is unheard accepted =
    ap (λ (o : Option Piece). and_piece pieces o) (brought-first side limits past f unheard) ∙ is
carried_with side limits past f (g ∷ frames) pieces is unheard accepted =
    ap (λ (o : Option Piece). and_piece pieces o) (brought-later side limits past f unheard accepted)
    ∙ and_piece_is pieces (piece_in (data_frame_of f)) ∙ ap (λ (ps : List Piece). ps ++ option_to_list (piece_in (data_frame_of f))) is
    ∙ sym (carried-more frames f)

-- where no frame was refused, they are all that the frames after the negotiation message carry
pub taken_carried : (side : EndId) (limits : Limits) (past : List Event) → AreAccepted side limits past → pieces_taken side limits past ≡ pieces_carried (later_frames (taken_frames past))
taken_carried side limits [] accepted = refl
taken_carried side limits (Post n ∷ past) accepted = taken_carried side limits past accepted
taken_carried side limits (Submit m ∷ past) accepted = taken_carried side limits past accepted
taken_carried side limits (Emit f ∷ past) accepted = taken_carried side limits past accepted
taken_carried side limits (Take f ∷ past) accepted =
    carried_with side limits past f (taken_frames past) (pieces_taken side limits past) (taken_carried side limits past accepted.1) (unheard_is past) accepted.0
taken_carried side limits (Cut ∷ past) accepted = taken_carried side limits past accepted

-- the first frames carry the first pieces
carried_front : (front more : List (List ℕ)) → IsPrefix (pieces_carried (later_frames front)) (pieces_carried (later_frames (front ++ more)))
carried_front [] more = (pieces_carried (later_frames more), refl)
carried_front (f ∷ front) more = (pieces_carried more, sym (flat_map-append (λ (g : List ℕ). option_to_list (piece_in (data_frame_of g))) front more))

-- ---- of two ends

-- where an end took the first of a sender's frames, it took the first of the pieces that were sent
pub taken_front : (x : EndId) (own other : Limits) (taker sender : List Event) (agreed : Agreed) → IsLawful other → IsLegal (peer_of x) other sender
    → Settles (peer_of x) other sender agreed → AreAccepted x own taker → IsPrefix (taken_frames taker) (emitted_frames sender)
    → IsPrefix (pieces_taken x own taker) (take (pieces_sent sender) (pieces_submitted (size_of agreed) sender))
taken_front x own other taker sender agreed lawful legal s accepted front =
    let k = carried_front (taken_frames taker) front.0 in (
      k.0,
      ap (λ (ps : List Piece). ps ++ k.0) (taken_carried x own taker accepted) ∙ k.1
          ∙ ap (λ (fs : List (List ℕ)). pieces_carried (later_frames fs)) front.1 ∙ (speaks (peer_of x) other sender agreed lawful legal s).carried,
    )

-- an end delivers the front of what a sender submitted whose frames it took
delivered_settled : (x : EndId) (own other : Limits) (taker sender : List Event) (agreed : Agreed) → IsLawful other → IsLegal (peer_of x) other sender
    → Settles (peer_of x) other sender agreed → AreAccepted x own taker → IsPrefix (taken_frames taker) (emitted_frames sender)
    → IsPrefix (messages_delivered x own taker) (messages_submitted sender)
delivered_settled x own other taker sender agreed lawful legal s accepted front =
    let all = pieces_submitted (size_of agreed) sender in
    let k = taken_front x own other taker sender agreed lawful legal s accepted front in
    let is : pieces_taken x own taker ++ (k.0 ++ drop (pieces_sent sender) all) ≡ all =
    sym (append_assoc (pieces_taken x own taker) k.0 (drop (pieces_sent sender) all)) ∙ ap (λ (ps : List Piece). ps ++ drop (pieces_sent sender) all) k.1
    ∙ take-append-drop (pieces_sent sender) all in
    let size = size_some (peer_of x) other sender agreed s in
    let h = gathers x own taker in
    split_front (pieces_taken x own taker) (k.0 ++ drop (pieces_sent sender) all) all (messages_delivered x own taker) (messages_submitted sender)
    h.rest [] (bytes_expected x own taker) 0 (filled_each (size_of agreed) (messages_submitted sender) size) h.is.splits
    (splits_each (size_of agreed) (messages_submitted sender) size (submitted_some (peer_of x) other sender legal)) is

-- whatever the sender took, as long as its peer's MaxFragmentedSize fits its field
pub delivered_front : (x : EndId) (own other : Limits) (taker sender : List Event) → IsLawful own → IsLawful other → IsLegal (peer_of x) other sender → AreAccepted x own taker
    → IsPrefix (taken_frames taker) (emitted_frames sender) → (settled (peer_of x) other sender).message_max < 4294967296
    → IsPrefix (messages_delivered x own taker) (messages_submitted sender)
delivered_front x own other taker sender lawful peer legal accepted front small =
    let s = settles (peer_of x) other sender peer small in
    delivered_settled x own other taker sender s.0 peer legal s.1 accepted front

-- two ends that took what the other sent
pub delivered_both : (x : EndId) (own other : Limits) (taker sender : List Event) → IsLawful own → IsLawful other → IsLegal x own taker → IsLegal (peer_of x) other sender
    → AreAccepted x own taker → IsPrefix (taken_frames taker) (emitted_frames sender) → IsPrefix (taken_frames sender) (emitted_frames taker)
    → IsPrefix (messages_delivered x own taker) (messages_submitted sender)
delivered_both x own other taker sender lawful peer following legal accepted front back =
    let s = settles_within x own other taker sender lawful peer following back in
    delivered_settled x own other taker sender s.agreed peer legal s.settles accepted front

pub server_delivers : (client_limits server_limits : Limits) (client server : List Event) → IsLawful client_limits → IsLawful server_limits
    → AreLinked client_limits server_limits client server → IsPrefix (messages_delivered Server server_limits server) (messages_submitted client)
server_delivers client_limits server_limits client server lawful peer j =
    delivered_both Server server_limits client_limits server client peer lawful j.server_legal j.client_legal j.server_accepted j.to_server j.to_client

pub client_delivers : (client_limits server_limits : Limits) (client server : List Event) → IsLawful client_limits → IsLawful server_limits
    → AreLinked client_limits server_limits client server → IsPrefix (messages_delivered Client client_limits client) (messages_submitted server)
client_delivers client_limits server_limits client server lawful peer j =
    delivered_both Client client_limits server_limits client server lawful peer j.client_legal j.server_legal j.client_accepted j.to_client j.to_server
