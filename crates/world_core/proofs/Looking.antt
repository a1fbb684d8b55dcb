-- How far an end has looked through its peer's history, and the next frame in flight to it.
use Rattle.std.proofs.Common.{◌≡◌, ℕ, suc, ◌+◌, ◌<◌, Bool, true, false, Some, None, List, [], ◌∷◌, ◌++◌, length, take, drop, reverse, slice_get, refl, ap, sym, ◌∙◌, append-nil, append_assoc, length-append, arith}
use Rattle.std.proofs.lemmas.List.{drop_at, take_more, take-append-drop, reverse-append, reverse-reverse, length-reverse, append_cancel_left}
use Rattle.std.proofs.lemmas.Option.{slice_get_within, get_or_from_slice_get}
use Rattle.smbd_base.specs.declared.event.Event.{Event}
use Rattle.smbd_base.specs.declared.event.Event.TheVariants.{Post, Submit, Emit, Take, Cut}
use Rattle.smbd_base.specs.declared.end_id.EndId.{EndId}
use Rattle.smbd_base.specs.Counts.{peer_of}
use Rattle.smbd_base.specs.Delivery.{message_brought}
use Rattle.smbd_base.specs.History.{is_ready}
use Rattle.smbd_base.specs.Joint.{emitted_frames, taken_frames}
use Rattle.connection_core.specs.Shown.{Shown}
use Rattle.joint_laws.specs.Growth.{IsNextFrame}
use Rattle.world_core.specs.Attached.{Attached, linked_to, attached_after, HasLooked, IsToldOf}
use Rattle.world_core.specs.Linked.{carried, still_undelivered}
use Rattle.world_core.specs.Met.{Met, history_at}

-- ---- the events that are looked through

pub one_more : (history : List Event) (n : ℕ) (event : Event) → slice_get history n ≡ Some event → reverse (take (n + 1) history) ≡ event ∷ reverse (take n history)
one_more history n event at =
    ap (λ (es : List Event). reverse es) (take_more history n event (slice_get_within history n event at))
    ∙ ap (λ (e : Event). reverse (take n history ++ e ∷ [])) (get_or_from_slice_get history n event event at)
    ∙ reverse-append (take n history) (event ∷ [])

emitted-append : (newer older : List Event) → emitted_frames (newer ++ older) ≡ emitted_frames older ++ emitted_frames newer
emitted-append [] older = sym (append-nil (emitted_frames older))
emitted-append (Post n ∷ newer) older = emitted-append newer older
emitted-append (Submit m ∷ newer) older = emitted-append newer older
emitted-append (Emit f ∷ newer) older =
    ap (λ (fs : List (List ℕ)). fs ++ f ∷ []) (emitted-append newer older) ∙ append_assoc (emitted_frames older) (emitted_frames newer) (f ∷ [])
emitted-append (Take f ∷ newer) older = emitted-append newer older
emitted-append (Cut ∷ newer) older = emitted-append newer older

-- ---- the next frame

-- the first Emit after the events that were looked through has sent it
pub next_is : (own peer history : List Event) (n : ℕ) (frame : List ℕ) → reverse history ≡ peer → slice_get history n ≡ Some (Emit frame)
    → emitted_frames (reverse (take n history)) ≡ taken_frames own → IsNextFrame frame own peer
next_is own peer history n frame is at looked =
    let newer : List Event = reverse (drop (n + 1) history) in
    let older : List Event = reverse (take (n + 1) history) in
    record {
      later = emitted_frames newer;
      sent = ap emitted_frames (sym is)
          ∙ ap (λ (es : List Event). emitted_frames (reverse es)) (sym (take-append-drop (n + 1) history))
          ∙ ap emitted_frames (reverse-append (take (n + 1) history) (drop (n + 1) history))
          ∙ emitted-append newer older
          ∙ ap (λ (es : List Event). emitted_frames es ++ emitted_frames newer) (one_more history n (Emit frame) at)
          ∙ ap (λ (fs : List (List ℕ)). (fs ++ frame ∷ []) ++ emitted_frames newer) looked
          ∙ append_assoc (taken_frames own) (frame ∷ []) (emitted_frames newer);
    }

-- ---- the end's own place

looked_as : (own : Attached) (peer history : List Event) → reverse history ≡ peer → HasLooked own peer → emitted_frames (reverse (take own.looked history)) ≡ taken_frames own.past
looked_as own peer history is h =
    let same : history ≡ reverse peer = sym (reverse-reverse history) ∙ ap (λ (es : List Event). reverse es) is in
    ap (λ (es : List Event). emitted_frames (reverse (take own.looked es))) same ∙ h.taken

-- what is known of an end that has found the next frame, which its peer's event of this number sent
pub record HasFound (own : Attached) (peer history : List Event) (n : ℕ) (frame : List ℕ) : Type 0 where
  pub history_is : reverse history ≡ peer
  pub at : slice_get history n ≡ Some (Emit frame)
  pub looked : emitted_frames (reverse (take n history)) ≡ taken_frames own.past

pub found : (own : Attached) (peer history : List Event) (before n : ℕ) (frame : List ℕ) → reverse history ≡ peer → HasLooked own peer → before ≡ own.looked
    → emitted_frames (reverse (take n history)) ≡ emitted_frames (reverse (take before history)) → slice_get history n ≡ Some (Emit frame) → HasFound own peer history n frame
found own peer history before n frame is h from same at = record {
  history_is = is;
  at = at;
  looked = same ∙ ap (λ (k : ℕ). emitted_frames (reverse (take k history))) from ∙ looked_as own peer history is h;
}

module _ (own peer : Attached) (history : List Event) (n : ℕ) (frame : List ℕ) (h : HasFound own peer.past history n frame) where
  pub next : IsNextFrame frame own.past peer.past
  next = next_is own.past peer.past history n frame h.history_is h.at h.looked

  -- it is the oldest one in flight
  pub oldest : (linked_to own peer).arriving ≡ frame ∷ next.later
  oldest =
      ap (λ (fs : List (List ℕ)). drop (length (taken_frames own.past)) fs) next.sent
      ∙ drop_at (taken_frames own.past) (frame ∷ next.later) (length (taken_frames own.past)) refl

  pub carried_is : (link_cut : Bool) → is_ready own.side own.limits own.past ≡ true → link_cut ≡ false → carried link_cut (linked_to own peer) ≡ Some (Take frame)
  carried_is link_cut ready whole = rw (ready, whole, oldest) refl

  -- on the link too
  pub flies : (link : Met) (side : EndId) → side ≡ own.side → peer.side ≡ peer_of own.side → IsToldOf link own → IsToldOf link peer
      → length (taken_frames (history_at side link)) < length (emitted_frames (history_at (peer_of side) link))
  flies link side is sides told peer_told =
      let here : history_at side link ≡ own.past = ap (λ (x : EndId). history_at x link) is ∙ told.past in
      let there : history_at (peer_of side) link ≡ peer.past =
      ap (λ (x : EndId). history_at (peer_of x) link) is ∙ ap (λ (x : EndId). history_at x link) (sym sides) ∙ peer_told.past in
      let long : length (emitted_frames peer.past) ≡ length (taken_frames own.past) + suc (length next.later) =
      ap (λ (fs : List (List ℕ)). length fs) next.sent ∙ length-append (taken_frames own.past) (frame ∷ next.later) in
      rw (here, there) (omega arith)

  -- once it is taken, the end has looked through its Emit too
  pub looked_on : HasLooked (record (attached_after own (Some (Take frame))) { looked = n + 1 }) peer.past
  looked_on =
      let same : reverse peer.past ≡ history = ap (λ (es : List Event). reverse es) (sym h.history_is) ∙ reverse-reverse history in
      let long : length history ≡ length peer.past = sym (length-reverse history) ∙ ap (λ (es : List Event). length es) h.history_is in
      let low = slice_get_within history n (Emit frame) h.at in
      record {
        within = omega arith;
        taken = ap (λ (es : List Event). emitted_frames (reverse (take (n + 1) es))) same ∙ ap emitted_frames (one_more history n (Emit frame) h.at)
            ∙ ap (λ (fs : List (List ℕ)). fs ++ frame ∷ []) h.looked;
      }

-- an end that has taken a frame, and the message that this ended
pub took : (own : Attached) (end after : Shown) (left left' : List (List ℕ)) (before n : ℕ) (frame first : List ℕ)
    → record { side = end.side; limits = end.limits; past = end.past; looked = before; undelivered = left } ≡ own → frame ≡ first
    → after ≡ record end { past = Take frame ∷ end.past; prepared = None } → left' ≡ still_undelivered (message_brought end.side end.limits end.past frame) left
    → record { side = after.side; limits = after.limits; past = after.past; looked = n; undelivered = left' } ≡ record (attached_after own (Some (Take first))) { looked = n }
took own end after left left' before n frame first view same added left_is =
    (λ i. record { side = (added i).side; limits = (added i).limits; past = (added i).past; looked = n; undelivered = left_is i })
    ∙ ap (λ (f : List ℕ). record (attached_after record { side = end.side; limits = end.limits; past = end.past; looked = before; undelivered = left } (Some (Take f))) { looked = n }) same
    ∙ ap (λ (a : Attached). record (attached_after a (Some (Take first))) { looked = n }) view
