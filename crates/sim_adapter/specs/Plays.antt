-- What each kind of step tells: of the step, the seat before, the number found and the seat after.
use Rattle.std.specs.Prelude.{◌+◌, ◌≡◌, ◌≢◌, ℕ, ◌≤◌, true, List, [], ◌∷◌, length, Some, None}
use mathlib.Core.List.{IsPrefix}
use Rattle.atomic_table.specs.Table.{Step}
use Rattle.smbd_base.specs.declared.end_id.EndId.TheVariants.{Client, Server}
use Rattle.smbd_base.specs.declared.event.Event.{Event}
use Rattle.smbd_base.specs.declared.event.Event.TheVariants.{Post, Submit, Emit, Take, Cut}
use Rattle.smbd_base.specs.Counts.{peer_of}
use Rattle.smbd_base.specs.Delivery.{messages_delivered}
use Rattle.smbd_base.specs.History.{messages_submitted, IsLegal}
use Rattle.smbd_base.specs.Joint.{AreAccepted, AreJoint, emitted_frames, taken_frames}
use Rattle.sim_adapter.specs.declared.view.Ends.{Ends}
use Rattle.sim_adapter.specs.declared.view.Turn.{Turn}
use Rattle.sim_adapter.specs.declared.view.Turn.TheVariants.{Free, Emits, Takes}
use Rattle.sim_adapter.specs.declared.view.EndView.{EndView}
use Rattle.sim_adapter.specs.declared.view.View.{View}
use Rattle.sim_adapter.specs.declared.view.View.TheVariants.{Spent, One, Both}
use Rattle.sim_adapter.specs.Rule.{Slot, Sat, place, end_of, limits_of, IsToldRightly}

abbrev pub Told : Type 1
Told = Step Slot → Sat → ℕ → Sat → Type 0

-- ---- what an end knows after a step

-- with one event more
abbrev pub with_event : EndView → Event → EndView
with_event e event = record e { past = event ∷ e.past }

-- a look showed that the link is cut
abbrev pub was_cut : EndView → EndView
was_cut e = record e { told_cut = true; looks = e.looks + 1 }

-- a look showed that the peer has sent so many frames
abbrev pub saw : EndView → ℕ → EndView
saw e n = record e { seen = n; looks = e.looks + 1 }

-- a meeting showed so
abbrev pub learned : EndView → ℕ → EndView
learned e n = record e { seen = n }

-- it has the turn at a slot
abbrev pub at_turn : EndView → Turn → EndView
at_turn e t = record e { turn = t }

-- the turn ends as a frame counts as sent, or as taken
abbrev pub emits : EndView → List ℕ → EndView
emits e f = record e { past = Emit f ∷ e.past; turn = Free }

abbrev pub takes_frame : EndView → List ℕ → EndView
takes_frame e f = record e { past = Take f ∷ e.past; turn = Free }

-- the slot of the next frame that the end sends, and of the next one that it takes
abbrev pub back : EndView → ℕ
back e = place e.ends e.side (length (emitted_frames e.past))

abbrev pub front : EndView → ℕ
front e = place e.ends (peer_of e.side) (length (taken_frames e.past))

-- the frame in the slot that was taken last
abbrev pub frame_of : Slot → List ℕ
frame_of None = []
frame_of (Some f) = f

abbrev pub carried_frame : List (ℕ × Slot) → List ℕ
carried_frame [] = []
carried_frame (x ∷ xs) = frame_of x.1

-- the frame of a turn at taking
abbrev pub turn_frame : Turn → List ℕ
turn_frame Free = []
turn_frame Emits = []
turn_frame (Takes f) = f

-- ---- sending

-- an end that finds the link whole has the empty slot of its next frame out
abbrev pub emit_looked : Told
emit_looked st m r n =
    (r ≡ 0 → n ≡ (One (at_turn (end_of m.0) Emits), (back (end_of m.0), None) ∷ []))
    × (r ≢ 0 → n ≡ (One (was_cut (end_of m.0)), []))

abbrev pub published : Told
published st m r n = n ≡ (One (emits (end_of m.0) (carried_frame m.1)), [])

-- ---- taking

abbrev pub cut_looked : Told
cut_looked st m r n = (r ≡ 0 → n ≡ m) × (r ≢ 0 → n ≡ (One (was_cut (end_of m.0)), []))

-- an end that finds another number than it took has the slot of its peer's next frame out
abbrev pub peer_looked : Told
peer_looked st m r n =
    ((end_of m.0).seen ≤ r)
    × (r ≡ length (taken_frames (end_of m.0).past) → n ≡ (One (saw (end_of m.0) r), []))
    × (r ≢ length (taken_frames (end_of m.0).past) → (f : List ℕ) × (n ≡ (One (at_turn (saw (end_of m.0) r) (Takes f)), (front (end_of m.0), Some f) ∷ [])))

-- the end's history with this Take is legal, and the frame is not refused
abbrev pub TakesWell : EndView → List ℕ → Type 0
TakesWell e f = IsLegal e.side (limits_of e.ends e.side) (Take f ∷ e.past) × AreAccepted e.side (limits_of e.ends e.side) (Take f ∷ e.past)

abbrev pub retired : Told
retired st m r n = (n ≡ (One (takes_frame (end_of m.0) (turn_frame (end_of m.0).turn)), [])) × TakesWell (end_of m.0) (turn_frame (end_of m.0).turn)

-- ---- the other events

abbrev pub posts : Told
posts st m r n = n ≡ (One (with_event (end_of m.0) (Post st.first)), [])

abbrev pub submits : List ℕ → Told
submits message st m r n = n ≡ (One (with_event (end_of m.0) (Submit message)), [])

abbrev pub cuts : Told
cuts st m r n = n ≡ (One (with_event (end_of m.0) Cut), [])

-- ---- meeting

-- two ends in one view
abbrev pub beside : EndView → View → View
beside c Spent = One c
beside c (One d) = Both c d
beside c (Both d e) = One c

abbrev pub united : View → View → View
united Spent w = w
united (One c) w = beside c w
united (Both c d) w = Both c d

-- each end has seen all that the other sent
abbrev pub met_view : View → View
met_view Spent = Spent
met_view (One e) = One e
met_view (Both c d) = Both (learned c (length (emitted_frames d.past))) (learned d (length (emitted_frames c.past)))

-- the histories of a client and a server fit together, and each end delivered the first of the messages that the other
-- submitted
pub record FitTogether (k : Ends) (client server : List Event) : Type 0 where
  pub joint : AreJoint k.client k.server client server
  pub to_server : IsPrefix (messages_delivered Server k.server server) (messages_submitted client)
  pub to_client : IsPrefix (messages_delivered Client k.client client) (messages_submitted server)

-- So it is with two ends that meet. Where one of them was told that the link is cut, the other cut it, and was never told so.
pub record AreMet (client server : EndView) : Type 0 where
  pub ends : client.ends ≡ server.ends
  pub fit : FitTogether client.ends client.past server.past
  pub client_cut : IsToldRightly client server
  pub server_cut : IsToldRightly server client

abbrev pub ViewsFit : View → Type 0
ViewsFit Spent = Unit {0}
ViewsFit (One e) = Unit {0}
ViewsFit (Both c d) = AreMet c d

abbrev pub met : Told
met st m r n = (n ≡ (met_view m.0, m.1)) × ViewsFit (met_view m.0)
