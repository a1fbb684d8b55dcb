-- What holds of the words, the slots and the views of the seats at a link, between any two steps.
use Rattle.std.specs.Prelude.{◌≡◌, ◌≢◌, ℕ, ◌+◌, ◌%◌, ◌<◌, ◌≤◌, Bool, true, false, ◌||◌, if◌then◌else◌, List, [], ◌∷◌, length, Option, Some}
use Rattle.std.specs.List.{slice_get}
use mathlib.Core.Option.{some}
use mathlib.Core.Option as maybe
use lib.ListN.{get_elem?}
use Rattle.atomic_table.specs.Table.{State, Me}
use Rattle.smbd_base.specs.declared.end_id.EndId.{EndId}
use Rattle.smbd_base.specs.declared.end_id.EndId.TheVariants.{Client, Server}
use Rattle.smbd_base.specs.declared.event.Event.{Event}
use Rattle.smbd_base.specs.declared.event.Event.TheVariants.{Post}
use Rattle.smbd_base.specs.Limits.{Limits, IsLawful, usual_limits}
use Rattle.smbd_base.specs.Counts.{peer_of, receives_posted}
use Rattle.smbd_base.specs.History.{is_cut}
use Rattle.smbd_base.specs.Joint.{emitted_frames, taken_frames}
use Rattle.joint_laws.specs.Halves.{IsBeside, AreCreditsLeft}
use Rattle.sim_adapter.specs.declared.view.Ends.{Ends}
use Rattle.sim_adapter.specs.declared.view.Turn.{Turn}
use Rattle.sim_adapter.specs.declared.view.Turn.TheVariants.{Free, Emits, Takes}
use Rattle.sim_adapter.specs.declared.view.EndView.{EndView}
use Rattle.sim_adapter.specs.declared.view.View.{View}
use Rattle.sim_adapter.specs.declared.view.View.TheVariants.{Spent, One, Both}

-- a slot has a frame, or none
abbrev pub Slot : Type 0
Slot = Option (List ℕ)

-- what a seat knows, and the slots that it has out
abbrev pub Sat : Type 0
Sat = Me Slot View

abbrev pub Desk : Type 0
Desk = State Slot View

abbrev pub limits_of : Ends → EndId → Limits
limits_of k Client = k.client
limits_of k Server = k.server

-- a history has fewer than 2 ^ 62 events
abbrev pub IsShort : List Event → Type 0
IsShort past = length past < 4611686018427387904

-- and with one event more
abbrev pub MayGrow : List Event → Type 0
MayGrow past = length past + 1 < 4611686018427387904

-- ---- the slots

-- how many slots the frames of an end have: as many as its peer has credits
abbrev pub room : Ends → EndId → ℕ
room k side = (limits_of k (peer_of side)).credits

-- the first of them
abbrev pub base : Ends → EndId → ℕ
base k Client = 0
base k Server = k.server.credits

-- the slot of the frame that comes after so many frames of the end
abbrev pub place : Ends → EndId → ℕ → ℕ
place k side count = base k side + count % room k side

abbrev pub is_emitting : Turn → Bool
is_emitting Free = false
is_emitting Emits = true
is_emitting (Takes f) = false

abbrev pub is_taking : Turn → Bool
is_taking Free = false
is_taking Emits = false
is_taking (Takes f) = true

-- The slots of one direction, from `first` on, of which the first `gone` frames were taken: each frame that was sent and not
-- taken has one, and the others are empty. Those that a turn has out, that of the next frame to be sent or to be taken, are
-- left out.
abbrev pub Lies : ℕ → ℕ → List (maybe.Option Slot) → List (List ℕ) → ℕ → Bool → Bool → Type 0
Lies first n homes frames gone out_back out_front = (i : ℕ) → gone ≤ i → i < gone + n → (out_back ≡ true → i ≢ length frames) → (out_front ≡ true → i ≢ gone)
    → get_elem? homes (first + i % n) ≡ some (some (slice_get frames i))

-- the frame of a turn at taking is the next one of the peer's
abbrev pub IsNext : Turn → List (List ℕ) → ℕ → Type 0
IsNext Free frames gone = Unit {0}
IsNext Emits frames gone = Unit {0}
IsNext (Takes f) frames gone = slice_get frames gone ≡ Some f

-- ---- the words

abbrev pub cut_count : Bool → ℕ
cut_count cut = if cut then 1 else 0

-- whether the link is cut, and the counts of the client and of the server
abbrev pub words_of : List Event → List Event → List ℕ
words_of client server =
    cut_count (is_cut client || is_cut server)
    ∷ receives_posted client ∷ length (emitted_frames client) ∷ length (taken_frames client)
    ∷ receives_posted server ∷ length (emitted_frames server) ∷ length (taken_frames server) ∷ []

abbrev pub words_by : EndId → List Event → List Event → List ℕ
words_by Client own peer = words_of own peer
words_by Server own peer = words_of peer own

abbrev pub posted_word : EndId → ℕ
posted_word Client = 1
posted_word Server = 4

abbrev pub emitted_word : EndId → ℕ
emitted_word Client = 2
emitted_word Server = 5

abbrev pub taken_word : EndId → ℕ
taken_word Client = 3
taken_word Server = 6

-- ---- the ends

-- the view is that of this end, whose limits are lawful
abbrev pub IsEnd : Ends → EndId → EndView → Type 0
IsEnd k side own = (own.side ≡ side) × (own.ends ≡ k) × IsLawful (limits_of k side)

-- where an end was told that the link is cut, its peer cut it, and was never told so
abbrev pub IsToldRightly : EndView → EndView → Type 0
IsToldRightly own peer = own.told_cut ≡ true → (is_cut peer.past ≡ true) × (peer.told_cut ≡ false)

-- what holds of one end, beside the other one
pub record Half (k : Ends) (side : EndId) (own peer : EndView) (homes : List (maybe.Option Slot)) : Type 0 where
  pub known : IsEnd k side own
  pub beside : IsBeside side (limits_of k side) own.past peer.past
  pub lies : Lies (base k side) (room k side) homes (emitted_frames own.past) (length (taken_frames peer.past)) (is_emitting own.turn) (is_taking peer.turn)
  pub next : IsNext own.turn (emitted_frames peer.past) (length (taken_frames own.past))
  pub seen : own.seen ≤ length (emitted_frames peer.past)
  pub told : IsToldRightly own peer
  pub short : IsShort own.past

-- the words and slots are those of both ends
pub record Pair (k : Ends) (side : EndId) (own peer : EndView) (words : List ℕ) (homes : List (maybe.Option Slot)) : Type 0 where
  pub mine : Half k side own peer homes
  pub theirs : Half k (peer_of side) peer own homes
  pub left : AreCreditsLeft side own.past peer.past
  pub words_are : words ≡ words_by side own.past peer.past
  pub slots : length homes ≡ k.client.credits + k.server.credits

-- ---- the seats

-- all seats but this one are spent
abbrev pub Alone : List View → ℕ → View → Type 0
Alone views i v = (get_elem? views i ≡ some v) × ((j : ℕ) (u : View) → get_elem? views j ≡ some u → j ≢ i → u ≡ Spent)

-- all seats but two are spent, each of which has an end
pub record Apart (views : List View) (i : ℕ) (own peer : EndView) : Type 0 where
  pub j : ℕ
  pub apart : j ≢ i
  pub here : get_elem? views i ≡ some (One own)
  pub there : get_elem? views j ≡ some (One peer)
  pub others : (n : ℕ) (u : View) → get_elem? views n ≡ some u → n ≢ i → n ≢ j → u ≡ Spent

-- two seats have the client and the server, or one has both
pub data Cast (views : List View) (client server : EndView) : Type 0 where
  apart : (i : ℕ) → Apart views i client server → Cast views client server
  together : (i : ℕ) → Alone views i (Both client server) → Cast views client server

pub record Orderly (k : Ends) (s : Desk) : Type 0 where
  pub client : EndView
  pub server : EndView
  pub cast : Cast s.views client server
  pub pair : Pair k Client client server s.words s.homes

-- the view of an end that was just opened
abbrev pub opened : Ends → EndId → EndView
opened k side = record { side = side; ends = k; past = Post (limits_of k side).credits ∷ []; seen = 0; looks = 0; told_cut = false; turn = Free }

abbrev pub opening_view : Ends → View
opening_view k = Both (opened k Client) (opened k Server)

abbrev pub left_end : View → View
left_end Spent = Spent
left_end (One e) = One e
left_end (Both client server) = One client

abbrev pub right_end : View → View
right_end Spent = Spent
right_end (One e) = Spent
right_end (Both client server) = One server

-- the end of a seat that has one alone
abbrev pub end_of : View → EndView
end_of Spent = opened (record { client = usual_limits; server = usual_limits }) Client
end_of (One e) = e
end_of (Both client server) = client

-- a seat with an end that has no turn, and whose counts are these
abbrev pub Rests : EndId → ℕ → ℕ → Sat → Type 0
Rests side sent gone m = (m ≡ (One (end_of m.0), [])) × ((end_of m.0).side ≡ side) × ((end_of m.0).turn ≡ Free)
    × (sent ≡ length (emitted_frames (end_of m.0).past)) × (gone ≡ length (taken_frames (end_of m.0).past))
