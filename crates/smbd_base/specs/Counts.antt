-- The counts of a history (MS-SMBD 3.1.1: send credits, receive credits, and what the peer was granted).
-- A past is a list of events, the newest one first.
use Rattle.std.specs.Prelude.{ℕ, ◌+◌, ◌-◌, ◌==◌, min, Bool, true, false, ◌||◌, List, [], ◌∷◌, if◌then◌else◌}
use Rattle.smbd_base.specs.declared.end_id.EndId.{EndId}
use Rattle.smbd_base.specs.declared.end_id.EndId.TheVariants.{Client, Server}
use Rattle.smbd_base.specs.declared.event.Event.{Event}
use Rattle.smbd_base.specs.declared.event.Event.TheVariants.{Post, Submit, Emit, Take, Cut}
use Rattle.smbd_base.specs.Grant.{credits_in}

-- the other end
abbrev pub peer_of : EndId → EndId
peer_of Client = Server
peer_of Server = Client

-- the receives that were posted
abbrev pub receives_posted : List Event → ℕ
receives_posted [] = 0
receives_posted (Post n ∷ past) = receives_posted past + n
receives_posted (Submit m ∷ past) = receives_posted past
receives_posted (Emit f ∷ past) = receives_posted past
receives_posted (Take f ∷ past) = receives_posted past
receives_posted (Cut ∷ past) = receives_posted past

-- the frames that were sent, each of which spent a credit
abbrev pub frames_sent : List Event → ℕ
frames_sent [] = 0
frames_sent (Post n ∷ past) = frames_sent past
frames_sent (Submit m ∷ past) = frames_sent past
frames_sent (Emit f ∷ past) = frames_sent past + 1
frames_sent (Take f ∷ past) = frames_sent past
frames_sent (Cut ∷ past) = frames_sent past

-- no frame was sent yet
abbrev pub is_silent : List Event → Bool
is_silent [] = true
is_silent (Post n ∷ past) = is_silent past
is_silent (Submit m ∷ past) = is_silent past
is_silent (Emit f ∷ past) = false
is_silent (Take f ∷ past) = is_silent past
is_silent (Cut ∷ past) = is_silent past

-- no frame was taken yet
abbrev pub is_unheard : List Event → Bool
is_unheard [] = true
is_unheard (Post n ∷ past) = is_unheard past
is_unheard (Submit m ∷ past) = is_unheard past
is_unheard (Emit f ∷ past) = is_unheard past
is_unheard (Take f ∷ past) = false
is_unheard (Cut ∷ past) = is_unheard past

-- one credit for the negotiation, and those that the sent frames granted to the peer
abbrev pub credits_granted : EndId → List Event → ℕ
credits_granted side [] = 1
credits_granted side (Post n ∷ past) = credits_granted side past
credits_granted side (Submit m ∷ past) = credits_granted side past
credits_granted side (Emit f ∷ past) = credits_granted side past + credits_in side (is_silent past) f
credits_granted side (Take f ∷ past) = credits_granted side past
credits_granted side (Cut ∷ past) = credits_granted side past

-- a client takes no frame before it has sent its request
abbrev pub is_early : EndId → List Event → Bool
is_early Client past = is_silent past
is_early Server past = false

-- the frames that were taken, each of which used a receive; one that came out of turn does not count
abbrev pub frames_taken : EndId → List Event → ℕ
frames_taken side [] = 0
frames_taken side (Post n ∷ past) = frames_taken side past
frames_taken side (Submit m ∷ past) = frames_taken side past
frames_taken side (Emit f ∷ past) = frames_taken side past
frames_taken side (Take f ∷ past) =
    if is_early side past || credits_granted side past - frames_taken side past == 0
    then frames_taken side past else frames_taken side past + 1
frames_taken side (Cut ∷ past) = frames_taken side past

-- the credits that the peer was granted, and has not used with a frame that was taken
abbrev pub receives_outstanding : EndId → List Event → ℕ
receives_outstanding side past = credits_granted side past - frames_taken side past

-- the receives that are posted, and not yet granted to the peer
abbrev pub receives_grantable : EndId → List Event → ℕ
receives_grantable side past = receives_posted past - credits_granted side past

-- the next frame comes when none may come
abbrev pub is_out_of_turn : EndId → List Event → Bool
is_out_of_turn side past = is_early side past || receives_outstanding side past == 0

-- one credit for the negotiation, and those that the taken frames granted
abbrev pub credits_earned : EndId → List Event → ℕ
credits_earned side [] = 1
credits_earned side (Post n ∷ past) = credits_earned side past
credits_earned side (Submit m ∷ past) = credits_earned side past
credits_earned side (Emit f ∷ past) = credits_earned side past
credits_earned side (Take f ∷ past) =
    if is_out_of_turn side past then credits_earned side past
    else credits_earned side past + credits_in (peer_of side) (is_unheard past) f
credits_earned side (Cut ∷ past) = credits_earned side past

-- the credits with which the end may send: a sent frame spends one, and a taken frame adds what it grants, up to 65,535
abbrev pub credits_held : EndId → List Event → ℕ
credits_held side [] = 1
credits_held side (Post n ∷ past) = credits_held side past
credits_held side (Submit m ∷ past) = credits_held side past
credits_held side (Emit f ∷ past) = credits_held side past - 1
credits_held side (Take f ∷ past) =
    if is_out_of_turn side past then credits_held side past
    else min 65535 (credits_held side past + credits_in (peer_of side) (is_unheard past) f)
credits_held side (Cut ∷ past) = credits_held side past
