-- Worked histories of one end at the bounds of its rules, and which of two faults comes first, found by computation.
use Rattle.std.specs.Prelude.{◌≡◌, ℕ, true, false, Some, None, Err, List, [], ◌∷◌, ◌++◌, replicate, take}
use Rattle.smbd_base.specs.declared.end_id.EndId.TheVariants.{Client, Server}
use Rattle.smbd_base.specs.declared.event.Event.TheVariants.{Post, Emit, Take}
use Rattle.smbd_base.specs.declared.next.Next.TheVariants as due
use Rattle.smbd_base.specs.declared.faults.Broken.TheVariants as broken
use Rattle.smbd_base.specs.declared.faults.FrameFault.TheVariants as frames
use Rattle.smbd_base.specs.declared.faults.NegotiateFault.TheVariants as negotiation
use Rattle.smbd_base.specs.declared.faults.TakeFault.TheVariants as faults
use Rattle.smbd_base.specs.Limits.{usual_limits}
use Rattle.smbd_base.specs.DataFrame.{data_frame_of, frame_bytes}
use Rattle.smbd_base.specs.NegotiateMessages.{request_fault, response_fault}
use Rattle.smbd_base.specs.Pieces.{gather_fault}
use Rattle.smbd_base.specs.History.{next_event, take_fault, bytes_expected, is_response_owed, sends}
use Rattle.smbd_base.specs.Delivery.{messages_delivered}
use Rattle.smbd_base.specs.Worked.{request, response, refusing_frame, abc, abc_frame, agreed_client, agreed_server, three, three_server, two_sent, first_frame, third_frame, empty_frame, then_taken, with_u16, with_u32}

-- a data transfer message with so many bytes of payload, after 24
abbrev pub filled_frame : ℕ → List ℕ
filled_frame len = frame_bytes 255 255 false 0 (replicate len 7)

-- how long a frame may be
pub record SizeSo : Type 0 where
  -- a frame of the receive size, and of one byte more
  pub full : take_fault Server usual_limits agreed_server (filled_frame 8168) ≡ None
  pub over : take_fault Server usual_limits agreed_server (filled_frame 8169) ≡ Some (faults.Oversize 8193 8192)
  -- so it is with the negotiation message
  pub first_full : take_fault Server usual_limits (Post 255 ∷ []) (request ++ replicate 8172 0) ≡ None
  pub first_over : take_fault Server usual_limits (Post 255 ∷ []) (request ++ replicate 8173 0) ≡ Some (faults.Oversize 8193 8192)
  -- a frame that comes out of turn is refused for that, however long it is: before the request was sent, and where the peer
  -- was granted nothing
  pub early : take_fault Client usual_limits (Post 255 ∷ []) (replicate 8193 0) ≡ Some faults.OutOfTurn
  pub ungranted : take_fault Client usual_limits agreed_client (replicate 8193 0) ≡ Some faults.OutOfTurn

-- what asks for a response, and how long one is owed
pub record OwesSo : Type 0 where
  -- the lowest bit of the flags counts
  pub none : is_response_owed (Take abc_frame ∷ agreed_server) ≡ false
  pub one : is_response_owed (Take (with_u16 4 1 abc_frame) ∷ agreed_server) ≡ true
  pub two : is_response_owed (Take (with_u16 4 2 abc_frame) ∷ agreed_server) ≡ false
  pub three : is_response_owed (Take (with_u16 4 3 abc_frame) ∷ agreed_server) ≡ true
  -- a negotiation message asks for none
  pub request : is_response_owed (Take (with_u16 4 1 request) ∷ Post 255 ∷ []) ≡ false
  -- it is owed still after a frame that does not ask, until a frame is sent
  pub still : next_event Server usual_limits (then_taken abc_frame (then_taken (with_u16 4 1 abc_frame) agreed_server))
      ≡ due.Emit (frame_bytes 255 2 false 0 [])
  pub answered : next_event Server usual_limits
      (Emit (frame_bytes 255 2 false 0 []) ∷ then_taken abc_frame (then_taken (with_u16 4 1 abc_frame) agreed_server)) ≡ due.Idle

-- what is read leniently
pub record LenientSo : Type 0 where
  -- Reserved may hold anything
  pub reserved : take_fault Server usual_limits agreed_server (with_u16 6 65535 abc_frame) ≡ None
  pub delivered : messages_delivered Server usual_limits (Take (with_u16 6 65535 abc_frame) ∷ agreed_server) ≡ abc ∷ []
  -- without a payload, what remains is not looked at: with no message begun, and with one
  pub remaining : take_fault Server usual_limits agreed_server (with_u32 8 5 (frame_bytes 255 255 false 0 [])) ≡ None
  pub nothing_begun : bytes_expected Server usual_limits (Take (with_u32 8 5 (frame_bytes 255 255 false 0 [])) ∷ agreed_server) ≡ 0
  pub between : take_fault Server three (then_taken first_frame three_server) (with_u32 8 5 (empty_frame 0)) ≡ None
  pub still_begun : bytes_expected Server three (then_taken (with_u32 8 5 (empty_frame 0)) (then_taken first_frame three_server)) ≡ 1660

-- when an agreed end sends: by the credits it holds, those that its peer has left, those that it can grant, whether a
-- piece waits, and whether a response is owed
pub record SendsSo : Type 0 where
  -- the last credit goes for a frame that grants one, and for no other
  pub last_grants : sends 1 2 1 true false ≡ true
  pub last_kept : sends 1 2 0 true true ≡ false
  pub none_held : sends 0 0 1 true true ≡ false
  -- with two credits it may grant nothing
  pub two_held : sends 2 2 0 true false ≡ true
  pub owed : sends 2 2 0 false true ≡ true
  -- the peer has one credit left, or two, and one more can be granted, or none
  pub one_left : sends 2 1 1 false false ≡ true
  pub two_left : sends 2 2 1 false false ≡ false
  pub none_grantable : sends 2 1 0 false false ≡ false
  pub last_to_grant : sends 1 1 1 false false ≡ true
  -- with its last credit a client sends the last piece of a message, once it can grant the one receive that it posted
  pub piece : next_event Client three (then_taken (empty_frame 0) two_sent) ≡ due.Emit third_frame

-- of two faults that stand next to one another the first is told
pub record FaultOrderSo : Type 0 where
  -- in a request
  pub short_version : request_fault (replicate 19 0) ≡ Some negotiation.Short
  pub version_credits : request_fault (with_u16 2 255 (with_u16 6 0 request)) ≡ Some negotiation.Version
  pub credits_receive_size : request_fault (with_u16 6 0 (with_u32 12 127 request)) ≡ Some negotiation.Credits
  pub receive_fragmented_size : request_fault (with_u32 12 127 (with_u32 16 131071 request)) ≡ Some negotiation.ReceiveSize
  -- in a response
  pub short_status : response_fault usual_limits (take 31 refusing_frame) ≡ Some negotiation.Short
  pub status_version : response_fault usual_limits (with_u32 12 1 (with_u16 4 257 response)) ≡ Some negotiation.Status
  pub version_requested : response_fault usual_limits (with_u16 4 257 (with_u16 8 0 response)) ≡ Some negotiation.Version
  pub requested_granted : response_fault usual_limits (with_u16 8 0 (with_u16 10 256 response)) ≡ Some negotiation.Credits
  pub granted_send_size : response_fault usual_limits (with_u16 10 256 (with_u32 20 8193 response)) ≡ Some negotiation.Granted
  pub send_receive_size : response_fault usual_limits (with_u32 20 8193 (with_u32 24 127 response)) ≡ Some negotiation.SendSize
  pub response_fragmented_size : response_fault usual_limits (with_u32 24 127 (with_u32 28 131071 response)) ≡ Some negotiation.ReceiveSize
  -- in a data transfer message
  pub short_offset : data_frame_of (take 19 (with_u32 12 20 abc_frame)) ≡ Err frames.Short
  pub offset_length : data_frame_of (with_u32 12 20 (with_u32 16 4 abc_frame)) ≡ Err frames.Offset
  pub length : data_frame_of (with_u32 16 4 abc_frame) ≡ Err frames.Length
  -- a piece that is not the one expected, and too long besides
  pub total_too_long : gather_fault 1048576 5 1 1048576 ≡ Some (broken.Total 5 1048577)
