-- Worked histories: what the definitions say of small examples, found by computation.
use Rattle.std.specs.Prelude.{◌≡◌, ℕ, ◌+◌, true, false, Some, None, Ok, List, [], ◌∷◌, ◌++◌, replicate, take, drop}
use Rattle.std.specs.Int.{w16, w32, to_le_bytes}
use Rattle.smbd_base.specs.declared.end_id.EndId.TheVariants.{Client, Server}
use Rattle.smbd_base.specs.declared.event.Event.{Event}
use Rattle.smbd_base.specs.declared.event.Event.TheVariants.{Post, Submit, Emit, Take, Cut}
use Rattle.smbd_base.specs.declared.next.Next.TheVariants as due
use Rattle.smbd_base.specs.declared.faults.TakeFault.TheVariants as faults
use Rattle.smbd_base.specs.declared.faults.SubmitFault.TheVariants as refusals
use Rattle.smbd_base.specs.declared.faults.FrameFault.TheVariants.{Short}
use Rattle.smbd_base.specs.Limits.{Limits, usual_limits}
use Rattle.smbd_base.specs.DataFrame.{frame_bytes}
use Rattle.smbd_base.specs.declared.faults.NegotiateFault.TheVariants as negotiate_faults
use Rattle.smbd_base.specs.NegotiateMessages.{request_of_limits, request_fault, read_request_of, request_bytes, answer_to, response_fault, read_response_of, response_bytes, refusing_response, agreed_with_client, agreed_with_server}
use Rattle.smbd_base.specs.declared.faults.Broken.TheVariants as broken
use Rattle.smbd_base.specs.Pieces.{pieces_of, gather_fault}
use Rattle.smbd_base.specs.Counts.{receives_outstanding, receives_grantable, credits_held, frames_taken}
use Rattle.smbd_base.specs.History.{next_event, take_fault, submit_fault, bytes_expected, message_limit, agreed_of}
use Rattle.smbd_base.specs.Delivery.{messages_delivered}

-- the negotiate request of the usual limits
abbrev pub request : List ℕ
request = 0 ∷ 1 ∷ 0 ∷ 1 ∷ 0 ∷ 0 ∷ 255 ∷ 0 ∷ 84 ∷ 5 ∷ 0 ∷ 0 ∷ 0 ∷ 32 ∷ 0 ∷ 0 ∷ 0 ∷ 0 ∷ 16 ∷ 0 ∷ []

-- the negotiate response of the usual limits, which grants 255 credits
abbrev pub response : List ℕ
response =
    0 ∷ 1 ∷ 0 ∷ 1 ∷ 0 ∷ 1 ∷ 0 ∷ 0 ∷ 255 ∷ 0 ∷ 255 ∷ 0 ∷ 0 ∷ 0 ∷ 0 ∷ 0
    ∷ 0 ∷ 0 ∷ 16 ∷ 0 ∷ 84 ∷ 5 ∷ 0 ∷ 0 ∷ 0 ∷ 32 ∷ 0 ∷ 0 ∷ 0 ∷ 0 ∷ 16 ∷ 0 ∷ []

-- the message `abc`, and the frame that carries it, asks for 255 credits and grants 255
abbrev pub abc : List ℕ
abc = 97 ∷ 98 ∷ 99 ∷ []

abbrev pub abc_frame : List ℕ
abc_frame =
    255 ∷ 0 ∷ 255 ∷ 0 ∷ 0 ∷ 0 ∷ 0 ∷ 0 ∷ 0 ∷ 0 ∷ 0 ∷ 0 ∷ 24 ∷ 0 ∷ 0 ∷ 0 ∷ 3 ∷ 0 ∷ 0 ∷ 0 ∷ 0 ∷ 0 ∷ 0 ∷ 0 ∷ abc

-- both ends after the negotiation
abbrev pub agreed_client : List Event
agreed_client = Post 1 ∷ Take response ∷ Emit request ∷ Post 255 ∷ []

abbrev pub agreed_server : List Event
agreed_server = Emit response ∷ Post 1 ∷ Take request ∷ Post 255 ∷ []

pub record OpensSo : Type 0 where
  -- each end posts its receives; then the client sends its request, and waits, as the server does
  pub client_posts : next_event Client usual_limits [] ≡ due.Post 255
  pub server_posts : next_event Server usual_limits [] ≡ due.Post 255
  pub client_requests : next_event Client usual_limits (Post 255 ∷ []) ≡ due.Emit request
  pub client_waits : next_event Client usual_limits (Emit request ∷ Post 255 ∷ []) ≡ due.Idle
  pub server_waits : next_event Server usual_limits (Post 255 ∷ []) ≡ due.Idle
  -- the server takes the request, posts the receive anew, and responds
  pub request_taken : take_fault Server usual_limits (Post 255 ∷ []) request ≡ None
  pub server_reposts : next_event Server usual_limits (Take request ∷ Post 255 ∷ []) ≡ due.Post 1
  pub server_grantable : receives_grantable Server (Post 1 ∷ Take request ∷ Post 255 ∷ []) ≡ 255
  pub server_responds : next_event Server usual_limits (Post 1 ∷ Take request ∷ Post 255 ∷ []) ≡ due.Emit response
  -- the client takes the response, posts the receive anew, and holds 255 credits; the server holds none
  pub response_taken : take_fault Client usual_limits (Emit request ∷ Post 255 ∷ []) response ≡ None
  pub client_reposts : next_event Client usual_limits (Take response ∷ Emit request ∷ Post 255 ∷ []) ≡ due.Post 1
  pub client_holds : credits_held Client agreed_client ≡ 255
  pub client_grants : receives_grantable Client agreed_client ≡ 255
  pub server_holds : credits_held Server agreed_server ≡ 0
  pub server_promised : receives_outstanding Server agreed_server ≡ 255

pub record CarriesSo : Type 0 where
  -- the client sends `abc` and grants the server 255 credits
  pub sent : next_event Client usual_limits (Submit abc ∷ agreed_client) ≡ due.Emit abc_frame
  -- the server takes it, delivers `abc` once, posts the receive anew, and owes nothing
  pub taken : take_fault Server usual_limits agreed_server abc_frame ≡ None
  pub nothing_yet : messages_delivered Server usual_limits agreed_server ≡ []
  pub delivered : messages_delivered Server usual_limits (Take abc_frame ∷ agreed_server) ≡ abc ∷ []
  pub reposted : next_event Server usual_limits (Take abc_frame ∷ agreed_server) ≡ due.Post 1
  pub idle : next_event Server usual_limits (Post 1 ∷ Take abc_frame ∷ agreed_server) ≡ due.Idle
  pub earned : credits_held Server (Post 1 ∷ Take abc_frame ∷ agreed_server) ≡ 255

pub record RefusesSo : Type 0 where
  -- a client that has not spoken takes nothing, and that frame does not count
  pub early : take_fault Client usual_limits (Post 255 ∷ []) response ≡ Some faults.OutOfTurn
  pub uncounted : frames_taken Client (Take response ∷ Post 255 ∷ []) ≡ 0
  -- a server whose first frame is no request refuses it, and can then only be cut
  pub unexpected : take_fault Server usual_limits (Post 255 ∷ []) abc ≡ Some (faults.Negotiate negotiate_faults.Short)
  pub closes : next_event Server usual_limits (Take abc ∷ Post 255 ∷ []) ≡ due.Close
  pub closed : submit_fault Server usual_limits (Take abc ∷ Post 255 ∷ []) abc ≡ Some refusals.Closed
  -- bytes that are no data transfer message
  pub short : take_fault Server usual_limits (Post 1 ∷ agreed_server) abc ≡ Some (faults.Frame Short)
  -- nothing comes after a cut
  pub cut : next_event Client usual_limits (Cut ∷ agreed_client) ≡ due.Idle
  pub cut_refused : next_event Server usual_limits (Cut ∷ Take abc ∷ Post 255 ∷ []) ≡ due.Idle
  pub cut_submit : submit_fault Client usual_limits (Cut ∷ agreed_client) abc ≡ Some refusals.Closed
  pub empty_submit : submit_fault Client usual_limits agreed_client [] ≡ Some refusals.Empty

-- both ends with 3 credits
abbrev pub three : Limits
three = record { credits = 3; send_size = 1364; receive_size = 8192; fragmented_size = 1048576; pages = 64 }

-- a message of 3,000 bytes, and its three frames
abbrev pub long : List ℕ
long = replicate 3000 7

abbrev pub first_frame : List ℕ
first_frame = frame_bytes 3 3 false 1660 (replicate 1340 7)

abbrev pub second_frame : List ℕ
second_frame = frame_bytes 3 0 true 320 (replicate 1340 7)

abbrev pub third_frame : List ℕ
third_frame = frame_bytes 3 1 false 0 (replicate 320 7)

-- an empty frame that asks for 3 credits and grants so many
abbrev pub empty_frame : ℕ → List ℕ
empty_frame granted = 3 ∷ 0 ∷ granted ∷ 0 ∷ replicate 16 0

abbrev pub three_request : List ℕ
three_request = request_bytes (request_of_limits three)

abbrev pub three_response : List ℕ
three_response = response_bytes (answer_to (request_of_limits three) three 3)

abbrev pub three_client : List Event
three_client = Post 1 ∷ Take three_response ∷ Emit three_request ∷ Post 3 ∷ []

abbrev pub two_sent : List Event
two_sent = Emit second_frame ∷ Emit first_frame ∷ Submit long ∷ three_client

abbrev pub three_server : List Event
three_server = Emit three_response ∷ Post 1 ∷ Take three_request ∷ Post 3 ∷ []

pub record CreditsSo : Type 0 where
  -- with nothing to send, the client lets the server have credits: its peer has none left
  pub grants : next_event Client three three_client ≡ due.Emit (empty_frame 3)
  -- a message in three pieces: the second asks for a response, since one credit is left, which is kept
  pub first : next_event Client three (Submit long ∷ three_client) ≡ due.Emit first_frame
  pub second : next_event Client three (Emit first_frame ∷ Submit long ∷ three_client) ≡ due.Emit second_frame
  pub last_kept : next_event Client three two_sent ≡ due.Idle
  pub last_held : credits_held Client two_sent ≡ 1
  -- the server waits until it is asked, and then grants the two receives that it posted anew
  pub server_waits : next_event Server three (Post 1 ∷ Take (frame_bytes 3 3 false 0 abc) ∷ three_server) ≡ due.Idle
  pub server_grants : next_event Server three (Post 1 ∷ Take (frame_bytes 3 0 true 0 abc) ∷ Post 1 ∷ Take (frame_bytes 3 3 false 0 abc) ∷ three_server)
      ≡ due.Emit (empty_frame 2)
  -- with these credits the client sends the rest
  pub third : next_event Client three (Post 1 ∷ Take (empty_frame 2) ∷ two_sent) ≡ due.Emit third_frame

-- a message of 3,000 bytes in pieces of 1,340
pub record CutsSo : Type 0 where
  pub pieces : pieces_of 1340 long
      ≡ (record { payload = replicate 1340 7; remaining = 1660 }) ∷ (record { payload = replicate 1340 7; remaining = 320 })
      ∷ (record { payload = replicate 320 7; remaining = 0 }) ∷ []
  pub one : pieces_of 1340 (take 1340 long) ≡ (record { payload = replicate 1340 7; remaining = 0 }) ∷ []

-- the server once it has taken this frame and posted the receive anew
abbrev pub then_taken : List ℕ → List Event → List Event
then_taken frame past = Post 1 ∷ Take frame ∷ past

-- the second piece of the message, but for its last remaining byte
abbrev pub short_frame : List ℕ
short_frame = frame_bytes 3 0 true 319 (replicate 1340 7)

-- the three pieces are gathered
pub record GathersSo : Type 0 where
  pub taken : take_fault Server three three_server first_frame ≡ None
  pub expected : bytes_expected Server three (then_taken first_frame three_server) ≡ 1660
  pub nothing_yet : messages_delivered Server three (then_taken first_frame three_server) ≡ []
  pub goes_on : take_fault Server three (then_taken first_frame three_server) second_frame ≡ None
  pub delivered : messages_delivered Server three (Take third_frame ∷ then_taken second_frame (then_taken first_frame three_server)) ≡ long ∷ []
  pub complete : bytes_expected Server three (Take third_frame ∷ then_taken second_frame (then_taken first_frame three_server)) ≡ 0
  -- an empty message between leaves it as it is
  pub between : bytes_expected Server three (then_taken (empty_frame 0) (then_taken first_frame three_server)) ≡ 1660
  -- a piece with one byte too few, and a message that is one byte too long
  pub total : take_fault Server three (then_taken first_frame three_server) short_frame ≡ Some (faults.Gather (broken.Total 1660 1659))
  pub too_long : gather_fault 1048576 0 1 1048576 ≡ Some (broken.TooLong 1048577 1048576)
  pub longest : gather_fault 1048576 0 1 1048575 ≡ None
  -- how long a message may be, before the negotiation and after it
  pub before : message_limit Client usual_limits (Post 255 ∷ []) ≡ 131072
  pub after : message_limit Client usual_limits agreed_client ≡ 1048576

-- bytes with another number at this place
abbrev pub with_u16 : ℕ → ℕ → List ℕ → List ℕ
with_u16 place n bytes = take place bytes ++ to_le_bytes w16 n ++ drop (place + 2) bytes

abbrev pub with_u32 : ℕ → ℕ → List ℕ → List ℕ
with_u32 place n bytes = take place bytes ++ to_le_bytes w32 n ++ drop (place + 4) bytes

-- the refusing response
abbrev pub refusing_frame : List ℕ
refusing_frame =
    0 ∷ 1 ∷ 0 ∷ 1 ∷ 0 ∷ 0 ∷ 0 ∷ 0 ∷ 0 ∷ 0 ∷ 0 ∷ 0 ∷ 187 ∷ 0 ∷ 0 ∷ 192
    ∷ 0 ∷ 0 ∷ 0 ∷ 0 ∷ 0 ∷ 0 ∷ 0 ∷ 0 ∷ 0 ∷ 0 ∷ 0 ∷ 0 ∷ 0 ∷ 0 ∷ 0 ∷ 0 ∷ []

-- what the negotiation messages say
pub record NegotiatesSo : Type 0 where
  -- the request of the usual limits
  pub requested : request_bytes (request_of_limits usual_limits) ≡ request
  pub read : read_request_of request ≡ Ok (request_of_limits usual_limits)
  pub longer : read_request_of (request ++ 7 ∷ []) ≡ Ok (request_of_limits usual_limits)
  pub reserved : read_request_of (with_u16 4 65535 request) ≡ Ok (request_of_limits usual_limits)
  pub short : request_fault (take 19 request) ≡ Some negotiate_faults.Short
  pub newer : request_fault (with_u16 0 512 (with_u16 2 512 request)) ≡ Some negotiate_faults.Version
  pub older : request_fault (with_u16 2 255 request) ≡ Some negotiate_faults.Version
  pub no_credits : request_fault (with_u16 6 0 request) ≡ Some negotiate_faults.Credits
  pub small_frames : request_fault (with_u32 12 127 request) ≡ Some negotiate_faults.ReceiveSize
  pub small_messages : request_fault (with_u32 16 131071 request) ≡ Some negotiate_faults.FragmentedSize
  -- two that break several bounds
  pub version_first : request_fault (with_u16 2 255 (with_u16 6 0 request)) ≡ Some negotiate_faults.Version
  pub zeros : request_fault (replicate 20 0) ≡ Some negotiate_faults.Version
  -- the answer to it, where 255 credits may be granted, and where 300 or 7 may be
  pub answered : response_bytes (answer_to (request_of_limits usual_limits) usual_limits 255) ≡ response
  pub asked_alone : response_bytes (answer_to (request_of_limits usual_limits) usual_limits 300) ≡ response
  pub grantable_alone : response_bytes (answer_to (request_of_limits usual_limits) usual_limits 7) ≡ with_u16 10 7 response
  pub answer_read : read_response_of usual_limits response ≡ Ok (answer_to (request_of_limits usual_limits) usual_limits 255)
  pub longer_answer : read_response_of usual_limits (response ++ 7 ∷ []) ≡ Ok (answer_to (request_of_limits usual_limits) usual_limits 255)
  pub short_answer : response_fault usual_limits (take 31 response) ≡ Some negotiate_faults.Short
  pub other_version : response_fault usual_limits (with_u16 4 257 response) ≡ Some negotiate_faults.Version
  pub none_asked : response_fault usual_limits (with_u16 8 0 response) ≡ Some negotiate_faults.Credits
  pub none_granted : response_fault usual_limits (with_u16 10 0 response) ≡ Some negotiate_faults.Granted
  pub one_too_many : response_fault usual_limits (with_u16 10 256 response) ≡ Some negotiate_faults.Granted
  pub long_frames : response_fault usual_limits (with_u32 20 8193 response) ≡ Some negotiate_faults.SendSize
  pub small_frames_back : response_fault usual_limits (with_u32 24 127 response) ≡ Some negotiate_faults.ReceiveSize
  pub small_messages_back : response_fault usual_limits (with_u32 28 131071 response) ≡ Some negotiate_faults.FragmentedSize
  -- the refusing response, whose Status comes before its version
  pub refused : response_bytes refusing_response ≡ refusing_frame
  pub refusal_read : response_fault usual_limits refusing_frame ≡ Some negotiate_faults.Status
  pub short_refusal : response_fault usual_limits (take 31 refusing_frame) ≡ Some negotiate_faults.Short
  -- what both have agreed
  pub server_agreed : agreed_with_client usual_limits (request_of_limits usual_limits)
      ≡ record { send_size = 1364; message_max = 1048576; read_write_max = None; credits_requested = 255 }
  pub client_agreed : agreed_with_server usual_limits (answer_to (request_of_limits usual_limits) usual_limits 255)
      ≡ record { send_size = 1364; message_max = 1048576; read_write_max = Some 1048576; credits_requested = 255 }

-- a request of version 0x0200
abbrev pub newer_request : List ℕ
newer_request = with_u16 0 512 (with_u16 2 512 request)

abbrev pub newer_taken : List Event
newer_taken = Take newer_request ∷ Post 255 ∷ []

-- how an end refuses a negotiation message
pub record DeclinesSo : Type 0 where
  -- a server refuses another version, posts the receive anew, sends the refusing response, and can then only be cut
  pub newer : take_fault Server usual_limits (Post 255 ∷ []) newer_request ≡ Some (faults.Negotiate negotiate_faults.Version)
  pub reposts : next_event Server usual_limits newer_taken ≡ due.Post 1
  pub responds : next_event Server usual_limits (Post 1 ∷ newer_taken) ≡ due.Emit refusing_frame
  pub held : credits_held Server (Emit refusing_frame ∷ Post 1 ∷ newer_taken) ≡ 0
  pub closes : next_event Server usual_limits (Emit refusing_frame ∷ Post 1 ∷ newer_taken) ≡ due.Close
  pub unsettled : agreed_of Server usual_limits (Emit refusing_frame ∷ Post 1 ∷ newer_taken) ≡ None
  -- meanwhile it accepts no message, and a cut ends it at once
  pub closed : submit_fault Server usual_limits newer_taken abc ≡ Some refusals.Closed
  pub cut : next_event Server usual_limits (Cut ∷ newer_taken) ≡ due.Idle
  -- a client that takes this response refuses it, and sends none
  pub refused : take_fault Client usual_limits (Emit request ∷ Post 255 ∷ []) refusing_frame ≡ Some (faults.Negotiate negotiate_faults.Status)
  pub client_closes : next_event Client usual_limits (Take refusing_frame ∷ Emit request ∷ Post 255 ∷ []) ≡ due.Close
  -- a request without credits is refused, and is not responded to
  pub no_credits : take_fault Server usual_limits (Post 255 ∷ []) (with_u16 6 0 request) ≡ Some (faults.Negotiate negotiate_faults.Credits)
  pub silent : next_event Server usual_limits (Take (with_u16 6 0 request) ∷ Post 255 ∷ []) ≡ due.Close
  -- a client refuses a response of another version, and sends no refusing_frame
  pub other_version : take_fault Client usual_limits (Emit request ∷ Post 255 ∷ []) (with_u16 4 257 response) ≡ Some (faults.Negotiate negotiate_faults.Version)
  pub no_response : next_event Client usual_limits (Take (with_u16 4 257 response) ∷ Emit request ∷ Post 255 ∷ []) ≡ due.Close

-- a client of 3 credits that receives 128 bytes at a time, and a server of 5 that receives 512
abbrev pub small_client : Limits
small_client = record { credits = 3; send_size = 8192; receive_size = 128; fragmented_size = 131072; pages = 16 }

abbrev pub large_server : Limits
large_server = record { credits = 5; send_size = 4096; receive_size = 512; fragmented_size = 200000; pages = 16 }

abbrev pub small_request : List ℕ
small_request = request_bytes (request_of_limits small_client)

abbrev pub large_response : List ℕ
large_response = response_bytes (answer_to (request_of_limits small_client) large_server 5)

abbrev pub small_agreed : List Event
small_agreed = Post 1 ∷ Take large_response ∷ Emit small_request ∷ Post 3 ∷ []

abbrev pub large_agreed : List Event
large_agreed = Emit large_response ∷ Post 1 ∷ Take small_request ∷ Post 5 ∷ []

-- what two ends of unequal limits settle
pub record SettlesSo : Type 0 where
  pub requests : next_event Client small_client (Post 3 ∷ []) ≡ due.Emit small_request
  pub request_taken : take_fault Server large_server (Post 5 ∷ []) small_request ≡ None
  pub responds : next_event Server large_server (Post 1 ∷ Take small_request ∷ Post 5 ∷ []) ≡ due.Emit large_response
  pub response_taken : take_fault Client small_client (Emit small_request ∷ Post 3 ∷ []) large_response ≡ None
  -- the client is granted the 3 credits that it asked for, and sends frames of 512 bytes and messages of 200,000
  pub client_holds : credits_held Client small_agreed ≡ 3
  pub client_agreed : agreed_of Client small_client small_agreed
      ≡ Some (record { send_size = 512; message_max = 200000; read_write_max = Some 1048576; credits_requested = 5 })
  pub first_piece : next_event Client small_client (Submit (replicate 500 7) ∷ small_agreed) ≡ due.Emit (frame_bytes 3 3 false 12 (replicate 488 7))
  -- the server sends frames of 128 bytes and messages of 131,072, once it is granted a credit
  pub server_granted : receives_outstanding Server large_agreed ≡ 3
  pub server_grantable : receives_grantable Server large_agreed ≡ 2
  pub server_agreed : agreed_of Server large_server large_agreed
      ≡ Some (record { send_size = 128; message_max = 131072; read_write_max = None; credits_requested = 3 })
  pub server_piece : next_event Server large_server (Submit (replicate 500 7) ∷ Post 1 ∷ Take (frame_bytes 3 3 false 0 abc) ∷ large_agreed)
      ≡ due.Emit (frame_bytes 5 3 false 396 (replicate 104 7))
  -- an end that is not agreed submits what every peer gathers
  pub before : message_limit Client small_client (Emit small_request ∷ Post 3 ∷ []) ≡ 131072
  pub after : message_limit Client small_client small_agreed ≡ 200000
