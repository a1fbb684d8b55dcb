-- The negotiation messages: SMB_DIRECT_NEGOTIATE_REQUEST (MS-SMBD 2.2.1) and SMB_DIRECT_NEGOTIATE_RESPONSE (2.2.2).
-- The layouts, the version 0x0100 and the numbers of the statuses are MS-SMBD's. Which numbers an end accepts, how it
-- answers, and the one written form are this project's own.
use Rattle.std.specs.Prelude.{◌≡◌, ℕ, ◌^◌, ◌<◌, ◌≤◌, ◌==◌, nat_lt, min, not, ◌||◌, Option, Some, None, Result, Ok, Err, List, ◌++◌, length, if◌then◌else◌}
use Rattle.std.specs.Int.{w16, w32, to_le_bytes}
use Rattle.smbd_base.specs.declared.agreed.Agreed.{Agreed}
use Rattle.smbd_base.specs.declared.faults.NegotiateFault.{NegotiateFault}
use Rattle.smbd_base.specs.declared.faults.NegotiateFault.TheVariants.{Short, Version, Credits, Granted, SendSize, ReceiveSize, FragmentedSize, Status}
use Rattle.smbd_base.specs.Fields.{u16_at, u32_at}
use Rattle.smbd_base.specs.declared.limits.TheConstants.{LEAST_FRAME_SIZE, MOST_FRAME_SIZE, LEAST_FRAGMENTED_SIZE}
use Rattle.smbd_base.specs.Limits.{Limits, IsWithin}

-- the fields, or the fault that was found
abbrev pub fields_or_fault : {A : Type 0} → Option NegotiateFault → A → Result A NegotiateFault
fields_or_fault None fields = Ok fields
fields_or_fault (Some fault) fields = Err fault

-- ---- the request

-- what a negotiate request says
pub record Request : Type 0 where
  pub min_version : ℕ
  pub max_version : ℕ
  pub credits_requested : ℕ
  pub preferred_send_size : ℕ
  pub max_receive_size : ℕ
  pub max_fragmented_size : ℕ

-- the fields where they stand; Reserved, at 4, may hold anything
abbrev pub request_fields : List ℕ → Request
request_fields bytes = record {
  min_version = u16_at 0 bytes;
  max_version = u16_at 2 bytes;
  credits_requested = u16_at 6 bytes;
  preferred_send_size = u32_at 8 bytes;
  max_receive_size = u32_at 12 bytes;
  max_fragmented_size = u32_at 16 bytes;
}

-- the first field that a server does not accept; PreferredSendSize may hold anything
unfoldable pub fault_in_request : Request → Option NegotiateFault
fault_in_request request =
    if nat_lt 256 request.min_version || nat_lt request.max_version 256 then Some Version
    else if request.credits_requested == 0 then Some Credits
    else if nat_lt request.max_receive_size LEAST_FRAME_SIZE then Some ReceiveSize
    else if nat_lt request.max_fragmented_size LEAST_FRAGMENTED_SIZE then Some FragmentedSize
    else None

-- why bytes are no request, if they are none; bytes after the twentieth may hold anything
unfoldable pub request_fault : List ℕ → Option NegotiateFault
request_fault bytes = if nat_lt (length bytes) 20 then Some Short else fault_in_request (request_fields bytes)

-- what bytes say as a request, or the first fault that applies
abbrev pub read_request_of : List ℕ → Result Request NegotiateFault
read_request_of bytes = fields_or_fault (request_fault bytes) (request_fields bytes)

-- the bounds that a server asks of a request
pub record IsLawfulRequest (request : Request) : Type 0 where
  pub min_version : request.min_version ≤ 256
  pub max_version : 256 ≤ request.max_version
  pub credits_requested : 1 ≤ request.credits_requested
  pub max_receive_size : LEAST_FRAME_SIZE ≤ request.max_receive_size
  pub max_fragmented_size : LEAST_FRAGMENTED_SIZE ≤ request.max_fragmented_size

-- each number fits its field
pub record RequestFits (request : Request) : Type 0 where
  pub min_version : request.min_version < 2 ^ 16
  pub max_version : request.max_version < 2 ^ 16
  pub credits_requested : request.credits_requested < 2 ^ 16
  pub preferred_send_size : request.preferred_send_size < 2 ^ 32
  pub max_receive_size : request.max_receive_size < 2 ^ 32
  pub max_fragmented_size : request.max_fragmented_size < 2 ^ 32

-- the one written form: MinVersion, MaxVersion, Reserved, CreditsRequested, PreferredSendSize, MaxReceiveSize,
-- MaxFragmentedSize
abbrev pub request_bytes : Request → List ℕ
request_bytes request =
    to_le_bytes w16 request.min_version ++ to_le_bytes w16 request.max_version
    ++ to_le_bytes w16 0 ++ to_le_bytes w16 request.credits_requested
    ++ to_le_bytes w32 request.preferred_send_size ++ to_le_bytes w32 request.max_receive_size
    ++ to_le_bytes w32 request.max_fragmented_size

-- the request of a client with these limits
abbrev pub request_of_limits : Limits → Request
request_of_limits limits = record {
  min_version = 256;
  max_version = 256;
  credits_requested = limits.credits;
  preferred_send_size = limits.send_size;
  max_receive_size = limits.receive_size;
  max_fragmented_size = limits.fragmented_size;
}

-- ---- the response

-- what a negotiate response says
pub record Response : Type 0 where
  pub min_version : ℕ
  pub max_version : ℕ
  pub negotiated_version : ℕ
  pub credits_requested : ℕ
  pub credits_granted : ℕ
  pub status : ℕ
  pub max_read_write_size : ℕ
  pub preferred_send_size : ℕ
  pub max_receive_size : ℕ
  pub max_fragmented_size : ℕ

-- the fields where they stand; Reserved, at 6, may hold anything
abbrev pub response_fields : List ℕ → Response
response_fields bytes = record {
  min_version = u16_at 0 bytes;
  max_version = u16_at 2 bytes;
  negotiated_version = u16_at 4 bytes;
  credits_requested = u16_at 8 bytes;
  credits_granted = u16_at 10 bytes;
  status = u32_at 12 bytes;
  max_read_write_size = u32_at 16 bytes;
  preferred_send_size = u32_at 20 bytes;
  max_receive_size = u32_at 24 bytes;
  max_fragmented_size = u32_at 28 bytes;
}

-- The first field that a client with these limits does not accept. It requested its own receive credits, and is sent
-- no frame longer than its MaxReceiveSize. MinVersion, MaxVersion and MaxReadWriteSize may hold anything.
unfoldable pub fault_in_response : Limits → Response → Option NegotiateFault
fault_in_response limits response =
    if not (response.status == 0) then Some Status
    else if not (response.negotiated_version == 256) then Some Version
    else if response.credits_requested == 0 then Some Credits
    else if response.credits_granted == 0 || nat_lt limits.credits response.credits_granted then Some Granted
    else if nat_lt limits.receive_size response.preferred_send_size then Some SendSize
    else if nat_lt response.max_receive_size LEAST_FRAME_SIZE then Some ReceiveSize
    else if nat_lt response.max_fragmented_size LEAST_FRAGMENTED_SIZE then Some FragmentedSize
    else None

-- why bytes are no response to a client with these limits, if they are none; bytes after the thirty-second may hold
-- anything
unfoldable pub response_fault : Limits → List ℕ → Option NegotiateFault
response_fault limits bytes =
    if nat_lt (length bytes) 32 then Some Short else fault_in_response limits (response_fields bytes)

-- what bytes say as a response to a client with these limits, or the first fault that applies
abbrev pub read_response_of : Limits → List ℕ → Result Response NegotiateFault
read_response_of limits bytes = fields_or_fault (response_fault limits bytes) (response_fields bytes)

-- the bounds that a client with these limits asks of a response
pub record IsLawfulResponse (limits : Limits) (response : Response) : Type 0 where
  pub status : response.status ≡ 0
  pub negotiated_version : response.negotiated_version ≡ 256
  pub credits_requested : 1 ≤ response.credits_requested
  pub credits_granted : IsWithin 1 limits.credits response.credits_granted
  pub preferred_send_size : response.preferred_send_size ≤ limits.receive_size
  pub max_receive_size : LEAST_FRAME_SIZE ≤ response.max_receive_size
  pub max_fragmented_size : LEAST_FRAGMENTED_SIZE ≤ response.max_fragmented_size

-- each number fits its field
pub record ResponseFits (response : Response) : Type 0 where
  pub min_version : response.min_version < 2 ^ 16
  pub max_version : response.max_version < 2 ^ 16
  pub negotiated_version : response.negotiated_version < 2 ^ 16
  pub credits_requested : response.credits_requested < 2 ^ 16
  pub credits_granted : response.credits_granted < 2 ^ 16
  pub status : response.status < 2 ^ 32
  pub max_read_write_size : response.max_read_write_size < 2 ^ 32
  pub preferred_send_size : response.preferred_send_size < 2 ^ 32
  pub max_receive_size : response.max_receive_size < 2 ^ 32
  pub max_fragmented_size : response.max_fragmented_size < 2 ^ 32

-- the one written form: MinVersion, MaxVersion, NegotiatedVersion, Reserved, CreditsRequested, CreditsGranted, Status,
-- MaxReadWriteSize, PreferredSendSize, MaxReceiveSize, MaxFragmentedSize
abbrev pub response_bytes : Response → List ℕ
response_bytes response =
    to_le_bytes w16 response.min_version ++ to_le_bytes w16 response.max_version
    ++ to_le_bytes w16 response.negotiated_version ++ to_le_bytes w16 0
    ++ to_le_bytes w16 response.credits_requested ++ to_le_bytes w16 response.credits_granted
    ++ to_le_bytes w32 response.status ++ to_le_bytes w32 response.max_read_write_size
    ++ to_le_bytes w32 response.preferred_send_size ++ to_le_bytes w32 response.max_receive_size
    ++ to_le_bytes w32 response.max_fragmented_size

-- The response of a server with these limits that accepts this request, where it may grant so many credits: it grants
-- no more than was asked for, and sends no frame longer than the client receives. Status is STATUS_SUCCESS.
abbrev pub answer_to : Request → Limits → ℕ → Response
answer_to request limits grantable = record {
  min_version = 256;
  max_version = 256;
  negotiated_version = 256;
  credits_requested = limits.credits;
  credits_granted = min request.credits_requested grantable;
  status = 0;
  max_read_write_size = 1048576;
  preferred_send_size = min limits.send_size request.max_receive_size;
  max_receive_size = limits.receive_size;
  max_fragmented_size = limits.fragmented_size;
}

-- the response to a request of another version: STATUS_NOT_SUPPORTED, 0xC00000BB
abbrev pub refusing_response : Response
refusing_response = record {
  min_version = 256;
  max_version = 256;
  negotiated_version = 0;
  credits_requested = 0;
  credits_granted = 0;
  status = 3221225659;
  max_read_write_size = 0;
  preferred_send_size = 0;
  max_receive_size = 0;
  max_fragmented_size = 0;
}

-- ---- what the two have agreed

-- what a server with these limits has agreed with the client of this request
abbrev pub agreed_with_client : Limits → Request → Agreed
agreed_with_client limits request = record {
  send_size = min limits.send_size request.max_receive_size;
  message_max = request.max_fragmented_size;
  read_write_max = None;
  credits_requested = request.credits_requested;
}

-- what a client with these limits has agreed with the server of this response
abbrev pub agreed_with_server : Limits → Response → Agreed
agreed_with_server limits response = record {
  send_size = min limits.send_size response.max_receive_size;
  message_max = response.max_fragmented_size;
  read_write_max = Some response.max_read_write_size;
  credits_requested = response.credits_requested;
}

-- frames have room for a payload, and the longest message is no shorter than each end has to gather
pub record IsLawfulAgreement (agreed : Agreed) : Type 0 where
  pub send_size : IsWithin LEAST_FRAME_SIZE MOST_FRAME_SIZE agreed.send_size
  pub message_max : LEAST_FRAGMENTED_SIZE ≤ agreed.message_max
  pub credits_requested : 1 ≤ agreed.credits_requested
