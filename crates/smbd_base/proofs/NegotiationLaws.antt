-- What written negotiation messages read as, and which fields have no fault.
use Rattle.std.proofs.Common.{◌≡◌, ℕ, ◌+◌, ◌<◌, ◌≤◌, ◌==◌, Bool, true, false, not, ◌||◌, nat_lt, List, [], ◌++◌, length, take, drop, if◌then◌else◌, None, Some, Ok, refl, ap, sym, ◌∙◌, lit≤, lit<, arith}
use Rattle.std.proofs.lemmas.List.{get_or_append_left, length-append}
use Rattle.std.proofs.lemmas.Bool.{cond-false}
use Rattle.std.proofs.lemmas.Bool.Decides.{nat_tests}
use Rattle.smbd_base.specs.declared.end_id.EndId.TheVariants.{Server}
use Rattle.smbd_base.specs.declared.faults.NegotiateFault.TheVariants.{Short, Version, Credits, Granted, SendSize, ReceiveSize, FragmentedSize, Status}
use Rattle.smbd_base.specs.Fields.{u16_at, u32_at}
use Rattle.smbd_base.specs.Grant.{credits_in}
use Rattle.smbd_base.specs.Limits.{Limits, IsLawful}
use Rattle.smbd_base.specs.NegotiateMessages.{Request, Response, request_fields, response_fields, request_bytes, response_bytes, request_fault, response_fault, fault_in_request, fault_in_response, read_request_of, read_response_of, fields_or_fault, request_of_limits, answer_to, refusing_response, IsLawfulRequest, IsLawfulResponse, RequestFits, ResponseFits, IsLawfulAgreement, agreed_with_client, agreed_with_server}
use Rattle.smbd_base.proofs.FrameLaws.{u16_at-append, u32_at-append}

-- ---- the fields of written bytes

pub request_fields-request_bytes : (request : Request) → RequestFits request → request_fields (request_bytes request) ≡ request
request_fields-request_bytes request fits =
    let bytes : List ℕ = request_bytes request in
    let oldest : u16_at 0 bytes ≡ request.min_version = u16_at-append [] request.min_version (drop 2 bytes) 0 refl fits.min_version in
    let newest : u16_at 2 bytes ≡ request.max_version = u16_at-append (take 2 bytes) request.max_version (drop 4 bytes) 2 refl fits.max_version in
    let asked : u16_at 6 bytes ≡ request.credits_requested = u16_at-append (take 6 bytes) request.credits_requested (drop 8 bytes) 6 refl fits.credits_requested in
    let sent : u32_at 8 bytes ≡ request.preferred_send_size = u32_at-append (take 8 bytes) request.preferred_send_size (drop 12 bytes) 8 refl fits.preferred_send_size in
    let taken : u32_at 12 bytes ≡ request.max_receive_size = u32_at-append (take 12 bytes) request.max_receive_size (drop 16 bytes) 12 refl fits.max_receive_size in
    let gathered : u32_at 16 bytes ≡ request.max_fragmented_size = u32_at-append (take 16 bytes) request.max_fragmented_size [] 16 refl fits.max_fragmented_size in
    λ i. record {
      min_version = oldest i;
      max_version = newest i;
      credits_requested = asked i;
      preferred_send_size = sent i;
      max_receive_size = taken i;
      max_fragmented_size = gathered i;
    }

granted_written : (response : Response) → ResponseFits response → u16_at 10 (response_bytes response) ≡ response.credits_granted
granted_written response fits =
    let bytes : List ℕ = response_bytes response in
    u16_at-append (take 10 bytes) response.credits_granted (drop 12 bytes) 10 refl fits.credits_granted

pub response_fields-response_bytes : (response : Response) → ResponseFits response → response_fields (response_bytes response) ≡ response
response_fields-response_bytes response fits =
    let bytes : List ℕ = response_bytes response in
    let oldest : u16_at 0 bytes ≡ response.min_version = u16_at-append [] response.min_version (drop 2 bytes) 0 refl fits.min_version in
    let newest : u16_at 2 bytes ≡ response.max_version = u16_at-append (take 2 bytes) response.max_version (drop 4 bytes) 2 refl fits.max_version in
    let spoken : u16_at 4 bytes ≡ response.negotiated_version = u16_at-append (take 4 bytes) response.negotiated_version (drop 6 bytes) 4 refl fits.negotiated_version in
    let asked : u16_at 8 bytes ≡ response.credits_requested = u16_at-append (take 8 bytes) response.credits_requested (drop 10 bytes) 8 refl fits.credits_requested in
    let given : u16_at 10 bytes ≡ response.credits_granted = granted_written response fits in
    let status : u32_at 12 bytes ≡ response.status = u32_at-append (take 12 bytes) response.status (drop 16 bytes) 12 refl fits.status in
    let moved : u32_at 16 bytes ≡ response.max_read_write_size = u32_at-append (take 16 bytes) response.max_read_write_size (drop 20 bytes) 16 refl fits.max_read_write_size in
    let sent : u32_at 20 bytes ≡ response.preferred_send_size = u32_at-append (take 20 bytes) response.preferred_send_size (drop 24 bytes) 20 refl fits.preferred_send_size in
    let taken : u32_at 24 bytes ≡ response.max_receive_size = u32_at-append (take 24 bytes) response.max_receive_size (drop 28 bytes) 24 refl fits.max_receive_size in
    let gathered : u32_at 28 bytes ≡ response.max_fragmented_size = u32_at-append (take 28 bytes) response.max_fragmented_size [] 28 refl fits.max_fragmented_size in
    λ i. record {
      min_version = oldest i;
      max_version = newest i;
      negotiated_version = spoken i;
      credits_requested = asked i;
      credits_granted = given i;
      status = status i;
      max_read_write_size = moved i;
      preferred_send_size = sent i;
      max_receive_size = taken i;
      max_fragmented_size = gathered i;
    }

pub credits_in-response_bytes : (response : Response) → ResponseFits response → credits_in Server true (response_bytes response) ≡ response.credits_granted
credits_in-response_bytes response fits = granted_written response fits

-- ---- fields without a fault

-- none of the tests of a request holds
no_test_of_four : (version credits receive fragmented : Bool)
    → (if version then Some Version else if credits then Some Credits else if receive then Some ReceiveSize else if fragmented then Some FragmentedSize else None) ≡ None
    → (version ≡ false) × (credits ≡ false) × (receive ≡ false) × (fragmented ≡ false)
no_test_of_four true b c d e = absurd cc
no_test_of_four false true c d e = absurd cc
no_test_of_four false false true d e = absurd cc
no_test_of_four false false false true e = absurd cc
no_test_of_four false false false false e = (refl, refl, refl, refl)

-- none of the tests of a response holds
no_test_of_seven : (status version credits granted send receive fragmented : Bool)
    → (if status then Some Status else if version then Some Version else if credits then Some Credits else if granted then Some Granted
    else if send then Some SendSize else if receive then Some ReceiveSize else if fragmented then Some FragmentedSize else None) ≡ None
    → (status ≡ false) × (version ≡ false) × (credits ≡ false) × (granted ≡ false) × (send ≡ false) × (receive ≡ false) × (fragmented ≡ false)
no_test_of_seven true b c d f g h e = absurd cc
no_test_of_seven false true c d f g h e = absurd cc
no_test_of_seven false false true d f g h e = absurd cc
no_test_of_seven false false false true f g h e = absurd cc
no_test_of_seven false false false false true g h e = absurd cc
no_test_of_seven false false false false false true h e = absurd cc
no_test_of_seven false false false false false false true e = absurd cc
no_test_of_seven false false false false false false false e = (refl, refl, refl, refl, refl, refl, refl)

neither : (a b : Bool) → (a || b) ≡ false → (a ≡ false) × (b ≡ false)
neither true b e = absurd cc
neither false b e = (refl, e)

not_none : (n : ℕ) → (n == 0) ≡ false → 1 ≤ n
not_none n e = grind (arith, nat_tests)

no_less : (n least : ℕ) → nat_lt n least ≡ false → least ≤ n
no_less n least e = grind (arith, nat_tests)

is_equal : (n m : ℕ) → not (n == m) ≡ false → n ≡ m
is_equal n m e = grind (arith, nat_tests)

some_test : (n : ℕ) → 1 ≤ n → (n == 0) ≡ false
some_test n some = grind (arith, nat_tests)

no_less_test : (n least : ℕ) → least ≤ n → nat_lt n least ≡ false
no_less_test n least h = grind (arith, nat_tests)

pub lawful_request : (request : Request) → fault_in_request request ≡ None → IsLawfulRequest request
unfolding fault_in_request
lawful_request request e =
    let tests = no_test_of_four (nat_lt 256 request.min_version || nat_lt request.max_version 256) (request.credits_requested == 0) (nat_lt request.max_receive_size 128) (nat_lt request.max_fragmented_size 131072) e in
    let versions = neither (nat_lt 256 request.min_version) (nat_lt request.max_version 256) tests.0 in
    record {
      min_version = no_less 256 request.min_version versions.0;
      max_version = no_less request.max_version 256 versions.1;
      credits_requested = not_none request.credits_requested tests.1;
      max_receive_size = no_less request.max_receive_size 128 tests.2;
      max_fragmented_size = no_less request.max_fragmented_size 131072 tests.3;
    }

pub no_fault_in_request : (request : Request) → IsLawfulRequest request → fault_in_request request ≡ None
unfolding fault_in_request
no_fault_in_request request lawful =
    rw (
      no_less_test 256 request.min_version lawful.min_version,
      no_less_test request.max_version 256 lawful.max_version,
      some_test request.credits_requested lawful.credits_requested,
      no_less_test request.max_receive_size 128 lawful.max_receive_size,
      no_less_test request.max_fragmented_size 131072 lawful.max_fragmented_size,
    ) refl

pub lawful_response : (limits : Limits) (response : Response) → fault_in_response limits response ≡ None → IsLawfulResponse limits response
unfolding fault_in_response
lawful_response limits response e =
    let tests = no_test_of_seven (not (response.status == 0)) (not (response.negotiated_version == 256)) (response.credits_requested == 0)
    (response.credits_granted == 0 || nat_lt limits.credits response.credits_granted) (nat_lt limits.receive_size response.preferred_send_size)
    (nat_lt response.max_receive_size 128) (nat_lt response.max_fragmented_size 131072) e in
    let granted = neither (response.credits_granted == 0) (nat_lt limits.credits response.credits_granted) tests.3 in
    record {
      status = is_equal response.status 0 tests.0;
      negotiated_version = is_equal response.negotiated_version 256 tests.1;
      credits_requested = not_none response.credits_requested tests.2;
      credits_granted = (not_none response.credits_granted granted.0, no_less limits.credits response.credits_granted granted.1);
      preferred_send_size = no_less limits.receive_size response.preferred_send_size tests.4;
      max_receive_size = no_less response.max_receive_size 128 tests.5;
      max_fragmented_size = no_less response.max_fragmented_size 131072 tests.6;
    }

pub no_fault_in_response : (limits : Limits) (response : Response) → IsLawfulResponse limits response → fault_in_response limits response ≡ None
unfolding fault_in_response
no_fault_in_response limits response lawful =
    let granted = lawful.credits_granted in
    rw (
      lawful.status,
      lawful.negotiated_version,
      some_test response.credits_requested lawful.credits_requested,
      some_test response.credits_granted granted.0,
      no_less_test limits.credits response.credits_granted granted.1,
      no_less_test limits.receive_size response.preferred_send_size lawful.preferred_send_size,
      no_less_test response.max_receive_size 128 lawful.max_receive_size,
      no_less_test response.max_fragmented_size 131072 lawful.max_fragmented_size,
    ) refl

-- ---- reading back

pub read_request_of-request_bytes : (request : Request) → RequestFits request → IsLawfulRequest request
    → read_request_of (request_bytes request) ≡ Ok request
unfolding request_fault
read_request_of-request_bytes request fits lawful =
    rw (request_fields-request_bytes request fits, no_fault_in_request request lawful) refl

pub read_response_of-response_bytes : (limits : Limits) (response : Response) → ResponseFits response → IsLawfulResponse limits response
    → read_response_of limits (response_bytes response) ≡ Ok response
unfolding response_fault
read_response_of-response_bytes limits response fits lawful =
    rw (response_fields-response_bytes response fits, no_fault_in_response limits response lawful) refl

pub lawful_request_of_limits : (limits : Limits) → IsLawful limits → IsLawfulRequest (request_of_limits limits)
lawful_request_of_limits limits lawful =
    let credits = lawful.credits in let receive = lawful.receive_size in let fragmented = lawful.fragmented_size in
    record {
      min_version = lit≤ tt;
      max_version = lit≤ tt;
      credits_requested = omega arith;
      max_receive_size = receive.0;
      max_fragmented_size = fragmented.0;
    }

pub request_of_limits-fits : (limits : Limits) → IsLawful limits → RequestFits (request_of_limits limits)
request_of_limits-fits limits lawful =
    let credits = lawful.credits in let send = lawful.send_size in let receive = lawful.receive_size in let fragmented = lawful.fragmented_size in
    record {
      min_version = lit< tt;
      max_version = lit< tt;
      credits_requested = omega arith;
      preferred_send_size = omega arith;
      max_receive_size = omega arith;
      max_fragmented_size = omega arith;
    }

-- the answer to a request is lawful for a client that asked for no more credits than it has, and for no longer frames
pub lawful_answer_to : (client server : Limits) (request : Request) (grantable : ℕ) → IsLawful server → IsLawfulRequest request → 1 ≤ grantable
    → request.credits_requested ≤ client.credits → request.max_receive_size ≤ client.receive_size
    → IsLawfulResponse client (answer_to request server grantable)
lawful_answer_to client server request grantable answers lawful some enough longest =
    let asked = lawful.credits_requested in let credits = answers.credits in
    let receive = answers.receive_size in let fragmented = answers.fragmented_size in
    record {
      status = refl;
      negotiated_version = refl;
      credits_requested = omega arith;
      credits_granted = (omega arith, omega arith);
      preferred_send_size = omega arith;
      max_receive_size = receive.0;
      max_fragmented_size = fragmented.0;
    }

pub lawful_answer : (client server : Limits) (grantable : ℕ) → IsLawful client → IsLawful server → 1 ≤ grantable
    → IsLawfulResponse client (answer_to (request_of_limits client) server grantable)
lawful_answer client server grantable asks answers some =
    lawful_answer_to client server (request_of_limits client) grantable answers (lawful_request_of_limits client asks) some (omega arith) (omega arith)

-- what a server answers fits its fields
pub fits-answer : (server : Limits) (request : Request) (grantable : ℕ) → IsLawful server → grantable < 65536 → ResponseFits (answer_to request server grantable)
fits-answer server request grantable answers small =
    let credits = answers.credits in let send = answers.send_size in
    let receive = answers.receive_size in let fragmented = answers.fragmented_size in
    record {
      min_version = lit< tt;
      max_version = lit< tt;
      negotiated_version = lit< tt;
      credits_requested = omega arith;
      credits_granted = omega arith;
      status = lit< tt;
      max_read_write_size = lit< tt;
      preferred_send_size = omega arith;
      max_receive_size = omega arith;
      max_fragmented_size = omega arith;
    }

pub answer_fits : (client server : Limits) (grantable : ℕ) → IsLawful client → IsLawful server
    → ResponseFits (answer_to (request_of_limits client) server grantable)
answer_fits client server grantable asks answers =
    let asked = asks.credits in let credits = answers.credits in let send = answers.send_size in
    let receive = answers.receive_size in let fragmented = answers.fragmented_size in
    record {
      min_version = lit< tt;
      max_version = lit< tt;
      negotiated_version = lit< tt;
      credits_requested = omega arith;
      credits_granted = omega arith;
      status = lit< tt;
      max_read_write_size = lit< tt;
      preferred_send_size = omega arith;
      max_receive_size = omega arith;
      max_fragmented_size = omega arith;
    }

pub refusal_refused : (client : Limits) → response_fault client (response_bytes refusing_response) ≡ Some Status
unfolding response_fault fault_in_response
refusal_refused client = refl

-- ---- bytes after a message

u16_at-later : (bytes later : List ℕ) (place : ℕ) → place + 2 ≤ length bytes → u16_at place (bytes ++ later) ≡ u16_at place bytes
u16_at-later bytes later place within =
    let long : length (bytes ++ later) ≡ length bytes + length later = length-append bytes later in
    let inside : nat_lt (length bytes) (place + 2) ≡ false = grind (arith, nat_tests) in
    let longer : nat_lt (length (bytes ++ later)) (place + 2) ≡ false = grind (arith, nat_tests) in
    rw (inside, longer, get_or_append_left bytes later 0 place (omega arith), get_or_append_left bytes later 0 (place + 1) (omega arith)) refl

u32_at-later : (bytes later : List ℕ) (place : ℕ) → place + 4 ≤ length bytes → u32_at place (bytes ++ later) ≡ u32_at place bytes
u32_at-later bytes later place within =
    let long : length (bytes ++ later) ≡ length bytes + length later = length-append bytes later in
    let inside : nat_lt (length bytes) (place + 4) ≡ false = grind (arith, nat_tests) in
    let longer : nat_lt (length (bytes ++ later)) (place + 4) ≡ false = grind (arith, nat_tests) in
    rw (
      inside,
      longer,
      get_or_append_left bytes later 0 place (omega arith),
      get_or_append_left bytes later 0 (place + 1) (omega arith),
      get_or_append_left bytes later 0 (place + 2) (omega arith),
      get_or_append_left bytes later 0 (place + 3) (omega arith),
    ) refl

request_fields-later : (bytes later : List ℕ) → 20 ≤ length bytes → request_fields (bytes ++ later) ≡ request_fields bytes
request_fields-later bytes later long = λ i. record {
  min_version = u16_at-later bytes later 0 (omega arith) i;
  max_version = u16_at-later bytes later 2 (omega arith) i;
  credits_requested = u16_at-later bytes later 6 (omega arith) i;
  preferred_send_size = u32_at-later bytes later 8 (omega arith) i;
  max_receive_size = u32_at-later bytes later 12 (omega arith) i;
  max_fragmented_size = u32_at-later bytes later 16 (omega arith) i;
}

response_fields-later : (bytes later : List ℕ) → 32 ≤ length bytes → response_fields (bytes ++ later) ≡ response_fields bytes
response_fields-later bytes later long = λ i. record {
  min_version = u16_at-later bytes later 0 (omega arith) i;
  max_version = u16_at-later bytes later 2 (omega arith) i;
  negotiated_version = u16_at-later bytes later 4 (omega arith) i;
  credits_requested = u16_at-later bytes later 8 (omega arith) i;
  credits_granted = u16_at-later bytes later 10 (omega arith) i;
  status = u32_at-later bytes later 12 (omega arith) i;
  max_read_write_size = u32_at-later bytes later 16 (omega arith) i;
  preferred_send_size = u32_at-later bytes later 20 (omega arith) i;
  max_receive_size = u32_at-later bytes later 24 (omega arith) i;
  max_fragmented_size = u32_at-later bytes later 28 (omega arith) i;
}

whole_request : (bytes : List ℕ) → 20 ≤ length bytes → request_fault bytes ≡ fault_in_request (request_fields bytes)
unfolding request_fault
whole_request bytes long =
    cond-false (nat_lt (length bytes) 20) (Some Short) (fault_in_request (request_fields bytes)) (no_less_test (length bytes) 20 long)

whole_response : (limits : Limits) (bytes : List ℕ) → 32 ≤ length bytes → response_fault limits bytes ≡ fault_in_response limits (response_fields bytes)
unfolding response_fault
whole_response limits bytes long =
    cond-false (nat_lt (length bytes) 32) (Some Short) (fault_in_response limits (response_fields bytes)) (no_less_test (length bytes) 32 long)

pub read_request_of-later : (bytes later : List ℕ) → 20 ≤ length bytes → read_request_of (bytes ++ later) ≡ read_request_of bytes
read_request_of-later bytes later long =
    let same : request_fields (bytes ++ later) ≡ request_fields bytes = request_fields-later bytes later long in
    let fault : request_fault (bytes ++ later) ≡ request_fault bytes =
    whole_request (bytes ++ later) (omega (arith, length-append bytes later)) ∙ ap fault_in_request same ∙ sym (whole_request bytes long) in
    λ i. fields_or_fault (fault i) (same i)

pub read_response_of-later : (limits : Limits) (bytes later : List ℕ) → 32 ≤ length bytes
    → read_response_of limits (bytes ++ later) ≡ read_response_of limits bytes
read_response_of-later limits bytes later long =
    let same : response_fields (bytes ++ later) ≡ response_fields bytes = response_fields-later bytes later long in
    let fault : response_fault limits (bytes ++ later) ≡ response_fault limits bytes =
    whole_response limits (bytes ++ later) (omega (arith, length-append bytes later)) ∙ ap (fault_in_response limits) same ∙ sym (whole_response limits bytes long) in
    λ i. fields_or_fault (fault i) (same i)

-- ---- what is agreed

pub lawful_agreement_with_client : (limits : Limits) (request : Request) → IsLawful limits → IsLawfulRequest request
    → IsLawfulAgreement (agreed_with_client limits request)
lawful_agreement_with_client limits request own lawful =
    let send = own.send_size in let receive = lawful.max_receive_size in
    record { send_size = (omega arith, omega arith); message_max = lawful.max_fragmented_size; credits_requested = lawful.credits_requested }

pub lawful_agreement_with_server : (limits : Limits) (response : Response) → IsLawful limits → IsLawfulResponse limits response
    → IsLawfulAgreement (agreed_with_server limits response)
lawful_agreement_with_server limits response own lawful =
    let send = own.send_size in let receive = lawful.max_receive_size in
    record { send_size = (omega arith, omega arith); message_max = lawful.max_fragmented_size; credits_requested = lawful.credits_requested }
