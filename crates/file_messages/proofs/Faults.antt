-- No fault of a message is want of memory.
use Rattle.std.proofs.Common.{◌≡◌, ◌+◌, ◌==◌, nat_lt, not, Bool, true, false, cond, Some, None, Result, Ok, Err, List, ℕ, length, sym, subst}
use Rattle.std.specs.Prelude.{IfErr, IsErrAnd}
use Rattle.smbd_base.specs.Fields.{u16_at, u32_at}
use Rattle.file_messages.specs.declared.fault.FileFault.{FileFault}
use Rattle.file_messages.specs.declared.fault.FileFault.TheVariants.{Short, Op, Channel, Count, Length, Overlap, Order, NoMemory}
use Rattle.file_messages.specs.declared.message.Asked.{Asked}
use Rattle.file_messages.specs.Messages.{is_short, is_op, counts_well, has_length, request_fields, overlap, has_count, reply_fields, request_fault, fault_in_reply, RefusesRequest, RefusesReply}

-- ---- whatever the tests say

request_tests : (a b c d e f : Bool) → cond a (Some Short) (cond b (Some Op) (cond c (Some Channel) (cond d (Some Count) (cond e (Some Length) (cond f (Some Overlap) (None)))))) ≡ Some NoMemory → ⊥
request_tests true b c d e f h = cc
request_tests false true c d e f h = cc
request_tests false false true d e f h = cc
request_tests false false false true e f h = cc
request_tests false false false false true f h = cc
request_tests false false false false false true h = cc
request_tests false false false false false false h = cc

reply_tests : (a b c d : Bool) → cond a (Some Short) (cond b (Some Op) (cond c (Some Length) (cond d (Some Order) (None)))) ≡ Some NoMemory → ⊥
reply_tests true b c d h = cc
reply_tests false true c d h = cc
reply_tests false false true d h = cc
reply_tests false false false true h = cc
reply_tests false false false false h = cc

never_asked : (bytes : List ℕ) → request_fault bytes ≡ Some NoMemory → ⊥
unfolding request_fault
never_asked bytes e =
    request_tests (is_short bytes) (not (is_op (u16_at 0 bytes))) (nat_lt 1 (u16_at 2 bytes)) (not (counts_well bytes))
    (not (has_length bytes (request_fields bytes))) (overlap (request_fields bytes).descriptors) e

never_replied : (asked : Asked) (bytes : List ℕ) → fault_in_reply asked bytes ≡ Some NoMemory → ⊥
unfolding fault_in_reply
never_replied asked bytes e =
    reply_tests (nat_lt (length bytes) 12) (not (u16_at 0 bytes == asked.op + 32768)) (not (has_count asked (reply_fields asked bytes)))
    (not (u32_at 4 bytes == asked.id)) e

-- ---- what is refused

pub refuses_request : (bytes : List ℕ) (fault : FileFault) → request_fault bytes ≡ Some fault → RefusesRequest bytes fault
refuses_request bytes Short e = e
refuses_request bytes Op e = e
refuses_request bytes Channel e = e
refuses_request bytes Count e = e
refuses_request bytes Length e = e
refuses_request bytes Overlap e = e
refuses_request bytes Order e = e
refuses_request bytes NoMemory e = absurd (never_asked bytes e)

pub refuses_reply : (asked : Asked) (bytes : List ℕ) (fault : FileFault) → fault_in_reply asked bytes ≡ Some fault → RefusesReply asked bytes fault
refuses_reply asked bytes Short e = e
refuses_reply asked bytes Op e = e
refuses_reply asked bytes Channel e = e
refuses_reply asked bytes Count e = e
refuses_reply asked bytes Length e = e
refuses_reply asked bytes Overlap e = e
refuses_reply asked bytes Order e = e
refuses_reply asked bytes NoMemory e = absurd (never_replied asked bytes e)

-- want of memory comes only where there is no fault
pub wanting_request : {A : Type 0} (bytes : List ℕ) (r : Result A FileFault) → request_fault bytes ≡ None → IsErrAnd r (λ e. e ≡ NoMemory) → IfErr r (RefusesRequest bytes)
wanting_request bytes (Ok x) none h = tt
wanting_request bytes (Err e) none h = subst (RefusesRequest bytes) (sym h) none

pub wanting_reply : {A : Type 0} (asked : Asked) (bytes : List ℕ) (r : Result A FileFault) → fault_in_reply asked bytes ≡ None → IsErrAnd r (λ e. e ≡ NoMemory)
    → IfErr r (RefusesReply asked bytes)
wanting_reply asked bytes (Ok x) none h = tt
wanting_reply asked bytes (Err e) none h = subst (RefusesReply asked bytes) (sym h) none
