-- A copy has few requests.
use Rattle.std.proofs.Common.{◌≡◌, ℕ, ◌+◌, ◌/◌, ◌≤◌, Bool, true, false, List, length, arith}
use Rattle.std.proofs.lemmas.List.{length-map}
use Rattle.file_messages.specs.declared.kind.Channel.{Channel}
use Rattle.file_messages.specs.declared.kind.CopyKind.{CopyKind}
use Rattle.file_messages.specs.declared.kind.CopyKind.TheVariants as kinds
use Rattle.file_messages.specs.Messages.{request_bytes}
use Rattle.file_messages.specs.Runs.{reads_count}
use Rattle.copy_runs.specs.Runs.{requests_of, request_messages}
use Rattle.copy_runs.specs.Laws.{RequestsAreFew}
use Rattle.copy_runs.proofs.EndLists.{front-few, length-groups, put-few, length-reads, length-get}

run-few : (kind : CopyKind) (channel : Channel) (pages : ℕ) (ended : Bool) (bytes : List ℕ) → length (requests_of kind channel pages ended bytes) ≤ length bytes / 65536 + 2
run-few kinds.Put channel pages ended bytes = (let few = put-few channel pages ended bytes in let groups = length-groups bytes in omega (arith, few, groups))
run-few kinds.Get channel pages true bytes = (let z = length-get channel bytes in omega (arith, z))
run-few kinds.Get channel pages false bytes = (let z = length-reads channel (reads_count bytes) 1 in omega (arith, z))

pub requests-are-few : RequestsAreFew
requests-are-few kind channel pages ended bytes m clients servers groups r =
    let few = front-few m.requests (request_messages kind channel pages ended bytes) r.requests in
    let long : length (request_messages kind channel pages ended bytes) ≡ length (requests_of kind channel pages ended bytes) = length-map (requests_of kind channel pages ended bytes) request_bytes in
    let all = run-few kind channel pages ended bytes in
    omega (arith, few, long, all)
