-- A put over registered pages whose loads have the tokens that a pool gives them: the generation of a page's load is one
-- above the loads before it.
use Rattle.std.specs.Prelude.{◌≡◌, ℕ, ◌+◌, ◌<◌, List, [], ◌∷◌, length}
use mathlib.Core.List.{IsPrefix}
use Rattle.smbd_base.specs.Tokens.{number_of}
use Rattle.file_messages.specs.declared.kind.Channel.TheVariants as channels
use Rattle.file_messages.specs.declared.job.WorkResult.{WorkResult}
use Rattle.file_messages.specs.declared.job.WorkResult.TheVariants.{Loaded, Unloaded, Fetched, Placed, Refused}
use Rattle.file_messages.specs.Runs.{put_requests, windows}
use Rattle.file_pasts.specs.ClientPast.{ClientEvent, Group, End, Sent, Replied, Gave, Completed, Received, is_ended, requests_sent, descriptors_on, token_of_descriptor}
use Rattle.file_pasts.specs.PutDue.{IsPut}
use Rattle.file_pasts.specs.PutLaws.{put_over, bytes_in}

abbrev pub IsNextToken : WorkResult → List ClientEvent → Type 0
IsNextToken (Loaded d) past = d.token ≡ number_of (record { page = (token_of_descriptor d).page; generation = length (descriptors_on (token_of_descriptor d).page past) + 1 })
IsNextToken (Fetched bytes) past = Unit {0}
IsNextToken Placed past = Unit {0}
IsNextToken (Unloaded bytes) past = Unit {0}
IsNextToken (Refused status) past = Unit {0}

abbrev pub HasPoolTokens : List ClientEvent → Type 0
HasPoolTokens [] = Unit {0}
HasPoolTokens (Group bytes ∷ past) = HasPoolTokens past
HasPoolTokens (End ∷ past) = HasPoolTokens past
HasPoolTokens (Sent r ∷ past) = HasPoolTokens past
HasPoolTokens (Replied m ∷ past) = HasPoolTokens past
HasPoolTokens (Gave work ∷ past) = HasPoolTokens past
HasPoolTokens (Completed c ∷ past) = IsNextToken c.result past × HasPoolTokens past
HasPoolTokens (Received bytes ∷ past) = HasPoolTokens past

-- then it asks for its bytes, in order, by the descriptors of its pages
abbrev pub RegisteredPutsName : Type 0
RegisteredPutsName = (pages : ℕ) (past : List ClientEvent) → 0 < windows pages → IsPut (put_over channels.V1 pages) past → HasPoolTokens past
    → IsPrefix (requests_sent past) (put_requests channels.V1 pages (is_ended past) (bytes_in past))
