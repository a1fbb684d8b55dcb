-- The groups that come of a get over registered pages.
use Rattle.std.specs.Prelude.{ℕ, ◌+◌, ◌-◌, ◌*◌, List, ◌++◌, take, drop, replicate}
use Rattle.smbd_base.specs.declared.token.TheConstants.{PAGE_SIZE}
use Rattle.file_messages.specs.declared.layout.TheConstants.{GROUP_SIZE}
use mathlib.Core.List.{IsPrefix}
use Rattle.smbd_base.specs.Tokens.{PageToken}
use Rattle.file_messages.specs.declared.kind.Channel.TheVariants as channels
use Rattle.file_messages.specs.Runs.{groups_of}
use Rattle.file_messages.specs.Written.{IsCopyable}
use Rattle.file_pasts.specs.ClientPast.{ClientEvent}
use Rattle.file_pasts.specs.GetDue.{IsGet}
use Rattle.file_pasts.specs.PutTokens.{HasPoolTokens}
use Rattle.file_pasts.specs.GetLaws.{IsAnswered, groups_taken}
use Rattle.file_pasts.specs.GetPagesBack.{UnloadsBring}

-- a page of zeros after these bytes were placed at its front
abbrev pub page_with : List ℕ → List ℕ
page_with part = take PAGE_SIZE (part ++ replicate PAGE_SIZE 0)

-- what the server of a get of these bytes placed in the page of a token: the token's generation is the number of the READ that
-- named it, and its page that of the part
abbrev pub page_placed : List ℕ → PageToken → List ℕ
page_placed bytes t = page_with (take PAGE_SIZE (drop (GROUP_SIZE * (t.generation - 1) + PAGE_SIZE * t.page) bytes))

-- where each Unload brings what the server placed, the groups that are given are a front of those of the bytes
abbrev pub RegisteredGetsReceive : Type 0
RegisteredGetsReceive = (bytes : List ℕ) (past : List ClientEvent) → IsCopyable bytes → IsGet channels.V1 past → HasPoolTokens past → IsAnswered channels.V1 bytes past
    → UnloadsBring (page_placed bytes) past → IsPrefix (groups_taken past) (groups_of bytes)
