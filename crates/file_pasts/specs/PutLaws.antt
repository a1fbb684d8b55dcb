-- A put asks for the WRITEs of its bytes, in order, and END after them.
use Rattle.std.specs.Prelude.{◌≡◌, ℕ, ◌+◌, List, [], ◌∷◌, length, Some, slice_get}
use Rattle.std.specs.List.{flat_map}
use mathlib.Core.List.{IsPrefix}
use Rattle.file_messages.specs.declared.kind.Channel.{Channel}
use Rattle.file_messages.specs.declared.kind.Channel.TheVariants as channels
use Rattle.file_messages.specs.Runs.{put_requests, windows, write_of}
use Rattle.file_pasts.specs.ClientPast.{ClientEvent, Group, End, Sent, Replied, Gave, Completed, Received, groups_in, is_ended, requests_sent}
use Rattle.file_pasts.specs.PutDue.{Setup, IsPut, bytes_before}

-- the bytes that were handed in
abbrev pub bytes_in : List ClientEvent → List ℕ
bytes_in past = flat_map (λ (group : List ℕ). group) (groups_in past)

-- a put over so many pages
abbrev pub put_over : Channel → ℕ → Setup
put_over channel pages = record { channel = channel; windows = windows pages }

-- each WRITE names its group's pages as the first loads of them would be named
abbrev pub NamesOwn : Setup → List ClientEvent → Type 0
NamesOwn s [] = Unit {0}
NamesOwn s (Group bytes ∷ past) = NamesOwn s past
NamesOwn s (End ∷ past) = NamesOwn s past
NamesOwn s (Sent r ∷ past) =
    ((group : List ℕ) → slice_get (groups_in past) (length (requests_sent past)) ≡ Some group
    → r ≡ write_of s.channel s.windows (length (requests_sent past) + 1) (bytes_before (length (requests_sent past) + 1) past) group)
    × NamesOwn s past
NamesOwn s (Replied m ∷ past) = NamesOwn s past
NamesOwn s (Gave work ∷ past) = NamesOwn s past
NamesOwn s (Completed c ∷ past) = NamesOwn s past
NamesOwn s (Received bytes ∷ past) = NamesOwn s past

abbrev pub PutsAsk : Type 0
PutsAsk = (pages : ℕ) (past : List ClientEvent) → IsPut (put_over channels.None pages) past
    → IsPrefix (requests_sent past) (put_requests channels.None pages (is_ended past) (bytes_in past))

abbrev pub RegisteredPutsAsk : Type 0
RegisteredPutsAsk = (pages : ℕ) (past : List ClientEvent) → IsPut (put_over channels.V1 pages) past → NamesOwn (put_over channels.V1 pages) past
    → IsPrefix (requests_sent past) (put_requests channels.V1 pages (is_ended past) (bytes_in past))
