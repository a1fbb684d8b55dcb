-- Worked copies of several groups, found by computation.
use Rattle.std.specs.Prelude.{◌≡◌, ℕ, true, List, [], ◌∷◌, map, replicate}
use Rattle.file_messages.specs.declared.kind.Channel.TheVariants as channels
use Rattle.file_messages.specs.declared.message.Request.{Request}
use Rattle.file_messages.specs.declared.message.Reply.{Reply}
use Rattle.file_messages.specs.Runs.{put_requests, get_requests, replies_to}

abbrev pub sevens : ℕ → List ℕ
sevens n = replicate n 7

abbrev pub ids : List Request → List ℕ
ids rs = map (λ (r : Request). r.id) rs

abbrev pub lengths : List Request → List ℕ
lengths rs = map (λ (r : Request). r.length) rs

abbrev pub offsets : List Request → List ℕ
offsets rs = map (λ (r : Request). r.offset) rs

abbrev pub counts : List Reply → List ℕ
counts rs = map (λ (r : Reply). r.count) rs

pub record CopiesSo : Type 0 where
  -- three groups exactly: the fourth READ gets nothing
  pub get_ids : ids (get_requests channels.V1 (sevens 196608)) ≡ 1 ∷ 2 ∷ 3 ∷ 4 ∷ 5 ∷ []
  pub get_counts : counts (replies_to (sevens 196608) (get_requests channels.V1 (sevens 196608))) ≡ 65536 ∷ 65536 ∷ 65536 ∷ 0 ∷ 0 ∷ []
  -- a group and a shorter one
  pub reads : counts (replies_to (sevens 100000) (get_requests channels.None (sevens 100000))) ≡ 65536 ∷ 34464 ∷ 0 ∷ []
  pub read_offsets : offsets (get_requests channels.None (sevens 100000)) ≡ 0 ∷ 65536 ∷ 100000 ∷ []
  pub writes : lengths (put_requests channels.None 64 true (sevens 100000)) ≡ 65536 ∷ 34464 ∷ 0 ∷ []
  pub write_offsets : offsets (put_requests channels.None 64 true (sevens 100000)) ≡ 0 ∷ 65536 ∷ 100000 ∷ []
