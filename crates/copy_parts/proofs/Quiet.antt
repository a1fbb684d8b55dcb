-- What some events leave of what a machine said, was handed, and gave.
use Rattle.std.proofs.Common.{◌≡◌, ℕ, List, [], ◌∷◌, ◌++◌, refl}
use Rattle.file_messages.specs.declared.kind.CopyKind.TheVariants as kinds
use Rattle.file_messages.specs.declared.job.Work.{Work}
use Rattle.file_messages.specs.declared.job.Completion.{Completion}
use Rattle.file_pasts.specs.ClientPast as client
use Rattle.file_pasts.specs.ClientPast.{ClientEvent, groups_in, is_ended, requests_sent}
use Rattle.file_pasts.specs.GetLaws.{replies_in, groups_taken}
use Rattle.file_pasts.specs.ServerDue as server
use Rattle.file_pasts.specs.ServerDue.{ServerEvent, replies}
use Rattle.file_pasts.specs.ServerLaws.{messages_asked, groups_given, works_given, FillsFrom}
use Rattle.copy_laws.specs.ClientDone.{completions_in}
use Rattle.copy_laws.specs.ServerDone.{completions_taken}
use Rattle.copy_laws.specs.Growing.{bytes_filled}
use Rattle.copy_runs.specs.CopyPasts.{is_short}
use Rattle.copy_ends.specs.Ends.{IsTalk, IsServing}
use Rattle.copy_jobs.specs.Jobs.{client_completed, server_completed, client_gave, server_gave}

-- ---- the client

pub record SaysSame (a b : List ClientEvent) : Type 0 where
  pub sent : requests_sent b ≡ requests_sent a
  pub heard : replies_in b ≡ replies_in a

pub record BringsSame (a b : List ClientEvent) : Type 0 where
  pub groups : groups_in b ≡ groups_in a
  pub ended : is_ended b ≡ is_ended a
  pub taken : groups_taken b ≡ groups_taken a

pub record WorksSame (a b : List ClientEvent) : Type 0 where
  pub given : client.jobs_given b ≡ client.jobs_given a
  pub done : completions_in b ≡ completions_in a

pub completed-says : (cs : List Completion) (past : List ClientEvent) → SaysSame past (client_completed cs past)
completed-says [] past = record { sent = refl; heard = refl }
completed-says (c ∷ cs) past = let h = completed-says cs past in record { sent = h.sent; heard = h.heard }

pub completed-brings : (cs : List Completion) (past : List ClientEvent) → BringsSame past (client_completed cs past)
completed-brings [] past = record { groups = refl; ended = refl; taken = refl }
completed-brings (c ∷ cs) past = let h = completed-brings cs past in record { groups = h.groups; ended = h.ended; taken = h.taken }

pub gave-says : (ws : List Work) (past : List ClientEvent) → SaysSame past (client_gave ws past)
gave-says [] past = record { sent = refl; heard = refl }
gave-says (w ∷ ws) past = let h = gave-says ws past in record { sent = h.sent; heard = h.heard }

pub gave-brings : (ws : List Work) (past : List ClientEvent) → BringsSame past (client_gave ws past)
gave-brings [] past = record { groups = refl; ended = refl; taken = refl }
gave-brings (w ∷ ws) past = let h = gave-brings ws past in record { groups = h.groups; ended = h.ended; taken = h.taken }

pub talk-brings : (talk past : List ClientEvent) → IsTalk talk → BringsSame past (talk ++ past)
talk-brings [] past only = record { groups = refl; ended = refl; taken = refl }
talk-brings (client.Group bytes ∷ talk) past only = absurd only
talk-brings (client.End ∷ talk) past only = absurd only
talk-brings (client.Sent r ∷ talk) past only = let h = talk-brings talk past only in record { groups = h.groups; ended = h.ended; taken = h.taken }
talk-brings (client.Replied m ∷ talk) past only = let h = talk-brings talk past only in record { groups = h.groups; ended = h.ended; taken = h.taken }
talk-brings (client.Gave work ∷ talk) past only = absurd only
talk-brings (client.Completed c ∷ talk) past only = absurd only
talk-brings (client.Received bytes ∷ talk) past only = absurd only

pub talk-works : (talk past : List ClientEvent) → IsTalk talk → WorksSame past (talk ++ past)
talk-works [] past only = record { given = refl; done = refl }
talk-works (client.Group bytes ∷ talk) past only = absurd only
talk-works (client.End ∷ talk) past only = absurd only
talk-works (client.Sent r ∷ talk) past only = let h = talk-works talk past only in record { given = h.given; done = h.done }
talk-works (client.Replied m ∷ talk) past only = let h = talk-works talk past only in record { given = h.given; done = h.done }
talk-works (client.Gave work ∷ talk) past only = absurd only
talk-works (client.Completed c ∷ talk) past only = absurd only
talk-works (client.Received bytes ∷ talk) past only = absurd only

-- ---- the server

pub record RepliesSame (a b : List ServerEvent) : Type 0 where
  pub replied : replies b ≡ replies a
  pub asked : messages_asked b ≡ messages_asked a

pub record FillsSame (a b : List ServerEvent) : Type 0 where
  pub filled : bytes_filled b ≡ bytes_filled a
  pub short : is_short b ≡ is_short a
  pub fills : (bytes : List ℕ) → FillsFrom kinds.Get bytes a → FillsFrom kinds.Get bytes b

pub record ServesSame (a b : List ServerEvent) : Type 0 where
  pub given : works_given b ≡ works_given a
  pub done : completions_taken b ≡ completions_taken a

pub served-replies : (cs : List Completion) (past : List ServerEvent) → RepliesSame past (server_completed cs past)
served-replies [] past = record { replied = refl; asked = refl }
served-replies (c ∷ cs) past = let h = served-replies cs past in record { replied = h.replied; asked = h.asked }

pub served-fills : (cs : List Completion) (past : List ServerEvent) → FillsSame past (server_completed cs past)
served-fills [] past = record { filled = refl; short = refl; fills = λ bytes f. f }
served-fills (c ∷ cs) past = let h = served-fills cs past in record { filled = h.filled; short = h.short; fills = h.fills }

pub served-groups : (cs : List Completion) (past : List ServerEvent) → groups_given (server_completed cs past) ≡ groups_given past
served-groups [] past = refl
served-groups (c ∷ cs) past = served-groups cs past

pub works-replies : (ws : List Work) (past : List ServerEvent) → RepliesSame past (server_gave ws past)
works-replies [] past = record { replied = refl; asked = refl }
works-replies (w ∷ ws) past = let h = works-replies ws past in record { replied = h.replied; asked = h.asked }

pub works-fills : (ws : List Work) (past : List ServerEvent) → FillsSame past (server_gave ws past)
works-fills [] past = record { filled = refl; short = refl; fills = λ bytes f. f }
works-fills (w ∷ ws) past = let h = works-fills ws past in record { filled = h.filled; short = h.short; fills = h.fills }

pub works-groups : (ws : List Work) (past : List ServerEvent) → groups_given (server_gave ws past) ≡ groups_given past
works-groups [] past = refl
works-groups (w ∷ ws) past = works-groups ws past

pub serving-fills : (talk past : List ServerEvent) → IsServing talk → FillsSame past (talk ++ past)
serving-fills [] past only = record { filled = refl; short = refl; fills = λ bytes f. f }
serving-fills (server.Asked m ∷ talk) past only = let h = serving-fills talk past only in record { filled = h.filled; short = h.short; fills = h.fills }
serving-fills (server.Filled bytes ∷ talk) past only = absurd only
serving-fills (server.Gave work ∷ talk) past only = absurd only
serving-fills (server.Completed c ∷ talk) past only = absurd only
serving-fills (server.Replied r ∷ talk) past only = let h = serving-fills talk past only in record { filled = h.filled; short = h.short; fills = h.fills }
serving-fills (server.Stored bytes ∷ talk) past only = absurd only

pub serving-works : (talk past : List ServerEvent) → IsServing talk → ServesSame past (talk ++ past)
serving-works [] past only = record { given = refl; done = refl }
serving-works (server.Asked m ∷ talk) past only = let h = serving-works talk past only in record { given = h.given; done = h.done }
serving-works (server.Filled bytes ∷ talk) past only = absurd only
serving-works (server.Gave work ∷ talk) past only = absurd only
serving-works (server.Completed c ∷ talk) past only = absurd only
serving-works (server.Replied r ∷ talk) past only = let h = serving-works talk past only in record { given = h.given; done = h.done }
serving-works (server.Stored bytes ∷ talk) past only = absurd only

pub serving-groups : (talk past : List ServerEvent) → IsServing talk → groups_given (talk ++ past) ≡ groups_given past
serving-groups [] past only = refl
serving-groups (server.Asked m ∷ talk) past only = serving-groups talk past only
serving-groups (server.Filled bytes ∷ talk) past only = absurd only
serving-groups (server.Gave work ∷ talk) past only = absurd only
serving-groups (server.Completed c ∷ talk) past only = absurd only
serving-groups (server.Replied r ∷ talk) past only = serving-groups talk past only
serving-groups (server.Stored bytes ∷ talk) past only = absurd only
