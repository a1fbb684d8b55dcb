-- What a job that is given leaves as it was: the group that waits for the sink, and whether bytes are wanted.
use Rattle.std.proofs.Common.{◌≡◌, ℕ, ◌+◌, ◌-◌, ◌==◌, ◌&&◌, nat_lt, not, Bool, cond, Option, None, Some, List, [], ◌∷◌, ◌++◌, refl, ap, ◌∙◌, arith}
use Rattle.std.specs.Prelude.{slice_get, is_some}
use Rattle.file_messages.specs.declared.kind.Channel.{Channel}
use Rattle.file_messages.specs.declared.kind.Channel.TheVariants as channels
use Rattle.file_messages.specs.declared.kind.CopyKind.{CopyKind}
use Rattle.file_messages.specs.declared.kind.CopyKind.TheVariants as kinds
use Rattle.file_messages.specs.declared.message.Request.{Request}
use Rattle.file_messages.specs.declared.job.Work.{Work}
use Rattle.file_messages.specs.declared.job.WorkResult.{WorkResult}
use Rattle.file_messages.specs.Runs.{pages_of, page_of, turn_of}
use Rattle.file_pasts.specs.ClientPast as client
use Rattle.file_pasts.specs.ClientPast.{ClientEvent, groups_in, is_ended, unloads_on}
use Rattle.file_pasts.specs.PutDue.{are_unloaded, groups_on_pages, are_whole, has_room}
use Rattle.file_pasts.specs.PutLaws.{put_over}
use Rattle.file_pasts.specs.ServerDue.{ServerEvent, Gave, jobs_given, jobs_in_hand, handled, standing_status, jobs_if_handled, jobs_due, result_at, result_in_front, results_from, results, source_for, wants_source, group_of, group_if_handled, groups_replied, groups_stored, next_group}
use Rattle.copy_laws.specs.Coupled.{Pasts}
use Rattle.copy_laws.specs.Kinds.{group_due, group_wanted}
use Rattle.copy_runs.specs.CopyPasts.{group_left}
use Rattle.copy_jobs.specs.Jobs.{client_gave, server_gave}
use Rattle.copy_parts.specs.Copies.{wants_bytes}

-- ---- the server

source-gave : (o : Option Request) (work : Work) (past : List ServerEvent) → source_for o (Gave work ∷ past) ≡ source_for o past
source-gave None work past = refl
source-gave (Some r) work past = refl

source-wanted : (kind : CopyKind) (work : Work) (past : List ServerEvent) → wants_source kind (Gave work ∷ past) ≡ wants_source kind past
source-wanted kind work past = source-gave (handled kind past) work past

jobs-gave : (kind : CopyKind) (o : Option Request) (work : Work) (past : List ServerEvent) → jobs_if_handled kind o (Gave work ∷ past) ≡ jobs_if_handled kind o past
jobs-gave kind None work past = refl
jobs-gave kind (Some r) work past = refl

results-gave : (number : ℕ) (works : List Work) (work : Work) (past : List ServerEvent) → results_from number works (Gave work ∷ past) ≡ results_from number works past
results-gave number [] work past = refl
results-gave number (w ∷ works) work past = ap (λ (later : Option (List WorkResult)). result_in_front (result_at number past) later) (results-gave (number + 1) works work past)

results-same : (kind : CopyKind) (work : Work) (past : List ServerEvent) → results kind (Gave work ∷ past) ≡ results kind past
results-same kind work past =
    let first : jobs_given past + 1 - (jobs_in_hand past + 1) ≡ jobs_given past - jobs_in_hand past = omega arith in
    ap (λ (n : ℕ). results_from n (jobs_due kind (Gave work ∷ past)) (Gave work ∷ past)) first
    ∙ ap (λ (works : List Work). results_from (jobs_given past - jobs_in_hand past) works (Gave work ∷ past)) (jobs-gave kind (handled kind past) work past)
    ∙ results-gave (jobs_given past - jobs_in_hand past) (jobs_due kind past) work past

group-gave : (kind : CopyKind) (o : Option Request) (work : Work) (past : List ServerEvent) → group_if_handled kind o (Gave work ∷ past) ≡ group_if_handled kind o past
group-gave kind None work past = refl
group-gave kind (Some r) work past = ap (λ (works : Option (List WorkResult)). cond (standing_status past == 0) (group_of r works) []) (results-same kind work past)

group-waits : (kind : CopyKind) (work : Work) (past : List ServerEvent) → next_group kind (Gave work ∷ past) ≡ next_group kind past
group-waits kind work past = ap (λ (groups : List (List ℕ)). slice_get (groups_replied kind past ++ groups) (groups_stored past)) (group-gave kind (handled kind past) work past)

-- ---- the client

unloaded-gave : (w k i : ℕ) (parts : List (List ℕ)) (work : Work) (past : List ClientEvent) → are_unloaded w k i parts (client.Gave work ∷ past) ≡ are_unloaded w k i parts past
unloaded-gave w k i [] work past = refl
unloaded-gave w k i (part ∷ parts) work past = ap (λ (later : Bool). nat_lt (turn_of w k) (unloads_on (page_of w k i) past) && later) (unloaded-gave w k (i + 1) parts work past)

pages-gave : (w k : ℕ) (groups : List (List ℕ)) (work : Work) (past : List ClientEvent) → groups_on_pages w k groups (client.Gave work ∷ past) ≡ groups_on_pages w k groups past
pages-gave w k [] work past = refl
pages-gave w k (group ∷ groups) work past =
    ap (λ (t : Bool). cond t (groups_on_pages w (k + 1) groups (client.Gave work ∷ past)) (groups_on_pages w (k + 1) groups (client.Gave work ∷ past) + 1)) (unloaded-gave w k 0 (pages_of group) work past)
    ∙ ap (λ (n : ℕ). cond (are_unloaded w k 0 (pages_of group) past) n (n + 1)) (pages-gave w (k + 1) groups work past)

room-gave : (channel : Channel) (w : ℕ) (work : Work) (past : List ClientEvent) → has_room (record { channel = channel; windows = w }) (client.Gave work ∷ past) ≡ has_room (record { channel = channel; windows = w }) past
room-gave channels.None w work past = refl
room-gave channels.V1 w work past = ap (λ (n : ℕ). nat_lt n w) (pages-gave w 1 (groups_in past) work past)

group-wanted : (kind : CopyKind) (channel : Channel) (pages : ℕ) (work : Work) (past : List ClientEvent) → group_wanted kind channel pages (client.Gave work ∷ past) ≡ group_wanted kind channel pages past
group-wanted kinds.Put channel pages work past =
    ap (λ (t : Bool). not (is_ended past) && are_whole (groups_in past) && t) (room-gave (put_over channel pages).channel (put_over channel pages).windows work past)
group-wanted kinds.Get channel pages work past = refl

group-due : (kind : CopyKind) (channel : Channel) (work : Work) (past : List ClientEvent) → group_due kind channel (client.Gave work ∷ past) ≡ group_due kind channel past
group-due kinds.Put channel work past = refl
group-due kinds.Get channel work past = refl

-- ---- jobs one after another

all-waiting : (kind : CopyKind) (works : List Work) (past : List ServerEvent) → next_group kind (server_gave works past) ≡ next_group kind past
all-waiting kind [] past = refl
all-waiting kind (work ∷ works) past = group-waits kind work (server_gave works past) ∙ all-waiting kind works past

all-source : (kind : CopyKind) (works : List Work) (past : List ServerEvent) → wants_source kind (server_gave works past) ≡ wants_source kind past
all-source kind [] past = refl
all-source kind (work ∷ works) past = source-wanted kind work (server_gave works past) ∙ all-source kind works past

all-wanted : (kind : CopyKind) (channel : Channel) (pages : ℕ) (works : List Work) (past : List ClientEvent)
    → group_wanted kind channel pages (client_gave works past) ≡ group_wanted kind channel pages past
all-wanted kind channel pages [] past = refl
all-wanted kind channel pages (work ∷ works) past = group-wanted kind channel pages work (client_gave works past) ∙ all-wanted kind channel pages works past

all-due : (kind : CopyKind) (channel : Channel) (works : List Work) (past : List ClientEvent) → group_due kind channel (client_gave works past) ≡ group_due kind channel past
all-due kind channel [] past = refl
all-due kind channel (work ∷ works) past = group-due kind channel work (client_gave works past) ∙ all-due kind channel works past

pub left-given : (kind : CopyKind) (channel : Channel) (cs ss : List Work) (p : Pasts)
    → group_left kind channel (record p { client = client_gave cs p.client; server = server_gave ss p.server }) ≡ group_left kind channel p
left-given kinds.Put channel cs ss p = all-waiting kinds.Put ss p.server
left-given kinds.Get channel cs ss p = all-due kinds.Get channel cs p.client

pub wants-given : (kind : CopyKind) (channel : Channel) (pages : ℕ) (cs ss : List Work) (p : Pasts)
    → wants_bytes kind channel pages (record p { client = client_gave cs p.client; server = server_gave ss p.server }) ≡ wants_bytes kind channel pages p
wants-given kinds.Put channel pages cs ss p = all-wanted kinds.Put channel pages cs p.client
wants-given kinds.Get channel pages cs ss p = ap (λ (o : Option ℕ). is_some o) (all-source kinds.Get ss p.server)
