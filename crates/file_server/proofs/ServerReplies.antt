-- The reply that is due, by what the server keeps.
use Rattle.std.proofs.Common.{◌≡◌, ℕ, ◌+◌, ◌==◌, ◌&&◌, Bool, true, false, cond, is_none, Option, Some, None, List, [], ◌∷◌, length, refl, sym, ap, ◌∙◌}
use Rattle.std.specs.Prelude.{option_map, slice_get}
use Rattle.file_messages.specs.declared.kind.CopyKind.{CopyKind}
use Rattle.file_messages.specs.declared.message.Request.{Request}
use Rattle.file_messages.specs.declared.message.Reply.{Reply}
use Rattle.file_messages.specs.declared.job.WorkResult.{WorkResult}
use Rattle.file_messages.specs.Messages.{WRITE, READ, success}
use Rattle.file_pasts.specs.ServerDue.{ServerEvent, replies, requests, standing_status, source_in_hand, source_for, wants_source, next_reply, reply_by_works, answer_with, read_reply, status_of}
use Rattle.file_server.specs.declared.server.FileServer.{FileServer}
use Rattle.file_server.specs.declared.server_turn.Filled.{Filled}
use Rattle.file_server.specs.ServerTurn.{outcomes_so_far, all_of, filled_for, filled_with, IsWithinBounds, header_in, header_of, header_with}
use Rattle.file_server.specs.ServerStands.{CameBy}
use Rattle.file_server.proofs.ServerLists.{second_left}
use Rattle.file_server.proofs.ServerOutcomes.{status-is}
use Rattle.file_server.proofs.ServerPasts.{reply_with, reply-is, handled-some, handled-none, request_at}

-- ---- the request in front

pub front-read : (kind : CopyKind) (past : List ServerEvent) (m : FileServer) (r : Request) (later : List Request) → CameBy kind past m → m.waiting.items ≡ r ∷ later → IsWithinBounds r
front-read kind past m r later c e = request_at (length (replies past)) (requests kind past).accepted r c.in_turn.read (handled-some kind past m r later c e)

pub second-read : (kind : CopyKind) (past : List ServerEvent) (m : FileServer) (r : Request) → CameBy kind past m → slice_get m.waiting.items 1 ≡ Some r → IsWithinBounds r
second-read kind past m r c e = request_at (length (replies past) + 1) (requests kind past).accepted r c.in_turn.read
    (sym (second_left (length (replies past)) (requests kind past).accepted) ∙ ap (λ (rs : List Request). slice_get rs 1) (sym c.waiting) ∙ e)

-- what is kept of the bytes for it
pub filled-is : (kind : CopyKind) (past : List ServerEvent) (m : FileServer) (r : Request) (later : List Request) → CameBy kind past m → m.waiting.items ≡ r ∷ later
    → m.turn.filled ≡ option_map (filled_with r) (source_in_hand past)
filled-is kind past m r later c e = c.turn.filled ∙ ap (λ (o : Option Request). filled_for o (source_in_hand past)) (handled-some kind past m r later c e)

pub wants-is : (kind : CopyKind) (past : List ServerEvent) (m : FileServer) (r : Request) (later : List Request) → CameBy kind past m → m.waiting.items ≡ r ∷ later
    → wants_source kind past ≡ cond (r.op == READ && m.status == 0 && is_none m.turn.filled) (Some r.length) None
wants-is kind past m r later c e =
    let none : is_none m.turn.filled ≡ is_none (source_in_hand past) = ap (λ (o : Option Filled). is_none o) (filled-is kind past m r later c e) ∙ by_source (source_in_hand past) in
    ap (λ (o : Option Request). source_for o past) (handled-some kind past m r later c e)
    ∙ ap (λ (s : ℕ). cond (r.op == READ && s == 0 && is_none (source_in_hand past)) (Some r.length) None) (sym c.status)
    ∙ ap (λ (t : Bool). cond (r.op == READ && m.status == 0 && t) (Some r.length) None) (sym none)
  where
    by_source : (s : Option (List ℕ)) → is_none (option_map (filled_with r) s) ≡ is_none s
    by_source None = refl
    by_source (Some bytes) = refl

pub wants-none : (kind : CopyKind) (past : List ServerEvent) (m : FileServer) → CameBy kind past m → m.waiting.items ≡ [] → wants_source kind past ≡ None
wants-none kind past m c e = ap (λ (o : Option Request). source_for o past) (handled-none kind past m c e)

-- ---- the header of the reply

header-answer : (r : Request) (source : Option (List ℕ)) (works : Option (List WorkResult))
    → option_map header_in (answer_with r source works) ≡ header_with r (option_map (filled_with r) source) (option_map status_of works)
header-answer r source None = refl
header-answer r source (Some works) = by_status (status_of works == 0) refl where
  by_status : (t : Bool) → (status_of works == 0) ≡ t → option_map header_in (reply_by_works r source works) ≡ header_with r (option_map (filled_with r) source) (Some (status_of works))
  by_status false e = rw e refl
  by_status true e = rw e (by_op (r.op == WRITE) (r.op == READ) source) where
    by_op : (w d : Bool) (source : Option (List ℕ))
        → option_map header_in (cond w (Some (success r r.length [])) (cond d (option_map (read_reply r) source) (Some (success r 0 []))))
        ≡ option_map (λ (count : ℕ). header_in (success r count [])) (cond w (Some r.length) (cond d (option_map (λ (f : Filled). f.count) (option_map (filled_with r) source)) (Some 0)))
    by_op true d source = refl
    by_op false true None = refl
    by_op false true (Some bytes) = refl
    by_op false false source = refl

pub header-is : (kind : CopyKind) (past : List ServerEvent) (m : FileServer) (r : Request) (later : List Request) → CameBy kind past m → m.waiting.items ≡ r ∷ later
    → option_map header_in (next_reply kind past) ≡ header_of r m.status m.turn.outcomes.items m.turn.filled
header-is kind past m r later c e =
    ap (λ (o : Option Reply). option_map header_in o) (reply-is kind past
    ∙ ap (λ (o : Option Request). reply_with o (standing_status past) (source_in_hand past) (all_of (outcomes_so_far kind past))) (handled-some kind past m r later c e)
    ∙ ap (λ (s : ℕ). reply_with (Some r) s (source_in_hand past) (all_of (outcomes_so_far kind past))) (sym c.status)
    ∙ ap (λ (os : List (Option WorkResult)). reply_with (Some r) m.status (source_in_hand past) (all_of os)) (sym c.turn.outcomes))
    ∙ by_status (m.status == 0) refl
    ∙ ap (λ (f : Option Filled). header_of r m.status m.turn.outcomes.items f) (sym (filled-is kind past m r later c e))
  where
    by_status : (t : Bool) → (m.status == 0) ≡ t
        → option_map header_in (reply_with (Some r) m.status (source_in_hand past) (all_of m.turn.outcomes.items)) ≡ header_of r m.status m.turn.outcomes.items (option_map (filled_with r) (source_in_hand past))
    by_status true s = rw s (header-answer r (source_in_hand past) (all_of m.turn.outcomes.items)
        ∙ ap (λ (o : Option ℕ). header_with r (option_map (filled_with r) (source_in_hand past)) o) (sym (status-is m.turn.outcomes.items)))
    by_status false s = rw s (rw s refl)

pub no_reply : (kind : CopyKind) (past : List ServerEvent) (m : FileServer) → CameBy kind past m → m.waiting.items ≡ [] → next_reply kind past ≡ None
no_reply kind past m c e = reply-is kind past ∙ ap (λ (o : Option Request). reply_with o (standing_status past) (source_in_hand past) (all_of (outcomes_so_far kind past))) (handled-none kind past m c e)
