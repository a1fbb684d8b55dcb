-- The server's machine and its end after a turn.
use Rattle.std.proofs.Common.{◌≡◌, ℕ, ◌+◌, ◌≤◌, Bool, true, false, not, Option, Some, None, Result, Ok, Err, List, [], ◌∷◌, ◌++◌, length, map, refl, sym, ap, ◌∙◌, subst, append-nil, append_assoc, length-append, arith}
use Rattle.std.specs.Prelude.{option_map, option_to_list, IfOk, OnOk}
use Rattle.std.proofs.lemmas.List.{map-append, length-map}
use Rattle.smbd_base.specs.declared.end_id.EndId.TheVariants as side
use Rattle.smbd_base.specs.declared.event.Event.{Event}
use Rattle.smbd_base.specs.declared.no_memory.NoMemory.{NoMemory}
use Rattle.smbd_base.specs.Delivery.{messages_delivered}
use Rattle.smbd_base.specs.History.{messages_submitted}
use Rattle.smbd_base.specs.Limits.{Limits}
use Rattle.sim_adapter.specs.declared.view.EndView.{EndView}
use Rattle.file_messages.specs.declared.fault.FileFault.{FileFault}
use Rattle.file_messages.specs.declared.fault.FileFault.TheVariants as faults
use Rattle.file_messages.specs.declared.kind.CopyKind.{CopyKind}
use Rattle.file_messages.specs.declared.message.Reply.{Reply}
use Rattle.file_messages.specs.declared.message.Request.{Request}
use Rattle.file_messages.specs.Messages.{reply_bytes}
use Rattle.file_pasts.specs.ServerDue.{ServerEvent, Asked, Filled, Gave, Completed, Replied, Stored, replies, next_reply, Requests, requests, judgement, with_judged}
use Rattle.file_pasts.specs.ServerLaws.{messages_asked}
use Rattle.file_server.specs.declared.server.FileServer.{FileServer}
use Rattle.file_server.specs.ServerStands.{CameBy, after_request, after_replying}
use Rattle.copy_ends.specs.Turns.{HasGrown, IsSendable}
use Rattle.copy_ends.specs.Ends.{RepliesFollow, IsServing, lacks_memory}
use Rattle.sim_adapter.specs.declared.view.Ends.{Ends}
use Rattle.end_shares.specs.Turns.{HasActed, HasAdded, HasTurned, delivered_by}
use Rattle.end_shares.specs.Servers.{ServerStands, ServerGoesOn, HasNoReply, MayServe, after_hearing}
use Rattle.copy_ends.proofs.Sizes.{reply_sendable}

-- ---- each reply follows its request

accepted_more : (r : Result Request FileFault) (q : Requests) → length (with_judged r q).accepted ≤ length q.accepted + 1
accepted_more (Ok r) q = let long : length (q.accepted ++ r ∷ []) ≡ length q.accepted + 1 = length-append q.accepted (r ∷ []) in omega arith
accepted_more (Err fault) q = omega arith

accepted_few : (kind : CopyKind) (past : List ServerEvent) → length (requests kind past).accepted ≤ length (messages_asked past)
accepted_few kind [] = omega arith
accepted_few kind (Asked m ∷ past) =
    let long : length (messages_asked past ++ m ∷ []) ≡ length (messages_asked past) + 1 = length-append (messages_asked past) (m ∷ []) in
    let more = accepted_more (judgement kind (requests kind past) (replies past) m) (requests kind past) in
    let few = accepted_few kind past in
    omega arith
accepted_few kind (Filled bytes ∷ past) = accepted_few kind past
accepted_few kind (Gave work ∷ past) = accepted_few kind past
accepted_few kind (Completed c ∷ past) = accepted_few kind past
accepted_few kind (Replied r ∷ past) = accepted_few kind past
accepted_few kind (Stored bytes ∷ past) = accepted_few kind past

-- the machine replies to accepted requests alone
said_few : (kind : CopyKind) (past : List ServerEvent) (m : FileServer) (limits : Limits) (events : List Event) → CameBy kind past m
    → messages_submitted events ≡ map reply_bytes (replies past) → messages_asked past ≡ messages_delivered side.Server limits events
    → length (messages_submitted events) ≤ length (messages_delivered side.Server limits events)
said_few kind past m limits events came sent heard =
    let said : length (messages_submitted events) ≡ length (replies past) = ap length sent ∙ length-map (replies past) reply_bytes in
    let asked : length (messages_asked past) ≡ length (messages_delivered side.Server limits events) = ap length heard in
    let few = accepted_few kind past in
    let replied = came.in_turn.replied in
    omega arith

followed_by : (limits : Limits) (past events : List Event) → length (events ++ past) ≤ length past + 1 → RepliesFollow limits past
    → length (messages_submitted (events ++ past)) ≤ length (messages_delivered side.Server limits (events ++ past)) → RepliesFollow limits (events ++ past)
followed_by limits past [] few f said = f
followed_by limits past (e ∷ []) few f said = (said, f)
followed_by limits past (e ∷ d ∷ events) few f said = absurd (let long = length-append events past in let b : ⊥ = omega arith in b)

followed : (limits later_limits : Limits) (past later : List Event) → HasGrown past later → later_limits ≡ limits → length later ≤ length past + 1 → RepliesFollow limits past
    → length (messages_submitted later) ≤ length (messages_delivered side.Server later_limits later) → RepliesFollow later_limits later
followed limits later_limits past later g same few f said =
    subst (λ (l : Limits). length (messages_submitted later) ≤ length (messages_delivered side.Server l later) → RepliesFollow l later) (sym same)
    (subst (λ (p : List Event). length p ≤ length past + 1 → length (messages_submitted p) ≤ length (messages_delivered side.Server limits p) → RepliesFollow limits p) (sym g.is)
    (λ short enough. followed_by limits past g.events short f enough) few) said

-- the server's end has added one event at most
abbrev pub AddsFew : EndView → EndView → Type 0
AddsFew old new = length new.past ≤ length old.past + 1

pub one_few : (old new : EndView) → HasAdded 1 old new → AddsFew old new
one_few old new h = let one : length new.past ≡ length old.past + 1 = h in omega arith

pub same_few : (old new : EndView) → new ≡ old → AddsFew old new
same_few old new h = let same : length new.past ≡ length old.past = ap (λ (v : EndView). length v.past) h in omega arith

-- ---- what a turn leaves

stands_after : (kind : CopyKind) (past later : List ServerEvent) (m n : FileServer) (old new : EndView) → ServerStands kind past m old → HasActed old new → AddsFew old new
    → CameBy kind later n → messages_submitted new.past ≡ map reply_bytes (replies later) → messages_asked later ≡ delivered_by side.Server new
    → ServerStands kind later n new
stands_after kind past later m n old new h a few came sent heard = record {
  came = came;
  sent = sent;
  heard = heard;
  follows = followed old.ends.server new.ends.server old.past new.past a.own (ap (λ (k : Ends). k.server) a.ends) few h.follows
      (said_few kind later n new.ends.server new.past came sent heard);
}

pub quiet : (kind : CopyKind) (past : List ServerEvent) (m : FileServer) (old new : EndView) → ServerStands kind past m old → HasTurned side.Server [] [] old new → AddsFew old new
    → ServerStands kind past m new
quiet kind past m old new h t few =
    stands_after kind past past m m old new h t.acted few h.came
    (t.submitted ∙ append-nil (messages_submitted old.past) ∙ h.sent)
    (h.heard ∙ sym (append-nil (delivered_by side.Server old)) ∙ sym t.delivered)

asked : (kind : CopyKind) (past : List ServerEvent) (m n : FileServer) (message : List ℕ) (old new : EndView) → ServerStands kind past m old → HasTurned side.Server [] (message ∷ []) old new
    → AddsFew old new → CameBy kind (Asked message ∷ past) n → ServerStands kind (Asked message ∷ past) n new
asked kind past m n message old new h t few came =
    stands_after kind past (Asked message ∷ past) m n old new h t.acted few came
    (t.submitted ∙ append-nil (messages_submitted old.past) ∙ h.sent)
    (ap (λ (ms : List (List ℕ)). ms ++ message ∷ []) h.heard ∙ sym t.delivered)

replied : (kind : CopyKind) (past : List ServerEvent) (m n : FileServer) (r : Reply) (old new : EndView) → ServerStands kind past m old → HasTurned side.Server (reply_bytes r ∷ []) [] old new
    → AddsFew old new → CameBy kind (Replied r ∷ past) n → ServerStands kind (Replied r ∷ past) n new
replied kind past m n r old new h t few came =
    stands_after kind past (Replied r ∷ past) m n old new h t.acted few came
    (t.submitted ∙ ap (λ (ms : List (List ℕ)). ms ++ reply_bytes r ∷ []) h.sent ∙ sym (map-append reply_bytes (replies past) (r ∷ [])))
    (h.heard ∙ sym (append-nil (delivered_by side.Server old)) ∙ sym t.delivered)

-- ---- going on

serving_more : (xs ys : List ServerEvent) → IsServing xs → IsServing ys → IsServing (xs ++ ys)
serving_more [] ys x y = y
serving_more (Asked m ∷ xs) ys x y = serving_more xs ys x y
serving_more (Filled bytes ∷ xs) ys x y = absurd x
serving_more (Gave work ∷ xs) ys x y = absurd x
serving_more (Completed c ∷ xs) ys x y = absurd x
serving_more (Replied r ∷ xs) ys x y = serving_more xs ys x y
serving_more (Stored bytes ∷ xs) ys x y = absurd x

not_resting : {A : Type 0} → false ≡ true → A
not_resting e = absurd (let b : ⊥ = cc in b)

pub still : (kind : CopyKind) (past : List ServerEvent) (m : FileServer) (w : EndView) → ServerStands kind past m w → ServerGoesOn kind past false m w
still kind past m w h = record { later = past; talked = record { talk = []; only = tt; is = refl }; stands = h; at_rest = λ e. not_resting e }

one_more : (kind : CopyKind) (past : List ServerEvent) (e : ServerEvent) (m : FileServer) (w : EndView) → IsServing (e ∷ []) → ServerStands kind (e ∷ past) m w → ServerGoesOn kind past false m w
one_more kind past e m w only h = record { later = e ∷ past; talked = record { talk = e ∷ []; only = only; is = refl }; stands = h; at_rest = λ x. not_resting x }

pub go_on : (kind : CopyKind) (past : List ServerEvent) (before after : Bool) (m n : FileServer) (v w : EndView) → (g : ServerGoesOn kind past before m v) → ServerGoesOn kind g.later after n w
    → ServerGoesOn kind past after n w
go_on kind past before after m n v w g h = record {
  later = h.later;
  talked = record {
    talk = h.talked.talk ++ g.talked.talk;
    only = serving_more h.talked.talk g.talked.talk h.talked.only g.talked.only;
    is = h.talked.is ∙ ap (λ (p : List ServerEvent). h.talked.talk ++ p) g.talked.is ∙ sym (append_assoc h.talked.talk g.talked.talk past);
  };
  stands = h.stands;
  at_rest = h.at_rest;
}

-- ---- a frame is taken

taken_by : (r : Result Unit FileFault) (message : List ℕ) (past : List ServerEvent) → lacks_memory r ≡ false → after_request r message past ≡ Asked message ∷ past
taken_by (Ok u) message past e = refl
taken_by (Err faults.Short) message past e = refl
taken_by (Err faults.Op) message past e = refl
taken_by (Err faults.Channel) message past e = refl
taken_by (Err faults.Count) message past e = refl
taken_by (Err faults.Length) message past e = refl
taken_by (Err faults.Overlap) message past e = refl
taken_by (Err faults.Order) message past e = refl
taken_by (Err faults.NoMemory) message past e = absurd (let b : ⊥ = cc in b)

-- a request that was not refused for want of memory was handed in
pub handed : (kind : CopyKind) (past : List ServerEvent) (n : FileServer) (r : Result Unit FileFault) (message : List ℕ) → lacks_memory r ≡ false
    → CameBy kind (after_request r message past) n → CameBy kind (Asked message ∷ past) n
handed kind past n r message taken came = subst (λ (p : List ServerEvent). CameBy kind p n) (taken_by r message past taken) came

pub heard : (kind : CopyKind) (past : List ServerEvent) (m n : FileServer) (message : Option (List ℕ)) (old new : EndView) → ServerStands kind past m old
    → HasTurned side.Server [] (option_to_list message) old new → HasAdded 1 old new → CameBy kind (after_hearing message past) n → ServerGoesOn kind past false n new
heard kind past m n None old new h t one came =
    let q = quiet kind past m old new h t (one_few old new one) in
    still kind past n new (record { came = came; sent = q.sent; heard = q.heard; follows = q.follows })
heard kind past m n (Some message) old new h t one came =
    one_more kind past (Asked message) n new tt (asked kind past m n message old new h t (one_few old new one) came)

-- ---- a reply is given

-- this reply is due, with these bytes
record IsDue (kind : CopyKind) (past : List ServerEvent) (message : List ℕ) : Type 0 where
  reply : Reply
  due : next_reply kind past ≡ Some reply
  bytes : message ≡ reply_bytes reply

due_by : (o : Option Reply) (message : List ℕ) → Some message ≡ option_map reply_bytes o → (r : Reply) × (o ≡ Some r) × (message ≡ reply_bytes r)
due_by None message e = absurd (let b : ⊥ = cc in b)
due_by (Some r) message e = (r, refl, cc)

is_due : (kind : CopyKind) (past : List ServerEvent) (message : List ℕ) → Some message ≡ option_map reply_bytes (next_reply kind past) → IsDue kind past message
is_due kind past message e = let d = due_by (next_reply kind past) message e in record { reply = d.0; due = d.1; bytes = d.2 }

pub fits : (kind : CopyKind) (past : List ServerEvent) (m : FileServer) (message : List ℕ) → CameBy kind past m → Some message ≡ option_map reply_bytes (next_reply kind past) → IsSendable message
fits kind past m message came e =
    let d = is_due kind past message e in
    subst IsSendable (sym d.bytes) (reply_sendable kind past m d.reply came d.due)

pub said_one : (kind : CopyKind) (past : List ServerEvent) (m n : FileServer) (message : List ℕ) (old new : EndView) → ServerStands kind past m old
    → Some message ≡ option_map reply_bytes (next_reply kind past) → CameBy kind (after_replying (next_reply kind past) past) n → HasTurned side.Server (message ∷ []) [] old new
    → HasAdded 1 old new → ServerGoesOn kind past false n new
said_one kind past m n message old new h e came t one =
    let d = is_due kind past message e in
    one_more kind past (Replied d.reply) n new tt
    (replied kind past m n d.reply old new h (subst (λ (x : List ℕ). HasTurned side.Server (x ∷ []) [] old new) d.bytes t) (one_few old new one)
    (subst (λ (o : Option Reply). CameBy kind (after_replying o past) n) d.due came))

none_due : (o : Option Reply) → None ≡ option_map reply_bytes o → o ≡ None
none_due None e = refl
none_due (Some r) e = absurd (let b : ⊥ = cc in b)

pub says_none : (kind : CopyKind) (past : List ServerEvent) (m n : FileServer) (old : EndView) → ServerStands kind past m old → None ≡ option_map reply_bytes (next_reply kind past)
    → CameBy kind (after_replying (next_reply kind past) past) n → HasNoReply kind past n old old
says_none kind past m n old h e came =
    let none = none_due (next_reply kind past) e in
    record {
      due = none;
      same = refl;
      stands = record { came = subst (λ (o : Option Reply). CameBy kind (after_replying o past) n) none came; sent = h.sent; heard = h.heard; follows = h.follows };
    }

-- ---- a whole turn

-- a turn in which nothing was done leaves no reply to give
pub served : (kind : CopyKind) (past : List ServerEvent) (m n k : FileServer) (old v w x : EndView) (r : Result Bool NoMemory) → ServerStands kind past m old
    → HasTurned side.Server [] [] old v → v ≡ old
    → (ServerStands kind past m v → ServerGoesOn kind past false n w)
    → ((later : List ServerEvent) → ServerStands kind later n w → OnOk r (ServerGoesOn kind later false k x))
    → ((later : List ServerEvent) → ServerStands kind later n w → IfOk r (λ sent. sent ≡ false → HasNoReply kind later k w x))
    → IfOk r (λ did. ServerGoesOn kind past (not did) k x)
served kind past m n k old v w x (Err fault) h t same taken said due = tt
served kind past m n k old v w x (Ok true) h t same taken said due =
    let g = taken (quiet kind past m old v h t (same_few old v same)) in
    go_on kind past false false n k w x g (said g.later g.stands)
served kind past m n k old v w x (Ok false) h t same taken said due =
    let g = taken (quiet kind past m old v h t (same_few old v same)) in
    let q = due g.later g.stands refl in
    record { later = g.later; talked = g.talked; stands = q.stands; at_rest = λ e. q.due }

-- ---- a round

-- what the turns so far have left may go on
pub may_serve : (kind : CopyKind) (past : List ServerEvent) (n : FileServer) (w : EndView) → ServerGoesOn kind past false n w → MayServe n w
may_serve kind past n w g = record { kind = kind; past = g.later; stands = g.stands }
