-- The client's machine and its end after a turn.
use Rattle.std.proofs.Common.{◌≡◌, ℕ, ◌+◌, ◌<◌, ◌≤◌, Bool, true, false, not, Option, Some, None, Result, Ok, Err, List, [], ◌∷◌, ◌++◌, length, refl, sym, ap, ◌∙◌, subst, append-nil, append_assoc, length-append, arith}
use Rattle.std.specs.Prelude.{option_map, option_to_list, IfOk, OnOk}
use Rattle.std.proofs.lemmas.List.{map-append}
use Rattle.smbd_base.specs.declared.end_id.EndId.TheVariants as side
use Rattle.smbd_base.specs.declared.no_memory.NoMemory.{NoMemory}
use Rattle.smbd_base.specs.History.{messages_submitted}
use Rattle.sim_adapter.specs.declared.view.EndView.{EndView}
use Rattle.file_messages.specs.declared.kind.Channel.{Channel}
use Rattle.file_messages.specs.declared.kind.CopyKind.{CopyKind}
use Rattle.file_messages.specs.declared.message.Request.{Request}
use Rattle.file_messages.specs.Messages.{request_bytes}
use Rattle.file_pasts.specs.ClientPast.{ClientEvent, Group, End, Sent, Replied, Gave, Completed, Received, requests_sent}
use Rattle.file_transfer.specs.ClientStands.{past_after_sending}
use Rattle.copy_ends.specs.declared.client_machine.ClientMachine.{ClientMachine}
use Rattle.copy_ends.specs.Clients.{ClientCameBy}
use Rattle.copy_laws.specs.Kinds.{request_due}
use Rattle.copy_ends.specs.Turns.{IsSendable}
use Rattle.copy_ends.specs.Ends.{IsTalk}
use Rattle.end_shares.specs.Turns.{HasTurned, delivered_by}
use Rattle.end_shares.specs.Clients.{ClientStands, ClientGoesOn, HasNoRequest, MayTalk, after_hearing}
use Rattle.copy_ends.proofs.Sizes.{request_sendable}

-- ---- what a turn leaves

pub quiet : (kind : CopyKind) (channel : Channel) (pages : ℕ) (past : List ClientEvent) (m : ClientMachine) (old new : EndView) → ClientStands kind channel pages past m old
    → HasTurned side.Client [] [] old new → ClientStands kind channel pages past m new
quiet kind channel pages past m old new h t = record {
  came = h.came;
  sent = t.submitted ∙ append-nil (messages_submitted old.past) ∙ h.sent;
  heard = h.heard ∙ sym (append-nil (delivered_by side.Client old)) ∙ sym t.delivered;
}

replied : (kind : CopyKind) (channel : Channel) (pages : ℕ) (past : List ClientEvent) (m n : ClientMachine) (message : List ℕ) (old new : EndView) → ClientStands kind channel pages past m old
    → HasTurned side.Client [] (message ∷ []) old new → ClientCameBy kind channel pages (Replied message ∷ past) n → ClientStands kind channel pages (Replied message ∷ past) n new
replied kind channel pages past m n message old new h t came = record {
  came = came;
  sent = t.submitted ∙ append-nil (messages_submitted old.past) ∙ h.sent;
  heard = ap (λ (ms : List (List ℕ)). ms ++ message ∷ []) h.heard ∙ sym t.delivered;
}

gave : (kind : CopyKind) (channel : Channel) (pages : ℕ) (past : List ClientEvent) (m n : ClientMachine) (r : Request) (old new : EndView) → ClientStands kind channel pages past m old
    → HasTurned side.Client (request_bytes r ∷ []) [] old new → ClientCameBy kind channel pages (Sent r ∷ past) n → ClientStands kind channel pages (Sent r ∷ past) n new
gave kind channel pages past m n r old new h t came = record {
  came = came;
  sent = t.submitted ∙ ap (λ (ms : List (List ℕ)). ms ++ request_bytes r ∷ []) h.sent ∙ sym (map-append request_bytes (requests_sent past) (r ∷ []));
  heard = h.heard ∙ sym (append-nil (delivered_by side.Client old)) ∙ sym t.delivered;
}

-- ---- going on

talk_more : (xs ys : List ClientEvent) → IsTalk xs → IsTalk ys → IsTalk (xs ++ ys)
talk_more [] ys x y = y
talk_more (Group bytes ∷ xs) ys x y = absurd x
talk_more (End ∷ xs) ys x y = absurd x
talk_more (Sent r ∷ xs) ys x y = talk_more xs ys x y
talk_more (Replied m ∷ xs) ys x y = talk_more xs ys x y
talk_more (Gave work ∷ xs) ys x y = absurd x
talk_more (Completed c ∷ xs) ys x y = absurd x
talk_more (Received bytes ∷ xs) ys x y = absurd x

not_resting : {A : Type 0} → false ≡ true → A
not_resting e = absurd (let b : ⊥ = cc in b)

pub still : (kind : CopyKind) (channel : Channel) (pages : ℕ) (past : List ClientEvent) (m : ClientMachine) (w : EndView) → ClientStands kind channel pages past m w
    → ClientGoesOn kind channel pages past 0 false m w
still kind channel pages past m w h =
    record { later = past; talked = record { talk = []; only = tt; is = refl }; few = omega arith; stands = h; at_rest = λ e. not_resting e }

one_more : (kind : CopyKind) (channel : Channel) (pages : ℕ) (past : List ClientEvent) (e : ClientEvent) (most : ℕ) (m : ClientMachine) (w : EndView) → IsTalk (e ∷ [])
    → length (requests_sent (e ∷ past)) ≤ length (requests_sent past) + most → ClientStands kind channel pages (e ∷ past) m w → ClientGoesOn kind channel pages past most false m w
one_more kind channel pages past e most m w only few h =
    record { later = e ∷ past; talked = record { talk = e ∷ []; only = only; is = refl }; few = few; stands = h; at_rest = λ x. not_resting x }

pub go_on : (kind : CopyKind) (channel : Channel) (pages : ℕ) (past : List ClientEvent) (first second all : ℕ) (before after : Bool) (m n : ClientMachine) (v w : EndView)
    → (g : ClientGoesOn kind channel pages past first before m v) → ClientGoesOn kind channel pages g.later second after n w → first + second ≤ all
    → ClientGoesOn kind channel pages past all after n w
go_on kind channel pages past first second all before after m n v w g h most = record {
  later = h.later;
  talked = record {
    talk = h.talked.talk ++ g.talked.talk;
    only = talk_more h.talked.talk g.talked.talk h.talked.only g.talked.only;
    is = h.talked.is ∙ ap (λ (p : List ClientEvent). h.talked.talk ++ p) g.talked.is ∙ sym (append_assoc h.talked.talk g.talked.talk past);
  };
  few = (let a = g.few in let b = h.few in omega arith);
  stands = h.stands;
  at_rest = h.at_rest;
}

pub at_most : (kind : CopyKind) (channel : Channel) (pages : ℕ) (past : List ClientEvent) (few most : ℕ) (rested : Bool) (m : ClientMachine) (w : EndView)
    → ClientGoesOn kind channel pages past few rested m w → few ≤ most → ClientGoesOn kind channel pages past most rested m w
at_most kind channel pages past few most rested m w g more =
    record { later = g.later; talked = g.talked; few = (let a = g.few in omega arith); stands = g.stands; at_rest = g.at_rest }

-- ---- a frame is taken

pub heard : (kind : CopyKind) (channel : Channel) (pages : ℕ) (past : List ClientEvent) (m n : ClientMachine) (message : Option (List ℕ)) (old new : EndView)
    → ClientStands kind channel pages past m old → HasTurned side.Client [] (option_to_list message) old new
    → ClientCameBy kind channel pages (after_hearing message past) n → ClientGoesOn kind channel pages past 0 false n new
heard kind channel pages past m n None old new h t came =
    let q = quiet kind channel pages past m old new h t in
    still kind channel pages past n new (record { came = came; sent = q.sent; heard = q.heard })
heard kind channel pages past m n (Some message) old new h t came =
    one_more kind channel pages past (Replied message) 0 n new tt (omega arith) (replied kind channel pages past m n message old new h t came)

-- ---- a request is given

-- this request is due, with these bytes
record IsDue (kind : CopyKind) (channel : Channel) (pages : ℕ) (past : List ClientEvent) (message : List ℕ) : Type 0 where
  request : Request
  due : request_due kind channel pages past ≡ Some request
  bytes : message ≡ request_bytes request

due_by : (o : Option Request) (message : List ℕ) → Some message ≡ option_map request_bytes o → (r : Request) × (o ≡ Some r) × (message ≡ request_bytes r)
due_by None message e = absurd (let b : ⊥ = cc in b)
due_by (Some r) message e = (r, refl, cc)

is_due : (kind : CopyKind) (channel : Channel) (pages : ℕ) (past : List ClientEvent) (message : List ℕ) → Some message ≡ option_map request_bytes (request_due kind channel pages past)
    → IsDue kind channel pages past message
is_due kind channel pages past message e = let d = due_by (request_due kind channel pages past) message e in record { request = d.0; due = d.1; bytes = d.2 }

pub fits : (kind : CopyKind) (channel : Channel) (pages : ℕ) (past : List ClientEvent) (m : ClientMachine) (message : List ℕ) → ClientCameBy kind channel pages past m
    → Some message ≡ option_map request_bytes (request_due kind channel pages past) → IsSendable message
fits kind channel pages past m message came e =
    let d = is_due kind channel pages past message e in
    subst IsSendable (sym d.bytes) (request_sendable kind channel pages past m d.request came d.due)

pub said_one : (kind : CopyKind) (channel : Channel) (pages : ℕ) (past : List ClientEvent) (m n : ClientMachine) (message : List ℕ) (old new : EndView)
    → ClientStands kind channel pages past m old → Some message ≡ option_map request_bytes (request_due kind channel pages past)
    → ClientCameBy kind channel pages (past_after_sending (request_due kind channel pages past) past) n → HasTurned side.Client (message ∷ []) [] old new
    → ClientGoesOn kind channel pages past 1 false n new
said_one kind channel pages past m n message old new h e came t =
    let d = is_due kind channel pages past message e in
    one_more kind channel pages past (Sent d.request) 1 n new tt (omega (arith, length-append (requests_sent past) (d.request ∷ [])))
    (gave kind channel pages past m n d.request old new h (subst (λ (x : List ℕ). HasTurned side.Client (x ∷ []) [] old new) d.bytes t)
    (subst (λ (o : Option Request). ClientCameBy kind channel pages (past_after_sending o past) n) d.due came))

none_due : (o : Option Request) → None ≡ option_map request_bytes o → o ≡ None
none_due None e = refl
none_due (Some r) e = absurd (let b : ⊥ = cc in b)

pub says_none : (kind : CopyKind) (channel : Channel) (pages : ℕ) (past : List ClientEvent) (m n : ClientMachine) (old : EndView) → ClientStands kind channel pages past m old
    → None ≡ option_map request_bytes (request_due kind channel pages past) → ClientCameBy kind channel pages (past_after_sending (request_due kind channel pages past) past) n
    → HasNoRequest kind channel pages past n old old
says_none kind channel pages past m n old h e came =
    let none = none_due (request_due kind channel pages past) e in
    record {
      due = none;
      same = refl;
      stands = record { came = subst (λ (o : Option Request). ClientCameBy kind channel pages (past_after_sending o past) n) none came; sent = h.sent; heard = h.heard };
    }

-- ---- a whole turn

-- a turn in which nothing was done leaves no request to give
pub talked : (kind : CopyKind) (channel : Channel) (pages : ℕ) (past : List ClientEvent) (m n k : ClientMachine) (old v w x : EndView) (r : Result Bool NoMemory)
    → ClientStands kind channel pages past m old → HasTurned side.Client [] [] old v
    → (ClientStands kind channel pages past m v → ClientGoesOn kind channel pages past 0 false n w)
    → ((later : List ClientEvent) → ClientStands kind channel pages later n w → OnOk r (ClientGoesOn kind channel pages later 1 false k x))
    → ((later : List ClientEvent) → ClientStands kind channel pages later n w → IfOk r (λ sent. sent ≡ false → HasNoRequest kind channel pages later k w x))
    → IfOk r (λ did. ClientGoesOn kind channel pages past 1 (not did) k x)
talked kind channel pages past m n k old v w x (Err fault) h t taken said due = tt
talked kind channel pages past m n k old v w x (Ok true) h t taken said due =
    let g = taken (quiet kind channel pages past m old v h t) in
    go_on kind channel pages past 0 1 1 false false n k w x g (said g.later g.stands) (omega arith)
talked kind channel pages past m n k old v w x (Ok false) h t taken said due =
    let g = taken (quiet kind channel pages past m old v h t) in
    let q = due g.later g.stands refl in
    record { later = g.later; talked = g.talked; few = (let a = g.few in omega arith); stands = q.stands; at_rest = λ e. q.due }

-- ---- a round

-- what the turns so far have left may go on
pub may_talk : (kind : CopyKind) (channel : Channel) (pages : ℕ) (past : List ClientEvent) (so_far : ℕ) (n : ClientMachine) (w : EndView)
    → length (requests_sent past) + 64 < 4294967295 → so_far ≤ 64 → ClientGoesOn kind channel pages past so_far false n w → MayTalk 0 n w
may_talk kind channel pages past so_far n w few turns g = record {
  kind = kind;
  channel = channel;
  pages = pages;
  past = g.later;
  stands = g.stands;
  few = (let a = g.few in omega arith);
}
