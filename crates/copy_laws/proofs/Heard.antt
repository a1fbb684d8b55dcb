-- The requests to which a client heard the reply, and the tokens that they name.
use Rattle.std.proofs.Common.{◌≡◌, ℕ, zero, suc, ◌≤◌, Option, Some, None, List, [], ◌∷◌, ◌++◌, length, take, map, refl, sym, ap, subst, arith, length-append, Contains}
use Rattle.std.specs.Prelude.{slice_get}
use mathlib.Core.List.{IsPrefix}
use Rattle.std.proofs.lemmas.Grind.{flat_map-append}
use Rattle.std.proofs.lemmas.List.{length-map}
use Rattle.std.proofs.lemmas.List.Elements.{Contains-append_left}
use Rattle.smbd_base.specs.Tokens.{PageToken}
use Rattle.file_messages.specs.declared.fault.ReplyFault.{ReplyFault}
use Rattle.file_messages.specs.declared.message.Request.{Request}
use Rattle.file_messages.specs.declared.job.Work.TheVariants.{Unload}
use Rattle.file_messages.specs.Messages.{reply_bytes}
use Rattle.file_pasts.specs.ClientPast.{ClientEvent, Group, End, Sent, Replied, Gave, Completed, Received, requests_sent, jobs_given, reply_fault, answers, token_of_descriptor}
use Rattle.file_pasts.specs.PutPages.{first_if_taken, requests_replied, tokens_named, tokens_unloaded}
use Rattle.file_pasts.specs.GetLaws.{replies_in}
use Rattle.file_pasts.specs.ServerDue.{replies}
use Rattle.file_pasts.proofs.PutPageLaws.{requests_answered}
use Rattle.copy_laws.specs.Coupled.{Pasts}
use Rattle.copy_laws.specs.Laws.{AreBetween}
use Rattle.copy_laws.proofs.Loads.{unload-named}

taken-few : (o : Option ReplyFault) (rs : List Request) → length (first_if_taken o rs) ≤ 1
taken-few (Some f) rs = omega arith
taken-few None [] = omega arith
taken-few None (r ∷ rs) = (let z : length (r ∷ []) ≤ 1 = omega arith in z)

pub replied-few : (past : List ClientEvent) → length (requests_replied past) ≤ length (replies_in past)
replied-few [] = omega arith
replied-few (Group b ∷ past) = replied-few past
replied-few (End ∷ past) = replied-few past
replied-few (Sent r ∷ past) = replied-few past
replied-few (Replied m ∷ past) =
    let one = taken-few (reply_fault (answers past) m) (answers past).unanswered in
    let a = length-append (requests_replied past) (first_if_taken (reply_fault (answers past) m) (answers past).unanswered) in
    let b = length-append (replies_in past) (m ∷ []) in
    omega (arith, replied-few past, one, a, b)
replied-few (Gave w ∷ past) = replied-few past
replied-few (Completed c ∷ past) = replied-few past
replied-few (Received b ∷ past) = replied-few past

-- ---- fronts

-- a front of a list is a front of any longer front
front-in-front : {X : Type 0} (xs ys : List X) (n : ℕ) → length xs ≤ n → IsPrefix xs (take n (xs ++ ys))
front-in-front [] ys n h = (take n ys, refl)
front-in-front (x ∷ xs) ys zero h = absurd (omega (arith, h))
front-in-front (x ∷ xs) ys (suc n) h = (let later = front-in-front xs ys n (omega (arith, h)) in (later.0, ap (λ (l : List _). x ∷ l) later.1))

pub longer-front : {X : Type 0} (m n : ℕ) (xs : List X) → m ≤ n → IsPrefix (take m xs) (take n xs)
longer-front zero n xs h = (take n xs, refl)
longer-front (suc m) zero xs h = absurd (omega (arith, h))
longer-front (suc m) (suc n) [] h = ([], refl)
longer-front (suc m) (suc n) (x ∷ xs) h = (let later = longer-front m n xs (omega (arith, h)) in (later.0, ap (λ (l : List _). x ∷ l) later.1))

named-append : (xs ys : List Request) → tokens_named (xs ++ ys) ≡ tokens_named xs ++ tokens_named ys
named-append xs ys = flat_map-append (λ (r : Request). map token_of_descriptor r.descriptors) xs ys

pub named-front : (xs ys : List Request) (t : PageToken) → IsPrefix xs ys → Contains (tokens_named xs) t → Contains (tokens_named ys) t
named-front xs ys t p h =
    subst (λ (rs : List Request). Contains (tokens_named rs) t) p.1
    (subst (λ (ts : List PageToken). Contains ts t) (sym (named-append xs p.0)) (Contains-append_left (tokens_named xs) (tokens_named p.0) t h))

contains-front : (xs ys : List PageToken) (t : PageToken) → IsPrefix xs ys → Contains xs t → Contains ys t
contains-front xs ys t p h = subst (λ (ts : List PageToken). Contains ts t) p.1 (Contains-append_left xs p.0 t h)

-- ---- what the client heard the reply to

abbrev pub heard : List ClientEvent → List Request
heard past = take (length (replies_in past)) (requests_sent past)

replied-heard : (past : List ClientEvent) → IsPrefix (requests_replied past) (heard past)
replied-heard past =
    subst (λ (rs : List Request). IsPrefix (requests_replied past) (take (length (replies_in past)) rs)) (sym (requests_answered past))
    (front-in-front (requests_replied past) (answers past).unanswered (length (replies_in past)) (replied-few past))

-- where only what was replied to is unloaded, an Unload that was given is of a token that was heard of
pub unload-heard : (past : List ClientEvent) (n : ℕ) (t : PageToken) → IsPrefix (tokens_unloaded (jobs_given past)) (tokens_named (requests_replied past))
    → slice_get (jobs_given past) n ≡ Some (Unload t) → Contains (tokens_named (heard past)) t
unload-heard past n t follow at =
    named-front (requests_replied past) (heard past) t (replied-heard past)
    (contains-front (tokens_unloaded (jobs_given past)) (tokens_named (requests_replied past)) t follow (unload-named (jobs_given past) n t at))

-- the client heard no more replies than the server gave
pub heard-few : (p : Pasts) → AreBetween p → length (replies_in p.client) ≤ length (replies p.server)
heard-few p between =
    let all : length (replies_in p.client ++ between.to_client.0) ≡ length (map reply_bytes (replies p.server)) = ap (λ (ms : List (List ℕ)). length ms) between.to_client.1 in
    omega (arith, all, length-append (replies_in p.client) between.to_client.0, length-map (replies p.server) reply_bytes)
