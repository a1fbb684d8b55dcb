-- The jobs of a get over registered pages.
use Rattle.std.proofs.Common.{◌≡◌, ℕ, zero, suc, ◌+◌, ◌≤◌, Bool, true, false, cond, Option, Some, None, List, [], ◌∷◌, ◌++◌, length, map, refl, sym, ap, ◌∙◌, subst, append_assoc, lit≤, arith}
use Rattle.std.specs.Prelude.{slice_get}
use mathlib.Core.List.{IsPrefix}
use Rattle.std.proofs.lemmas.List.{append-nil}
use Rattle.std.proofs.lemmas.Grind.{flat_map-append}
use Rattle.smbd_base.specs.Tokens.{PageToken}
use Rattle.buffer_descriptor.specs.declared.descriptor.Descriptor.{Descriptor}
use Rattle.file_messages.specs.declared.kind.Channel.TheVariants as channels
use Rattle.file_messages.specs.declared.fault.ReplyFault.{ReplyFault}
use Rattle.file_messages.specs.declared.message.Request.{Request}
use Rattle.file_messages.specs.declared.job.Work.{Work}
use Rattle.file_pasts.specs.ClientPast.{ClientEvent, Group, End, Sent, Replied, Gave, Completed, Received, jobs_given, token_of_descriptor, reply_fault, answers}
use Rattle.file_pasts.specs.PutDue.{if_taken, unloads_of, unloads_of_first}
use Rattle.file_pasts.specs.GetDue.{page_loads, begins_round, jobs_due, IsGet}
use Rattle.file_pasts.specs.PutPages.{first_if_taken, requests_replied, tokens_named, token_unloaded, tokens_unloaded}
use Rattle.file_pasts.specs.GetLaws.{AreGetJobs, JobsAreOfAGet, LoadsOwnRounds, GetUnloadsFollow}
use Rattle.file_pasts.proofs.PutPageLaws.{replied-tokens}
use Rattle.file_pasts.proofs.GetTokens.{get_owned, given_due}

pub loads_own_rounds : LoadsOwnRounds
loads_own_rounds page turn d past p k e = get_owned page turn d past p k e

-- ---- what was given is the front of what came due

pub next_in_rest : (xs rest : List Work) (work : Work) → slice_get (xs ++ rest) (length xs) ≡ Some work → (later : List Work) × (rest ≡ work ∷ later)
next_in_rest [] [] work e = absurd (let b : ⊥ = cc in b)
next_in_rest [] (x ∷ rest) work e = (rest, ap (λ (t : Work). t ∷ rest) (same x work e)) where
  same : (a b : Work) → Some a ≡ Some b → a ≡ b
  same a b h = cc
next_in_rest (x ∷ xs) rest work e = next_in_rest xs rest work e

more_due : (given due more : List Work) → IsPrefix given due → IsPrefix given (due ++ more)
more_due given due more p = (p.0 ++ more, sym (append_assoc given p.0 more) ∙ ap (λ (t : List Work). t ++ more) p.1)

pub given_front : (past : List ClientEvent) → IsGet channels.V1 past → IsPrefix (jobs_given past) (jobs_due past)
given_front [] p = (page_loads 16 0, refl)
given_front (Group b ∷ past) p = absurd p.0
given_front (End ∷ past) p = absurd p.0
given_front (Sent r ∷ past) p = given_front past p.1
given_front (Replied m ∷ past) p = more_due (jobs_given past) (jobs_due past) (if_taken (reply_fault (answers past) m) (unloads_of_first (answers past).unanswered)) (given_front past p.1)
given_front (Gave work ∷ past) p =
    let f = given_front past p.1 in
    let n = next_in_rest (jobs_given past) f.0 work (ap (λ (t : List Work). slice_get t (length (jobs_given past))) f.1 ∙ given_due past work p.0) in
    (n.0, append_assoc (jobs_given past) (work ∷ []) n.0 ∙ ap (λ (t : List Work). jobs_given past ++ t) (sym n.1) ∙ f.1)
given_front (Completed c ∷ past) p = more_due (jobs_given past) (jobs_due past) (cond (begins_round past) (page_loads 16 0) []) (given_front past p.1)
given_front (Received b ∷ past) p = given_front past p.1

-- ---- Loads of zeros, and Unloads

jobs-append : (xs ys : List Work) → AreGetJobs xs → AreGetJobs ys → AreGetJobs (xs ++ ys)
jobs-append [] ys a b = b
jobs-append (x ∷ xs) ys a b = (a.0, jobs-append xs ys a.1 b)

jobs-front : (xs ys : List Work) → AreGetJobs (xs ++ ys) → AreGetJobs xs
jobs-front [] ys a = tt
jobs-front (x ∷ xs) ys a = (a.0, jobs-front xs ys a.1)

jobs-loads : (count i : ℕ) → i + count ≤ 16 → AreGetJobs (page_loads count i)
jobs-loads zero i h = tt
jobs-loads (suc count) i h = ((omega arith, refl), jobs-loads count (i + 1) (omega arith))

jobs-unloads : (ds : List Descriptor) → AreGetJobs (unloads_of ds)
jobs-unloads [] = tt
jobs-unloads (d ∷ ds) = (tt, jobs-unloads ds)

jobs-replied : (o : Option ReplyFault) (rs : List Request) → AreGetJobs (if_taken o (unloads_of_first rs))
jobs-replied (Some fault) rs = tt
jobs-replied None [] = tt
jobs-replied None (r ∷ rs) = jobs-unloads r.descriptors

jobs-begun : (t : Bool) → AreGetJobs (cond t (page_loads 16 0) [])
jobs-begun true = jobs-loads 16 0 (lit≤ tt)
jobs-begun false = tt

jobs-due : (past : List ClientEvent) → AreGetJobs (jobs_due past)
jobs-due [] = jobs-loads 16 0 (lit≤ tt)
jobs-due (Group b ∷ past) = jobs-due past
jobs-due (End ∷ past) = jobs-due past
jobs-due (Sent r ∷ past) = jobs-due past
jobs-due (Replied m ∷ past) = jobs-append (jobs_due past) _ (jobs-due past) (jobs-replied (reply_fault (answers past) m) (answers past).unanswered)
jobs-due (Gave work ∷ past) = jobs-due past
jobs-due (Completed c ∷ past) = jobs-append (jobs_due past) _ (jobs-due past) (jobs-begun (begins_round past))
jobs-due (Received b ∷ past) = jobs-due past

pub jobs_of_a_get : JobsAreOfAGet
jobs_of_a_get past p = let f = given_front past p in jobs-front (jobs_given past) f.0 (subst AreGetJobs (sym f.1) (jobs-due past))

-- ---- unloads

loads-tokens : (count i : ℕ) → tokens_unloaded (page_loads count i) ≡ []
unfolding token_unloaded
loads-tokens zero i = refl
loads-tokens (suc count) i = loads-tokens count (i + 1)

begun-tokens : (t : Bool) → tokens_unloaded (cond t (page_loads 16 0) []) ≡ []
begun-tokens true = loads-tokens 16 0
begun-tokens false = refl

unloads-due : (past : List ClientEvent) → tokens_unloaded (jobs_due past) ≡ tokens_named (requests_replied past)
unloads-due [] = loads-tokens 16 0
unloads-due (Group b ∷ past) = unloads-due past
unloads-due (End ∷ past) = unloads-due past
unloads-due (Sent r ∷ past) = unloads-due past
unloads-due (Replied m ∷ past) =
    let o : Option ReplyFault = reply_fault (answers past) m in
    flat_map-append token_unloaded (jobs_due past) (if_taken o (unloads_of_first (answers past).unanswered))
    ∙ ap (λ (ts : List PageToken). ts ++ tokens_unloaded (if_taken o (unloads_of_first (answers past).unanswered))) (unloads-due past)
    ∙ ap (λ (ts : List PageToken). tokens_named (requests_replied past) ++ ts) (replied-tokens o (answers past).unanswered)
    ∙ sym (flat_map-append (λ (r : Request). map token_of_descriptor r.descriptors) (requests_replied past) (first_if_taken o (answers past).unanswered))
unloads-due (Gave work ∷ past) = unloads-due past
unloads-due (Completed c ∷ past) =
    flat_map-append token_unloaded (jobs_due past) (cond (begins_round past) (page_loads 16 0) [])
    ∙ ap (λ (ts : List PageToken). tokens_unloaded (jobs_due past) ++ ts) (begun-tokens (begins_round past))
    ∙ append-nil (tokens_unloaded (jobs_due past)) ∙ unloads-due past
unloads-due (Received b ∷ past) = unloads-due past

pub get_unloads_follow : GetUnloadsFollow
get_unloads_follow past p =
    let f = given_front past p in
    (tokens_unloaded f.0, sym (flat_map-append token_unloaded (jobs_given past) f.0) ∙ ap tokens_unloaded f.1 ∙ unloads-due past)
