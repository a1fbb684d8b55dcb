-- What a ledger records of a history.
use Rattle.std.proofs.Common.{◌≡◌, ℕ, ◌+◌, ◌≤◌, Bool, true, false, cond, List, [], ◌∷◌, refl, ◌∙◌, arith}
use Rattle.std.proofs.lemmas.Bool.Decides.{nat_tests}
use Rattle.smbd_base.specs.declared.end_id.EndId.{EndId}
use Rattle.smbd_base.specs.declared.end_id.EndId.TheVariants.{Client, Server}
use Rattle.smbd_base.specs.declared.event.Event.{Event}
use Rattle.smbd_base.specs.declared.event.Event.TheVariants.{Post, Submit, Emit, Take, Cut}
use Rattle.smbd_base.specs.declared.next.Next.TheVariants as due
use Rattle.smbd_base.specs.Counts.{credits_held, credits_granted, frames_taken, is_silent, is_unheard, is_out_of_turn}
use Rattle.smbd_base.specs.Grant.{credits_in}
use Rattle.smbd_base.specs.History.{next_event, is_new, IsLegal}
use Rattle.smbd_base.specs.Limits.{Limits, IsLawful}
use Rattle.smbd_base.proofs.BalanceLemmas.{balanced}
use Rattle.credit_ledger.specs.Credits.{Credits, with_request}
use Rattle.credit_ledger.specs.Recorded.{AreCountsOf, IsLedgerOf}

-- a client that has sent nothing holds the credit of the negotiation, since it takes no frame
pub silent_holds : (past : List Event) → is_silent past ≡ true → credits_held Client past ≡ 1
silent_holds [] silent = refl
silent_holds (Post n ∷ past) silent = silent_holds past silent
silent_holds (Submit m ∷ past) silent = silent_holds past silent
silent_holds (Emit f ∷ past) silent = absurd cc
silent_holds (Take f ∷ past) silent = rw silent (silent_holds past silent)
silent_holds (Cut ∷ past) silent = silent_holds past silent

-- a server that has sent nothing holds it too: the one frame that it could take in turn is the request, which grants none
record IsSilentServer (past : List Event) : Type 0 where
  held : credits_held Server past ≡ 1
  granted : credits_granted Server past ≡ 1
  taken : frames_taken Server past ≡ cond (is_unheard past) 0 1

silent_take : (past : List Event) (f : List ℕ) (unheard : Bool) → is_unheard past ≡ unheard → IsSilentServer past → IsSilentServer (Take f ∷ past)
silent_take past f true is s =
    let none : frames_taken Server past ≡ 0 = s.taken ∙ rw is refl in
    let turn : is_out_of_turn Server past ≡ false = (let left = s.granted in grind (arith, nat_tests)) in
    record {
      held = rw (turn, is, s.held) refl;
      granted = s.granted;
      taken = rw (turn, none) refl;
    }
silent_take past f false is s =
    let one : frames_taken Server past ≡ 1 = s.taken ∙ rw is refl in
    let turn : is_out_of_turn Server past ≡ true = (let left = s.granted in grind (arith, nat_tests)) in
    record {
      held = rw turn s.held;
      granted = s.granted;
      taken = rw turn one;
    }

silent_server : (past : List Event) → is_silent past ≡ true → IsSilentServer past
silent_server [] silent = record { held = refl; granted = refl; taken = refl }
silent_server (Post n ∷ past) silent = let s = silent_server past silent in record { held = s.held; granted = s.granted; taken = s.taken }
silent_server (Submit m ∷ past) silent = let s = silent_server past silent in record { held = s.held; granted = s.granted; taken = s.taken }
silent_server (Emit f ∷ past) silent = absurd cc
silent_server (Take f ∷ past) silent = silent_take past f (is_unheard past) refl (silent_server past silent)
silent_server (Cut ∷ past) silent = let s = silent_server past silent in record { held = s.held; granted = s.granted; taken = s.taken }

-- an end that has sent nothing holds one credit
pub silent_one : (side : EndId) (past : List Event) → is_silent past ≡ true → credits_held side past ≡ 1
silent_one Client past silent = silent_holds past silent
silent_one Server past silent = (silent_server past silent).held

-- a client's first frame spends that credit, and grants nothing
pub recorded-request : (past : List Event) (c : Credits) (frame : List ℕ) → IsLedgerOf Client past c → is_silent past ≡ true → IsLedgerOf Client (Emit frame ∷ past) (with_request c)
recorded-request past c frame ledger silent =
    let one = silent_holds past silent in
    let none : credits_in Client (is_silent past) frame ≡ 0 = rw silent refl in
    record {
      counts = record {
        held = omega (arith, one);
        outstanding = omega (arith, ledger.counts.outstanding, none);
        grantable = omega (arith, ledger.counts.grantable, none);
      };
      granted = omega (arith, ledger.granted, none);
      taken = omega (arith, ledger.taken, none);
    }

-- the counts of a legal history balance
pub recorded-legal : (side : EndId) (limits : Limits) (past : List Event) (c : Credits) → IsLawful limits → IsLegal side limits past → is_new past ≡ false
    → AreCountsOf side past c → IsLedgerOf side past c
recorded-legal side limits past c lawful legal opened counts =
    let b = balanced side limits past lawful legal opened in
    record { counts = counts; granted = b.granted; taken = b.taken }

-- the receives that are posted next have room
pub posts_fit : (side : EndId) (limits : Limits) (past : List Event) (c : Credits) (n : ℕ) → IsLawful limits → IsLegal side limits past → IsLedgerOf side past c
    → next_event side limits past ≡ due.Post n → c.grantable + c.outstanding + n ≤ limits.credits
posts_fit side limits past c n lawful legal ledger next =
    let b = balanced side limits (Post n ∷ past) lawful (next, legal) refl in
    omega (arith, b.posted, ledger.granted, ledger.taken, ledger.counts.grantable, ledger.counts.outstanding)
