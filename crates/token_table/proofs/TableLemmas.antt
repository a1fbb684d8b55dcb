-- A hold and its end.
use Rattle.std.proofs.Common.{◌≡◌, ℕ, ◌+◌, ◌-◌, ◌<◌, true, false, Option, Some, None, List, length, slice_set, sym, ap, ◌∙◌, subst, arith, ⊎_elim}
use Rattle.std.proofs.lemmas.Bool.{cases_Bool, cond-true, cond-false}
use Rattle.std.proofs.lemmas.List.{length-set, get_or-set_same, set-set, set-get_or}
use Rattle.smbd_base.specs.Tokens.{PageToken}
use Rattle.smbd_base.specs.PagesFit.{is_token}
use Rattle.smbd_base.proofs.EventLists.{is_token-true, token-is}
use Rattle.token_table.specs.declared.record.Record.{Record}
use Rattle.token_table.specs.declared.record.Listed.{Listed}
use Rattle.token_table.specs.Tables.{listed_at, of_token, listed_under, with_record, holds_on, TakesHold, TakesOut}

-- what is listed under a token is listed at its page, and is the token's
of_token-Some : (token : PageToken) (place : Option Listed) (listed : Listed) → of_token token place ≡ Some listed
    → (place ≡ Some listed) × (listed.entry.token ≡ token)
of_token-Some token None listed e = absurd cc
of_token-Some token (Some found) listed e = ⊎_elim
    (λ (yes : is_token found.entry.token token ≡ true).
    let is : ◌≡◌ {A = Option Listed} (Some found) (Some listed) = sym (cond-true _ _ _ yes) ∙ e in
    let one : found ≡ listed = cc in
    (is, sym (ap (λ (l : Listed). l.entry.token) one) ∙ token-is found.entry.token token (is_token-true found.entry.token token yes)))
    (λ (other : is_token found.entry.token token ≡ false).
    let none : ◌≡◌ {A = Option Listed} None (Some listed) = sym (cond-false _ _ _ other) ∙ e in
    absurd cc)
    (cases_Bool (is_token found.entry.token token))

-- a record put over itself, and back
put-back : (table : List (Option Listed)) (entry : Record) (n : ℕ) → entry.token.page < length table
    → listed_at entry.token.page table ≡ Some (record { entry = entry; holds = n })
    → listed_at entry.token.page (with_record table entry (n + 1)) ≡ Some (record { entry = entry; holds = n + 1 })
put-back table entry n among was = get_or-set_same table entry.token.page (Some (record { entry = entry; holds = n + 1 })) None among

pub TakesHold-from : (token : PageToken) (table : List (Option Listed)) (listed : Listed) → token.page < length table
    → listed_under token table ≡ Some listed
    → TakesHold token listed.entry table (with_record table listed.entry (listed.holds + 1))
TakesHold-from token table listed among under =
    let found = of_token-Some token (listed_at token.page table) listed under in
    let page : listed.entry.token.page ≡ token.page = ap (λ (t : PageToken). t.page) found.1 in
    let below : listed.entry.token.page < length table = omega arith in
    let was : listed_at listed.entry.token.page table ≡ Some listed = ap (λ (p : ℕ). listed_at p table) page ∙ found.0 in
    let new = with_record table listed.entry (listed.holds + 1) in
    let now = put-back table listed.entry listed.holds below was in
    let had = ap holds_on was in
    let has = ap holds_on now in
    record {
      asked = found.1;
      held = record {
        among = subst (λ (n : ℕ). listed.entry.token.page < n) (sym (length-set table listed.entry.token.page (Some (record { entry = listed.entry; holds = listed.holds + 1 })))) below;
        listed = now ∙ ap (λ (n : ℕ). Some (record { entry = listed.entry; holds = n })) (sym has);
        some = omega arith;
      };
      more = ap (λ (n : ℕ). with_record table listed.entry (n + 1)) (sym had);
      back =
          ap (λ (n : ℕ). with_record new listed.entry n) (let less : holds_on (listed_at listed.entry.token.page new) - 1 ≡ listed.holds = omega arith in less)
          ∙ set-set table listed.entry.token.page (Some (record { entry = listed.entry; holds = listed.holds + 1 })) (Some listed)
          ∙ ap (λ (l : Option Listed). slice_set table listed.entry.token.page l) (sym was)
          ∙ set-get_or table listed.entry.token.page None;
    }

-- the same of the fields of a table
pub TakesHold-set : (token : PageToken) (table places : List (Option Listed)) (page : ℕ) (listed more : Listed) (hold : Record)
    → places ≡ table → page ≡ token.page → token.page < length table → listed_under token table ≡ Some listed → hold ≡ listed.entry
    → more ≡ record { entry = listed.entry; holds = listed.holds + 1 }
    → TakesHold token hold table (slice_set places page (Some more))
TakesHold-set token table places page listed more hold same at among under held once =
    let found = of_token-Some token (listed_at token.page table) listed under in
    let here : listed.entry.token.page ≡ page = ap (λ (t : PageToken). t.page) found.1 ∙ sym at in
    let new : with_record table listed.entry (listed.holds + 1) ≡ slice_set places page (Some more) =
    ap (λ (p : ℕ). slice_set table p (Some (record { entry = listed.entry; holds = listed.holds + 1 }))) here
    ∙ ap (λ (xs : List (Option Listed)). slice_set xs page (Some (record { entry = listed.entry; holds = listed.holds + 1 }))) (sym same)
    ∙ ap (λ (l : Listed). slice_set places page (Some l)) (sym once) in
    subst (λ (e : Record). TakesHold token e table (slice_set places page (Some more))) (sym held)
    (subst (λ (xs : List (Option Listed)). TakesHold token listed.entry table xs) new (TakesHold-from token table listed among under))

pub TakesOut-set : (token : PageToken) (table places : List (Option Listed)) (page : ℕ) (listed : Listed) → places ≡ table → page ≡ token.page
    → token.page < length table → listed_under token table ≡ Some listed → TakesOut token listed.entry table (slice_set places page None)
TakesOut-set token table places page listed same at among under = record {
  asked = (of_token-Some token (listed_at token.page table) listed under).1;
  among = among;
  gone = ap (λ (xs : List (Option Listed)). slice_set xs page None) same ∙ ap (λ (p : ℕ). slice_set table p None) at;
}
