-- The options by name, and what the parser's rules say of them.
use Rattle.std.proofs.Common.{◌≡◌, ◌∙◌, Bool, true, false, cond, ◌||◌, Option, Some, None, option_map, List, [], ◌∷◌, codes, refl, sym, ap}
use Rattle.std.specs.Prelude.{bytes_eq}
use Rattle.std.specs.List.{list_all}
use Rattle.event_log.specs.Reading.{◌>>=◌}
use Rattle.clap.specs.Walk.{Row, Rule, is_empty, arg_by_id, arg_by_long, arg_by_index}
use Rattle.clap.specs.Simple.{Shape, built, filled, with_index, is_simple}
use Rattle.clap.specs.Faults.{check_fault, is_simple_and_free}
use Rattle.command_words.specs.Given.{Text, Given, with_option, once}
use Rattle.command_words.specs.Parser.{option_rule, values_rule, parser_app}

-- an option
pub data Slot : Type 0 where
  workers : Slot
  channel : Slot
  credits : Slot
  send_size : Slot
  pages : Slot
  cut : Slot

abbrev pub name_of : Slot → Text
name_of workers = codes "workers"
name_of channel = codes "channel"
name_of credits = codes "credits"
name_of send_size = codes "send-size"
name_of pages = codes "pages"
name_of cut = codes "cut"

abbrev pub text_in : Slot → Given → Option Text
text_in workers given = given.workers
text_in channel given = given.channel
text_in credits given = given.credits
text_in send_size given = given.send_size
text_in pages given = given.pages
text_in cut given = given.cut

abbrev pub put_in : Slot → Text → Given → Given
put_in workers text given = record given { workers = Some text }
put_in channel text given = record given { channel = Some text }
put_in credits text given = record given { credits = Some text }
put_in send_size text given = record given { send_size = Some text }
put_in pages text given = record given { pages = Some text }
put_in cut text given = record given { cut = Some text }

abbrev pub slot_named : Text → Option Slot
slot_named name =
    cond (bytes_eq (codes "workers") name) (Some workers) (
    cond (bytes_eq (codes "channel") name) (Some channel) (
    cond (bytes_eq (codes "credits") name) (Some credits) (
    cond (bytes_eq (codes "send-size") name) (Some send_size) (
    cond (bytes_eq (codes "pages") name) (Some pages) (
    cond (bytes_eq (codes "cut") name) (Some cut) None)))))

-- the rules as the parser builds them
abbrev pub built_rule : Text → Rule
built_rule name = filled (option_rule name)

abbrev pub built_values : Rule
built_values = with_index 1 (filled values_rule)

pub rules : List Rule
rules = built_rule (codes "workers") ∷ built_rule (codes "channel") ∷ built_rule (codes "credits") ∷ built_rule (codes "send-size") ∷ built_rule (codes "pages") ∷ built_rule (codes "cut") ∷ built_values ∷ []

abbrev pub shape : Shape
shape = record (built parser_app).top { rules = rules }

pub shape-is : (built parser_app).top ≡ shape
unfolding rules
shape-is = refl

pub simple : is_simple_and_free parser_app ≡ true
simple = refl

pub simple_alone : is_simple parser_app ≡ true
simple_alone = refl

pub by_index : arg_by_index rules 1 ≡ Some built_values
unfolding rules
by_index = refl

pub by_values : arg_by_id rules (codes "values") ≡ Some built_values
unfolding rules
by_values = refl

pub by_id : (s : Slot) → arg_by_id rules (name_of s) ≡ Some (built_rule (name_of s))
unfolding rules
by_id workers = refl
by_id channel = refl
by_id credits = refl
by_id send_size = refl
by_id pages = refl
by_id cut = refl

pub by_long : (name : Text) → arg_by_long rules name ≡ option_map (λ (s : Slot). built_rule (name_of s)) (slot_named name)
unfolding rules
by_long name = go (bytes_eq (codes "workers") name) (bytes_eq (codes "channel") name) (bytes_eq (codes "credits") name) (bytes_eq (codes "send-size") name) (bytes_eq (codes "pages") name) (bytes_eq (codes "cut") name)
  where
    go : (bworkers bchannel bcredits bsend_size bpages bcut : Bool) → cond (bworkers || false) (Some (built_rule (codes "workers"))) (cond (bchannel || false) (Some (built_rule (codes "channel"))) (cond (bcredits || false) (Some (built_rule (codes "credits"))) (cond (bsend_size || false) (Some (built_rule (codes "send-size"))) (cond (bpages || false) (Some (built_rule (codes "pages"))) (cond (bcut || false) (Some (built_rule (codes "cut"))) None)))))
        ≡ option_map (λ (s : Slot). built_rule (name_of s)) (cond bworkers (Some workers) (cond bchannel (Some channel) (cond bcredits (Some credits) (cond bsend_size (Some send_size) (cond bpages (Some pages) (cond bcut (Some cut) None))))))
    go true b1 b2 b3 b4 b5 = refl
    go false true b2 b3 b4 b5 = refl
    go false false true b3 b4 b5 = refl
    go false false false true b4 b5 = refl
    go false false false false true b5 = refl
    go false false false false false true = refl
    go false false false false false false = refl

-- what is given with an option by its name
abbrev pub with_slot : Slot → Text → Given → Option Given
with_slot s text given = once (text_in s given) (put_in s text given)

pub by_name : (name text : Text) (given : Given) → with_option name text given ≡ (slot_named name >>= (λ (s : Slot). with_slot s text given))
by_name name text given = go (bytes_eq (codes "workers") name) (bytes_eq (codes "channel") name) (bytes_eq (codes "credits") name) (bytes_eq (codes "send-size") name) (bytes_eq (codes "pages") name) (bytes_eq (codes "cut") name)
  where
    go : (bworkers bchannel bcredits bsend_size bpages bcut : Bool) → cond bworkers (with_slot workers text given) (cond bchannel (with_slot channel text given) (cond bcredits (with_slot credits text given) (cond bsend_size (with_slot send_size text given) (cond bpages (with_slot pages text given) (cond bcut (with_slot cut text given) None)))))
        ≡ ((cond bworkers (Some workers) (cond bchannel (Some channel) (cond bcredits (Some credits) (cond bsend_size (Some send_size) (cond bpages (Some pages) (cond bcut (Some cut) None)))))) >>= (λ (s : Slot). with_slot s text given))
    go true b1 b2 b3 b4 b5 = refl
    go false true b2 b3 b4 b5 = refl
    go false false true b3 b4 b5 = refl
    go false false false true b4 b5 = refl
    go false false false false true b5 = refl
    go false false false false false true = refl
    go false false false false false false = refl

-- an option that was found by a name has it
pub named_so : (name : Text) (s : Slot) → slot_named name ≡ Some s → bytes_eq (name_of s) name ≡ true
named_so name s is = go (bytes_eq (codes "workers") name) (bytes_eq (codes "channel") name) (bytes_eq (codes "credits") name) (bytes_eq (codes "send-size") name) (bytes_eq (codes "pages") name) (bytes_eq (codes "cut") name) refl refl refl refl refl refl is
  where
    go : (bworkers bchannel bcredits bsend_size bpages bcut : Bool) → bytes_eq (codes "workers") name ≡ bworkers → bytes_eq (codes "channel") name ≡ bchannel → bytes_eq (codes "credits") name ≡ bcredits → bytes_eq (codes "send-size") name ≡ bsend_size → bytes_eq (codes "pages") name ≡ bpages → bytes_eq (codes "cut") name ≡ bcut
        → cond bworkers (Some workers) (cond bchannel (Some channel) (cond bcredits (Some credits) (cond bsend_size (Some send_size) (cond bpages (Some pages) (cond bcut (Some cut) None))))) ≡ Some s → bytes_eq (name_of s) name ≡ true
    go true b1 b2 b3 b4 b5 e0 e1 e2 e3 e4 e5 is = let same : workers ≡ s = cc in ap (λ (x : Slot). bytes_eq (name_of x) name) (sym same) ∙ e0
    go false true b2 b3 b4 b5 e0 e1 e2 e3 e4 e5 is = let same : channel ≡ s = cc in ap (λ (x : Slot). bytes_eq (name_of x) name) (sym same) ∙ e1
    go false false true b3 b4 b5 e0 e1 e2 e3 e4 e5 is = let same : credits ≡ s = cc in ap (λ (x : Slot). bytes_eq (name_of x) name) (sym same) ∙ e2
    go false false false true b4 b5 e0 e1 e2 e3 e4 e5 is = let same : send_size ≡ s = cc in ap (λ (x : Slot). bytes_eq (name_of x) name) (sym same) ∙ e3
    go false false false false true b5 e0 e1 e2 e3 e4 e5 is = let same : pages ≡ s = cc in ap (λ (x : Slot). bytes_eq (name_of x) name) (sym same) ∙ e4
    go false false false false false true e0 e1 e2 e3 e4 e5 is = let same : cut ≡ s = cc in ap (λ (x : Slot). bytes_eq (name_of x) name) (sym same) ∙ e5
    go false false false false false false e0 e1 e2 e3 e4 e5 is = cc

-- the text of each option, once one is given
pub text_put : (s other : Slot) (text : Text) (given : Given)
    → text_in other (put_in s text given) ≡ cond (bytes_eq (name_of s) (name_of other)) (Some text) (text_in other given)
text_put workers workers text given = refl
text_put workers channel text given = refl
text_put workers credits text given = refl
text_put workers send_size text given = refl
text_put workers pages text given = refl
text_put workers cut text given = refl
text_put channel workers text given = refl
text_put channel channel text given = refl
text_put channel credits text given = refl
text_put channel send_size text given = refl
text_put channel pages text given = refl
text_put channel cut text given = refl
text_put credits workers text given = refl
text_put credits channel text given = refl
text_put credits credits text given = refl
text_put credits send_size text given = refl
text_put credits pages text given = refl
text_put credits cut text given = refl
text_put send_size workers text given = refl
text_put send_size channel text given = refl
text_put send_size credits text given = refl
text_put send_size send_size text given = refl
text_put send_size pages text given = refl
text_put send_size cut text given = refl
text_put pages workers text given = refl
text_put pages channel text given = refl
text_put pages credits text given = refl
text_put pages send_size text given = refl
text_put pages pages text given = refl
text_put pages cut text given = refl
text_put cut workers text given = refl
text_put cut channel text given = refl
text_put cut credits text given = refl
text_put cut send_size text given = refl
text_put cut pages text given = refl
text_put cut cut text given = refl

pub values_put : (s : Slot) (text : Text) (given : Given) → (put_in s text given).values ≡ given.values
values_put workers text given = refl
values_put channel text given = refl
values_put credits text given = refl
values_put send_size text given = refl
values_put pages text given = refl
values_put cut text given = refl

pub text_kept : (s : Slot) (values : List Text) (given : Given) → text_in s (record given { values = values }) ≡ text_in s given
text_kept workers values given = refl
text_kept channel values given = refl
text_kept credits values given = refl
text_kept send_size values given = refl
text_kept pages values given = refl
text_kept cut values given = refl

pub not_values : (s : Slot) → bytes_eq (name_of s) (codes "values") ≡ false
not_values workers = refl
not_values channel = refl
not_values credits = refl
not_values send_size = refl
not_values pages = refl
not_values cut = refl

pub values_not : (s : Slot) → bytes_eq (codes "values") (name_of s) ≡ false
values_not workers = refl
values_not channel = refl
values_not credits = refl
values_not send_size = refl
values_not pages = refl
values_not cut = refl

pub named_own : (s : Slot) → slot_named (name_of s) ≡ Some s
named_own workers = refl
named_own channel = refl
named_own credits = refl
named_own send_size = refl
named_own pages = refl
named_own cut = refl

pub no_defaults : list_all (λ (a : Rule). is_empty a.defaults) rules ≡ true
unfolding rules
no_defaults = refl

pub none_required : (rows : List Row) → check_fault shape rows false ≡ []
unfolding rules
none_required rows = refl
