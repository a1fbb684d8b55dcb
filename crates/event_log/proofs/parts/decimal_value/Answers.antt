use Rattle.std.proofs.Common.{sym, ◌∙◌}
use Rattle.std.proofs.lemmas.Bool.{eqb-true}
use Rattle.event_log.proofs.NumberLemmas.{empty_none, plus_none, zero_none, no_text_none, some_bytes, front_alone, parsed_some, parsed_none}
use Rattle.event_log.proofs.parts.decimal_value.Goals as goal

pub returns-then-is_empty-clause-none : goal.returns-then-is_empty-clause-none
returns-then-is_empty-clause-none c = empty_none c.args.text.now (eqb-true _ _ (sym c.is_empty.ensures ∙ c.if-is_empty.true))

pub returns-then-text-eq43-clause-none : goal.returns-then-text-eq43-clause-none
returns-then-text-eq43-clause-none c = plus_none c.args.text.now c.if-text-eq43.true

pub returns-then-text-gt1-clause-none : goal.returns-then-text-gt1-clause-none
returns-then-text-gt1-clause-none c = zero_none c.args.text.now c.if-text-eq48.true c.if-text-gt1.true

pub returns-in_default-clause-none : goal.returns-in_default-clause-none
returns-in_default-clause-none c = no_text_none c.args.text.now c.in_default.ensures.cases.0

pub returns-in-Ok-parse-clause-some : goal.returns-in-Ok-parse-clause-some
returns-in-Ok-parse-clause-some c =
    let some = some_bytes c.args.text.now (sym c.is_empty.ensures ∙ c.if-is_empty.false) in
    parsed_some c.args.text.now c.in-Ok.digits.now c.parse.result c.in-Ok-parse.number c.in-Ok.ensures.cases.0 c.parse.ensures.value.0 c.in-Ok-parse.is
    some c.if-text-eq43.false (front_alone c.args.text.now some c.else-text-eq48.either)

pub returns-in-Err-clause-none : goal.returns-in-Err-clause-none
returns-in-Err-clause-none c =
    parsed_none c.args.text.now c.in-Ok.digits.now c.parse.result c.in-Err.field-0 c.in-Ok.ensures.cases.0 c.parse.ensures.value.0 c.in-Err.is
