use Rattle.std.proofs.Common.{◌≡◌, ◌∙◌, ap, ap₂, true}
use Rattle.std.proofs.lemmas.Result.{IfOk-weaker}
use Rattle.clap.specs.Simple.{Shape, app_of, app_of_fields, on_top, with_rule}
use Rattle.command_words.specs.Parser.{bare_app}
use Rattle.command_words.proofs.given.parser_of_words.Goals as goal

pub returns : goal.returns
returns c =
    let bare : app_of c.disable_version_flag.result ≡ bare_app =
    ap app_of_fields c.disable_version_flag.ensures ∙ ap (on_top (λ (s : Shape). record s { disable_version_flag = true }))
    (ap app_of_fields c.disable_help_flag.ensures ∙ ap (on_top (λ (s : Shape). record s { disable_help_flag = true }))
    (ap app_of_fields c.no_binary_name.ensures ∙ ap (on_top (λ (s : Shape). record s { no_binary_name = true })) c.new.ensures.app)) in
    let workers = c.in_ok-arg.ensures.shape c.option_of_name.ensures.local ∙ ap₂ with_rule bare c.option_of_name.ensures.rule in
    let channel = c.in_ok-arg-2.ensures.shape c.option_of_name-2.ensures.local ∙ ap₂ with_rule workers c.option_of_name-2.ensures.rule in
    let credits = c.in_ok-arg-3.ensures.shape c.option_of_name-3.ensures.local ∙ ap₂ with_rule channel c.option_of_name-3.ensures.rule in
    let send_size = c.in_ok-arg-4.ensures.shape c.option_of_name-4.ensures.local ∙ ap₂ with_rule credits c.option_of_name-4.ensures.rule in
    let pages = c.in_ok-arg-5.ensures.shape c.option_of_name-5.ensures.local ∙ ap₂ with_rule send_size c.option_of_name-5.ensures.rule in
    let cut = c.in_ok-arg-6.ensures.shape c.option_of_name-6.ensures.local ∙ ap₂ with_rule pages c.option_of_name-6.ensures.rule in
    IfOk-weaker c.arg-7.result _ _ (λ parser adds. adds.shape c.other_words.ensures.local ∙ ap₂ with_rule cut c.other_words.ensures.rule) c.arg-7.ensures
