-- The first word is a setting's name, and what stands behind it is its value alone.
use Rattle.std.proofs.Common.{◌≡◌, ◌∷◌, [], ◌∙◌, ap, decimal}
use Rattle.varisat.proofs.LineLemmas.{words_left, first_word, setting_read, no_setting, number_alone}
use Rattle.varisat.proofs.line.parse_setting.Goals as goal

pub returns-in_err-field-clause-no_command : goal.returns-in_err-field-clause-no_command
returns-in_err-field-clause-no_command c =
    let none = rw c.in_err-field.was at c.from_name.ensures in
    let cut = first_word c.args.setting.now c.split_word.result.0.now c.split_word.result.1 c.split_word.ensures.last c.split_word.ensures.more in
    rw c.from_residual.ensures (no_setting c.args.setting.now c.split_word.result.0.now (words_left c.split_word.result.1) cut
    (λ field value h f e. none field f))

pub returns-in_err-number-clause-no_command : goal.returns-in_err-number-clause-no_command
returns-in_err-number-clause-no_command c =
    let cut = first_word c.args.setting.now c.split_word.result.0.now c.split_word.result.1 c.split_word.ensures.last c.split_word.ensures.more in
    rw c.from_residual-in_err-number.ensures
    (no_setting c.args.setting.now c.split_word.result.0.now (words_left c.split_word.result.1) cut
    (λ field value h f e. let z : decimal value ∷ [] ≡ [] = e ∙ ap words_left c.in_err-number.was in cc))

pub returns-in_err-value-clause-no_command : goal.returns-in_err-value-clause-no_command
returns-in_err-value-clause-no_command c =
    let none = rw c.in_err-value.was at c.parse_number.ensures.no_number in
    let cut = first_word c.args.setting.now c.split_word.result.0.now c.split_word.result.1 c.split_word.ensures.last c.split_word.ensures.more in
    rw c.from_residual-in_err-value.ensures
    (no_setting c.args.setting.now c.split_word.result.0.now (words_left c.split_word.result.1) cut
    (λ field value h f e. none value h (number_alone c.in_ok-number.field-0.now (decimal value) (e ∙ ap words_left c.in_ok-number.was))))

pub returns-clause-command : goal.returns-clause-command
returns-clause-command c =
    let name = rw c.in_ok-field.was at c.from_name.ensures in
    let (written, small) = rw c.in_ok-value.was at c.parse_number.ensures.number in
    let cut = first_word c.args.setting.now c.split_word.result.0.now c.split_word.result.1 c.split_word.ensures.last c.split_word.ensures.more in
    let parts = cut ∙ ap (λ o. c.split_word.result.0.now ∷ words_left o) c.in_ok-number.was in (
      c.in_ok-field.field,
      c.in_ok-value.value,
      c.one.ensures,
      setting_read c.args.setting.now c.split_word.result.0.now c.in_ok-number.field-0.now
          c.in_ok-field.field c.in_ok-value.value parts name written small,
    )
