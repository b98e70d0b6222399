-- What stands behind the command's name is the text of a variable.
use Rattle.std.proofs.Common.{refl}
use Rattle.varisat.specs.promises.Lines.{Sample, Witness, Hide}
use Rattle.varisat.proofs.LineLemmas.{sample_read, witness_read, hide_read}
use Rattle.varisat.proofs.line.parse_usage.Goals as goal

pub returns-in-Some-clause-command : goal.returns-in-Some-clause-command
returns-in-Some-clause-command g c =
    let (written, small) = c.in_ok-parse_variable.ensures.variable in
    let parts = c.in-Some.ensures.cases in
    (Sample c.in_ok-parse_variable.field-0, refl, sample_read c.args.text.now c.in-Some.number.now c.in_ok-parse_variable.field-0 parts.0 parts.1 written small)

pub returns-in-Some-strip_prefix-clause-command : goal.returns-in-Some-strip_prefix-clause-command
returns-in-Some-strip_prefix-clause-command g c =
    let (written, small) = c.in_ok-parse_variable-2.ensures.variable in
    let parts = c.in-Some-strip_prefix.ensures.cases in (
      Witness c.in_ok-parse_variable-2.field-0,
      refl,
      witness_read c.args.text.now c.in-Some-strip_prefix.number.now c.in_ok-parse_variable-2.field-0
          parts.0 parts.1 written small,
    )

pub returns-in_ok-parse_variable-in-Some-strip_prefix-2-clause-command : goal.returns-in_ok-parse_variable-in-Some-strip_prefix-2-clause-command
returns-in_ok-parse_variable-in-Some-strip_prefix-2-clause-command g c =
    let (written, small) = c.in_ok-parse_variable-in-Some-strip_prefix-2.ensures.variable in
    let parts = c.in-Some-strip_prefix-2.ensures.cases in (
      Hide c.in_ok-parse_variable-in-Some-strip_prefix-2.field-0,
      refl,
      hide_read c.args.text.now c.in-Some-strip_prefix-2.number.now
          c.in_ok-parse_variable-in-Some-strip_prefix-2.field-0 parts.0 parts.1 written small,
    )
