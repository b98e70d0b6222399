-- Behind a `-` stands the text of a variable.
use Rattle.std.proofs.Common.{sym}
use Rattle.varisat.proofs.LineLemmas.{no_literal}
use Rattle.varisat.proofs.line.parse_literal.Goals as goal

pub returns-in_err-parse_variable-in-Some-clause-no_literal : goal.returns-in_err-parse_variable-in-Some-clause-no_literal
returns-in_err-parse_variable-in-Some-clause-no_literal c =
    let digits = c.in-Some.ensures.cases in
    let none = (c.in_err-parse_variable-in-Some.ensures {u = tt}).no_variable in
    rw c.from_residual.ensures (no_literal c.args.number.now c.in-Some.digits.now (sym digits.0) digits.1 none)
