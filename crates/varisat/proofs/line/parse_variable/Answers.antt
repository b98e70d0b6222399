-- The number that is read is the one whose text was given, or no variable has that text.
use Rattle.std.proofs.Common.{arith, ◌≡◌, ◌+◌, ◌∙◌, sym, ap, decimal}
use Rattle.std.proofs.lemmas.Fmt.{decimal_injective}
use Rattle.varisat.proofs.line.parse_variable.Goals as goal

pub returns-in_err-value-clause-no_variable : goal.returns-in_err-value-clause-no_variable
returns-in_err-value-clause-no_variable c =
    let none = rw c.in_err-value.was at c.parse_number.ensures.no_number in
    rw c.from_residual.ensures (λ v h e. none (v + 1) (omega arith) e)

pub returns-then-value-eq0-clause-no_variable : goal.returns-then-value-eq0-clause-no_variable
returns-then-value-eq0-clause-no_variable c v h e =
    let (written, small) = rw c.in_ok-value.was at c.parse_number.ensures.number in
    let one = decimal_injective c.in_ok-value.value (v + 1) small (omega arith) (written ∙ sym e) in
    omega (arith, one, c.then-value-eq0.either)

pub returns-clause-variable : goal.returns-clause-variable
returns-clause-variable c =
    let (written, small) = rw c.in_ok-value.was at c.parse_number.ensures.number in
    let back : c.from_index.result + 1 ≡ c.in_ok-value.value = omega arith in
    (ap decimal back ∙ written, omega arith)
