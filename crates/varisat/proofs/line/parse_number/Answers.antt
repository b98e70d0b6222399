-- The number that is read is the one whose text was given, or no number has that text.
use Rattle.std.proofs.Common.{arith, ◌≡◌, ◌≤◌, ◌∙◌, sym, length}
use Rattle.std.proofs.lemmas.Fmt.{parse-decimal}
use Rattle.varisat.proofs.LineLemmas.{begins_with_digit, zero_alone, nonempty, is_utf8, reads}
use Rattle.varisat.proofs.line.parse_number.Goals as goal

pub returns-in_err-first-clause-no_number : goal.returns-in_err-first-clause-no_number
returns-in_err-first-clause-no_number c =
    rw c.from_residual.ensures (λ n h e. let k = nonempty n c.args.text.now h e in let l = c.in_err-first.ensures {u = tt} in omega (arith, l.item.3))

pub returns-then-first-eq43-clause-no_number : goal.returns-then-first-eq43-clause-no_number
returns-then-first-eq43-clause-no_number c n h e =
    let k = begins_with_digit n c.args.text.now h e in
    let first = (c.in_ok-first.ensures {u = tt}).item.3.1 0 in
    omega (arith, first, c.if-first-eq43.true, k)

pub returns-then-text-gt1-clause-no_number : goal.returns-then-text-gt1-clause-no_number
returns-then-text-gt1-clause-no_number c n h e =
    let first = (c.in_ok-first.ensures {u = tt}).item.3.1 0 in
    let k = zero_alone n c.args.text.now h e (sym first ∙ c.if-first-eq48.true) in
    omega (arith, k, c.if-text-gt1.true)

pub returns-in_default-clause-no_number : goal.returns-in_default-clause-no_number
returns-in_default-clause-no_number c n h e = c.in_default.ensures.cases.0 (is_utf8 n c.args.text.now h e)

pub returns-in-Ok-parse-clause-number : goal.returns-in-Ok-parse-clause-number
returns-in-Ok-parse-clause-number c =
    let nought : c.in_ok-first.field-0.now ≡ 48 → length c.args.text.now ≤ 1 = λ z. omega (arith, z, c.else-first-eq48.either) in
    reads c.in-Ok.digits.now c.args.text.now c.in_ok-first.field-0.now c.in-Ok-parse.value c.in-Ok.ensures.cases.0
    ((c.in_ok-first.ensures {u = tt}).item.3.1 0) c.if-first-eq43.false nought c.in-Ok-parse.ensures.value.0

pub returns-in-Err-clause-no_number : goal.returns-in-Err-clause-no_number
returns-in-Err-clause-no_number c n h e =
    let one = parse-decimal 64 n c.in-Ok.digits.now c.parse.result h h (c.in-Ok.ensures.cases.0 ∙ sym e) c.parse.ensures.value.0 in
    let z = sym one ∙ c.in-Err.is in
    cc
