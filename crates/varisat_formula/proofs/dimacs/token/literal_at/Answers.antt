use Rattle.std.proofs.Common.{◌+◌, ◌==◌, sym, ◌∙◌, length, arith, rules, get_or}
use Rattle.varisat_formula.specs.inside.Machine.{no_word}
use Rattle.varisat_formula.proofs.TokenRuns.{digit_more, digits_within, power_more}
use Rattle.varisat_formula.proofs.dimacs.token.literal_at.Goals as goal

pub bounds-bytes-end : goal.bounds-bytes-end
bounds-bytes-end c =
    digits_within (length c.args.bytes.now) c.args.at c.from.result c.digits.end c.digits.number c.if-bytes-at-lt-LONGEST.false
    (search (rules, c.from.ensures)) c.digits.invariant.power c.digits.invariant.small

pub digits-preserved : goal.digits-preserved
digits-preserved c =
    let start = c.args.at + c.from.result in
    let within = digits_within (length c.args.bytes.now) c.args.at c.from.result c.digits.end c.digits.number c.if-bytes-at-lt-LONGEST.false
    (search (rules, c.from.ensures)) c.digits.invariant.power c.digits.invariant.small in
    record {
      some = omega (arith, c.digits.invariant.some);
      positive = omega (arith, c.digits.invariant.positive);
      power = power_more start c.digits.end c.digits.number c.from-in-digits.result c.digits.invariant.some c.digits.invariant.power;
      small = omega (arith, c.if-number.false);
      word = digit_more no_word (get_or c.args.bytes.now c.args.at 0 == 45) c.digits.number c.from-in-digits.result c.args.bytes.now c.args.at
          c.digits.end (omega (arith, c.digits.invariant.some)) within c.digits.invariant.positive (omega (arith, c.digits.invariant.small))
          (sym c.is_digit_byte.ensures ∙ c.digits-test.true) c.from-in-digits.ensures c.digits.invariant.word;
    }

pub bounds-bytes-end-2 : goal.bounds-bytes-end-2
bounds-bytes-end-2 c =
    digits_within (length c.args.bytes.now) c.args.at c.from.result c.digits.end c.digits.number c.if-bytes-at-lt-LONGEST.false
    (search (rules, c.from.ensures)) c.digits.invariant.power c.digits.invariant.small

pub bounds-bytes-end-in-digits : goal.bounds-bytes-end-in-digits
bounds-bytes-end-in-digits c =
    digits_within (length c.args.bytes.now) c.args.at c.from.result c.digits.end c.digits.number c.if-bytes-at-lt-LONGEST.false
    (search (rules, c.from.ensures)) c.digits.invariant.power c.digits.invariant.small

pub digits-smaller : goal.digits-smaller
digits-smaller c =
    let within = digits_within (length c.args.bytes.now) c.args.at c.from.result c.digits.end c.digits.number c.if-bytes-at-lt-LONGEST.false
    (search (rules, c.from.ensures)) c.digits.invariant.power c.digits.invariant.small in
    omega (arith, within)

pub returns-clause-within : goal.returns-clause-within
returns-clause-within c = (
  omega (arith, c.digits.invariant.some),
  digits_within (length c.args.bytes.now) c.args.at c.from.result c.digits.end c.digits.number c.if-bytes-at-lt-LONGEST.false
      (search (rules, c.from.ensures)) c.digits.invariant.power c.digits.invariant.small,
)
