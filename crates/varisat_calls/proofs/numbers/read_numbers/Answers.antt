use Rattle.std.proofs.Common.{◌≡◌, ℤ, pos, get_or, sym, ap, rules, SFits, to_z, of_z, w32, ◌∙◌}
use Rattle.std.proofs.Math.Facts.{to_z-of_z}
use Rattle.std.proofs.lemmas.List.{get_or_default}
use Rattle.varisat_literals.specs.promises.Numbers.{literal_numbered}
use Rattle.varisat_calls.proofs.Reading.{read-more, absent-more, is-entry}
use Rattle.varisat_calls.proofs.numbers.read_numbers.Goals as goal

pub returns-then-number-eq0-clause-zero : goal.returns-then-number-eq0-clause-zero
returns-then-number-eq0-clause-zero g c =
    let fits : SFits w32 (get_or c.args.numbers.now c.loop-number.number-index (pos 0)) = search rules in
    let none = sym (to_z-of_z fits) ∙ ap (to_z w32) c.if-number-eq0.true in
    λ e. is-entry c.args.numbers.now c.loop-number.number-index (pos 0) c.loop-number-test.true (sym none)

pub loop-number-preserved : goal.loop-number-preserved
loop-number-preserved g c =
    let entry : ℤ = get_or c.args.numbers.now c.loop-number.number-index (pos 0) in
    let fits : SFits w32 (get_or c.args.numbers.now c.loop-number.number-index (pos 0)) = search rules in
    let found : entry ≡ get_or c.args.numbers.now c.loop-number.number-index entry =
    get_or_default c.args.numbers.now c.loop-number.number-index (pos 0) entry c.loop-number-test.true in
    record {
      same = read-more literal_numbered c.args.numbers.now c.loop-number.number-index entry _ _ _ c.loop-number-test.true found
          c.loop-number.invariant.same (c.in_ok-put_number.ensures {u = tt}) (ap literal_numbered (to_z-of_z fits));
      absent = absent-more c.args.numbers.now c.loop-number.number-index entry (pos 0) c.loop-number-test.true found
          c.loop-number.invariant.absent (λ z. c.if-number-eq0.false (ap (of_z w32) (sym z)));
    }
