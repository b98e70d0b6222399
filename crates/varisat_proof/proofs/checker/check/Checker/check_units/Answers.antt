use Rattle.std.proofs.lemmas.Result.{err_from_is_err_and}
use Rattle.std.proofs.lemmas.Grind.{common_steps}
use Rattle.std.proofs.Common.{refl, ◌∙◌, arith}
use Rattle.std.proofs.lemmas.List.{get_or_read}
use Rattle.varisat_proof.proofs.CheckedSteps.{units_more, units_fail}
use Rattle.varisat_proof.proofs.checker.check.Checker.check_units.Goals as goal

pub returns-in_err-check_added : goal.returns-in_err-check_added
returns-in_err-check_added g c =
    let p = err_from_is_err_and c.from_residual.result c.from_residual.ensures.1 in rw (p.1, p.2)
    (units_fail c.args.self.now c.loop-i.self c.check_added.new.self c.args.units.now c.loop-i.i c.index-units-i.result _ c.in_err-check_added.field-0.0 c.loop-i-test.true
    (get_or_read c.args.units.now c.loop-i.i c.index-units-i.result c.loop-i-test.true c.index-units-i.is 0) refl c.loop-i.invariant.derives
    c.loop-i.invariant.usable c.in_err-check_added.ensures)

pub loop-i-preserved : goal.loop-i-preserved
loop-i-preserved g c = record {
  derives = units_more c.args.self.now.clauses c.loop-i.self.clauses c.check_added.new.self.clauses c.args.units.now c.loop-i.i c.index-units-i.result
      c.loop-i-test.true (get_or_read c.args.units.now c.loop-i.i c.index-units-i.result c.loop-i-test.true c.index-units-i.is 0)
      c.loop-i.invariant.derives c.in_ok-check_added.ensures.0;
  usable = c.in_ok-check_added.ensures.1 ∙ c.loop-i.invariant.usable;
}

pub returns : goal.returns
returns g c = grind (arith, common_steps)
