use Rattle.std.proofs.lemmas.Result.{err_from_is_err_and}
use Rattle.std.proofs.lemmas.Grind.{common_steps}
use Rattle.std.proofs.Common.{◌∙◌, arith}
use Rattle.varisat_lines.proofs.LineBytes.{units_err, units_more}
use Rattle.varisat_lines.proofs.writer.write_units.Goals as goal

pub returns-in_err-write_line : goal.returns-in_err-write_line
returns-in_err-write_line g c =
    let p = err_from_is_err_and c.from_residual.result c.from_residual.ensures.1 in rw (p.1, p.2)
    (units_err c.args.encoding (g.W.ProofTarget.taken c.args.target.now) (g.W.ProofTarget.taken c.loop-unit.target)
    (g.W.ProofTarget.taken c.write_line.new.target) _ c.args.units.now c.loop-unit.unit-index c.unit-item.result c.loop-unit-test.true
    c.unit-item.is c.loop-unit.invariant.put c.loop-unit.invariant.quiet c.in_err-write_line.ensures)

pub loop-unit-preserved : goal.loop-unit-preserved
loop-unit-preserved g c = record {
  put = units_more c.args.encoding (g.W.ProofTarget.taken c.args.target.now) (g.W.ProofTarget.taken c.loop-unit.target)
      (g.W.ProofTarget.taken c.write_line.new.target) c.args.units.now c.loop-unit.unit-index c.unit-item.result c.loop-unit-test.true c.unit-item.is
      c.loop-unit.invariant.put c.in_ok-write_line.ensures.0;
  quiet = c.in_ok-write_line.ensures.1 ∙ c.loop-unit.invariant.quiet;
}

pub returns : goal.returns
returns g c = grind (arith, common_steps)
