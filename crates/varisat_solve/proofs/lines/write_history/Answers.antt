-- The line that is not written, or not whole, stands behind those before it.
use Rattle.std.proofs.lemmas.Result.{err_from_is_err_and}
use Rattle.std.proofs.Common.{◌<◌, get_or, [], refl, subst}
use Rattle.varisat_theory.specs.promises.Derivations.{Add}
use Rattle.varisat_lines.specs.promises.Lines.{encoding_of}
use Rattle.varisat_solve.proofs.LeadBytes.{lines-fail}
use Rattle.varisat_solve.proofs.lines.write_history.Goals as goal

pub returns-in_err-write_line : goal.returns-in_err-write_line
returns-in_err-write_line g c =
    let p = err_from_is_err_and c.from_residual.result c.from_residual.ensures.1 in rw (p.1, p.2)
    (lines-fail (encoding_of c.args.format) (g.W.ProofTarget.taken c.args.target.now) (g.W.ProofTarget.taken c.loop-line.target)
    (g.W.ProofTarget.taken c.write_line.new.target) _ c.args.history.now.lines c.loop-line.line
    (get_or c.args.history.now.lines c.loop-line.line (Add []))
    (subst (λ n. c.loop-line.line < n) c.line_count-line-end.ensures c.loop-line-test.true) refl
    c.loop-line.invariant.put c.loop-line.invariant.quiet c.in_err-write_line.ensures)
