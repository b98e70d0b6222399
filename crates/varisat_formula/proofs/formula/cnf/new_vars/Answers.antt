use Rattle.std.proofs.lemmas.Result.{err_from_is_err_and}
use Rattle.std.proofs.lemmas.Grind.{common_steps}
use Rattle.std.proofs.Common.{◌<◌, length, take, sym, subst, arith, ◌∙◌, Ok}
use Rattle.std.specs.List.{FoldsTo}
use Rattle.std.proofs.Math.ListN.{length-set}
use Rattle.std.proofs.lemmas.Fn.{FoldsTo-push}
use Rattle.std.proofs.lemmas.List.{take_more_set, length-take-le}
use Rattle.varisat_formula.proofs.formula.cnf.new_vars.Goals as goal

pub returns-in_err-vars-clause-err : goal.returns-in_err-vars-clause-err
returns-in_err-vars-clause-err g c =
    let p = err_from_is_err_and c.from_residual.result c.from_residual.ensures.1 in rw (p.1, p.2)
    let w = c.loop-i.invariant.whole in
    let e = length-take-le c.loop-i.i c.loop-i.vars (omega arith) in
    (take c.loop-i.i c.loop-i.vars, c.loop-i.formula, c.loop-i.invariant.made, omega arith, c.in_err-vars.ensures)

pub loop-i-preserved : goal.loop-i-preserved
loop-i-preserved g c =
    let w = c.loop-i.invariant.whole in
    let h : c.loop-i.i < length c.loop-i.vars = omega arith in
    record {
      made = subst (λ xs. FoldsTo (λ s v t. g.F.ExtendFormula.makes_var s (Ok v) t) c.args.formula.now xs c.new_var.new.self)
          (sym (take_more_set c.loop-i.vars c.loop-i.i c.in_ok-vars.field-0 h))
          (FoldsTo-push (λ s v t. g.F.ExtendFormula.makes_var s (Ok v) t) _ _ _ _ _ c.loop-i.invariant.made c.in_ok-vars.ensures);
      whole = length-set _ _ _ ∙ w;
    }

pub loop-i-init : goal.loop-i-init
loop-i-init g c = grind (arith, common_steps)

pub returns-clause-ok : goal.returns-clause-ok
returns-clause-ok g c = grind (arith, common_steps)
