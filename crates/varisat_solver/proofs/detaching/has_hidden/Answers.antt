use Rattle.std.proofs.Common.{◌≡◌, ◌∙◌, false, length, sym, ap, subst, ⊎_elim, arith}
use Rattle.std.proofs.lemmas.Bool.{cases_lt}
use Rattle.varisat_names.specs.promises.VarMap.{at}
use Rattle.varisat_names.proofs.VarMap.{at-past}
use Rattle.varisat_theory.proofs.clauses.Members.{equal_or_not}
use Rattle.varisat_solver.specs.inside.Detached.{leads_to_hidden}
use Rattle.varisat_solver.proofs.detaching.has_hidden.Goals as goal

pub loop-index-preserved : goal.loop-index-preserved
loop-index-preserved g c v h =
    let m = c.args.variables.now in
    ⊎_elim
    (λ e. subst (λ w. leads_to_hidden m (at m.solvers.backward w) ≡ false) (sym e)
    (ap (λ w. leads_to_hidden m (at m.solvers.backward w)) (sym c.from_index.ensures) ∙ sym c.is_hidden.ensures ∙ c.if-is_hidden.false))
    (λ o. c.loop-index.invariant v (omega (arith, h, o)))
    (equal_or_not v c.loop-index.index)

pub returns : goal.returns
returns g c e v =
    let m = c.args.variables.now in
    ⊎_elim
    (λ h. c.loop-index.invariant v (omega (arith, h, c.solver_watermark-index-end.ensures, c.loop-index-test.false, c.loop-index.auto.index-end)))
    (λ h. ap (leads_to_hidden m) (at-past m.solvers.backward v (omega (arith, h))))
    (cases_lt v (length m.solvers.backward))
