use Rattle.std.proofs.Common.{[], ◌∷◌, sym, subst}
use Rattle.varisat_theory.specs.promises.Literals.{Clause}
use Rattle.varisat_theory.specs.promises.Derivations.{Add}
use Rattle.varisat_steps.specs.Traces.{TakesLines, CanTake}
use Rattle.varisat_steps.proofs.Broken.{lines-broken, breaks-in}
use Rattle.varisat_search.proofs.cdcl.trace_learned.Goals as goal

pub returns-in_err-add_step : goal.returns-in_err-add_step
returns-in_err-add_step g c =
    lines-broken g.P.ProofTracer.takes g.P.ProofTracer.breaks_off c.args.proof.now c.add_step.new.self
    (Add c.args.ctx.now.analyze_conflict.clause ∷ []) c.from_residual.result c.in_err-add_step.field-0.0 c.from_residual.ensures
    (breaks-in g.P.ProofTracer.breaks_off (c.in_err-add_step.ensures {u = tt}))

pub add_step-requires : goal.add_step-requires
add_step-requires g c =
    subst (λ (d : Clause). CanTake (g.P.ProofTracer.holds c.args.proof.now) (Add d ∷ [])) (sym c.clause-clause.ensures) c.requires

pub returns : goal.returns
returns g c =
    subst (λ (d : Clause). TakesLines g.P.ProofTracer.takes c.args.proof.now (Add d ∷ []) c.add_step.new.self) c.clause-clause.ensures
    (c.in_ok-add_step.ensures {u = tt})
