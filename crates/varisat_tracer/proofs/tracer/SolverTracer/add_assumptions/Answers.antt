use Rattle.std.proofs.Common.{List, [], ◌∷◌, refl, ap, ◌∙◌}
use Rattle.varisat_theory.specs.promises.Literals.{Literal}
use Rattle.varisat_theory.specs.promises.Journals.{Assumes}
use Rattle.varisat_tracer.specs.inside.Tracing.{TracerState}
use Rattle.varisat_tracer.proofs.GlobalSteps.{logs-logged, unlogged}
use Rattle.varisat_tracer.proofs.tracer.SolverTracer.add_assumptions.Goals as goal

pub returns-in-Err : goal.returns-in-Err
returns-in-Err g c =
    let x : TracerState = record { tables = c.args.self.now.tables; proof = c.args.self.now.proof } in
    unlogged x (Assumes c.args.assumptions.now ∷ [])

pub returns : goal.returns
returns g c =
    let x : TracerState = record { tables = c.args.self.now.tables; proof = c.args.self.now.proof } in
    let y : TracerState = record { tables = c.args.self.now.tables; proof = c.add_assumptions.new.proof } in
    logs-logged x y (Assumes c.args.assumptions.now ∷ []) (Assumes c.as_slice-assumptions.result.now ∷ []) c.add_assumptions.result refl
    (ap (λ (ls : List Literal). Assumes ls ∷ []) (c.as_slice-assumptions.ensures.value ∙ c.in-Ok.ensures)) c.add_assumptions.ensures
