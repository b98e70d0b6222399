use Rattle.std.proofs.Common.{List, [], ◌∷◌, refl, ap, ◌∙◌}
use Rattle.varisat_theory.specs.promises.Literals.{Literal}
use Rattle.varisat_theory.specs.promises.Journals.{Accepts}
use Rattle.varisat_tracer.specs.inside.Tracing.{TracerState}
use Rattle.varisat_tracer.proofs.GlobalSteps.{logs-logged, unlogged}
use Rattle.varisat_tracer.proofs.tracer.SolverTracer.add_clause.Goals as goal

pub returns-in-Err : goal.returns-in-Err
returns-in-Err g c =
    let x : TracerState = record { tables = c.args.self.now.tables; proof = c.args.self.now.proof } in
    unlogged x (Accepts c.args.clause.now ∷ [])

pub returns : goal.returns
returns g c =
    let x : TracerState = record { tables = c.args.self.now.tables; proof = c.args.self.now.proof } in
    let y : TracerState = record { tables = c.args.self.now.tables; proof = c.add_clause.new.proof } in
    logs-logged x y (Accepts c.args.clause.now ∷ []) (Accepts c.as_slice-clause.result.now ∷ []) c.add_clause.result refl
    (ap (λ (ls : List Literal). Accepts ls ∷ []) (c.as_slice-clause.ensures.value ∙ c.in-Ok.ensures)) c.add_clause.ensures
