use Rattle.std.proofs.Common.{[], ◌∷◌}
use Rattle.varisat_theory.specs.promises.Journals.{Retires}
use Rattle.varisat_tracer.specs.inside.TracerLaws.{checked-runs}
use Rattle.varisat_tracer.proofs.Logging.{same-open}
use Rattle.varisat_tracer.proofs.tracer.SolverTracer.retire_var_if_unused.Goals as goal

pub returns-then-var_data_global-clause-opened : goal.returns-then-var_data_global-clause-opened
returns-then-var_data_global-clause-opened g c =
    same-open c.args.self.now.proof c.delete_var.new.proof c.delete_var.ensures.opened
    (checked-runs c.args.self.now.proof.checker c.delete_var.new.proof.checker (Retires c.args.global ∷ []) c.delete_var.ensures.logged.checked)
