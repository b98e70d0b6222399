use Rattle.std.proofs.Common.{◌≡◌, ◌∙◌, not, refl, sym, ap, subst, inl, Some, List}
use Rattle.varisat_theory.specs.promises.Literals.{Literal}
use Rattle.varisat_solver.specs.promises.Models.{IsReturnedCore}
use Rattle.varisat_solver.proofs.calls.CallStates.{represents-valid}
use Rattle.varisat_solver.proofs.steps.SearchVerdicts.{logged-fails}
use Rattle.varisat_solver.proofs.calls.SolverCalls.{core-returned}
use Rattle.varisat_solver.proofs.solver.Solver.failed_core.Goals as goal

pub returns-in-UnsatUnderAssumptions-clause-call : goal.returns-in-UnsatUnderAssumptions-clause-call
returns-in-UnsatUnderAssumptions-clause-call g c s st =
    let q = rw (← c.self.view_is) at st in
    let logged = subst (λ (core : List Literal). IsReturnedCore s (Some core)) (sym c.user_failed_core-core.ensures)
    (core-returned _ s q (ap not c.if-self.false) c.in-UnsatUnderAssumptions.is) in
    (s, (inl (represents-valid _ s q (ap not c.if-self.false), logged), refl), st)

pub returns-in-UnsatUnderAssumptions-clause-fails : goal.returns-in-UnsatUnderAssumptions-clause-fails
returns-in-UnsatUnderAssumptions-clause-fails g c m e s st =
    let q = rw (← c.self.view_is) at st in
    let same : c.user_failed_core-core.result.now ≡ m = cc in
    let logged = subst (λ (core : List Literal). IsReturnedCore s (Some core)) (sym c.user_failed_core-core.ensures ∙ same)
    (core-returned _ s q (ap not c.if-self.false) c.in-UnsatUnderAssumptions.is) in
    (logged.0, logged-fails s m (q.fits (ap not c.if-self.false)).1.right logged)
