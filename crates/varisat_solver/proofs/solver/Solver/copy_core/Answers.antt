use Rattle.std.proofs.Common.{Ok, Some, List, sym, subst}
use Rattle.varisat_theory.specs.promises.Literals.{Literal}
use Rattle.varisat_solver.specs.promises.Calls.{ReturnsList, by_state}
use Rattle.varisat_solver.specs.promises.ReturnedLists.{lent_list}
use Rattle.varisat_solver.proofs.calls.SolverCalls.{logged-refused-core}
use Rattle.varisat_solver.proofs.solver.Solver.copy_core.Goals as goal

pub returns-in_ok-copy-in-Some : goal.returns-in_ok-copy-in-Some
returns-in_ok-copy-in-Some g c s st =
    let (t, a, w) = c.failed_core.ensures.call s st in
    let logged = subst (λ o. ReturnsList (by_state.core s) s (Ok (lent_list o)) t) c.in-Some.is a in
    (t, subst (λ (xs : List Literal). ReturnsList (by_state.core s) s (Ok (Some xs)) t) (sym c.in_ok-copy-in-Some.ensures) logged, w)

pub returns-in_err-copy-in-Some : goal.returns-in_err-copy-in-Some
returns-in_err-copy-in-Some g c s st =
    let (t, a, w) = c.failed_core.ensures.call s st in
    let logged = subst (λ o. ReturnsList (by_state.core s) s (Ok (lent_list o)) t) c.in-Some.is a in
    (s, logged-refused-core s t c.in-Some.core.now c.from_residual.result c.from_residual.ensures.0 logged, st)
