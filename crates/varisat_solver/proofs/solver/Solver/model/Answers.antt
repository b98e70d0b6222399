use Rattle.std.proofs.Common.{◌≡◌, ◌∙◌, length, not, refl, sym, ap, subst, inl, Some}
use Rattle.varisat_solver.specs.promises.Calls.{by_state}
use Rattle.varisat_solver.specs.promises.Models.{IsCompletable}
use Rattle.varisat_solver.specs.inside.Representations.{list_tables}
use Rattle.varisat_solver.proofs.calls.CallStates.{represents-valid}
use Rattle.varisat_solver.proofs.calls.SolverCalls.{sat-model, logs-error}
use Rattle.varisat_solver.proofs.solver.Solver.model.Goals as goal

pub returns-in_ok-list-in-Sat-clause-call : goal.returns-in_ok-list-in-Sat-clause-call
returns-in_ok-list-in-Sat-clause-call g c s st =
    let q = rw (← c.self.view_is) at st in
    let t = c.self.inside.tracer.tables in
    let same = c.in_ok-list-in-Sat.ensures ∙ ap (λ vs. list_tables t vs 0 (length t.users.forward)) c.assignment-values.ensures in
    (s, (inl (represents-valid _ s q (ap not c.if-self.false), ap Some same ∙ sym (sat-model _ s q (ap not c.if-self.false) c.in-Sat.is).0), refl), st)

pub returns-in_ok-list-in-Sat-clause-completable : goal.returns-in_ok-list-in-Sat-clause-completable
returns-in_ok-list-in-Sat-clause-completable g c m e s st =
    let q = rw (← c.self.view_is) at st in
    let t = c.self.inside.tracer.tables in
    let same = c.in_ok-list-in-Sat.ensures ∙ ap (λ vs. list_tables t vs 0 (length t.users.forward)) c.assignment-values.ensures in
    let logged : c.in_ok-list-in-Sat.list.items ≡ m = cc in
    subst (IsCompletable s.naming s.clauses s.assumptions s.counted) (sym same ∙ logged) (sat-model _ s q (ap not c.if-self.false) c.in-Sat.is).1

pub returns-in_err-list-in-Sat-clause-call : goal.returns-in_err-list-in-Sat-clause-call
returns-in_err-list-in-Sat-clause-call g c s st =
    let q = rw (← c.self.view_is) at st in (
      s,
      logs-error (by_state.model s) s _ c.from_residual.result c.from_residual.ensures.0 (represents-valid _ s q (ap not c.if-self.false))
          (sym (sat-model _ s q (ap not c.if-self.false) c.in-Sat.is).0),
      st,
    )
