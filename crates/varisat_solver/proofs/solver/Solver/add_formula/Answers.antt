-- All clauses are accepted, or one is refused.
use Rattle.std.proofs.Common.{◌∙◌, Err, refl, sym, ap, not, subst}
use Rattle.varisat_solver.specs.promises.Additions.{AllAdded, OneRefused, RefusedAtOnce}
use Rattle.varisat_solver.specs.promises.Calls.{count_anew}
use Rattle.varisat_solver.proofs.calls.CallStates.{represents-valid}
use Rattle.varisat_solver.proofs.accepting.Additions.{logged-error}
use Rattle.varisat_solver.specs.promises.Summaries.{Summary}
use Rattle.varisat_solver.specs.promises.Targets.{WritesAll}
use Rattle.varisat_solver.specs.declared.solver.SolverError.TheVariants.{ClauseStoreFull, Invalid}
use Rattle.varisat_solver.proofs.entries.Targets.{refused-unwritten, same-error}
use Rattle.varisat_solver.proofs.calls.ChangeEnds.{represents-invalid, invalid-logged}
use Rattle.varisat_solver.proofs.solver.Solver.add_formula.Goals as goal

pub returns-in_err-add_clauses-clause-call : goal.returns-in_err-add_clauses-clause-call
returns-in_err-add_clauses-clause-call g c s st =
    let (t, a, w) = (c.in_err-add_clauses.ensures {u = tt}).call s st in
    let valid = represents-valid _ s (rw (← c.self.view_is) at st) (ap not c.in_ok-ensure_valid.ensures) in
    let e = c.in_err-add_clauses.field-0.0 in
    (t, OneRefused valid e (logged-error c.from_residual-in_err-add_clauses.result e c.from_residual-in_err-add_clauses.ensures) a, w)

pub returns-clause-call : goal.returns-clause-call
returns-clause-call g c s st =
    let (t, a, w) = (c.in_ok-add_clauses.ensures {u = tt}).call s st in
    let valid = represents-valid _ s (rw (← c.self.view_is) at st) (ap not c.in_ok-ensure_valid.ensures) in
    (count_anew t, AllAdded valid t a refl refl, c.begin_count.ensures.call t w)

pub returns-in_err-add_clauses-clause-target : goal.returns-in_err-add_clauses-clause-target
returns-in_err-add_clauses-clause-target g c =
    let refused = logged-error c.from_residual-in_err-add_clauses.result c.in_err-add_clauses.field-0.0 c.from_residual-in_err-add_clauses.ensures in
    rw refused (c.in_err-add_clauses.ensures {u = tt}).target

pub returns-in_err-add_clauses-clause-full : goal.returns-in_err-add_clauses-clause-full
returns-in_err-add_clauses-clause-full g c f =
    let e = c.in_err-add_clauses.field-0.0 in
    let refused = logged-error c.from_residual-in_err-add_clauses.result e c.from_residual-in_err-add_clauses.ensures in
    (c.in_err-add_clauses.ensures {u = tt}).full (ap Err (same-error e ClauseStoreFull (sym refused ∙ f)))

pub returns-clause-target : goal.returns-clause-target
returns-clause-target g c =
    subst (WritesAll c.args.self.now.opened) (sym (ap (λ (x : Summary). x.opened) c.begin_count.ensures.frame)) (c.in_ok-add_clauses.ensures {u = tt}).target

pub returns-in_err-ensure_valid-clause-call : goal.returns-in_err-ensure_valid-clause-call
returns-in_err-ensure_valid-clause-call g c s st =
    let q = rw (← c.self.view_is) at st in
    let refused = invalid-logged c.from_residual.result c.in_err-ensure_valid.field-0.0 c.from_residual.ensures c.in_err-ensure_valid.ensures.0 in
    (s, RefusedAtOnce refused (represents-invalid _ s q (ap not c.in_err-ensure_valid.ensures.1), refl), st)

pub returns-in_err-ensure_valid-clause-target : goal.returns-in_err-ensure_valid-clause-target
returns-in_err-ensure_valid-clause-target g c =
    let refused = invalid-logged c.from_residual.result c.in_err-ensure_valid.field-0.0 c.from_residual.ensures c.in_err-ensure_valid.ensures.0 in
    rw refused (refused-unwritten c.args.self.now.opened Invalid refl)
