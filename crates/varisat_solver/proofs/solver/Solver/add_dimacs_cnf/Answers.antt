-- A clause of the text is refused, or it has a fault, or none.
use Rattle.std.proofs.Common.{◌∙◌, Err, refl, sym, ap, not, subst}
use Rattle.varisat_solver.specs.promises.Additions.{ClausesAdded, NoFault, Read, Unread}
use Rattle.varisat_solver.specs.promises.Calls.{count_anew}
use Rattle.varisat_solver.specs.promises.Calls.{by_state}
use Rattle.varisat_solver.specs.promises.Additions.{ReturnsFault}
use Rattle.varisat_solver.specs.promises.Refusals.{returned_faults}
use Rattle.varisat_solver.specs.promises.Summaries.{Summary}
use Rattle.varisat_solver.specs.promises.Targets.{WritesAll, WritesUpTo}
use Rattle.varisat_solver.specs.declared.solver.SolverError.TheVariants.{ClauseStoreFull, Invalid}
use Rattle.varisat_solver.proofs.accepting.Additions.{adds-valid, takes-in-turn, text-refused}
use Rattle.varisat_solver.proofs.calls.CallStates.{represents-valid}
use Rattle.varisat_solver.proofs.calls.ChangeEnds.{represents-invalid, invalid-logged}
use Rattle.varisat_solver.proofs.entries.Targets.{up-to-then, refused-unwritten, same-error}
use Rattle.varisat_solver.proofs.solver.Solver.add_dimacs_cnf.Goals as goal

pub returns-in-Ok-None-clause-call : goal.returns-in-Ok-None-clause-call
returns-in-Ok-None-clause-call g c s st =
    let valid = represents-valid _ s (rw (← c.self.view_is) at st) (ap not c.in_ok-ensure_valid.ensures) in
    let k = c.in-Ok-None.ensures.taken in
    let (u, a, w) = (takes-in-turn _ _ _ _ k.takes_all).call s st in
    (count_anew u, Read valid k.reading k.gives (ClausesAdded u a (NoFault (sym k.reported ∙ c.in-Ok-None.field-0-is) refl refl)), c.begin_count.ensures.call u w)

pub returns-in-Ok-None-clause-target : goal.returns-in-Ok-None-clause-target
returns-in-Ok-None-clause-target g c =
    subst (WritesAll c.args.self.now.opened) (sym (ap (λ (x : Summary). x.opened) c.begin_count.ensures.frame))
    (takes-in-turn _ _ _ _ c.in-Ok-None.ensures.taken.takes_all).target

pub returns-in-Ok-Some-clause-call : goal.returns-in-Ok-Some-clause-call
returns-in-Ok-Some-clause-call g c s st =
    let valid = represents-valid _ s (rw (← c.self.view_is) at st) (ap not c.in_ok-ensure_valid.ensures) in
    let k = c.in-Ok-Some.ensures.taken in
    let (u, a, w) = (takes-in-turn _ _ _ _ k.takes_all).call s st in
    let (t, f, z) = c.refuse_text.ensures.call u w (adds-valid s u _ valid a) in (
      t,
      Read valid k.reading k.gives
          (ClausesAdded u a (subst (λ x. ReturnsFault by_state x u (Err c.refuse_text.result) t) (sym (sym k.reported ∙ c.in-Ok-Some.field-0-is)) f)),
      z,
    )

pub returns-in-Ok-Some-clause-target : goal.returns-in-Ok-Some-clause-target
returns-in-Ok-Some-clause-target g c =
    let e = c.refuse_text.result in
    subst (WritesUpTo (returned_faults e) c.args.self.now.opened) (sym c.refuse_text.ensures.same)
    (up-to-then _ _ _ (returned_faults e) (takes-in-turn _ _ _ _ c.in-Ok-Some.ensures.taken.takes_all).target
    (refused-unwritten _ e c.refuse_text.ensures.faults))

pub returns-in-Ok-Some-clause-full : goal.returns-in-Ok-Some-clause-full
returns-in-Ok-Some-clause-full g c f = absurd (c.refuse_text.ensures.full (same-error _ ClauseStoreFull f))

pub returns-in-Err-clause-call : goal.returns-in-Err-clause-call
returns-in-Err-clause-call g c s st =
    let valid = represents-valid _ s (rw (← c.self.view_is) at st) (ap not c.in_ok-ensure_valid.ensures) in
    let k = c.in-Err.ensures.refused in
    let (t, a, w) = (takes-in-turn _ _ _ _ k.takes_some).call s st in
    (t, text-refused s t _ _ k.clauses c.in-Err.error valid k.given a, w)

pub returns-in-Err-clause-target : goal.returns-in-Err-clause-target
returns-in-Err-clause-target g c = (takes-in-turn _ _ _ _ c.in-Err.ensures.refused.takes_some).target

pub returns-in-Err-clause-full : goal.returns-in-Err-clause-full
returns-in-Err-clause-full g c = (takes-in-turn _ _ _ _ c.in-Err.ensures.refused.takes_some).full

pub returns-in_err-ensure_valid-clause-call : goal.returns-in_err-ensure_valid-clause-call
returns-in_err-ensure_valid-clause-call g c s st =
    let q = rw (← c.self.view_is) at st in
    let refused = invalid-logged c.from_residual.result c.in_err-ensure_valid.field-0.0 c.from_residual.ensures c.in_err-ensure_valid.ensures.0 in
    (s, Unread refused (represents-invalid _ s q (ap not c.in_err-ensure_valid.ensures.1), refl) refl, st)

pub returns-in_err-ensure_valid-clause-target : goal.returns-in_err-ensure_valid-clause-target
returns-in_err-ensure_valid-clause-target g c =
    let refused = invalid-logged c.from_residual.result c.in_err-ensure_valid.field-0.0 c.from_residual.ensures c.in_err-ensure_valid.ensures.0 in
    rw refused (refused-unwritten c.args.self.now.opened Invalid refl)
