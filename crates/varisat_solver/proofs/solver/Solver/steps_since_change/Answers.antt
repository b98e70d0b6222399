use Rattle.std.proofs.Common.{◌∙◌, ◌-◌, length, refl, sym, ap, subst}
use Rattle.std.proofs.lemmas.Bool.{not-true}
use Rattle.varisat_theory.specs.promises.CallBounds.{AreFew}
use Rattle.varisat_solver.specs.promises.States.{Ledger}
use Rattle.varisat_solver.proofs.calls.SolverCalls.{counted-few}
use Rattle.varisat_solver.proofs.solver.Solver.steps_since_change.Goals as goal

pub returns : goal.returns
returns g c s st =
    let q = rw (← c.self.view_is) at st in
    let e = c.saturating_sub.ensures ∙ ap (λ k. k - c.self.inside.changed_at) c.steps.ensures.steps ∙ sym (ap (λ (x : Ledger). x.since) q.ledger) in (
      s,
      (
        e,
        (λ v.
            let ok = sym (ap (λ (x : Ledger). x.valid) q.ledger) ∙ v in
            subst (AreFew (length s.counted)) (sym e)
            (counted-few _ s q ok (λ n h. (c.self.invariant (not-true c.self.inside.ctx.solver_state.state_is_invalid ok)).counts.few n h))),
        refl,
      ),
      st,
    )
