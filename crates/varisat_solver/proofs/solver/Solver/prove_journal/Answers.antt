use Rattle.std.proofs.Common.{ap, sym, ◌∙◌}
use Rattle.std.proofs.lemmas.Bool.{not-true}
use Rattle.varisat_solver.specs.promises.States.{Ledger}
use Rattle.varisat_solver.proofs.calls.SolverCalls.{counted-few}
use Rattle.varisat_solver.proofs.entries.LoggedJournals.{journal-of}
use Rattle.varisat_solver.proofs.solver.Solver.prove_journal.Goals as goal

pub returns-clause-journal : goal.returns-clause-journal
returns-clause-journal g c s st v = let q = rw (← c.self.view_is) at st in journal-of _ s q (ap (λ (l : Ledger). l.valid) (sym q.ledger) ∙ v)

pub returns-clause-few : goal.returns-clause-few
returns-clause-few g c s st v =
    let q = rw (← c.self.view_is) at st in
    let ok = sym (ap (λ (x : Ledger). x.valid) q.ledger) ∙ v in
    counted-few _ s q ok (λ n h. (c.self.invariant (not-true c.self.inside.ctx.solver_state.state_is_invalid ok)).counts.few n h)
