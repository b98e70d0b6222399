use Rattle.std.proofs.Common.{ap, sym, ◌∙◌}
use Rattle.varisat_solver.specs.promises.States.{Ledger, empty_state}
use Rattle.varisat_solver.proofs.entries.LoggedJournals.{journal-of}
use Rattle.varisat.proofs.RunsLogged.{run-counts}
use Rattle.varisat.proofs.Histories.{of-ok, run-is-true}
use Rattle.varisat.proofs.session.answers_of.Goals as goal

pub returns-clause-run : goal.returns-clause-run
returns-clause-run g c = of-ok c.run-answers.result _ _
    (λ answers h. let (t, r, q) = h empty_state c.new_in-solver.ensures in
    (t, r, λ v. (journal-of _ t q (ap (λ (l : Ledger). l.valid) (sym q.ledger) ∙ v), run-counts _ _ c.args.calls.items answers.items t r v)))
    c.run-answers.ensures.run

pub returns-clause-answers : goal.returns-clause-answers
returns-clause-answers g c = of-ok c.run-answers.result _ _ (λ answers h. h empty_state c.new_in-solver.ensures) c.run-answers.ensures.answers

pub returns-clause-truth : goal.returns-clause-truth
returns-clause-truth g c = of-ok c.run-answers.result _ _
    (λ answers h. let (t, r, q) = h empty_state c.new_in-solver.ensures in run-is-true _ _ c.args.calls.items answers.items t r) c.run-answers.ensures.run
