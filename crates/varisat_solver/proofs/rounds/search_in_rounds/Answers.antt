-- The limit of steps is put back, and the search ends as that of `solve` does.
use Rattle.std.proofs.Common.{◌≡◌, ◌∙◌, ℕ, Bool, Result, sym, ap, subst}
use Rattle.varisat_solver.specs.promises.States.{State, Ledger}
use Rattle.varisat_solver.specs.promises.Summaries.{Summary}
use Rattle.varisat_solver.specs.inside.Representations.{Represents}
use Rattle.varisat_solver.specs.promises.Calls.{Searches, Solves, with_max_steps, by_state}
use Rattle.varisat_solver.specs.declared.solver.SolverError.{SolverError}
use Rattle.varisat_solver.proofs.accepting.Additions.{logged-error}
use Rattle.varisat_solver.proofs.steps.SearchRounds.{ends-early, solve-ends, solve-fails, same-limit}
use Rattle.varisat_solver.proofs.rounds.search_in_rounds.Goals as goal

-- what the rounds came to, under the limit that the solver had
found-under : (n : ℕ) (g : Summary) (s t : State) (r : Result Bool SolverError) → n ≡ g.ledger.settings.max_steps → Represents g s →
    Searches (with_max_steps n s) r (with_max_steps n t) → Searches s r (with_max_steps n t)
found-under n g s t r limit st h =
    subst (λ z. Searches z r (with_max_steps n t)) (sym (same-limit n s (ap (λ (l : Ledger). l.settings.max_steps) st.ledger ∙ sym limit))) h

pub returns-then-not-is_valid : goal.returns-then-not-is_valid
returns-then-not-is_valid g c s st =
    let n = c.max_steps-max_steps.result in
    let r = c.seek_in_rounds-found.result in
    let (t, h, x) = c.seek_in_rounds-found.ensures s st in
    let y = c.set_max_steps.ensures t x in
    let (u, (e, _), _) = c.is_valid.ensures.call (with_max_steps n t) y in (
      with_max_steps n t,
      ends-early s (with_max_steps n t) r (found-under n c.args.solver.now s t r c.max_steps-max_steps.ensures st h) (sym e ∙ c.if-not-is_valid.true),
      y,
    )

pub returns-in_err-end_search : goal.returns-in_err-end_search
returns-in_err-end_search g c s st =
    let n = c.max_steps-max_steps.result in
    let r = c.seek_in_rounds-found.result in
    let e = c.in_err-end_search.field-0.0 in
    let (t, h, x) = c.seek_in_rounds-found.ensures s st in
    let (u, f, z) =
    solve-fails c.set_max_steps.new.self c.end_search.new.self s (with_max_steps n t) r e
    (found-under n c.args.solver.now s t r c.max_steps-max_steps.ensures st h) (c.set_max_steps.ensures t x)
    (sym c.is_valid.ensures.now ∙ c.if-not-is_valid.false) c.in_err-end_search.ensures
    in (u, subst (λ k. Solves by_state s k u) (sym (logged-error c.from_residual.result e c.from_residual.ensures)) f, z)

pub returns : goal.returns
returns g c s st =
    let n = c.max_steps-max_steps.result in
    let r = c.seek_in_rounds-found.result in
    let (t, h, x) = c.seek_in_rounds-found.ensures s st in
    solve-ends c.set_max_steps.new.self c.end_search.new.self s (with_max_steps n t) r
    (found-under n c.args.solver.now s t r c.max_steps-max_steps.ensures st h) (c.set_max_steps.ensures t x)
    (sym c.is_valid.ensures.now ∙ c.if-not-is_valid.false) c.in_ok-end_search.ensures
