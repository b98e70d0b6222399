-- The rounds so far and one more come to what one search comes to.
use Rattle.std.proofs.Common.{◌≡◌, ◌+◌, ◌-◌, ◌<◌, ◌≤◌, ◌^◌, ℕ, Result, Ok, subst, arith}
use Rattle.std.specs.Result.{IfOk}
use Rattle.varisat_solver.specs.declared.solver.SolverError.{SolverError}
use Rattle.varisat_solver.specs.promises.States.{State}
use Rattle.varisat_solver.specs.promises.Summaries.{Summary}
use Rattle.varisat_solver.specs.promises.Calls.{with_max_steps}
use Rattle.varisat_solver.specs.inside.Representations.{Represents}
use Rattle.varisat.specs.declared.deciding.Report.{Report}
use Rattle.varisat.specs.declared.deciding.Report.TheVariants as report
use Rattle.varisat.specs.promises.Proven.{Reports}
use Rattle.varisat_solve.proofs.SpentRounds.{WereSpent, none-spent, one-spent, as-one, represents-one}
use Rattle.varisat_solve.proofs.rounds.find_in_rounds.Goals as goal

-- One round more, over plain values: its steps were spent, or it comes to a report.
module _ (A : Type 0) (most rest round steps : ℕ) (before limited after : Summary) (found : Result (Report A) SolverError) (s : State)
    (left : rest ≤ most) (within : round ≤ rest) (small : steps < 2 ^ 64)
    (went : (m : State) × WereSpent (most - rest) s m × Represents before m)
    (limits : (m : State) → Represents before m → Represents limited (with_max_steps round m))
    (finds : (m : State) → Represents limited m → (t : State) × Reports m found t × Represents after t)
    (counted : (t : State) → Represents after t → steps ≡ t.ledger.steps) where
  round-spent : found ≡ Ok report.Unknown → (t : State) × WereSpent (most - (rest - round)) s t × Represents after t
  round-spent unknown =
      let (m, w, x) = went in
      let (t, h, y) = finds (with_max_steps round m) (limits m x) in
      let is = counted t y in (
        t,
        subst (λ n. WereSpent n s t) (let z : most - rest + round ≡ most - (rest - round) = omega (arith, left, within) in z)
            (one-spent round (most - rest) s m t w (subst (λ r. Reports (with_max_steps round m) r t) unknown h) (omega (arith, is, small))),
        y,
      )

  round-ends : (last : Summary) → ((t : State) → Represents after t → Represents last (with_max_steps (most - (rest - round)) t)) →
      (t : State) × Reports (with_max_steps (most - (rest - round)) s) found t × IfOk found (λ _. Represents last t)
  round-ends last ends =
      let (m, w, x) = went in
      let (t, h, y) = finds (with_max_steps round m) (limits m x) in
      let is = counted t y in
      let n = most - (rest - round) in
      let (u, k, e) = as-one A round n (most - rest) s m t w (omega (arith, left, within)) (omega (arith, is, small)) (omega (arith, left, within)) found h in
      (u, k, represents-one last n t u found e (ends t y))

pub rounds-init : goal.rounds-init
rounds-init g c = record {
  left = omega arith;
  went = λ s st. (s, subst (λ n. WereSpent n s s) (let z : 0 ≡ c.args.most - c.args.most = omega arith in z) (none-spent s), st);
}

pub rounds-preserved-else-not-goes_on-3 : goal.rounds-preserved-else-not-goes_on-3
rounds-preserved-else-not-goes_on-3 g c = record {
  left = let a = c.rounds.invariant.left in omega (arith, a);
  went = λ s st.
      round-spent g.row.A.Denot c.args.most c.rounds.rest c.next_round-round.result c.steps-steps.result _ _ _ c.find_report-found.result s c.rounds.invariant.left
      c.next_round-round.ensures c.steps-steps.type_inv (c.rounds.invariant.went s st) c.set_max_steps.ensures c.find_report-found.ensures
      (λ t y. let (u, (e, _), _) = c.steps-steps.ensures t y in e) (c.goes_on.ensures.unknown c.if-not-goes_on.false);
}

pub returns-then-not-goes_on-clause-found : goal.returns-then-not-goes_on-clause-found
returns-then-not-goes_on-clause-found g c s st =
    round-ends g.row.A.Denot c.args.most c.rounds.rest c.next_round-round.result c.steps-steps.result _ _ _ c.find_report-found.result s c.rounds.invariant.left
    c.next_round-round.ensures c.steps-steps.type_inv (c.rounds.invariant.went s st) c.set_max_steps.ensures c.find_report-found.ensures
    (λ t y. let (u, (e, _), _) = c.steps-steps.ensures t y in e) _ c.set_max_steps-then-not-goes_on.ensures
