-- The rounds so far and one more come to what one call comes to.
use Rattle.std.proofs.Common.{◌≡◌, ◌∙◌, ◌+◌, ◌-◌, ◌<◌, ◌≤◌, ◌^◌, ℕ, Bool, Result, Err, true, false, sym, subst, arith}
use Rattle.varisat_solver.specs.declared.solver.SolverError.{SolverError}
use Rattle.varisat_solver.specs.declared.solver.SolverError.TheVariants.{Interrupted}
use Rattle.varisat_solver.specs.promises.States.{State}
use Rattle.varisat_solver.specs.promises.Summaries.{Summary}
use Rattle.varisat_solver.specs.promises.Calls.{Searches, SearchesWithin, with_max_steps}
use Rattle.varisat_solver.specs.inside.Representations.{Represents}
use Rattle.varisat_solver.proofs.steps.SearchRounds.{WentOn, went-nowhere, goes-on, comes-to}
use Rattle.varisat_solver.proofs.rounds.seek_in_rounds.Goals as goal

-- One round more, over plain values: its steps were spent, or it comes to an answer.
module _ (most rest round steps : ℕ) (before limited after : Summary) (found : Result Bool SolverError) (s : State) (left : rest ≤ most)
    (within : round ≤ rest) (small : steps < 2 ^ 64) (went : (m : State) × WentOn (most - rest) s m × Represents before m)
    (limits : (m : State) → Represents before m → Represents limited (with_max_steps round m))
    (seeks : (m : State) → Represents limited m → (t : State) × Searches m found t × Represents after t)
    (counted : (t : State) → Represents after t → steps ≡ t.ledger.steps) where
  round-spent : found ≡ Err Interrupted → (t : State) × WentOn (most - (rest - round)) s t × Represents after t
  round-spent interrupted =
      let (m, w, x) = went in
      let (t, h, y) = seeks (with_max_steps round m) (limits m x) in
      let is = counted t y in (
        t,
        subst (λ n. WentOn n s t) (let z : most - rest + round ≡ most - (rest - round) = omega (arith, left, within) in z)
            (goes-on round (most - rest) s m t w (subst (λ r. Searches (with_max_steps round m) r t) interrupted h) (omega (arith, is, small))),
        y,
      )

  round-ends : (found ≡ Err Interrupted → rest - round ≡ 0) → (t : State) × SearchesWithin most s found t × Represents after t
  round-ends last =
      let (m, w, x) = went in
      let (t, h, y) = seeks (with_max_steps round m) (limits m x) in
      let is = counted t y in (
        t,
        comes-to round most (most - rest) s m t found w h (omega (arith, left, within))
            (λ e. let z = last e in omega (arith, left, within, z)) (omega (arith, is, small)),
        y,
      )

pub rounds-init : goal.rounds-init
rounds-init g c = record {
  left = omega arith;
  went = λ s st. (s, subst (λ n. WentOn n s s) (let z : 0 ≡ c.args.max_steps - c.args.max_steps = omega arith in z) (went-nowhere s), st);
}

pub rounds-preserved : goal.rounds-preserved
rounds-preserved g c = record {
  left = let a = c.rounds.invariant.left in omega (arith, a);
  went = λ s st.
      round-spent c.args.max_steps c.rounds.rest c.round_of-round.result c.steps-steps.result _ _ _ c.seek-found.result s c.rounds.invariant.left
      c.round_of-round.ensures.within c.steps-steps.type_inv (c.rounds.invariant.went s st) c.set_max_steps.ensures c.seek-found.ensures.call
      (λ t y. let (u, (e, _), _) = c.steps-steps.ensures t y in e) (c.is_interrupted.ensures.0 c.if-not-is_interrupted.false);
}

pub returns-then-not-is_interrupted : goal.returns-then-not-is_interrupted
returns-then-not-is_interrupted g c s st =
    round-ends c.args.max_steps c.rounds.rest c.round_of-round.result c.steps-steps.result _ _ _ c.seek-found.result s c.rounds.invariant.left
    c.round_of-round.ensures.within c.steps-steps.type_inv (c.rounds.invariant.went s st) c.set_max_steps.ensures c.seek-found.ensures.call
    (λ t y. let (u, (e, _), _) = c.steps-steps.ensures t y in e)
    (λ z. let y : true ≡ false = sym (c.is_interrupted.ensures.1 z) ∙ c.if-not-is_interrupted.true in absurd cc)

pub returns-then-rest-eq0 : goal.returns-then-rest-eq0
returns-then-rest-eq0 g c s st =
    round-ends c.args.max_steps c.rounds.rest c.round_of-round.result c.steps-steps.result _ _ _ c.seek-found.result s c.rounds.invariant.left
    c.round_of-round.ensures.within c.steps-steps.type_inv (c.rounds.invariant.went s st) c.set_max_steps.ensures c.seek-found.ensures.call
    (λ t y. let (u, (e, _), _) = c.steps-steps.ensures t y in e) (λ _. c.if-rest-eq0.true)
