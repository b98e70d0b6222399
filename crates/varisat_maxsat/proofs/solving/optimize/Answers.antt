use Rattle.std.proofs.Common.{◌≡◌, true, subst, MatchOption}
use Rattle.std.proofs.lemmas.Bool.{not-false}
use Rattle.varisat_theory.specs.promises.Literals.{IsSatisfiable}
use Rattle.varisat_maxsat.specs.promises.Problems.{IsOptimumOrSolution}
use Rattle.varisat_maxsat.proofs.solving.optimize.Goals as goal

pub returns-clause-answer : goal.returns-clause-answer
returns-clause-answer g c =
    let e : c.in-Some.solution.is_optimum ≡ true = first_of (assumption c.if-not-solution.false, search (not-false, c.if-not-solution.false)) in
    subst (λ b. IsOptimumOrSolution b c.args.problem.now c.in-Some.solution.cost c.in-Some.solution.values.items) e
    (subst (λ o. MatchOption o (IsSatisfiable c.args.problem.now.hard → ⊥) (λ s. IsOptimumOrSolution s.is_optimum c.args.problem.now s.cost s.values.items))
    c.in-Some.is c.in_ok-solution.ensures.answer)
