-- Where there is no better solution, the best one is an optimum.
use Rattle.std.proofs.Common.{◌≡◌, ◌≤◌, Bool, true, false, subst}
use Rattle.std.specs.Prelude.{Option, Some, None, IfSome}
use Rattle.varisat_maxsat.specs.promises.Problems.{Problem}
use Rattle.varisat_maxsat.specs.inside.Reductions.{Reduction, ReducesTo, ReducesToBelow, FindsSolution, DecidesHard, IsImproved, IfSomeSolution, IfSomeOptimum}
use Rattle.varisat_maxsat.specs.declared.solving.Solution.{Solution}
use Rattle.varisat_maxsat.proofs.Below.{met-optimal}

pub best-met : {A : Type 0} (p : Problem) (r : Reduction) (o : Option (Solution A)) → IsImproved false p r → IfSome o (λ s. s.cost ≤ r.ceiling) →
    IfSomeSolution p o → IfSomeOptimum p o
best-met p r None n l s = l
best-met p r (Some x) n l s = met-optimal p r x.cost x.values.items l n s

-- what a search found
pub improved : (p : Problem) (r : Reduction) (b : Bool) → b ≡ true → IsImproved b p r → ReducesToBelow p r × FindsSolution p r
improved p r b e h = subst (λ x. IsImproved x p r) e h

pub not-improved : (p : Problem) (r : Reduction) (b : Bool) → b ≡ false → IsImproved b p r → IsImproved false p r
not-improved p r b e h = subst (λ x. IsImproved x p r) e h

pub decided : (p : Problem) (r : Reduction) (b : Bool) → b ≡ true → DecidesHard b p r → ReducesTo p r × FindsSolution p r
decided p r b e h = subst (λ x. DecidesHard x p r) e h

pub not-decided : (p : Problem) (r : Reduction) (b : Bool) → b ≡ false → DecidesHard b p r → DecidesHard false p r
not-decided p r b e h = subst (λ x. DecidesHard x p r) e h
