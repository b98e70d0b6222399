-- What is known of assumptions that are taken out.
use Rattle.std.specs.Prelude.{◌≡◌, true, List, take, ◌⊎◌}
use Rattle.varisat_theory.specs.promises.Membership.{◌∈◌}
use Rattle.varisat_theory.specs.promises.Literals.{Literal, Clause, Assignment, value, SatisfiesAll, MakesTrue}
use Rattle.varisat_prop.specs.View.{View, ViewFits}
use Rattle.varisat_search.specs.AssumptionParts.{AssumptionParts}

-- An assumption that is no longer in the list is true wherever the clauses that a proof holds are satisfied and the assumptions
-- before its place are true, which are those that have levels.
abbrev pub AreImpliedBefore : View → AssumptionParts → AssumptionParts → Type 0
AreImpliedBefore s x y =
    (held : List Clause) → ViewFits held s → (a : Assignment) → SatisfiesAll a held →
    MakesTrue a (take x.levels x.working)
    → (l : Literal) → l ∈ x.working → (l ∈ y.working) ⊎ (value a l ≡ true)
