-- The lines of costs, as far as they were printed.
use Rattle.std.specs.Prelude.{◌≡◌, ◌+◌, true, Option, Some, None, Result, MatchResult, MatchOption, List, [], ◌++◌, refl}
use Rattle.std.proofs.Common.{sym, append-nil}
use Rattle.varisat_formula.specs.promises.Streams.{Taken}
use Rattle.varisat_theory.specs.promises.Literals.{IsSatisfiable}
use Rattle.varisat_maxsat.specs.promises.Problems.{Problem, Found, found_of, Improve, IsOptimumOrSolution, last_found, IsStopped}
use Rattle.varisat_maxsat.specs.declared.solving.Solution.{Solution}
use Rattle.varisat_wcnf.specs.promises.Printed.{cost_lines, PrintsBeginning}

-- they were printed, and the search was not ended; or a beginning of them, and there was one fault
abbrev pub PrintsCosts : {E : Type 0} → Option E → List Found → Taken → Taken → Type 0
PrintsCosts None found old new =
    (new.bytes ≡ old.bytes ++ cost_lines found) × (new.faults ≡ old.faults) × (IsStopped found → ⊥)
PrintsCosts (Some e) found old new = PrintsBeginning (cost_lines found) old new × (new.faults ≡ old.faults + 1)

-- What a search returned that found these solutions: the last one, as an optimum or not; none, where nothing satisfies
-- the hard clauses; or an error, where nothing was found unless the search was ended.
abbrev pub ReturnsLast : {A E : Type 0} → Problem → List Found → Result (Option (Solution A)) E → Type 0
ReturnsLast p found result =
    MatchResult result
    (λ o. MatchOption o ((IsSatisfiable p.hard → ⊥) × (found ≡ []))
    (λ s. IsOptimumOrSolution s.is_optimum p s.cost s.values.items × (last_found found ≡ Some (found_of true s))))
    (λ _. (IsStopped found → ⊥) → found ≡ [])

-- A search found solutions and returned the last one, and their costs were printed, or a beginning of them.
abbrev pub PrintsFound : {A E F : Type 0} → Problem → Option F → Taken → Taken → Result (Option (Solution A)) E → Type 0
PrintsFound p fault old new result =
    (found : List Found) × Improve p found × PrintsCosts fault found old new × ReturnsLast p found result

-- no lines
pub prints-none : {E : Type 0} (fault : Option E) (old : Taken) → fault ≡ None → PrintsCosts fault [] old old
prints-none None old none = (sym (append-nil old.bytes), refl, λ s. s)
prints-none (Some e) old none = absurd cc
