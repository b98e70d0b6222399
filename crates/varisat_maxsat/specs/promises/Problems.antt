-- What is asked of a solver, and what its answer says.
use Rattle.std.specs.Prelude.{◌≡◌, ◌≢◌, ℕ, ◌+◌, ◌^◌, ◌≤◌, ◌<◌, ◌↔◌, max, Option, Some, None, IsSomeAnd, MatchOption, Result, MatchResult, Bool, true, false, if◌then◌else◌, List, [], ◌∷◌, ◌++◌, length}
use Rattle.varisat_theory.specs.promises.Literals.{Clause, Assignment, SatisfiesAll, IsSatisfiable}
use Rattle.varisat_formula.specs.promises.Values.{assignment_of, is_satisfied}
use Rattle.varisat_maxsat.specs.declared.refusal.MaxSatError.{MaxSatError}
use Rattle.varisat_maxsat.specs.declared.refusal.MaxSatError.TheVariants.{Ended}
use Rattle.varisat_maxsat.specs.declared.solving.Solution.{Solution}

-- A soft clause, and what an assignment costs that does not satisfy it.
pub record Soft : Type 0 where
  pub weight : ℕ
  pub clause : Clause

-- Hard clauses, which must be satisfied, and soft ones. All their variables are below the count.
pub record Problem : Type 0 where
  pub variables : ℕ
  pub hard : List Clause
  pub soft : List Soft

-- these clauses over so many variables
abbrev pub problem_of : ℕ → List Clause → List Soft → Problem
problem_of n H S = record { variables = n; hard = H; soft = S }

-- no clauses yet
abbrev pub starting : ℕ → Problem
starting n = problem_of n [] []

-- the count of variables is raised to this one, unless it is higher
abbrev pub with_var_count : ℕ → Problem → Problem
with_var_count n p = record p { variables = max p.variables n }

-- each clause with its weight
abbrev pub paired : List ℕ → List Clause → List Soft
paired (w ∷ ws) (c ∷ cs) = record { weight = w; clause = c } ∷ paired ws cs
paired _ _ = []

-- one more hard clause
abbrev pub with_hard : Clause → Problem → Problem
with_hard c p = record p { hard = p.hard ++ c ∷ [] }

-- one more soft clause
abbrev pub with_soft : ℕ → Clause → Problem → Problem
with_soft w c p = record p { soft = p.soft ++ record { weight = w; clause = c } ∷ [] }

-- the sum of the weights of the clauses that the assignment does not satisfy
abbrev pub cost : Assignment → List Soft → ℕ
cost a [] = 0
cost a (s ∷ ss) = (if is_satisfied a s.clause then 0 else s.weight) + cost a ss

-- The values satisfy the hard clauses at this cost.
pub record IsSolution (p : Problem) (c : ℕ) (values : List Bool) : Type 0 where
  pub each : length values ≡ p.variables
  pub satisfied : SatisfiesAll (assignment_of values) p.hard
  pub costs : cost (assignment_of values) p.soft ≡ c

-- each assignment that satisfies the hard clauses costs so much or more
abbrev pub CostsAtLeast : ℕ → Problem → Type 0
CostsAtLeast c p = (a : Assignment) → SatisfiesAll a p.hard → c ≤ cost a p.soft

-- So they do, and no assignment that satisfies the hard clauses costs less.
pub record IsOptimum (p : Problem) (c : ℕ) (values : List Bool) : Type 0 where
  pub solution : IsSolution p c values
  pub least : CostsAtLeast c p

-- some assignment satisfies the hard clauses, and each that does costs 2^64 or more
abbrev pub IsTooCostly : Problem → Type 0
IsTooCostly p = IsSatisfiable p.hard × CostsAtLeast (2 ^ 64) p

-- an optimum, or where it is not known to be one a solution
abbrev pub IsOptimumOrSolution : Bool → Problem → ℕ → List Bool → Type 0
IsOptimumOrSolution true = IsOptimum
IsOptimumOrSolution false = IsSolution

-- A solution that was handed on: what it costs, values, and whether who took it let the search go on.
pub record Found : Type 0 where
  pub cost : ℕ
  pub values : List Bool
  pub goes_on : Bool

-- a solution that is returned, as one that was handed on
abbrev pub found_of : {A : Type 0} → Bool → Solution A → Found
found_of goes_on s = record { cost = s.cost; values = s.values.items; goes_on = goes_on }

-- Solutions, the last one first: each costs less than the one that was found before it, after which the search was to
-- go on.
abbrev pub Improve : Problem → List Found → Type 0
Improve p [] = Unit {0}
Improve p (f ∷ []) = IsSolution p f.cost f.values
Improve p (f ∷ g ∷ fs) = IsSolution p f.cost f.values × (f.cost < g.cost) × (g.goes_on ≡ true) × Improve p (g ∷ fs)

-- the last one
abbrev pub last_found : List Found → Option Found
last_found [] = None
last_found (f ∷ fs) = Some f

-- who took them ended the search at the last one
abbrev pub IsStopped : List Found → Type 0
IsStopped fs = IsSomeAnd (last_found fs) (λ f. f.goes_on ≡ false)

-- What a search returned that handed these solutions on: the last one, or none where there is none; or an error: that it
-- was ended where, and only where, who took them ended it, and any other one only where there is no solution.
abbrev pub ReturnsFound : {A : Type 0} → List Found → Result (Option (Solution A)) MaxSatError → Type 0
ReturnsFound found result =
    MatchResult result (λ o. MatchOption o (found ≡ []) (λ s. last_found found ≡ Some (found_of true s)))
    (λ e. (e ≡ Ended ↔ IsStopped found) × (e ≢ Ended → found ≡ []))
