-- What is printed of a problem, and the status.
use Rattle.std.specs.Prelude.{◌≡◌, ◌⊎◌, ℕ, ◌+◌, Bool, true, false, if◌then◌else◌, List, [], ◌∷◌, ◌++◌, take, codes, decimal, Ok, Err}
use Rattle.varisat_theory.specs.promises.Literals.{IsSatisfiable}
use Rattle.varisat_formula.specs.promises.Streams.{Taken}
use Rattle.varisat_maxsat.specs.promises.Problems.{Problem, IsOptimumOrSolution, Found, Improve}
use Rattle.varisat_wcnf.specs.declared.wcnf.WcnfFault.TheVariants.{OutOfMemory}
use Rattle.varisat_wcnf.specs.declared.wcnf.WcnfError.{WcnfError}
use Rattle.varisat_wcnf.specs.promises.Texts.{WcnfReading, wcnf}

-- a digit for each value
abbrev pub value_digits : List Bool → List ℕ
value_digits [] = []
value_digits (v ∷ vs) = (if v then 49 else 48) ∷ value_digits vs

-- what is printed of an optimum, or of a solution that is not known to be one
abbrev pub verdict_line : Bool → List ℕ
verdict_line true = codes "s OPTIMUM FOUND\n"
verdict_line false = codes "s SATISFIABLE\n"

-- and the status
abbrev pub solution_status : Bool → ℕ
solution_status true = 30
solution_status false = 10

-- the verdict on a solution, and the values of the variables in turn
abbrev pub solution_text : Bool → List Bool → List ℕ
solution_text is_optimum values = verdict_line is_optimum ++ codes "v " ++ value_digits values ++ codes "\n"

-- the line of a cost
abbrev pub cost_line : ℕ → List ℕ
cost_line cost = codes "o " ++ decimal cost ++ codes "\n"

-- those of solutions in the order in which they were found: the list has the last one first
abbrev pub cost_lines : List Found → List ℕ
cost_lines [] = []
cost_lines (f ∷ fs) = cost_lines fs ++ cost_line f.cost

-- a beginning of the text was printed
abbrev pub PrintsBeginning : List ℕ → Taken → Taken → Type 0
PrintsBeginning text old new = (n : ℕ) × (new.bytes ≡ old.bytes ++ take n text)

-- The text was printed, with this status, and no call of the target failed; or a call failed, a beginning of the text
-- was printed, and the status is that of a fault.
abbrev pub PrintsText : List ℕ → ℕ → Taken → Taken → ℕ → Type 0
PrintsText text status old new result =
    ((new.bytes ≡ old.bytes ++ text) × (new.faults ≡ old.faults) × (result ≡ status))
    ⊎ (PrintsBeginning text old new × (new.faults ≡ old.faults + 1) × (result ≡ 2))

-- What is printed of a problem: the costs of solutions, each less than the one before it, and the last one as an
-- optimum, or as one that is not known to be; or that no assignment satisfies its hard clauses; or that nothing is
-- known, as a limit was met before a solution was found; or such costs alone, with the status of a fault, where memory
-- ran out for the text of the last solution; or a beginning of such costs, where a call of the target failed.
pub data PrintsAnswer (p : Problem) (old new : Taken) (result : ℕ) : Type 0 where
  Solved : (is_optimum : Bool) (f : Found) (fs : List Found) → Improve p (f ∷ fs) →
      IsOptimumOrSolution is_optimum p f.cost f.values →
      PrintsText (cost_lines (f ∷ fs) ++ solution_text is_optimum f.values) (solution_status is_optimum)
      old new result → PrintsAnswer p old new result
  Unsatisfiable : (IsSatisfiable p.hard → ⊥) → PrintsText (codes "s UNSATISFIABLE\n") 20 old new result →
      PrintsAnswer p old new result
  Unknown : PrintsText (codes "s UNKNOWN\n") 0 old new result → PrintsAnswer p old new result
  CostsAlone : (f : Found) (fs : List Found) → Improve p (f ∷ fs) → new.bytes ≡ old.bytes ++ cost_lines (f ∷ fs) →
      new.faults ≡ old.faults → result ≡ 2 → PrintsAnswer p old new result
  BrokenOff : (fs : List Found) → Improve p fs → PrintsBeginning (cost_lines fs) old new → new.faults ≡ old.faults + 1 →
      result ≡ 2 → PrintsAnswer p old new result

-- What is printed of a text: that of its problem; or nothing, where the text has a fault, or memory ran out for it.
pub data AnswersText (text : List ℕ) (old new : Taken) (result : ℕ) : Type 0 where
  Read : (r : WcnfReading) → wcnf text ≡ Ok r → PrintsAnswer r.problem old new result → AnswersText text old new result
  Refused : (e : WcnfError) → (e.fault ≡ OutOfMemory) ⊎ (wcnf text ≡ Err e) → new ≡ old → result ≡ 2 →
      AnswersText text old new result
