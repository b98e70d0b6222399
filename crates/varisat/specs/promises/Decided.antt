-- What the program's `solve` finds out of a text, what it prints, and with which status it ends then.
use Rattle.std.specs.Prelude.{◌≡◌, ◌≢◌, ℕ, ◌+◌, ◌-◌, ◌*◌, ◌^◌, ◌<◌, ◌≤◌, min, true, List, [], ◌∷◌, ◌++◌, length, map, Option, Some, None, Vec, codes}
use Rattle.std.specs.Option.{unwrap_or}
use Rattle.varisat_theory.specs.promises.Membership.{◌∈◌}
use Rattle.varisat_theory.specs.promises.Literals.{Literal, Clause, Assignment, variable_of, SatisfiesAll, MakesTrue, IsSatisfiable}
use Rattle.varisat_formula.specs.promises.Dimacs.{dimacs}
use Rattle.varisat_formula.specs.promises.Streams.{Input, Reads, HasEnded}
use Rattle.varisat_proof.specs.promises.Verified.{fault_status}
use Rattle.varisat_solver.specs.promises.States.{join_counted}
use Rattle.varisat_solver.specs.promises.Models.{IsRising}
use Rattle.varisat.specs.declared.deciding.Report.{Report}
use Rattle.varisat.specs.declared.deciding.Report.TheVariants as report
use Rattle.varisat.specs.promises.Lines.{literals_text}

-- the literals of a list that was made
abbrev pub listed : {A : Type 0} → Option (Vec Literal A) → Option (List Literal)
listed None = None
listed (Some v) = Some v.items

-- the variable is one of those up to the highest that the clauses name
abbrev pub IsUpToHighest : List Clause → ℕ → Type 0
IsUpToHighest P u = (c : Clause) × (l : Literal) × (c ∈ P) × (l ∈ c) × (u ≤ variable_of l)

-- A model of the clauses: exactly the variables up to the highest that they name, each once and in increasing order, such that
-- some assignment agrees with the list and satisfies the clauses.
pub record IsModel (P : List Clause) (model : List Literal) : Type 0 where
  pub rising : IsRising 0 model
  pub all_listed : (u : ℕ) → IsUpToHighest P u → (l : Literal) × (l ∈ model) × (variable_of l ≡ u)
  pub up_to_highest : (l : Literal) → l ∈ model → IsUpToHighest P (variable_of l)
  pub satisfied : (a : Assignment) × MakesTrue a model × SatisfiesAll a P

-- a model of the clauses; or none where no assignment satisfies them
abbrev pub IsOutcome : List Clause → Option (List Literal) → Type 0
IsOutcome P None = IsSatisfiable P → ⊥
IsOutcome P (Some model) = IsModel P model

-- Why a search may stop before it has found out whether the clauses have a model: it made all steps that it was allowed.
pub data StopReason : Type 0 where
  StepsSpent : StopReason

-- What `solve` concludes of a text: an outcome for its clauses; or that it stopped before it had one, and why.
pub data Conclusion : Type 0 where
  Decided : Option (List Literal) → Conclusion
  Unknown : StopReason → Conclusion

-- the conclusion that a report gives, with the literals of a list that was made
abbrev pub concluded : {A : Type 0} → Report A → Conclusion
concluded (report.Decided outcome) = Decided (listed outcome)
concluded report.Unknown = Unknown StepsSpent

-- how many steps may be made where they are limited, and where not
abbrev pub allowed_steps : Option ℕ → ℕ
allowed_steps limit = unwrap_or limit (2 ^ 64 - 1)

-- the different variables that clauses name, behind those that are known
abbrev pub named_variables : List ℕ → List Clause → List ℕ
named_variables known [] = known
named_variables known (c ∷ P) = named_variables (join_counted known (map variable_of c)) P

-- The conclusion is one for the clauses, where so many steps may be made, and 2^64-1 be counted: these are spent only where they
-- are fewer than a call may come to.
abbrev pub IsConclusion : ℕ → List Clause → Conclusion → Type 0
IsConclusion max_steps P (Decided outcome) = IsOutcome P outcome
IsConclusion max_steps P (Unknown StepsSpent) = min max_steps (2 ^ 64 - 1) < 2 ^ (2 * length (named_variables [] P) + 3)

-- What a source gave in a call, up to its end and without a failed call, is a text without a fault, and this is the conclusion for its
-- clauses.
pub record Decides (max_steps : ℕ) (old new : Input) (conclusion : Conclusion) : Type 0 where
  pub text : List ℕ
  pub reads : Reads old text new
  pub ended : HasEnded new
  pub quiet : new.faults ≡ old.faults
  pub fine : (dimacs text).fault ≡ None
  pub found : IsConclusion max_steps (dimacs text).clauses conclusion

-- what is printed where a model was found
abbrev pub model_text : List Literal → List ℕ
model_text model = codes "s SATISFIABLE\nv" ++ literals_text model ++ codes "\n"

-- what is printed
abbrev pub outcome_text : Option (List Literal) → List ℕ
outcome_text None = codes "s UNSATISFIABLE\n"
outcome_text (Some model) = model_text model

-- the status
abbrev pub outcome_status : Option (List Literal) → ℕ
outcome_status None = 20
outcome_status (Some model) = 10

-- what is printed for a conclusion
abbrev pub conclusion_text : Conclusion → List ℕ
conclusion_text (Decided outcome) = outcome_text outcome
conclusion_text (Unknown reason) = codes "s UNKNOWN\n"

-- the status of the program for it
abbrev pub conclusion_status : Conclusion → ℕ
conclusion_status (Decided outcome) = outcome_status outcome
conclusion_status (Unknown reason) = 0

-- What a status says of the text that the source gave since, whatever is known of the source: 10 only at the end of a text
-- without a fault whose clauses some assignment satisfies, 20 only of one whose clauses none does; neither behind a failed call.
pub record StatusIsTrue (old new : Input) (status : ℕ) : Type 0 where
  pub ended : status ≢ fault_status → new.ended ≡ true
  pub quiet : status ≢ fault_status → new.faults ≡ old.faults
  pub fine : (text : List ℕ) → new.given ≡ old.given ++ text → status ≢ fault_status → (dimacs text).fault ≡ None
  pub satisfiable : (text : List ℕ) → new.given ≡ old.given ++ text → status ≡ 10 → IsSatisfiable (dimacs text).clauses
  pub unsatisfiable : (text : List ℕ) → new.given ≡ old.given ++ text → status ≡ 20 →
      IsSatisfiable (dimacs text).clauses → ⊥
