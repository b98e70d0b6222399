-- What a solver's tracer holds and takes.
use Rattle.std.specs.Prelude.{◌≡◌, ℕ, Bool, Option, if◌then◌else◌, List, [], ◌∷◌, ◌++◌, Result, Ok, Err}
use Rattle.std.specs.List.Sorted.{IsNonDecreasingBy}
use Rattle.varisat_theory.specs.promises.Literals.{Literal, Clause}
use Rattle.varisat_theory.specs.promises.Renaming.{rename}
use Rattle.varisat_theory.specs.promises.Journals.{Entry, Retires}
use Rattle.varisat_steps.specs.declared.tracer.TraceError.{TraceError}
use Rattle.varisat_names.specs.promises.VarMap.{at}
use Rattle.varisat_names.specs.promises.VarData.{data_at}
use Rattle.varisat_names.specs.promises.Variables.{Tables}
use Rattle.varisat_proof.specs.promises.Proving.{OpenState, ProofParts, is_there, IsLogged, IsBegunIf, Logs, logged, CanCountTargetFault, IsUsable, MayBePresent}
use Rattle.varisat_tracer.specs.declared.tracer.SolverTracer.{SolverTracer}
use Rattle.varisat_tracer.specs.promises.Carried.{carry, logged_as}

-- the names and variables of a solver, and its proof
pub record TracerState : Type 0 where
  pub tables : Tables
  pub proof : ProofParts

-- both together
abbrev pub tracer_state : {W A : Type 0} → SolverTracer W A → TracerState
tracer_state t = record { tables = t.tables; proof = t.proof }

-- the literal of the global variable that the solver variable stands for
abbrev pub global_literal : Tables → Literal → Literal
global_literal t = carry (at t.solvers.backward)

-- A clause's literals stand in increasing order of the variable numbers that a line writes.
abbrev pub IsInOrder : TracerState → Clause → Type 0
IsInOrder x clause = IsNonDecreasingBy (global_literal x.tables) clause

-- Clauses that a search may rely on: with others that it knows nothing of they are, over global variables, what the checker has. The target
-- can still count a fault, and the checker is not spent.
pub record Relies (x : TracerState) (held : List Clause) : Type 0 where
  pub room : CanCountTargetFault x.proof.opened
  pub usable : IsUsable x.proof.checker
  pub others : List Clause
  pub holds : MayBePresent x.proof.checker (others ++ rename (global_literal x.tables) held)

-- The entries were logged in the proof, over global variables; names and variables stay.
pub record TakesGlobally (x : TracerState) (entries : List Entry) (y : TracerState) : Type 0 where
  pub tables : y.tables ≡ x.tables
  pub logged : IsLogged x.proof (logged_as (global_literal x.tables) entries) y.proof

-- It broke off in the entries: a beginning of their lines stands behind what the target had taken, and it has counted so many faults more.
-- Names and variables stay, and a checker runs where one ran.
pub record BreaksGlobally (x : TracerState) (entries : List Entry) (faults : ℕ) (y : TracerState) : Type 0 where
  pub tables : y.tables ≡ x.tables
  pub begun : IsBegunIf x.proof.opened (logged (logged_as (global_literal x.tables) entries)) faults y.proof.opened
  pub runs : is_there y.proof.checker ≡ is_there x.proof.checker

-- So much of it as concerns the proof: a beginning of some entries' lines stands behind what the target had taken, and it has counted so many
-- faults more. Where no proof is open there are none. A checker runs where one ran.
abbrev pub BreaksProof : ProofParts → ℕ → ProofParts → Type 0
BreaksProof p faults q =
    (entries : List Entry) × IsBegunIf p.opened (logged entries) faults q.opened
    × (is_there q.checker ≡ is_there p.checker)

-- the proof that is open, and whether a checker runs
pub record OpenParts : Type 0 where
  pub opened : Option OpenState
  pub checking : Bool

abbrev pub open_parts : ProofParts → OpenParts
open_parts p = record { opened = p.opened; checking = is_there p.checker }

-- What logging entries over global variables returns and leaves. Names and variables stay also after an error.
abbrev pub LogsGlobally : TracerState → List Entry → Result (Unit {0}) TraceError → TracerState → Type 0
LogsGlobally x entries (Ok u) y = TakesGlobally x entries y
LogsGlobally x entries (Err e) y =
    (y.tables ≡ x.tables) × Logs x.proof (logged_as (global_literal x.tables) entries) (Err e) y.proof

-- what the proof logs of a global variable that has lost its name or its solver variable: that it is gone, where it is not live any more
abbrev pub retires_if_deleted : Tables → ℕ → List Entry
retires_if_deleted t x = if (data_at t.kept x).deleted then Retires x ∷ [] else []

-- A target that may still count a fault, if a proof is open, and a checker that is not spent, if one runs.
pub record CanLog (p : ProofParts) : Type 0 where
  pub room : CanCountTargetFault p.opened
  pub usable : IsUsable p.checker
