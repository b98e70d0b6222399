-- The entries of a solver's steps, and when they can be handed on.
use Rattle.std.specs.Prelude.{◌≡◌, ℕ, Bool, true, List, [], ◌∷◌, ◌++◌, Result, Ok, Err}
use Rattle.varisat_theory.specs.promises.Literals.{Literal, Clause}
use Rattle.varisat_theory.specs.promises.Propagation.{Conflicts}
use Rattle.varisat_theory.specs.promises.Derivations.{Line, Add, Delete, Derives}
use Rattle.varisat_theory.specs.inside.Outcomes.{SearchOutcome, Unknown, Sat, Unsat, UnsatUnder}
use Rattle.varisat_theory.specs.promises.Searches.{Search, Fits}
use Rattle.varisat_theory.specs.inside.StepLaws.{unit_lines}
use Rattle.varisat_theory.specs.promises.Journals.{Entry, Writes, Fails, Retires, written}
use Rattle.varisat_steps.specs.declared.tracer.TraceError.{TraceError}
use Rattle.varisat_steps.specs.declared.tracer.TraceError.TheVariants.{Memory, Target}
use Rattle.varisat_steps.specs.declared.step.ProofStep.{ProofStep}
use Rattle.varisat_steps.specs.declared.step.ProofStep.TheVariants.{AtClause, UnitClauses, DeleteClause, DeleteVar, FailedAssumptions}

-- the entries of a step
abbrev pub entries_of : ProofStep → List Entry
entries_of (AtClause c) = Writes (Add c.now) ∷ []
entries_of (UnitClauses units) = written (unit_lines units.now)
entries_of (DeleteClause c) = Writes (Delete c.now) ∷ []
entries_of (DeleteVar v) = Retires v ∷ []
entries_of (FailedAssumptions core) = Fails core.now ∷ []

-- the entry of a verdict: a core
abbrev pub verdict_entries : SearchOutcome → List Entry
verdict_entries Unknown = []
verdict_entries (Sat found) = []
verdict_entries Unsat = []
verdict_entries (UnsatUnder core) = Fails core ∷ []

-- The tracer took the lines.
abbrev pub TakesLines : {Q : Type 0} → (Q → List Entry → Q → Type 0) → Q → List Line → Q → Type 0
TakesLines takes x lines y = takes x (written lines) y

-- It took the lines of a step, and then the core that the step ended with, where it ended with one.
abbrev pub TakesStep : {Q : Type 0} → (Q → List Entry → Q → Type 0) → Q → List Line → SearchOutcome → Q → Type 0
TakesStep takes x lines v y = takes x (written lines ++ verdict_entries v) y

-- how many faults at the target an error stands for
abbrev pub faults_of : TraceError → ℕ
faults_of Memory = 0
faults_of (Target cause) = 1

-- What taking a step's entries returns and leaves: they were taken, or a tracer that is active broke off in them.
abbrev pub LogsStep : {Q : Type 0} → Bool → (Q → List Entry → Q → Type 0) → (Q → List Entry → ℕ → Q → Type 0) → Q →
    List Entry →
    Result (Unit {0}) TraceError → Q → Type 0
LogsStep active takes breaks x entries (Ok u) y = takes x entries y
LogsStep active takes breaks x entries (Err e) y = (active ≡ true) × breaks x entries (faults_of e) y

-- It took some entries, and then a beginning of the next, as so many faults came at its target.
abbrev pub BreaksOff : {Q : Type 0} → (Q → List Entry → ℕ → Q → Type 0) → Q → ℕ → Q → Type 0
BreaksOff breaks x faults y = (entries : List Entry) × breaks x entries faults y

-- What handing lines on returns and leaves: they were taken, or the tracer broke off in some.
abbrev pub LogsLines : {Q : Type 0} → (Q → List Entry → Q → Type 0) → (Q → List Entry → ℕ → Q → Type 0) → Q →
    List Line →
    Result (Unit {0}) TraceError → Q → Type 0
LogsLines takes breaks x lines (Ok u) y = TakesLines takes x lines y
LogsLines takes breaks x lines (Err e) y = BreaksOff breaks x (faults_of e) y

-- The lines are a derivation from clauses that may be held.
abbrev pub CanTake : (List Clause → Type 0) → List Line → Type 0
CanTake holds lines = (held after : List Clause) × holds held × Derives held lines after

-- Propagation from the literals over clauses that may be held conflicts.
abbrev pub CanFail : (List Clause → Type 0) → List Literal → Type 0
CanFail holds core = (held : List Clause) × holds held × Conflicts held core

-- The step is right for clauses that may be held. A variable may leave at any time.
abbrev pub CanTakeStep : (List Clause → Type 0) → ProofStep → Type 0
CanTakeStep holds (AtClause c) = CanTake holds (Add c.now ∷ [])
CanTakeStep holds (UnitClauses units) = CanTake holds (unit_lines units.now)
CanTakeStep holds (DeleteClause c) = CanTake holds (Delete c.now ∷ [])
CanTakeStep holds (DeleteVar v) = Unit {0}
CanTakeStep holds (FailedAssumptions core) = CanFail holds core.now

-- Clauses that fit the search may be held.
abbrev pub AdmitsFor : (List Clause → Type 0) → Search → Type 0
AdmitsFor holds s = (held : List Clause) × holds held × Fits held s

-- Such may be held with one clause more, which was accepted.
abbrev pub AdmitsWith : (List Clause → Type 0) → Search → Clause → Type 0
AdmitsWith holds s c = (held : List Clause) × holds (held ++ c ∷ []) × Fits held s
