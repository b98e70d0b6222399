-- What a caller holds, and what the number of a call's answer says: the relation that the call of `Solver` has, over
-- the literals of the numbers given. Numbers of answers are 0, those of the solver's refusals, 14 where what was given
-- is none of what it should be, and 15 where there is nothing to return.
use Rattle.std.specs.Prelude.{◌≡◌, ◌⊎◌, ℕ, ℤ, pos, ◌<ℤ◌, ◌≤ℤ◌, Bool, true, false, Option, Some, None, IsSome, List, [], ◌∷◌, ◌++◌, Result, Ok, Err, map}
use Rattle.std.specs.declared.alloc.AllocError.{AllocError}
use Rattle.varisat_theory.specs.promises.Membership.{◌∈◌}
use Rattle.varisat_theory.specs.promises.Literals.{Literal, IsSatisfiableWith}
use Rattle.varisat_literals.specs.promises.Numbers.{literal_numbered, variable_numbered}
use Rattle.varisat_formula.specs.promises.Rest.{Progress}
use Rattle.varisat_formula.specs.promises.Streams.{Taken, no_bytes}
use Rattle.varisat_names.specs.promises.Settings.{update_of}
use Rattle.varisat_names.specs.declared.config.ConfigField.{ConfigField}
use Rattle.varisat_names.specs.declared.variables.data.SamplingMode.{SamplingMode}
use Rattle.varisat_lines.specs.declared.format.ProofFormat.{ProofFormat}
use Rattle.varisat_solver.specs.promises.States.{State, empty_state}
use Rattle.varisat_solver.specs.promises.Summaries.{Summary}
use Rattle.varisat_solver.specs.promises.Fixed.{HasFixed}
use Rattle.varisat_solver.specs.inside.Representations.{Represents}
use Rattle.varisat_solver.specs.promises.Represented.{LeadsRepresented}
use Rattle.varisat_solver.specs.promises.Refusals.{refusal_number}
use Rattle.varisat_solver.specs.promises.Calls.{AddsClause, Solves, Configures, MakesVar, ReturnsList, ReturnsSteps, ReturnsValid, ReturnsFixed, SetsPhase, with_max_steps, by_state}
use Rattle.varisat_solver.specs.promises.Usage.{ChangesMode, Observes}
use Rattle.varisat_solver.specs.promises.ProofCalls.{OpensProof, ClosesProof}
use Rattle.varisat_solver.specs.declared.solver.SolverError.{SolverError}
use Rattle.varisat_calls.specs.Numbers.{returned_numbers, returned_names}
use Rattle.varisat_calls.specs.Codes.{answer_number, verdict_number, numbered}

-- The solver; what was given of the clause that is given a literal at a time, unless one of its literals found no
-- memory; the numbers of the list that was returned last; how far the DIMACS text came that is being given, if one is;
-- and the bytes that were taken out of a proof last.
pub record Caller : Type 0 where
  pub solver : Summary
  pub clause : Option (List Literal)
  pub returned : List ℤ
  pub text : Option Progress
  pub written : List ℕ

-- the clause, unless a literal of it is lost
abbrev pub clause_unless_lost : Bool → List Literal → Option (List Literal)
clause_unless_lost true c = None
clause_unless_lost false c = Some c

-- a caller of a new solver, to which nothing was returned yet, and for which nothing was taken out
pub record IsNewCaller (g : Caller) : Type 0 where
  pub solver : Represents g.solver empty_state
  pub clause : g.clause ≡ Some []
  pub returned : g.returned ≡ []
  pub text : g.text ≡ None
  pub written : g.written ≡ []

-- what a call answers that has nothing to return but whether it was refused
abbrev pub DoneOrRefused : Type 0
DoneOrRefused = Result (Unit {0}) SolverError

-- The solver made the call, which had this answer; nothing else changed.
pub record SolverMakes {X : Type 0} (R : State → X → State → Type 0) (g : Caller) (answer : X) (h : Caller) :
    Type 0 where
  pub call : LeadsRepresented g.solver (λ s t. R s answer t) h.solver
  pub rest : h ≡ record g { solver = h.solver }

-- The solver made the call, whose answer has this number.
abbrev pub MakesNumbered : (State → DoneOrRefused → State → Type 0) → Caller → ℕ → Caller → Type 0
MakesNumbered R g n h = (answer : DoneOrRefused) × (n ≡ answer_number answer) × SolverMakes R g answer h

-- What was given is none of what it should be, and nothing changes.
abbrev pub IsWrongCall : Caller → ℕ → Caller → Type 0
IsWrongCall g n h = (n ≡ 14) × (h ≡ g)

-- the call over the literals of the numbers
abbrev pub over : List ℤ → (State → List Literal → DoneOrRefused → State → Type 0) → State → DoneOrRefused → State →
    Type 0
over numbers R s r t = R s (map literal_numbered numbers) r t

-- The call is over the literals of these numbers, of which none is 0. It is 3 also where there was no room for them;
-- then nothing changes.
pub data MakesOver (numbers : List ℤ) (R : State → List Literal → DoneOrRefused → State → Type 0) (g : Caller)
    (n : ℕ) (h : Caller) : Type 0 where
  Zero : pos 0 ∈ numbers → IsWrongCall g n h → MakesOver numbers R g n h
  NoRoom : n ≡ 3 → h ≡ g → MakesOver numbers R g n h
  Made : (pos 0 ∈ numbers → ⊥) → MakesNumbered (over numbers R) g n h → MakesOver numbers R g n h

-- the same, where this was given of the next clause, or one of its literals is lost
abbrev pub giving_clause : Option (List Literal) → Caller → Caller
giving_clause c g = record g { clause = c }

-- A number that is not 0 is put behind the clause that is given a literal at a time, and 0 ends it, as which the solver
-- is given it. It is 3 where a literal found no memory; then the whole clause is refused at its end.
pub data PutsNumber (number : ℤ) (g : Caller) (n : ℕ) (h : Caller) : Type 0 where
  Put : (c : List Literal) → (number ≡ pos 0 → ⊥) → g.clause ≡ Some c → n ≡ 0 →
      h ≡ giving_clause (Some (c ++ literal_numbered number ∷ [])) g → PutsNumber number g n h
  Lost : (number ≡ pos 0 → ⊥) → n ≡ 3 → h ≡ giving_clause None g → PutsNumber number g n h
  Ended : (c : List Literal) → number ≡ pos 0 → g.clause ≡ Some c →
      MakesNumbered (λ s r t. AddsClause s c r t) (giving_clause (Some []) g) n h → PutsNumber number g n h
  Dropped : number ≡ pos 0 → g.clause ≡ None → n ≡ 3 → h ≡ giving_clause (Some []) g → PutsNumber number g n h

-- each call of `solve` may make so many steps
abbrev pub limiting : ℕ → State → Unit {0} → State → Type 0
limiting steps s _ t = t ≡ with_max_steps steps s

-- A call of `solve` may make so many steps. The steps since the last change are counted on.
abbrev pub SetsMaxSteps : ℕ → Caller → Caller → Type 0
SetsMaxSteps steps g h = SolverMakes (limiting steps) g tt h

-- the solver searched
abbrev pub SolvesNumbered : Caller → ℕ → Caller → Type 0
SolvesNumbered g n h =
    (answer : Result Bool SolverError) × (n ≡ verdict_number answer) × SolverMakes (Solves by_state) g answer h

-- some assignment satisfies the accepted clauses and makes the assumptions true
abbrev pub IsSatisfiableNow : Caller → Type 0
IsSatisfiableNow g = (s : State) → Represents g.solver s → IsSatisfiableWith s.clauses s.assumptions

-- none does
abbrev pub IsUnsatisfiableNow : Caller → Type 0
IsUnsatisfiableNow g = (s : State) → Represents g.solver s → IsSatisfiableWith s.clauses s.assumptions → ⊥

-- so many steps were made in all
abbrev pub TellsSteps : ℕ → Caller → Type 0
TellsSteps n g = LeadsRepresented g.solver (λ s t. ReturnsSteps s n t) g.solver

-- whether no refusal came from which there is no way back
abbrev pub TellsValid : Bool → Caller → Type 0
TellsValid b g = LeadsRepresented g.solver (λ s t. ReturnsValid s b t) g.solver

-- the phase is set to the literal of the number
abbrev pub setting_phase : ℤ → State → DoneOrRefused → State → Type 0
setting_phase number s r t = SetsPhase s (literal_numbered number) r t

-- The phase is set to the literal of the number, which is not 0.
pub data SetsPhaseNumbered (number : ℤ) (g : Caller) (n : ℕ) (h : Caller) : Type 0 where
  Zero : number ≡ pos 0 → IsWrongCall g n h → SetsPhaseNumbered number g n h
  Made : (number ≡ pos 0 → ⊥) → MakesNumbered (setting_phase number) g n h → SetsPhaseNumbered number g n h

-- The variable of the number has no phase that is set any more, if there is one. Nothing else changes.
pub data UnsetsPhaseNumbered (variable : ℤ) (g : Caller) (n : ℕ) (h : Caller) : Type 0 where
  Wrong : variable <ℤ pos 1 → IsWrongCall g n h → UnsetsPhaseNumbered variable g n h
  Made : pos 1 ≤ℤ variable → n ≡ 0 → h ≡ g → UnsetsPhaseNumbered variable g n h

-- Whether the literal of the number is fixed: 1 and 0. The number 0 is none of a literal. Where it is 1 the accepted clauses entail the
-- literal.
pub data TellsFixed (number : ℤ) (g : Caller) (n : ℕ) : Type 0 where
  Zero : number ≡ pos 0 → n ≡ 14 → TellsFixed number g n
  Fixed : (number ≡ pos 0 → ⊥) → n ≡ 1 → HasFixed g.solver (literal_numbered number) →
      LeadsRepresented g.solver (λ s t. ReturnsFixed s (literal_numbered number) true t) g.solver →
      TellsFixed number g n
  Unfixed : (number ≡ pos 0 → ⊥) → n ≡ 0 → (HasFixed g.solver (literal_numbered number) → ⊥) → TellsFixed number g n

-- the least free variable came into use
abbrev pub NamesNew : Caller → Result ℕ ℕ → Caller → Type 0
NamesNew g r h = (answer : Result ℕ SolverError) × (r ≡ numbered answer) × SolverMakes MakesVar g answer h

-- the setting is set
abbrev pub SetsField : Option ConfigField → ℕ → Caller → ℕ → Caller → Type 0
SetsField None value g n h = IsWrongCall g n h
SetsField (Some field) value g n h = MakesNumbered (λ s r t. Configures s (update_of field value) r t) g n h

-- the mode of the variable of the number is set
abbrev pub changing : SamplingMode → ℤ → State → DoneOrRefused → State → Type 0
changing mode variable s r t = ChangesMode mode s (variable_numbered variable) r t

-- the mode of the variable is set
pub data SetsModeNumbered (variable : ℤ) (mode : Option SamplingMode) (g : Caller) (n : ℕ) (h : Caller) : Type 0 where
  Wrong : (variable <ℤ pos 1) ⊎ (mode ≡ None) → IsWrongCall g n h → SetsModeNumbered variable mode g n h
  Made : (m : SamplingMode) → mode ≡ Some m → pos 1 ≤ℤ variable → MakesNumbered (changing m variable) g n h →
      SetsModeNumbered variable mode g n h

-- what `model` and `failed_core` of the solver may answer
abbrev pub ReturnsModel : State → Result (Option (List Literal)) AllocError → State → Type 0
ReturnsModel s r t = ReturnsList (by_state.model s) s r t

abbrev pub ReturnsCore : State → Result (Option (List Literal)) AllocError → State → Type 0
ReturnsCore s r t = ReturnsList (by_state.core s) s r t

-- there is a list to return
abbrev pub ReturnsSome : (State → Result (Option (List Literal)) AllocError → State → Type 0) → State → State → Type 0
ReturnsSome R s t = (list : List Literal) × R s (Ok (Some list)) t

-- The list is returned that the solver returns, if it does. It is 3 where there is one but no room for it, and then
-- none is returned.
pub data ReturnsListOf (R : State → Result (Option (List Literal)) AllocError → State → Type 0) (g : Caller)
    (n : ℕ) (h : Caller) : Type 0 where
  Returned : (list : List Literal) → n ≡ 0 → LeadsRepresented g.solver (λ s t. R s (Ok (Some list)) t) h.solver →
      h ≡ record g { returned = returned_numbers list } → ReturnsListOf R g n h
  Nothing : n ≡ 15 → LeadsRepresented g.solver (λ s t. R s (Ok None) t) h.solver → h ≡ g → ReturnsListOf R g n h
  NoRoom : n ≡ 3 → LeadsRepresented g.solver (ReturnsSome R) h.solver → h ≡ record g { returned = [] } →
      ReturnsListOf R g n h

-- hidden variables come back under these names
abbrev pub ShowsNames : List ℕ → Caller → Caller → Type 0
ShowsNames us g h = LeadsRepresented g.solver (λ s t. Observes s (Ok us) t) h.solver

-- Hidden variables come back, and their names are returned, or there is no room for that; or the call is refused.
pub data ShowsHidden (g : Caller) (n : ℕ) (h : Caller) : Type 0 where
  Returned : (us : List ℕ) → n ≡ 0 → ShowsNames us g h →
      h ≡ record g { solver = h.solver; returned = returned_names us } → ShowsHidden g n h
  NoRoom : (us : List ℕ) → n ≡ 3 → ShowsNames us g h →
      h ≡ record g { solver = h.solver; returned = [] } → ShowsHidden g n h
  Refused : (e : SolverError) → n ≡ refusal_number e → SolverMakes Observes g (Err e) h → ShowsHidden g n h

-- a proof opens in the format, for a target without bytes
abbrev pub opening_proof : ProofFormat → State → Result (Unit {0}) (SolverError × Taken) → State → Type 0
opening_proof f s r t = OpensProof {W = Taken} (λ w. w) no_bytes f s r t

-- A proof opens in the format, if it is one. It is 3 also where there is no room for a target; then nothing changes.
pub data OpensFormat (format : Option ProofFormat) (g : Caller) (n : ℕ) (h : Caller) : Type 0 where
  Wrong : format ≡ None → IsWrongCall g n h → OpensFormat format g n h
  NoRoom : IsSome format → n ≡ 3 → h ≡ g → OpensFormat format g n h
  Opened : (f : ProofFormat) → format ≡ Some f → n ≡ 0 → SolverMakes (opening_proof f) g (Ok tt) h →
      OpensFormat format g n h
  Refused : (f : ProofFormat) (e : SolverError) → format ≡ Some f → n ≡ refusal_number e →
      SolverMakes (opening_proof f) g (Err (e, no_bytes)) h → OpensFormat format g n h

-- the proof is closed, with the target that comes back
abbrev pub closing_proof : State → Result (Option Taken) (SolverError × Taken) → State → Type 0
closing_proof s r t = ClosesProof {W = Taken} (λ w. w) s r t

-- The proof is closed, with all its bytes; or none was open; or its target can't be flushed.
pub data ClosesNumbered (g : Caller) (n : ℕ) (h : Caller) : Type 0 where
  Closed : (target : Taken) → n ≡ 0 → SolverMakes closing_proof g (Ok (Some target)) h → ClosesNumbered g n h
  NoneOpen : n ≡ 15 → SolverMakes closing_proof g (Ok None) h → ClosesNumbered g n h
  Failed : (e : SolverError) (target : Taken) → n ≡ refusal_number e →
      SolverMakes closing_proof g (Err (e, target)) h → ClosesNumbered g n h

-- Bytes of a proof are taken out, in place of those before. Which ones these are is not said.
abbrev pub TakesWritten : Caller → Caller → Type 0
TakesWritten g h = h ≡ record g { written = h.written }
