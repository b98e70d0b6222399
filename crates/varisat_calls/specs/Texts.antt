-- DIMACS texts that a caller gives in pieces, and texts whose proof is checked.
use Rattle.std.specs.Prelude.{◌≡◌, ◌⊎◌, ℕ, List, [], Option, Some, None, Result, Ok, Err}
use Rattle.varisat_theory.specs.promises.Literals.{IsSatisfiable}
use Rattle.varisat_formula.specs.declared.dimacs.error.DimacsError.{DimacsError}
use Rattle.varisat_formula.specs.promises.Dimacs.{dimacs}
use Rattle.varisat_formula.specs.promises.Rest.{Progress, begin, AdvancesBy, RunsOutIn, IsEnding}
use Rattle.varisat_solver.specs.promises.ClauseCalls.{AddsFormula}
use Rattle.varisat_solver.specs.promises.Refusals.{IsRefusedText, refusal_number}
use Rattle.varisat_solver.specs.promises.Represented.{LeadsRepresented}
use Rattle.varisat_solver.specs.declared.solver.SolverError.{SolverError}
use Rattle.varisat_calls.specs.Callers.{Caller, DoneOrRefused}

-- how far the text came, or the beginning of one
abbrev pub text_of : Option Progress → Progress
text_of None = begin
text_of (Some p) = p

-- what was read without its clauses, which were taken
abbrev pub without_clauses : Progress → Progress
without_clauses p = record p { reading = record p.reading { clauses = [] } }

-- the reader took the piece, or memory ran out at a blank of it
abbrev pub ReadsFurther : Progress → List ℕ → Progress → Type 0
ReadsFurther p piece q = AdvancesBy p piece q ⊎ RunsOutIn p piece q

-- The clauses that were read are added, which had this answer, and this text is being given then; nothing else changed.
pub record AddsClauses (read : Progress) (answer : DoneOrRefused) (text : Option Progress) (g h : Caller) : Type 0 where
  pub call : LeadsRepresented g.solver (λ s t. AddsFormula s read.reading.clauses answer t) h.solver
  pub rest : h ≡ record g { solver = h.solver; text = text }

-- The clauses that ended are added, and the text goes on, or its fault is reported. A text that is refused is over.
pub data AddsEndedClauses (read : Progress) (g : Caller) (n : ℕ) (h : Caller) : Type 0 where
  GoesOn : read.reading.fault ≡ None → n ≡ 0 →
      AddsClauses read (Ok tt) (Some (without_clauses read)) g h → AddsEndedClauses read g n h
  HasFault : (fault : DimacsError) (e : SolverError) → read.reading.fault ≡ Some fault → IsRefusedText fault e →
      n ≡ refusal_number e → AddsClauses read (Ok tt) None g h → AddsEndedClauses read g n h
  Refused : (e : SolverError) → n ≡ refusal_number e → AddsClauses read (Err e) None g h → AddsEndedClauses read g n h

-- the next piece is read, and what ended in it is added
abbrev pub Feeds : List ℕ → Caller → ℕ → Caller → Type 0
Feeds piece g n h = (read : Progress) × ReadsFurther (text_of g.text) piece read × AddsEndedClauses read g n h

-- what ends with the text is added; then the highest number of its header and its literals is returned, or its fault
pub data EndsRead (read : Progress) (g : Caller) (r : Result ℕ ℕ) (h : Caller) : Type 0 where
  Ended : read.reading.fault ≡ None → r ≡ Ok read.reading.highest →
      AddsClauses read (Ok tt) None g h → EndsRead read g r h
  HasFault : (fault : DimacsError) (e : SolverError) → read.reading.fault ≡ Some fault → IsRefusedText fault e →
      r ≡ Err (refusal_number e) → AddsClauses read (Ok tt) None g h → EndsRead read g r h
  Refused : (e : SolverError) → r ≡ Err (refusal_number e) → AddsClauses read (Err e) None g h → EndsRead read g r h

-- the text ends, which is over then
pub record EndsGivenText (g : Caller) (r : Result ℕ ℕ) (h : Caller) : Type 0 where
  pub read : Progress
  pub ends : IsEnding (text_of g.text) read
  pub adds : EndsRead read g r h

-- the text has no fault, and no assignment satisfies its clauses
abbrev pub IsRefutedText : List ℕ → Type 0
IsRefutedText text = ((dimacs text).fault ≡ None) × (IsSatisfiable (dimacs text).clauses → ⊥)
