-- How the program's `solve` decides a text, whose formula it may simplify before it searches, and when it fails.
use Rattle.std.specs.Prelude.{◌≡◌, ◌≢◌, ◌⊎◌, ℕ, ◌^◌, ◌<◌, nat_le, Bool, true, false, ◌&&◌, not, List, Option, Some, None, Result, Ok, Err, codes}
use Rattle.varisat_theory.specs.promises.Membership.{◌∈◌}
use Rattle.varisat_theory.specs.promises.Literals.{Literal, Clause}
use Rattle.varisat_theory.specs.promises.Derivations.{Line}
use Rattle.varisat_formula.specs.declared.dimacs.error.DimacsError.{DimacsError}
use Rattle.varisat_formula.specs.promises.Formulas.{Formula}
use Rattle.varisat_formula.specs.promises.Parsed.{Parses}
use Rattle.varisat_formula.specs.promises.Streams.{Input, Taken}
use Rattle.varisat_lines.specs.declared.format.ProofFormat.{ProofFormat}
use Rattle.varisat_lines.specs.declared.writer.WriteError.{WriteError}
use Rattle.varisat_lines.specs.declared.writer.WriteError.TheVariants as write
use Rattle.varisat_lines.specs.promises.Lines.{encoding_of, has_marks, plain_lines}
use Rattle.varisat_lines.specs.promises.Steps.{PutsLines}
use Rattle.varisat_proof.specs.promises.Verified.{fault_status, EndsPrinting}
use Rattle.varisat_simplify.specs.promises.Simplified.{literal_count, IsMadeOf}
use Rattle.varisat_solver.specs.promises.States.{State}
use Rattle.varisat_solver.specs.promises.Calls.{Solves, by_state}
use Rattle.varisat_solver.specs.promises.ClauseCalls.{AddsFormula}
use Rattle.varisat_solver.specs.promises.Refusals.{IsRefusedText}
use Rattle.varisat_solver.specs.promises.ProofCalls.{ClosesProof}
use Rattle.varisat.specs.promises.Decided.{Conclusion, Decided, Unknown, IsConclusion, conclusion_text, conclusion_status}
use Rattle.varisat.specs.promises.Proven.{prepared, Concludes, IsProvenIf, DecidesBy, SearchesText, FailsBy}
use Rattle.varisat.specs.declared.deciding.SolveOptions.{SolveOptions}
use Rattle.varisat_solver.specs.declared.solver.SolverError.{SolverError}
use Rattle.varisat_solver.specs.declared.solver.SolverError.TheVariants.{Interrupted, OutOfMemory, ProofIoError}
use Rattle.varisat_solve.specs.declared.options.ProgramOptions.{ProgramOptions}
use Rattle.varisat_solve.specs.declared.options.Simplification.{Simplification}
use Rattle.varisat_solve.specs.declared.options.Simplification.TheVariants.{Always, Never, IfLong}
use Rattle.varisat_solve.specs.declared.options.ModelLines.{ModelLines}
use Rattle.varisat_solve.specs.declared.options.ModelLines.TheVariants as shown
use Rattle.varisat_solve.specs.promises.Extending.{named_count, conclusion_of_all}
use Rattle.varisat_solve.specs.promises.Wrapping.{wrapped_model_text}

-- 1. Which formulas are simplified.

-- from how many literals on a formula is long
abbrev pub long_from : ℕ
long_from = 2000

-- whether a formula with so many literals is simplified: those of its clauses, where one that a clause names twice counts twice
abbrev pub simplifies : Simplification → ℕ → Bool
simplifies Always count = true
simplifies Never count = false
simplifies IfLong count = nat_le long_from count

-- whether some formula is simplified
abbrev pub is_allowed : Simplification → Bool
is_allowed Always = true
is_allowed Never = false
is_allowed IfLong = true

-- whether the options let any formula be simplified: they do not rule it out, and no proof has lines for the clauses of the text
abbrev pub may_simplify : ProgramOptions → Bool
may_simplify o = is_allowed o.simplification && not (has_marks o.search.format)

-- whether a text's formula of these clauses is simplified, which it never is where a proof has lines for the clauses of the text
abbrev pub is_simplified : ProgramOptions → List Clause → Bool
is_simplified o P = simplifies o.simplification (literal_count P) && not (has_marks o.search.format)

-- the formula of the text that a source gave, if it gave one, is searched as it is
abbrev pub IsSearchedAsIs : ProgramOptions → Input → Input → Type 0
IsSearchedAsIs o old new = (f : Formula) → Parses old (Ok f) new → is_simplified o f.clauses ≡ false

-- 2. What a formula is made into, and its lines in a proof.

-- the refusal for a line of a proof that is not written
abbrev pub line_refusal : WriteError → SolverError
line_refusal write.Memory = OutOfMemory
line_refusal (write.Target cause) = ProofIoError cause

-- each literal is one that a text may have
abbrev pub AreLow : List Clause → Type 0
AreLow P = (c : Clause) (l : Literal) → c ∈ P → l ∈ c → l < 2 ^ 29

-- What a formula is made into, and what its models are extended by. The lines lead from the one to the other.
pub record Made (f : Formula) : Type 0 where
  pub into : Formula
  pub stack : List Clause
  pub lines : List Line
  pub made : IsMadeOf f into stack lines

-- The target took the lines, if there is one, or a beginning of them.
abbrev pub TakesLead : {W : Type 0} → (W → Taken) → ProofFormat → Option W → List Line → Result (Unit {0}) WriteError →
    Option W → Type 0
TakesLead taken format None lines r led = (r ≡ Ok tt) × (led ≡ None)
TakesLead taken format (Some target) lines r None = ⊥
TakesLead taken format (Some target) lines r (Some led) =
    PutsLines (encoding_of format) (taken target) r (plain_lines lines) (taken led)

-- 3. What is concluded of clauses, and when that fails.

-- The conclusion is one for the clauses, and the target has a proof of that, where there is one.
pub record Concluded {W : Type 0} (taken : W → Taken) (format : ProofFormat) (max_steps : ℕ) (P : List Clause)
    (target back : Option W)
    (conclusion : Conclusion) : Type 0 where
  pub found : IsConclusion max_steps P conclusion
  pub proven : IsProvenIf taken format P conclusion target back

-- the conclusion is that of a search by a solver in the state s, which took the clauses in
abbrev pub SearchesOver : State → List Clause → Conclusion → Type 0
SearchesOver s P conclusion = (t : State) × (u : State) × AddsFormula s P (Ok tt) t × Concludes t conclusion u

-- When deciding clauses fails with the error, where the solver was in the state s before: as it takes them in; as it searches, or
-- as a model is listed; or as its proof is closed.
pub data FailsOver {W : Type 0} (taken : W → Taken) (s : State) (P : List Clause) (e : SolverError) : Type 0 where
  AsAdded : (t : State) → AddsFormula s P (Err e) t → FailsOver taken s P e
  AsSearched : (t u : State) → AddsFormula s P (Ok tt) t → Solves by_state t (Err e) u → e ≢ Interrupted →
      FailsOver taken s P e
  AsListed : (t u : State) → AddsFormula s P (Ok tt) t → Solves by_state t (Ok true) u → e ≡ OutOfMemory →
      FailsOver taken s P e
  AsClosed : (t u v : State) (c : Conclusion) (back : W) → AddsFormula s P (Ok tt) t → Concludes t c u →
      ClosesProof taken u (Err (e, back)) v →
      FailsOver taken s P e

-- 4. What is concluded of a formula that is simplified first, and when that fails.

-- The conclusion is that of a search of what the formula is made into, by a new solver after the lines that lead to that: a model is
-- extended to all variables up to the highest that the formula names.
pub record SearchesSimplified {W : Type 0} (taken : W → Taken) (o : SolveOptions) (target : Option W) (f : Formula)
    (conclusion : Conclusion) : Type 0 where
  pub made : Made f
  pub led : Option W
  pub takes : TakesLead taken o.format target made.lines (Ok tt) led
  pub inner : Conclusion
  pub searches : SearchesOver (prepared taken o.format o.check o.max_steps led) made.into.clauses inner
  pub extended : conclusion ≡ conclusion_of_all made.stack (named_count f.clauses) inner

-- When deciding a formula fails that is simplified first: there is no memory to simplify it; the lines that lead to what it is made into
-- are not written; deciding that fails, by a new solver after these lines; or it has a model, and there is no memory to extend that.
pub data FailsSimplified {W : Type 0} (taken : W → Taken) (o : SolveOptions) (target : Option W) (f : Formula)
    (e : SolverError) : Type 0 where
  AsSimplified : e ≡ OutOfMemory → FailsSimplified taken o target f e
  AsLed : (m : Made f) (fault : WriteError) (led : Option W) →
      TakesLead taken o.format target m.lines (Err fault) led → e ≡ line_refusal fault →
      FailsSimplified taken o target f e
  AsDecided : (m : Made f) (led : Option W) → TakesLead taken o.format target m.lines (Ok tt) led →
      FailsOver taken (prepared taken o.format o.check o.max_steps led) m.into.clauses e →
      FailsSimplified taken o target f e
  AsExtended : (m : Made f) (led : Option W) → TakesLead taken o.format target m.lines (Ok tt) led →
      (model : List Literal) →
      SearchesOver (prepared taken o.format o.check o.max_steps led) m.into.clauses (Decided (Some model)) →
      e ≡ OutOfMemory → FailsSimplified taken o target f e

-- 5. Texts.

-- The conclusion is that of a search of the text's own clauses, as by a solver that is given the text; or of what its formula is
-- made into, where that is simplified.
pub data SearchesFirst {W : Type 0} (taken : W → Taken) (o : ProgramOptions) (target : Option W) (old new : Input)
    (conclusion : Conclusion) : Type 0 where
  SearchesAsIs : IsSearchedAsIs o old new → SearchesText taken o.search target old new conclusion →
      SearchesFirst taken o target old new conclusion
  SearchesMade : (f : Formula) → Parses old (Ok f) new → is_simplified o f.clauses ≡ true →
      SearchesSimplified taken o.search target f conclusion →
      SearchesFirst taken o target old new conclusion

-- When deciding a text fails: the text has a fault, or its source, or is not kept; its own clauses are searched, and that fails as it does
-- for a solver that is given the text; or its formula is simplified first, and deciding it fails.
pub data FailsFirst {W : Type 0} (taken : W → Taken) (o : ProgramOptions) (target : Option W) (old new : Input)
    (e : SolverError) : Type 0 where
  FailsParsing : (fault : DimacsError) → Parses old (Err fault) new → IsRefusedText fault e →
      FailsFirst taken o target old new e
  FailsAsIs : IsSearchedAsIs o old new → FailsBy taken o.search target old new e → FailsFirst taken o target old new e
  FailsMade : (f : Formula) → Parses old (Ok f) new → is_simplified o f.clauses ≡ true →
      FailsSimplified taken o.search target f e →
      FailsFirst taken o target old new e

-- what is printed for a conclusion: a model on one line, or on lines of a bounded length, or only that there is one
abbrev pub shown_text : ModelLines → Conclusion → List ℕ
shown_text shown.One conclusion = conclusion_text conclusion
shown_text shown.Wrapped (Decided None) = conclusion_text (Decided None)
shown_text shown.Wrapped (Decided (Some model)) = wrapped_model_text model
shown_text shown.Wrapped (Unknown reason) = conclusion_text (Unknown reason)
shown_text shown.Hidden (Decided None) = conclusion_text (Decided None)
shown_text shown.Hidden (Decided (Some model)) = codes "s SATISFIABLE\n"
shown_text shown.Hidden (Unknown reason) = conclusion_text (Unknown reason)

-- the conclusion is printed with its status, or a beginning of it where a call of the target fails
abbrev pub Shows : ModelLines → Conclusion → ℕ → Taken → Taken → Type 0
Shows model_lines conclusion status before printed =
    EndsPrinting (conclusion_status conclusion) (shown_text model_lines conclusion) status before printed

-- What the program's `solve` does: deciding fails, nothing is printed, and the status is that of a fault; or the text is searched as the
-- options ask, with a proof from its own clauses, and the conclusion is one for these, and is printed, with a model as the options ask.
abbrev pub SolvesFirst : {W : Type 0} → (W → Taken) → ProgramOptions → Input → Input → Option W → Option W → Taken →
    Taken → ℕ → Type 0
SolvesFirst taken o old new target back before printed status =
    ((error : SolverError) × FailsFirst taken o target old new error × (status ≡ fault_status) × (printed ≡ before))
    ⊎ ((conclusion : Conclusion) × DecidesBy taken o.search old new target back conclusion
    × SearchesFirst taken o target old new conclusion × Shows o.model_lines conclusion status before printed)
