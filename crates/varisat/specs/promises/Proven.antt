-- How the program's `solve` asks a new solver, what it leaves in the target of a proof, and when it fails.
use Rattle.std.specs.Prelude.{◌≡◌, ◌≢◌, ◌⊎◌, ℕ, Bool, ◌-◌, ◌^◌, ◌<◌, ◌++◌, true, false, List, [], Option, Some, None, Result, Ok, Err}
use Rattle.varisat_theory.specs.promises.Literals.{Clause}
use Rattle.varisat_theory.specs.promises.Derivations.{IsDerivation, Refutes}
use Rattle.varisat_theory.specs.promises.Journals.{Entry, lines_of}
use Rattle.varisat_formula.specs.promises.Dimacs.{dimacs}
use Rattle.varisat_formula.specs.promises.Streams.{Input, Taken, Output}
use Rattle.varisat_names.specs.declared.config.SolverConfigUpdate.{SolverConfigUpdate}
use Rattle.varisat_names.specs.promises.Settings.{no_update}
use Rattle.varisat_lines.specs.declared.format.Encoding.TheVariants.{Text}
use Rattle.varisat_lines.specs.declared.format.ProofFormat.{ProofFormat}
use Rattle.varisat_lines.specs.promises.Lines.{encoding_of, plain_lines, has_marks}
use Rattle.varisat_lines.specs.promises.Logging.{logged_lines, logged_bytes}
use Rattle.varisat_lines.specs.promises.Steps.{lines_written}
use Rattle.varisat_lines.specs.promises.Written.{AreInRange}
use Rattle.varisat_proof.specs.promises.Verified.{fault_status, EndsPrinting}
use Rattle.varisat_solver.specs.promises.OpenProofs.{first_proof}
use Rattle.varisat_solver.specs.promises.ProofBytes.{IsMarkedDerivation}
use Rattle.varisat_solver.specs.promises.ProofCalls.{with_proof, ClosesProof}
use Rattle.varisat_solver.specs.promises.States.{State, new_state}
use Rattle.varisat_solver.specs.promises.ClauseCalls.{AddsDimacs}
use Rattle.varisat_solver.specs.promises.Calls.{Solves, ReturnsList, with_update, count_anew, by_state}
use Rattle.varisat_solver.specs.declared.solver.SolverError.{SolverError}
use Rattle.varisat_solver.specs.declared.solver.SolverError.TheVariants.{Interrupted, OutOfMemory}
use Rattle.varisat.specs.declared.deciding.Report.{Report}
use Rattle.varisat.specs.declared.deciding.SolveOptions.{SolveOptions}
use Rattle.varisat.specs.promises.Decided.{StopReason, StepsSpent, Conclusion, Decided, Unknown, concluded, allowed_steps, Decides, conclusion_text, conclusion_status}

-- what a target over a writer took
abbrev pub taken_by_writer : Output → Taken
taken_by_writer t = record { bytes = t.bytes; faults = t.faults }

-- the target may still count a fault, if there is one
abbrev pub CanCountFault : {W : Type 0} → (W → Taken) → Option W → Type 0
CanCountFault taken None = Unit {0}
CanCountFault taken (Some target) = (taken target).faults < 2 ^ 64 - 1

-- the settings by which a file is decided, where they are others than those of a new solver, with a limit of steps, or none
abbrev pub file_update : Option ℕ → SolverConfigUpdate
file_update limit =
    record no_update {
      reduce_locals_interval = Some 2000;
      luby_restart_interval_scale = Some 1;
      restart_glue = Some 110;
      max_steps = limit;
    }

-- the state of a new solver with these, and with a checker inside or none
abbrev pub configured : Bool → Option ℕ → State
configured check limit = with_update (file_update limit) (new_state check)

-- the same where a proof was opened, if there is a target for it
abbrev pub prepared : {W : Type 0} → (W → Taken) → ProofFormat → Bool → Option ℕ → Option W → State
prepared taken format check limit None = configured check limit
prepared taken format check limit (Some target) =
    count_anew (with_proof (Some (first_proof format (taken target))) (configured check limit))

-- how the search of a solver in the state s stops for the reason: it returns Interrupted where its steps are spent
abbrev pub Stops : StopReason → State → State → Type 0
Stops StepsSpent s t = Solves by_state s (Err Interrupted) t

-- What a solver in the state s concludes as it is asked: a model that it returns, that there is none, or a reason why it stopped before.
abbrev pub Concludes : State → Conclusion → State → Type 0
Concludes s (Unknown reason) t = Stops reason s t
Concludes s (Decided None) t = Solves by_state s (Ok false) t
Concludes s (Decided (Some model)) t =
    Solves by_state s (Ok true) t × ReturnsList (by_state.model t) t (Ok (Some model)) t

-- The same with the errors: those of the search, and out of memory also where a model was found that could not be listed.
abbrev pub Reports : {A : Type 0} → State → Result (Report A) SolverError → State → Type 0
Reports s (Ok report) t = Concludes s (concluded report) t
Reports s (Err Interrupted) t = ⊥
Reports s (Err OutOfMemory) t = Solves by_state s (Err OutOfMemory) t ⊎ Solves by_state s (Ok true) t
Reports s (Err e) t = Solves by_state s (Err e) t

-- The target took just the bytes of what was logged, in numbers that a reader takes, and counted no fault. The lines are a derivation
-- from the clauses, and refute them where the conclusion is that they have no model. DRAT has just these lines. Marked text gives
-- clauses as they are, in order, and no assumptions, and is right from no clause. They are all, or the first ones where these have
-- no model.
pub record IsProven (format : ProofFormat) (clauses : List Clause) (conclusion : Conclusion)
    (old new : Taken) : Type 0 where
  pub logged : List Entry
  pub bytes : new.bytes ≡ old.bytes ++ logged_bytes format logged
  pub faults : new.faults ≡ old.faults
  pub plain : has_marks format ≡ false →
      logged_bytes format logged ≡ lines_written (encoding_of format) (plain_lines (lines_of logged))
  pub in_range : AreInRange (logged_lines (Text true) logged)
  pub derives : IsDerivation clauses (lines_of logged)
  pub refutes : conclusion ≡ Decided None → Refutes clauses (lines_of logged)
  pub given : List Clause
  pub rest : List Clause
  pub begins : clauses ≡ given ++ rest
  pub whole : rest ≢ [] → conclusion ≡ Decided None
  pub marked : IsMarkedDerivation logged given [] (conclusion ≡ Decided None)

-- so it is of the target that comes back, which is none where there was none
abbrev pub IsProvenIf : {W : Type 0} → (W → Taken) → ProofFormat → List Clause → Conclusion → Option W → Option W →
    Type 0
IsProvenIf taken format clauses conclusion None back = back ≡ None
IsProvenIf taken format clauses conclusion (Some target) None = ⊥
IsProvenIf taken format clauses conclusion (Some target) (Some back) =
    IsProven format clauses conclusion (taken target) (taken back)

-- The text that a source gave is decided, and the target has a proof of that, where there is one.
pub record DecidesProven {W : Type 0} (taken : W → Taken) (format : ProofFormat) (max_steps : ℕ) (old new : Input)
    (target back : Option W) (conclusion : Conclusion) : Type 0 where
  pub decides : Decides max_steps old new conclusion
  pub proven : IsProvenIf taken format (dimacs decides.text).clauses conclusion target back

-- When deciding a text fails with the error, where the solver was in the state s before: as it takes the text in; as it searches, or
-- lists the model that it found; or as its proof is closed.
pub data Fails {W : Type 0} (taken : W → Taken) (s : State) (old new : Input) (e : SolverError) : Type 0 where
  AsRead : (t : State) → AddsDimacs s old (Err e) new t → Fails taken s old new e
  AsSearched : (t u : State) → AddsDimacs s old (Ok tt) new t → Solves by_state t (Err e) u → e ≢ Interrupted →
      Fails taken s old new e
  AsListed : (t u : State) → AddsDimacs s old (Ok tt) new t → Solves by_state t (Ok true) u → e ≡ OutOfMemory →
      Fails taken s old new e
  AsClosed : (t u v : State) (c : Conclusion) (back : W) → AddsDimacs s old (Ok tt) new t → Concludes t c u →
      ClosesProof taken u (Err (e, back)) v →
      Fails taken s old new e

-- the text is decided as the options ask
abbrev pub DecidesBy : {W : Type 0} → (W → Taken) → SolveOptions → Input → Input → Option W → Option W → Conclusion →
    Type 0
DecidesBy taken o old new target back conclusion =
    DecidesProven taken o.format (allowed_steps o.max_steps) old new target back conclusion

-- The conclusion is that of a search of the text's clauses by a new solver, which has settings, a limit of steps, a checker and a proof as
-- the options ask: also what it found out was found within the limit, and under the checker.
abbrev pub SearchesText : {W : Type 0} → (W → Taken) → SolveOptions → Option W → Input → Input → Conclusion → Type 0
SearchesText taken o target old new conclusion =
    (t : State) × (u : State) × AddsDimacs (prepared taken o.format o.check o.max_steps target) old (Ok tt) new t
    × Concludes t conclusion u

-- deciding the text fails with the error, by a new solver that has settings, a checker and a proof as the options ask
abbrev pub FailsBy : {W : Type 0} → (W → Taken) → SolveOptions → Option W → Input → Input → SolverError → Type 0
FailsBy taken o target old new e = Fails taken (prepared taken o.format o.check o.max_steps target) old new e

-- the conclusion is printed with its status, or a beginning of it where a call of the target fails
abbrev pub Prints : Conclusion → ℕ → Taken → Taken → Type 0
Prints conclusion status before printed =
    EndsPrinting (conclusion_status conclusion) (conclusion_text conclusion) status before printed

-- What the program's `solve` does: deciding fails, nothing is printed, and the status is that of a fault; or the text is searched as the
-- options ask, and the conclusion is one for its clauses, and is printed.
abbrev pub SolvesText : {W : Type 0} → (W → Taken) → SolveOptions → Input → Input → Option W → Option W →
    Taken → Taken → ℕ → Type 0
SolvesText taken o old new target back before printed status =
    ((error : SolverError) × FailsBy taken o target old new error × (status ≡ fault_status) × (printed ≡ before))
    ⊎ ((conclusion : Conclusion) × DecidesBy taken o old new target back conclusion
    × SearchesText taken o target old new conclusion × Prints conclusion status before printed)
