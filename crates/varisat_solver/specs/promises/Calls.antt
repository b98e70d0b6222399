-- Which answer each call may give, and what is known then: one relation a call, with a case for each answer. A case that is ⊥ is an
-- answer that the call never gives.
--
-- Refusals are looked for in this order: Invalid; then `add_clause` returns Ok under the verdict Unsat; ClauseAfterSolve;
-- ProofOpen; ProofTooLate; VariableLimit; WitnessVar; AssumedVar; ConfigOutOfRange; OutOfMemory, ClauseStoreFull or
-- ProofIoError, whichever comes first, and for `assume` ProofIoError behind OutOfMemory; Interrupted.
use Rattle.std.specs.Prelude.{◌≡◌, ◌≢◌, ℕ, ◌+◌, ◌-◌, ◌^◌, ◌<◌, ◌≤◌, Bool, true, false, Option, Some, None, List, [], ◌∷◌, ◌++◌, ◌⊎◌, Result, Ok, Err, map, length}
use Rattle.std.specs.declared.alloc.AllocError.{AllocError}
use Rattle.varisat_theory.specs.promises.Membership.{◌∈◌}
use Rattle.varisat_theory.specs.promises.Literals.{Literal, Clause, variable_of, opposite, IsUnit, IsSatisfiable}
use Rattle.varisat_theory.specs.promises.Journals.{Entry}
use Rattle.varisat_theory.specs.promises.Journals as entry
use Rattle.varisat_proof.specs.promises.Passing.{LogsConflict}
use Rattle.varisat_theory.specs.promises.CallBounds.{AreFew}
use Rattle.varisat_lines.specs.declared.format.ProofFormat.{ProofFormat}
use Rattle.varisat_lines.specs.promises.Lines.{has_marks}
use Rattle.varisat_solver.specs.promises.Journals.{with_entries, LogsMore, BeginsInSteps, AreDerived, EndBy, IsJournal}
use Rattle.varisat_solver.specs.promises.StepEntries.{GoesOnInSteps}
use Rattle.varisat_solver.specs.promises.OpenProofs.{IsOpen, BarsClauses, BarsAssumptions, searched_under, lines_over, GoesOnWriting, GoesOnFailing}
use Rattle.varisat_solver.specs.promises.States.{Known, State, join_counted, Verdict, Unknown, Sat, Unsat, UnsatUnderAssumptions, HasRightVerdict}
use Rattle.varisat_solver.specs.promises.Names.{Naming, name_one, name_all, through_names, IsLeastFree, NameNoWitness, IsFirstWitness}
use Rattle.varisat_solver.specs.promises.Models.{model_of, IsReturnedCore, IsEntailed}
use Rattle.varisat_names.specs.declared.config.SolverConfigUpdate.{SolverConfigUpdate}
use Rattle.varisat_names.specs.promises.Settings.{updated_settings, first_bad}
use Rattle.varisat_solver.specs.promises.Budgets.{CountsSteps}
use Rattle.varisat_solver.specs.declared.solver.SolverError.{SolverError}
use Rattle.varisat_solver.specs.declared.solver.SolverError.TheVariants.{Interrupted, ProofIoError, OutOfMemory, Invalid, ClauseStoreFull, WitnessVar, VariableLimit, ClauseAfterSolve, ProofOpen, ConfigOutOfRange}
use Rattle.varisat_literals.specs.promises.Numbers.{variable_limit}

-- 1. Whatever is known of verdicts.

-- whether no call failed from which there is no way back
abbrev pub is_valid : {V : Type 0} → Known V → Bool
is_valid s = s.ledger.valid

-- the same as a statement
abbrev pub IsValid : {V : Type 0} → Known V → Type 0
IsValid s = is_valid s ≡ true

-- What is known in t is what it is in s, but for what a call logs beside, lines that add no clause that counts and variables that
-- leave, for further bytes of an open proof, and for the words of the clause store. Variables left only where they may, and the lines
-- logged before are written as they were.
pub record IsLikeButLeft {V : Type 0} (may_leave : Bool) (s t : Known V) : Type 0 where
  pub same : t ≡ record s { logged = t.logged; variables = t.variables; proof = t.proof; words = t.words }
  pub logged : LogsMore 0 s.logged t.logged
  pub derived : AreDerived logged.entries
  pub stays : may_leave ≡ false → entry.NoneRetires logged.entries
  pub alike : lines_over t.variables s.logged ≡ lines_over s.variables s.logged
  pub proof : GoesOnWriting s.proof t.proof

-- so it is, and none left
abbrev pub IsLike : {V : Type 0} → Known V → Known V → Type 0
IsLike s t = IsLikeButLeft false s t

-- An error from which there is no way back: from then on the state is invalid. Nothing else is known of it but the ledger, and that an
-- open proof stays with its target, which has further bytes and failed just as often as the error says.
pub record Invalidates {V : Type 0} (faults : ℕ) (s t : Known V) : Type 0 where
  pub valid : IsValid s
  pub ledger : t.ledger ≡ record s.ledger { valid = false }
  pub proof : GoesOnFailing faults s.proof t.proof

-- A clause of as many literals as identities were made, with the three words before its literals, would bring the clause store to
-- 2^32 words or more.
abbrev pub IsStoreFull : {V : Type 0} → ℕ → Known V → Type 0
IsStoreFull made t = 2 ^ 32 ≤ t.words + 3 + made

-- the call is refused: the solver is invalid, and nothing changes
abbrev pub IsRefusedInvalid : {V : Type 0} → Known V → Known V → Type 0
IsRefusedInvalid s t = (is_valid s ≡ false) × (t ≡ s)

-- a clause, a variable or a list of assumptions was accepted: steps are counted anew
abbrev pub start : {V : Type 0} → Known V → Known V
start s = record s { ledger = record s.ledger { started = true; since = 0 } }

-- steps are counted anew, as after each change
abbrev pub count_anew : {V : Type 0} → Known V → Known V
count_anew s = record s { ledger = record s.ledger { since = 0 } }

-- some literal's name is past the limit
abbrev pub IsPastLimit : List Literal → Type 0
IsPastLimit d = (l : Literal) × (l ∈ d) × (variable_limit ≤ variable_of l)

-- clauses and assumptions may be over these literals: no name is past the limit, and none is a witness
pub record MayConstrain (m : Naming) (d : List Literal) : Type 0 where
  pub in_range : IsPastLimit d → ⊥
  pub sampled : NameNoWitness m d

-- more identities than there may be variables
abbrev pub HasTooManyVariables : Naming → Type 0
HasTooManyVariables m = variable_limit < m.made

-- the same with other names in use
abbrev pub with_naming : {V : Type 0} → Naming → Known V → Known V
with_naming m s = record s { naming = m }

-- the clause, over identities, is accepted, and logged so
abbrev pub append_clause : {V : Type 0} → Clause → V → Known V → Known V
append_clause c w s = record s {
  clauses = s.clauses ++ c ∷ [];
  counted = join_counted s.counted (map variable_of c);
  verdict = w;
  logged = s.logged ++ entry.Accepts c ∷ [];
}

-- the names of the clause are named, and it is accepted as they carry it to identities
abbrev pub accept : {V : Type 0} → Clause → V → Known V → Known V
accept d w s =
    let named : Naming = name_all d s.naming in
    start (append_clause (map (through_names named) d) w (with_naming named s))

-- the list, over identities, is assumed in place of the one before
abbrev pub with_list : {V : Type 0} → List Literal → V → Known V → Known V
with_list list w s =
    record s { assumptions = list; counted = join_counted s.counted (map variable_of list); verdict = w }

-- the names of the list are named, and it is assumed, and logged so, as they carry it to identities
abbrev pub assume : {V : Type 0} → List Literal → V → Known V → Known V
assume list w s =
    let named : Naming = name_all list s.naming in
    let carried : List Literal = map (through_names named) list in
    start (with_entries (s.logged ++ entry.Assumes carried ∷ []) (with_list carried w (with_naming named s)))

-- How a clause or a list is refused that nothing bars: for its names, and before anything changes; or with an error after which the
-- state is invalid.
abbrev pub RefusesNames : {V : Type 0} → Type 0 → Known V → List Literal → SolverError → Known V → Type 0
RefusesNames unbarred s d Invalid t = IsRefusedInvalid s t
RefusesNames unbarred s d VariableLimit t =
    IsValid s × unbarred × (IsPastLimit d ⊎ HasTooManyVariables (name_all d s.naming)) × (t ≡ s)
RefusesNames unbarred s d (WitnessVar u) t =
    IsValid s × unbarred × (IsPastLimit d → ⊥) × IsFirstWitness s.naming d u × (t ≡ s)
RefusesNames unbarred s d OutOfMemory t = unbarred × MayConstrain s.naming d × Invalidates 0 s t
RefusesNames unbarred s d (ProofIoError cause) t =
    IsOpen s.proof × unbarred × MayConstrain s.naming d × Invalidates 1 s t
RefusesNames unbarred s d _ t = ⊥

-- What is said of verdicts, where V is what is known of them.
pub record Verdicts (V : Type 0) : Type 1 where
  -- no assignment satisfies the clauses; and this is not known
  pub refuted : Known V → Type 0
  pub unrefuted : Known V → Type 0
  -- it is not known whether one satisfies the clauses and the assumptions
  pub undecided : Known V → Type 0
  -- what one more clause makes of it, behind these, and what another list of assumptions does
  pub reopens : List Clause → Clause → V → V → Type 0
  pub assumed : List Literal → V → V
  -- what an answer of `solve` says, where the call logged these entries; and what so many steps make of it that come to none
  pub answers : Known V → Bool → List Entry → Known V → Type 0
  pub interrupted : ℕ → V → V
  -- what `model` and `failed_core` may return, if anything
  pub model : Known V → Option (List Literal) → Type 0
  pub core : Known V → Option (List Literal) → Type 0
  -- the answer is false; and then, the clauses alone are why
  pub fails : Known V → Type 0
  pub alone : Known V → Type 0
  -- what is so behind each call
  pub holds : Known V → Type 0

module _ {V : Type 0} (by : Verdicts V) where
  -- One more clause may join those accepted: these are not known to be unsatisfiable, and no open proof bars it.
  pub record MayAccept (s : Known V) : Type 0 where
    pub unrefuted : by.unrefuted s
    pub unbarred : BarsClauses s.proof → ⊥

  -- the clause is accepted
  abbrev pub Accepts : Known V → Clause → Known V → Type 0
  Accepts s d t =
      (w : V) × by.reopens s.clauses (map (through_names (name_all d s.naming)) d) s.verdict w × IsLike (accept d w s) t

  -- a clause is taken: where the clauses are refuted nothing changes, but that steps are counted anew
  pub data TakesClause (s : Known V) (d : Clause) (t : Known V) : Type 0 where
    Ignored : by.refuted s → t ≡ count_anew s → TakesClause s d t
    Accepted : MayAccept s → MayConstrain s.naming d → Accepts s d t → TakesClause s d t

  -- The call `add_clause`.
  abbrev pub TakesOne : Known V → Clause → Result (Unit {0}) SolverError → Known V → Type 0
  TakesOne s d (Ok _) t = IsValid s × TakesClause s d t
  TakesOne s d (Err ClauseAfterSolve) t = IsValid s × by.unrefuted s × BarsClauses s.proof × (t ≡ s)
  TakesOne s d (Err ClauseStoreFull) t =
      MayAccept s × MayConstrain s.naming d × Invalidates 0 s t × IsStoreFull (name_all d s.naming).made t
  TakesOne s d (Err e) t = RefusesNames (MayAccept s) s d e t

  -- the list is assumed
  abbrev pub TakesAssumed : Known V → List Literal → Known V → Type 0
  TakesAssumed s list t =
      IsLike (assume list (by.assumed (map (through_names (name_all list s.naming)) list) s.verdict) s) t

  -- The call `assume`. No open proof bars it: assumptions would be no part of what such a proof says. The target of another one may fail.
  abbrev pub TakesList : Known V → List Literal → Result (Unit {0}) SolverError → Known V → Type 0
  TakesList s list (Ok _) t =
      IsValid s × (BarsAssumptions s.proof → ⊥) × MayConstrain s.naming list × TakesAssumed s list t
  TakesList s list (Err ProofOpen) t = IsValid s × BarsAssumptions s.proof × (t ≡ s)
  TakesList s list (Err e) t = RefusesNames (BarsAssumptions s.proof → ⊥) s list e t

-- The call `new_var`.

-- the least free name is named: below the watermark, else at it
abbrev pub MakesVar : {V : Type 0} → Known V → Result ℕ SolverError → Known V → Type 0
MakesVar s (Ok u) t =
    IsValid s × IsLeastFree s.naming u × (u < variable_limit) × IsLike (start (with_naming (name_one u s.naming) s)) t
MakesVar s (Err Invalid) t = IsRefusedInvalid s t
MakesVar s (Err VariableLimit) t =
    IsValid s × ((u : ℕ) × IsLeastFree s.naming u × ((variable_limit ≤ u) ⊎ HasTooManyVariables (name_one u s.naming))) × (t ≡ s)
MakesVar s (Err OutOfMemory) t = ((u : ℕ) × IsLeastFree s.naming u × (u < variable_limit)) × Invalidates 0 s t
MakesVar s (Err _) t = ⊥

-- The call `solve`.

-- the same with another verdict
abbrev pub with_verdict : {V : Type 0} → V → Known V → Known V
with_verdict v s = record s { verdict = v }

-- the same after so many steps in all: the new ones were made since the last change, too
abbrev pub with_steps : {V : Type 0} → ℕ → Known V → Known V
with_steps n s = record s { ledger = record s.ledger { steps = n; since = s.ledger.since + (n - s.ledger.steps) } }

-- how the steps are counted that a call makes before the verdict is known, by its answer
abbrev pub CountsCall : {V : Type 0} → Known V → Result Bool SolverError → Known V → Type 0
CountsCall s r t =
    CountsSteps (length s.counted) s.ledger.settings.max_steps s.ledger.since s.ledger.steps t.ledger.steps r

-- the same once `solve` was called under an open proof
abbrev pub once_searched : {V : Type 0} → Known V → Known V
once_searched s = record s { proof = searched_under s.proof }

-- It is s once `solve` was called, which made the steps of t and logged what t has logged, where v is known of the verdict then.
abbrev pub IsSolved : {V : Type 0} → V → Known V → Known V → Type 0
IsSolved v s t = IsLike (with_entries t.logged (with_verdict v (with_steps t.ledger.steps s))) t

module _ {V : Type 0} (by : Verdicts V) where
  -- How the steps are counted that a call makes, by its answer: none is made, and nothing logged, where the answer is known.
  pub data CountsIf (s : Known V) (r : Result Bool SolverError) (t : Known V) : Type 0 where
    Decided : (by.undecided s → ⊥) ⊎ by.refuted s → t.ledger.steps ≡ s.ledger.steps →
        (IsValid t → t.logged ≡ s.logged) → CountsIf s r t
    Searched : by.undecided s → CountsCall s r t → CountsIf s r t

  -- An answer is returned.
  pub record ReturnsVerdict (s : Known V) (b : Bool) (t : Known V) : Type 0 where
    pub valid : IsValid s
    pub steps : CountsIf s (Ok b) t
    -- of the clauses that it logged as added as many count as steps were made
    pub logged : LogsMore (t.ledger.steps - s.ledger.steps) s.logged t.logged
    -- and each step but the last, which came to the answer, added a new one, as where the steps are spent
    pub adds : BeginsInSteps s.ledger.settings.reduce_locals_interval s.ledger.steps
        (t.ledger.steps - s.ledger.steps - 1) s.logged logged.entries
    pub right : by.answers s b logged.entries t
    pub rest : IsSolved t.verdict s t

  -- The steps are spent before an answer is known. The search can go on from there.
  pub record IsSpent (s t : Known V) : Type 0 where
    pub valid : IsValid s
    pub unknown : by.undecided s
    pub steps : CountsCall s (Err Interrupted) t
    pub rest : IsSolved (by.interrupted (t.ledger.steps - s.ledger.steps) s.verdict) s t
    -- a proof writes each identity as the variable that it had
    pub variables : t.variables ≡ s.variables
    -- of the clauses that it logged as added as many count as steps were made; and each step added a new one, of which no clause that
    -- was held just before is a part, and which is held as the step ends; nor one that was held as the step began, unless it was a step
    -- that may delete learned clauses
    pub logged : LogsMore (t.ledger.steps - s.ledger.steps) s.logged t.logged
    pub adds : GoesOnInSteps s.ledger.settings.reduce_locals_interval s.ledger.steps
        (t.ledger.steps - s.ledger.steps) s.logged logged.entries
    -- no core is logged
    pub derived : AreDerived logged.entries
    -- where no step was made nothing changed
    pub still : t.ledger.steps ≡ s.ledger.steps → t ≡ s

  -- A step fails, from which there is no way back.
  abbrev pub FailsStep : ℕ → Known V → SolverError → Known V → Type 0
  FailsStep faults s e t = by.undecided s × CountsCall s (Err e) t × Invalidates faults (with_steps t.ledger.steps s) t

  -- Steps are made, and then an open proof is marked as one under which `solve` was called, and flushed, also where the answer was
  -- known. Its target may fail in a step, or as it is flushed.
  abbrev pub Solves : Known V → Result Bool SolverError → Known V → Type 0
  Solves s (Ok b) t = ReturnsVerdict (once_searched s) b t
  Solves s (Err Interrupted) t = IsSpent (once_searched s) t
  Solves s (Err Invalid) t = IsRefusedInvalid s t
  Solves s (Err OutOfMemory) t = FailsStep 0 s OutOfMemory t
  Solves s (Err ClauseStoreFull) t = FailsStep 0 s ClauseStoreFull t × IsStoreFull s.naming.made t
  Solves s (Err (ProofIoError cause)) t =
      IsOpen s.proof
      × (FailsStep 1 s (ProofIoError cause) t
      ⊎ (CountsIf s (Err (ProofIoError cause)) t × Invalidates 1 (with_steps t.ledger.steps (once_searched s)) t))
  Solves s (Err _) t = ⊥

  -- The clauses alone are known to be unsatisfiable: where a proof can have assumptions, false says no more than that those fail.
  abbrev pub IsRefuted : ProofFormat → Known V → Type 0
  IsRefuted format s = by.fails s × (has_marks format ≡ true → by.alone s)

-- The calls `model` and `failed_core`.

-- A list is returned that may be returned, or none, and none by an invalid solver. Running out of memory comes only where there is a list to
-- return, and changes nothing.
abbrev pub ReturnsList : {V : Type 0} → (Option (List Literal) → Type 0) → Known V →
    Result (Option (List Literal)) AllocError → Known V → Type 0
ReturnsList may s (Ok list) t = ((IsValid s × may list) ⊎ ((is_valid s ≡ false) × (list ≡ None))) × (t ≡ s)
ReturnsList may s (Err _) t = IsValid s × ((list : List Literal) × may (Some list)) × (t ≡ s)

-- The call `config`.

-- the settings are replaced for which the update has values, and steps are counted anew
abbrev pub with_update : {V : Type 0} → SolverConfigUpdate → Known V → Known V
with_update u s = record s { ledger = record s.ledger { since = 0; settings = updated_settings s.ledger.settings u } }

-- The settings are replaced for which the update has values, or the first one out of its range is returned and nothing changes.
abbrev pub Configures : {V : Type 0} → Known V → SolverConfigUpdate → Result (Unit {0}) SolverError → Known V → Type 0
Configures s u (Ok _) t = IsValid s × (first_bad u ≡ None) × (t ≡ with_update u s)
Configures s u (Err Invalid) t = IsRefusedInvalid s t
Configures s u (Err (ConfigOutOfRange field)) t = IsValid s × (first_bad u ≡ Some field) × (t ≡ s)
Configures s u (Err _) t = ⊥

-- The call `steps`.

-- the count of all steps is returned
abbrev pub ReturnsSteps : {V : Type 0} → Known V → ℕ → Known V → Type 0
ReturnsSteps s n t = (n ≡ s.ledger.steps) × (t ≡ s)

-- The call `steps_since_change`.

-- the count of steps since the last change is returned, which are few in a valid state, over however many calls of `solve`
abbrev pub ReturnsSince : {V : Type 0} → Known V → ℕ → Known V → Type 0
ReturnsSince s n t = (n ≡ s.ledger.since) × (IsValid s → AreFew (length s.counted) n) × (t ≡ s)

-- The call `is_valid`.

-- the flag is returned
abbrev pub ReturnsValid : {V : Type 0} → Known V → Bool → Known V → Type 0
ReturnsValid s b t = (b ≡ is_valid s) × (t ≡ s)

-- The call `is_fixed`.

-- Only in a valid solver is a literal said to be fixed, and then the accepted clauses entail it. Which literals are, the state does not say.
abbrev pub ReturnsFixed : {V : Type 0} → Known V → Literal → Bool → Known V → Type 0
ReturnsFixed s l b t = (b ≡ true → IsValid s × IsEntailed s.naming s.clauses l) × (t ≡ s)

-- The call `set_phase`.

-- Nothing that is known changes: how a variable is decided first is no part of it.
abbrev pub SetsPhase : {V : Type 0} → Known V → Literal → Result (Unit {0}) SolverError → Known V → Type 0
SetsPhase s l (Ok _) t = IsValid s × (variable_of l < variable_limit) × (t ≡ s)
SetsPhase s l (Err Invalid) t = IsRefusedInvalid s t
SetsPhase s l (Err VariableLimit) t = IsValid s × (variable_limit ≤ variable_of l) × (t ≡ s)
SetsPhase s l (Err OutOfMemory) t = (variable_of l < variable_limit) × Invalidates 0 s t
SetsPhase s l (Err _) t = ⊥

-- 2. The verdict of a state.

-- the clause is empty, or as a set it is one literal whose opposite alone is an accepted clause
abbrev pub ContradictsUnit : List Clause → Clause → Type 0
ContradictsUnit clauses c =
    (c ≡ []) ⊎ ((l : Literal) × (d : Clause) × IsUnit l c × (d ∈ clauses) × IsUnit (opposite l) d)

-- the verdict with one more clause that doesn't give Unsat: a model that was found may not satisfy it, and a core stays one
abbrev pub reopened_verdict : Verdict → Verdict
reopened_verdict Unknown = Unknown
reopened_verdict (Sat found) = Unknown
reopened_verdict Unsat = Unsat
reopened_verdict (UnsatUnderAssumptions core) = UnsatUnderAssumptions core

-- What one more clause makes of a verdict. A clause that contradicts an accepted unit gives Unsat at once, and any other gives it
-- only where no assignment is left.
pub data VerdictAfter (clauses : List Clause) (c : Clause) (v w : Verdict) : Type 0 where
  Refuted : w ≡ Unsat → (IsSatisfiable (clauses ++ c ∷ []) → ⊥) → VerdictAfter clauses c v w
  Reopened : w ≡ reopened_verdict v → (ContradictsUnit clauses c → ⊥) → VerdictAfter clauses c v w

-- the verdict with other assumptions
abbrev pub assumed_verdict : Verdict → Verdict
assumed_verdict Unknown = Unknown
assumed_verdict (Sat found) = Unknown
assumed_verdict Unsat = Unsat
assumed_verdict (UnsatUnderAssumptions core) = Unknown

-- the list, over identities, is assumed in place of the one before
abbrev pub with_assumptions : List Literal → State → State
with_assumptions list s = with_list list (assumed_verdict s.verdict) s

-- what is returned at a verdict
abbrev pub answer_of : Verdict → Option Bool
answer_of Unknown = None
answer_of (Sat found) = Some true
answer_of Unsat = Some false
answer_of (UnsatUnderAssumptions core) = Some false

-- The verdict of t gives the answer, and is right. One that was known stays.
pub record HasVerdict (s : State) (b : Bool) (logged : List Entry) (t : State) : Type 0 where
  pub known : s.verdict ≢ Unknown → t.verdict ≡ s.verdict
  pub answer : answer_of t.verdict ≡ Some b
  pub right : HasRightVerdict t
  -- where it was not known before these are lines and variables that leave, and at last the core that was found, if one was: by
  -- propagation over what is held it conflicts
  pub ends : s.verdict ≡ Unknown → EndBy t.verdict logged
  -- under Unsat propagation over what is held conflicts
  pub refuted : t.verdict ≡ Unsat → LogsConflict t.logged
  -- a core that was found is not empty
  pub core : (list : List Literal) → t.verdict ≡ UnsatUnderAssumptions list → list ≢ []

-- 3. States.

-- the verdicts of a state; behind each call what was logged is right, as long as the state is valid
abbrev pub by_state : Verdicts Verdict
by_state = record {
  refuted = λ s. s.verdict ≡ Unsat;
  unrefuted = λ s. s.verdict ≢ Unsat;
  undecided = λ s. s.verdict ≡ Unknown;
  reopens = VerdictAfter;
  assumed = λ list v. assumed_verdict v;
  answers = HasVerdict;
  interrupted = λ steps v. v;
  model = λ s list. list ≡ model_of s.naming s.verdict;
  core = IsReturnedCore;
  fails = λ s. answer_of s.verdict ≡ Some false;
  alone = λ s. s.verdict ≡ Unsat;
  holds = λ s. IsValid s → IsJournal s;
}

-- the call `add_clause`
abbrev pub AddsClause : State → Clause → Result (Unit {0}) SolverError → State → Type 0
AddsClause s d r t = TakesOne by_state s d r t

-- the call `assume`
abbrev pub Assumes : State → List Literal → Result (Unit {0}) SolverError → State → Type 0
Assumes s list r t = TakesList by_state s list r t

-- What the steps of a call of `solve` come to, before an open proof is marked and flushed.
abbrev pub Searches : State → Result Bool SolverError → State → Type 0
Searches s (Ok b) t = ReturnsVerdict by_state s b t
Searches s (Err Interrupted) t = IsSpent by_state s t
Searches s (Err (ProofIoError cause)) t = IsOpen s.proof × FailsStep by_state 1 s (ProofIoError cause) t
Searches s (Err e) t = Solves by_state s (Err e) t

-- the same, where a call may make so many steps
abbrev pub with_max_steps : {V : Type 0} → ℕ → Known V → Known V
with_max_steps n s = record s { ledger = record s.ledger { settings = record s.ledger.settings { max_steps = n } } }

-- what the steps of a call come to that may make so many
abbrev pub SearchesWithin : ℕ → State → Result Bool SolverError → State → Type 0
SearchesWithin max_steps s r t = Searches (with_max_steps max_steps s) r (with_max_steps max_steps t)
