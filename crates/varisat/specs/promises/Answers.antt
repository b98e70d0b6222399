-- What the answers of a new solver mean: `true` comes with a model and `false` with a failed core, both of the clauses that were accepted
-- so far and of the assumptions that were given last. Who relies on that alone has to believe this file and what it cites. When a call
-- may be refused, how many steps are made, and what a proof has, is not said here: a solver that refuses each call would do.
use Rattle.std.specs.Prelude.{◌≡◌, ◌≢◌, ℕ, Bool, true, false, Option, Some, None, List, [], ◌∷◌, ◌++◌, ◌⊎◌, Result, Ok, Err, IfOk, map}
use Rattle.varisat_theory.specs.promises.Literals.{Literal, Clause, variable_of, IsSatisfiable, IsSatisfiableWith, IsFailedCore}
use Rattle.varisat_formula.specs.declared.dimacs.error.DimacsError.{DimacsError}
use Rattle.varisat_formula.specs.promises.Dimacs.{Reading}
use Rattle.varisat_formula.specs.promises.Streams.{Input}
use Rattle.varisat_formula.specs.promises.Parsed.{GivesReading}
use Rattle.varisat_formula.specs.promises.TakenTexts.{GivesFirst}
use Rattle.varisat_solver.specs.promises.Names.{Naming, Sample, Witness, no_names, name_one, name_all, through_names, set_mode, free_name, IsLeastFree, AreShown}
use Rattle.varisat_solver.specs.promises.Models.{IsCompletable, AreNamesInUse, IsEntailed}
use Rattle.varisat_solver.specs.promises.ReturnedLists.{returned_list}
use Rattle.varisat_solver.specs.declared.solver.SolverError.{SolverError}
use Rattle.varisat_solver.specs.declared.solver.SolverError.TheVariants.{OutOfMemory, Invalid, ClauseStoreFull, ProofIoError, Dimacs}
use Rattle.varisat.specs.declared.session.Call.{Call}
use Rattle.varisat.specs.declared.session.Answer.{Answer}
use Rattle.varisat.specs.declared.session.Call.TheVariants as call
use Rattle.varisat.specs.declared.session.Answer.TheVariants as answer

-- 1. The story so far, which calls and answers alone make.

-- `naming`: the identity that each name in use stands for. `clauses`: all that were accepted, in order; `assumptions`: the list given last;
-- both over identities, as the names stood when they were given. `mentioned`: the identities in the clauses and in all lists so far.
-- `found`: what `solve` returned last, as long as it stands. `valid`: no error came from which there is no way back.
pub record Story : Type 0 where
  pub naming : Naming
  pub clauses : List Clause
  pub assumptions : List Literal
  pub mentioned : List ℕ
  pub found : Option Bool
  pub valid : Bool

-- before the first call
abbrev pub empty_story : Story
empty_story = record { naming = no_names; clauses = []; assumptions = []; mentioned = []; found = None; valid = true }

-- the same with other names in use: what was found stands
abbrev pub with_names : Naming → Story → Story
with_names m s = record s { naming = m }

-- What was found, behind one more clause: a model may not satisfy it, and a core still fails.
abbrev pub reopened : Option Bool → Option Bool
reopened None = None
reopened (Some true) = None
reopened (Some false) = Some false

-- the names of the clause are named, and it joins the others over their identities
abbrev pub with_clause : Clause → Story → Story
with_clause c s =
    let m : Naming = name_all c s.naming in
    let d : Clause = map (through_names m) c in
    record s {
      naming = m;
      clauses = s.clauses ++ d ∷ [];
      mentioned = s.mentioned ++ map variable_of d;
      found =
          reopened s.found;
    }

-- the names of the list are named, and it is assumed over their identities, in place of the one before: nothing that was found stands
abbrev pub with_assumptions : List Literal → Story → Story
with_assumptions list s =
    let m : Naming = name_all list s.naming in
    let d : List Literal = map (through_names m) list in
    record s { naming = m; assumptions = d; mentioned = s.mentioned ++ map variable_of d; found = None }

-- an error came from which there is no way back, and nothing that was found stands
abbrev pub ended : Story → Story
ended s = record s { found = None; valid = false }

-- 2. Refusals, and clauses.

-- A call is refused, which changes nothing; but three errors leave an invalid solver, which refuses each call as that.
abbrev pub IsRefused : Story → SolverError → Story → Type 0
IsRefused s Invalid t = (s.valid ≡ false) × (t ≡ s)
IsRefused s OutOfMemory t = (s.valid ≡ true) × (t ≡ ended s)
IsRefused s ClauseStoreFull t = (s.valid ≡ true) × (t ≡ ended s)
IsRefused s (ProofIoError cause) t = (s.valid ≡ true) × (t ≡ ended s)
IsRefused s e t = (s.valid ≡ true) × (t ≡ s)

-- The outcome of a call: a valid solver did this, or the call is refused.
abbrev pub Outcome : {X : Type 0} → (X → Story → Type 0) → Story → Result X SolverError → Story → Type 0
Outcome did s (Ok x) t = (s.valid ≡ true) × did x t
Outcome did s (Err e) t = IsRefused s e t

-- A clause is accepted. Once no assignment satisfies those before it, it may be passed over, with its names.
pub data Accepts (s : Story) (c : Clause) (t : Story) : Type 0 where
  Joined : t ≡ with_clause c s → Accepts s c t
  PassedOver : (IsSatisfiable s.clauses → ⊥) → t ≡ s → Accepts s c t

-- clauses are accepted in turn, up to the first that is refused
abbrev pub AcceptsAll : Story → List Clause → Result (Unit {0}) SolverError → Story → Type 0
AcceptsAll s [] r t = (r ≡ Ok tt) × (t ≡ s)
AcceptsAll s (c ∷ cs) r t =
    ((mid : Story) × Accepts s c mid × AcceptsAll mid cs r t) ⊎ ((e : SolverError) × (r ≡ Err e) × IsRefused s e t)

-- a valid solver does this, and an invalid one refuses the call, also where there is no clause
abbrev pub IfValid : Story → Result (Unit {0}) SolverError → Type 0 → Story → Type 0
IfValid s r does t = ((s.valid ≡ true) × does) ⊎ ((r ≡ Err Invalid) × IsRefused s Invalid t)

-- 3. Texts in DIMACS CNF. Who reads none may pass this over, and all that it cites.

-- these clauses ended in what a source gave meanwhile: all that its text gives, or the first of them
abbrev pub GaveClauses : Input → List Clause → Input → Type 0
GaveClauses old cs new =
    ((reading : Reading) × GivesReading old reading new × (reading.clauses ≡ cs)) ⊎ GivesFirst old cs new

-- what is returned at the end of a text: its fault, if it has one, or that memory ran out in the reader
abbrev pub EndsText : Option DimacsError → Story → Result (Unit {0}) SolverError → Story → Type 0
EndsText None s r t = (r ≡ Ok tt) × (t ≡ s)
EndsText (Some fault) s r t = ((r ≡ Err (Dimacs fault)) × (t ≡ s)) ⊎ ((r ≡ Err OutOfMemory) × (t ≡ ended s))

-- all clauses that a text gives are accepted, and then its end is returned; or one of those that ended is refused
pub data AcceptsText (s : Story) (old : Input) (r : Result (Unit {0}) SolverError) (new : Input)
    (t : Story) : Type 0 where
  ToItsEnd : (reading : Reading) (mid : Story) → GivesReading old reading new →
      AcceptsAll s reading.clauses (Ok tt) mid →
      EndsText reading.fault mid r t → AcceptsText s old r new t
  ToARefusal : (cs : List Clause) (e : SolverError) → GaveClauses old cs new → r ≡ Err e → AcceptsAll s cs r t →
      AcceptsText s old r new t

-- 4. What `solve`, `model` and `failed_core` return.

-- `solve`: whether some assignment satisfies the clauses and makes the assumptions true.
abbrev pub IsTrueAnswer : Story → Bool → Type 0
IsTrueAnswer s true = IsSatisfiableWith s.clauses s.assumptions
IsTrueAnswer s false = IsSatisfiableWith s.clauses s.assumptions → ⊥

-- `model`: just the names in use, each with a value, such that some assignment agrees which satisfies the clauses and makes the
-- assumptions true. None comes only where no answer true stands, and always from an invalid solver.
abbrev pub IsTrueModel : Story → Option (List Literal) → Type 0
IsTrueModel s None = s.found ≢ Some true
IsTrueModel s (Some model) = (s.valid ≡ true) × IsCompletable s.naming s.clauses s.assumptions s.mentioned model

-- `failed_core`: some of the assumptions, by names in use, which no assignment makes true together with the clauses. None comes only
-- where no answer false stands, and always from an invalid solver.
abbrev pub IsTrueCore : Story → Option (List Literal) → Type 0
IsTrueCore s None = s.found ≢ Some false
IsTrueCore s (Some core) =
    (s.valid ≡ true) × AreNamesInUse s.naming core
    × IsFailedCore s.clauses s.assumptions (map (through_names s.naming) core)

-- 5. The answers of all calls.

-- In the story s the call may have the answer, and then the story is t. `seen` gives a source's input.
abbrev pub IsAnswered : {W S A : Type 0} → (S → Input) → Story → Call W S A → Answer W S A → Story → Type 0
IsAnswered seen s (call.AddClause c) (answer.AddClause r) t = Outcome (λ _. Accepts s c.items) s r t
IsAnswered seen s (call.AddFormula f) (answer.AddFormula r) t = IfValid s r (AcceptsAll s f.clauses r t) t
IsAnswered seen s (call.AddDimacsCnf source) (answer.AddDimacsCnf r back) t =
    IfValid s r (AcceptsText s (seen source) r (seen back) t) t
IsAnswered seen s (call.Assume list) (answer.Assume r) t = Outcome (λ _ u. u ≡ with_assumptions list.items s) s r t
IsAnswered seen s call.Solve (answer.Solve r) t =
    Outcome (λ b u. IsTrueAnswer s b × (u ≡ record s { found = Some b })) s r t
IsAnswered seen s call.Model (answer.Model r) t = IfOk (returned_list r) (IsTrueModel s) × (t ≡ s)
IsAnswered seen s call.FailedCore (answer.FailedCore r) t = IfOk (returned_list r) (IsTrueCore s) × (t ≡ s)
IsAnswered seen s call.NewVar (answer.NewVar r) t =
    Outcome (λ u x. IsLeastFree s.naming u × (x ≡ with_names (name_one u s.naming) s)) s r t
IsAnswered seen s (call.SampleVar u) (answer.SampleVar r) t =
    Outcome (λ _ x. x ≡ with_names (set_mode u Sample (name_one u s.naming)) s) s r t
IsAnswered seen s (call.WitnessVar u) (answer.WitnessVar r) t =
    Outcome (λ _ x. x ≡ with_names (set_mode u Witness (name_one u s.naming)) s) s r t
IsAnswered seen s (call.HideVar u) (answer.HideVar r) t =
    Outcome (λ _ x. x ≡ with_names (free_name u (name_one u s.naming)) s) s r t
IsAnswered seen s call.ObserveInternalVars (answer.ObserveInternalVars r) t =
    Outcome (λ us x. (m : Naming) × AreShown us.items s.naming m × (x ≡ with_names m s)) s r t
IsAnswered seen s (call.SetPhase l) (answer.SetPhase r) t = Outcome (λ _ x. x ≡ s) s r t
IsAnswered seen s (call.UnsetPhase u) answer.UnsetPhase t = t ≡ s
IsAnswered seen s (call.Config u) (answer.Config r) t = Outcome (λ _ x. x ≡ s) s r t
IsAnswered seen s (call.SetMaxSteps n) answer.SetMaxSteps t = t ≡ s
IsAnswered seen s call.Steps (answer.Steps n) t = t ≡ s
IsAnswered seen s call.StepsSinceChange (answer.StepsSinceChange n) t = t ≡ s
IsAnswered seen s call.IsValid (answer.IsValid b) t = (b ≡ s.valid) × (t ≡ s)
IsAnswered seen s (call.IsFixed l) (answer.IsFixed b) t =
    (b ≡ true → (s.valid ≡ true) × IsEntailed s.naming s.clauses l) × (t ≡ s)
IsAnswered seen s (call.WriteProof target format) (answer.WriteProof (Ok _)) t = (s.valid ≡ true) × (t ≡ s)
IsAnswered seen s (call.WriteProof target format) (answer.WriteProof (Err (e, back))) t = IsRefused s e t
IsAnswered seen s call.CloseProof (answer.CloseProof (Ok back)) t = t ≡ s
IsAnswered seen s call.CloseProof (answer.CloseProof (Err (e, back))) t = IsRefused s e t
IsAnswered seen s call.EnableSelfChecking (answer.EnableSelfChecking r) t = Outcome (λ _ x. x ≡ s) s r t
IsAnswered seen s _ _ t = ⊥

-- Each call in turn has its answer, in the story behind those before it.
abbrev pub AreAnswered : {W S A : Type 0} → (S → Input) → Story → List (Call W S A) → List (Answer W S A) → Type 0
AreAnswered seen s [] [] = Unit {0}
AreAnswered seen s (c ∷ cs) (a ∷ answers) = (t : Story) × IsAnswered seen s c a t × AreAnswered seen t cs answers
AreAnswered seen s _ _ = ⊥
