-- Wrong answers. No story fits them, so `AreAnswered` rules them out: a body that gives them does not meet the clause `answers`.
-- A literal 0 is the first name's, 1 its opposite, 2 the second name's.
use Rattle.std.specs.Prelude.{◌≡◌, ℕ, Bool, true, false, Some, None, List, [], ◌∷◌, Ok, Err, Vec}
use Rattle.varisat_formula.specs.promises.Formulas.{Formula}
use Rattle.varisat_formula.specs.promises.Streams.{Input}
use Rattle.varisat.specs.promises.Answers.{AreAnswered, empty_story}
use Rattle.varisat.specs.declared.session.Call.{Call}
use Rattle.varisat.specs.declared.session.Answer.{Answer}
use Rattle.varisat.specs.declared.session.Call.TheVariants as call
use Rattle.varisat.specs.declared.session.Answer.TheVariants as answer
use Rattle.varisat_solver.specs.declared.solver.SolverError.TheVariants.{OutOfMemory}

-- a list of literals; a call, and an answer, where a source is what is seen of it
abbrev pub Literals : Type 0
Literals = Vec ℕ (Unit {0})

abbrev pub OneCall : Type 0
OneCall = Call (Unit {0}) Input (Unit {0})

abbrev pub OneAnswer : Type 0
OneAnswer = Answer (Unit {0}) Input (Unit {0})

-- no story fits these answers to the calls of a new solver
abbrev pub FitNoStory : List OneCall → List OneAnswer → Type 0
FitNoStory calls answers = AreAnswered (λ source. source) empty_story calls answers → ⊥

-- a model
pub record WrongModels : Type 0 where
  -- leaves out a name
  pub left_out : (c m : Literals) → c.items ≡ 0 ∷ [] → m.items ≡ [] →
      FitNoStory (call.AddClause c ∷ call.Solve ∷ call.Model ∷ [])
      (answer.AddClause (Ok tt) ∷ answer.Solve (Ok true) ∷ answer.Model (Ok (Some m)) ∷ [])
  -- does not come
  pub missing : FitNoStory (call.Solve ∷ call.Model ∷ []) (answer.Solve (Ok true) ∷ answer.Model (Ok None) ∷ [])
  -- lists a hidden name
  pub hidden : (c m : Literals) → c.items ≡ 0 ∷ [] → m.items ≡ 0 ∷ [] →
      FitNoStory (call.AddClause c ∷ call.HideVar 0 ∷ call.Solve ∷ call.Model ∷ [])
      (answer.AddClause (Ok tt) ∷ answer.HideVar (Ok tt) ∷ answer.Solve (Ok true) ∷ answer.Model (Ok (Some m)) ∷ [])
  -- lists a name true of which no clause and no assumption speaks
  pub unspoken : (m : Literals) → m.items ≡ 0 ∷ [] → FitNoStory (call.NewVar ∷ call.Solve ∷ call.Model ∷ [])
      (answer.NewVar (Ok 0) ∷ answer.Solve (Ok true) ∷ answer.Model (Ok (Some m)) ∷ [])

-- a core
pub record WrongCores : Type 0 where
  -- has an assumption that has no part in it
  pub another : (c a core : Literals) → c.items ≡ 1 ∷ [] → a.items ≡ 0 ∷ 2 ∷ [] → core.items ≡ 2 ∷ [] →
      FitNoStory (call.AddClause c ∷ call.Assume a ∷ call.Solve ∷ call.FailedCore ∷ [])
      (answer.AddClause (Ok tt) ∷ answer.Assume (Ok tt) ∷ answer.Solve (Ok false) ∷ answer.FailedCore
      (Ok (Some core)) ∷ [])
  -- does not come
  pub missing : (c : Literals) → FitNoStory (call.AddClause c ∷ call.Solve ∷ call.FailedCore ∷ [])
      (answer.AddClause (Ok tt) ∷ answer.Solve (Ok false) ∷ answer.FailedCore (Ok None) ∷ [])

-- true, though a clause was forgotten that was given alone, in a list, or in a text: `1 0`, `-1 0`; and false, for no reason
pub record WrongVerdicts : Type 0 where
  pub clause : (c d : Literals) → c.items ≡ 0 ∷ [] → d.items ≡ 1 ∷ [] →
      FitNoStory (call.AddClause c ∷ call.AddClause d ∷ call.Solve ∷ [])
      (answer.AddClause (Ok tt) ∷ answer.AddClause (Ok tt) ∷ answer.Solve (Ok true) ∷ [])
  pub formula : (f : Formula) → f.clauses ≡ (0 ∷ []) ∷ (1 ∷ []) ∷ [] →
      FitNoStory (call.AddFormula f ∷ call.Solve ∷ []) (answer.AddFormula (Ok tt) ∷ answer.Solve (Ok true) ∷ [])
  pub text : (source back : Input) → source.given ≡ [] → back.given ≡ 49 ∷ 32 ∷ 48 ∷ 10 ∷ 45 ∷ 49 ∷ 32 ∷ 48 ∷ 10 ∷ [] →
      FitNoStory (call.AddDimacsCnf source ∷ call.Solve ∷ [])
      (answer.AddDimacsCnf (Ok tt) back ∷ answer.Solve (Ok true) ∷ [])
  pub satisfiable : (c : Literals) → c.items ≡ 0 ∷ [] →
      FitNoStory (call.AddClause c ∷ call.Solve ∷ []) (answer.AddClause (Ok tt) ∷ answer.Solve (Ok false) ∷ [])
  -- but for assumptions that were replaced
  pub replaced : (c a b : Literals) → c.items ≡ 0 ∷ [] → a.items ≡ 1 ∷ [] → b.items ≡ [] →
      FitNoStory (call.AddClause c ∷ call.Assume a ∷ call.Assume b ∷ call.Solve ∷ [])
      (answer.AddClause (Ok tt) ∷ answer.Assume (Ok tt) ∷ answer.Assume (Ok tt) ∷ answer.Solve (Ok false) ∷ [])

-- answers that do not belong to the calls
pub record WrongCalls : Type 0 where
  pub another : (c : Literals) → FitNoStory (call.AddClause c ∷ []) (answer.Steps 0 ∷ [])
  pub missing : FitNoStory (call.Solve ∷ []) []
  -- a verdict, and a model, behind an error from which there is no way back
  pub ended : (c : Literals) (b : Bool) →
      FitNoStory (call.AddClause c ∷ call.Solve ∷ []) (answer.AddClause (Err OutOfMemory) ∷ answer.Solve (Ok b) ∷ [])
  pub ended_model : (c m : Literals) →
      FitNoStory (call.AddClause c ∷ call.Model ∷ [])
      (answer.AddClause (Err OutOfMemory) ∷ answer.Model (Ok (Some m)) ∷ [])

-- all of them
abbrev pub WrongAnswersFitNoStory : Type 0
WrongAnswersFitNoStory = WrongModels × WrongCores × WrongVerdicts × WrongCalls
