-- Calls in turn with their answers, whatever is known of verdicts.
use Rattle.std.specs.Prelude.{◌≡◌, List, [], ◌∷◌}
use Rattle.varisat_formula.specs.promises.Streams.{Input, Taken}
use Rattle.varisat_solver.specs.promises.States.{Known}
use Rattle.varisat_solver.specs.promises.Names.{Sample, Witness}
use Rattle.varisat_solver.specs.promises.Calls.{Verdicts, TakesOne, TakesList, MakesVar, Solves, ReturnsList, Configures, with_max_steps, ReturnsSteps, ReturnsSince, ReturnsValid, ReturnsFixed, SetsPhase}
use Rattle.varisat_solver.specs.promises.ProofCalls.{OpensProof, EnablesChecking, Closes}
use Rattle.varisat_solver.specs.promises.Additions.{AddsList, AddsText}
use Rattle.varisat_solver.specs.promises.Usage.{SetsMode, HidesVar, Observes}
use Rattle.varisat_solver.specs.promises.ReturnedLists.{returned_list, returned_variables}
use Rattle.varisat.specs.declared.session.Call.{Call}
use Rattle.varisat.specs.declared.session.Answer.{Answer}
use Rattle.varisat.specs.declared.session.Call.TheVariants as call
use Rattle.varisat.specs.declared.session.Answer.TheVariants as answer

module _ {V : Type 0} (by : Verdicts V) where
  -- From s the call may get the answer and lead to t. `seen` gives a source's input, as it was given and as it is given back,
  -- and `taken` what a target took.
  abbrev pub Makes : {W S A : Type 0} → (S → Input) → (W → Taken) → Known V → Call W S A → Answer W S A → Known V →
      Type 0
  Makes seen taken s (call.AddClause c) (answer.AddClause r) t = TakesOne by s c.items r t
  Makes seen taken s (call.AddFormula f) (answer.AddFormula r) t = AddsList by s f.clauses r t
  Makes seen taken s (call.AddDimacsCnf source) (answer.AddDimacsCnf r back) t =
      AddsText by s (seen source) r (seen back) t
  Makes seen taken s call.NewVar (answer.NewVar r) t = MakesVar s r t
  Makes seen taken s (call.SampleVar u) (answer.SampleVar r) t = SetsMode Sample s u r t
  Makes seen taken s (call.WitnessVar u) (answer.WitnessVar r) t = SetsMode Witness s u r t
  Makes seen taken s (call.HideVar u) (answer.HideVar r) t = HidesVar s u r t
  Makes seen taken s call.ObserveInternalVars (answer.ObserveInternalVars r) t = Observes s (returned_variables r) t
  Makes seen taken s (call.SetPhase l) (answer.SetPhase r) t = SetsPhase s l r t
  Makes seen taken s (call.UnsetPhase u) answer.UnsetPhase t = t ≡ s
  Makes seen taken s (call.Assume list) (answer.Assume r) t = TakesList by s list.items r t
  Makes seen taken s call.Solve (answer.Solve r) t = Solves by s r t
  Makes seen taken s call.Model (answer.Model r) t = ReturnsList (by.model s) s (returned_list r) t
  Makes seen taken s call.FailedCore (answer.FailedCore r) t = ReturnsList (by.core s) s (returned_list r) t
  Makes seen taken s (call.Config u) (answer.Config r) t = Configures s u r t
  Makes seen taken s (call.SetMaxSteps n) answer.SetMaxSteps t = t ≡ with_max_steps n s
  Makes seen taken s call.Steps (answer.Steps n) t = ReturnsSteps s n t
  Makes seen taken s call.StepsSinceChange (answer.StepsSinceChange n) t = ReturnsSince s n t
  Makes seen taken s call.IsValid (answer.IsValid b) t = ReturnsValid s b t
  Makes seen taken s (call.IsFixed l) (answer.IsFixed b) t = ReturnsFixed s l b t
  Makes seen taken s (call.WriteProof target format) (answer.WriteProof r) t = OpensProof taken target format s r t
  Makes seen taken s call.CloseProof (answer.CloseProof r) t = Closes by taken s r t
  Makes seen taken s call.EnableSelfChecking (answer.EnableSelfChecking r) t = EnablesChecking s r t
  Makes seen taken s _ _ t = ⊥

  -- the calls in turn get the answers in turn, one each, and lead to t; behind each of them what `holds` says is so
  abbrev pub MakesInTurn : {W S A : Type 0} → (S → Input) → (W → Taken) → Known V → List (Call W S A) →
      List (Answer W S A) → Known V → Type 0
  MakesInTurn seen taken s [] [] t = t ≡ s
  MakesInTurn seen taken s (c ∷ cs) (a ∷ answers) t =
      (mid : Known V) × Makes seen taken s c a mid × by.holds mid × MakesInTurn seen taken mid cs answers t
  MakesInTurn seen taken s _ _ t = ⊥
