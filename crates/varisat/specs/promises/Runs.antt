-- Runs: which answers a list of calls may get, and to which state it leads.
use Rattle.std.specs.Prelude.{◌-◌, ◌^◌, ◌<◌, Bool, true, false, Option, None, List, [], ◌∷◌}
use Rattle.varisat_formula.specs.promises.Streams.{Input, Taken}
use Rattle.varisat_solver.specs.promises.States.{State, Verdict}
use Rattle.varisat_solver.specs.promises.Journals.{IsJournal, IsLoggedWithin}
use Rattle.varisat_solver.specs.promises.Calls.{IsValid, by_state, answer_of}
use Rattle.varisat.specs.promises.Answers.{Story}
use Rattle.varisat.specs.promises.Turns.{Makes, MakesInTurn}
use Rattle.varisat.specs.declared.session.Call.{Call}
use Rattle.varisat.specs.declared.session.Answer.{Answer}
use Rattle.varisat.specs.declared.session.Call.TheVariants as call

-- The call may get the answer, and leads from one state to the other.
abbrev pub MakesCall : {W S A : Type 0} → (S → Input) → (W → Taken) → State → Call W S A → Answer W S A → State → Type 0
MakesCall seen taken s c a t = Makes by_state seen taken s c a t

-- The calls in turn may get the answers in turn, one each, and lead from one state to the other.
abbrev pub Run : {W S A : Type 0} → (S → Input) → (W → Taken) → State → List (Call W S A) → List (Answer W S A) →
    State → Type 0
Run seen taken s calls answers t = MakesInTurn by_state seen taken s calls answers t

-- what was found last, in a solver that is valid
abbrev pub found_in : Bool → Verdict → Option Bool
found_in true verdict = answer_of verdict
found_in false verdict = None

-- the story of which the state is the end
abbrev pub story_now : State → Story
story_now s = record {
  naming = s.naming;
  clauses = s.clauses;
  assumptions = s.assumptions;
  mentioned = s.counted;
  found = found_in s.ledger.valid s.verdict;
  valid = s.ledger.valid;
}

-- As long as it is valid what was logged is right, and at most as many of the clauses that its lines add count as steps were made.
abbrev pub HasRightLog : State → Type 0
HasRightLog s = IsValid s → IsJournal s × IsLoggedWithin s.ledger.steps s.logged

-- What a call is given has counted fewer than 2^64-1 faults: a source that is read, and a target to which a proof is written.
abbrev pub MayStillFail : {W S A : Type 0} → (S → Input) → (W → Taken) → Call W S A → Type 0
MayStillFail seen taken (call.AddDimacsCnf source) = (seen source).faults < 2 ^ 64 - 1
MayStillFail seen taken (call.WriteProof target format) = (taken target).faults < 2 ^ 64 - 1
MayStillFail seen taken _ = Unit {0}

-- so is what each of the calls is given
abbrev pub AreReady : {W S A : Type 0} → (S → Input) → (W → Taken) → List (Call W S A) → Type 0
AreReady seen taken [] = Unit {0}
AreReady seen taken (c ∷ cs) = MayStillFail seen taken c × AreReady seen taken cs
