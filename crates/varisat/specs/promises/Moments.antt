-- What holds at each moment of a run.
use Rattle.std.specs.Prelude.{ℕ, List, length, take}
use Rattle.varisat_theory.specs.promises.CallBounds.{AreFew}
use Rattle.varisat_formula.specs.promises.Streams.{Input, Taken}
use Rattle.varisat_solver.specs.promises.States.{Known}
use Rattle.varisat_solver.specs.promises.Calls.{IsValid, Verdicts}
use Rattle.varisat.specs.promises.Turns.{MakesInTurn}
use Rattle.varisat.specs.declared.session.Call.{Call}
use Rattle.varisat.specs.declared.session.Answer.{Answer}

-- As long as it is valid few steps were made since the last change, by which variables are counted.
abbrev pub HasFewSteps : {V : Type 0} → Known V → Type 0
HasFewSteps s = IsValid s → AreFew (length s.counted) s.ledger.since

-- So it is at each moment of the run, which is behind the first k calls, for each k.
abbrev pub HasFewStepsAlong : {V W S A : Type 0} → Verdicts V → (S → Input) → (W → Taken) → Known V →
    List (Call W S A) → List (Answer W S A) → Type 0
HasFewStepsAlong {V} by seen taken s calls answers =
    (k : ℕ) (t : Known V) → MakesInTurn by seen taken s (take k calls) (take k answers) t → HasFewSteps t
