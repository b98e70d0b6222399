-- What the answers of a new solver say, with no state in between.
use Rattle.std.specs.Prelude.{List}
use Rattle.varisat_formula.specs.promises.Streams.{Input, Taken}
use Rattle.varisat.specs.promises.Pasts.{Past, by_answers}
use Rattle.varisat.specs.promises.Turns.{MakesInTurn}
use Rattle.varisat.specs.declared.session.Call.{Call}
use Rattle.varisat.specs.declared.session.Answer.{Answer}

-- Where the past was p, the calls in turn may get the answers in turn, one each. `seen` gives a source's input, and `taken` what a
-- target took.
abbrev pub AreTrue : {W S A : Type 0} → (S → Input) → (W → Taken) → Past → List (Call W S A) → List (Answer W S A) →
    Type 0
AreTrue seen taken p calls answers = (q : Past) × MakesInTurn by_answers seen taken p calls answers q
