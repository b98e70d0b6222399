-- How many steps any calls of a new solver make.
use Rattle.std.specs.Prelude.{List}
use Rattle.varisat_formula.specs.promises.Streams.{Taken}
use Rattle.varisat.specs.promises.Pasts.{empty_past, by_answers}
use Rattle.varisat.specs.promises.Moments.{HasFewStepsAlong}
use Rattle.varisat.specs.inside.WrongAnswers.{OneCall, OneAnswer}

-- Whatever calls a new solver is given, and whatever it answers: as long as the answers are ones that `AreTrue` allows, few steps are made
-- since the last change at each moment. A source is what is seen of it, and a target what `taken` says of it.
abbrev pub AnswersMakeFewSteps : Type 0
AnswersMakeFewSteps =
    (taken : Unit {0} → Taken) (calls : List OneCall) (answers : List OneAnswer) →
    HasFewStepsAlong by_answers (λ source. source) taken empty_past calls answers
