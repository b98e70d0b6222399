use Rattle.varisat.proofs.WrongAnswers.{wrong-answers}
use Rattle.varisat.proofs.laws.wrong_answers_fit_no_story.Goals as goal

pub returns : goal.returns
returns c = wrong-answers
