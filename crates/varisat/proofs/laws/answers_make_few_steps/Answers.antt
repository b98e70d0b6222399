use Rattle.varisat.proofs.FewSteps.{answers-stay-few}
use Rattle.varisat.proofs.laws.answers_make_few_steps.Goals as goal

pub returns : goal.returns
returns c = λ taken calls answers. answers-stay-few (λ source. source) taken calls answers
