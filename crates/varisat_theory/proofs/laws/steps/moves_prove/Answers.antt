use Rattle.varisat_theory.proofs.steps.StepChanges.{moves_prove}
use Rattle.varisat_theory.proofs.laws.steps.moves_prove.Goals as goal

pub returns : goal.returns
returns c = λ s t m. moves_prove s t m.clauses m.unlearned m.fixed m.proved m.within
