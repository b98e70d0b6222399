use Rattle.varisat_theory.proofs.steps.StepEnds.{learned_kept, learned_unit}
use Rattle.varisat_theory.proofs.laws.steps.clause_is_learned.Goals as goal

pub returns : goal.returns
returns c = record {
  kept = λ s c k q w. learned_kept s c k q w.follows w.is_new w.literals;
  unit = λ s c l u w. learned_unit s c l u w.follows w.is_new w.literals;
}
