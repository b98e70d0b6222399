use Rattle.varisat_theory.proofs.clauses.Example.{learned_earlier, learned_ends, conflict_held, learned_there}
use Rattle.varisat_theory.proofs.laws.learning.learned_on_example.Goals as goal

pub returns : goal.returns
returns c = (learned_earlier, learned_ends, conflict_held, learned_there)
