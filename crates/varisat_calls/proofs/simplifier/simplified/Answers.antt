use Rattle.varisat_calls.proofs.Extending.{made_of_copy, shorter_of_copy}
use Rattle.varisat_calls.proofs.simplifier.simplified.Goals as goal

pub returns-clause-made : goal.returns-clause-made
returns-clause-made g c = made_of_copy c.args.formula.now c.in_ok-copy.copy _ _ _ (c.in_ok-copy.ensures {u = tt}) (c.in_ok-made.ensures {u = tt}).made

pub returns-clause-shorter : goal.returns-clause-shorter
returns-clause-shorter g c = shorter_of_copy _ _ _ (c.in_ok-copy.ensures {u = tt}) (c.in_ok-made.ensures {u = tt}).shorter
