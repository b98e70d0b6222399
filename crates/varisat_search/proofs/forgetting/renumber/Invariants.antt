use Rattle.varisat_search.proofs.variables.ForgottenViews.{NumberedTo}
use Rattle.varisat_search.proofs.forgetting.renumber.Given as goal

abbrev pub invariant-loop-place : goal.invariant-loop-place
invariant-loop-place g l = NumberedTo l.lits l.place l.fn.impl_graph.nodes.items l.impl_graph.nodes.items
