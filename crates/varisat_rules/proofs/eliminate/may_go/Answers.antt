use Rattle.std.proofs.Common.{sym, ◌∙◌}
use Rattle.varisat_rules.proofs.eliminate.may_go.Goals as goal

pub returns-then-count-le-MOST_CLAUSES-clause-thawed : goal.returns-then-count-le-MOST_CLAUSES-clause-thawed
returns-then-count-le-MOST_CLAUSES-clause-thawed g c = λ t. sym c.is_frozen.ensures ∙ c.if-is_frozen.false

pub returns-else-count-le-MOST_CLAUSES-clause-thawed : goal.returns-else-count-le-MOST_CLAUSES-clause-thawed
returns-else-count-le-MOST_CLAUSES-clause-thawed g c = λ t. sym c.is_frozen.ensures ∙ c.if-is_frozen.false
