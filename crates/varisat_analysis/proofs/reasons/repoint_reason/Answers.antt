use Rattle.std.proofs.Common.{◌<◌, length, sym, ◌∙◌, subst}
use Rattle.varisat_clause.specs.Stored.{stored_at}
use Rattle.varisat_clause.specs.Stores.{stored_clauses}
use Rattle.varisat_analysis.proofs.MovedReasons.{repoint-done}
use Rattle.varisat_analysis.proofs.reasons.repoint_reason.Goals as goal

pub update_reason-requires : goal.update_reason-requires
update_reason-requires g c = subst (λ v. v < length c.args.impl_graph.now.nodes.items) (sym c.first_var-var.ensures) c.requires.node

pub returns-then-is_reason_clause : goal.returns-then-is_reason_clause
returns-then-is_reason_clause g c =
    repoint-done c.args.assignment.now.current c.args.impl_graph.now.nodes.items c.update_reason.new.self.nodes.items
    (stored_at (stored_clauses c.args.clause_alloc.now) c.args.cref) c.first_var-var.result c.args.new_cref
    (sym c.is_reason_clause.ensures ∙ c.if-is_reason_clause.true) c.first_var-var.ensures c.update_reason.ensures
