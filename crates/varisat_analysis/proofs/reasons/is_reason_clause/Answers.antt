use Rattle.std.proofs.Common.{◌<◌, false, nat_eq, length, sym, ap, ◌∙◌, subst}
use Rattle.std.specs.Prelude.{is_some}
use Rattle.varisat_clause.specs.Stored.{stored_at}
use Rattle.varisat_clause.specs.Stores.{stored_clauses}
use Rattle.varisat_clause.proofs.DatabaseTracks.{place-is}
use Rattle.varisat_prop.specs.declared.prop.graph.Reason.TheVariants as reason
use Rattle.varisat_analysis.proofs.MarkedReasons.{no-value, by-reason, not-long}
use Rattle.varisat_analysis.proofs.reasons.is_reason_clause.Goals as goal

pub var_value-requires : goal.var_value-requires
var_value-requires g c = subst (λ v. v < length c.args.assignment.now.current) (sym c.first_var-var.ensures) c.requires.value

pub reason-requires : goal.reason-requires
reason-requires g c = subst (λ v. v < length c.args.impl_graph.now.nodes.items) (sym c.first_var-var.ensures) c.requires.node

pub returns-then-is_none : goal.returns-then-is_none
returns-then-is_none g c =
    no-value c.args.assignment.now.current c.args.impl_graph.now.nodes.items
    (stored_at (stored_clauses c.args.clause_alloc.now) c.args.cref) c.first_var-var.result c.first_var-var.ensures
    (ap (λ o. is_some o) (sym c.var_value.ensures) ∙ c.if-is_none.ensures)

pub returns-in-Long : goal.returns-in-Long
returns-in-Long g c =
    let ks = stored_clauses c.args.clause_alloc.now in
    by-reason c.args.assignment.now.current c.args.impl_graph.now.nodes.items
    (stored_at ks c.args.cref) c.first_var-var.result c.first_var-var.ensures c.eq.result (reason.Long c.in-Long.place)
    (ap (λ o. is_some o) (sym c.var_value.ensures) ∙ c.if-is_none.ensures) (sym c.in-Long.is ∙ c.reason.ensures)
    (c.eq.ensures ∙ ap (nat_eq c.in-Long.place) (sym (place-is ks c.args.cref c.requires.place)))

pub returns-in_default : goal.returns-in_default
returns-in_default g c =
    let k = stored_at (stored_clauses c.args.clause_alloc.now) c.args.cref in
    by-reason c.args.assignment.now.current c.args.impl_graph.now.nodes.items k c.first_var-var.result c.first_var-var.ensures false
    c.reason.result.now (ap (λ o. is_some o) (sym c.var_value.ensures) ∙ c.if-is_none.ensures) c.reason.ensures
    (not-long c.reason.result.now k.place c.in_default.not-Long)
