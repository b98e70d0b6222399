use Rattle.std.proofs.Common.{◌<◌, length, refl, sym, ap, ◌∙◌, subst, arith}
use Rattle.varisat_theory.specs.promises.Literals.{variable_of}
use Rattle.varisat_clause.specs.Stored.{StoredClause, stored_at}
use Rattle.varisat_clause.specs.Stores.{stored_clauses}
use Rattle.varisat_clause.proofs.LiveStore.{∈-live}
use Rattle.varisat_clause.proofs.MappedClauses.{mapped-more, mapped-done}
use Rattle.varisat_prop.specs.Watches.{literal_in}
use Rattle.varisat_analysis.specs.Reductions.{reason_marked}
use Rattle.varisat_analysis.proofs.MarkedReasons.{mark-place, unmarked-clause}
use Rattle.varisat_analysis.proofs.reasons.mark_reasons.Goals as goal

pub mark_reason-requires-clause-value : goal.mark_reason-requires-clause-value
mark_reason-requires-clause-value g c live =
    let s = c.args.clause_alloc.now in
    let f = reason_marked c.args.assignment.now.current c.args.impl_graph.now.nodes.items in
    let (k, i, e) = unmarked-clause f s c.clauses.clause_alloc c.clauses.index c.place-cref.result
    (mark-place c.args.assignment.now.current c.args.impl_graph.now.nodes.items) c.requires.sound
    (omega arith) c.clauses.invariant.state c.place-cref.ensures.place in
    subst (λ (x : StoredClause). variable_of (literal_in x.literals 0) < length c.args.assignment.now.current) (sym e)
    (c.requires.values k (∈-live (stored_clauses s) k i (sym (ap (λ (x : StoredClause). x.header.deleted) e) ∙ live)))

pub clauses-preserved : goal.clauses-preserved
clauses-preserved g c =
    let f = reason_marked c.args.assignment.now.current c.args.impl_graph.now.nodes.items in
    record {
      state = mapped-more f c.args.clause_alloc.now c.clauses.clause_alloc c.mark_reason.new.clause_alloc c.clauses.index c.place-cref.result
          (f (stored_at (stored_clauses c.clauses.clause_alloc) c.place-cref.result))
          (mark-place c.args.assignment.now.current c.args.impl_graph.now.nodes.items) c.requires.sound
          (omega arith) c.clauses.invariant.state c.place-cref.ensures.place refl c.mark_reason.ensures.marked;
      tracks = λ d t. c.mark_reason.ensures.tracks d (c.clauses.invariant.tracks d t);
    }

pub returns-clause-marked : goal.returns-clause-marked
returns-clause-marked g c =
    mapped-done (reason_marked c.args.assignment.now.current c.args.impl_graph.now.nodes.items) c.args.clause_alloc.now c.clauses.clause_alloc
    c.clauses.index (omega arith) c.clauses.invariant.state
