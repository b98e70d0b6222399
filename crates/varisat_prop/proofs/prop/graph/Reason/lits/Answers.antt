use Rattle.std.proofs.Common.{◌≤◌, length, sym, ap, ◌∙◌, subst}
use Rattle.varisat_clause.specs.Stored.{literals_at}
use Rattle.varisat_clause.specs.Stores.{stored_clauses}
use Rattle.varisat_clause.specs.Collected.{live_clauses}
use Rattle.varisat_clause.proofs.LiveStore.{live-place}
use Rattle.varisat_prop.specs.declared.prop.graph.Reason.{Reason}
use Rattle.varisat_prop.specs.Changes.{NamesClause, causes_of}
use Rattle.varisat_prop.proofs.views.ReadElements.{others-read, reason-read}
use Rattle.varisat_prop.proofs.prop.graph.Reason.lits.Goals as goal

pub lits-requires-clause-place : goal.lits-requires-clause-place
lits-requires-clause-place g c = live-place (stored_clauses c.args.clause_alloc.now) c.in-Long.cref
    (subst (NamesClause (live_clauses c.args.clause_alloc.now)) c.in-Long.is c.requires.clause).0

pub slice_bounds-result-count : goal.slice_bounds-result-count
slice_bounds-result-count g c = (reason-read c.requires.sound c.requires.clause c.in-Long.is c.lits.ensures).1

pub slice_bounds-result-start : goal.slice_bounds-result-start
slice_bounds-result-start g c = (reason-read c.requires.sound c.requires.clause c.in-Long.is c.lits.ensures).1

pub returns-in-Long : goal.returns-in-Long
returns-in-Long g c =
    let s = c.args.clause_alloc.now in
    let (e, long) = reason-read c.requires.sound c.requires.clause c.in-Long.is c.lits.ensures in
    others-read (literals_at (live_clauses s) c.in-Long.cref) c.lits.result.now e (subst (λ x. 1 ≤ length x) e long)
    ∙ sym (ap (λ (r : Reason). causes_of (live_clauses s) r) c.in-Long.is)
