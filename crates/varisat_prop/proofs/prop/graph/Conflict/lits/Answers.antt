use Rattle.std.proofs.Common.{sym, ap, ◌∙◌, subst}
use Rattle.varisat_clause.specs.Stores.{stored_clauses}
use Rattle.varisat_clause.specs.Collected.{live_clauses}
use Rattle.varisat_clause.proofs.LiveStore.{live-place, live-literals}
use Rattle.varisat_prop.specs.declared.prop.graph.Conflict.{Conflict}
use Rattle.varisat_prop.specs.Changes.{NamesPlace, named_in}
use Rattle.varisat_prop.proofs.prop.graph.Conflict.lits.Goals as goal

pub lits-requires-clause-place : goal.lits-requires-clause-place
lits-requires-clause-place g c = live-place (stored_clauses c.args.clause_alloc.now) c.in-Long.cref
    (subst (NamesPlace (live_clauses c.args.clause_alloc.now)) c.in-Long.is c.requires.place)

pub returns-in-Long : goal.returns-in-Long
returns-in-Long g c =
    let s = c.args.clause_alloc.now in
    let h = subst (NamesPlace (live_clauses s)) c.in-Long.is c.requires.place in
    c.lits.ensures ∙ live-literals s c.in-Long.cref c.requires.sound h ∙ sym (ap (λ (f : Conflict). named_in (live_clauses s) f) c.in-Long.is)
