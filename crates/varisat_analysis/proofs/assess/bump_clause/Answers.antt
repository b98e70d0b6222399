use Rattle.std.proofs.Common.{ℕ, true, ap, ◌∙◌, refl}
use Rattle.varisat_clause.specs.Headers.{Header}
use Rattle.varisat_clause.specs.Stored.{IsClauseRef, header_at, literals_at}
use Rattle.varisat_clause.specs.Stores.{Store, stored_clauses}
use Rattle.varisat_clause.specs.Databases.{Tracks}
use Rattle.varisat_clause.proofs.DatabaseTracks.{tracks-header}
use Rattle.varisat_prop.specs.declared.prop.graph.ImplGraph.{ImplGraph}
use Rattle.varisat_analysis.specs.Assessments.{glue_of, improved, with_bump}
use Rattle.varisat_analysis.proofs.BumpedClauses.{set-place, noted-holds, bump-holds, bump-tracks, bumped-clauses, bumped-holds}
use Rattle.varisat_analysis.proofs.assess.bump_clause.Goals as goal

-- the glue of the clause
abbrev own : {A : Type 0} → ImplGraph A → Store → ℕ → ℕ
own graph s p = glue_of graph.nodes.items (literals_at (stored_clauses s) p)

pub set_active-requires-clause-place : goal.set_active-requires-clause-place
set_active-requires-clause-place g c =
    set-place c.args.alloc.now c.improve_glue.new.alloc c.args.cref
    (improved (own c.args.impl_graph.now c.args.alloc.now c.args.cref) (header_at (stored_clauses c.args.alloc.now) c.args.cref))
    c.requires.place c.in_ok-improve_glue.ensures.improved

pub bump_clause_activity-requires-clause-place : goal.bump_clause_activity-requires-clause-place
bump_clause_activity-requires-clause-place g c =
    let n = c.improve_glue.new.alloc in
    set-place n c.set_active.new.alloc c.args.cref (record (header_at (stored_clauses n) c.args.cref) { active = true })
    (set-place c.args.alloc.now n c.args.cref
    (improved (own c.args.impl_graph.now c.args.alloc.now c.args.cref) (header_at (stored_clauses c.args.alloc.now) c.args.cref))
    c.requires.place c.in_ok-improve_glue.ensures.improved)
    c.set_active.ensures

pub returns-clause-bumped : goal.returns-clause-bumped
returns-clause-bumped g c =
    let s = c.args.alloc.now in
    let n = c.set_active.new.alloc in
    let m = c.bump_clause_activity.new.alloc in
    let p = c.args.cref in
    let nodes = c.args.impl_graph.now.nodes.items in
    bumped-holds s n m c.args.activity.now p nodes (own c.args.impl_graph.now c.args.alloc.now c.args.cref) refl
    (noted-holds s c.improve_glue.new.alloc n p (own c.args.impl_graph.now c.args.alloc.now c.args.cref) c.requires.place
    c.in_ok-improve_glue.ensures.improved c.set_active.ensures)
    (bump-holds n m c.args.activity.now p c.bump_clause_activity.ensures.raised c.bump_clause_activity.ensures.shifted)

pub returns-clause-scale : goal.returns-clause-scale
returns-clause-scale g c =
    let s = c.args.alloc.now in
    let n = c.set_active.new.alloc in
    let p = c.args.cref in
    let nodes = c.args.impl_graph.now.nodes.items in
    c.bump_clause_activity.ensures.scale
    ∙ ap (λ ks. (with_bump p (record { clauses = ks; scale = c.args.activity.now })).scale)
    (bumped-clauses s n p nodes (own c.args.impl_graph.now c.args.alloc.now c.args.cref) refl
    (noted-holds s c.improve_glue.new.alloc n p (own c.args.impl_graph.now c.args.alloc.now c.args.cref) c.requires.place
    c.in_ok-improve_glue.ensures.improved c.set_active.ensures))

pub returns-clause-tracks : goal.returns-clause-tracks
returns-clause-tracks g c =
    let s = c.args.alloc.now in
    let k = c.improve_glue.new.alloc in
    let n = c.set_active.new.alloc in
    let m = c.bump_clause_activity.new.alloc in
    let p = c.args.cref in
    let d = c.improve_glue.new.db in
    let h : Header = record (header_at (stored_clauses k) p) { active = true } in
    let at : IsClauseRef (stored_clauses k) p =
    set-place s k p (improved (own c.args.impl_graph.now c.args.alloc.now c.args.cref) (header_at (stored_clauses s) p)) c.requires.place
    c.in_ok-improve_glue.ensures.improved in
    let t : Tracks d n = tracks-header d k n p h c.improve_glue.ensures.tracks at refl refl c.set_active.ensures in
    bump-tracks d n m c.args.activity.now p t
    (bump-holds n m c.args.activity.now p c.bump_clause_activity.ensures.raised c.bump_clause_activity.ensures.shifted)
