use Rattle.std.proofs.lemmas.Grind.{common_steps}
use Rattle.std.proofs.Common.{List, refl, ◌∙◌, subst, arith}
use Rattle.varisat_theory.specs.promises.Membership.{◌∈◌}
use Rattle.varisat_clause.specs.Collected.{live_clauses}
use Rattle.varisat_prop.specs.declared.prop.graph.Conflict.{Conflict}
use Rattle.varisat_search.specs.Contexts.{view}
use Rattle.varisat_analysis.specs.Bumps.{literals_among}
use Rattle.varisat_analysis.proofs.SameButHeaders.{headers-trans}
use Rattle.varisat_analysis.proofs.BumpedClauses.{decay-tracks, decay-headers}
use Rattle.varisat_analysis.proofs.AssignedLevels.{can-count}
use Rattle.varisat_search.proofs.assess.bump_involved_clauses.Goals as goal

pub bump_named-requires-clause-named : goal.bump_named-requires-clause-named
bump_named-requires-clause-named g c f h = c.requires.named f (subst (λ (fs : List Conflict). f ∈ fs) c.involved.ensures h)

pub bump_named-requires-clause-count : goal.bump_named-requires-clause-count
bump_named-requires-clause-count g c =
    let x = c.args.ctx.now in
    let ks = live_clauses x.clause_alloc in
    can-count (view x) c.requires.well c.deref_mut.result.now (literals_among ks c.involved.result.now) (c.deref_mut.ensures.value ∙ c.requires.clear)
    (λ l i. c.requires.assigned l (subst (λ (fs : List Conflict). l ∈ literals_among ks fs) c.involved.ensures i))

pub returns-clause-headers : goal.returns-clause-headers
returns-clause-headers g c =
    let s = c.args.ctx.now.clause_alloc in
    let t = c.bump_named.new.alloc in
    let u = c.decay_clause_activities.new.alloc in
    headers-trans (live_clauses s) (live_clauses t) (live_clauses u) c.bump_named.ensures.headers
    (decay-headers t u _ c.decay_clause_activities.ensures.clauses)

pub returns-clause-tracks : goal.returns-clause-tracks
returns-clause-tracks g c = decay-tracks c.bump_named.new.db c.bump_named.new.alloc c.decay_clause_activities.new.alloc _
    c.bump_named.ensures.tracks c.decay_clause_activities.ensures.clauses

pub returns-in_err-bump_named-clause-frame : goal.returns-in_err-bump_named-clause-frame
returns-in_err-bump_named-clause-frame g c = (refl, grind (arith, common_steps))

pub returns-clause-frame : goal.returns-clause-frame
returns-clause-frame g c = (refl, grind (arith, common_steps))
