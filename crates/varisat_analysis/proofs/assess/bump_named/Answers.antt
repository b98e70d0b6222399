use Rattle.std.proofs.Common.{◌≡◌, List, take_all, get_or, sym, ◌∙◌, subst, refl}
use Rattle.varisat_theory.specs.promises.Membership.{◌∈◌}
use Rattle.varisat_theory.specs.promises.Literals.{Literal}
use Rattle.varisat_clause.specs.Stored.{IsClauseRef}
use Rattle.varisat_clause.specs.Stores.{Store}
use Rattle.varisat_clause.specs.Collected.{live_clauses}
use Rattle.varisat_prop.specs.declared.prop.graph.Conflict.{Conflict}
use Rattle.varisat_prop.specs.declared.prop.graph.Conflict.TheVariants as conflict
use Rattle.varisat_prop.proofs.views.ReadElements.{item-∈}
use Rattle.varisat_analysis.specs.Bumps.{literals_among}
use Rattle.varisat_analysis.specs.HeaderChanges.{SameButHeaders}
use Rattle.varisat_analysis.proofs.BumpedVariables.{name-snoc, in-among}
use Rattle.varisat_analysis.proofs.AssignedLevels.{count-part}
use Rattle.varisat_analysis.proofs.BumpedClauses.{AreBumped, none-bumped, bumped-headers, bumped-place, bumped-undeleted, bumped-literals, other-bumped, long-bumped}
use Rattle.varisat_analysis.proofs.assess.bump_named.Goals as goal

pub loop-name-init : goal.loop-name-init
loop-name-init g c = record {
  bumped = none-bumped c.args.impl_graph.now.nodes.items c.args.alloc.now c.args.db.now c.args.activity.now
      c.requires.tracks;
  flags = refl;
}

pub bump_clause-requires : goal.bump_clause-requires
bump_clause-requires g c =
    let s = c.args.alloc.now in
    let names = c.args.names.now in
    let p = c.in-Long.cref in
    let k = c.loop-name.invariant.bumped in
    let i : conflict.Long p ∈ names = subst (λ (f : Conflict). f ∈ names) c.in-Long.is
    (item-∈ names c.loop-name.name-index c.name-item.result c.loop-name-test.true c.name-item.is) in
    let h : IsClauseRef (live_clauses s) p = c.requires.named (conflict.Long p) i in
    record {
      place = bumped-place k p h;
      live = bumped-undeleted k p h;
      tracks = k.tracks;
      count = count-part c.args.impl_graph.now.nodes.items (literals_among (live_clauses s) names) _ c.args.flags.now c.loop-name.flags
          c.requires.count c.loop-name.invariant.flags
          (λ l m. in-among (live_clauses s) names (conflict.Long p) l i (subst (λ (ls : List Literal). l ∈ ls) (bumped-literals k p h) m));
    }

pub loop-name-preserved-in_default : goal.loop-name-preserved-in_default
loop-name-preserved-in_default g c =
    let names = c.args.names.now in
    record {
      bumped = subst (λ (fs : List Conflict). AreBumped c.args.impl_graph.now.nodes.items fs c.args.alloc.now c.loop-name.alloc c.loop-name.db
          c.args.activity.now c.loop-name.activity)
          (sym (name-snoc c.loop-name.name-index names c.name-item.result c.loop-name-test.true c.name-item.is))
          (other-bumped c.loop-name.invariant.bumped c.name-item.result c.in_default.not-Long);
      flags = c.loop-name.invariant.flags;
    }

pub loop-name-preserved : goal.loop-name-preserved
loop-name-preserved g c =
    let names = c.args.names.now in
    let n = c.loop-name.name-index in
    let p = c.in-Long.cref in
    record {
      bumped = subst (λ (fs : List Conflict). AreBumped c.args.impl_graph.now.nodes.items fs c.args.alloc.now c.bump_clause.new.alloc
          c.bump_clause.new.db c.args.activity.now c.bump_clause.new.activity)
          (sym (name-snoc n names (conflict.Long p) c.loop-name-test.true (subst (λ (f : Conflict). f ≡ get_or names n f) c.in-Long.is c.name-item.is)))
          (long-bumped c.loop-name.invariant.bumped p c.bump_clause.new.alloc c.bump_clause.new.db c.bump_clause.new.activity
          c.in_ok-bump_clause.ensures.bumped c.in_ok-bump_clause.ensures.scale c.bump_clause.ensures.tracks);
      flags = c.bump_clause.ensures.flags ∙ c.loop-name.invariant.flags;
    }

pub returns-clause-bumped : goal.returns-clause-bumped
returns-clause-bumped g c =
    (subst (λ (fs : List Conflict). AreBumped c.args.impl_graph.now.nodes.items fs c.args.alloc.now c.loop-name.alloc c.loop-name.db
    c.args.activity.now c.loop-name.activity) (take_all c.loop-name.name-index c.args.names.now c.loop-name-test.false) c.loop-name.invariant.bumped).store

pub returns-clause-scale : goal.returns-clause-scale
returns-clause-scale g c =
    (subst (λ (fs : List Conflict). AreBumped c.args.impl_graph.now.nodes.items fs c.args.alloc.now c.loop-name.alloc c.loop-name.db
    c.args.activity.now c.loop-name.activity) (take_all c.loop-name.name-index c.args.names.now c.loop-name-test.false) c.loop-name.invariant.bumped).scale

pub returns-clause-headers : goal.returns-clause-headers
returns-clause-headers g c = bumped-headers c.loop-name.invariant.bumped

pub returns-in_err-bump_clause-clause-headers : goal.returns-in_err-bump_clause-clause-headers
returns-in_err-bump_clause-clause-headers g c =
    subst (λ (u : Store). SameButHeaders (live_clauses c.args.alloc.now) (live_clauses u)) (sym c.in_err-bump_clause.ensures.refused)
    (bumped-headers c.loop-name.invariant.bumped)
