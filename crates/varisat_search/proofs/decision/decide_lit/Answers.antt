use Rattle.std.proofs.Common.{[], ◌∷◌, length, ap, ◌∙◌, arith, length-append}
use Rattle.varisat_prop.specs.declared.prop.graph.Reason.TheVariants as reason
use Rattle.varisat_prop.specs.Parts.{TrailParts}
use Rattle.varisat_prop.specs.View.{view_of}
use Rattle.varisat_prop.specs.Changes.{enqueued}
use Rattle.varisat_search.proofs.decision.decide_lit.Goals as goal

pub enqueue_assignment-requires : goal.enqueue_assignment-requires
enqueue_assignment-requires g c =
    let t = c.args.ctx.now.trail in
    let e = c.in_ok-new_decision_level.ensures in
    let levels = ap (λ (u : TrailParts). length u.decisions) e in
    let more = length-append t.decisions (length t.literals ∷ []) in
    let depth = ap (λ (u : TrailParts). length u.literals) e in
    record {
      assignable = c.requires.assignable;
      level = omega (arith, levels, more, c.requires.level);
      depth = omega (arith, depth, c.requires.depth);
    }

pub returns-clause-decided : goal.returns-clause-decided
returns-clause-decided g c =
    let x = c.args.ctx.now in
    record {
      level = c.in_ok-enqueue_assignment.ensures.view x.clause_alloc x.binary_clauses
          ∙ ap (λ t. enqueued (view_of x.clause_alloc x.binary_clauses x.assignment t x.impl_graph) c.args.lit reason.Unit)
          c.in_ok-new_decision_level.ensures;
      last = c.in_ok-enqueue_assignment.ensures.last;
    }
