use Rattle.std.proofs.Common.{List, ℕ, ap, ◌∙◌, subst}
use Rattle.varisat_theory.specs.promises.Membership.{◌∈◌}
use Rattle.varisat_theory.specs.promises.Literals.{opposite}
use Rattle.varisat_database.proofs.ListLemmas.{item_at}
use Rattle.varisat_rules.specs.inside.Resolving.{IsOfOthers}
use Rattle.varisat_simplify.proofs.NormalLemmas.{reads_same, reads_added, set_all, tautology_at}
use Rattle.varisat_simplify.proofs.normal.normalize.Goals as goal
use Rattle.varisat_simplify.proofs.normal.normalize.Goals.{in-Same, in-Absent+in_ok-add_noted-in-Absent}

pub returns-in-Opposite-clause-same : goal.returns-in-Opposite-clause-same
returns-in-Opposite-clause-same g c =
    tautology_at c.args.clause.now c.loop-lit.out.items c.loop-lit.lit-index c.lit-item.result c.loop-lit-test.true
    (item_at c.args.clause.now c.loop-lit.lit-index c.lit-item.result c.loop-lit-test.true c.lit-item.is)
    (subst (λ (x : List ℕ). opposite c.lit-item.result ∈ x) c.deref.ensures.value (c.in-Opposite.ensures {u = tt})) c.loop-lit.invariant.takes.same

pub loop-lit-preserved : goal.loop-lit-preserved
loop-lit-preserved g c =
    let at = item_at c.args.clause.now c.loop-lit.lit-index c.lit-item.result c.loop-lit-test.true c.lit-item.is in
    elim c.match-sign_by.branch [
      | in-Same w ↦ reads_same c.args.names.now _ c.loop-lit.positions c.match-sign_by.positions c.args.clause.now c.loop-lit.out.items
          c.match-sign_by.out.items c.loop-lit.lit-index c.lit-item.result at
          (subst (λ (x : List ℕ). c.lit-item.result ∈ x) c.deref.ensures.value (w.in-Same.ensures {u = tt})) (ap (λ v. v.items) w.out-is) w.positions-is
          c.loop-lit.invariant
      | in-Absent+in_ok-add_noted-in-Absent w ↦ reads_added c.args.names.now _ c.loop-lit.positions c.match-sign_by.positions _ c.args.clause.now
          c.loop-lit.out.items c.match-sign_by.out.items _ c.loop-lit.lit-index c.lit-item.result c.loop-lit-test.true at
          (subst (λ (x : List ℕ). IsOfOthers x c.lit-item.result) c.deref.ensures.value (w.in-Absent.ensures {u = tt})) (ap (λ v. v.items) w.out-is)
          w.positions-is (w.in_ok-add_noted-in-Absent.ensures {u = tt}).added (w.in_ok-add_noted-in-Absent.ensures {u = tt}).noted c.loop-lit.invariant
    ]

pub returns-clause-same : goal.returns-clause-same
returns-clause-same g c = set_all c.args.clause.now c.loop-lit.out.items c.loop-lit.lit-index c.loop-lit-test.false c.loop-lit.invariant.takes.same
