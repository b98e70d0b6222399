use Rattle.std.proofs.Common.{arith, refl, ◌∙◌}
use Rattle.varisat_theory.proofs.clauses.Held.{same_set-self}
use Rattle.varisat_rules.proofs.EliminateSteps.{matched_true, matched_false}
use Rattle.varisat_simplify.proofs.LoadLemmas.{loads_first, loads_give, loads_skip, loads_end}
use Rattle.varisat_simplify.proofs.simplify.load.Goals as goal

pub loop-clause-init : goal.loop-clause-init
loop-clause-init g c =
    loads_first c.args.formula.now.clauses c.into_iter-clause-iterator.result c.args.db.now.var_count c.args.db.now.frozen c.args.db.now.saves_both c.reserve_for.new.self (c.reserve_for.ensures ∙ c.requires)
    (c.into_iter-clause-iterator.ensures.into_iter_gives ∙ c.iter-clause-items.ensures)

pub returns : goal.returns
returns g c =
    loads_end c.args.formula.now.clauses c.loop-clause.clause-iterator c.args.db.now.var_count c.args.db.now.frozen c.args.db.now.saves_both c.loop-clause.db
    (c.in-None.ensures {u = tt}).steps.0 c.loop-clause.invariant

pub loop-clause-preserved-in-Continue-branch-2 : goal.loop-clause-preserved-in-Continue-branch-2
loop-clause-preserved-in-Continue-branch-2 g c =
    loads_give c.args.formula.now.clauses c.loop-clause.clause-iterator c.next.new.self c.args.db.now.var_count c.args.db.now.frozen c.args.db.now.saves_both
    c.loop-clause.db c.give.new.self c.in-Some.clause.now c.in-Some.clause.now c.in-Some.clause.now c.in-Some.ensures.steps
    (same_set-self c.in-Some.clause.now) (omega arith) refl (c.in_ok-give.ensures {u = tt}) c.loop-clause.invariant

pub loop-clause-preserved-in-Continue-branch-4 : goal.loop-clause-preserved-in-Continue-branch-4
loop-clause-preserved-in-Continue-branch-4 g c =
    loads_give c.args.formula.now.clauses c.loop-clause.clause-iterator c.next.new.self c.args.db.now.var_count c.args.db.now.frozen c.args.db.now.saves_both
    c.loop-clause.db c.give-then-branch.new.self c.in-Some.clause.now c.normalize.new.out.items c.deref.result.now c.in-Some.ensures.steps
    (matched_true _ _ c.in_ok-normalize.field-0 c.if-branch.true (c.in_ok-normalize.ensures {u = tt}).same)
    ((c.in_ok-normalize.ensures {u = tt}).fewer c.if-branch.true) c.deref.ensures.value
    (c.in_ok-give-2.ensures {u = tt}) c.loop-clause.invariant

pub loop-clause-preserved : goal.loop-clause-preserved
loop-clause-preserved g c =
    loads_skip c.args.formula.now.clauses c.loop-clause.clause-iterator c.next.new.self c.args.db.now.var_count c.args.db.now.frozen c.args.db.now.saves_both
    c.loop-clause.db c.give-else-branch.new.self c.remove.new.self c.in-Some.clause.now c.in-Some.clause.now c.len-place.result c.in-Some.ensures.steps
    (matched_false _ _ c.in_ok-normalize.field-0 c.if-branch.false (c.in_ok-normalize.ensures {u = tt}).same) refl c.len-place.ensures.count
    (c.in_ok-give-3.ensures {u = tt}) (c.in_ok-remove.ensures {u = tt}) c.loop-clause.invariant
