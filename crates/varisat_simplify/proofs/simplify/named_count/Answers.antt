use Rattle.std.proofs.Common.{List, ◌∙◌, sym, subst, arith}
use Rattle.varisat_theory.specs.promises.Literals.{Clause}
use Rattle.varisat_formula.specs.promises.Formulas.{AreBelow}
use Rattle.varisat_formula.proofs.FormulaBuffers.{below_more}
use Rattle.varisat_simplify.proofs.UnloadLemmas.{below_next, below_both}
use Rattle.varisat_simplify.proofs.simplify.named_count.Goals as goal

pub loop-clause-init : goal.loop-clause-init
loop-clause-init g c = record {
  rest = λ n b. subst (λ (Q : List Clause). AreBelow n Q)
      (sym (c.into_iter-clause-iterator.ensures.into_iter_gives ∙ c.iter-clause-items.ensures)) b;
  below = λ n h b. subst (λ (Q : List Clause). AreBelow n Q)
      (c.into_iter-clause-iterator.ensures.into_iter_gives ∙ c.iter-clause-items.ensures) b;
  least = λ n b. omega arith;
  small = omega arith;
}

pub loop-clause-preserved : goal.loop-clause-preserved
loop-clause-preserved g c = record {
  rest = λ n b. (below_next n c.loop-clause.clause-iterator c.next.new.self c.in-Some.clause.now c.in-Some.ensures.steps (c.loop-clause.invariant.rest n b)).1;
  below = λ n h b.
      let a = c.raised-most.ensures.below.1 in
      c.loop-clause.invariant.below n (omega (arith, a, h))
      (below_both n c.loop-clause.clause-iterator c.next.new.self c.in-Some.clause.now c.in-Some.ensures.steps
      (below_more c.raised-most.result n c.in-Some.clause.now h c.raised-most.ensures.below.0) b);
  least = λ n b. c.raised-most.ensures.least n
      (below_next n c.loop-clause.clause-iterator c.next.new.self c.in-Some.clause.now c.in-Some.ensures.steps (c.loop-clause.invariant.rest n b)).0
      (c.loop-clause.invariant.least n b);
  small = c.raised-most.ensures.small;
}

pub returns-clause-below : goal.returns-clause-below
returns-clause-below g c =
    c.loop-clause.invariant.below c.loop-clause.most (omega arith)
    (subst (λ (Q : List Clause). AreBelow c.loop-clause.most Q) (sym (c.in-None.ensures {u = tt}).steps.0) tt)
