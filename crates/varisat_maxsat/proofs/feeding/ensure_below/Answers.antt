use Rattle.std.proofs.Common.{◌<◌, ⊎_elim, sym, ◌∙◌, subst, arith}
use Rattle.varisat_theory.specs.promises.Literals.{variable_of}
use Rattle.varisat_theory.proofs.clauses.Places.{∈-take_more}
use Rattle.varisat_maxsat.proofs.feeding.ensure_below.Goals as goal

pub loop-literal-preserved : goal.loop-literal-preserved
loop-literal-preserved c = λ l i.
    ⊎_elim (λ j. c.loop-literal.invariant l j)
    (λ e. subst (λ x. variable_of x < c.args.count) (sym (e ∙ sym c.literal-item.is)) (let h = c.index.ensures.index in omega arith))
    (∈-take_more l c.args.clause.now c.loop-literal.literal-index c.literal-item.result i)
