use Rattle.std.proofs.Common.{⊎_elim, sym, ap, ◌∙◌, arith}
use Rattle.varisat_theory.proofs.clauses.Places.{∈-take_more, ∈-take_all}
use Rattle.varisat_maxsat.specs.declared.charge.Charge.{Charge}
use Rattle.varisat_maxsat.proofs.charge.least_weight.Goals as goal

pub loop-charge-preserved : goal.loop-charge-preserved
loop-charge-preserved c = λ d i.
    ⊎_elim (λ j. let h = c.loop-charge.invariant d j in omega arith)
    (λ e. let f = ap (λ (x : Charge). x.weight) (e ∙ sym c.charge-item.is) in omega arith)
    (∈-take_more d c.args.charges.now c.loop-charge.charge-index c.charge-item.result i)

pub returns : goal.returns
returns c = λ d i. c.loop-charge.invariant d (∈-take_all d c.args.charges.now c.loop-charge.charge-index c.loop-charge-test.false i)
