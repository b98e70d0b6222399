use Rattle.std.proofs.Common.{◌++◌, ap, ◌∙◌}
use Rattle.varisat_maxsat.proofs.Exchanging.{divides-start, divides-then}
use Rattle.varisat_maxsat.proofs.charge.divide_digits.Goals as goal

pub digits-init : goal.digits-init
digits-init g c = divides-start _ _ _ c.new-parts.ensures.items
    (c.in_ok-extend_from_slice.ensures.items ∙ ap (λ xs. xs ++ c.args.charges.now) c.new-rest.ensures.items)

pub digits-preserved : goal.digits-preserved
digits-preserved g c = divides-then _ _ _ _ _ _ c.deref.ensures.value c.in_ok-rest.ensures c.digits.invariant

pub returns : goal.returns
returns g c = (c.digits.rest.items, c.digits.invariant)
