use Rattle.std.proofs.Common.{length, ap, arith}
use Rattle.varisat_prop.proofs.trails.LiteralStates.{value-read, true-told}
use Rattle.varisat_prop.proofs.prop.assignment.Assignment.lit_is_true.Goals as goal

pub returns : goal.returns
returns g c =
    rw (← c.self.view_is) (true-told c.self.inside.assignment.items c.args.lit c.index.result.now c.is_true.result
    (value-read c.self.inside.assignment.items c.self.inside.lit_values.items c.args.lit c.code.result c.index.result.now c.self.invariant.1 c.self.invariant.2
    (omega (arith, c.requires, ap (λ a. length a.current) c.self.view_is))
    c.code.ensures.code
    c.index.ensures) c.is_true.ensures)
