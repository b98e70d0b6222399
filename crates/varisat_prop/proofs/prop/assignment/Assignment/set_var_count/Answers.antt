use Rattle.std.proofs.Common.{length, ap, arith}
use Rattle.varisat_prop.proofs.trails.LiteralStates.{parts-more}
use Rattle.varisat_prop.proofs.prop.assignment.Assignment.set_var_count.Goals as goal

pub invariant_of-self-in_default-resize : goal.invariant_of-self-in_default-resize
invariant_of-self-in_default-resize g c =
    parts-more c.self.inside.assignment.items c.resize.new.self.items c.self.inside.last_value.items c.resize-2.new.self.items
    c.self.inside.lit_values.items c.resize-3.new.self.items c.args.count _ _ _ c.self.invariant
    (omega (arith, c.requires, ap (λ a. length a.current) c.self.view_is))
    (omega arith)
    (omega arith)
    (omega arith)
    (c.in_ok-resize.ensures {u = tt}).items
    (c.in_default.ensures {u = tt}).items
    (c.in_default-resize.ensures {u = tt}).items
