use Rattle.std.proofs.Common.{length, ap, ◌∙◌, arith}
use Rattle.varisat_prop.specs.Parts.{negated}
use Rattle.varisat_prop.proofs.trails.LiteralStates.{parts-set}
use Rattle.varisat_prop.proofs.prop.assignment.Assignment.set_var.Goals as goal

pub invariant_of-self : goal.invariant_of-self
invariant_of-self g c =
    parts-set c.self.inside.assignment.items c.self.inside.last_value.items c.self.inside.lit_values.items c.index.result c.args.assignment
    c.code.result c.code-2.result c.from_option-value.result c.negated.result c.self.invariant
    (omega (arith, c.requires, c.index.ensures.index, ap (λ a. length a.current) c.self.view_is))
    (omega (arith, c.code.ensures.code, c.positive.ensures, c.index.ensures.index))
    (omega (arith, c.code-2.ensures.code, c.negative.ensures, c.index.ensures.index))
    c.from_option-value.ensures
    (c.negated.ensures ∙ ap negated c.from_option-value.ensures)
