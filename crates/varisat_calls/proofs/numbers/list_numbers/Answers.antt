use Rattle.std.proofs.Common.{map, ap, rules, SFits, w32, ◌∙◌}
use Rattle.std.proofs.Math.Facts.{to_z-of_z}
use Rattle.varisat_calls.specs.Numbers.{returned_number}
use Rattle.varisat_calls.proofs.Reading.{read-more, take-whole}
use Rattle.varisat_calls.proofs.numbers.list_numbers.Goals as goal

pub loop-lit-preserved : goal.loop-lit-preserved
loop-lit-preserved g c =
    let fits : SFits w32 c.number_of.result = search rules in
    read-more returned_number c.args.lits.now c.loop-lit.lit-index c.lit-item.result _ _ _ c.loop-lit-test.true c.lit-item.is
    c.loop-lit.invariant c.in_ok-push.ensures.items (to_z-of_z fits ∙ c.number_of.ensures)

pub returns : goal.returns
returns g c = c.loop-lit.invariant ∙ ap (λ ls. map returned_number ls) (take-whole c.args.lits.now c.loop-lit.lit-index c.loop-lit-test.false)
