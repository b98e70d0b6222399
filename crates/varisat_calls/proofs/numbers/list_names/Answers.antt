use Rattle.std.proofs.Common.{true, map, ap, rules, SFits, w32, ◌∙◌}
use Rattle.std.proofs.Math.Facts.{to_z-of_z}
use Rattle.varisat_theory.specs.promises.Literals.{literal_of}
use Rattle.varisat_calls.specs.Numbers.{returned_number}
use Rattle.varisat_calls.proofs.Reading.{read-more, take-whole}
use Rattle.varisat_calls.proofs.numbers.list_names.Goals as goal

pub loop-var-preserved : goal.loop-var-preserved
loop-var-preserved g c =
    let fits : SFits w32 c.number_of.result = search rules in
    read-more (λ u. returned_number (literal_of u true)) c.args.vars.now c.loop-var.var-index c.var-item.result _ _ _ c.loop-var-test.true
    c.var-item.is c.loop-var.invariant c.in_ok-push.ensures.items (to_z-of_z fits ∙ (c.number_of.ensures ∙ ap returned_number c.positive.ensures))

pub returns : goal.returns
returns g c =
    c.loop-var.invariant ∙ ap (λ us. map (λ u. returned_number (literal_of u true)) us) (take-whole c.args.vars.now c.loop-var.var-index c.loop-var-test.false)
