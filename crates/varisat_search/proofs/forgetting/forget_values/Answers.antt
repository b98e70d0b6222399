use Rattle.std.proofs.Common.{Bool, false, List, length, set, None, take, take_all, ◌∙◌, ap, arith}
use Rattle.varisat_prop.specs.Parts.{Values}
use Rattle.varisat_prop.proofs.views.Leaving.{cleared-length}
use Rattle.varisat_search.proofs.variables.ForgottenValues.{forgotten_values, values-none, values-on, values-off}
use Rattle.varisat_search.proofs.forgetting.forget_values.Goals as goal

pub loop-index-init : goal.loop-index-init
loop-index-init g c = values-none c.args.assignment.now c.args.gone.now

pub loop-index-preserved-then-not-is_gone : goal.loop-index-preserved-then-not-is_gone
loop-index-preserved-then-not-is_gone g c = values-off c.args.assignment.now c.loop-index.assignment c.args.gone.now c.loop-index.index
    c.if-not-is_gone.true c.loop-index.invariant

pub loop-index-preserved : goal.loop-index-preserved
loop-index-preserved g c =
    c.forget_var.ensures ∙ ap (λ v.
    record { current = set c.loop-index.assignment.current v None; last = set c.loop-index.assignment.last v false }) c.from_index.ensures
    ∙ values-on c.args.assignment.now c.loop-index.assignment c.args.gone.now c.loop-index.index c.if-not-is_gone.false c.loop-index.invariant

pub returns : goal.returns
returns g c = c.loop-index.invariant ∙ ap (λ (xs : List Bool). forgotten_values xs c.args.assignment.now)
    (take_all c.loop-index.index c.args.gone.now (omega (arith, c.loop-index-test.false)))

pub forget_var-requires : goal.forget_var-requires
forget_var-requires g c =
    let n = ap (λ (a : Values). length a.current) c.loop-index.invariant
    ∙ cleared-length (take c.loop-index.index c.args.gone.now) None c.args.assignment.now.current in
    omega (arith, n, c.loop-index-test.true, c.requires.count, c.from_index.ensures)
