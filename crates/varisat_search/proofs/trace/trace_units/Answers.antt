use Rattle.varisat_theory.specs.inside.StepLaws.{unit_lines}
use Rattle.varisat_search.specs.ProvedUnits.{units_in}
use Rattle.varisat_steps.proofs.Broken.{lines-broken, breaks-on, breaks-in}
use Rattle.std.proofs.Common.{List, refl, sym, subst, arith}
use Rattle.varisat_theory.specs.promises.Derivations.{Line}
use Rattle.varisat_prop.proofs.views.ReadElements.{item-∈}
use Rattle.varisat_steps.specs.Traces.{TakesLines, CanTake}
use Rattle.varisat_steps.proofs.TracedLists.{traces-none, traces-able, traces-next, traces-over, traces-all}
use Rattle.varisat_search.proofs.simplifying.TracedClauses.{unit_line, line-none, line-one, each-unit}
use Rattle.varisat_search.proofs.trace.trace_units.Goals as goal

pub loop-lit-init : goal.loop-lit-init
loop-lit-init g c =
    let m = g.met.P.ProofTracer in
    traces-none g.P.ProofTracer.holds g.P.ProofTracer.takes m.takes_none m.takes_more m.holds_after
    (unit_line c.args.impl_graph.now.nodes.items) c.args.lits.now c.args.proof.now
    (subst (λ (ls : List Line). CanTake (g.P.ProofTracer.holds c.args.proof.now) ls)
    (each-unit c.args.impl_graph.now.nodes.items c.args.lits.now) c.requires.able)

pub reason-requires : goal.reason-requires
reason-requires g c =
    let i = c.requires.inside c.lit-item.result (item-∈ c.args.lits.now c.loop-lit.lit-index c.lit-item.result c.loop-lit-test.true c.lit-item.is) in
    omega (arith, i, c.var.ensures)

pub loop-lit-preserved : goal.loop-lit-preserved
loop-lit-preserved g c =
    let m = g.met.P.ProofTracer in
    let one = line-one c.args.impl_graph.now.nodes.items c.lit-item.result c.var.result c.reason.result.now c.reason.ensures c.var.ensures
    (λ e. let b = c.if-is_unit.ensures.1 e in cc) in
    traces-next g.P.ProofTracer.holds g.P.ProofTracer.takes m.takes_none m.takes_more m.holds_after
    (unit_line c.args.impl_graph.now.nodes.items) c.args.lits.now c.loop-lit.lit-index c.args.proof.now c.loop-lit.proof c.add_step.new.self
    c.lit-item.result c.loop-lit-test.true c.lit-item.is c.loop-lit.invariant
    (subst (λ (ls : List Line). TakesLines g.P.ProofTracer.takes c.loop-lit.proof ls c.add_step.new.self) (sym one) (c.in_ok-add_step.ensures {u = tt}))

pub loop-lit-preserved-then-is_unit : goal.loop-lit-preserved-then-is_unit
loop-lit-preserved-then-is_unit g c =
    let m = g.met.P.ProofTracer in
    let none = line-none c.args.impl_graph.now.nodes.items c.lit-item.result c.var.result c.reason.result.now c.reason.ensures c.var.ensures
    (c.if-is_unit.ensures.0 refl) in
    traces-over g.P.ProofTracer.holds g.P.ProofTracer.takes m.takes_none m.takes_more m.holds_after
    (unit_line c.args.impl_graph.now.nodes.items) c.args.lits.now c.loop-lit.lit-index c.args.proof.now c.loop-lit.proof c.lit-item.result
    c.loop-lit-test.true c.lit-item.is c.loop-lit.invariant none

pub add_step-requires : goal.add_step-requires
add_step-requires g c =
    let m = g.met.P.ProofTracer in
    let one = line-one c.args.impl_graph.now.nodes.items c.lit-item.result c.var.result c.reason.result.now c.reason.ensures c.var.ensures
    (λ e. let b = c.if-is_unit.ensures.1 e in cc) in
    subst (λ (ls : List Line). CanTake (g.P.ProofTracer.holds c.loop-lit.proof) ls) one
    (traces-able g.P.ProofTracer.holds g.P.ProofTracer.takes m.takes_none m.takes_more m.holds_after
    (unit_line c.args.impl_graph.now.nodes.items) c.args.lits.now c.loop-lit.lit-index c.args.proof.now c.loop-lit.proof c.lit-item.result
    c.loop-lit-test.true c.lit-item.is c.loop-lit.invariant)

pub returns : goal.returns
returns g c =
    let m = g.met.P.ProofTracer in
    subst (λ (ls : List Line). TakesLines g.P.ProofTracer.takes c.args.proof.now ls c.loop-lit.proof)
    (sym (each-unit c.args.impl_graph.now.nodes.items c.args.lits.now))
    (traces-all g.P.ProofTracer.holds g.P.ProofTracer.takes m.takes_none m.takes_more m.holds_after
    (unit_line c.args.impl_graph.now.nodes.items) c.args.lits.now c.loop-lit.lit-index c.args.proof.now c.loop-lit.proof c.loop-lit-test.false
    c.loop-lit.invariant)

pub returns-in_err-add_step : goal.returns-in_err-add_step
returns-in_err-add_step g c =
    lines-broken g.P.ProofTracer.takes g.P.ProofTracer.breaks_off c.args.proof.now c.add_step.new.self
    (unit_lines (units_in c.args.impl_graph.now.nodes.items c.args.lits.now)) c.from_residual.result c.in_err-add_step.field-0.0 c.from_residual.ensures
    (breaks-on g.P.ProofTracer.takes g.P.ProofTracer.breaks_off g.met.P.ProofTracer.breaks_behind c.loop-lit.invariant.done
    (breaks-in g.P.ProofTracer.breaks_off (c.in_err-add_step.ensures {u = tt})))
