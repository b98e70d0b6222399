use Rattle.varisat_tracer.specs.inside.Tracing.{global_literal}
use Rattle.varisat_tracer.proofs.GlobalSteps.{mapped-more}
use Rattle.varisat_tracer.proofs.tracer.map_lits.Goals as goal

pub loop-literal-preserved : goal.loop-literal-preserved
loop-literal-preserved g c =
    mapped-more (global_literal c.args.variables.now) c.args.literals.now c.loop-literal.mapped.items c.push.new.self.items c.loop-literal.literal-index
    c.literal-item.result c.global_lit.result c.loop-literal-test.true c.literal-item.is c.loop-literal.invariant c.in_ok-push.ensures.items
    c.global_lit.ensures
