use Rattle.varisat_steps.proofs.Broken.{lines-broken, breaks-on, breaks-in}
use Rattle.std.proofs.Common.{[], ◌∷◌}
use Rattle.varisat_theory.specs.promises.Derivations.{Add, Delete}
use Rattle.varisat_steps.proofs.Traced.{lines-more, can_take_first, can_take_rest}
use Rattle.varisat_search.proofs.trace.trace_replaced.Goals as goal

pub add_step-requires : goal.add_step-requires
add_step-requires g c =
    can_take_first (g.P.ProofTracer.holds c.args.proof.now) (Add c.args.shorter.now ∷ []) (Delete c.args.longer.now ∷ []) c.requires

pub add_step-requires-2 : goal.add_step-requires-2
add_step-requires-2 g c =
    can_take_rest g.P.ProofTracer.holds g.P.ProofTracer.takes g.met.P.ProofTracer.holds_after c.args.proof.now c.add_step.new.self
    (Add c.args.shorter.now ∷ []) (Delete c.args.longer.now ∷ []) c.requires (c.in_ok-add_step.ensures {u = tt})

pub returns : goal.returns
returns g c =
    lines-more g.P.ProofTracer.takes g.met.P.ProofTracer.takes_more c.args.proof.now c.add_step.new.self c.add_step-2.new.self
    (Add c.args.shorter.now ∷ []) (Delete c.args.longer.now ∷ []) (c.in_ok-add_step.ensures {u = tt}) (c.in_ok-add_step-2.ensures {u = tt})

pub returns-in_err-add_step : goal.returns-in_err-add_step
returns-in_err-add_step g c =
    lines-broken g.P.ProofTracer.takes g.P.ProofTracer.breaks_off c.args.proof.now c.add_step.new.self
    (Add c.args.shorter.now ∷ Delete c.args.longer.now ∷ []) c.from_residual.result c.in_err-add_step.field-0.0 c.from_residual.ensures
    (breaks-in g.P.ProofTracer.breaks_off (c.in_err-add_step.ensures {u = tt}))

pub returns-in_err-add_step-2 : goal.returns-in_err-add_step-2
returns-in_err-add_step-2 g c =
    lines-broken g.P.ProofTracer.takes g.P.ProofTracer.breaks_off c.args.proof.now c.add_step-2.new.self
    (Add c.args.shorter.now ∷ Delete c.args.longer.now ∷ []) c.from_residual-in_err-add_step-2.result c.in_err-add_step-2.field-0.0
    c.from_residual-in_err-add_step-2.ensures
    (breaks-on g.P.ProofTracer.takes g.P.ProofTracer.breaks_off g.met.P.ProofTracer.breaks_behind (c.in_ok-add_step.ensures {u = tt})
    (breaks-in g.P.ProofTracer.breaks_off (c.in_err-add_step-2.ensures {u = tt})))
