use Rattle.varisat_steps.proofs.Broken.{error-broken}
use Rattle.std.proofs.Common.{refl, arith}
use Rattle.varisat_steps.proofs.Traced.{can_take}
use Rattle.varisat_search.specs.Contexts.{view}
use Rattle.varisat_search.specs.Seen.{search_of}
use Rattle.varisat_search.specs.Simplifications.{pair_lines}
use Rattle.varisat_search.proofs.simplifying.SimplifiedBinary.{SimplifiesBinary, binary-ready, binary-proves}
use Rattle.varisat_search.proofs.simplifying.SimplifiedContext.{at-units}
use Rattle.varisat_search.proofs.simplifying.SimplifiedSearch.{pairs-prove}
use Rattle.varisat_search.proofs.unit_simplify.simplify_binary.Given.{Over}
use Rattle.varisat_search.proofs.unit_simplify.simplify_binary.Goals.{After-simplify}
use Rattle.varisat_search.proofs.unit_simplify.simplify_binary.Goals as goal

pub trace_pairs-requires : goal.trace_pairs-requires
trace_pairs-requires g c =
    let x = c.args.ctx.now in
    let s = view x in
    let n = c.requires.can.ready.propagated.binary in
    let m = c.requires.can.ready.well.small in
    record {
      small = omega (arith, n, m);
      able = can_take (g.P.ProofTracer.holds c.args.proof.now) 0 (search_of s) _ (pair_lines s) c.requires.holds (pairs-prove s (at-units x c.requires.can));
    }

pub simplify-requires : goal.simplify-requires
simplify-requires g c =
    let n = c.requires.can.ready.propagated.binary in
    let m = c.requires.can.ready.well.small in
    omega (arith, n, m)

simplifies : (g : Over) (c : After-simplify g) → SimplifiesBinary c.args.ctx.now (record c.args.ctx.now { binary_clauses = c.simplify.new.self })
simplifies g c = record { can = c.requires.can; binary = c.simplify.ensures; rest = refl }

pub returns-clause-proves : goal.returns-clause-proves
returns-clause-proves g c =
    binary-proves (simplifies g (goal.at.returns-clause-proves g c).After-simplify) (at-units c.args.ctx.now c.requires.can)

pub returns-clause-ready : goal.returns-clause-ready
returns-clause-ready g c = binary-ready (simplifies g (goal.at.returns-clause-ready g c).After-simplify)

pub returns-in_err-trace_pairs-clause-broken : goal.returns-in_err-trace_pairs-clause-broken
returns-in_err-trace_pairs-clause-broken g c =
    error-broken g.P.ProofTracer.breaks_off c.args.proof.now c.trace_pairs.new.proof c.from_residual.result c.in_err-trace_pairs.field-0.0
    c.from_residual.ensures
    (c.in_err-trace_pairs.ensures {u = tt})
