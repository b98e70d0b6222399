use Rattle.varisat_prop.specs.View.{pairs_with}
use Rattle.varisat_search.specs.Simplifications.{lines_of_pairs}
use Rattle.varisat_steps.proofs.Broken.{lines-broken, breaks-on, breaks-in}
use Rattle.std.proofs.Common.{cond, List, [], ◌∷◌, sym, ap, ◌∙◌, subst}
use Rattle.varisat_theory.specs.promises.Derivations.{Line, Delete}
use Rattle.varisat_steps.specs.Traces.{TakesLines, CanTake}
use Rattle.varisat_steps.proofs.TracedLists.{traces-none, traces-able, traces-next, traces-over, traces-all}
use Rattle.varisat_search.proofs.simplifying.TracedClauses.{pair_line, each-pair}
use Rattle.varisat_search.proofs.trace.trace_pairs_with.Goals as goal

pub loop-other-init : goal.loop-other-init
loop-other-init g c =
    let m = g.met.P.ProofTracer in
    traces-none g.P.ProofTracer.holds g.P.ProofTracer.takes m.takes_none m.takes_more m.holds_after
    (pair_line c.args.values.now c.args.first) c.args.others.now c.args.proof.now
    (subst (λ (ls : List Line). CanTake (g.P.ProofTracer.holds c.args.proof.now) ls) (each-pair c.args.values.now c.args.first c.args.others.now) c.requires)

pub loop-other-preserved-then-not-is_gone_pair : goal.loop-other-preserved-then-not-is_gone_pair
loop-other-preserved-then-not-is_gone_pair g c =
    let m = g.met.P.ProofTracer in
    let none = ap (λ b. cond b (Delete (c.args.first ∷ c.other-item.result ∷ []) ∷ []) []) (sym c.is_gone_pair.ensures ∙ c.if-not-is_gone_pair.true) in
    traces-over g.P.ProofTracer.holds g.P.ProofTracer.takes m.takes_none m.takes_more m.holds_after
    (pair_line c.args.values.now c.args.first) c.args.others.now c.loop-other.other-index c.args.proof.now c.loop-other.proof
    c.other-item.result c.loop-other-test.true c.other-item.is c.loop-other.invariant none

pub add_step-requires : goal.add_step-requires
add_step-requires g c =
    let m = g.met.P.ProofTracer in
    let one = ap (λ b. cond b (Delete (c.args.first ∷ c.other-item.result ∷ []) ∷ []) []) (sym c.is_gone_pair.ensures ∙ c.if-not-is_gone_pair.false) in
    subst (λ (ls : List Line). CanTake (g.P.ProofTracer.holds c.loop-other.proof) ls) one
    (traces-able g.P.ProofTracer.holds g.P.ProofTracer.takes m.takes_none m.takes_more m.holds_after
    (pair_line c.args.values.now c.args.first) c.args.others.now c.loop-other.other-index c.args.proof.now c.loop-other.proof
    c.other-item.result c.loop-other-test.true c.other-item.is c.loop-other.invariant)

pub loop-other-preserved : goal.loop-other-preserved
loop-other-preserved g c =
    let m = g.met.P.ProofTracer in
    let one = ap (λ b. cond b (Delete (c.args.first ∷ c.other-item.result ∷ []) ∷ []) []) (sym c.is_gone_pair.ensures ∙ c.if-not-is_gone_pair.false) in
    traces-next g.P.ProofTracer.holds g.P.ProofTracer.takes m.takes_none m.takes_more m.holds_after
    (pair_line c.args.values.now c.args.first) c.args.others.now c.loop-other.other-index c.args.proof.now c.loop-other.proof
    c.add_step.new.self c.other-item.result c.loop-other-test.true c.other-item.is c.loop-other.invariant
    (subst (λ (ls : List Line). TakesLines g.P.ProofTracer.takes c.loop-other.proof ls c.add_step.new.self) (sym one) (c.in_ok-add_step.ensures {u = tt}))

pub returns : goal.returns
returns g c =
    let m = g.met.P.ProofTracer in
    subst (λ (ls : List Line). TakesLines g.P.ProofTracer.takes c.args.proof.now ls c.loop-other.proof)
    (sym (each-pair c.args.values.now c.args.first c.args.others.now))
    (traces-all g.P.ProofTracer.holds g.P.ProofTracer.takes m.takes_none m.takes_more m.holds_after
    (pair_line c.args.values.now c.args.first) c.args.others.now c.loop-other.other-index c.args.proof.now c.loop-other.proof
    c.loop-other-test.false c.loop-other.invariant)

pub returns-in_err-add_step : goal.returns-in_err-add_step
returns-in_err-add_step g c =
    lines-broken g.P.ProofTracer.takes g.P.ProofTracer.breaks_off c.args.proof.now c.add_step.new.self
    (lines_of_pairs c.args.values.now (pairs_with c.args.first c.args.others.now)) c.from_residual.result c.in_err-add_step.field-0.0
    c.from_residual.ensures
    (breaks-on g.P.ProofTracer.takes g.P.ProofTracer.breaks_off g.met.P.ProofTracer.breaks_behind c.loop-other.invariant.done
    (breaks-in g.P.ProofTracer.breaks_off (c.in_err-add_step.ensures {u = tt})))
