use Rattle.varisat_steps.proofs.Broken.{error-broken, breaks-on, breaks-not}
use Rattle.varisat_steps.specs.declared.tracer.TraceError.TheVariants.{Memory}
use Rattle.std.proofs.Common.{◌%◌, ap}
use Rattle.varisat_search.specs.declared.context.Context.{Context}
use Rattle.varisat_search.specs.DueReductions.{ReducesLocalsIfDue, ReducesMidsIfDue, CollectsIfDue, InTurn, NoLines}
use Rattle.varisat_search.proofs.stepping.DueReductions.{silently, in-turn}
use Rattle.varisat_search.proofs.schedule.inprocess_if_due.Goals as goal

pub returns-clause-inprocesses : goal.returns-clause-inprocesses
returns-clause-inprocesses g c =
    let takes = g.P.ProofTracer.takes in
    let none = g.met.P.ProofTracer.takes_none in
    let more = g.met.P.ProofTracer.takes_more in
    let p = c.args.proof.now in
    let q = c.reduce_locals_if_due.new.proof in
    let x = c.args.ctx.now in
    let l = c.reduce_locals_if_due.new.ctx in
    let m = c.reduce_mids_if_due.new.ctx in
    let z = c.collect_garbage.new.ctx in
    let turn = λ (y : Context g.row.A.Denot). y.schedule.steps % y.solver_config.reduce_locals_interval in
    in-turn takes more p q q ReducesLocalsIfDue
    (InTurn (λ lines u v. ReducesMidsIfDue u v × NoLines lines) (λ lines u v. CollectsIfDue u v × NoLines lines)) x l z
    (ap turn c.reduce_locals_if_due.ensures.frame) c.in_ok-reduce_locals_if_due.ensures.inprocesses
    (in-turn takes more q q q (λ lines u v. ReducesMidsIfDue u v × NoLines lines) (λ lines u v. CollectsIfDue u v × NoLines lines) l m z
    (ap turn c.reduce_mids_if_due.ensures.frame)
    (silently takes none q (λ u v. ReducesMidsIfDue u v) l m c.in_ok-reduce_mids_if_due.ensures.inprocesses)
    (silently takes none q (λ u v. CollectsIfDue u v) m z c.in_ok-collect_garbage.ensures.inprocesses))

pub returns-in_err-reduce_locals_if_due-clause-broken : goal.returns-in_err-reduce_locals_if_due-clause-broken
returns-in_err-reduce_locals_if_due-clause-broken g c =
    error-broken g.P.ProofTracer.breaks_off c.args.proof.now c.reduce_locals_if_due.new.proof c.from_residual.result
    c.in_err-reduce_locals_if_due.field-0.0 c.from_residual.ensures
    c.in_err-reduce_locals_if_due.ensures.broken

pub returns-in_err-reduce_mids_if_due-clause-broken : goal.returns-in_err-reduce_mids_if_due-clause-broken
returns-in_err-reduce_mids_if_due-clause-broken g c =
    let (lines, p, (r, k, t)) = c.in_ok-reduce_locals_if_due.ensures.inprocesses.goes_on.proves in
    error-broken g.P.ProofTracer.breaks_off c.args.proof.now c.reduce_locals_if_due.new.proof c.from_residual-in_err-reduce_mids_if_due.result
    Memory c.from_residual-in_err-reduce_mids_if_due.ensures
    (breaks-on g.P.ProofTracer.takes g.P.ProofTracer.breaks_off g.met.P.ProofTracer.breaks_behind t
    (breaks-not g.P.ProofTracer.breaks_off g.met.P.ProofTracer.breaks_none c.reduce_locals_if_due.new.proof))

pub returns-in_err-collect_garbage-clause-broken : goal.returns-in_err-collect_garbage-clause-broken
returns-in_err-collect_garbage-clause-broken g c =
    let (lines, p, (r, k, t)) = c.in_ok-reduce_locals_if_due.ensures.inprocesses.goes_on.proves in
    error-broken g.P.ProofTracer.breaks_off c.args.proof.now c.reduce_locals_if_due.new.proof c.from_residual-in_err-collect_garbage.result Memory
    c.from_residual-in_err-collect_garbage.ensures
    (breaks-on g.P.ProofTracer.takes g.P.ProofTracer.breaks_off g.met.P.ProofTracer.breaks_behind t
    (breaks-not g.P.ProofTracer.breaks_off g.met.P.ProofTracer.breaks_none c.reduce_locals_if_due.new.proof))
