use Rattle.varisat_steps.proofs.Broken.{error-broken}
use Rattle.std.proofs.Common.{List, ap, refl}
use Rattle.varisat_theory.specs.promises.Derivations.{Line}
use Rattle.varisat_search.specs.declared.context.Context.{Context}
use Rattle.varisat_steps.specs.Traces.{TakesLines}
use Rattle.varisat_search.specs.DueReductions.{ReducesLocalsIfDue}
use Rattle.varisat_search.proofs.stepping.DueReductions.{as-inprocessed, kept-inprocesses, inprocesses-silently, keeps-are, keeps-refl}
use Rattle.varisat_search.proofs.schedule.reduce_locals_if_due.Goals as goal

pub returns-in_ok-reduce_locals-clause-inprocesses : goal.returns-in_ok-reduce_locals-clause-inprocesses
returns-in_ok-reduce_locals-clause-inprocesses g c =
    let x = c.args.ctx.now in
    let y = c.reduce_locals.new.ctx in
    let taken : List Line → Type 0 = λ lines. TakesLines g.P.ProofTracer.takes c.args.proof.now lines c.reduce_locals.new.proof in
    kept-inprocesses ReducesLocalsIfDue taken x y (ap (λ (z : Context g.row.A.Denot). z.assignment.last) c.reduce_locals.ensures.frame)
    (keeps-are (as-inprocessed ReducesLocalsIfDue taken x y)
    (λ lines p (d, t). (record { drops = λ due. d; stays = λ other. absurd (other cc) }, (λ other. absurd (other cc)), t))
    c.in_ok-reduce_locals.ensures.keeps)

pub returns-else-steps-reduce_locals_interval-eq0-clause-inprocesses : goal.returns-else-steps-reduce_locals_interval-eq0-clause-inprocesses
returns-else-steps-reduce_locals_interval-eq0-clause-inprocesses g c =
    let x = c.args.ctx.now in
    inprocesses-silently ReducesLocalsIfDue (λ lines. TakesLines g.P.ProofTracer.takes c.args.proof.now lines c.args.proof.now) x x
    (record { drops = λ due. absurd (c.if-steps-reduce_locals_interval-eq0.false cc); stays = λ other. (refl, refl) })
    (g.met.P.ProofTracer.takes_none c.args.proof.now) refl (keeps-refl x c.requires.ready)

pub returns-in_err-reduce_locals-clause-broken : goal.returns-in_err-reduce_locals-clause-broken
returns-in_err-reduce_locals-clause-broken g c =
    error-broken g.P.ProofTracer.breaks_off c.args.proof.now c.reduce_locals.new.proof c.from_residual.result c.in_err-reduce_locals.field-0.0
    c.from_residual.ensures
    c.in_err-reduce_locals.ensures.broken
