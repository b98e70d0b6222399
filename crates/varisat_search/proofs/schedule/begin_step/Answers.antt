use Rattle.varisat_steps.proofs.Broken.{error-broken}
use Rattle.std.proofs.Common.{refl, sym, ap, subst}
use Rattle.varisat_search.specs.declared.context.Context.{Context}
use Rattle.varisat_search.specs.Contexts.{view}
use Rattle.varisat_search.specs.Frames.{ChangesRestarted}
use Rattle.varisat_search.specs.Seen.{search_of}
use Rattle.varisat_search.specs.DueReductions.{InprocessesIfDue}
use Rattle.varisat_search.proofs.stepping.DueReductions.{admits-after}
use Rattle.varisat_search.proofs.stepping.RestartSteps.{begun-view}
use Rattle.varisat_steps.specs.Traces.{AdmitsFor}
use Rattle.varisat_steps.proofs.Traced.{holds_still}
use Rattle.varisat_search.proofs.schedule.begin_step.Given.{Over}
use Rattle.varisat_search.proofs.schedule.begin_step.Goals.{After-restart_if_wanted}
use Rattle.varisat_search.proofs.schedule.begin_step.Goals as goal

-- what the tracer may hold fits the search after the restart
begun : (g : Over) (c : After-restart_if_wanted g) → AdmitsFor (g.P.ProofTracer.holds c.args.proof.now) (search_of (view c.restart_if_wanted.new.ctx))
begun g c =
    let x = c.args.ctx.now in
    holds_still (g.P.ProofTracer.holds c.args.proof.now) 0 (search_of (view x)) (search_of (view c.restart_if_wanted.new.ctx)) c.requires.holds
    (begun-view x.schedule x.assumptions.levels (view x) (view c.restart_if_wanted.new.ctx) c.requires.ready.well c.requires.ready.settled
    c.restart_if_wanted.ensures.restarted).proves

pub inprocess_if_due-requires-clause-holds : goal.inprocess_if_due-requires-clause-holds
inprocess_if_due-requires-clause-holds g c = begun g (goal.at.inprocess_if_due-requires-clause-holds g c).After-restart_if_wanted

pub returns-clause-begins : goal.returns-clause-begins
returns-clause-begins g c =
    let x = c.args.ctx.now in
    let t = c.restart_if_wanted.new.ctx in
    let e = c.restart_if_wanted.ensures.frame in
    record {
      begun = t;
      restarts = c.restart_if_wanted.ensures.restarted;
      saves = c.restart_if_wanted.ensures.saved;
      begins = subst (λ (y : Context g.row.A.Denot). ChangesRestarted x y) (sym e) refl;
      decidable = c.restart_if_wanted.ensures.decidable;
      decay = ap (λ (y : Context g.row.A.Denot). y.vsids.decay) e;
      inprocesses = c.in_ok-inprocess_if_due.ensures.inprocesses;
      rest = c.inprocess_if_due.ensures.frame;
    }

pub returns-clause-holds : goal.returns-clause-holds
returns-clause-holds g c =
    admits-after g.P.ProofTracer.takes g.P.ProofTracer.holds g.met.P.ProofTracer.holds_after c.args.proof.now c.inprocess_if_due.new.proof
    InprocessesIfDue c.restart_if_wanted.new.ctx c.inprocess_if_due.new.ctx (begun g (goal.at.returns-clause-holds g c).After-restart_if_wanted)
    c.in_ok-inprocess_if_due.ensures.inprocesses

pub returns-in_err-inprocess_if_due-clause-broken : goal.returns-in_err-inprocess_if_due-clause-broken
returns-in_err-inprocess_if_due-clause-broken g c =
    error-broken g.P.ProofTracer.breaks_off c.args.proof.now c.inprocess_if_due.new.proof c.from_residual.result c.in_err-inprocess_if_due.field-0.0
    c.from_residual.ensures
    c.in_err-inprocess_if_due.ensures.broken
