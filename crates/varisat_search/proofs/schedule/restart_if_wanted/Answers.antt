use Rattle.std.proofs.Common.{◌≡◌, ◌≤◌, IsTrue, length, subst, ⊎_elim, inl, inr, refl, ap, ◌∙◌}
use Rattle.std.proofs.lemmas.Bool.{cases_lt}
use Rattle.varisat_schedule.specs.Plans.{IsDue, step_begun}
use Rattle.varisat_vsids.specs.Activities.{Activities}
use Rattle.varisat_search.specs.declared.context.Context.{Context}
use Rattle.varisat_search.specs.Contexts.{view}
use Rattle.varisat_search.specs.Frames.{begun_plan}
use Rattle.varisat_search.specs.Restarts.{RestartsByPolicy}
use Rattle.varisat_schedule.specs.CallSteps.{AllowsRestart}
use Rattle.varisat_schedule.proofs.CallSteps.{allowed-begun}
use Rattle.varisat_search.proofs.assuming.AssumptionContexts.{own-levels}
use Rattle.varisat_search.proofs.stepping.Frames.{cut-activities}
use Rattle.varisat_search.proofs.stepping.Backtrack.{cut-changes}
use Rattle.varisat_search.proofs.stepping.ReadyAfter.{backtracked-ready, ready-with}
use Rattle.varisat_search.proofs.schedule.restart_if_wanted.Given.{Over}
use Rattle.varisat_search.proofs.schedule.restart_if_wanted.Goals.{After-restart}
use Rattle.varisat_search.proofs.schedule.restart_if_wanted.Goals as goal

-- what the policy wanted may be done
allowed-restart : (g : Over) (c : After-restart g) → AllowsRestart (length (view c.args.ctx.now).values) c.args.ctx.now.schedule
allowed-restart g c =
    allowed-begun (length c.args.ctx.now.assignment.current) _ c.args.ctx.now.schedule c.begin_step-is_due.new.self _ c.begin_step-is_due.ensures.plan
    c.begin_step-is_due.ensures.due (c.is_restart_wanted.ensures.allowed c.if-not-is_restart_wanted.false)

-- and was due, where no other is wanted
due-restart : (g : Over) (c : After-restart g) → c.args.ctx.now.solver_config.restart_glue ≡ 0 → IsDue c.args.ctx.now.schedule
due-restart g c z = c.begin_step-is_due.ensures.due.0 (subst IsTrue (c.is_restart_wanted.ensures.each z) c.if-not-is_restart_wanted.false)

restarts : (g : Over) (c : After-restart g) →
    RestartsByPolicy c.args.ctx.now.solver_config.restart_glue c.args.ctx.now.schedule c.args.ctx.now.assumptions.levels (view c.args.ctx.now)
    (view c.restart.new.ctx)
restarts g c =
    let s = view c.args.ctx.now in
    let level = c.args.ctx.now.assumptions.levels in
    let allowed = allowed-restart g c in
    let due = due-restart g c in
    let undecided : length s.decisions ≤ level → view c.restart.new.ctx ≡ s = λ e. ap (λ (x : Context g.row.A.Denot). view x) (c.restart.ensures.same e) in
    record {
      may = record {
        stays = λ n. absurd (n allowed);
        undone = ⊎_elim (λ h. inr (h, c.restart.ensures.cut h)) (λ h. inl (undecided h)) (cases_lt level (length s.decisions));
      };
      each = λ z. record { stays = λ n. absurd (n (due z)); undecided = undecided; undone = λ d. c.restart.ensures.cut };
    }

-- the context whose levels were undone
abbrev before : (g : Over) (c : After-restart g) → Context g.row.A.Denot
before g c = record c.args.ctx.now { counters = c.count_restart.new.self; schedule = c.begin_step-is_due.new.self }

-- no assumption lost its level
assumptions-stay : (g : Over) (c : After-restart g) → c.restart.new.ctx.assumptions ≡ c.args.ctx.now.assumptions
assumptions-stay g c = own-levels c.args.ctx.now.assumptions.levels (before g c) c.restart.new.ctx c.restart.ensures.same c.restart.ensures.assumptions refl

pub returns-clause-restarted : goal.returns-clause-restarted
returns-clause-restarted g c = restarts g (goal.at.returns-clause-restarted g c).After-restart

pub returns-clause-ready : goal.returns-clause-ready
returns-clause-ready g c =
    let x = c.args.ctx.now in
    let y = before g (goal.at.returns-clause-ready g c).After-restart in
    let r = c.requires.ready in
    backtracked-ready x.assumptions.levels y c.restart.new.ctx (ready-with x y r refl refl refl r.propagated r.decidable r.assumed r.assumable)
    c.restart.ensures

pub returns-clause-saved : goal.returns-clause-saved
returns-clause-saved g c =
    let s = view c.args.ctx.now in
    let level = c.args.ctx.now.assumptions.levels in
    record {
      stays = λ e. ⊎_elim (λ h. absurd (cut-changes s (view c.restart.new.ctx) level h (c.restart.ensures.cut h) e))
          (λ h. ap (λ (x : Context g.row.A.Denot). x.assignment.last) (c.restart.ensures.same h)) (cases_lt level (length s.decisions));
      saved = λ h k. c.restart.ensures.saved h;
    }

pub returns-clause-frame : goal.returns-clause-frame
returns-clause-frame g c =
    let here = (goal.at.returns-clause-frame g c).After-restart in
    c.restart.ensures.kept
    ∙ ap (λ a. record c.args.ctx.now {
      assignment = c.restart.new.ctx.assignment;
      assumptions = a;
      counters = c.restart.new.ctx.counters;
      trail = c.restart.new.ctx.trail;
      vsids = c.restart.new.ctx.vsids;
      schedule =
          c.begin_step-is_due.new.self;
    }) (assumptions-stay g here)
    ∙ ap (λ p. record c.args.ctx.now {
      assignment = c.restart.new.ctx.assignment;
      counters = c.restart.new.ctx.counters;
      trail = c.restart.new.ctx.trail;
      vsids = c.restart.new.ctx.vsids;
      schedule = p;
    })
    (c.begin_step-is_due.ensures.plan ∙ ap (λ n. step_begun n c.args.ctx.now.schedule) c.luby_restart_interval_scale-scale.ensures.value)
    ∙ ap (λ (v : Activities). record c.args.ctx.now {
      assignment = c.restart.new.ctx.assignment;
      counters = c.restart.new.ctx.counters;
      trail = c.restart.new.ctx.trail;
      vsids = v;
      schedule = begun_plan c.args.ctx.now;
    })
    (cut-activities (before g here) c.restart.new.ctx c.args.ctx.now.assumptions.levels c.restart.ensures.same c.restart.ensures.available)
