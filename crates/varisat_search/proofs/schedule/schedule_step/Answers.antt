use Rattle.std.proofs.Common.{◌≡◌, if◌then◌else◌, nat_eq, ℕ, suc, ◌+◌, ◌*◌, ◌<◌, ◌≤◌, Bool, true, false, List, [], ◌++◌, length, subst, ◌∙◌, ap, refl}
use Rattle.varisat_theory.specs.inside.Rank.{rank}
use Rattle.varisat_theory.specs.promises.Derivations.{Line}
use Rattle.varisat_theory.specs.inside.Outcomes.{SearchOutcome, Steps, Proves}
use Rattle.varisat_theory.proofs.steps.StepAccounts.{part_step}
use Rattle.varisat_prop.specs.View.{View, WellFormed, kinds}
use Rattle.varisat_schedule.specs.CallSteps.{IsPlannedStep}
use Rattle.varisat_search.specs.declared.context.Context.{Context}
use Rattle.varisat_search.specs.AssumptionParts.{AssumptionParts, KeepsAssumptions}
use Rattle.varisat_search.specs.Contexts.{view, IsReady}
use Rattle.varisat_search.specs.Decisions.{SameDecidable}
use Rattle.varisat_search.specs.DueReductions.{InprocessesIfDue, GoesBySchedule}
use Rattle.varisat_search.specs.Restarts.{RestartsByPolicy, SavesUndone, RestartsAndRemembers}
use Rattle.varisat_search.specs.Seen.{search_of}
use Rattle.varisat_search.specs.Steps.{Remembers}
use Rattle.varisat_search.proofs.assuming.AssumptionSteps.{keeps-after-part}
use Rattle.varisat_search.proofs.variables.DecidableVariables.{same-trans}
use Rattle.varisat_search.proofs.simplifying.RootSimplified.{remembers-settled}
use Rattle.varisat_search.proofs.stepping.DueReductions.{as-inprocessed}
use Rattle.varisat_search.proofs.stepping.StepRanks.{rises-longer}
use Rattle.varisat_search.proofs.stepping.RestartSteps.{begun-view, begun-steps, begun-rises}
use Rattle.varisat_steps.proofs.Broken.{breaks-on}
use Rattle.varisat_search.proofs.stepping.StepErrors.{trace-broken, step-passed}
use Rattle.varisat_schedule.specs.Plans.{Plan, step_begun}
use Rattle.varisat_theory.specs.inside.Luby.{luby, saturated}
use Rattle.varisat_search.specs.Progress.{outcome_at}
use Rattle.varisat_search.specs.RootSimplified.{GoesOnByLines, SimplifiesThenSteps, SimplifiesRootFirst, LearnsAlone}
use Rattle.varisat_search.proofs.stepping.MadeSteps.{made-with}
use Rattle.varisat_steps.specs.Traces.{TakesLines, TakesStep}
use Rattle.varisat_steps.proofs.Traced.{step-more}
use Rattle.varisat_search.proofs.schedule.schedule_step.Goals as goal

-- A step that begins with a restart and goes on with inprocessing: x is before it, t after the restart, u after inprocessing.
module _ {A : Type 0} (x t u : Context A) (r : IsReady x) (b : RestartsByPolicy x.solver_config.restart_glue x.schedule x.assumptions.levels (view x) (view t))
    {P : List Line → Type 0} (k : GoesOnByLines P t u) where
  scheduled-steps : (z : View) (v : SearchOutcome) (Q R : List Line → Type 0) → ((first more : List Line) → P first → Q more → R (first ++ more)) →
      ((more : List Line) × Steps (search_of (view u)) (search_of z) v more × Q more) → (lines : List Line)
      × Steps (search_of (view x)) (search_of z) v lines × R lines
  scheduled-steps z v Q R join (more, h, j) =
      let (first, p, i) = k.proves in (
        first ++ more,
        begun-steps x.schedule x.assumptions.levels (view x) (view t) r.well r.settled b z v (first ++ more)
            (part_step (search_of (view t)) (search_of (view u)) (search_of z) v first more p h),
        join first more i j,
      )

  scheduled-rises : (z : View) → WellFormed z → length z.values ≡ length (view u).values →
      ((n : ℕ) → length (view u).trail ≤ n → rank n (kinds (view u)) < rank n (kinds z)) → IsPlannedStep (length (view x).values) x.schedule (kinds (view x)) (kinds z)
  scheduled-rises z w count rises =
      let (more, e) = k.kinds_more in
      let begun = begun-view x.schedule x.assumptions.levels (view x) (view t) r.well r.settled b in
      begun-rises x.schedule x.assumptions.levels (view x) (view t) r.well r.settled b z
      (rises-longer (view t) (view u) z more begun.well k.ready.well w e k.extends.count count rises)

  scheduled-decidable : (z : Context A) → SameDecidable (view x) x.vsids (view t) t.vsids → SameDecidable (view u) u.vsids (view z) z.vsids →
      SameDecidable (view x) x.vsids (view z) z.vsids
  scheduled-decidable z first last = same-trans (view x) x.vsids (view t) t.vsids (view z) z.vsids first
      (same-trans (view t) t.vsids (view u) u.vsids (view z) z.vsids k.decidable last)

  scheduled-last : (new : List Bool) → SavesUndone x.assumptions.levels (view x) (view t) x.assignment.last t.assignment.last →
      Remembers (view u) u.assignment.last new → RestartsAndRemembers x.solver_config.restart_glue x.schedule x.assumptions.levels (view x) x.assignment.last new
  scheduled-last new saved remembers = (view t, t.assignment.last, b, saved, remembers-settled t u P k new remembers)

  scheduled-assumes : (v : SearchOutcome) (a : AssumptionParts) → u.assumptions ≡ x.assumptions →
      KeepsAssumptions (search_of (view u)) v u.assumptions a → KeepsAssumptions (search_of (view x)) v x.assumptions a
  scheduled-assumes v a same h =
      let (lines, q, i) = k.proves in
      let p = (begun-view x.schedule x.assumptions.levels (view x) (view t) r.well r.settled b).proves in
      keeps-after-part 0 (search_of (view x)) (search_of (view t)) [] v x.assumptions a p
      (keeps-after-part 0 (search_of (view t)) (search_of (view u)) lines v x.assumptions a q
      (subst (λ c. KeepsAssumptions (search_of (view u)) v c a) same h))

-- what its lines lead to is a part of how they are
proved-too : {A : Type 0} (x y : Context A) (P : List Line → Type 0) → GoesOnByLines P x y →
    GoesOnByLines (λ lines. Proves 0 (search_of (view x)) (search_of (view y)) lines × P lines) x y
proved-too x y P a = record {
  ready = a.ready;
  proves = let (lines, p, i) = a.proves in (lines, p, (p, i));
  extends = a.extends;
  kinds_more = a.kinds_more;
  decidable = a.decidable;
  last = a.last;
}

-- the schedule's count is no part of how the root level was simplified
counted : {A : Type 0} {lines : List Line} {x z : Context A} {plan : Plan} → SimplifiesThenSteps lines x z →
    SimplifiesThenSteps lines x (record z { schedule = plan })
counted d = record { settled = d.settled; end = d.end; first = d.first; rest = d.rest; parts = d.parts; simplifies_root = d.simplifies_root; steps = d.steps }

pub returns-clause-made : goal.returns-clause-made
returns-clause-made g c =
    let takes = g.P.ProofTracer.takes in
    let b = c.in_ok-begin_step.ensures.begins in
    let x = c.args.ctx.now in
    let t = b.begun in
    let u = c.begin_step.new.ctx in
    let z = c.conflict_step.new.ctx in
    let p0 = c.args.proof.now in
    let p1 = c.begin_step.new.proof in
    let p2 = c.conflict_step.new.proof in
    let v = outcome_at z in
    let made = c.in_ok-conflict_step.ensures.made in
    let m = made-with u z (λ lines. SimplifiesRootFirst lines u z × LearnsAlone lines u z × TakesStep takes p1 lines v p2) made in
    let k = made.goes.keeps in
    let begun = begun-view x.schedule x.assumptions.levels (view x) (view t) c.requires.ready.well c.requires.ready.settled b.restarts in
    record {
      steps = scheduled-steps x t u c.requires.ready b.restarts
          (proved-too t u (as-inprocessed InprocessesIfDue (λ lines. TakesLines takes p0 lines p1) t u) b.inprocesses.goes_on)
          (view z) v
          (λ lines. Steps (search_of (view u)) (search_of (view z)) v lines × (SimplifiesRootFirst lines u z × LearnsAlone lines u z × TakesStep takes p1 lines v p2))
          (λ lines. GoesBySchedule lines x (record z { schedule = c.end_step.new.self }) × TakesStep takes p0 lines v p2)
          (λ first more (d, (r, parts, i)) (p, (s, a, j)). (
            record {
              begun = t;
              inprocessed = u;
              restarts = b.restarts;
              begins = b.begins;
              first = first;
              rest = more;
              parts = refl;
              inprocesses = r;
              proves = d;
              simplifies_root = λ h. counted (s h);
              steps = (more, p, refl);
            },
            step-more takes g.met.P.ProofTracer.takes_more p0 p1 p2 first more v i j,
          ))
          m.goes.steps;
      rises = λ e. scheduled-rises x t u c.requires.ready b.restarts b.inprocesses.goes_on (view z) made.goes.ready.well k.count (made.goes.rises e);
      keeps = record {
        decidable = scheduled-decidable x t u c.requires.ready b.restarts b.inprocesses.goes_on z b.decidable k.decidable;
        decay = k.decay ∙ ap (λ (y : Context g.row.A.Denot). y.vsids.decay) b.rest ∙ b.decay;
        count = k.count ∙ b.inprocesses.goes_on.extends.count ∙ begun.count;
      };
      assumes = scheduled-assumes x t u c.requires.ready b.restarts b.inprocesses.goes_on v z.assumptions
          (ap (λ (y : Context g.row.A.Denot). y.assumptions) c.begin_step.ensures.frame) made.assumes;
      last = scheduled-last x t u c.requires.ready b.restarts b.inprocesses.goes_on z.assignment.last b.saves made.last;
    }

-- no step is counted as it begins
begun-uncounted : (scale : ℕ) (p : Plan) → (step_begun scale p).steps ≡ p.steps
begun-uncounted scale p = go (nat_eq p.steps p.next_restart)
    (record { steps = p.steps; next_restart = saturated (p.next_restart + saturated (scale * luby p.next_term)); next_term = suc p.next_term }) refl
  where
    go : (b : Bool) (q : Plan) → q.steps ≡ p.steps → (if b then q else p).steps ≡ p.steps
    go true q e = e
    go false q e = refl

pub returns-clause-counts : goal.returns-clause-counts
returns-clause-counts g c =
    let x = c.args.ctx.now in
    let k = c.conflict_step.ensures.ends.schedule in
    let scale = x.solver_config.luby_restart_interval_scale in
    let same = k.schedule ∙ ap (λ (y : Context g.row.A.Denot). y.schedule) c.begin_step.ensures.frame in
    record {
      plan = c.end_step.ensures ∙ ap (λ (p : Plan). record p { steps = suc p.steps }) same
          ∙ ap (λ n. record (step_begun scale x.schedule) { steps = suc n }) (begun-uncounted scale x.schedule);
      solver_config = k.solver_config ∙ ap (λ (y : Context g.row.A.Denot). y.solver_config) c.begin_step.ensures.frame;
    }

pub returns-clause-core : goal.returns-clause-core
returns-clause-core g c = c.in_ok-conflict_step.ensures.core

pub returns-in_err-begin_step-clause-broken : goal.returns-in_err-begin_step-clause-broken
returns-in_err-begin_step-clause-broken g c =
    trace-broken g.P.ProofTracer.breaks_off c.args.proof.now c.begin_step.new.proof c.from_residual.result c.in_err-begin_step.field-0.0 c.from_residual.ensures
    c.in_err-begin_step.ensures.broken

pub returns-in_err-conflict_step-clause-broken : goal.returns-in_err-conflict_step-clause-broken
returns-in_err-conflict_step-clause-broken g c =
    let (lines, p, (r, parts, t)) = c.in_ok-begin_step.ensures.begins.inprocesses.goes_on.proves in
    step-passed g.P.ProofTracer.breaks_off c.args.proof.now c.conflict_step.new.proof c.from_residual-in_err-conflict_step.result
    c.in_err-conflict_step.field-0.0 c.from_residual-in_err-conflict_step.ensures
    (breaks-on g.P.ProofTracer.takes g.P.ProofTracer.breaks_off g.met.P.ProofTracer.breaks_behind t c.in_err-conflict_step.ensures.broken)
