use Rattle.std.proofs.Common.{◌≡◌, ◌<◌, Bool, false, Option, List, length, map, sym, ap, ◌∙◌, subst}
use Rattle.varisat_theory.specs.promises.Membership.{◌∈◌, IsDistinct}
use Rattle.varisat_theory.specs.promises.Literals.{variable_of}
use Rattle.varisat_prop.specs.Leaving.{leaves}
use Rattle.varisat_prop.proofs.pairs.SimplifiedPairs.{∈-filter}
use Rattle.varisat_names.specs.promises.VarMap.{at}
use Rattle.varisat_search.specs.declared.context.Context.{Context}
use Rattle.varisat_search.specs.Forgotten.{search_without}
use Rattle.varisat_search.specs.Seen.{search_of}
use Rattle.varisat_search.specs.Contexts.{view}
use Rattle.varisat_tracer.specs.inside.Tracing.{tracer_state}
use Rattle.varisat_solver.specs.promises.Detaching.{leads_to_unassumed}
use Rattle.varisat_solver.specs.inside.Detached.{unassumed_among, FlagsVariables, AreDetachedAlone, DetachesFromTables}
use Rattle.varisat_solver.proofs.leaving.DetachedAlone.{dropped-logged}
use Rattle.varisat_solver.proofs.leaving.DetachedLists.{HaveLeft, have-left, values-left, on-inside, unmentioned, assumed-stay, unassumed-distinct, unassumed-taken, kept-dropped, none-left, represents-dropped}
use Rattle.varisat_solver.proofs.steps.SinceSteps.{come-dropped}
use Rattle.varisat_solver.proofs.detaching.detach_listed.Given.{Over}
use Rattle.varisat_solver.proofs.detaching.detach_listed.Goals.{In_ok-gone, In_ok-detach_fixed_vars}
use Rattle.varisat_solver.proofs.detaching.detach_listed.Goals as goal

pub flag_variables-requires : goal.flag_variables-requires
flag_variables-requires g c l h =
    let x = c.args.ctx.now in
    let m = c.args.tracer.now.tables in
    let listed = subst (λ ls. l ∈ ls) (c.deref.ensures.value ∙ c.in_ok-list_unassumed.ensures {u = tt} ∙ ap (unassumed_among m) c.trail.ensures) h in
    let inside = on-inside (view x) c.requires.valid.ready.well c.requires.settled l
    (∈-filter (λ l. leads_to_unassumed m (at m.solvers.backward (variable_of l))) x.trail.literals l listed).0 in
    subst (λ n. variable_of l < n) (ap (λ (vs : List (Option Bool)). length vs) (sym c.assignment.ensures)) inside

-- the flags are those of the variables on the trail that are not assumed
flags : (g : Over) (c : In_ok-gone g) → FlagsVariables (length c.args.ctx.now.assignment.current)
    (unassumed_among c.args.tracer.now.tables c.args.ctx.now.trail.literals) c.in_ok-gone.gone.items
flags g c =
    let m = c.args.tracer.now.tables in
    subst (λ ls. FlagsVariables (length c.args.ctx.now.assignment.current) ls c.in_ok-gone.gone.items)
    (c.deref.ensures.value ∙ c.in_ok-list_unassumed.ensures {u = tt} ∙ ap (unassumed_among m) c.trail.ensures)
    (subst (λ (vs : List (Option Bool)). FlagsVariables (length vs) c.deref.result.now c.in_ok-gone.gone.items) c.assignment.ensures (c.in_ok-gone.ensures))

pub detach_variables-requires-clause-unmentioned : goal.detach_variables-requires-clause-unmentioned
detach_variables-requires-clause-unmentioned g c d h l i =
    let x = c.args.ctx.now in
    let here = (goal.at.detach_variables-requires-clause-unmentioned g c).In_ok-gone in
    subst (λ fs. leaves fs (variable_of l) ≡ false) (sym c.deref-2.ensures.value)
    (unmentioned (view x) c.requires.valid.ready.well c.requires.settled c.args.tracer.now.tables c.in_ok-gone.gone.items (flags g here) d h l i)

pub detach_variables-requires-clause-unassumed : goal.detach_variables-requires-clause-unassumed
detach_variables-requires-clause-unassumed g c l h =
    let x = c.args.ctx.now in
    let here = (goal.at.detach_variables-requires-clause-unassumed g c).In_ok-gone in
    subst (λ fs. leaves fs (variable_of l) ≡ false) (sym c.deref-2.ensures.value)
    (assumed-stay (view x) c.requires.valid.ready.well c.requires.settled c.args.tracer.now.tables c.in_ok-gone.gone.items
    (flags g here) x.assumptions.working
    (λ k i. let (z, u, e, q, r) = c.requires.valid.working k i in (z, e, r)) l h)

pub detach_fixed_vars-requires-clause-taken : goal.detach_fixed_vars-requires-clause-taken
detach_fixed_vars-requires-clause-taken g c l h =
    let m = c.args.tracer.now.tables in
    unassumed-taken m c.args.ctx.now.trail.literals l
    (subst (λ ls. l ∈ ls) (c.deref-3.ensures.value ∙ c.in_ok-list_unassumed.ensures {u = tt} ∙ ap (unassumed_among m) c.trail.ensures) h)

pub detach_fixed_vars-requires-clause-distinct : goal.detach_fixed_vars-requires-clause-distinct
detach_fixed_vars-requires-clause-distinct g c =
    let m = c.args.tracer.now.tables in
    subst (λ ls. IsDistinct (map variable_of ls))
    (sym (c.deref-3.ensures.value ∙ c.in_ok-list_unassumed.ensures {u = tt} ∙ ap (unassumed_among m) c.trail.ensures))
    (unassumed-distinct (view c.args.ctx.now) c.requires.valid.ready.well c.requires.settled m)

-- just these were dropped from the tables
dropped : (g : Over) (c : In_ok-detach_fixed_vars g) → AreDetachedAlone (unassumed_among c.args.tracer.now.tables c.args.ctx.now.trail.literals)
    (tracer_state c.args.tracer.now) (tracer_state c.detach_fixed_vars.new.tracer)
dropped g c =
    let m = c.args.tracer.now.tables in
    subst (λ ls. AreDetachedAlone ls (tracer_state c.args.tracer.now) (tracer_state c.detach_fixed_vars.new.tracer))
    (c.deref-3.ensures.value ∙ c.in_ok-list_unassumed.ensures {u = tt} ∙ ap (unassumed_among m) c.trail.ensures)
    (c.in_ok-detach_fixed_vars.ensures {u = tt}).dropped

-- they left the tables and the search
left : (g : Over) (c : In_ok-detach_fixed_vars g) → FlagsVariables (length c.args.ctx.now.assignment.current)
    (unassumed_among c.args.tracer.now.tables c.args.ctx.now.trail.literals) c.in_ok-gone.gone.items →
    HaveLeft c.args.tracer.now.tables c.detach_fixed_vars.new.tracer.tables c.args.ctx.now c.detach_variables.new.ctx c.in_ok-gone.gone.items
    (unassumed_among c.args.tracer.now.tables c.args.ctx.now.trail.literals) (length c.args.ctx.now.assignment.current)
left g c f =
    let m = c.args.tracer.now.tables in
    let x = c.args.ctx.now in
    let e = c.detach_variables.ensures in
    have-left m c.detach_fixed_vars.new.tracer.tables x c.detach_variables.new.ctx c.deref-2.result.now c.in_ok-gone.gone.items
    (unassumed_among m x.trail.literals) (length x.assignment.current) c.deref-2.ensures.value c.prove_linked.ensures c.requires.valid f
    (subst (λ ls. DetachesFromTables ls m c.detach_fixed_vars.new.tracer.tables)
    (c.deref-3.ensures.value ∙ c.in_ok-list_unassumed.ensures {u = tt} ∙ ap (unassumed_among m) c.trail.ensures)
    (c.in_ok-detach_fixed_vars.ensures {u = tt}).rest)
    e.dropped (ap (λ (z : Context g.row.A.Denot). z.assumptions) e.frame) e.ready e.decidable

pub returns-clause-left : goal.returns-clause-left
returns-clause-left g c =
    let here = goal.at.returns-clause-left g c in
    none-left (left g here.In_ok-detach_fixed_vars (flags g here.In_ok-gone))

pub returns-clause-leave : goal.returns-clause-leave
returns-clause-leave g c =
    let here = goal.at.returns-clause-leave g c in
    let x = c.args.ctx.now in
    let y = c.detach_variables.new.ctx in
    let e = c.detach_variables.ensures in
    let gone = left g here.In_ok-detach_fixed_vars (flags g here.In_ok-gone) in
    record {
      kept = kept-dropped gone;
      within = come-dropped c.deref-2.result.now x y c.requires.valid.ready c.requires.settled e.ready e.dropped e.decidable
          (ap (λ (z : Context g.row.A.Denot). z.solver_config) e.frame);
      count = values-left gone;
      given = dropped-logged (unassumed_among c.args.tracer.now.tables x.trail.literals) (tracer_state c.args.tracer.now)
          (tracer_state c.detach_fixed_vars.new.tracer) (dropped g here.In_ok-detach_fixed_vars);
      represents = λ s fit.
          represents-dropped gone c.requires.settled (dropped g here.In_ok-detach_fixed_vars)
          (subst (λ fs. search_of (view y) ≡ search_without fs (search_of (view x))) c.deref-2.ensures.value e.seen) s fit;
    }
