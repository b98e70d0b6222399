use Rattle.std.proofs.Common.{◌≡◌, ◌<◌, Bool, false, Option, List, length, map, sym, ap, ◌∙◌, subst}
use Rattle.varisat_theory.specs.promises.Membership.{◌∈◌, IsDistinct}
use Rattle.varisat_theory.specs.promises.Literals.{variable_of}
use Rattle.varisat_prop.specs.Leaving.{leaves}
use Rattle.varisat_search.specs.declared.context.Context.{Context}
use Rattle.varisat_search.specs.Forgotten.{search_without}
use Rattle.varisat_search.specs.Seen.{search_of}
use Rattle.varisat_search.specs.Contexts.{view}
use Rattle.varisat_tracer.specs.inside.Tracing.{tracer_state}
use Rattle.varisat_solver.specs.inside.Detached.{FlagsVariables, ListsUnneeded, AreDetached, DetachesFromTables}
use Rattle.varisat_solver.proofs.leaving.DetachedLists.{HaveLeft, have-left, values-left, needed-shown, none-leaves, released-logged, unneeded-inside, unneeded-taken, unneeded-unmentioned, named-stay, kept-released, needed-left, represents-released}
use Rattle.varisat_solver.proofs.steps.SinceSteps.{come-dropped}
use Rattle.varisat_solver.proofs.detaching.detach_unneeded.Given.{Over}
use Rattle.varisat_solver.proofs.detaching.detach_unneeded.Goals.{In_ok-gone, In_ok-list_unneeded, In_ok-detach_unfixed_vars}
use Rattle.varisat_solver.proofs.detaching.detach_unneeded.Goals as goal

pub has_hidden-requires : goal.has_hidden-requires
has_hidden-requires g c = c.requires.valid.bounded

pub returns-then-not-has_hidden-clause-leave : goal.returns-then-not-has_hidden-clause-leave
returns-then-not-has_hidden-clause-leave g c = none-leaves (tracer_state c.args.tracer.now) c.args.ctx.now c.requires.valid

pub returns-then-not-has_hidden-clause-left : goal.returns-then-not-has_hidden-clause-left
returns-then-not-has_hidden-clause-left g c =
    needed-shown c.args.tracer.now.tables (view c.args.ctx.now) c.requires.left (c.has_hidden.ensures c.if-not-has_hidden.true)

-- the literals are of just the hidden variables that no kept clause names
listed : (g : Over) (c : In_ok-list_unneeded g) → ListsUnneeded c.args.tracer.now.tables c.in_ok-mentioned.mentioned.items c.list_unneeded.new.unneeded.items
listed g c = subst (λ fs. ListsUnneeded c.args.tracer.now.tables fs c.list_unneeded.new.unneeded.items) c.deref.ensures.value
    (c.in_ok-list_unneeded.ensures {u = tt})

-- and these are flagged
flags : (g : Over) (c : In_ok-gone g) → FlagsVariables (length c.in_ok-mentioned.mentioned.items) c.list_unneeded.new.unneeded.items c.in_ok-gone.gone.items
flags g c = subst (λ n. FlagsVariables n c.list_unneeded.new.unneeded.items c.in_ok-gone.gone.items) (sym c.in_ok-mentioned.ensures.count)
    (subst (λ ls. FlagsVariables (length c.args.ctx.now.assignment.current) ls c.in_ok-gone.gone.items) c.deref-2.ensures.value
    (subst (λ (vs : List (Option Bool)). FlagsVariables (length vs) c.deref-2.result.now c.in_ok-gone.gone.items) c.assignment.ensures
    (c.in_ok-gone.ensures {u = tt})))

pub flag_variables-requires : goal.flag_variables-requires
flag_variables-requires g c l h =
    let here = (goal.at.flag_variables-requires g c).In_ok-list_unneeded in
    let inside = unneeded-inside c.args.tracer.now.tables c.in_ok-mentioned.mentioned.items c.list_unneeded.new.unneeded.items (listed g here) l
    (subst (λ xs. l ∈ xs) c.deref-2.ensures.value h) in
    subst (λ n. variable_of l < n) (c.in_ok-mentioned.ensures.count ∙ ap (λ (vs : List (Option Bool)). length vs) (sym c.assignment.ensures)) inside

pub detach_variables-requires-clause-unmentioned : goal.detach_variables-requires-clause-unmentioned
detach_variables-requires-clause-unmentioned g c d h l i =
    let here = (goal.at.detach_variables-requires-clause-unmentioned g c).In_ok-gone in
    let before = (goal.at.detach_variables-requires-clause-unmentioned g c).In_ok-list_unneeded in
    subst (λ fs. leaves fs (variable_of l) ≡ false) (sym c.deref-3.ensures.value)
    (unneeded-unmentioned c.args.tracer.now.tables c.in_ok-mentioned.mentioned.items c.list_unneeded.new.unneeded.items (listed g before)
    (view c.args.ctx.now) c.in_ok-gone.gone.items c.in_ok-mentioned.ensures (flags g here) d h l i)

pub detach_variables-requires-clause-unassumed : goal.detach_variables-requires-clause-unassumed
detach_variables-requires-clause-unassumed g c l h =
    let here = (goal.at.detach_variables-requires-clause-unassumed g c).In_ok-gone in
    let before = (goal.at.detach_variables-requires-clause-unassumed g c).In_ok-list_unneeded in
    subst (λ fs. leaves fs (variable_of l) ≡ false) (sym c.deref-3.ensures.value)
    (named-stay c.args.tracer.now.tables c.in_ok-mentioned.mentioned.items c.list_unneeded.new.unneeded.items (listed g before)
    (view c.args.ctx.now) c.in_ok-gone.gone.items c.in_ok-mentioned.ensures (flags g here) c.args.ctx.now.assumptions.working c.requires.valid.working l h)

pub detach_unfixed_vars-requires-clause-taken : goal.detach_unfixed_vars-requires-clause-taken
detach_unfixed_vars-requires-clause-taken g c l h =
    let before = (goal.at.detach_unfixed_vars-requires-clause-taken g c).In_ok-list_unneeded in
    unneeded-taken c.args.tracer.now.tables c.in_ok-mentioned.mentioned.items c.list_unneeded.new.unneeded.items (listed g before) l
    (subst (λ xs. l ∈ xs) c.deref-4.ensures.value h)

pub detach_unfixed_vars-requires-clause-distinct : goal.detach_unfixed_vars-requires-clause-distinct
detach_unfixed_vars-requires-clause-distinct g c =
    let before = (goal.at.detach_unfixed_vars-requires-clause-distinct g c).In_ok-list_unneeded in
    subst (λ xs. IsDistinct (map variable_of xs)) (sym c.deref-4.ensures.value) (listed g before).distinct

-- they left the tables and the search
left : (g : Over) (c : In_ok-detach_unfixed_vars g) → FlagsVariables
    (length c.in_ok-mentioned.mentioned.items) c.list_unneeded.new.unneeded.items c.in_ok-gone.gone.items →
    HaveLeft c.args.tracer.now.tables c.detach_unfixed_vars.new.tracer.tables c.args.ctx.now c.detach_variables.new.ctx
    c.in_ok-gone.gone.items c.list_unneeded.new.unneeded.items (length c.in_ok-mentioned.mentioned.items)
left g c f =
    let x = c.args.ctx.now in
    let e = c.detach_variables.ensures in
    have-left c.args.tracer.now.tables c.detach_unfixed_vars.new.tracer.tables x c.detach_variables.new.ctx c.deref-3.result.now
    c.in_ok-gone.gone.items c.list_unneeded.new.unneeded.items (length c.in_ok-mentioned.mentioned.items) c.deref-3.ensures.value
    c.prove_linked.ensures c.requires.valid f
    (subst (λ xs. DetachesFromTables xs c.args.tracer.now.tables c.detach_unfixed_vars.new.tracer.tables) c.deref-4.ensures.value
    (c.in_ok-detach_unfixed_vars.ensures {u = tt}).rest)
    e.dropped (ap (λ (z : Context g.row.A.Denot). z.assumptions) e.frame) e.ready e.decidable

pub returns-clause-left : goal.returns-clause-left
returns-clause-left g c =
    let here = goal.at.returns-clause-left g c in
    needed-left c.requires.left c.in_ok-mentioned.ensures (listed g here.In_ok-list_unneeded) (left g here.In_ok-detach_unfixed_vars (flags g here.In_ok-gone))

pub returns-clause-leave : goal.returns-clause-leave
returns-clause-leave g c =
    let here = goal.at.returns-clause-leave g c in
    let x = c.args.ctx.now in
    let y = c.detach_variables.new.ctx in
    let e = c.detach_variables.ensures in
    let list = listed g here.In_ok-list_unneeded in
    let gone = left g here.In_ok-detach_unfixed_vars (flags g here.In_ok-gone) in
    let p = tracer_state c.args.tracer.now in
    let q = tracer_state c.detach_unfixed_vars.new.tracer in
    let released = subst (λ xs. AreDetached xs p q) c.deref-4.ensures.value (c.in_ok-detach_unfixed_vars.ensures {u = tt}).released in
    record {
      kept = kept-released c.requires.left c.in_ok-mentioned.ensures list gone;
      within = come-dropped c.deref-3.result.now x y c.requires.valid.ready c.requires.settled e.ready e.dropped e.decidable
          (ap (λ (z : Context g.row.A.Denot). z.solver_config) e.frame);
      count = values-left gone;
      given = released-logged c.list_unneeded.new.unneeded.items p q released;
      represents = λ s fit.
          represents-released c.requires.left c.in_ok-mentioned.ensures list gone
          released
          (subst (λ fs. search_of (view y) ≡ search_without fs (search_of (view x))) c.deref-3.ensures.value e.seen) s fit;
    }
