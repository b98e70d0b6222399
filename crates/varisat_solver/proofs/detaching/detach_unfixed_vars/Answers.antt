use Rattle.std.proofs.Common.{◌≡◌, sym, ap, ◌∙◌, subst, take, map, refl}
use Rattle.varisat_theory.specs.promises.Membership.{IsDistinct}
use Rattle.varisat_theory.specs.promises.Literals.{variable_of}
use Rattle.varisat_names.specs.promises.VarMap.{at}
use Rattle.varisat_tracer.specs.inside.Tracing.{tracer_state, open_parts}
use Rattle.varisat_prop.proofs.views.ReadElements.{item-∈}
use Rattle.varisat_solver.specs.inside.Detached.{LosesSolverVar, AreDetached, DetachesFromTables}
use Rattle.varisat_solver.proofs.calls.ReadPlaces.{take-item, split-item}
use Rattle.varisat_solver.proofs.leaving.DetachedAlone.{leaves-none, leaves-dropped, leaves-then, taken-live, distinct-after}
use Rattle.varisat_solver.proofs.leaving.DetachedLists.{released-push}
use Rattle.varisat_solver.proofs.detaching.detach_unfixed_vars.Goals as goal
use Rattle.varisat_search.proofs.variables.SolverVariables.{some-is, is-there}

pub loop-lit-init : goal.loop-lit-init
loop-lit-init g c = (refl, leaves-none c.args.tracer.now.tables, refl)

-- the solver variable was not dropped yet
pub detach_solver_var-requires : goal.detach_solver_var-requires
detach_solver_var-requires g c =
    let ls = c.args.lits.now in
    let i = c.loop-lit.lit-index in
    let l = c.lit-item.result in
    let (x, e) = is-there (at c.args.tracer.now.tables.solvers.backward (variable_of l))
    (c.requires.taken l (item-∈ ls i l c.loop-lit-test.true c.lit-item.is)) in
    let (rest, s) = split-item ls i l c.loop-lit-test.true c.lit-item.is in
    let q = c.loop-lit.invariant.1.stays (variable_of l)
    (λ m h o. distinct-after (take i ls) l rest (subst (λ ks. IsDistinct (map variable_of ks)) s c.requires.distinct) m h o) in
    some-is (at c.loop-lit.tracer.tables.solvers.backward c.var.result) x (ap (at c.loop-lit.tracer.tables.solvers.backward) c.var.ensures ∙ q ∙ e)

pub loop-lit-preserved : goal.loop-lit-preserved
loop-lit-preserved g c =
    let l = c.lit-item.result in
    let d = take c.loop-lit.lit-index c.args.lits.now in
    let first = tracer_state c.args.tracer.now in
    let before = tracer_state c.loop-lit.tracer in
    let last = tracer_state c.detach_solver_var.new.tracer in
    let (x, loses) = c.in_ok-detach_solver_var.ensures.dropped in
    let one : LosesSolverVar x (variable_of l) before last = subst (λ v. LosesSolverVar x v before last) c.var.ensures loses in
    let (a, b, same) = c.loop-lit.invariant in
    subst (λ ks. AreDetached ks first last × DetachesFromTables ks first.tables last.tables × (open_parts last.proof ≡ open_parts first.proof))
    (sym (take-item c.args.lits.now c.loop-lit.lit-index l c.loop-lit-test.true c.lit-item.is)) (
      released-push d l first before last a (x, one),
      leaves-then d l first.tables before.tables last.tables b
          (leaves-dropped l before.tables last.tables x (taken-live before.tables (variable_of l) x c.prove_linked.ensures one.dropped.taken) one.dropped),
      c.detach_solver_var.ensures.opened ∙ same,
    )
