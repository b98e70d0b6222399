use Rattle.std.proofs.Common.{◌≡◌, true, Some, sym, ap, ◌∙◌, subst, take, map, refl}
use Rattle.varisat_theory.specs.promises.Membership.{IsDistinct}
use Rattle.varisat_theory.specs.promises.Literals.{variable_of}
use Rattle.varisat_names.specs.promises.VarMap.{at}
use Rattle.varisat_names.specs.promises.Variables.{Tables, IsChangedTo}
use Rattle.varisat_names.specs.promises.VarBiMap.{BiMap}
use Rattle.varisat_names.specs.promises.VarData.{data_at}
use Rattle.varisat_names.specs.declared.variables.data.VarData.{VarData}
use Rattle.varisat_names.proofs.Maps.{updated-at}
use Rattle.varisat_literals.specs.promises.Numbers.{polarity_of}
use Rattle.varisat_prop.proofs.views.ReadElements.{item-∈}
use Rattle.varisat_tracer.specs.inside.Tracing.{tracer_state, open_parts}
use Rattle.varisat_solver.specs.inside.Detached.{fixed_to, LosesSolverVar, IsDetachedAlone, AreDetachedAlone, DetachesFromTables}
use Rattle.varisat_solver.proofs.calls.ReadPlaces.{take-item, split-item}
use Rattle.varisat_solver.proofs.leaving.DetachedAlone.{sign-same, changed-twice, leaves-none, leaves-one, leaves-then, dropped-push, distinct-after}
use Rattle.varisat_solver.proofs.detaching.detach_fixed_vars.Goals as goal
use Rattle.varisat_search.proofs.variables.SolverVariables.{some-is, is-there}

pub loop-lit-init : goal.loop-lit-init
loop-lit-init g c = (refl, leaves-none c.args.tracer.now.tables, refl)

-- the solver variable was not dropped yet
pub unwrap-global-requires : goal.unwrap-global-requires
unwrap-global-requires g c =
    let ls = c.args.lits.now in
    let i = c.loop-lit.lit-index in
    let l = c.lit-item.result in
    let there = item-∈ ls i l c.loop-lit-test.true c.lit-item.is in
    let (x, e) = is-there (at c.args.tracer.now.tables.solvers.backward (variable_of l)) (c.requires.taken l there) in
    let (rest, s) = split-item ls i l c.loop-lit-test.true c.lit-item.is in
    let q = c.loop-lit.invariant.1.stays (variable_of l)
    (λ m h o. distinct-after (take i ls) l rest (subst (λ ks. IsDistinct (map variable_of ks)) s c.requires.distinct) m h o) in
    some-is c.get.result x (c.get.ensures ∙ ap (λ m. at m c.var-solver.result) c.global_from_solver.ensures
    ∙ ap (at c.loop-lit.tracer.tables.solvers.backward) c.var-solver.ensures ∙ q ∙ e)

pub set_unit-requires : goal.set_unit-requires
set_unit-requires g c =
    let t = c.loop-lit.tracer.tables in
    let e : at t.solvers.backward c.var-solver.result ≡ Some c.unwrap-global.result =
    ap (λ m. at m c.var-solver.result) (sym c.global_from_solver.ensures) ∙ sym c.get.ensures ∙ c.unwrap-global.ensures in
    c.prove_linked.ensures.taken c.unwrap-global.result c.var-solver.result (c.prove_linked.ensures.solvers.back c.unwrap-global.result c.var-solver.result e)

pub set_isolated-requires : goal.set_isolated-requires
set_isolated-requires g c =
    let t = c.loop-lit.tracer.tables in
    let x = c.unwrap-global.result in
    let e : at t.solvers.backward c.var-solver.result ≡ Some x = ap (λ m. at m c.var-solver.result) (sym c.global_from_solver.ensures)
    ∙ sym c.get.ensures ∙ c.unwrap-global.ensures in
    ap (λ (d : VarData). d.deleted)
    (c.set_unit.ensures.kept.at_each x ∙ updated-at (data_at t.kept) x (record (data_at t.kept x) { unit = Some c.is_positive.result }))
    ∙ c.prove_linked.ensures.taken x c.var-solver.result (c.prove_linked.ensures.solvers.back x c.var-solver.result e)

pub loop-lit-preserved : goal.loop-lit-preserved
loop-lit-preserved g c =
    let ls = c.args.lits.now in
    let l = c.lit-item.result in
    let d = take c.loop-lit.lit-index ls in
    let t = take-item ls c.loop-lit.lit-index l c.loop-lit-test.true c.lit-item.is in
    let first = tracer_state c.args.tracer.now in
    let before = tracer_state c.loop-lit.tracer in
    let last = tracer_state c.detach_solver_var.new.tracer in
    let mid = c.loop-lit.tracer.tables in
    let e : at mid.solvers.backward c.var-solver.result ≡ Some c.unwrap-global.result =
    ap (λ m. at m c.var-solver.result) (sym c.global_from_solver.ensures) ∙ sym c.get.ensures ∙ c.unwrap-global.ensures in
    let x = c.unwrap-global.result in
    let set = c.set_unit.new.self in
    let marked = c.set_isolated.new.self in
    let known = record (data_at mid.kept x) { unit = Some c.is_positive.result } in
    let sign : c.is_positive.result ≡ polarity_of l = sign-same l c.is_positive.result c.is_positive.ensures in
    let logged = ap (λ (d : VarData). record d { isolated = true }) (c.set_unit.ensures.kept.at_each x ∙ updated-at (data_at mid.kept) x known)
    ∙ ap (λ b. fixed_to b (data_at mid.kept x)) sign in
    let changed : IsChangedTo mid marked x (fixed_to (polarity_of l) (data_at mid.kept x)) =
    changed-twice mid set marked x known (fixed_to (polarity_of l) (data_at mid.kept x)) c.set_unit.ensures
    (subst (IsChangedTo set marked x) logged c.set_isolated.ensures) in
    let (y, loses) = c.in_ok-detach_solver_var.ensures.dropped in
    let q : y ≡ x = (let z : Some y ≡ Some x = sym loses.dropped.taken
    ∙ ap (λ (b : BiMap). at b.backward c.var-solver.result) (ap (λ (a : Tables). a.solvers) changed.rest) ∙ e in cc) in
    let one : IsDetachedAlone l before last = (
      x,
      marked,
      changed,
      subst (λ x. LosesSolverVar x (variable_of l) (record before { tables = marked }) last) q
          (subst (λ v. LosesSolverVar y v (record before { tables = marked }) last) c.var-solver.ensures loses),
    ) in
    let (a, b, same) = c.loop-lit.invariant in
    subst (λ ks. AreDetachedAlone ks first last × DetachesFromTables ks first.tables last.tables × (open_parts last.proof ≡ open_parts first.proof)) (sym t) (
      dropped-push d l first before last a one,
      leaves-then d l first.tables mid last.tables b (leaves-one l before last c.prove_linked.ensures one),
      c.detach_solver_var.ensures.opened ∙ same,
    )
