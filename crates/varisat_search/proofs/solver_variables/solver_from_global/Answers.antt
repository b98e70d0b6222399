use Rattle.std.proofs.lemmas.Grind.{common_steps}
-- The variable took a solver variable, which the search has.
use Rattle.std.proofs.Common.{◌≡◌, Some, None, List, sym, ap, ◌∙◌, subst, arith}
use Rattle.varisat_theory.specs.promises.Searches.{IsLiteralOf}
use Rattle.varisat_names.specs.promises.VarMap.{at}
use Rattle.varisat_names.specs.promises.VarData.{data_at}
use Rattle.varisat_names.specs.declared.variables.data.VarData.{VarData}
use Rattle.varisat_search.specs.declared.context.Context.{Context}
use Rattle.varisat_search.specs.Contexts.{view}
use Rattle.varisat_search.proofs.variables.SolverVariables.{taken-decidable, taken-small, taken-room, in-use-all, solver-case}
use Rattle.varisat_search.proofs.solver_variables.solver_from_global.Goals as goal

pub set_var_count-requires : goal.set_var_count-requires
set_var_count-requires g c =
    let k = c.requires.variables in
    let s = taken-small c.args.variables.now c.take_solver_var.new.self c.args.global c.in_ok-solver.solver c.prove_linked.ensures k.room k.solvers
    c.in_ok-solver.ensures.taken in
    let w = c.in_ok-solver.ensures.taken.solvers.backward.watermark in
    record { ready = k.ready; raised = omega (arith, k.count, w, c.solver_watermark.ensures); small = omega (arith, s, c.solver_watermark.ensures) }

pub initialize_solver_var-requires-clause-unmentioned : goal.initialize_solver_var-requires-clause-unmentioned
initialize_solver_var-requires-clause-unmentioned g c l h e =
    let k = c.requires.variables in
    let old = c.args.ctx.now in
    let m = c.args.variables.now in
    let (y, q) = in-use-all m (view old) old.vsids k.decidable k.ready.decidable k.ready.well l
    (subst (λ s. IsLiteralOf s l) (c.in_ok-set_var_count.ensures {u = tt}).raised.seen h) in
    let z : None ≡ Some y = sym c.in_ok-solver.ensures.taken.least.0 ∙ ap (at m.solvers.backward) (sym e) ∙ q in
    cc

pub returns-clause-variables : goal.returns-clause-variables
returns-clause-variables g c =
    let k = c.requires.variables in
    let m = c.args.variables.now in
    let n = c.take_solver_var.new.self in
    let v = c.in_ok-solver.solver in
    let old = c.args.ctx.now in
    let mid = c.set_var_count.new.ctx in
    let new = c.initialize_solver_var.new.ctx in
    let t = c.in_ok-solver.ensures.taken in
    let e = c.in_ok-set_var_count.ensures {u = tt} in
    let i = c.in_ok-initialize_solver_var.ensures {u = tt} in
    record {
      room = taken-room m n c.args.global v k.room t;
      solvers = taken-small m n c.args.global v c.prove_linked.ensures k.room k.solvers t;
      ready = i.ready;
      count = i.others.count ∙ e.raised.count ∙ c.solver_watermark.ensures;
      decidable = taken-decidable m n c.args.global v (view old) old.vsids (view mid) mid.vsids (view new) new.vsids t k.decidable e.added.decidable
          i.decidable i.others.decidable;
    }

pub returns-clause-solver : goal.returns-clause-solver
returns-clause-solver g c =
    let m = c.args.variables.now in
    let n = c.take_solver_var.new.self in
    let t = c.in_ok-solver.ensures.taken in
    let x = c.args.global in
    let left : at m.solvers.forward x ≡ None = ap (λ b. at b x) (sym c.solver_from_global.ensures) ∙ sym c.get.ensures ∙ c.in_default.is in
    let same = ap (λ (ds : List VarData). data_at ds x) (sym t.kept) ∙ sym c.var_data_global-unit.ensures in
    solver-case x c.in_ok-solver.solver m n c.args.ctx.now c.set_var_count.new.ctx c.initialize_solver_var.new.ctx c.var_data_global-unit.result.unit left t
    (ap (λ (d : VarData). d.unit) same)
    (record {
      seen = (c.in_ok-set_var_count.ensures {u = tt}).raised.seen;
      state = ap (λ (y : Context g.row.A.Denot). y.solver_state) c.set_var_count.ensures.frame;
      assumptions = ap (λ (y : Context g.row.A.Denot). y.assumptions) c.set_var_count.ensures.frame;
    })
    (c.in_ok-initialize_solver_var.ensures {u = tt}).unit

pub var_data_global-unit-requires : goal.var_data_global-unit-requires
var_data_global-unit-requires g c = grind (arith, common_steps)
