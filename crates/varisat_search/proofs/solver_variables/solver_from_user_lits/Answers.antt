use Rattle.std.proofs.lemmas.Grind.{common_steps}
-- One more literal's name has a solver variable.
use Rattle.std.proofs.Common.{◌≡◌, ◌++◌, ◌∷◌, [], ◌+◌, sym, ap, ◌∙◌, subst, take, drop, refl, arith}
use Rattle.std.proofs.lemmas.List.{take_more}
use Rattle.varisat_theory.specs.promises.Literals.{variable_of, literal_of}
use Rattle.varisat_names.specs.promises.Maps.{chain}
use Rattle.varisat_names.specs.promises.VarMap.{at}
use Rattle.varisat_names.specs.promises.Variables.{IsNamed}
use Rattle.varisat_search.specs.SolverVariables.{HasRoomFor, Searched, NameHasSolver, HaveSolversInTurn, AreOver}
use Rattle.varisat_search.proofs.variables.SolverVariables.{solver-here, solver-stays, room-left, in-turn-push, over-more, over-push, sign-is, drop-item}
use Rattle.varisat_search.proofs.solver_variables.solver_from_user_lits.Goals as goal

pub solver_from_user-requires-clause-room : goal.solver_from_user-requires-clause-room
solver_from_user-requires-clause-room g c mid n =
    let l = c.lit-item.result in
    let list = c.args.user_lits.now in
    let i = c.loop-lit.lit-index in
    let room = subst (λ ls. HasRoomFor ls c.loop-lit.variables) (drop-item list i l c.loop-lit-test.true c.lit-item.is) c.loop-lit.invariant.room in
    (room.1 mid mid (subst (λ u. IsNamed u c.loop-lit.variables mid) c.var.ensures n) refl refl).0

pub loop-lit-preserved : goal.loop-lit-preserved
loop-lit-preserved g c =
    let l = c.lit-item.result in
    let list = c.args.user_lits.now in
    let i = c.loop-lit.lit-index in
    let v = c.in_ok-solver.solver in
    let old : Searched g.row.A.Denot = record { tables = c.args.variables.now; context = c.args.ctx.now } in
    let now : Searched g.row.A.Denot = record { tables = c.loop-lit.variables; context = c.loop-lit.ctx } in
    let new : Searched g.row.A.Denot = record { tables = c.solver_from_user.new.variables; context = c.solver_from_user.new.ctx } in
    let to = chain (at c.loop-lit.variables.users.forward) (at c.loop-lit.variables.solvers.forward) in
    let to-new = chain (at c.solver_from_user.new.variables.users.forward) (at c.solver_from_user.new.variables.solvers.forward) in
    let k = c.loop-lit.invariant in
    let named = subst (λ u. NameHasSolver u now new v) c.var.ensures (c.in_ok-solver.ensures {u = tt}).solver in
    let t : take (i + 1) list ≡ take i list ++ l ∷ [] = take_more list i l c.loop-lit-test.true ∙ ap (λ x. take i list ++ x ∷ []) (sym c.lit-item.is) in
    let pushed = c.in_ok-push.ensures.items ∙ ap (λ x. c.loop-lit.solver_lits.items ++ x ∷ [])
    (c.lit.ensures ∙ ap (literal_of v) (sign-is c.is_positive.result l c.is_positive.ensures)) in
    record {
      variables = named.variables;
      room = room-left (variable_of l) now new v named l (drop (i + 1) list) refl
          (subst (λ ls. HasRoomFor ls c.loop-lit.variables) (drop-item list i l c.loop-lit-test.true c.lit-item.is) k.room);
      in_turn = subst (λ ls. HaveSolversInTurn ls old new) (sym t) (in-turn-push (take i list) old now new l v k.in_turn named);
      literals = subst (λ ls. AreOver to-new ls c.push.new.self.items) (sym t)
          (subst (AreOver to-new (take i list ++ l ∷ [])) (sym pushed)
          (over-push to-new (take i list) c.loop-lit.solver_lits.items l v
          (over-more to to-new (solver-stays (variable_of l) now new v named) (take i list) c.loop-lit.solver_lits.items k.literals)
          (solver-here (variable_of l) now new v named)));
      schedule = record {
        schedule = c.solver_from_user.ensures.schedule.schedule ∙ k.schedule.schedule;
        solver_config = c.solver_from_user.ensures.schedule.solver_config ∙ k.schedule.solver_config;
      };
    }

pub solver_from_user-requires-clause-in_range : goal.solver_from_user-requires-clause-in_range
solver_from_user-requires-clause-in_range g c = grind (arith, common_steps)

pub returns-clause-in_turn : goal.returns-clause-in_turn
returns-clause-in_turn g c = grind (arith, common_steps)

pub returns-clause-literals : goal.returns-clause-literals
returns-clause-literals g c = grind (arith, common_steps)
