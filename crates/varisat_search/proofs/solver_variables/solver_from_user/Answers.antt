-- The name was named, and its global variable is live.
use Rattle.varisat_search.proofs.variables.SolverVariables.{has-named}
use Rattle.varisat_search.proofs.solver_variables.solver_from_user.Goals as goal

pub solver_from_global-requires-clause-variables : goal.solver_from_global-requires-clause-variables
solver_from_global-requires-clause-variables g c =
    let n = c.in_ok-global.ensures.named in
    has-named c.args.user c.args.variables.now c.global_from_user.new.variables c.args.ctx.now c.requires.variables n
    (c.requires.room c.global_from_user.new.variables n)

pub solver_from_global-requires-clause-live : goal.solver_from_global-requires-clause-live
solver_from_global-requires-clause-live g c = c.prove_linked.ensures.named c.in_ok-global.global c.args.user
    (c.prove_linked.ensures.users.there c.args.user c.in_ok-global.global c.in_ok-global.ensures.leads)

pub returns-clause-solver : goal.returns-clause-solver
returns-clause-solver g c =
    let e = c.in_ok-solver.ensures {u = tt} in
    record {
      mid = c.global_from_user.new.variables;
      global = c.in_ok-global.global;
      named = c.in_ok-global.ensures.named;
      leads = c.in_ok-global.ensures.leads;
      live = c.prove_linked.ensures.named c.in_ok-global.global c.args.user
          (c.prove_linked.ensures.users.there c.args.user c.in_ok-global.global c.in_ok-global.ensures.leads);
      solver = e.solver;
      linked = c.prove_linked-2.ensures;
      variables = e.variables;
    }
