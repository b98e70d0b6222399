use Rattle.std.proofs.Common.{◌≡◌, ◌-◌, None, false, length, not, refl, sym, ap, subst}
use Rattle.varisat_search.specs.declared.state.SolverState.{SolverState}
use Rattle.varisat_search.specs.AssumptionParts.{no_assumptions}
use Rattle.varisat_search.specs.Contexts.{view}
use Rattle.varisat_schedule.specs.Plans.{Plan, IsPlan}
use Rattle.varisat_schedule.proofs.RestartPlans.{first-is}
use Rattle.varisat_names.specs.promises.Variables.{Tables, no_variables}
use Rattle.varisat_search.specs.declared.context.Context.{Context}
use Rattle.varisat_search.specs.declared.state.SatState.TheVariants as verdict
use Rattle.varisat_search.specs.Seen.{search_of, first_search}
use Rattle.varisat_clause.specs.Stores.{Store}
use Rattle.varisat_tracer.specs.inside.Tracing.{CanLog}
use Rattle.varisat_solver.specs.promises.States.{empty_state}
use Rattle.varisat_solver.specs.inside.Spaces.{SpacesFit}
use Rattle.varisat_solver.specs.inside.Representations.{spaces_of, spaces_with, RepresentsSome}
use Rattle.varisat_proof.specs.promises.Proving.{ProofParts, is_there}
use Rattle.varisat_solver.proofs.calls.CallStates.{ledger-is}
use Rattle.varisat_solver.proofs.calls.SolverCalls.{first-spaces, first-kept}
use Rattle.varisat_solver.proofs.steps.SinceSteps.{since-now}
use Rattle.varisat_solver.proofs.solver.Solver.new_in.Goals as goal

-- a new solver represents the empty state
begun : {A : Type 0} (t : Tables) (p : ProofParts) (x : Context A) → t ≡ no_variables → p ≡ record { opened = None; checker = None } →
    x.assumptions ≡ no_assumptions → x.solver_state.sat_state ≡ verdict.Unknown → search_of (view x) ≡ first_search →
    length x.assignment.current ≡ 0 → RepresentsSome (spaces_with t p.checker x) false
begun t p x tables proof assumed unknown seen empty = (
  empty_state,
  subst (λ (o : ProofParts). SpacesFit (spaces_of t o.checker (view x) x.assumptions x.solver_state.sat_state) empty_state) (sym proof)
      (subst (λ t. SpacesFit (spaces_of t None (view x) x.assumptions x.solver_state.sat_state) empty_state) (sym tables)
      (subst (λ a. SpacesFit (spaces_of no_variables None (view x) a x.solver_state.sat_state) empty_state) (sym assumed)
      (subst (λ b. SpacesFit (spaces_of no_variables None (view x) no_assumptions b) empty_state) (sym unknown) (first-spaces (view x) seen empty)))),
  λ e. (refl, refl),
)

pub returns : goal.returns
unfolding begun
returns g c =
    let s = c.new_in.ensures.state in
    record {
      ledger = ledger-is _ _ _ _ _ _ _ (ap (λ (x : SolverState). not x.state_is_invalid) (sym s)) refl
          (ap (λ (x : Plan). x.steps) (sym c.new_in.ensures.schedule)) (ap (λ (x : Plan). x.steps - 0) (sym c.new_in.ensures.schedule))
          (sym c.new_in.ensures.config) (ap (λ (p : ProofParts). is_there p.checker) (sym c.new_in-2.ensures.proof));
      fits = λ _. (begun c.new_in-2.result.tables c.new_in-2.result.proof c.new_in.result c.new_in-2.ensures.variables c.new_in-2.ensures.proof
          c.new_in.ensures.assumptions (ap (λ (x : SolverState). x.sat_state) c.new_in.ensures.state) c.new_in.ensures.seen c.new_in.ensures.empty).1;
      words = ap (λ (x : Store). length x.words) (sym c.new_in.ensures.unstored);
      same = ap (λ (p : ProofParts). p.opened) c.new_in-2.ensures.proof;
      written = λ _. tt;
      flags = λ _. record { clauses = λ e. refl; assumptions = λ e. refl; counted = λ e. refl; unlisted = λ e. refl; unassumed = λ (p, e, b). absurd cc };
      bounded = λ _.
          let e = c.new_in.ensures in
          (first-kept c.new_in-2.result.tables c.new_in.result c.new_in-2.ensures.variables e.ready e.empty e.assumptions e.none_decidable).bounded;
    }

pub invariant_of-result : goal.invariant_of-result
invariant_of-result g c _ =
    let e = c.new_in.ensures in
    record {
      kept = first-kept c.new_in-2.result.tables c.new_in.result c.new_in-2.ensures.variables e.ready e.empty e.assumptions e.none_decidable;
      logs = subst CanLog (sym c.new_in-2.ensures.proof) (record { room = tt; usable = tt });
      represents = begun c.new_in-2.result.tables c.new_in-2.result.proof c.new_in.result c.new_in-2.ensures.variables c.new_in-2.ensures.proof
          c.new_in.ensures.assumptions (ap (λ (x : SolverState). x.sat_state) c.new_in.ensures.state) c.new_in.ensures.seen c.new_in.ensures.empty;
      counts = since-now 0 c.new_in.result (ap (λ (x : Plan). x.steps) (sym e.schedule)) e.ready (subst IsPlan (sym e.schedule) first-is);
    }
