-- The search speaks of no literal over the variable.
use Rattle.std.proofs.Common.{◌≡◌, Bool, Option, MatchOption, inl, inr, sym, ap, ◌∙◌, subst}
use Rattle.varisat_theory.specs.promises.Membership.{◌∈◌}
use Rattle.varisat_theory.specs.promises.Literals.{variable_of, opposite, literal_of}
use Rattle.varisat_theory.specs.promises.Searches.{Search}
use Rattle.varisat_theory.proofs.clauses.Values.{variable-opposite, variable-literal}
use Rattle.varisat_search.specs.declared.context.Context.{Context}
use Rattle.varisat_search.specs.declared.state.SolverState.{SolverState}
use Rattle.varisat_search.specs.AssumptionParts.{AssumptionParts}
use Rattle.varisat_search.specs.SolverVariables.{KeepsSeen, HasUnitAgain}
use Rattle.varisat_search.specs.Contexts.{view}
use Rattle.varisat_search.specs.Seen.{search_of}
use Rattle.varisat_search.proofs.variables.SolverVariables.{kept-literal, unit-over}
use Rattle.varisat_search.proofs.solver_variables.initialize_solver_var.Given.{Over}
use Rattle.varisat_search.proofs.solver_variables.initialize_solver_var.Goals.{After-lit}
use Rattle.varisat_search.proofs.solver_variables.initialize_solver_var.Goals as goal

-- a proof sees the search as it was
seen : (g : Over) (c : After-lit g) → search_of (view c.make_available.new.ctx) ≡ search_of (view c.args.ctx.now)
seen g c = ap (λ (x : Context g.row.A.Denot). search_of (view x)) c.make_available.ensures.available

same : (g : Over) (c : After-lit g) → variable_of c.lit.result ≡ c.args.solver
same g c = ap variable_of c.lit.ensures ∙ variable-literal c.args.solver c.in-Some.value

pub resurrect_unit-requires-clause-unopposed : goal.resurrect_unit-requires-clause-unopposed
resurrect_unit-requires-clause-unopposed g c h =
    let here = (goal.at.resurrect_unit-requires-clause-unopposed g c).After-lit in
    c.requires.unmentioned (opposite c.lit.result) (inl (subst (λ (s : Search). opposite c.lit.result ∈ s.fixed) (seen g here) h))
    (variable-opposite c.lit.result ∙ same g here)

pub resurrect_unit-requires-clause-unmentioned : goal.resurrect_unit-requires-clause-unmentioned
resurrect_unit-requires-clause-unmentioned g c d h m i e =
    let here = (goal.at.resurrect_unit-requires-clause-unmentioned g c).After-lit in
    let (k, j, q) = kept-literal (view c.make_available.new.ctx) d m h i in
    c.requires.unmentioned m (inr (k, subst (λ (s : Search). k ∈ s.kept) (seen g here) j, q)) (e ∙ same g here)

pub returns-clause-unit : goal.returns-clause-unit
returns-clause-unit g c =
    let x = c.args.ctx.now in
    let y = c.make_available.new.ctx in
    let z = c.resurrect_unit.new.ctx in
    let e = c.in_ok-resurrect_unit.ensures in
    let state : (q : Context g.row.A.Denot) → SolverState = λ q. q.solver_state in
    let list : (q : Context g.row.A.Denot) → AssumptionParts = λ q. q.assumptions in
    let again : HasUnitAgain c.lit.result y z = record {
      unsat = λ u. let q = e.unsat u in record { seen = ap (λ (w : Context g.row.A.Denot). search_of (view w)) q; state = ap state q; assumptions = ap list q };
      lines = e.lines;
      state = e.state;
      assumptions = e.assumptions;
    } in
    let whole = unit-over x y z _ c.lit.result c.make_available.ensures.available again in
    subst (λ (o : Option Bool). MatchOption o (KeepsSeen x z) (λ b. HasUnitAgain (literal_of c.args.solver b) x z)) (sym c.in-Some.is)
    (subst (λ l. HasUnitAgain l x z) c.lit.ensures whole)
