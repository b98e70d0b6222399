-- What a search keeps once assumptions fail.
use Rattle.std.specs.Prelude.{◌≡◌}
use Rattle.varisat_search.specs.declared.context.Context.{Context}
use Rattle.varisat_search.specs.declared.state.SatState.TheVariants as verdict
use Rattle.varisat_search.specs.AssumptionParts.{HasFailed}
use Rattle.varisat_search.specs.Contexts.{view}

-- Under this verdict some assumption is false, and the core is that one and those to which the reasons of its opposite lead back.
abbrev pub HasCoreIfFailed : {A : Type 0} → Context A → Type 0
HasCoreIfFailed x = x.solver_state.sat_state ≡ verdict.UnsatUnderAssumptions → HasFailed (view x) x.assumptions
