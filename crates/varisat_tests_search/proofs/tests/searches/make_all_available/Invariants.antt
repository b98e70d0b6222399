use Rattle.std.proofs.Common.{◌<◌, take, length}
use Rattle.varisat_theory.specs.promises.Membership.{◌∈◌}
use Rattle.varisat_theory.specs.promises.Literals.{Literal, variable_of}
use Rattle.varisat_search.specs.Contexts.{view, IsReady}
use Rattle.varisat_search.specs.Decisions.{AreDecidable}
use Rattle.varisat_tests_search.proofs.tests.searches.make_all_available.Given as goal

abbrev pub invariant-loop-lit : goal.invariant-loop-lit
invariant-loop-lit g l =
    record {
      ready : IsReady l.ctx;
      known : (m : Literal) → m ∈ take l.lit-index l.lits → variable_of m < length l.ctx.assignment.current;
      decidable : AreDecidable (view l.ctx) l.ctx.vsids (take l.lit-index l.lits);
    }
