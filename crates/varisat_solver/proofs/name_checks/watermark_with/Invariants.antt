use Rattle.std.proofs.Common.{◌≡◌, take}
use Rattle.varisat_solver.specs.promises.Names.{name_all}
use Rattle.varisat_solver.specs.inside.Accepting.{naming_of}
use Rattle.varisat_solver.proofs.name_checks.watermark_with.Given as goal

abbrev pub invariant-loop-lit : goal.invariant-loop-lit
invariant-loop-lit g l = l.watermark ≡ (name_all (take l.lit-index l.clause) (naming_of l.variables)).watermark
