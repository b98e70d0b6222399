use Rattle.std.proofs.Common.{◌≡◌, MatchOption, take}
use Rattle.varisat_solver.specs.promises.Names.{name_all, NameNoWitness, IsFirstWitness}
use Rattle.varisat_solver.specs.inside.Accepting.{naming_of}
use Rattle.varisat_solver.proofs.name_checks.scan_names.Given as goal

abbrev pub invariant-loop-lit : goal.invariant-loop-lit
invariant-loop-lit g l = record {
  watermark : l.watermark ≡ (name_all (take l.lit-index l.clause) (naming_of l.variables)).watermark;
  witness : MatchOption l.first (NameNoWitness (naming_of l.variables) (take l.lit-index l.clause))
      (IsFirstWitness (naming_of l.variables) (take l.lit-index l.clause));
}
