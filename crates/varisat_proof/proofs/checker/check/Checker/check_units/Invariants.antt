use Rattle.std.proofs.Common.{◌≡◌, take, false}
use Rattle.varisat_theory.specs.promises.Derivations.{Derives}
use Rattle.varisat_theory.specs.inside.StepLaws.{unit_lines}
use Rattle.varisat_proof.proofs.checker.check.Checker.check_units.Given as goal

abbrev pub invariant-loop-i : goal.invariant-loop-i
invariant-loop-i g l = record {
  derives : Derives l.fn.self.clauses (unit_lines (take l.i l.units)) l.self.clauses;
  usable : l.self.spent ≡ false;
}
