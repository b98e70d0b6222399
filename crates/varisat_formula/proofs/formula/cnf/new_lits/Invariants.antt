use Rattle.std.proofs.Common.{◌≡◌, take, map, length, true}
use Rattle.varisat_theory.specs.promises.Literals.{literal_of}
use Rattle.varisat_formula.proofs.formula.cnf.new_lits.Given as goal

abbrev pub invariant-loop-i : goal.invariant-loop-i
invariant-loop-i g l = record {
  lits : take l.i l.lits ≡ map (λ v. literal_of v true) (take l.i l.vars);
  whole : length l.lits ≡ g.row.N;
}
