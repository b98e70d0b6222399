use Rattle.std.proofs.Common.{◌≡◌, take, length, Ok}
use Rattle.std.specs.List.{FoldsTo}
use Rattle.varisat_formula.proofs.formula.cnf.new_vars.Given as goal

abbrev pub invariant-loop-i : goal.invariant-loop-i
invariant-loop-i g l = record {
  made : FoldsTo (λ s v t. g.F.ExtendFormula.makes_var s (Ok v) t) l.fn.formula (take l.i l.vars) l.formula;
  whole : length l.vars ≡ g.row.N;
}
