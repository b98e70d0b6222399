use Rattle.std.proofs.Common.{◌≡◌, take}
use Rattle.varisat_simplify.specs.promises.Simplified.{formula_over}
use Rattle.varisat_simplify.proofs.simplify.unload_first.Given as goal

abbrev pub invariant-loop-place : goal.invariant-loop-place
invariant-loop-place g l = l.formula ≡ formula_over l.db.var_count (take l.place l.db.clauses)
