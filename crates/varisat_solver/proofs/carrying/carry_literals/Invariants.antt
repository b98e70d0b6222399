use Rattle.std.proofs.Common.{◌≡◌, map, take}
use Rattle.varisat_names.specs.promises.Maps.{chain}
use Rattle.varisat_names.specs.promises.VarMap.{at}
use Rattle.varisat_tracer.specs.promises.Carried.{carry}
use Rattle.varisat_solver.proofs.carrying.carry_literals.Given as goal

abbrev pub invariant-loop-lit : goal.invariant-loop-lit
invariant-loop-lit g l = l.carried.items ≡ map (carry (chain (at l.first) (at l.second))) (take l.lit-index l.lits)
