use Rattle.std.proofs.Common.{take}
use Rattle.varisat_theory.specs.promises.Membership.{◌∈◌}
use Rattle.varisat_theory.specs.promises.Literals.{Literal}
use Rattle.varisat_rules.specs.inside.Deriving.{IsInLive}
use Rattle.varisat_rules.proofs.derive.are_among.Given as goal

abbrev pub invariant-loop-lit : goal.invariant-loop-lit
invariant-loop-lit g l = (m : Literal) → m ∈ take l.lit-index l.clause → IsInLive l.db m
