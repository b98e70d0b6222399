use Rattle.std.proofs.Common.{◌≡◌, true, map, take}
use Rattle.varisat_theory.specs.promises.Membership.{IsDistinct}
use Rattle.varisat_theory.specs.promises.Literals.{variable_of}
use Rattle.varisat_rules.specs.inside.Noting.{NotesPositions}
use Rattle.varisat_simplify.proofs.normal.is_normal.Given as goal

abbrev pub invariant-loop-index : goal.invariant-loop-index
invariant-loop-index g l =
    IsDistinct (map variable_of (take l.index l.clause)) × (l.is_noted ≡ true → NotesPositions l.names l.positions (take l.index l.clause))
