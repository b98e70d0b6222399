-- The variables so far are written.
use Rattle.std.proofs.Common.{◌∷◌, flat_map, take}
use Rattle.std.specs.Io.KnownBytes.{Appends}
use Rattle.varisat_literals.specs.promises.Numbers.{variable_text}
use Rattle.varisat.proofs.line.write_variables.Given as goal

abbrev pub invariant-loop-variable : goal.invariant-loop-variable
invariant-loop-variable g l =
    Appends (g.W.Write.contents l.fn.out) (g.W.Write.contents l.out) (flat_map (λ n. 32 ∷ variable_text n) (take l.variable-index l.variables))
