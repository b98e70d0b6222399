-- The literals so far are written.
use Rattle.std.proofs.Common.{◌∷◌, flat_map, take}
use Rattle.std.specs.Io.KnownBytes.{Appends}
use Rattle.varisat_literals.specs.promises.Numbers.{literal_text}
use Rattle.varisat.proofs.line.write_literals.Given as goal

abbrev pub invariant-loop-literal : goal.invariant-loop-literal
invariant-loop-literal g l =
    Appends (g.W.Write.contents l.fn.out) (g.W.Write.contents l.out) (flat_map (λ n. 32 ∷ literal_text n) (take l.literal-index l.literals))
