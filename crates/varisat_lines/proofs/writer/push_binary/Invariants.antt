use Rattle.std.proofs.Common.{◌≡◌, ◌∷◌, take}
use Rattle.varisat_lines.specs.promises.Written.{codes_bytes}
use Rattle.varisat_lines.specs.promises.Lines.{letter}
use Rattle.varisat_lines.proofs.writer.push_binary.Given as goal

abbrev pub invariant-loop-literal : goal.invariant-loop-literal
invariant-loop-literal g l = l.buffer.items ≡ letter l.fn.kind ∷ codes_bytes (take l.literal-index l.clause)
