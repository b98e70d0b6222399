use Rattle.std.proofs.Common.{◌≡◌, ◌++◌, take}
use Rattle.varisat_formula.specs.promises.Written.{spaced_literals}
use Rattle.varisat_lines.specs.promises.Written.{mark_text}
use Rattle.varisat_lines.proofs.writer.push_text.Given as goal

abbrev pub invariant-loop-literal : goal.invariant-loop-literal
invariant-loop-literal g l = l.buffer.items ≡ mark_text l.fn.kind ++ spaced_literals (take l.literal-index l.clause)
